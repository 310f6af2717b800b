-- What are the parts of a def map besides scopes?
use Rattle.std.specs.Prelude.{ℕ, List, [], Option, Bool, false, nat_eq}
use Rattle.std.specs.Ordering.{nat_cmp}
use Rattle.std.specs.Cmp.Lexicographic.{pointwise, slice_cmp}
use Rattle.std.specs.BTreeMap.{is_at, insert_entry}
use Rattle.std.specs.Map.{lookup}
use Rattle.indexmap.specs.IndexMap.{insert_entry as insert_last}
use Rattle.hir_ids.specs.declared.ids.Crate.{Crate}
use Rattle.hir_ids.specs.declared.edition.Edition.{Edition}
use Rattle.hir_ids.specs.declared.ids.ExternCrateId.{ExternCrateId}
use Rattle.hir_ids.specs.declared.ids.ModuleId.{ModuleId}
use Rattle.hir_map_parts.specs.declared.enum_variants.EnumVariant.{EnumVariant}

-- the crate-level attributes of a crate, and its transitive dependencies; its blocks have the same
pub record CrateData : Type 0 where
  pub edition : Edition
  -- the tools whose attributes are inert, in the order in which they were registered
  pub registered_tools : List (List ℕ)
  -- the unstable features, by name
  pub features : List (List ℕ)
  pub rustc_coherence_is_core : Bool
  pub no_core : Bool
  pub no_std : Bool
  -- how deep calls of macros may be nested
  pub recursion_limit : ℕ
  -- the transitive dependencies, in ascending order
  pub dependencies : List Crate

-- the data of a crate without crate-level attributes and dependencies
abbrev pub new_data : Edition → CrateData
new_data edition = record {
  edition = edition;
  registered_tools = [];
  features = [];
  rustc_coherence_is_core = false;
  no_core = false;
  no_std = false;
  recursion_limit = 128;
  dependencies = [];
}

-- an enum's variants by name; of two with one name the later
abbrev pub Variants : Type 0
Variants = List (List ℕ × EnumVariant)

-- the name of a macro, of a procedural one that under which it is exported, and the attributes that deriving with it brings
pub record MacroDataValue : Type 0 where
  pub name : List ℕ
  pub helpers : List (List ℕ)

-- the crates that a path may begin with, and the `extern crate` that names each, if one does
abbrev pub Local : Type 0
Local = List (List ℕ × (ModuleId × Option ExternCrateId))

-- the crates once a name stands for a module: a new name comes last, one that is there stays in its place
abbrev pub with_extern : Local → List ℕ → (ModuleId × Option ExternCrateId) → Local
with_extern local name entry = insert_last (pointwise nat_eq) local name entry

-- what stands beside a name in a list by names
abbrev pub at_name : {V : Type 0} → List (List ℕ × V) → List ℕ → Option V
at_name entries name = lookup (is_at (slice_cmp nat_cmp name)) entries

-- the list with a value at a name, in the order of names
abbrev pub with_name : {V : Type 0} → List (List ℕ × V) → List ℕ → V → List (List ℕ × V)
with_name entries name value = insert_entry (slice_cmp nat_cmp) entries name value
