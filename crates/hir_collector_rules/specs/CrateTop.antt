-- What does a crate's top say?
use Rattle.std.specs.Prelude.{ℕ, Bool, ◌==◌, ◌^◌, ◌&&◌, not, nat_lt, List, [], ◌∷◌, ◌++◌, length, codes, Option, Some, None, unwrap_or, if◌then◌else◌}
use Rattle.std.specs.List.{list_any}
use Rattle.std.specs.Ordering.{nat_cmp}
use Rattle.std.specs.Cmp.Lexicographic.{slice_cmp}
use Rattle.std.specs.BTreeSet.{insert_key}
use Rattle.std.specs.Str.{all_ascii_digits}
use Rattle.std.specs.Str.Parse.{digits_value, without_leading_plus}
use Rattle.hir_nameres.specs.HirBase.ModPath.{Path}
use Rattle.hir_nameres.specs.HirIds.declared.ids.Crate.{Crate}
use Rattle.hir_nameres.specs.HirIds.declared.edition.Edition.{Edition}
use Rattle.hir_nameres.specs.HirBase.declared.mod_path.PathKind.{PathKind}
use Rattle.hir_nameres.specs.HirBase.declared.mod_path.PathKind.TheVariants as roots
use Rattle.hir_item_tree.specs.AttrQuery.{is_ident}
use Rattle.hir_item_tree.specs.Attributes.{paths, tokens, derive, Input, literal, parentheses}
use Rattle.hir_item_tree.specs.Collected.{Numbered}
use Rattle.hir_nameres.specs.HirDefMapRules.State.{CrateData}

-- whether an attribute's path is this name alone
abbrev pub is_keyed : List ℕ → Numbered → Bool
is_keyed key a = is_ident a.meta.path.kind a.meta.path.segments key

-- whether there is an attribute of this name
abbrev pub says : List ℕ → List Numbered → Bool
says key attributes = list_any (is_keyed key) attributes

-- ---- the limit

-- the number of 32 bits that digits write, perhaps behind a plus
abbrev pub number_in : List ℕ → Option ℕ
number_in digits =
    if not (length digits == 0) && all_ascii_digits digits && nat_lt (digits_value 10 digits) (2 ^ 32)
    then Some (digits_value 10 digits) else None

abbrev pub limit_in : Option Input → Option ℕ
limit_in None = None
limit_in (Some (literal text)) = number_in (without_leading_plus text)
limit_in (Some (parentheses t)) = None

-- the limit that an attribute gives, or else the one before
abbrev pub limit_by : ℕ → Numbered → ℕ
limit_by before a = if is_keyed (codes "recursion_limit") a then unwrap_or (limit_in a.meta.input) before else before

-- the last limit that can be read, or else the one before
abbrev pub limit_after : ℕ → List Numbered → ℕ
limit_after before [] = before
limit_after before (a ∷ rest) = limit_after (limit_by before a) rest

-- ---- lists of names

-- the name that a path is alone
abbrev pub name_alone : PathKind → List (List ℕ) → List (List ℕ)
name_alone roots.Plain (name ∷ []) = name ∷ []
name_alone roots.Plain [] = []
name_alone roots.Plain (name ∷ (next ∷ rest)) = []
name_alone (roots.Super levels) segments = []
name_alone roots.Crate segments = []
name_alone roots.Abs segments = []
name_alone (roots.DollarCrate krate) segments = []

-- the paths that are names alone
abbrev pub names_among : List Path → List (List ℕ)
names_among [] = []
names_among (p ∷ rest) = name_alone p.kind p.segments ++ names_among rest

abbrev pub names_in : Option Input → List (List ℕ)
names_in None = []
names_in (Some (literal text)) = []
names_in (Some (parentheses (paths ps))) = names_among ps
names_in (Some (parentheses (tokens text))) = []
names_in (Some (parentheses (derive name helpers))) = []

-- the names that the attributes of a key list
abbrev pub listed_under : List ℕ → List Numbered → List (List ℕ)
listed_under key [] = []
listed_under key (a ∷ rest) = (if is_keyed key a then names_in a.meta.input else []) ++ listed_under key rest

-- the names in their order, each once
abbrev pub with_names : List (List ℕ) → List (List ℕ) → List (List ℕ)
with_names before [] = before
with_names before (name ∷ rest) = with_names (insert_key (slice_cmp nat_cmp) before name) rest

-- the tools whose attributes are inert in each crate
abbrev pub builtin_tools : List (List ℕ)
builtin_tools = codes "clippy" ∷ codes "rustfmt" ∷ codes "diagnostic" ∷ codes "miri" ∷ codes "rust_analyzer" ∷ []

-- ---- the whole

-- the data of a crate with these attributes at its top, and these transitive dependencies
abbrev pub crate_data_of : Edition → List Numbered → List Crate → CrateData
crate_data_of edition attributes transitive = record {
  edition = edition;
  registered_tools = builtin_tools ++ listed_under (codes "register_tool") attributes;
  features = with_names [] (listed_under (codes "feature") attributes);
  rustc_coherence_is_core = says (codes "rustc_coherence_is_core") attributes;
  no_core = says (codes "no_core") attributes;
  no_std = says (codes "no_std") attributes;
  recursion_limit = limit_after 128 attributes;
  dependencies = transitive;
}
