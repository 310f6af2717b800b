-- What an item declares stands for one definition, and carries no import.
use Rattle.std.proofs.Common.{◌≡◌, ℕ, List, Option, None, Some, refl, ap, subst}
use Rattle.hir_collector_rules.specs.HirIds.declared.macro_kind.MacroId.{MacroId}
use Rattle.hir_collector_rules.specs.HirIds.declared.ids.ModuleDefId.{ModuleDefId}
use Rattle.hir_collector_rules.specs.HirIds.declared.ids.ModuleDefId.TheVariants as definitions
use Rattle.hir_collector_rules.specs.HirItemTree.KeptForest.{Head, Holder, KeptItem, Leaf, constant, enumeration, extern_block}
use Rattle.hir_collector_rules.specs.HirItemTree.KeptForest.{extern_crate, function, holder, implementation}
use Rattle.hir_collector_rules.specs.HirItemTree.KeptForest.{import, inline_module, leaf, macro_call, macro_def, macro_rules}
use Rattle.hir_collector_rules.specs.HirItemTree.KeptForest.{outline_module, static_item, structure, trait_item}
use Rattle.hir_collector_rules.specs.HirItemTree.KeptForest.{type_alias, union_structure}
use Rattle.hir_collector_rules.specs.HirPerNs.PerNs.{Item}
use Rattle.hir_collector_rules.specs.HirPerNs.declared.imports.ImportOrExternCrate.{ImportOrExternCrate}
use Rattle.hir_collector_rules.specs.HirPerNs.declared.imports.ImportOrGlob.{ImportOrGlob}
use Rattle.hir_collector_rules.specs.HirPerNs.declared.visibility.Visibility.{Visibility}
use Rattle.hir_collector_rules.specs.HirDefMapRules.Overlay.{Maps}
use Rattle.hir_collector_rules.specs.HirDefMapRules.State.{Local, Map}
use Rattle.hir_collector_rules.specs.declared.declaration.Declaration.{Declaration}
use Rattle.hir_collector_rules.specs.declared.site.Site.{Site}
use Rattle.hir_collector_rules.specs.Items.{declared_by, declared_by_leaf, declared_struct, type_declaration, value_declaration}
use Rattle.hir_collector_rules.specs.Macros.{macro_declaration}
use Rattle.hir_def_collector_written.specs.Declared.{holder_declares, item_declares, leaf_declares}

-- the same item without an import
abbrev pub plain : {D I : Type 0} → Item D I → Item D I
plain i = record { def = i.def; vis = i.vis; import = None }

-- an item is of this definition, and carries no import
pub record IsOf {D I : Type 0} (i : Item D I) (def : D) : Type 0 where
  pub def_is : i.def ≡ def
  pub same : plain i ≡ i

pub record StandsForOne (d : Declaration) : Type 0 where
  pub types : (i : Item ModuleDefId ImportOrExternCrate) → d.items.types ≡ Some i → IsOf i d.def
  pub values : (i : Item ModuleDefId ImportOrGlob) → d.items.values ≡ Some i → IsOf i d.def
  pub macros : (i : Item MacroId ImportOrExternCrate) → d.items.macros ≡ Some i → (definitions.MacroId i.def ≡ d.def) × (plain i ≡ i)

literal_is : {D I : Type 0} (def : D) (vis : Visibility) (i : Item D I) → Some (record { def = def; vis = vis; import = None }) ≡ Some i → IsOf i def
literal_is {D = D} {I = I} def vis i e =
    let it : Item D I = record { def = def; vis = vis; import = None } in
    let same : it ≡ i = cc in
    subst (λ (x : Item D I). IsOf x def) same (record { def_is = refl; same = refl })

one_type : (name : List ℕ) (def : ModuleDefId) (vis : Visibility) → StandsForOne (type_declaration name def vis)
one_type name def vis = record {
  types = λ i e. literal_is def vis i e;
  values = λ i e. absurd (let no : ⊥ = cc in no);
  macros = λ i e. absurd (let no : ⊥ = cc in no);
}

one_value : (name : List ℕ) (def : ModuleDefId) (vis : Visibility) → StandsForOne (value_declaration name def vis)
one_value name def vis = record {
  types = λ i e. absurd (let no : ⊥ = cc in no);
  values = λ i e. literal_is def vis i e;
  macros = λ i e. absurd (let no : ⊥ = cc in no);
}

one_struct : (name : List ℕ) (def : ModuleDefId) (vis : Visibility) (constructor : Option Visibility)
    → StandsForOne (record { name = name; def = def; items = declared_struct def vis constructor })
one_struct name def vis None = record {
  types = λ i e. literal_is def vis i e;
  values = λ i e. absurd (let no : ⊥ = cc in no);
  macros = λ i e. absurd (let no : ⊥ = cc in no);
}
one_struct name def vis (Some constructor) = record {
  types = λ i e. literal_is def vis i e;
  values = λ i e. literal_is def constructor i e;
  macros = λ i e. absurd (let no : ⊥ = cc in no);
}

one_macro : (name : List ℕ) (makro : MacroId) (vis : Visibility) → StandsForOne (macro_declaration name makro vis)
one_macro name makro vis = record {
  types = λ i e. absurd (let no : ⊥ = cc in no);
  values = λ i e. absurd (let no : ⊥ = cc in no);
  macros = λ i e. let is : IsOf i makro = literal_is makro vis i e in (ap (λ (m : MacroId). definitions.MacroId m) is.def_is, is.same);
}

-- that of this
one_by : (this d : Declaration) → Some this ≡ Some d → StandsForOne this → StandsForOne d
one_by this d e f = let same : this ≡ d = cc in subst StandsForOne same f

module _ (finished : Maps) (local : Local) (m : Map) (s : Site) (d : Declaration) where
  leaf_stands : (h : Head) (l : Leaf) → leaf_declares finished local m s h l ≡ Some d → StandsForOne d
  leaf_stands h (import tree) e = absurd cc
  leaf_stands h (extern_crate name alias) e = absurd cc
  leaf_stands h (function name) e = one_by _ d e (one_value name _ _)
  leaf_stands h (structure name shape fields) e = one_by _ d e (one_struct name _ _ _)
  leaf_stands h (union_structure name fields) e = one_by _ d e (one_type name _ _)
  leaf_stands h (enumeration name) e = one_by _ d e (one_type name _ _)
  leaf_stands h (constant None) e = absurd cc
  leaf_stands h (constant (Some name)) e = one_by _ d e (one_value name _ _)
  leaf_stands h (static_item name) e = one_by _ d e (one_value name _ _)
  leaf_stands h (trait_item name) e = one_by _ d e (one_type name _ _)
  leaf_stands h (implementation of_trait) e = absurd cc
  leaf_stands h (type_alias name) e = one_by _ d e (one_type name _ _)
  leaf_stands h (outline_module name) e = one_by _ d e (one_type name _ _)
  leaf_stands h (macro_call path) e = absurd cc
  leaf_stands h (macro_rules name expander helpers) e = absurd cc
  leaf_stands h (macro_def name expander helpers) e = one_by _ d e (one_macro name _ _)

  holder_stands : (h : Head) (k : Holder) → holder_declares finished local m s h k ≡ Some d → StandsForOne d
  holder_stands h extern_block e = absurd cc
  holder_stands h (inline_module name) e = one_by _ d e (one_type name _ _)

  pub stands_for_one : (i : KeptItem) → item_declares finished local m s i ≡ Some d → StandsForOne d
  stands_for_one (leaf h l) e = leaf_stands h l e
  stands_for_one (holder h k items) e = holder_stands h k e

  -- what the visited item declares is such
  leaf_declared : (h : Head) (l : Leaf) → declared_by_leaf finished local m s h l ≡ Some d → leaf_declares finished local m s h l ≡ Some d
  leaf_declared h (enumeration name) e = absurd cc
  leaf_declared h (outline_module name) e = absurd cc
  leaf_declared h (macro_def name expander helpers) e = absurd cc
  leaf_declared h other e = e

  pub declared_item : (i : KeptItem) → declared_by finished local m s i ≡ Some d → item_declares finished local m s i ≡ Some d
  declared_item (leaf h l) e = leaf_declared h l e
  declared_item (holder h k items) e = absurd cc
