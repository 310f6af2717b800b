-- Each item has its rule, so where something is to be visited a step may be taken: where it is a module with a file of its own,
-- once that is looked for.
use Rattle.std.proofs.Common.{◌≡◌, ℕ, Bool, true, false, List, ◌∷◌, Option, None, Some, refl}
use Rattle.hir_collector_state.specs.HirItemTree.Collected.{is_enabled}
use Rattle.hir_collector_state.specs.HirBase.Cfg.{Cfg}
use Rattle.hir_collector_state.specs.HirMapParts.declared.diagnostics.DefDiagnostic.{DefDiagnostic}
use Rattle.hir_collector_state.specs.HirItemTree.Kinds.{item_head, item_kind}
use mathlib.Core.Bool.{true≢false}
use Rattle.hir_collector_state.specs.HirItemTree.KeptForest.{Head, Leaf, KeptItem, extern_block, inline_module, leaf}
use Rattle.hir_collector_state.specs.HirItemTree.KeptForest.{holder, import, extern_crate, function, structure}
use Rattle.hir_collector_state.specs.HirItemTree.KeptForest.{union_structure, enumeration, constant, static_item, trait_item}
use Rattle.hir_collector_state.specs.HirItemTree.KeptForest.{implementation, type_alias, outline_module}
use Rattle.hir_collector_state.specs.HirItemTree.KeptForest.{macro_call, macro_rules, macro_def}
use Rattle.hir_collector_state.specs.HirDefMapRules.Overlay.{Maps}
use Rattle.hir_collector_state.specs.HirCollectorRules.declared.exported.Export.{Export}
use Rattle.hir_collector_state.specs.HirCollectorRules.declared.site.Site.{Site}
use Rattle.hir_collector_state.specs.HirCollectorRules.Attributes.{export_at, next_attribute}
use Rattle.hir_collector_state.specs.HirCollectorRules.Keys.{Environment, variants_at}
use Rattle.hir_collector_state.specs.HirCollectorRules.State.{State, Task, visits, closes}
use Rattle.hir_collector_state.specs.HirCollectorRules.ItemIds.{enum_id, module_id, node_of}
use Rattle.hir_collector_state.specs.HirCollectorRules.Reports.{IsUnconfigured}
use Rattle.hir_collector_state.specs.HirCollectorRules.Steps.{IsNext, behind, drops_item, exports_macro, defines_rules}
use Rattle.hir_collector_state.specs.HirCollectorRules.Steps.{defines_macro, closes_module, declares_item}
use Rattle.hir_collector_state.specs.HirCollectorRules.Steps.{declares_enum, lists_constant, lists_impl, opens_module, enters_block}
use Rattle.hir_collector_state.specs.HirCollectorRules.Steps.{reaches_imports, reaches_crate, reaches_call}
use Rattle.hir_collector_state.specs.HirCollectorRules.Steps.{visit}
use Rattle.hir_collector_state.proofs.Made.{Goes, goes}

-- whether an item is a module with a file of its own
abbrev pub outline_leaf : Leaf → Bool
outline_leaf (outline_module name) = true
outline_leaf _ = false

abbrev pub is_outline : KeptItem → Bool
is_outline (leaf h l) = outline_leaf l
is_outline (holder h k items) = false

module _ (env : Environment) (finished : Maps) (s : State) (site : Site) (rest : List Task) where
  -- a function, by whether it exports a macro
  by_export : (h : Head) (name : List ℕ) → IsNext s (visit site (leaf h (function name))) rest → (e : Option Export) → export_at s.core.is_proc_macro s.core.map
      site (leaf h (function name)) ≡ e → Goes env finished s
  by_export h name next None e =
      goes (declares_item (visit site (leaf h (function name))) _ rest) (record { here = next; declares = refl; exports_none = e }) tt tt
  by_export h name next (Some x) e = goes (exports_macro site h name _ x rest) (record { here = next; declares = refl; exports = e }) tt tt

  by_leaf : (h : Head) (l : Leaf) → IsNext s (visit site (leaf h l)) rest → is_outline (leaf h l) ≡ false → Goes env finished s
  by_leaf h (import tree) next single = goes (reaches_imports site h tree rest) next tt tt
  by_leaf h (extern_crate name alias) next single = goes (reaches_crate site h name alias rest) next tt tt
  by_leaf h (function name) next single = by_export h name next (export_at s.core.is_proc_macro s.core.map site (leaf h (function name))) refl
  by_leaf h (structure name shape fields) next single =
      goes (declares_item (visit site (leaf h (structure name shape fields))) _ rest) (record { here = next; declares = refl; exports_none = refl }) tt tt
  by_leaf h (union_structure name fields) next single =
      goes (declares_item (visit site (leaf h (union_structure name fields))) _ rest) (record { here = next; declares = refl; exports_none = refl }) tt tt
  by_leaf h (enumeration name) next single =
      goes (declares_enum site h name (variants_at env.tables env.workspace (enum_id s.core.map site h.id)) rest) next (refl, tt) tt
  by_leaf h (constant None) next single = goes (lists_constant site h rest) next tt tt
  by_leaf h (constant (Some name)) next single =
      goes (declares_item (visit site (leaf h (constant (Some name)))) _ rest) (record { here = next; declares = refl; exports_none = refl }) tt tt
  by_leaf h (static_item name) next single =
      goes (declares_item (visit site (leaf h (static_item name))) _ rest) (record { here = next; declares = refl; exports_none = refl }) tt tt
  by_leaf h (trait_item name) next single =
      goes (declares_item (visit site (leaf h (trait_item name))) _ rest) (record { here = next; declares = refl; exports_none = refl }) tt tt
  by_leaf h (implementation of_trait) next single = goes (lists_impl site h of_trait rest) next tt tt
  by_leaf h (type_alias name) next single =
      goes (declares_item (visit site (leaf h (type_alias name))) _ rest) (record { here = next; declares = refl; exports_none = refl }) tt tt
  by_leaf h (outline_module name) next single = absurd (true≢false single)
  by_leaf h (macro_call path) next single = goes (reaches_call site h path rest) next tt tt
  by_leaf h (macro_rules name expander helpers) next single = goes (defines_rules site h name expander helpers rest) next tt tt
  by_leaf h (macro_def name expander helpers) next single = goes (defines_macro site h name expander helpers rest) next tt tt

  by_item : (i : KeptItem) → IsNext s (visit site i) rest → is_outline i ≡ false → Goes env finished s
  by_item (leaf h l) next single = by_leaf h l next single
  by_item (holder h extern_block items) next single = goes (enters_block site h items rest) next tt tt
  by_item (holder h (inline_module name) items) next single = goes (opens_module site h name items rest) next tt tt

  -- an item that no condition leaves out, and that is no module with a file of its own
  pub goes_next : (i : KeptItem) (done : ℕ) → s.agenda ≡ visits (behind (visit site i) done) ∷ rest → is_enabled (item_head i).attributes ≡ true
      → next_attribute s.core.map site i done ≡ None
      → is_outline i ≡ false → Goes env finished s
  goes_next i done next on passed single = by_item i (record { done = done; next = next; enabled = on; passed = passed }) single

  -- one that a condition leaves out
  pub goes_off : (i : KeptItem) (done : ℕ) (condition : Cfg) (report : DefDiagnostic) → s.agenda ≡ visits (behind (visit site i) done) ∷ rest
      → (item_head i).attributes.disabled ≡ Some condition
      → IsUnconfigured (module_id s.core.map site.home) (node_of site.tree (item_kind i) (item_head i).id) condition s.core.options report → Goes env finished s
  goes_off i done condition report next off reported =
      goes (drops_item (behind (visit site i) done) report rest) (record { next = next; condition = condition; disabled = off; reported = reported }) tt tt

-- a module that is to be closed
pub goes_closing : (env : Environment) (finished : Maps) (s : State) (rest : List Task) (parent child : ℕ) → s.agenda ≡ closes parent child ∷ rest
    → Goes env finished s
goes_closing env finished s rest parent child next = goes (closes_module parent child rest) next tt tt
