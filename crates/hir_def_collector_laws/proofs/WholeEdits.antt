-- Changes of imports leave a map that names only what is there.
use Rattle.std.specs.Prelude.{ℕ, Bool, List, [], Option, None, Some}
use Rattle.hir_collector_rules.specs.HirScope.Scope.{ScopeValue}
use Rattle.hir_collector_rules.specs.HirPerNs.declared.item_in_ns.ItemInNs.{ItemInNs}
use Rattle.hir_collector_rules.specs.HirPerNs.declared.visibility.Visibility.{Visibility}
use Rattle.hir_collector_rules.specs.HirPerNs.declared.item_in_ns.ItemInNs.TheVariants as in_ns
use Rattle.hir_collector_rules.proofs.HirDefMapRules.StaysWellFormed.{HasNoDanglingReference-pushed, HasNoDanglingReference-scope}
use Rattle.hir_collector_rules.specs.HirDefMapRules.Closed.{AreThere, IsThere, VisibilityIsThere}
use Rattle.hir_collector_rules.specs.HirDefMapRules.Overlay.{Maps, overlay}
use Rattle.hir_collector_rules.specs.HirDefMapRules.References.{is_missing}
use Rattle.hir_collector_rules.specs.HirDefMapRules.State.{Map, numbered, with_scope}
use Rattle.hir_collector_rules.specs.HirDefMapRules.WellFormed.{HasNoDanglingReference}
use Rattle.hir_collector_rules.specs.HirDefMapRules.declared.reference.Reference.{Reference}
use Rattle.hir_def_map_laws.proofs.Updates.{macro_keeps, macro_vis_keeps, trait_keeps, type_keeps, type_vis_keeps, value_keeps, value_vis_keeps}
use Rattle.hir_collector_rules.specs.HirGlobImports.declared.edge.Key.{Key}
use Rattle.hir_collector_rules.specs.HirGlobImports.declared.edge.Key.TheVariants.{Types, Values, Macros, Unnamed}
use Rattle.hir_collector_rules.specs.HirImportRules.Names.{redefined, revised, with_trait}
use Rattle.hir_collector_rules.proofs.ImportEdits.{Edit, edit, keeps_unnamed, pushes_to, redefines, revises}

-- ---- what an edit brings is there

-- a definition in its namespace
abbrev pub DefIsThere : Maps → ItemInNs → Type 0
DefIsThere maps (in_ns.Types def) = IsThere maps def
DefIsThere maps (in_ns.Values def) = IsThere maps def
DefIsThere maps (in_ns.Macros def) = Unit {0}

abbrev pub EditIsThere : Maps → Edit → Type 0
EditIsThere maps (pushes_to globs name items import) = AreThere maps items
EditIsThere maps (keeps_unnamed id vis import) = VisibilityIsThere maps vis
EditIsThere maps (redefines name def vis) = DefIsThere maps def × VisibilityIsThere maps vis
EditIsThere maps (revises key vis) = VisibilityIsThere maps vis

abbrev pub EditsWhatIsThere : Maps → Option (ℕ × Edit) → Type 0
EditsWhatIsThere maps None = Unit {0}
EditsWhatIsThere maps (Some e) = EditIsThere maps e.1

-- ---- a map

module _ (finished : Maps) (map : Map) (at : ℕ) where
  abbrev missing : Reference → Bool
  missing n = is_missing (overlay finished map) n

  abbrev Keeps : (ScopeValue → ScopeValue) → Type 0
  Keeps change =
      HasNoDanglingReference (overlay finished map) map → HasNoDanglingReference (overlay finished (with_scope map at change)) (with_scope map at change)

  redefined_keeps : (name : List ℕ) (def : ItemInNs) (vis : Visibility) → DefIsThere (overlay finished map) def → VisibilityIsThere (overlay finished map) vis
      → Keeps (redefined name def vis)
  redefined_keeps name (in_ns.Types def) vis there seen f =
      HasNoDanglingReference-scope finished map at (redefined name (in_ns.Types def) vis) (type_keeps missing name vis seen def there) f
  redefined_keeps name (in_ns.Values def) vis there seen f =
      HasNoDanglingReference-scope finished map at (redefined name (in_ns.Values def) vis) (value_keeps missing name vis seen def there) f
  redefined_keeps name (in_ns.Macros def) vis there seen f =
      HasNoDanglingReference-scope finished map at (redefined name (in_ns.Macros def) vis) (macro_keeps missing name vis seen def) f

  revised_keeps : (key : Key) (vis : Visibility) → VisibilityIsThere (overlay finished map) vis → Keeps (revised key vis)
  revised_keeps (Types name) vis seen f = HasNoDanglingReference-scope finished map at (revised (Types name) vis) (type_vis_keeps missing name vis seen) f
  revised_keeps (Values name) vis seen f = HasNoDanglingReference-scope finished map at (revised (Values name) vis) (value_vis_keeps missing name vis seen) f
  revised_keeps (Macros name) vis seen f = HasNoDanglingReference-scope finished map at (revised (Macros name) vis) (macro_vis_keeps missing name vis seen) f
  revised_keeps (Unnamed id) vis seen f = HasNoDanglingReference-scope finished map at (revised (Unnamed id) vis) (trait_keeps missing [] vis seen id None) f

  pub names-edit : (e : Edit) → EditIsThere (overlay finished map) e → HasNoDanglingReference (overlay finished map) map
      → HasNoDanglingReference (overlay finished (with_scope map at (edit (numbered map.id at) e))) (with_scope map at (edit (numbered map.id at) e))
  names-edit (pushes_to globs name items import) there f = HasNoDanglingReference-pushed finished map at globs name items import there f
  names-edit (keeps_unnamed id vis import) there f =
      HasNoDanglingReference-scope finished map at (with_trait id vis import) (trait_keeps missing [] vis there id import) f
  names-edit (redefines name def vis) there f = redefined_keeps name def vis there.0 there.1 f
  names-edit (revises key vis) there f = revised_keeps key vis there f
