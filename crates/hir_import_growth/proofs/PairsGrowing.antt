-- Where nothing is to be done along an edge at a key, nothing is while the map grows elsewhere.
use Rattle.std.proofs.Common.{◌≡◌, ◌∙◌, ℕ, ◌<◌, ◌≤◌, length, true, Some}
use Rattle.hir_nameres.specs.HirIds.declared.ids.TraitId.{TraitId}
use Rattle.hir_nameres.specs.HirScope.Globs.{GlobNames}
use Rattle.hir_nameres.specs.HirDefMapRules.Overlay.{Maps}
use Rattle.hir_nameres.specs.HirDefMapRules.State.{Map}
use Rattle.hir_def_map_laws.specs.ReadLaw.{Grows}
use Rattle.hir_glob_imports.proofs.OfKind.{sees_from_seen, unnamed_key}
use Rattle.hir_glob_imports.specs.Keys.{slot_at}
use Rattle.hir_glob_imports.specs.Moves.{brought_vis, shown, update_of}
use Rattle.hir_glob_imports.specs.Rules.{BroughtBy}
use Rattle.hir_glob_imports.specs.View.{View, bound_in}
use Rattle.hir_glob_imports.specs.Waves.{update_at}
use Rattle.hir_glob_imports.specs.declared.edge.Bound.{Bound}
use Rattle.hir_glob_imports.specs.declared.edge.Brought.{Brought}
use Rattle.hir_glob_imports.specs.declared.edge.Edge.{Edge}
use Rattle.hir_glob_imports.specs.declared.edge.Key.{Key}
use Rattle.hir_glob_imports.specs.declared.edge.Key.TheVariants.{Unnamed}
use Rattle.hir_glob_imports.specs.declared.edge.Target.TheVariants.{Own}
use Rattle.hir_glob_imports.specs.declared.edge.Update.TheVariants.{Nothing}
use Rattle.hir_import_rules.specs.Names.{bound_of, view_of}
use Rattle.hir_import_rules.specs.Lasting.{HasVariants, IsOrdered, IsPlaced, beside}
use Rattle.hir_import_growth.proofs.GlobsGrowing.{greater_placed_still, has_below, same_update, shown_along, source_still}
use Rattle.hir_import_growth.proofs.Placing.{placed_kind}

module _ (finished : Maps) (old new : Map) (names new_names : GlobNames) (ordered : IsOrdered finished old) (grows : Grows old new) where
  abbrev v : View
  v = view_of (beside finished old names)

  abbrev w : View
  w = view_of (beside finished new new_names)

  greater : (e : Edge) (key : Key) → v.has e.importer ≡ true → IsPlaced old e.vis → (b c : Bound) → shown v e key ≡ Some b → IsPlaced old c.vis
      → w.greater c.vis (brought_vis w e b) ≡ v.greater c.vis (brought_vis v e b)
  greater e key has of_edge b c seen stands =
      greater_placed_still finished old new names new_names ordered grows e b c of_edge
      ((placed_kind finished old names ordered).seen e.importer b.vis has (sees_from_seen (v.sees e.importer) (v.bound e.source key) b seen)) stands

  pub pair_still : length old.modules ≤ length new.modules → (brought new_brought : BroughtBy) (j : ℕ) (e : Edge) (key : Key)
      → e.importer < length old.modules → IsPlaced old e.vis → HasVariants old e.source
      → ((at : ℕ) → e.source ≡ Own at → bound_of (beside finished new new_names) (Own at) key ≡ bound_of (beside finished old names) (Own at) key)
      → bound_of (beside finished new new_names) (Own e.importer) key ≡ bound_of (beside finished old names) (Own e.importer) key
      → new_brought (slot_at e.importer key) ≡ brought (slot_at e.importer key)
      → ((by : Brought) (c : Bound) → brought (slot_at e.importer key) ≡ Some by → bound_of (beside finished old names) (Own e.importer) key ≡ Some c
      → IsPlaced old c.vis)
      → ((id : TraitId) (c : Bound) → key ≡ Unnamed id → bound_of (beside finished old names) (Own e.importer) key ≡ Some c → IsPlaced old c.vis)
      → update_at v brought j e key ≡ Nothing → update_at w new_brought j e key ≡ Nothing
  pair_still long brought new_brought j e key low of_edge variants source importer same by_glob traits nothing =
      (λ i. update_of w j e key (shows i) (importer i) (same i))
      ∙ same_update v w j e key (brought (slot_at e.importer key)) (shown v e key) (bound_in v (slot_at e.importer key))
      (λ b c seen there u. let id = unnamed_key key u in greater e key has of_edge b c seen (traits id.0 c id.1 there))
      (λ b c by seen there is. greater e key has of_edge b c seen (by_glob by c is there))
      ∙ nothing
    where
      has : v.has e.importer ≡ true
      has = has_below finished old new names new_names ordered grows e.importer low

      shows : shown w e key ≡ shown v e key
      shows =
          shown_along finished old new names new_names ordered grows e key has (source_still finished old new names new_names ordered grows e.source key
          variants source)
