-- The maps that are finished.
use Rattle.std.specs.Prelude.{◌≡◌, true, false, Option, None, Some, List, [], ◌∷◌, option_map}
use Rattle.std.specs.BTreeMap.{BTreeMap, get, is_at}
use Rattle.std.specs.BTreeSet.{contains}
use Rattle.std.specs.Map.{lookup}
use Rattle.std.proofs.Common.{ap, sym, ◌∙◌}
use Rattle.hir_def_map_rules.specs.HirIds.declared.ids.MapId.{MapId}
use Rattle.hir_def_map_rules.specs.HirIds.contracts.ids.MapIdOrd.TheImpl as map_order
use Rattle.hir_nameres.specs.declared.world.finished.Finished.{Finished}
use Rattle.hir_def_map_rules.specs.State.{Local, Map}
use Rattle.hir_def_map_rules.specs.Overlay.{Maps, Placed, holders_under, no_maps}
use Rattle.hir_def_map_rules.specs.References.{is_well_formed, refers_to}
use Rattle.hir_nameres.specs.Removal.{FallsWith, lists_in, refers_in, refers_of}
use Rattle.hir_def_map_rules.specs.Ancestors.{IsPlaced, frame_of, frames_of, holders_of_frame}

abbrev pub placed_of : Finished → Placed
placed_of finished = record { map = finished.map; local = finished.local; holders = finished.holders.items }

-- finished maps by their ids
unfoldable pub finished_in : BTreeMap MapId Finished → Maps
finished_in maps id = option_map placed_of (get map_order.ghosts.cmp maps id)

-- where nothing is finished there is no map
pub finished_in-none : (maps : BTreeMap MapId Finished) → maps.entries ≡ [] → finished_in maps ≡ no_maps
unfolding finished_in
finished_in-none maps none = λ i id. option_map placed_of (lookup (is_at (map_order.ghosts.cmp id)) (none i))

-- the crates that a finished map's paths may begin with
abbrev pub local_in : BTreeMap MapId Finished → MapId → Option Local
local_in maps id = option_map (λ (f : Finished). f.local) (get map_order.ghosts.cmp maps id)

-- what holds of a finished map among all of them
pub record IsFinished (maps : Maps) (id : MapId) (finished : Finished) : Type 0 where
  -- it stands under its own id, in its place
  pub own : finished.map.id ≡ id
  pub holders : finished.holders.items ≡ holders_under maps id finished.map.holder
  -- no reference is dangling
  pub complete : is_well_formed maps finished.map finished.local ≡ true
  -- it refers to the maps that are recorded for it
  pub named : (id : MapId) → contains map_order.ghosts.cmp finished.named id ≡ true → refers_to finished.map finished.local id ≡ true

-- what holds of finished maps
pub record IsChecked (maps : BTreeMap MapId Finished) : Type 0 where
  pub placed : IsPlaced (finished_in maps)
  pub each : (id : MapId) (finished : Finished) → get map_order.ghosts.cmp maps id ≡ Some finished → IsFinished (finished_in maps) id finished
  -- through which it falls with all that it refers to
  pub covered : (id other : MapId) → refers_in maps id other ≡ true → FallsWith (lists_in maps) other id

-- where nothing is finished, nothing is out of its place
pub IsChecked-empty : (maps : BTreeMap MapId Finished) → maps.entries ≡ [] → IsChecked maps
unfolding finished_in frames_of
IsChecked-empty maps e = record {
  placed = λ id h hs f.
      let none : [] ≡ h ∷ hs = ap (λ (es : List (MapId × Finished)). holders_of_frame
      (option_map frame_of (option_map placed_of (lookup (is_at (map_order.ghosts.cmp id)) es)))) (sym e) ∙ f in
      absurd cc;
  each = λ id finished f.
      let none : None ≡ Some finished = ap (λ (es : List (MapId × Finished)). lookup (is_at (map_order.ghosts.cmp id)) es) (sym e) ∙ f in
      absurd cc;
  covered = λ id other f.
      let none : false ≡ true = ap (λ (es : List (MapId × Finished)). refers_of (lookup (is_at (map_order.ghosts.cmp id)) es) other) (sym e) ∙ f in
      absurd cc;
}
