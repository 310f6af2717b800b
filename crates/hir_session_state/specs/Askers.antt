-- Which places asked for which keys of a source? No public clause speaks of this.
use Rattle.std.specs.Prelude.{◌≡◌, ⊤, ◌&&◌, ◌||◌, Bool, false, cond, not, is_some, ℕ, slice_get, List, ◌∷◌, ◌++◌, Option, None, Some}
use Rattle.std.specs.List.{list_any}
use Rattle.std.specs.BTreeMap.{BTreeMap, get, is_at}
use Rattle.std.specs.BTreeSet.{contains}
use Rattle.std.specs.declared.alloc.Global.{Global}
use Rattle.std.specs.declared.vec.Vec.{Vec}
use Rattle.hir_collector_rules.specs.HirIds.declared.ids.MapId.{MapId}
use Rattle.hir_collector_rules.specs.HirIds.contracts.ids.MapIdOrd.TheImpl as map_order
use Rattle.hir_collector_rules.specs.HirTables.Tables.{TablesValue}
use Rattle.hir_collector_rules.specs.declared.source_database.Key.{Key}
use Rattle.hir_collector_rules.specs.contracts.source_database.KeyOrd.TheImpl as key_order
use Rattle.hir_session_state.specs.declared.askers.Askers.{Askers}
use Rattle.hir_session_state.specs.declared.askers.KeyPlaces.{KeyPlaces}
use Rattle.hir_session_state.specs.declared.source_number.SourceNumber.{SourceNumber}
use Rattle.hir_session_state.specs.declared.runs.KeptRun.{KeptRun}
use Rattle.hir_session_state.specs.Kept.{Resolution, Resolutions, asked_of, kept_in}
use Rattle.hir_session_state.specs.NumberCodes.{number_code}
use Rattle.hir_session_state.specs.SourceNumbers.{asks}

-- by a key, the places that asked for it
abbrev pub KeyAskers : Type 0
KeyAskers = BTreeMap Key KeyPlaces

abbrev pub is_first : Option MapId → MapId → Bool
is_first None id = false
is_first (Some own) id = is_at (map_order.ghosts.cmp own) id

abbrev pub has_place : KeyPlaces → MapId → Bool
has_place places id = is_first places.first id || contains map_order.ghosts.cmp places.others id

abbrev pub in_front : Option MapId → List MapId → List MapId
in_front None ids = ids
in_front (Some own) ids = own ∷ ids

-- the places in a list
abbrev pub listed : KeyPlaces → List MapId
listed places = in_front places.first places.others.keys

abbrev pub is_in : Option KeyPlaces → MapId → Bool
is_in None id = false
is_in (Some places) id = has_place places id

-- whether a place is among those that asked for a key
abbrev pub has_asked : KeyAskers → Key → MapId → Bool
has_asked keys key id = is_in (get key_order.ghosts.cmp keys key) id

abbrev pub has_asked_in : Option KeyAskers → Key → MapId → Bool
has_asked_in None key id = false
has_asked_in (Some keys) key id = has_asked keys key id

-- the same of a number in a list
abbrev pub has_asked_at : List KeyAskers → ℕ → Key → MapId → Bool
has_asked_at lists number key id = has_asked_in (slice_get lists number) key id

-- whether a place is entered at a key of a source
abbrev pub is_asker : Askers → SourceNumber → Key → MapId → Bool
is_asker askers number key id = has_asked_at askers.by_source.items (number_code number) key id

-- ---- one place

-- whether some keys have one, which asks for a source
abbrev pub is_asked : TablesValue → List Key → SourceNumber → Key → Bool
is_asked tables keys number key = list_any (is_at (key_order.ghosts.cmp key)) keys && asks tables number key

-- whether a key is one of those for which a place asked, under its source, and the place this one
abbrev pub is_entry : TablesValue → List Key → MapId → SourceNumber → Key → MapId → Bool
is_entry tables keys own number key id = is_asked tables keys number key && is_at (map_order.ghosts.cmp own) id

-- a place is entered at each key for which it asked, under its source
abbrev pub Enters : TablesValue → Askers → Askers → List Key → MapId → Type 0
Enters tables old new keys own = (number : SourceNumber) (key : Key) (id : MapId)
    → is_asker new number key id ≡ (is_asker old number key id || is_entry tables keys own number key id)

-- a place is taken out at each key for which it asked
abbrev pub Leaves : TablesValue → Askers → Askers → List Key → MapId → Type 0
Leaves tables old new keys own = (number : SourceNumber) (key : Key) (id : MapId)
    → is_asker new number key id ≡ (is_asker old number key id && not (is_entry tables keys own number key id))

abbrev pub IsSame : Askers → Askers → Type 0
IsSame old new = (number : SourceNumber) (key : Key) (id : MapId) → is_asker new number key id ≡ is_asker old number key id

-- nothing changes but where a place may be entered
abbrev pub IsSameBut : TablesValue → Askers → Askers → List Key → MapId → Type 0
IsSameBut tables old new keys own = (number : SourceNumber) (key : Key) (id : MapId) → is_entry tables keys own number key id ≡ false
    → is_asker new number key id ≡ is_asker old number key id

-- ---- all of them

-- whether a kept run asked for a key of a source
abbrev pub asked_by : TablesValue → Option Resolution → SourceNumber → Key → Bool
asked_by tables None number key = false
asked_by tables (Some r) number key = is_asked tables r.asked number key

-- each place is entered at exactly the keys for which its kept run asked, under their sources
pub record HoldsExactly (tables : TablesValue) (kept : Resolutions) (askers : Askers) : Type 0 where
  pub each : (number : SourceNumber) (key : Key) (id : MapId) → is_asker askers number key id ≡ asked_by tables (kept_in kept id) number key

-- ---- as places fall

-- whether a place is one of some
abbrev pub is_one : List MapId → MapId → Bool
is_one ids id = list_any (is_at (map_order.ghosts.cmp id)) ids

-- the runs of some places are dropped, and the places taken out of those that asked for their keys
pub record AreDropped (tables : TablesValue) (ids : List MapId) (old : BTreeMap MapId KeptRun) (before : Askers) (new : BTreeMap MapId KeptRun)
    (after : Askers) : Type 0 where
  pub runs : (id : MapId) → get map_order.ghosts.cmp new id ≡ cond (is_one ids id) None (get map_order.ghosts.cmp old id)
  pub askers : (number : SourceNumber) (key : Key) (id : MapId) → is_asker after number key id
      ≡ (is_asker before number key id && not (is_one ids id && is_asked tables (asked_of (get map_order.ghosts.cmp old id)) number key))

-- whether what was kept of a place isn't any more
abbrev pub has_fallen : Resolutions → Resolutions → MapId → Bool
has_fallen old new id = is_some (kept_in old id) && not (is_some (kept_in new id))

-- a list has these places behind what it had, if it still is one
abbrev pub Lengthens : Option (Vec MapId Global) → List MapId → Option (Vec MapId Global) → Type 0
Lengthens before more None = ⊤
Lengthens None more (Some after) = ⊥
Lengthens (Some before) more (Some after) = after.items ≡ before.items ++ more

-- a list gains the places of which what was kept isn't any more, and no others, if it still is one
abbrev pub ListsFallen : Resolutions → Resolutions → Option (Vec MapId Global) → Option (Vec MapId Global) → Type 0
ListsFallen old new before None = ⊤
ListsFallen old new None (Some after) = ⊥
ListsFallen old new (Some before) (Some after) = (id : MapId) → is_one after.items id ≡ (is_one before.items id || has_fallen old new id)
