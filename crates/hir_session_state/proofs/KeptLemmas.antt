-- What maps in a world, and what else is kept of each run, tell together.
use Rattle.std.proofs.Common.{◌≡◌, ◌≢◌, ◌∙◌, ap, sym, subst, refl, ℕ, zero, suc, ◌<◌, ◌≤◌, ◌+◌, Bool, true, false, not, is_some, cond, Option, Some, None, List}
use Rattle.std.proofs.Common.{[]}
use Rattle.std.proofs.Common.{◌∷◌, ◌⊎◌, inl, inr, length, get_or, map, arith}
use Rattle.std.specs.Option.{option_map}
use Rattle.std.specs.BTreeMap.{BTreeMap, get, is_at, IsUnchanged}
use Rattle.std.specs.Map.{keys_of as ids_of, lookup}
use Rattle.hir_collector_rules.specs.HirIds.declared.ids.MapId.{MapId}
use Rattle.hir_collector_rules.specs.HirIds.declared.ids.ModuleId.{ModuleId}
use Rattle.hir_collector_rules.specs.HirIds.contracts.ids.MapIdOrd.TheImpl as map_order
use Rattle.hir_collector_rules.specs.HirIds.contracts.ids.MapIdPartialEq.TheImpl as map_id
use Rattle.hir_collector_rules.specs.HirNameres.declared.world.finished.Finished.{Finished}
use Rattle.hir_def_map.specs.declared.world.insert.InsertError.{InsertError}
use Rattle.hir_collector_rules.specs.HirDefMapRules.Inner.OverlayLaws.{exact_map, same_id}
use Rattle.hir_def_map.specs.declared.world.insert.InsertError.TheVariants.{Unchecked, Memory}
use Rattle.hir_def_map.specs.Insertion.{may_join, IsReason}
use Rattle.hir_collector_rules.specs.HirDefMapRules.References.{is_well_formed}
use Rattle.hir_collector_rules.specs.HirNameres.Removal.{Depends, refers_in as names_between, refers_of as between_of}
use Rattle.hir_collector_rules.specs.HirNameres.Removal.Depends.{itself, through}
use Rattle.hir_collector_rules.specs.HirDefMapRules.State.{Local, Map}
use Rattle.hir_collector_rules.specs.HirDefMapRules.Overlay.{Maps, Placed, holders_or, holders_under, no_maps, placed_with, with_map}
use Rattle.hir_collector_rules.specs.HirNameres.World.{finished_in, placed_of}
use Rattle.hir_session_state.specs.Types.{KeptRun}
use Rattle.hir_session_state.specs.Kept.{Resolution, Resolutions, finished_by, held, kept_in, names_in, names_of, entry_with, placed_by, resolution_at}
use Rattle.hir_session_state.specs.Kept.{resolution_from, resolutions_in, AreForgotten}
use Rattle.std.specs.List.Sorted.{IsStrictlySortedBy}
use Rattle.hir_collector_rules.specs.HirIds.contracts.ids.MapIdOrd.TheImpl.Laws.{total-law as order_total}
use Rattle.hir_session_state.proofs.Counting.{one_more_at_most}
use Rattle.hir_session_state.proofs.Ids.{equal_id, other_id, own_id}
use Rattle.hir_session_state.proofs.Truth.{both_true, clash, on_bool, on_same}

abbrev pub Store : Type 0
Store = BTreeMap MapId Finished

abbrev pub Runs : Type 0
Runs = BTreeMap MapId KeptRun

abbrev pub found_in : Store → MapId → Option Finished
found_in maps id = get map_order.ghosts.cmp maps id

abbrev pub run_in : Runs → MapId → Option KeptRun
run_in runs id = get map_order.ghosts.cmp runs id

-- ---- one of them

found_from : (runs : Runs) (id : MapId) (es : List (MapId × Finished))
    → lookup (is_at (map_order.ghosts.cmp id)) (map (entry_with runs) es)
    ≡ option_map (λ (f : Finished). resolution_at f (run_in runs id)) (lookup (is_at (map_order.ghosts.cmp id)) es)
found_from runs id [] = refl
found_from runs id (e ∷ es) = go (found_from runs id es) (is_at (map_order.ghosts.cmp id) e.0) refl
  where
    go : lookup (is_at (map_order.ghosts.cmp id)) (map (entry_with runs) es) ≡ option_map (λ (f : Finished). resolution_at f (run_in runs id))
        (lookup (is_at (map_order.ghosts.cmp id)) es)
        → (b : Bool) → is_at (map_order.ghosts.cmp id) e.0 ≡ b
        → cond b (Some (resolution_at e.1 (run_in runs e.0))) (lookup (is_at (map_order.ghosts.cmp id)) (map (entry_with runs) es))
        ≡ option_map (λ (f : Finished). resolution_at f (run_in runs id)) (cond b (Some e.1) (lookup (is_at (map_order.ghosts.cmp id)) es))
    go rest true on = ap (λ (j : MapId). Some (resolution_at e.1 (run_in runs j))) (sym (equal_id id e.0 on))
    go rest false off = rest

-- what is kept of a place stands under its id
pub kept_at : (maps : Store) (runs : Runs) (id : MapId)
    → kept_in (resolutions_in maps runs) id ≡ option_map (λ (f : Finished). resolution_at f (run_in runs id)) (found_in maps id)
unfolding resolutions_in
kept_at maps runs id = found_from runs id maps.entries

at_found : (o : Option Finished) (run : Option KeptRun) → resolution_from (option_map placed_of o) run ≡ option_map (λ (f : Finished). resolution_at f run) o
at_found None run = refl
at_found (Some f) run = refl

-- it is what is finished, with what is kept of the run
pub kept_found : (maps : Store) (runs : Runs) (id : MapId) (found : Option Finished) (run : Option KeptRun) → found ≡ found_in maps id → run ≡ run_in runs id
    → resolution_from (option_map placed_of found) run ≡ kept_in (resolutions_in maps runs) id
kept_found maps runs id found run is_found is_run =
    (λ i. resolution_from (option_map placed_of (is_found i)) (is_run i))
    ∙ at_found (found_in maps id) (run_in runs id)
    ∙ sym (kept_at maps runs id)

-- it is the map in its place with that
pub kept_from : (maps : Store) (runs : Runs) (id : MapId) (placed : Option Placed) (run : Option KeptRun) → placed ≡ finished_in maps id → run ≡ run_in runs id
    → resolution_from placed run ≡ kept_in (resolutions_in maps runs) id
unfolding finished_in
kept_from maps runs id placed run is_placed is_run =
    (λ i. resolution_from (is_placed i) (is_run i))
    ∙ at_found (found_in maps id) (run_in runs id)
    ∙ sym (kept_at maps runs id)

-- ---- none

not_found : (o : Option Finished) → option_map placed_of o ≡ None → o ≡ None
not_found None e = refl
not_found (Some f) e = absurd (let wrong : ⊥ = cc in wrong)

-- where no map is, nothing is kept
kept_none : (maps : Store) (runs : Runs) (id : MapId) → found_in maps id ≡ None → kept_in (resolutions_in maps runs) id ≡ None
kept_none maps runs id none = kept_at maps runs id ∙ ap (option_map (λ (f : Finished). resolution_at f (run_in runs id))) none

pub none_kept : (maps : Store) (runs : Runs) → finished_in maps ≡ no_maps → (id : MapId) → kept_in (resolutions_in maps runs) id ≡ None
unfolding finished_in
none_kept maps runs none id = kept_none maps runs id (not_found (found_in maps id) (ap (λ (all : Maps). all id) none))

-- and there is none
pub no_entries : (maps : Store) → finished_in maps ≡ no_maps → length maps.entries ≡ 0
unfolding finished_in
no_entries maps none = go maps.entries (λ id. not_found (found_in maps id) (ap (λ (all : Maps). all id) none))
  where
    go : (es : List (MapId × Finished)) → ((id : MapId) → lookup (is_at (map_order.ghosts.cmp id)) es ≡ None) → length es ≡ 0
    go [] empty = refl
    go (e ∷ es) empty =
        let found : Some e.1 ≡ None =
        sym (ap (λ (b : Bool). cond b (Some e.1) (lookup (is_at (map_order.ghosts.cmp e.0)) es)) (own_id e.0)) ∙ empty e.0 in
        absurd (let wrong : ⊥ = cc in wrong)

-- ---- the maps of which they tell

-- the maps in the world are those of which the list tells
pub told : (maps : Store) (runs : Runs) → finished_in maps ≡ finished_by (resolutions_in maps runs)
unfolding finished_in
told maps runs = λ i id. (go id (found_in maps id) ∙ sym (ap (option_map placed_by) (kept_at maps runs id))) i
  where
    go : (id : MapId) (o : Option Finished) → option_map placed_of o ≡ option_map placed_by (option_map (λ (f : Finished). resolution_at f (run_in runs id)) o)
    go id None = refl
    go id (Some f) = refl

-- ---- the same maps

pub same_resolutions : (old new : Store) (runs : Runs) → IsUnchanged old new → resolutions_in new runs ≡ resolutions_in old runs
unfolding resolutions_in
same_resolutions old new runs same = ap (λ (es : List (MapId × Finished)). map (entry_with runs) es) same

-- the same runs
pub same_runs : (maps : Store) (old new : Runs) → IsUnchanged old new → resolutions_in maps new ≡ resolutions_in maps old
unfolding resolutions_in
same_runs maps old new same = λ i. map (λ (e : MapId × Finished). (e.0, resolution_at e.1 (lookup (is_at (map_order.ghosts.cmp e.0)) (same i)))) maps.entries

-- another run of a place that has no map
runs_aside : (old new : Runs) (id : MapId) → ((j : MapId) → is_at (map_order.ghosts.cmp id) j ≡ false → run_in new j ≡ run_in old j)
    → (es : List (MapId × Finished)) → lookup (is_at (map_order.ghosts.cmp id)) es ≡ None → map (entry_with new) es ≡ map (entry_with old) es
runs_aside old new id alike [] none = refl
runs_aside old new id alike (e ∷ es) none = on_bool (is_at (map_order.ghosts.cmp id) e.0)
    (λ on. absurd (let wrong : ⊥ = cc (rw on at none) in wrong))
    (λ off. λ i. (e.0, resolution_at e.1 (alike e.0 off i)) ∷ runs_aside old new id alike es (rw off at none) i)

pub run_aside : (maps : Store) (old new : Runs) (id : MapId) → ((j : MapId) → is_at (map_order.ghosts.cmp id) j ≡ false → run_in new j ≡ run_in old j)
    → finished_in maps id ≡ None → resolutions_in maps new ≡ resolutions_in maps old
unfolding resolutions_in finished_in
run_aside maps old new id alike none = runs_aside old new id alike maps.entries (not_found (found_in maps id) none)

-- ---- one more

-- no map stands where nothing is kept
pub absent : (maps : Store) (runs : Runs) (kept : Resolutions) → resolutions_in maps runs ≡ kept → (id : MapId) → kept_in kept id ≡ None → finished_in maps id
    ≡ None
absent maps runs kept is id free = ap (λ (all : Maps). all id) (told maps runs ∙ ap finished_by is) ∙ ap (option_map placed_by) free

-- so a complete one may join
pub may_join_there : (maps : Store) (runs : Runs) (kept : Resolutions) → resolutions_in maps runs ≡ kept → (map : Map) (local : Local)
    → kept_in kept map.id ≡ None → is_well_formed (finished_by kept) map local ≡ true → may_join (finished_in maps) map local ≡ true
may_join_there maps runs kept is map local free complete =
    both_true (not (is_some (finished_in maps map.id))) (is_well_formed (finished_in maps) map local)
    (ap (λ (o : Option Placed). not (is_some o)) (absent maps runs kept is map.id free))
    (ap (λ (finished : Maps). is_well_formed finished map local) (told maps runs ∙ ap finished_by is) ∙ complete)

-- what may join is refused for want of memory alone
pub only_memory : (may : Bool) (why : InsertError) → may ≡ true → IsReason may why → why ≡ Memory
only_memory may Unchecked joins stays = clash joins stays
only_memory may Memory joins also = refl

module _ (old new : Store) (runs runs' : Runs) (map : Map) (local : Local) (run : KeptRun)
    (maps : (id : MapId) → finished_in new id ≡ with_map (finished_in old) map local id)
    (here : run_in runs' map.id ≡ Some run) (others : (j : MapId) → is_at (map_order.ghosts.cmp map.id) j ≡ false → run_in runs' j ≡ run_in runs j)
    (none : finished_in old map.id ≡ None) where
  -- the map where these modules hold it
  abbrev held_by : List ModuleId → Placed
  held_by holders = record { map = map; local = local; holders = holders }

  placed_here : finished_in new map.id ≡ Some (held_by (holders_under (finished_in old) map.id map.holder))
  placed_here =
      maps map.id
      ∙ ap (λ (b : Bool). cond b (Some (placed_with (finished_in old) map local)) (finished_in old map.id)) (same_id map.id)
      ∙ ap (λ (o : Option Placed). Some (held_by (holders_or o (holders_under (finished_in old) map.id map.holder)))) none

  -- what is kept of the place is what was found, and what holds it
  pub kept_here : kept_in (resolutions_in new runs') map.id
      ≡ Some (held (record { map = map; local = local; leftover = run.leftover.items; round_limit_met = run.round_limit_met; asked = run.asked })
      (holders_under (finished_in old) map.id map.holder))
  kept_here = sym (kept_from new runs' map.id (Some (held_by (holders_under (finished_in old) map.id map.holder))) (Some run) (sym placed_here) (sym here))

  placed_else : (id : MapId) → id ≢ map.id → finished_in new id ≡ finished_in old id
  placed_else id ne = on_bool (map_id.ghosts.eq id map.id)
      (λ e. absurd (ne (exact_map id map.id e)))
      (λ e. maps id ∙ ap (λ (b : Bool). cond b (Some (placed_with (finished_in old) map local)) (finished_in old id)) e)

  -- and of each other what was
  pub kept_else : (id : MapId) → id ≢ map.id → kept_in (resolutions_in new runs') id ≡ kept_in (resolutions_in old runs) id
  kept_else id ne =
      sym (kept_from new runs' id (finished_in new id) (run_in runs' id) refl refl)
      ∙ kept_from old runs id (finished_in new id) (run_in runs' id) (placed_else id ne) (others id (other_id map.id id ne))

-- there is at most one map more
pub joined_count : (old new : Store) (map : Map) (local : Local) → ((id : MapId) → finished_in new id ≡ with_map (finished_in old) map local id)
    → IsStrictlySortedBy map_order.ghosts.cmp (ids_of new.entries) → length new.entries ≤ length old.entries + 1
unfolding finished_in
joined_count old new map local maps sorted =
    one_more_at_most map_order.ghosts.cmp order_total equal_id new.entries old.entries sorted map.id still
  where
    told_by : (o p : Option Finished) → option_map placed_of o ≡ option_map placed_of p → is_some o ≡ is_some p
    told_by None None e = refl
    told_by None (Some f) e = absurd (let wrong : ⊥ = cc in wrong)
    told_by (Some f) None e = absurd (let wrong : ⊥ = cc in wrong)
    told_by (Some f) (Some g) e = refl

    still : (id : MapId) → id ≢ map.id → is_some (found_in new id) ≡ true → is_some (found_in old id) ≡ true
    still id ne here = on_bool (map_id.ghosts.eq id map.id)
        (λ e. absurd (ne (exact_map id map.id e)))
        (λ e. sym (told_by (found_in new id) (found_in old id)
        (maps id ∙ ap (λ (b : Bool). cond b (Some (placed_with (finished_in old) map local)) (finished_in old id)) e)) ∙ here)

-- ---- fewer

-- what depends by some names depends by more
Depends-more : {n m : MapId → MapId → Bool} {on id : MapId} → ((j k : MapId) → n j k ≡ true → m j k ≡ true) → Depends n on id → Depends m on id
Depends-more f (itself id e) = itself id e
Depends-more f (through id other n d) = through id other (f id other n) (Depends-more f d)

module _ (old new : Store) (runs runs' : Runs) (on : MapId)
    (gone : (id : MapId) → Depends (names_between old) on id → found_in new id ≡ None)
    (stays : (id : MapId) → ¬ Depends (names_between old) on id → found_in new id ≡ found_in old id)
    (same : (id : MapId) → found_in new id ≡ found_in old id → run_in runs' id ≡ run_in runs id) where
  -- a kept resolution names what its map does
  names_alike : (id other : MapId) → names_in (resolutions_in old runs) id other ≡ names_between old id other
  names_alike id other = ap (λ (o : Option Resolution). names_of o other) (kept_at old runs id) ∙ go (found_in old id)
    where
      go : (o : Option Finished) → names_of (option_map (λ (f : Finished). resolution_at f (run_in runs id)) o) other ≡ between_of o other
      go None = refl
      go (Some f) = refl

  pub kept_gone : (id : MapId) → Depends (names_in (resolutions_in old runs)) on id → kept_in (resolutions_in new runs') id ≡ None
  kept_gone id d = kept_none new runs' id (gone id (Depends-more (λ j k n. sym (names_alike j k) ∙ n) d))

  pub kept_stays : (id : MapId) → ¬ Depends (names_in (resolutions_in old runs)) on id → kept_in (resolutions_in new runs') id
      ≡ kept_in (resolutions_in old runs) id
  kept_stays id none =
      let stood = stays id (λ d. none (Depends-more (λ j k n. names_alike j k ∙ n) d)) in
      kept_at new runs' id
      ∙ (λ i. option_map (λ (f : Finished). resolution_at f (same id stood i)) (stood i))
      ∙ sym (kept_at old runs id)

-- ---- one after another

-- what is left once nothing is kept of the first so many places
pub record IsForgetting (old : Resolutions) (ids : List MapId) (n : ℕ) (new : Resolutions) : Type 0 where
  pub gone : (k : ℕ) (d : MapId) → k < n → kept_in new (get_or ids k d) ≡ None
  pub named : (id other : MapId) → names_in old id other ≡ true → is_some (kept_in old other) ≡ true → kept_in new other ≡ None → kept_in new id ≡ None
  pub fewer : (id : MapId) → (kept_in new id ≡ kept_in old id) ⊎ (kept_in new id ≡ None)
  pub stay : (id : MapId) → ((k : ℕ) (d : MapId) → k < n → ¬ Depends (names_in old) (get_or ids k d) id) → kept_in new id ≡ kept_in old id

pub forgetting-start : (old : Resolutions) (ids : List MapId) → IsForgetting old ids 0 old
forgetting-start old ids = record {
  gone = λ k d below. absurd (omega arith);
  named = λ id other names there none. clash there (ap (λ (o : Option Resolution). is_some o) none);
  fewer = λ id. inl refl;
  stay = λ id none. refl;
}

module _ (old mid new : Resolutions) (ids : List MapId) (n : ℕ) (on : MapId) (within : n < length ids)
    (so_far : IsForgetting old ids n mid) (is : (d : MapId) → get_or ids n d ≡ on)
    (gone : (id : MapId) → Depends (names_in mid) on id → kept_in new id ≡ None)
    (stays : (id : MapId) → ¬ Depends (names_in mid) on id → kept_in new id ≡ kept_in mid id) where
  -- what is there is what was
  there : (id : MapId) (r : Resolution) → kept_in mid id ≡ Some r → kept_in mid id ≡ kept_in old id
  there id r s = elim (so_far.fewer id) [
    | inl same ↦ same
    | inr none ↦ absurd (let wrong : None ≡ Some r = sym none ∙ s in let both : ⊥ = cc in both)
  ]

  -- fewer are named
  names_fewer : (id other : MapId) → names_in mid id other ≡ true → names_in old id other ≡ true
  names_fewer id other names = go (kept_in mid id) refl names
    where
      go : (o : Option Resolution) → kept_in mid id ≡ o → names_of o other ≡ true → names_in old id other ≡ true
      go None s e = clash e refl
      go (Some r) s e = ap (λ (o : Option Resolution). names_of o other) (sym (there id r s) ∙ s) ∙ e

  -- of each place what was kept still is, or nothing
  pub either : (id : MapId) → (kept_in new id ≡ kept_in mid id) ⊎ (kept_in new id ≡ None)
  either id = go (kept_in new id) refl
    where
      go : (o : Option Resolution) → kept_in new id ≡ o → (kept_in new id ≡ kept_in mid id) ⊎ (kept_in new id ≡ None)
      go None s = inr s
      go (Some r) s = inl (stays id (λ d. let wrong : None ≡ Some r = sym (gone id d) ∙ s in cc))

  fewer_still : (id : MapId) → (kept_in new id ≡ kept_in old id) ⊎ (kept_in new id ≡ None)
  fewer_still id = elim (either id) [
    | inl same ↦ elim (so_far.fewer id) [
      | inl too ↦ inl (same ∙ too)
      | inr none ↦ inr (same ∙ none)
    ]
    | inr none ↦ inr none
  ]

  named_still : (id other : MapId) → names_in old id other ≡ true → is_some (kept_in old other) ≡ true → kept_in new other ≡ None → kept_in new id ≡ None
  named_still id other names was none = go (kept_in new id) refl
    where
      falls : (r : Resolution) → kept_in new id ≡ Some r → kept_in mid id ≡ kept_in new id → (o : Option Resolution) → kept_in mid other ≡ o → kept_in new id
          ≡ None
      falls r s stayed None e = sym stayed ∙ so_far.named id other names was e
      falls r s stayed (Some q) e =
          let names_mid : names_in mid id other ≡ true =
          ap (λ (o : Option Resolution). names_of o other) (there id r (stayed ∙ s)) ∙ names in
          let apart : ¬ Depends (names_in mid) on id = λ d. (let wrong : None ≡ Some r = sym (gone id d) ∙ s in cc) in
          let apart_too : ¬ Depends (names_in mid) on other = λ d. apart (through id other names_mid d) in
          absurd (let wrong : None ≡ Some q = sym none ∙ stays other apart_too ∙ e in let both : ⊥ = cc in both)

      go : (o : Option Resolution) → kept_in new id ≡ o → kept_in new id ≡ None
      go None s = s
      go (Some r) s = elim (either id) [
        | inl same ↦ falls r s (sym same) (kept_in mid other) refl
        | inr nothing ↦ nothing
      ]

  pub forgetting-more : IsForgetting old ids (n + 1) new
  forgetting-more = record {
    gone = λ k d below. on_same k n
        (λ e. subst (λ (j : ℕ). kept_in new (get_or ids j d) ≡ None) (sym e) (gone (get_or ids n d) (itself (get_or ids n d) (is d))))
        (λ ne. elim (either (get_or ids k d)) [
          | inl same ↦ same ∙ so_far.gone k d (omega arith)
          | inr none ↦ none
        ]);
    named = named_still;
    fewer = fewer_still;
    stay = λ id none.
        stays id (λ d. none n on (omega arith) (subst (λ (x : MapId). Depends (names_in old) x id) (sym (is on)) (Depends-more names_fewer d)))
        ∙ so_far.stay id (λ k d below. none k d (omega arith));
  }

-- within a list the default doesn't matter
pub listed : (xs : List MapId) (k : ℕ) (a b : MapId) → k < length xs → get_or xs k b ≡ get_or xs k a
listed [] k a b h = absurd (omega arith)
listed (x ∷ xs) zero a b h = refl
listed (x ∷ xs) (suc k) a b h = listed xs k a b (omega arith)

pub forgetting-end : (old new : Resolutions) (ids : List MapId) (n : ℕ) → IsForgetting old ids n new → length ids ≡ n → AreForgotten old ids new
forgetting-end old new ids n done all = record {
  gone = λ id among. let below : among.0 < length ids = among.1 in
      subst (λ (x : MapId). kept_in new x ≡ None) among.2 (done.gone among.0 id (omega arith));
  named = done.named;
  fewer = done.fewer;
  stay =
      λ id none. done.stay id (λ k d below. none (get_or ids k d) (
        k,
        (let within : k < length ids = omega arith in within),
        listed ids k d (get_or ids k d)
            (omega arith),
      ));
}
