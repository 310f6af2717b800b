-- The keys that were judged so far, and the places that asked for them.
use Rattle.std.proofs.Common.{◌≡◌, ◌≢◌, ◌⊎◌, ◌∙◌, ap, sym, subst, refl, inl, inr, ◌<◌, Bool, true, false, ◌||◌, cond, Option, Some, None, List, [], ◌∷◌}
use Rattle.std.proofs.Common.{arith, Contains, slice_get}
use Rattle.std.specs.List.{list_any}
use Rattle.std.specs.BTreeMap.{get, is_at}
use Rattle.std.specs.BTreeSet.{contains}
use Rattle.std.specs.Map.{lookup}
use Rattle.std.specs.Ordering.{is_eq}
use Rattle.std.proofs.lemmas.List.Elements.{Contains-append_left, Contains-append_right, Contains-append_cases, Contains-push, Contains-push_cases}
use Rattle.std.proofs.lemmas.Map.Lookups.{CmpEqualImpliesEq}
use Rattle.std.proofs.lemmas.Map.Views.{btree_set_contains_iff}
use Rattle.hir_session_state.specs.HirIds.declared.ids.MapId.{MapId}
use Rattle.hir_session_state.specs.HirIds.contracts.ids.MapIdOrd.TheImpl as map_order
use Rattle.hir_session_state.specs.HirIds.contracts.ids.MapIdOrd.TheImpl.Laws.{total-law as order_total}
use Rattle.hir_session_state.specs.HirDefMapRules.Overlay.{no_maps}
use Rattle.hir_session_state.specs.HirTables.Tables.{TablesValue}
use Rattle.hir_session_state.specs.HirCollectorRules.Keys.{look}
use Rattle.hir_session_state.specs.HirCollectorRules.Workspace.{Workspace}
use Rattle.hir_session_state.specs.HirCollectorRules.declared.source_database.Key.{Key}
use Rattle.hir_session_state.specs.HirCollectorRules.contracts.source_database.KeyOrd.TheImpl as key_order
use Rattle.hir_session_state.specs.Askers.{HoldsExactly, KeyAskers, asked_by, has_asked, has_asked_in, in_front, is_first, is_in, listed}
use Rattle.hir_session_state.specs.declared.askers.KeyPlaces.{KeyPlaces}
use Rattle.hir_session_state.specs.Crates.{CrateValue}
use Rattle.hir_session_state.specs.EditedSources.{AreHit, AreJudged, IsAsked, IsHit, IsJudged}
use Rattle.hir_session_state.specs.EditedSources.IsJudged.{hit, missed}
use Rattle.hir_session_state.specs.Kept.{Resolution, Resolutions, kept_in}
use Rattle.hir_session_state.specs.SourceEdits.{SourceEditValue, edited, place_of}
use Rattle.hir_session_state.specs.SourceNumbers.{IsNumberOf, asks, place_at}
use Rattle.hir_session_state.specs.SourceTable.{SourceTable, workspace_in}
use Rattle.hir_session_state.specs.NumberCodes.{number_code}
use Rattle.hir_session_state.specs.declared.askers.Askers.{Askers}
use Rattle.hir_session_state.specs.declared.source_number.SourceNumber.{SourceNumber}
use Rattle.hir_session_state.proofs.Asking.{among_keys}
use Rattle.hir_session_state.proofs.Depending.{any-found, found-any}
use Rattle.hir_session_state.proofs.Ids.{equal_id, own_id}
use Rattle.hir_session_state.proofs.KeyIds.{equal_key, own_key}
use Rattle.hir_session_state.proofs.NumberLemmas.{unasked-place, unnumbered-place}
use Rattle.hir_session_state.proofs.Truth.{and_left, both_true, clash, on_bool, or_first, or_left, or_right}
use Rattle.hir_session_sources.proofs.SourceLemmas.{look-apart}

abbrev is_key : Key → Key → Bool
is_key key = is_at (key_order.ghosts.cmp key)

-- no two ids are tied
exact_ids : CmpEqualImpliesEq map_order.ghosts.cmp
exact_ids a b tied = equal_id a b (ap is_eq tied)

here : (own id : MapId) → own ≡ id → Contains (own ∷ []) id
here own id e = subst (λ (x : MapId). Contains (own ∷ []) x) e (Contains-push [] own)

of_here : (own id : MapId) → Contains (own ∷ []) id → own ≡ id
of_here own id among = elim (Contains-push_cases [] own id among) [
  | inl none ↦ absurd (let past : none.0 < 0 = none.1 in omega arith)
  | inr is ↦ is
]

-- a place is among those of a key exactly if it is listed
in_list : (places : KeyPlaces) (id : MapId) → is_in (Some places) id ≡ true → Contains (listed places) id
in_list places id = go places.first
  where
    go : (first : Option MapId) → (is_first first id || contains map_order.ghosts.cmp places.others id) ≡ true → Contains (in_front first places.others.keys) id
    go None has = (btree_set_contains_iff order_total exact_ids places.others id).0 has
    go (Some own) has = on_bool (is_at (map_order.ghosts.cmp own) id)
        (λ on. Contains-append_left (own ∷ []) places.others.keys id (here own id (equal_id own id on)))
        (λ off. Contains-append_right (own ∷ []) places.others.keys id ((btree_set_contains_iff order_total exact_ids places.others id).0
        (or_first (is_at (map_order.ghosts.cmp own) id) (contains map_order.ghosts.cmp places.others id) has off)))

of_list : (places : KeyPlaces) (id : MapId) → Contains (listed places) id → is_in (Some places) id ≡ true
of_list places id = go places.first
  where
    go : (first : Option MapId) → Contains (in_front first places.others.keys) id → (is_first first id || contains map_order.ghosts.cmp places.others id) ≡ true
    go None among = (btree_set_contains_iff order_total exact_ids places.others id).1 among
    go (Some own) among = elim (Contains-append_cases (own ∷ []) places.others.keys id among) [
      | inl this ↦ or_left (is_at (map_order.ghosts.cmp own) id) (contains map_order.ghosts.cmp places.others id)
          (ap (is_at (map_order.ghosts.cmp own)) (sym (of_here own id this)) ∙ own_id own)
      | inr late ↦ or_right (is_at (map_order.ghosts.cmp own) id) (contains map_order.ghosts.cmp places.others id)
          ((btree_set_contains_iff order_total exact_ids places.others id).1 late)
    ]

-- ---- one key after another

-- each place that is hit asked for a key that is altered, and each that asked for a key that is not left and altered is hit
pub record IsJudging (tables : TablesValue) (v w : Workspace) (askers : KeyAskers) (left : List (Key × KeyPlaces)) (hits : List MapId) : Type 0 where
  pub asked : (id : MapId) → Contains hits id → IsHit tables v w (Some askers) id
  pub missed : (key : Key) (id : MapId) → has_asked askers key id ≡ true
      → (is_in (lookup (is_key key) left) id ≡ true) ⊎ (Contains hits id ⊎ (look tables w no_maps key ≡ look tables v no_maps key))

pub judging-start : (tables : TablesValue) (v w : Workspace) (askers : KeyAskers) (left : List (Key × KeyPlaces)) → left ≡ askers.entries
    → IsJudging tables v w askers left []
judging-start tables v w askers left start = record {
  asked = λ id among. absurd (let past : among.0 < 0 = among.1 in omega arith);
  missed = λ key id has. inl (ap (λ (es : List (Key × KeyPlaces)). is_in (lookup (is_key key) es) id) start ∙ has);
}

module _ (tables : TablesValue) (v w : Workspace) (askers : KeyAskers) (before left : List (Key × KeyPlaces)) (next : Key) (places : KeyPlaces)
    (taken : before ≡ (next, places) ∷ left) (stands : get key_order.ghosts.cmp askers next ≡ Some places) where
  -- a place that asked for a key of those that were left asked for this one, or for one that is left
  this_or_left : (key : Key) (id : MapId) → is_in (lookup (is_key key) before) id ≡ true
      → ((next ≡ key) × Contains (listed places) id) ⊎ (is_in (lookup (is_key key) left) id ≡ true)
  this_or_left key id has =
      go (is_key key next) refl (sym (ap (λ (es : List (Key × KeyPlaces)). is_in (lookup (is_key key) es) id) taken) ∙ has)
    where
      go : (b : Bool) → is_key key next ≡ b → is_in (cond b (Some places) (lookup (is_key key) left)) id ≡ true
          → ((next ≡ key) × Contains (listed places) id) ⊎ (is_in (lookup (is_key key) left) id ≡ true)
      go true on e = inl (sym (equal_key key next on), in_list places id e)
      go false off e = inr e

  -- one more key was judged
  pub judging-more : (old new : List MapId) → IsJudging tables v w askers before old → IsJudged tables v w next (listed places) old new
      → IsJudging tables v w askers left new
  judging-more old new so_far (hit altered is) = subst (λ (hits : List MapId). IsJudging tables v w askers left hits) (sym is) (record {
    asked = λ id among. elim (Contains-append_cases old (listed places) id among) [
      | inl early ↦ so_far.asked id early
      | inr late ↦ record {
        key = next;
        asked = ap (λ (o : Option KeyPlaces). is_in o id) stands ∙ of_list places id late;
        altered = altered;
      }
    ];
    missed = λ key id has. elim (so_far.missed key id has) [
      | inl was_left ↦ elim (this_or_left key id was_left) [
        | inl this ↦ inr (inl (Contains-append_right old (listed places) id this.1))
        | inr is_left ↦ inl is_left
      ]
      | inr judged ↦ elim judged [
        | inl early ↦ inr (inl (Contains-append_left old (listed places) id early))
        | inr same ↦ inr (inr same)
      ]
    ];
  })
  judging-more old new so_far (missed same is) = subst (λ (hits : List MapId). IsJudging tables v w askers left hits) (sym is) (record {
    asked = so_far.asked;
    missed = λ key id has. elim (so_far.missed key id has) [
      | inl was_left ↦ elim (this_or_left key id was_left) [
        | inl this ↦ inr (inr (subst (λ (k : Key). look tables w no_maps k ≡ look tables v no_maps k) this.0 same))
        | inr is_left ↦ inl is_left
      ]
      | inr judged ↦ inr judged
    ];
  })

-- none is left
pub judging-end : (tables : TablesValue) (v w : Workspace) (askers : KeyAskers) (left : List (Key × KeyPlaces)) (hits : List MapId) → left ≡ []
    → IsJudging tables v w askers left hits → AreJudged tables v w (Some askers) hits
judging-end tables v w askers left hits end judging = record {
  asked = judging.asked;
  missed = λ key id has. elim (judging.missed key id has) [
    | inl is_left ↦ clash (sym (ap (λ (es : List (Key × KeyPlaces)). is_in (lookup (is_key key) es) id) end) ∙ is_left) refl
    | inr judged ↦ judged
  ];
}

-- where there are no keys
pub judged_none : (tables : TablesValue) (v w : Workspace) (hits : List MapId) → hits ≡ [] → AreJudged tables v w None hits
judged_none tables v w hits none = subst (λ (ids : List MapId). AreJudged tables v w None ids) (sym none) (record {
  asked = λ id among. absurd (let past : among.0 < 0 = among.1 in omega arith);
  missed = λ key id has. clash has refl;
})

-- ---- the places that asked

-- a kept run asked for a key
record IsAskedBy (kept : Resolutions) (id : MapId) (key : Key) : Type 0 where
  found : Resolution
  is : kept_in kept id ≡ Some found
  among : Contains found.asked key

asked_at : (tables : TablesValue) (kept : Resolutions) (number : SourceNumber) (key : Key) (id : MapId)
    → asked_by tables (kept_in kept id) number key ≡ true → IsAskedBy kept id key
asked_at tables kept number key id asked = go (kept_in kept id) refl asked
  where
    go : (o : Option Resolution) → kept_in kept id ≡ o → asked_by tables o number key ≡ true → IsAskedBy kept id key
    go None is e = clash e refl
    go (Some r) is e = record { found = r; is = is; among = among_keys r.asked key (and_left (list_any (is_key key) r.asked) (asks tables number key) e) }

module _ (crates : List CrateValue) (tables : TablesValue) (t : SourceTable) (edit : SourceEditValue) (number : SourceNumber)
    (numbered : IsNumberOf tables (place_of edit) number) (askers : Askers) (keys : Option KeyAskers)
    (is : keys ≡ slice_get askers.by_source.items (number_code number)) (hits : List MapId)
    (judged : AreJudged tables (workspace_in crates t) (workspace_in crates (edited t edit)) keys hits)
    (kept : Resolutions) (held : HoldsExactly tables kept askers) where
  -- a place is entered at a key of the source exactly if its kept run asked for it
  entered : (key : Key) (id : MapId) → has_asked_in keys key id ≡ asked_by tables (kept_in kept id) number key
  entered key id = ap (λ (o : Option KeyAskers). has_asked_in o key id) is ∙ held.each number key id

  by_asked : (id : MapId) → Contains hits id → IsAsked tables (workspace_in crates t) (workspace_in crates (edited t edit)) (kept_in kept id)
  by_asked id among =
      let one = judged.asked id among in
      let run = asked_at tables kept number one.key id (sym (entered one.key id) ∙ one.asked) in
      record { found = run.found; is = run.is; altered = record { key = one.key; asked = run.among; altered = one.altered } }

  -- a key for which a place asked that isn't hit is unaltered
  unaltered : (id : MapId) (r : Resolution) → kept_in kept id ≡ Some r → list_any (is_at (map_order.ghosts.cmp id)) hits ≡ false → (key : Key)
      → Contains r.asked key
      → look tables (workspace_in crates (edited t edit)) no_maps key ≡ look tables (workspace_in crates t) no_maps key
  unaltered id r found off key among = on_bool (asks tables number key)
      (λ asking.
      let there : asked_by tables (Some r) number key ≡ true =
      both_true (list_any (is_key key) r.asked) (asks tables number key) (any-found (is_key key) r.asked key among (own_key key)) asking in
      elim (judged.missed key id (entered key id ∙ ap (λ (o : Option Resolution). asked_by tables o number key) found ∙ there)) [
        | inl is_hit ↦ clash (any-found (is_at (map_order.ghosts.cmp id)) hits id is_hit (own_id id)) off
        | inr same ↦ same
      ])
      (λ not_asking. look-apart crates tables t edit key (unasked-place tables (place_of edit) number numbered key not_asking))

  -- those are hit whose runs asked for a key that is altered
  pub all_judged : AreHit tables (workspace_in crates t) (workspace_in crates (edited t edit)) kept hits
  all_judged = record {
    asked = by_asked;
    missed = λ id r found. on_bool (list_any (is_at (map_order.ghosts.cmp id)) hits)
        (λ on.
        let one = found-any (is_at (map_order.ghosts.cmp id)) hits on in
        inl (subst (λ (x : MapId). Contains hits x) (sym (equal_id id one.0 one.2)) one.1))
        (λ off. inr (record { crates = refl; same = unaltered id r found off }));
  }

-- no run names a source without a number
pub unnumbered_hit : (crates : List CrateValue) (tables : TablesValue) (t : SourceTable) (edit : SourceEditValue) (kept : Resolutions) (hits : List MapId)
    → hits ≡ []
    → ((number : SourceNumber) → place_at tables number ≢ Some (place_of edit)) → AreHit tables (workspace_in crates t) (workspace_in crates (edited t edit))
    kept hits
unnumbered_hit crates tables t edit kept hits none apart =
    subst (λ (ids : List MapId). AreHit tables (workspace_in crates t) (workspace_in crates (edited t edit)) kept ids) (sym none) (record {
      asked = λ id among. absurd (let past : among.0 < 0 = among.1 in omega arith);
      missed = λ id r is. inr (record {
        crates = refl;
        same = λ key among. look-apart crates tables t edit key (unnumbered-place tables (place_of edit) apart key);
      });
    })
