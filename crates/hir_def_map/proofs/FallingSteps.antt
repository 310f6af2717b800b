-- One map falls after another, and those on which others may still depend wait in a list.
use Rattle.std.proofs.Common.{◌≡◌, ◌∙◌, ap, sym, subst, refl, Bool, true, false, ◌||◌, is_some, cond, Option, Some, None, List, [], ◌∷◌, ◌++◌, ◌⊎◌, inl, inr}
use Rattle.std.proofs.Common.{◌+◌, ◌≤◌, length, arith}
use mathlib.Core.Bool.{true≢false}
use Rattle.std.specs.List.{list_any}
use Rattle.std.specs.BTreeMap.{btree_map_len, is_at, Updates}
use Rattle.std.specs.Vec.{vec_capacity, vec_len}
use Rattle.std.specs.declared.vec.Vec.{Vec}
use Rattle.std.specs.declared.alloc.Global.{Global}
use Rattle.std.proofs.lemmas.List.Folds.{list_any-append}
use Rattle.hir_nameres.specs.HirIds.declared.ids.MapId.{MapId}
use Rattle.hir_nameres.specs.HirIds.contracts.ids.MapIdOrd.TheImpl as map_order
use Rattle.hir_def_map.specs.Types.{Dependents, Finished}
use Rattle.hir_def_map.specs.Inner.Dependents.{HasRoom, is_dependent, IsIndexed}
use Rattle.hir_nameres.specs.Removal.{IsClosed, IsFalling, lacks_some, lists_in, lists_of}
use Rattle.hir_def_map.proofs.Falling.{Store, at, falling-start, falling-step, lacks_from, which_lacks}
use Rattle.hir_def_map.proofs.Joined.{own_id, same_id}

abbrev waits : List MapId → MapId → Bool
waits items id = list_any (is_at (map_order.ghosts.cmp id)) items

-- what is away and is listed waits
pub record IsHalfFallen (old now : Store) (items : List MapId) (id : MapId) : Type 0 where
  pub falls : IsFalling old now id
  pub away : (j : MapId) → waits items j ≡ true → at now j ≡ None
  pub waiting : (k j : MapId) → lists_in now k j ≡ true → at now j ≡ None → waits items j ≡ true

either_of : (a b : Bool) → (a || b) ≡ true → (a ≡ true) ⊎ (b ≡ true)
either_of true b e = inl refl
either_of false b e = inr e

or_right : (a b : Bool) → b ≡ true → (a || b) ≡ true
or_right true b e = refl
or_right false b e = e

or_left : (a b : Bool) → a ≡ true → (a || b) ≡ true
or_left a b e = ap (λ x. x || b) e

waits_last : (items : List MapId) (id : MapId) → waits (items ++ id ∷ []) id ≡ true
waits_last items id =
    list_any-append (is_at (map_order.ghosts.cmp id)) items (id ∷ []) ∙ or_right (waits items id) (waits (id ∷ []) id)
    (or_left (is_at (map_order.ghosts.cmp id) id) false (own_id id))

waits_before : (items : List MapId) (id j : MapId) → waits items j ≡ true → waits (items ++ id ∷ []) j ≡ true
waits_before items id j e = list_any-append (is_at (map_order.ghosts.cmp j)) items (id ∷ []) ∙ or_left (waits items j) (waits (id ∷ []) j) e

-- what waits in the longer list waits in the shorter one, or is the last
waits_either : (items : List MapId) (id j : MapId) → waits (items ++ id ∷ []) j ≡ true → (waits items j ≡ true) ⊎ (j ≡ id)
waits_either items id j e = elim (either_of (waits items j) (waits (id ∷ []) j) (sym (list_any-append (is_at (map_order.ghosts.cmp j)) items (id ∷ [])) ∙ e)) [
  | inl before ↦ inl before
  | inr last ↦ (elim (either_of (is_at (map_order.ghosts.cmp j) id) false last) [
    | inl same ↦ inr (same_id j id same)
    | inr none ↦ absurd (true≢false (sym none))
  ])
]

-- what lists something once a map is away listed it before
module _ (now new : Store) (next : MapId) (updates : Updates map_order.ghosts.cmp now new next None) where
  listed : (k j : MapId) → lists_in new k j ≡ true → lists_in now k j ≡ true
  listed k j e = go (is_at (map_order.ghosts.cmp next) k) refl (sym (ap (λ (o : Option Finished). lists_of o j) (updates.0 k)) ∙ e)
    where
      go : (b : Bool) → is_at (map_order.ghosts.cmp next) k ≡ b → lists_of (cond b None (at now k)) j ≡ true → lists_in now k j ≡ true
      go true s f = absurd cc
      go false s f = f

  -- what is away was before, or is that map
  gone : (j : MapId) → at new j ≡ None → (at now j ≡ None) ⊎ (j ≡ next)
  gone j e = go (is_at (map_order.ghosts.cmp next) j) refl
    where
      go : (b : Bool) → is_at (map_order.ghosts.cmp next) j ≡ b → (at now j ≡ None) ⊎ (j ≡ next)
      go true s = inr (sym (same_id next j s))
      go false s = inl (sym (updates.2 j s) ∙ e)

  still_gone : (j : MapId) → at now j ≡ None → at new j ≡ None
  still_gone j e = updates.0 j ∙ go (is_at (map_order.ghosts.cmp next) j) (at now j) e
    where
      go : (b : Bool) (o : Option Finished) → o ≡ None → cond b None o ≡ None
      go true o f = refl
      go false o f = f

pub half-start : (old now : Store) (before items : List MapId) (id : MapId) → IsClosed old → before ≡ [] → items ≡ before ++ id ∷ []
    → Updates map_order.ghosts.cmp old now id None → IsHalfFallen old now items id
half-start old now before items id closed empty e updates =
    let P : List MapId → Type 0 = λ x. IsHalfFallen old now x id in
    let one : items ≡ id ∷ [] = e ∙ ap (λ (x : List MapId). x ++ id ∷ []) empty in
    subst P (sym one) (record {
      falls = falling-start old now id updates;
      away = λ j w. elim (waits_either [] id j w) [
        | inl none ↦ absurd (true≢false (sym none))
        | inr same ↦ ap (at now) same ∙ updates.1
      ];
      waiting = λ k j l n. elim (gone old now id updates j n) [
        | inl was ↦ absurd (true≢false (sym (lacks_from old (at old k) j (listed old now id updates k j l) was) ∙ closed k))
        | inr same ↦ let Q : MapId → Type 0 = λ x. waits (id ∷ []) x ≡ true in subst Q (sym same) (waits_last [] id)
      ];
    })

-- that on which none depends any more doesn't wait
pub half-popped : (old now : Store) (items rest : List MapId) (on id : MapId) → IsHalfFallen old now items id → items ≡ rest ++ on ∷ []
    → ((k : MapId) → lists_in now k on ≡ false) → IsHalfFallen old now rest id
half-popped old now items rest on id half e none = record {
  falls = half.falls;
  away = λ j w. half.away j (ap (λ (x : List MapId). waits x j) e ∙ waits_before rest on j w);
  waiting = λ k j l n. elim (waits_either rest on j (sym (ap (λ (x : List MapId). waits x j) e) ∙ half.waiting k j l n)) [
    | inl before ↦ before
    | inr same ↦ absurd (true≢false (sym l ∙ ap (lists_in now k) same ∙ none k))
  ];
}

-- one that depends on what waits falls, and waits too
pub half-pushed : (old now new : Store) (items rest again more : List MapId) (on next id : MapId) → IsClosed old → IsHalfFallen old now items id
    → items ≡ rest ++ on ∷ [] → again ≡ rest ++ on ∷ [] → more ≡ again ++ next ∷ []
    → lists_in now next on ≡ true → Updates map_order.ghosts.cmp now new next None → IsHalfFallen old new more id
half-pushed old now new items rest again more on next id closed half e f g lists updates =
    let P : List MapId → Type 0 = λ x. IsHalfFallen old new x id in
    let all : more ≡ items ++ next ∷ [] = g ∙ ap (λ (x : List MapId). x ++ next ∷ []) (f ∙ sym e) in
    let away : at now on ≡ None = half.away on (ap (λ (x : List MapId). waits x on) e ∙ waits_last rest on) in
    subst P (sym all) (record {
      falls = falling-step old now new id next closed half.falls (lacks_from now (at now next) on lists away) updates;
      away = λ j w. elim (waits_either items next j w) [
        | inl before ↦ still_gone now new next updates j (half.away j before)
        | inr same ↦ ap (at new) same ∙ updates.1
      ];
      waiting = λ k j l n. elim (gone now new next updates j n) [
        | inl was ↦ waits_before items next j (half.waiting k j (listed now new next updates k j l) was)
        | inr same ↦ let Q : MapId → Type 0 = λ x. waits (items ++ next ∷ []) x ≡ true in subst Q (sym same) (waits_last items next)
      ];
    })

-- where none waits, none lists a missing one
pub half-end : (old now : Store) (items : List MapId) (id : MapId) → IsHalfFallen old now items id → items ≡ [] → IsClosed now
half-end old now items id half none k = go (lacks_some now (at now k)) refl
  where
    go : (b : Bool) → lacks_some now (at now k) ≡ b → b ≡ false
    go false s = refl
    go true s =
        let h = which_lacks now (at now k) s in
        absurd (true≢false (sym (half.waiting k h.0 h.1 h.2) ∙ ap (λ (x : List MapId). waits x h.0) none))

-- what depends on another one by the index lists it
pub listed_by_index : (maps : Store) (dependents : Dependents) (on id : MapId) → IsIndexed dependents maps → is_dependent dependents on id ≡ true
    → lists_in maps id on ≡ true
listed_by_index maps dependents on id indexed e = sym (indexed.each on id) ∙ e

pub none_listed : (maps : Store) (dependents : Dependents) (on : MapId) → IsIndexed dependents maps → ((id : MapId) → is_dependent dependents on id ≡ false)
    → (k : MapId) → lists_in maps k on ≡ false
none_listed maps dependents on indexed none k = sym (indexed.each on k) ∙ none k

-- what lists another one is there
pub there_if_lists : (maps : Store) (k j : MapId) → lists_in maps k j ≡ true → is_some (at maps k) ≡ true
there_if_lists maps k j e = go (at maps k) e
  where
    go : (o : Option Finished) → lists_of o j ≡ true → is_some o ≡ true
    go None f = absurd cc
    go (Some g) f = refl

-- ---- room for all that fall

none_of : (xs : List MapId) → length xs ≡ 0 → xs ≡ []
none_of [] e = refl
none_of (x ∷ xs) e = absurd cc

pub emptied : (falling : Vec MapId Global) → vec_len falling ≡ 0 → falling.items ≡ []
emptied falling none = none_of falling.items (sym falling.ok.0 ∙ none)

pub room_for : (falling : Vec MapId Global) (maps : Store) → HasRoom falling maps → btree_map_len maps + vec_len falling ≤ vec_capacity falling
room_for falling maps h =
    let none : vec_len falling ≡ 0 = falling.ok.0 ∙ ap length h.none in
    let room : btree_map_len maps ≤ vec_capacity falling = h.room in
    omega (arith, none, room)

pub room_left : (falling : Vec MapId Global) (maps : Store) → vec_len falling ≡ 0 → btree_map_len maps + vec_len falling ≤ vec_capacity falling
    → HasRoom falling maps
room_left falling maps none room = record {
  none = emptied falling none;
  room = omega (arith, none, room);
}

pub room_at_first : (falling : Vec MapId Global) (maps : Store) → falling.items ≡ [] → btree_map_len maps ≡ 0 → HasRoom falling maps
room_at_first falling maps none empty = record {
  none = none;
  room = omega (arith, empty);
}
