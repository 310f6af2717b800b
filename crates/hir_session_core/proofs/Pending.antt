-- How the blocks are collected of which nothing is kept.
use Rattle.std.specs.Prelude.{is_none, is_some, IfSome}
use Rattle.std.proofs.Common.{◌≡◌, ◌∙◌, ◌⊎◌, inl, inr, zero, suc, ◌<◌, Bool, true, false, ◌&&◌, cond, List, [], ◌∷◌, ◌++◌, length, arith, refl, ap, sym, subst}
use Rattle.std.proofs.Common.{Option, Some, None, option_map, Contains}
use Rattle.std.specs.BTreeMap.{is_at}
use Rattle.std.specs.BTreeSet.{BTreeSet, insert_key}
use Rattle.std.specs.Cmp.{second_so}
use Rattle.std.specs.List.{All}
use Rattle.std.specs.Map.{lookup}
use Rattle.std.specs.Ordering.{is_eq, match_ordering}
use Rattle.std.specs.declared.cmp.Ordering.{Ordering}
use Rattle.std.specs.declared.cmp.Ordering.TheVariants.{Equal, Greater, Less}
use Rattle.std.proofs.lemmas.List.Elements.{All-contains, All-head, All-nil, All-tail, Contains-append_cases, Contains-append_left, Contains-append_right}
use Rattle.std.proofs.lemmas.Map.Views.{All-insert_key}
use Rattle.hir_session_state.specs.HirBase.Place.{PlaceValue}
use Rattle.hir_session_state.specs.HirIds.contracts.ids.CrateOrd.TheImpl as crate_order
use Rattle.hir_session_state.specs.HirBase.contracts.place.PlacePartialEq.TheImpl as place_eq
use Rattle.hir_session_state.specs.HirBase.declared.place.BlockPlace.{BlockPlace}
use Rattle.hir_session_state.specs.HirIds.declared.ids.Crate.{Crate}
use Rattle.hir_session_state.specs.HirBase.declared.place.PlaceElement.{PlaceElement}
use Rattle.hir_session_state.specs.HirItemTree.Source.{SourceValue}
use Rattle.hir_session_state.specs.Blocks.{Blocks, CrateBlocks, block_in, blocks_of, place_of_block, steps_cmp}
use Rattle.hir_session_state.specs.SessionState.{Resolution, SessionState, block_kept}
use Rattle.hir_session_state.specs.Standing.{is_set}
use Rattle.hir_session_state.proofs.Places.{exact_block}
use Rattle.hir_session_state.proofs.Truth.{clash, no_value, on_bool, one_value}
use Rattle.hir_session_sources.specs.BlockPlaces.{places_in, places_of}
use Rattle.hir_session_sources.specs.BlockTables.{steps_in}
use Rattle.hir_session_sources.proofs.BlockLemmas.{exact_crates, exact_steps, same_root}
use Rattle.hir_session_core.specs.Progress.{HasAllPending, pending_of, with_pending}
use Rattle.hir_session_core.specs.contracts.session.pending.PendingBlockOrd.TheImpl as pending_order
use Rattle.hir_session_core.specs.contracts.session.pending.PendingBlockOrd.TheImpl.Laws.{matches_eq-law as pending_ties}
use Rattle.hir_session_core.specs.declared.session.pending.PendingBlock.{PendingBlock}

-- ---- in lists

in_tail : {A : Type 0} (y : A) (xs : List A) (x : A) → Contains xs x → Contains (y ∷ xs) x
in_tail y xs x (n, below, is) = (suc n, omega arith, is)

pub head_or_tail : {A : Type 0} (y : A) (xs : List A) (x : A) → Contains (y ∷ xs) x → (y ≡ x) ⊎ Contains xs x
head_or_tail y xs x (zero, below, is) = inl is
head_or_tail y xs x (suc n, below, is) = inr (n, omega arith, is)

pub marked_none : {A : Type 0} (o : Option A) → is_none o ≡ true → o ≡ None
marked_none None e = refl
marked_none (Some x) e = clash e refl

pub on_some : {A : Type 0} {P Q : A → Type 0} (o : Option A) → ((x : A) → P x → Q x) → IfSome o P → IfSome o Q
on_some None f h = tt
on_some (Some x) f h = f x h

pub on_both : {A : Type 0} {P Q R : A → Type 0} (o : Option A) → IfSome o P → IfSome o Q → ((x : A) → P x → Q x → R x) → IfSome o R
on_both None p q f = tt
on_both (Some x) p q f = f x p q

-- ---- all blocks that are set

-- one that is found in a crate is among its places
in_crate : (krate : Crate) (steps : List PlaceElement) (own : CrateBlocks) → is_some (lookup (is_at (steps_cmp steps)) own) ≡ true
    → Contains (places_in krate own) (steps_in krate steps)
in_crate krate steps [] there = clash there refl
in_crate krate steps (e ∷ es) there = on_bool (is_at (steps_cmp steps) e.0)
    (λ on. (zero, omega arith, ap (steps_in krate) (sym (exact_steps.same steps e.0 on))))
    (λ off. in_tail (steps_in krate e.0) (places_in krate es) (steps_in krate steps)
    (in_crate krate steps es (sym (ap (λ (t : Bool). is_some (cond t (Some e.1) (lookup (is_at (steps_cmp steps)) es))) off) ∙ there)))

-- where some are stored of the crate
abbrev found_in : List PlaceElement → Option CrateBlocks → Bool
found_in steps None = false
found_in steps (Some own) = is_some (lookup (is_at (steps_cmp steps)) own)

among_all : (krate : Crate) (steps : List PlaceElement) (blocks : Blocks) → found_in steps (lookup (is_at (crate_order.ghosts.cmp krate)) blocks) ≡ true
    → Contains (places_of blocks) (steps_in krate steps)
among_all krate steps [] there = clash there refl
among_all krate steps (e ∷ es) there = on_bool (is_at (crate_order.ghosts.cmp krate) e.0)
    (λ on.
    let here : found_in steps (Some e.1) ≡ true = sym (ap (λ (t : Bool). found_in steps (cond t (Some e.1) (lookup (is_at (crate_order.ghosts.cmp krate)) es)))
    on) ∙ there in
    Contains-append_left (places_in e.0 e.1) (places_of es) (steps_in krate steps)
    (subst (λ (k : Crate). Contains (places_in k e.1) (steps_in krate steps)) (exact_crates.same krate e.0 on) (in_crate krate steps e.1 here)))
    (λ off. Contains-append_right (places_in e.0 e.1) (places_of es) (steps_in krate steps)
    (among_all krate steps es (sym (ap (λ (t : Bool). found_in steps (cond t (Some e.1) (lookup (is_at (crate_order.ghosts.cmp krate)) es))) off) ∙ there)))

-- each block that is set is among all places
set_listed : (blocks : Blocks) (b : BlockPlace) → is_set blocks b ≡ true → Contains (places_of blocks) (place_of_block b)
set_listed blocks b there =
    among_all b.holder.krate (place_of_block b).elements blocks (go (lookup (is_at (crate_order.ghosts.cmp b.holder.krate)) blocks) refl)
  where
    go : (o : Option CrateBlocks) → lookup (is_at (crate_order.ghosts.cmp b.holder.krate)) blocks ≡ o → found_in (place_of_block b).elements o ≡ true
    go None none = clash there (ap (λ (o : Option CrateBlocks). is_some (lookup (is_at (steps_cmp (place_of_block b).elements)) (blocks_of o))) none)
    go (Some own) some = sym (ap (λ (o : Option CrateBlocks). is_some (lookup (is_at (steps_cmp (place_of_block b).elements)) (blocks_of o))) some) ∙ there

-- ---- a block that is looked up by the steps to it

pub found_set : (blocks : Blocks) (b : BlockPlace) (at : PlaceValue) → Some (place_of_block b) ≡ option_map (λ (_ : SourceValue). at) (block_in blocks at)
    → (is_set blocks b ≡ true) × (place_of_block b ≡ at)
found_set blocks b at is = go (block_in blocks at) refl is
  where
    go : (o : Option SourceValue) → block_in blocks at ≡ o → Some (place_of_block b) ≡ option_map (λ (_ : SourceValue). at) o → (is_set blocks b ≡ true)
        × (place_of_block b ≡ at)
    go None e f = no_value (sym f)
    go (Some source) e f =
        let root : place_of_block b ≡ at = one_value f in
        (ap (λ (p : PlaceValue). is_some (block_in blocks p)) root ∙ ap (λ (o : Option SourceValue). is_some o) e, root)

pub found_none : (blocks : Blocks) (at : PlaceValue) → None ≡ option_map (λ (_ : SourceValue). at) (block_in blocks at) → (b : BlockPlace) → place_of_block b
    ≡ at → is_set blocks b ≡ false
found_none blocks at is b root = ap (λ (p : PlaceValue). is_some (block_in blocks p)) root ∙ go (block_in blocks at) is
  where
    go : (o : Option SourceValue) → None ≡ option_map (λ (_ : SourceValue). at) o → is_some o ≡ false
    go None f = refl
    go (Some source) f = no_value f

-- ---- pending blocks in their order

abbrev pending_cmp : PendingBlock → PendingBlock → Ordering
pending_cmp = pending_order.ghosts.cmp

abbrev pub IsOwn : PendingBlock → Type 0
IsOwn p = p ≡ pending_of p.place

-- some block that a place holds
abbrev some_block : PlaceValue → BlockPlace
some_block p = record { holder = p; id = record { hash = 0; index = 0 } }

pub same_place : (p q : PlaceValue) → place_eq.ghosts.eq p q ≡ true → p ≡ q
same_place p q e = ap (λ (b : BlockPlace). b.holder) (exact_block (some_block p) (some_block q) (ap (λ (b : Bool). b && true) e))

-- those that are tied have one place
tied : (x y : PendingBlock) → pending_cmp x y ≡ Equal → x.place ≡ y.place
tied x y e = same_place x.place y.place (second_so _ _ (pending_ties x y ∙ ap is_eq e))

pub inserted : (keys : List PendingBlock) (k : PendingBlock) → All IsOwn keys → IsOwn k → Contains (insert_key pending_cmp keys k) k
inserted [] k all own = (zero, omega arith, refl)
inserted (x ∷ xs) k all own = by (pending_cmp k x) refl (inserted xs k (All-tail IsOwn x xs all) own)
  where
    by : (r : Ordering) → pending_cmp k x ≡ r → Contains (insert_key pending_cmp xs k) k
        → Contains (match_ordering r (k ∷ x ∷ xs) (x ∷ xs) (x ∷ insert_key pending_cmp xs k)) k
    by Less e more = (zero, omega arith, refl)
    by Equal e more = (zero, omega arith, All-head IsOwn x xs all ∙ ap pending_of (sym (tied k x e)) ∙ sym own)
    by Greater e more = in_tail x (insert_key pending_cmp xs k) k more

pub still_in : (keys : List PendingBlock) (k y : PendingBlock) → Contains keys y → Contains (insert_key pending_cmp keys k) y
still_in [] k y h = absurd (let past : h.0 < 0 = h.1 in omega arith)
still_in (x ∷ xs) k y h = by (pending_cmp k x) (still_in xs k y)
  where
    by : (r : Ordering) → (Contains xs y → Contains (insert_key pending_cmp xs k) y)
        → Contains (match_ordering r (k ∷ x ∷ xs) (x ∷ xs) (x ∷ insert_key pending_cmp xs k)) y
    by Less more = in_tail k (x ∷ xs) y h
    by Equal more = h
    by Greater more = elim (head_or_tail x xs y h) [
      | inl is ↦ (zero, omega arith, is)
      | inr among ↦ in_tail x (insert_key pending_cmp xs k) y (more among)
    ]

-- ---- collecting

-- each block that is set and of which nothing is kept is among those that were collected, or among these that are left
pub record IsCollecting (s : SessionState) (pending : BTreeSet PendingBlock) (rest : List PlaceValue) : Type 0 where
  pub all : (b : BlockPlace) → is_set s.sources.blocks b ≡ true → block_kept s b ≡ None → Contains pending.keys (pending_of (place_of_block b))
      ⊎ Contains rest (place_of_block b)
  pub own : All IsOwn pending.keys

pub collecting-start : (s : SessionState) (pending : BTreeSet PendingBlock) (places : List PlaceValue) → pending.keys ≡ [] → places ≡ places_of s.sources.blocks
    → IsCollecting s pending places
collecting-start s pending places empty is = record {
  all = λ b set none. inr (subst (λ (ps : List PlaceValue). Contains ps (place_of_block b)) (sym is) (set_listed s.sources.blocks b set));
  own = subst (λ (ks : List PendingBlock). All IsOwn ks) (sym empty) (All-nil IsOwn);
}

module _ (s : SessionState) (pending new : BTreeSet PendingBlock) (b : BlockPlace) (rest : List PlaceValue)
    (p : IsCollecting s pending (place_of_block b ∷ rest)) where
  -- one of which something is kept is no more
  skip : is_none (block_kept s b) ≡ false → new.keys ≡ pending.keys → IsCollecting s new rest
  skip some is = record {
    all = λ c set none. subst (λ (ks : List PendingBlock). Contains ks (pending_of (place_of_block c)) ⊎ Contains rest (place_of_block c)) (sym is)
        (elim (p.all c set none) [
          | inl among ↦ inl among
          | inr left ↦ elim (head_or_tail (place_of_block b) rest (place_of_block c) left) [
            | inl same ↦ clash (ap (λ (x : BlockPlace). is_none (block_kept s x)) (same_root b c same) ∙ ap (λ (o : Option Resolution). is_none o) none) some
            | inr more ↦ inr more
          ]
        ]);
    own = subst (λ (ks : List PendingBlock). All IsOwn ks) (sym is) p.own;
  }

  more_of : new.keys ≡ insert_key pending_cmp pending.keys (pending_of (place_of_block b)) → IsCollecting s new rest
  more_of is = record {
    all = λ c set none. subst (λ (ks : List PendingBlock). Contains ks (pending_of (place_of_block c)) ⊎ Contains rest (place_of_block c)) (sym is)
        (elim (p.all c set none) [
          | inl among ↦ inl (still_in pending.keys (pending_of (place_of_block b)) (pending_of (place_of_block c)) among)
          | inr left ↦ elim (head_or_tail (place_of_block b) rest (place_of_block c) left) [
            | inl same ↦ inl (subst (λ (place : PlaceValue). Contains (insert_key pending_cmp pending.keys (pending_of (place_of_block b))) (pending_of place))
                same
                (inserted pending.keys (pending_of (place_of_block b)) p.own refl))
            | inr more ↦ inr more
          ]
        ]);
    own = subst (λ (ks : List PendingBlock). All IsOwn ks) (sym is) (All-insert_key pending_cmp (pending_of (place_of_block b)) IsOwn pending.keys p.own refl);
  }

  pub collecting-more : new.keys ≡ with_pending s b pending.keys → IsCollecting s new rest
  collecting-more is = on_bool (is_none (block_kept s b))
      (λ on. more_of (is ∙ ap (λ (t : Bool). cond t (insert_key pending_cmp pending.keys (pending_of (place_of_block b))) pending.keys) on))
      (λ off. skip off (is ∙ ap (λ (t : Bool). cond t (insert_key pending_cmp pending.keys (pending_of (place_of_block b))) pending.keys) off))

-- the order of what is left doesn't matter
pub collecting-last : (s : SessionState) (pending : BTreeSet PendingBlock) (x : PlaceValue) (rest : List PlaceValue) → IsCollecting s pending (rest ++ x ∷ [])
    → IsCollecting s pending (x ∷ rest)
collecting-last s pending x rest p = record {
  all = λ b set none. elim (p.all b set none) [
    | inl among ↦ inl among
    | inr left ↦ inr (elim (Contains-append_cases rest (x ∷ []) (place_of_block b) left) [
      | inl early ↦ in_tail x rest (place_of_block b) early
      | inr last ↦ here (place_of_block b) last
    ])
  ];
  own = p.own;
}
  where
    here : (y : PlaceValue) → Contains (x ∷ []) y → Contains (x ∷ rest) y
    here y (zero, within, is) = (zero, omega arith, is)
    here y (suc n, within, is) = absurd (let past : suc n < 1 = within in omega arith)

pub collecting-end : (s : SessionState) (pending : BTreeSet PendingBlock) (rest : List PlaceValue) → length rest ≡ 0 → IsCollecting s pending rest
    → HasAllPending s pending.keys
collecting-end s pending (x ∷ xs) none p = absurd (let some : suc (length xs) ≡ 0 = none in omega arith)
collecting-end s pending [] none p = record {
  all = λ b set none. elim (p.all b set none) [
    | inl among ↦ among
    | inr left ↦ absurd (let past : left.0 < 0 = left.1 in omega arith)
  ];
  own = λ x among. All-contains IsOwn pending.keys x p.own among;
}
