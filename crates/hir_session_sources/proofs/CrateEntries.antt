-- What is stored under crates, before a change under one of them and after it.
use Rattle.std.proofs.Common.{◌≡◌, ◌∙◌, ap, sym, refl, Bool, true, false, filter, nat_eq, if◌then◌else◌, List, [], Option, Some, None}
use Rattle.std.specs.BTreeMap.{BTreeMap, is_at}
use Rattle.hir_session_state.specs.HirIds.declared.ids.Crate.{Crate}
use Rattle.hir_session_state.specs.HirIds.contracts.ids.CrateOrd.TheImpl as crate_order
use Rattle.hir_session_state.specs.HirIds.contracts.ids.CrateOrd.TheImpl.Laws.{matches_eq-law as crates_tie}
use Rattle.hir_session_state.proofs.Truth.{on_bool}
use Rattle.hir_session_sources.specs.ByCrate.{entries_of}
use Rattle.hir_session_sources.proofs.Changing.{equal_crate}

-- ---- what holds at one crate and at each other one

pub then_of : {A : Type 0} (x y z : A) (b : Bool) → x ≡ (if b then y else z) → b ≡ true → x ≡ y
then_of x y z b e on = e ∙ ap (λ (c : Bool). if c then y else z) on

pub else_of : {A : Type 0} (x y z : A) (b : Bool) → x ≡ (if b then y else z) → b ≡ false → x ≡ z
else_of x y z b e off = e ∙ ap (λ (c : Bool). if c then y else z) off

of_then : {A : Type 0} (x y z : A) (b : Bool) → x ≡ y → b ≡ true → x ≡ (if b then y else z)
of_then x y z b e on = e ∙ sym (ap (λ (c : Bool). if c then y else z) on)

of_else : {A : Type 0} (x y z : A) (b : Bool) → x ≡ z → b ≡ false → x ≡ (if b then y else z)
of_else x y z b e off = e ∙ sym (ap (λ (c : Bool). if c then y else z) off)

-- the test at a crate is that of its number
pub crate_test : (a b : Crate) → nat_eq a.0 b.0 ≡ is_at (crate_order.ghosts.cmp a) b
crate_test a b = crates_tie a b

-- ---- a change under a crate

module _ {K V : Type 0} (krate : Crate) (old new : Crate → Option (BTreeMap K V)) where
  -- the entries of the crate are these, and each other crate has what it had
  pub entries_become : (is : BTreeMap K V) (these : List (K × V) → List (K × V))
      → ((c : Crate) → new c ≡ (if is_at (crate_order.ghosts.cmp krate) c then Some is else old c))
      → is.entries ≡ these (entries_of (old krate))
      → (c : Crate) → entries_of (new c) ≡ (if is_at (crate_order.ghosts.cmp krate) c then these (entries_of (old c)) else entries_of (old c))
  entries_become is these becomes there c = on_bool (is_at (crate_order.ghosts.cmp krate) c)
      (λ on. of_then (entries_of (new c)) (these (entries_of (old c))) (entries_of (old c)) (is_at (crate_order.ghosts.cmp krate) c)
      (ap entries_of (then_of (new c) (Some is) (old c) (is_at (crate_order.ghosts.cmp krate) c) (becomes c) on)
      ∙ there ∙ ap (λ (k : Crate). these (entries_of (old k))) (equal_crate krate c on)) on)
      (λ off. of_else (entries_of (new c)) (these (entries_of (old c))) (entries_of (old c)) (is_at (crate_order.ghosts.cmp krate) c)
      (ap entries_of (else_of (new c) (Some is) (old c) (is_at (crate_order.ghosts.cmp krate) c) (becomes c) off)) off)

  -- the crate has what it had too
  pub entries_stay : (is : BTreeMap K V)
      → ((c : Crate) → new c ≡ (if is_at (crate_order.ghosts.cmp krate) c then Some is else old c))
      → is.entries ≡ entries_of (old krate)
      → (c : Crate) → entries_of (new c) ≡ entries_of (old c)
  entries_stay is becomes there c = on_bool (is_at (crate_order.ghosts.cmp krate) c)
      (λ on. ap entries_of (then_of (new c) (Some is) (old c) (is_at (crate_order.ghosts.cmp krate) c) (becomes c) on)
      ∙ there ∙ ap (λ (k : Crate). entries_of (old k)) (equal_crate krate c on))
      (λ off. ap entries_of (else_of (new c) (Some is) (old c) (is_at (crate_order.ghosts.cmp krate) c) (becomes c) off))

-- a change that leaves no entries where there are none changes nothing where the crate has none
pub none_become : {K V : Type 0} (krate : Crate) (old : Crate → Option (BTreeMap K V)) (these : List (K × V) → List (K × V)) → these [] ≡ [] → None ≡ old krate
    → (c : Crate) → entries_of (old c) ≡ (if is_at (crate_order.ghosts.cmp krate) c then these (entries_of (old c)) else entries_of (old c))
none_become krate old these empty none c = on_bool (is_at (crate_order.ghosts.cmp krate) c)
    (λ on.
    let nothing : entries_of (old c) ≡ [] = ap (λ (k : Crate). entries_of (old k)) (sym (equal_crate krate c on)) ∙ ap entries_of (sym none) in
    of_then (entries_of (old c)) (these (entries_of (old c))) (entries_of (old c)) (is_at (crate_order.ghosts.cmp krate) c)
    (nothing ∙ sym (ap these nothing ∙ empty)) on)
    (λ off. of_else (entries_of (old c)) (these (entries_of (old c))) (entries_of (old c)) (is_at (crate_order.ghosts.cmp krate) c) refl off)

-- none are left out where the crate has none
pub none_left_out : {K V : Type 0} (krate : Crate) (old : Crate → Option (BTreeMap K V)) (test : K × V → Bool) → None ≡ old krate
    → (c : Crate) → entries_of (old c) ≡ (if is_at (crate_order.ghosts.cmp krate) c then filter test (entries_of (old c)) else entries_of (old c))
none_left_out krate old test none c = none_become krate old (filter test) refl none c
