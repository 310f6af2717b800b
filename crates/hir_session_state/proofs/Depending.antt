-- What is listed as a crate's transitive dependencies is what it depends on.
use Rattle.std.proofs.Common.{◌≡◌, ◌↔◌, ℕ, zero, suc, ◌<◌, Bool, true, false, List, [], ◌∷◌, length, refl, arith, Contains, nat_le}
use Rattle.std.proofs.lemmas.Bool.Decides.{nat_tests}
use Rattle.std.proofs.lemmas.List.Folds.{list_any_at}
use Rattle.std.specs.List.{list_any}
use Rattle.hir_collector_rules.specs.HirIds.declared.ids.Crate.{Crate}
use Rattle.hir_collector_rules.specs.HirCrateGraph.CrateSet.{has_crate}
use Rattle.hir_collector_rules.specs.HirCrateGraph.Dependencies.{DependsOn, has_late}
use Rattle.hir_collector_rules.proofs.HirCrateGraph.Closure.{transitive_agree}
use Rattle.hir_collector_rules.proofs.Dependencies.{all_earlier, among_earlier, ordered_by}
use Rattle.hir_session_state.specs.Crates.{config_in, dependencies_in, named_in, transitive_in}
use Rattle.hir_session_state.specs.SessionState.{SessionState, dependencies_of, IsSound}
use Rattle.hir_session_state.proofs.Truth.{clash, on_bool, or_first}

-- where no element passes, none does
pub none_of : {A : Type 0} (test : A → Bool) (xs : List A) → ((x : A) → Contains xs x → test x ≡ false) → list_any test xs ≡ false
none_of test [] f = refl
none_of test (x ∷ xs) f =
    let here : test x ≡ false = f x (zero, omega arith, refl) in
    let rest : list_any test xs ≡ false = none_of test xs (λ y h. f y (suc h.0, (let below : h.0 < length xs = h.1 in omega arith), h.2)) in
    rw (here, rest) refl

-- an element that passes is found
pub any-found : {A : Type 0} (test : A → Bool) (xs : List A) (x : A) → Contains xs x → test x ≡ true → list_any test xs ≡ true
any-found test xs x h passes = list_any_at test xs h.0 x h.1 (rw h.2 passes)

-- and what is found is an element that passes
pub found-any : {A : Type 0} (test : A → Bool) (xs : List A) → list_any test xs ≡ true → (x : A) × Contains xs x × (test x ≡ true)
found-any test [] h = clash h refl
found-any test (x ∷ xs) h = on_bool (test x)
    (λ on. (x, (zero, omega arith, refl), on))
    (λ off. let rest : list_any test xs ≡ true = or_first _ _ h off in
    let there = found-any test xs rest in (there.0, (suc there.1.0, (let below : there.1.0 < length xs = there.1.1 in omega arith), there.1.2), there.2))

-- a direct dependency comes before its crate
pub direct_below : (s : SessionState) (k : ℕ) (d : Crate) → Contains (dependencies_of s k) d → d.0 < k
direct_below s k d among = (among_earlier k (named_in s.crates k) d among).1

-- a number below another is not at least that
not_le : (k d : ℕ) → d < k → nat_le k d ≡ false
not_le k d lower = grind (arith, nat_tests, lower)

-- crates that come before one are none of them late for it
early : (k : ℕ) (ds : List Crate) → ((d : Crate) → Contains ds d → d.0 < k) → has_late k ds ≡ false
early k ds before = none_of (λ (d : Crate). nat_le k d.0) ds (λ d among. not_le k d.0 (before d among))

-- those of a crate of a session
pub depended : {s : SessionState} → IsSound s → (k : ℕ) (c : Crate) → (has_crate (transitive_in s.crates k) c ≡ true) ↔ DependsOn (dependencies_of s) k c.0
depended {s} sound k c = transitive_agree (dependencies_in s.crates) k (ordered_by (config_in s.crates) (suc k)) c

-- each crate that one names as a dependency is one
pub named_direct : {s : SessionState} → IsSound s → (k : ℕ) → dependencies_of s k ≡ named_in s.crates k
named_direct {s} sound k = all_earlier k (named_in s.crates k) (early k (named_in s.crates k) (λ d among. sound.below k d among))
