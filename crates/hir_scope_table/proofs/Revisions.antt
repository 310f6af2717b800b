-- What writing each entry anew makes of the namespaces.
use Rattle.std.proofs.Common.{◌≡◌, ◌∙◌, ap, sym, subst, refl, ℕ, zero, suc, ◌+◌, ◌<◌, true, false, Bool, not, ◌||◌, List, [], ◌∷◌, map, Option, None, Some}
use Rattle.std.proofs.Common.{cond, length, option_map, arith}
use mathlib.Core.Bool.{true≢false}
use Rattle.std.specs.Option.{is_some}
use Rattle.std.specs.Ordering.{nat_cmp}
use Rattle.std.specs.Cmp.Lexicographic.{slice_cmp}
use Rattle.std.specs.List.{slice_get, slice_set}
use Rattle.std.specs.List.Sorted.{IsStrictlySortedBy}
use Rattle.std.specs.Map.{keys_of}
use Rattle.hir_scope_table.specs.Entries.{any_value}
use Rattle.hir_scope_table.specs.Slots.{Slots, NamedSlots, before_others, in_slot, is_vacant, keys_where, types_in, values_in, macros_in, unresolved_in}
use Rattle.hir_scope_table.specs.Inner.Kept.{revised, revised_entry}
use Rattle.hir_scope_table.specs.Inner.Place.{IsKept}
use Rattle.hir_scope_table.proofs.Places.{there_is}

-- ---- a list of which the first items are written anew

module _ {X : Type 0} (f : X → X) where
  abbrev pub mapped_upto : ℕ → List X → List X
  mapped_upto zero xs = xs
  mapped_upto (suc i) [] = []
  mapped_upto (suc i) (x ∷ xs) = f x ∷ mapped_upto i xs

  pub length-mapped : (i : ℕ) (xs : List X) → length (mapped_upto i xs) ≡ length xs
  length-mapped zero xs = refl
  length-mapped (suc i) [] = refl
  length-mapped (suc i) (x ∷ xs) = ap suc (length-mapped i xs)

  pub mapped-all : (xs : List X) → mapped_upto (length xs) xs ≡ map f xs
  mapped-all [] = refl
  mapped-all (x ∷ xs) = ap (λ ys. f x ∷ ys) (mapped-all xs)

  pub mapped-more : (i : ℕ) (xs : List X) (x : X) → slice_get (mapped_upto i xs) i ≡ Some x → slice_set (mapped_upto i xs) i (f x) ≡ mapped_upto (suc i) xs
  mapped-more zero [] x h = refl
  mapped-more zero (y ∷ ys) x h = ap (λ (o : Option X). f (or o y) ∷ ys) (sym h)
    where
      or : Option X → X → X
      or None d = d
      or (Some z) d = z
  mapped-more (suc i) [] x h = refl
  mapped-more (suc i) (y ∷ ys) x h = ap (λ zs. f y ∷ zs) (mapped-more i ys x h)

  pub mapped-step : (i : ℕ) (xs cur new : List X) → cur ≡ mapped_upto i xs → i < length cur → ((x : X) → slice_get cur i ≡ Some x → new ≡ slice_set cur i (f x))
      → new ≡ mapped_upto (i + 1) xs
  mapped-step i xs cur new is l h =
      let at = there_is cur i l in
      let next : suc i ≡ i + 1 = omega arith in
      h at.0 at.1 ∙ ap (λ ys. slice_set ys i (f at.0)) is ∙ mapped-more i xs at.0 (subst (λ ys. slice_get ys i ≡ Some at.0) is at.1)
      ∙ ap (λ n. mapped_upto n xs) next

-- ---- the namespaces

module _ {K E X : Type 0} (slot : E → Option X) (edit : E → E) (item : X → X) (is : (e : E) → slot (edit e) ≡ option_map item (slot e)) where
  pub in_slot-mapped : (es : List (K × E)) → in_slot slot (map (λ e. (e.0, edit e.1)) es) ≡ map (λ e. (e.0, item e.1)) (in_slot slot es)
  in_slot-mapped [] = refl
  in_slot-mapped (e ∷ es) = ap (λ o. before_others e.0 o (in_slot slot (map (λ e. (e.0, edit e.1)) es))) (is e.1) ∙ go (slot e.1) (in_slot-mapped es)
    where
      go : (o : Option X) → in_slot slot (map (λ e. (e.0, edit e.1)) es) ≡ map (λ e. (e.0, item e.1)) (in_slot slot es)
          → before_others e.0 (option_map item o) (in_slot slot (map (λ e. (e.0, edit e.1)) es))
          ≡ map (λ e. (e.0, item e.1)) (before_others e.0 o (in_slot slot es))
      go None rest = rest
      go (Some x) rest = ap (λ xs. (e.0, item x) ∷ xs) rest

module _ {K E : Type 0} (test : E → Bool) (edit : E → E) (is : (e : E) → test (edit e) ≡ test e) where
  pub keys_where-mapped : (es : List (K × E)) → keys_where test (map (λ e. (e.0, edit e.1)) es) ≡ keys_where test es
  keys_where-mapped [] = refl
  keys_where-mapped (e ∷ es) = λ i. cond (is e.1 i) (e.0 ∷ keys_where-mapped es i) (keys_where-mapped es i)

  pub any_value-mapped : (es : List (K × E)) → any_value test (map (λ e. (e.0, edit e.1)) es) ≡ any_value test es
  any_value-mapped [] = refl
  any_value-mapped (e ∷ es) = λ i. is e.1 i || any_value-mapped es i

pub keys_of-mapped : {K E : Type 0} (edit : E → E) (es : List (K × E)) → keys_of (map (λ e. (e.0, edit e.1)) es) ≡ keys_of es
keys_of-mapped edit [] = refl
keys_of-mapped edit (e ∷ es) = ap (λ ks. e.0 ∷ ks) (keys_of-mapped edit es)

is_some-mapped : {X : Type 0} (f : X → X) (o : Option X) → is_some (option_map f o) ≡ is_some o
is_some-mapped f None = refl
is_some-mapped f (Some x) = refl

module _ {T V M : Type 0} (types : T → T) (values : V → V) (macros : M → M) where
  vacant-revised : (s : Slots T V M) → is_vacant (revised types values macros s) ≡ is_vacant s
  vacant-revised s = λ i. not (is_some-mapped types s.types i || (is_some-mapped values s.values i || (is_some-mapped macros s.macros i || s.unresolved)))

  pub kept-revised : (es : NamedSlots T V M) → IsKept es → IsKept (map (revised_entry types values macros) es)
  kept-revised es kept = record {
    ascends = subst (IsStrictlySortedBy (slice_cmp nat_cmp)) (sym (keys_of-mapped (revised types values macros) es)) kept.ascends;
    says = any_value-mapped is_vacant (revised types values macros) vacant-revised es ∙ kept.says;
  }
