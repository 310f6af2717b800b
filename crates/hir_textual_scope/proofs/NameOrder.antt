-- How names are ordered, and what lists of macros in order have.
use Rattle.std.proofs.Common.{Ordering, Less, Equal, Greater, ◌≡◌, ℕ, true, false, List, [], ◌∷◌, ◌++◌, refl, sym, ap, ◌∙◌}
use Rattle.std.specs.List.{All}
use Rattle.std.specs.Prelude.{nat_eq}
use Rattle.std.specs.Cmp.Lexicographic.{pointwise, slice_cmp}
use Rattle.std.specs.Ordering.{nat_cmp, is_eq, is_lt, is_gt, ordering_reverse}
use Rattle.std.proofs.lemmas.Cmp.{nat_list_cmp_total, upto, alike_right}
use Rattle.std.proofs.lemmas.Map.Text.{is_eq-slice_cmp}
use Rattle.std.proofs.lemmas.List.Elements.{All-nil, All-cons, All-head, All-tail}
use Rattle.hir_textual_scope.specs.Types.{TextualMacro}
use Rattle.hir_textual_scope.specs.Node.{is_before, IsInOrder}

is_lt-reverse : (r : Ordering) → is_lt (ordering_reverse r) ≡ is_gt r
is_lt-reverse Less = refl
is_lt-reverse Equal = refl
is_lt-reverse Greater = refl

is_lt-reverse_of_lt : (r : Ordering) → is_lt r ≡ true → is_lt (ordering_reverse r) ≡ false
is_lt-reverse_of_lt Less e = refl
is_lt-reverse_of_lt Equal e = refl
is_lt-reverse_of_lt Greater e = cc

is_before-gt : (a b : List ℕ) → is_before b a ≡ is_gt (slice_cmp nat_cmp a b)
is_before-gt a b = ap is_lt (nat_list_cmp_total.antisymm b a) ∙ is_lt-reverse (slice_cmp nat_cmp a b)

-- what comes before another name is not behind it
pub not_before_back : (a b : List ℕ) → is_before a b ≡ true → is_before b a ≡ false
not_before_back a b e = ap is_lt (nat_list_cmp_total.antisymm b a) ∙ is_lt-reverse_of_lt (slice_cmp nat_cmp a b) e

pub not_before_trans : (a b c : List ℕ) → is_before b a ≡ false → is_before c b ≡ false → is_before c a ≡ false
not_before_trans a b c p q =
    is_before-gt a c ∙ upto nat_list_cmp_total a b c (sym (is_before-gt a b) ∙ p) (sym (is_before-gt b c) ∙ q)

less_by : (a b c : List ℕ) (r : Ordering) → slice_cmp nat_cmp b c ≡ r → is_gt r ≡ false → slice_cmp nat_cmp a b ≡ Less → slice_cmp nat_cmp a c ≡ Less
less_by a b c Less e g p = nat_list_cmp_total.trans a b c p e
less_by a b c Equal e g p = sym (alike_right nat_list_cmp_total b c a e) ∙ p
less_by a b c Greater e g p = cc

-- a name below one that isn't behind a third is below the third
pub less_not_before : (a b c : List ℕ) → slice_cmp nat_cmp a b ≡ Less → is_before c b ≡ false → slice_cmp nat_cmp a c ≡ Less
less_not_before a b c p q = less_by a b c (slice_cmp nat_cmp b c) refl (sym (is_before-gt b c) ∙ q) p

greater_by : (a b c : List ℕ) (r : Ordering) → slice_cmp nat_cmp c b ≡ r → is_gt r ≡ false → slice_cmp nat_cmp b a ≡ Less → slice_cmp nat_cmp c a ≡ Less
greater_by a b c Less e g p = nat_list_cmp_total.trans c b a e p
greater_by a b c Equal e g p = nat_list_cmp_total.congr c b a e ∙ p
greater_by a b c Greater e g p = cc

-- a name above one that isn't before a third is above the third
pub greater_not_before : (a b c : List ℕ) → slice_cmp nat_cmp a b ≡ Greater → is_before b c ≡ false → slice_cmp nat_cmp a c ≡ Greater
greater_not_before a b c p q =
    let below : slice_cmp nat_cmp b a ≡ Less = nat_list_cmp_total.antisymm b a ∙ ap ordering_reverse p in
    nat_list_cmp_total.antisymm a c ∙ ap ordering_reverse (greater_by a b c (slice_cmp nat_cmp c b) refl (sym (is_before-gt c b) ∙ q) below)

-- whether two names are the same, by how they are ordered
pub same_name : (a b : List ℕ) (r : Ordering) → slice_cmp nat_cmp a b ≡ r → pointwise nat_eq a b ≡ is_eq r
same_name a b r e = sym (is_eq-slice_cmp a b) ∙ ap is_eq e

less_of_lt : (r : Ordering) → is_lt r ≡ true → r ≡ Less
less_of_lt Less e = refl
less_of_lt Equal e = cc
less_of_lt Greater e = cc

pub less_from_before : (a b : List ℕ) → is_before a b ≡ true → slice_cmp nat_cmp a b ≡ Less
less_from_before a b e = less_of_lt (slice_cmp nat_cmp a b) e

pub All-left : (P : TextualMacro → Type 0) (l r : List TextualMacro) → All P (l ++ r) → All P l
All-left P [] r a = All-nil P
All-left P (m ∷ l) r a = All-cons P m l (All-head P m (l ++ r) a) (All-left P l r (All-tail P m (l ++ r) a))

pub All-right : (P : TextualMacro → Type 0) (l r : List TextualMacro) → All P (l ++ r) → All P r
All-right P [] r a = a
All-right P (m ∷ l) r a = All-right P l r (All-tail P m (l ++ r) a)

pub IsInOrder-left : (l r : List TextualMacro) → IsInOrder (l ++ r) → IsInOrder l
IsInOrder-left [] r s = tt
IsInOrder-left (m ∷ l) r s = (All-left (λ other. is_before other.name m.name ≡ false) l r s.0, IsInOrder-left l r s.1)

pub IsInOrder-right : (l : List TextualMacro) (m : TextualMacro) (r : List TextualMacro) → IsInOrder (l ++ m ∷ r) → IsInOrder r
IsInOrder-right [] m r s = s.1
IsInOrder-right (n ∷ l) m r s = IsInOrder-right l m r s.1

-- a macro is not before those on its left
pub left_of_middle : (l : List TextualMacro) (m : TextualMacro) (r : List TextualMacro) → IsInOrder (l ++ m ∷ r)
    → All (λ other. is_before m.name other.name ≡ false) l
left_of_middle [] m r s = All-nil (λ other. is_before m.name other.name ≡ false)
left_of_middle (n ∷ l) m r s =
    let here = All-head (λ other. is_before other.name n.name ≡ false) m r (All-right (λ other. is_before other.name n.name ≡ false) l (m ∷ r) s.0) in
    All-cons (λ other. is_before m.name other.name ≡ false) n l here (left_of_middle l m r s.1)

-- those on its right are not before it
pub right_of_middle : (l : List TextualMacro) (m : TextualMacro) (r : List TextualMacro) → IsInOrder (l ++ m ∷ r)
    → All (λ other. is_before other.name m.name ≡ false) r
right_of_middle [] m r s = s.0
right_of_middle (n ∷ l) m r s = right_of_middle l m r s.1
