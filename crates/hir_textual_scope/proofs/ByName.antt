-- Macros by name have of each name what the list of definitions has.
use Rattle.std.proofs.Common.{◌≡◌, ◌≢◌, ℕ, zero, suc, ◌+◌, ◌≤◌, Bool, true, false, cond, List, [], ◌∷◌, ◌++◌, fold, length, drop, refl, sym, ap, subst, None}
use Rattle.std.proofs.Common.{Some, ◌∙◌}
use Rattle.std.proofs.Common.{append_assoc, append-nil, arith, drop_of_length-le, length-append}
use mathlib.Core.Bool.{true≢false}
use Rattle.std.specs.Prelude.{nat_eq}
use Rattle.std.specs.List.{All, filter, last_or, slice_get}
use Rattle.std.specs.Cmp.Lexicographic.{pointwise, bytes_decides, slice_cmp}
use Rattle.std.specs.Ordering.{nat_cmp, is_lt, ordering_reverse}
use Rattle.std.specs.declared.cmp.Ordering.{Ordering}
use Rattle.std.specs.declared.cmp.Ordering.TheVariants.{Less, Equal, Greater}
use Rattle.std.proofs.lemmas.Cmp.{nat_list_cmp_total, tied_itself}
use Rattle.std.proofs.lemmas.List.Elements.{All-head, All-tail, All-weaker, filter-append}
use Rattle.hir_ids.specs.declared.macro_kind.MacroId.{MacroId}
use Rattle.hir_textual_scope.specs.Types.{TextualMacro}
use Rattle.hir_textual_scope.specs.Macros.{has_name, last_of, macros_of}
use Rattle.hir_textual_scope.specs.Node.{by_name, count_before, is_before, IsInOrder, leading, with_named}
use Rattle.hir_textual_scope.proofs.MoreMacros.{IsInOrder-with_named}
use Rattle.hir_textual_scope.proofs.NameOrder.{not_before_trans, same_name, left_of_middle, right_of_middle}
use Rattle.hir_textual_scope.proofs.NamedMacros.{macros_of-append}
use Rattle.hir_textual_scope.proofs.NewMacro.{front, named_comes_last, none_behind, other_names_keep_named, same_itself}

-- ---- one definition more

more_from : (z ms : List TextualMacro) (m : TextualMacro)
    → fold (λ sorted (m : TextualMacro). with_named sorted m.name m.makro) z (ms ++ m ∷ [])
    ≡ with_named (fold (λ sorted (m : TextualMacro). with_named sorted m.name m.makro) z ms) m.name m.makro
more_from z [] m = refl
more_from z (x ∷ xs) m = more_from (with_named z x.name x.makro) xs m

pub by_name-more : (ms : List TextualMacro) (m : TextualMacro) → by_name (ms ++ m ∷ []) ≡ with_named (by_name ms) m.name m.makro
by_name-more ms m = more_from [] ms m

in_order_from : (z ms : List TextualMacro) → IsInOrder z → IsInOrder (fold (λ sorted (m : TextualMacro). with_named sorted m.name m.makro) z ms)
in_order_from z [] s = s
in_order_from z (x ∷ xs) s = in_order_from (with_named z x.name x.makro) xs (IsInOrder-with_named z x.name x.makro s)

pub by_name-in_order : (ms : List TextualMacro) → IsInOrder (by_name ms)
by_name-in_order ms = in_order_from [] ms tt

-- ---- the macros of a name

with_one : (z : List TextualMacro) (m : TextualMacro) (name : List ℕ) → IsInOrder z → (b : Bool) → has_name name m ≡ b
    → macros_of (with_named z m.name m.makro) name ≡ macros_of z name ++ macros_of (m ∷ []) name
with_one z m name s true e =
    let same : name ≡ m.name = (bytes_decides name m.name).0 e in
    ap (λ n. macros_of (with_named z m.name m.makro) n) same ∙ named_comes_last z m.name m.makro s
    ∙ ap (λ n. macros_of z n ++ m.makro ∷ []) (sym same) ∙ ap (λ xs. macros_of z name ++ xs) (sym (front m name [] true e))
with_one z m name s false e =
    other_names_keep_named z m.name m.makro name (λ same. true≢false (sym ((bytes_decides name m.name).1 same) ∙ e))
    ∙ sym (append-nil (macros_of z name)) ∙ ap (λ xs. macros_of z name ++ xs) (sym (front m name [] false e))

named_from : (z ms : List TextualMacro) (name : List ℕ) → IsInOrder z
    → macros_of (fold (λ sorted (m : TextualMacro). with_named sorted m.name m.makro) z ms) name ≡ macros_of z name ++ macros_of ms name
named_from z [] name s = sym (append-nil (macros_of z name))
named_from z (x ∷ xs) name s =
    named_from (with_named z x.name x.makro) xs name (IsInOrder-with_named z x.name x.makro s)
    ∙ ap (λ ys. ys ++ macros_of xs name) (with_one z x name s (has_name name x) refl)
    ∙ append_assoc (macros_of z name) (macros_of (x ∷ []) name) (macros_of xs name)
    ∙ ap (λ ys. macros_of z name ++ ys) (sym (macros_of-append (x ∷ []) xs name))

pub macros_of-by_name : (ms : List TextualMacro) (name : List ℕ) → macros_of (by_name ms) name ≡ macros_of ms name
macros_of-by_name ms name = named_from [] ms name tt

-- ---- where those of a name begin

-- what isn't behind a name before another is before that one too
before_through : (a b c : List ℕ) → is_before b a ≡ false → is_before b c ≡ true → is_before a c ≡ true
before_through a b c p q = go (is_before a c) refl
  where
    go : (r : Bool) → is_before a c ≡ r → r ≡ true
    go true e = refl
    go false e = absurd (true≢false (sym q ∙ not_before_trans c a b e p))

none_before : (ms : List TextualMacro) (name : List ℕ) → All (λ other. is_before other.name name ≡ false) ms → count_before ms name ≡ 0
none_before [] name a = refl
none_before (m ∷ ms) name a =
    rw (All-head (λ other. is_before other.name name ≡ false) m ms a) (none_before ms name (All-tail (λ other. is_before other.name name ≡ false) m ms a))

all_before : (ms : List TextualMacro) (name : List ℕ) → All (λ other. is_before other.name name ≡ true) ms → count_before ms name ≡ length ms
all_before [] name a = refl
all_before (m ∷ ms) name a =
    rw (All-head (λ other. is_before other.name name ≡ true) m ms a) (ap suc (all_before ms name (All-tail (λ other. is_before other.name name ≡ true) m ms a)))

counted : (m : TextualMacro) (ms : List TextualMacro) (name : List ℕ) (b : Bool) → is_before m.name name ≡ b
    → count_before (m ∷ ms) name ≡ cond b (suc (count_before ms name)) (count_before ms name)
counted m ms name true e = rw e refl
counted m ms name false e = rw e refl

not_itself : (name : List ℕ) → is_before name name ≡ false
not_itself name = ap is_lt (tied_itself nat_list_cmp_total name)

-- a name before another isn't that one
before_apart : (m : TextualMacro) (name : List ℕ) → is_before m.name name ≡ true → has_name name m ≡ false
before_apart m name e = go (has_name name m) refl
  where
    go : (b : Bool) → has_name name m ≡ b → b ≡ false
    go true h = absurd (true≢false (sym e ∙ ap (is_before m.name) ((bytes_decides name m.name).0 h) ∙ not_itself m.name))
    go false h = refl

-- and one that is neither comes behind
behind : (m : TextualMacro) (name : List ℕ) → is_before m.name name ≡ false → has_name name m ≡ false → is_before name m.name ≡ true
behind m name e h = go (slice_cmp nat_cmp name m.name) refl
  where
    go : (r : Ordering) → slice_cmp nat_cmp name m.name ≡ r → is_before name m.name ≡ true
    go Less q = ap is_lt q
    go Equal q = absurd (true≢false (sym (same_name name m.name Equal q) ∙ h))
    go Greater q = absurd (true≢false (sym (ap is_lt (nat_list_cmp_total.antisymm m.name name ∙ ap ordering_reverse q)) ∙ e))

leads : (m : TextualMacro) (ms : List TextualMacro) (name : List ℕ) (b : Bool) → has_name name m ≡ b → leading name (m ∷ ms)
    ≡ cond b (m.makro ∷ leading name ms) []
leads m ms name true e = rw e refl
leads m ms name false e = rw e refl

-- a walk over the macros of a name ends behind the last of all
pub none_left : (name : List ℕ) (ms : List TextualMacro) (n : ℕ) → length ms ≤ n → leading name (drop n ms) ≡ []
none_left name ms n h = ap (leading name) (drop_of_length-le ms {i = n} h)

leads_at : (name : List ℕ) (ms : List TextualMacro) (n : ℕ) (m : TextualMacro) → Some m ≡ slice_get ms n
    → leading name (drop n ms) ≡ leading name (m ∷ drop (suc n) ms)
leads_at name [] n m e = cc
leads_at name (x ∷ xs) zero m e = let same : x ≡ m = cc in ap (λ y. leading name (y ∷ xs)) same
leads_at name (x ∷ xs) (suc n) m e = leads_at name xs n m e

-- it gives the macro at its place, if that has the name
pub gives_next : (name : List ℕ) (ms : List TextualMacro) (n : ℕ) (m : TextualMacro) → Some m ≡ slice_get ms n → has_name name m ≡ true
    → leading name (drop n ms) ≡ m.makro ∷ leading name (drop (n + 1) ms)
gives_next name ms n m e h =
    let next : suc n ≡ n + 1 = omega arith in
    leads_at name ms n m e ∙ leads m (drop (suc n) ms) name true h ∙ ap (λ k. m.makro ∷ leading name (drop k ms)) next

-- and ends there, if it hasn't
pub ends_there : (name : List ℕ) (ms : List TextualMacro) (n : ℕ) (m : TextualMacro) → Some m ≡ slice_get ms n → has_name name m ≡ false
    → leading name (drop n ms) ≡ []
ends_there name ms n m e h = leads_at name ms n m e ∙ leads m (drop (suc n) ms) name false h

pub leading_from : (ms : List TextualMacro) (name : List ℕ) → IsInOrder ms → leading name (drop (count_before ms name) ms) ≡ macros_of ms name
leading_from [] name s = refl
leading_from (m ∷ ms) name s = go (is_before m.name name) refl (leading_from ms name s.1)
  where
    rest : is_before m.name name ≡ false → count_before ms name ≡ 0
    rest e = none_before ms name (All-weaker (λ other. is_before other.name m.name ≡ false) (λ other. is_before other.name name ≡ false)
        (λ other q. not_before_trans name m.name other.name e q) ms s.0)

    on : is_before m.name name ≡ false → leading name ms ≡ macros_of ms name → (b : Bool) → has_name name m ≡ b → leading name (m ∷ ms)
        ≡ macros_of (m ∷ ms) name
    on e later true h = leads m ms name true h ∙ ap (λ xs. m.makro ∷ xs) later ∙ sym (front m name ms true h)
    on e later false h = leads m ms name false h ∙ sym (none_behind m ms name (behind m name e h) s)

    go : (b : Bool) → is_before m.name name ≡ b → leading name (drop (count_before ms name) ms) ≡ macros_of ms name
        → leading name (drop (count_before (m ∷ ms) name) (m ∷ ms)) ≡ macros_of (m ∷ ms) name
    go true e later = ap (λ n. leading name (drop n (m ∷ ms))) (counted m ms name true e) ∙ later ∙ sym (front m name ms false (before_apart m name e))
    go false e later =
        ap (λ n. leading name (drop n (m ∷ ms))) (counted m ms name false e ∙ rest e)
        ∙ on e (sym (ap (λ n. leading name (drop n ms)) (rest e)) ∙ later) (has_name name m) refl

-- ---- around the macro in the middle of a tree

count_before-append : (l r : List TextualMacro) (name : List ℕ) → count_before (l ++ r) name ≡ count_before l name + count_before r name
count_before-append l r name =
    ap length (filter-append (λ (m : TextualMacro). is_before m.name name) l r)
    ∙ length-append (filter (λ (m : TextualMacro). is_before m.name name) l) (filter (λ (m : TextualMacro). is_before m.name name) r)

pub count_right : (l : List TextualMacro) (m : TextualMacro) (r : List TextualMacro) (name : List ℕ) → IsInOrder (l ++ m ∷ r) → is_before m.name name ≡ true
    → count_before (l ++ m ∷ r) name ≡ length l + 1 + count_before r name
count_right l m r name s e =
    let left = all_before l name (All-weaker (λ other. is_before m.name other.name ≡ false) (λ other. is_before other.name name ≡ true)
    (λ other q. before_through other.name m.name name q e) l (left_of_middle l m r s)) in
    omega (arith, count_before-append l (m ∷ r) name, left, counted m r name true e)

pub count_left : (l : List TextualMacro) (m : TextualMacro) (r : List TextualMacro) (name : List ℕ) → IsInOrder (l ++ m ∷ r) → is_before m.name name ≡ false
    → count_before (l ++ m ∷ r) name ≡ count_before l name
count_left l m r name s e =
    let right = none_before r name (All-weaker (λ other. is_before other.name m.name ≡ false) (λ other. is_before other.name name ≡ false)
    (λ other q. not_before_trans name m.name other.name e q) r (right_of_middle l m r s)) in
    omega (arith, count_before-append l (m ∷ r) name, right, counted m r name false e)

pub count_within : (ms : List TextualMacro) (name : List ℕ) → count_before ms name ≤ length ms
count_within [] name = omega arith
count_within (m ∷ ms) name = go (is_before m.name name) refl (count_within ms name)
  where
    go : (b : Bool) → is_before m.name name ≡ b → count_before ms name ≤ length ms → count_before (m ∷ ms) name ≤ length (m ∷ ms)
    go true e rest = omega (arith, counted m ms name true e, rest)
    go false e rest = omega (arith, counted m ms name false e, rest)

-- ---- what the tree by name answers for the list of definitions

pub named_in_order : (named defined : List TextualMacro) → named ≡ by_name defined → IsInOrder named
named_in_order named defined is = subst IsInOrder (sym is) (by_name-in_order defined)

pub last_by_name : (named defined : List TextualMacro) (name : List ℕ) → named ≡ by_name defined → last_of named name ≡ last_of defined name
last_by_name named defined name is = ap (last_or None) (ap (λ ms. macros_of ms name) is ∙ macros_of-by_name defined name)

pub leading_by_name : (named defined : List TextualMacro) (name : List ℕ) (next : ℕ) → named ≡ by_name defined → next ≡ count_before named name
    → leading name (drop next named) ≡ macros_of defined name
leading_by_name named defined name next is at =
    ap (λ n. leading name (drop n named)) at ∙ leading_from named name (named_in_order named defined is)
    ∙ ap (λ ms. macros_of ms name) is ∙ macros_of-by_name defined name

pub one_more_named : (named defined more all : List TextualMacro) (m : TextualMacro) → named ≡ by_name defined → more ≡ with_named named m.name m.makro → all
    ≡ defined ++ m ∷ []
    → more ≡ by_name all
one_more_named named defined more all m is made new =
    made ∙ ap (λ ms. with_named ms m.name m.makro) is ∙ sym (by_name-more defined m) ∙ ap by_name (sym new)
