-- Which of the macros around one have a name.
use Rattle.std.proofs.Common.{Less, Equal, Greater, ◌≡◌, ℕ, false, List, [], ◌∷◌, ◌++◌, Option, Some, None, map, refl, sym, ap, ◌∙◌, subst, append_assoc}
use Rattle.std.proofs.Common.{append-nil}
use Rattle.std.specs.List.{All, filter, last_or}
use Rattle.std.specs.Option.{option_or}
use Rattle.std.specs.Cmp.Lexicographic.{slice_cmp}
use Rattle.std.specs.Ordering.{nat_cmp}
use Rattle.std.proofs.lemmas.List.{map-append}
use Rattle.std.proofs.lemmas.List.Elements.{All-head, All-tail, All-weaker, filter-append}
use Rattle.hir_ids.specs.declared.macro_kind.MacroId.{MacroId}
use Rattle.hir_textual_scope.specs.Types.{TextualMacro}
use Rattle.hir_textual_scope.specs.Macros.{has_name, last_of, macros_of}
use Rattle.hir_textual_scope.specs.Node.{is_before, IsInOrder}
use Rattle.hir_textual_scope.proofs.NameOrder.{same_name, less_not_before, greater_not_before, left_of_middle, right_of_middle}

pub macros_of-none : (ms : List TextualMacro) (name : List ℕ) → All (λ m. has_name name m ≡ false) ms → macros_of ms name ≡ []
macros_of-none [] name a = refl
macros_of-none (m ∷ ms) name a = rw (All-head (λ m. has_name name m ≡ false) m ms a) (macros_of-none ms name (All-tail (λ m. has_name name m ≡ false) m ms a))

pub macros_of-append : (l r : List TextualMacro) (name : List ℕ) → macros_of (l ++ r) name ≡ macros_of l name ++ macros_of r name
macros_of-append l r name =
    ap (map (λ m. m.makro)) (filter-append (has_name name) l r) ∙ map-append (λ m. m.makro) (filter (has_name name) l) (filter (has_name name) r)

-- a name below that of the middle is on the left
pub macros_of-less : (l : List TextualMacro) (m : TextualMacro) (r : List TextualMacro) (name : List ℕ)
    → IsInOrder (l ++ m ∷ r) → slice_cmp nat_cmp name m.name ≡ Less → macros_of (l ++ m ∷ r) name ≡ macros_of l name
macros_of-less l m r name s h =
    let right = All-weaker (λ other. is_before other.name m.name ≡ false) (λ other. has_name name other ≡ false)
    (λ other q. same_name name other.name Less (less_not_before name m.name other.name h q)) r (right_of_middle l m r s) in
    let none : macros_of (m ∷ r) name ≡ [] = rw (same_name name m.name Less h) (macros_of-none r name right) in
    macros_of-append l (m ∷ r) name ∙ ap (λ ms. macros_of l name ++ ms) none ∙ append-nil (macros_of l name)

-- a name above it is on the right
pub macros_of-greater : (l : List TextualMacro) (m : TextualMacro) (r : List TextualMacro) (name : List ℕ)
    → IsInOrder (l ++ m ∷ r) → slice_cmp nat_cmp name m.name ≡ Greater → macros_of (l ++ m ∷ r) name ≡ macros_of r name
macros_of-greater l m r name s h =
    let left = All-weaker (λ other. is_before m.name other.name ≡ false) (λ other. has_name name other ≡ false)
    (λ other q. same_name name other.name Greater (greater_not_before name m.name other.name h q)) l (left_of_middle l m r s) in
    macros_of-append l (m ∷ r) name ∙ ap (λ ms. ms ++ macros_of (m ∷ r) name) (macros_of-none l name left) ∙ rw (same_name name m.name Greater h) refl

-- and the same name may be on both
pub macros_of-equal : (l : List TextualMacro) (m : TextualMacro) (r : List TextualMacro) (name : List ℕ)
    → slice_cmp nat_cmp name m.name ≡ Equal → macros_of (l ++ m ∷ r) name ≡ macros_of l name ++ m.makro ∷ macros_of r name
macros_of-equal l m r name h = macros_of-append l (m ∷ r) name ∙ rw (same_name name m.name Equal h) refl

pub last_or-append : (o : Option MacroId) (xs ys : List MacroId) → last_or o (xs ++ ys) ≡ last_or (last_or o xs) ys
last_or-append o [] ys = refl
last_or-append o (x ∷ xs) ys = last_or-append (Some x) xs ys

last_or_some : (x : MacroId) (xs : List MacroId) (o : Option MacroId) → option_or (last_or (Some x) xs) o ≡ last_or (Some x) xs
last_or_some x [] o = refl
last_or_some x (y ∷ xs) o = last_or_some y xs o

last_or-else : (x : MacroId) (xs : List MacroId) → last_or (Some x) xs ≡ option_or (last_or None xs) (Some x)
last_or-else x [] = refl
last_or-else x (y ∷ xs) = sym (last_or_some y xs (Some x))

pub last_of-less : (l : List TextualMacro) (m : TextualMacro) (r : List TextualMacro) (name : List ℕ)
    → IsInOrder (l ++ m ∷ r) → slice_cmp nat_cmp name m.name ≡ Less → last_of (l ++ m ∷ r) name ≡ last_of l name
last_of-less l m r name s h = ap (last_or None) (macros_of-less l m r name s h)

pub last_of-greater : (l : List TextualMacro) (m : TextualMacro) (r : List TextualMacro) (name : List ℕ)
    → IsInOrder (l ++ m ∷ r) → slice_cmp nat_cmp name m.name ≡ Greater → last_of (l ++ m ∷ r) name ≡ last_of r name
last_of-greater l m r name s h = ap (last_or None) (macros_of-greater l m r name s h)

pub last_of-equal : (l : List TextualMacro) (m : TextualMacro) (r : List TextualMacro) (name : List ℕ)
    → slice_cmp nat_cmp name m.name ≡ Equal → last_of (l ++ m ∷ r) name ≡ option_or (last_of r name) (Some m.makro)
last_of-equal l m r name h =
    ap (last_or None) (macros_of-equal l m r name h)
    ∙ last_or-append None (macros_of l name) (m.makro ∷ macros_of r name)
    ∙ last_or-else m.makro (macros_of r name)

-- what is found in a part is what the whole has
pub last_on_left : (ms l : List TextualMacro) (m : TextualMacro) (r : List TextualMacro) (name : List ℕ) (found : Option MacroId)
    → ms ≡ l ++ m ∷ r → IsInOrder ms → slice_cmp nat_cmp name m.name ≡ Less → found ≡ last_of l name → found ≡ last_of ms name
last_on_left ms l m r name found e s h f =
    f ∙ sym (last_of-less l m r name (subst IsInOrder e s) h) ∙ ap (λ xs. last_of xs name) (sym e)

pub last_on_right : (ms l : List TextualMacro) (m : TextualMacro) (r : List TextualMacro) (name : List ℕ) (found : Option MacroId)
    → ms ≡ l ++ m ∷ r → IsInOrder ms → slice_cmp nat_cmp name m.name ≡ Greater → found ≡ last_of r name → found ≡ last_of ms name
last_on_right ms l m r name found e s h f =
    f ∙ sym (last_of-greater l m r name (subst IsInOrder e s) h) ∙ ap (λ xs. last_of xs name) (sym e)

pub last_from_middle : (ms l : List TextualMacro) (m : TextualMacro) (r : List TextualMacro) (name : List ℕ) (found : Option MacroId)
    → ms ≡ l ++ m ∷ r → slice_cmp nat_cmp name m.name ≡ Equal → found ≡ option_or (last_of r name) (Some m.makro) → found ≡ last_of ms name
last_from_middle ms l m r name found e h f =
    f ∙ sym (last_of-equal l m r name h) ∙ ap (λ xs. last_of xs name) (sym e)
