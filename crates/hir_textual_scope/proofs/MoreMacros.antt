-- Where one more macro goes.
use Rattle.std.proofs.Common.{◌≡◌, ℕ, Bool, true, false, cond, List, [], ◌∷◌, ◌++◌, refl, sym, ap, ◌∙◌, subst}
use Rattle.std.specs.List.{All}
use Rattle.std.proofs.lemmas.List.Elements.{All-nil, All-cons, All-head, All-tail, All-weaker}
use Rattle.hir_ids.specs.declared.macro_kind.MacroId.{MacroId}
use Rattle.hir_textual_scope.specs.Types.{TextualMacro}
use Rattle.hir_textual_scope.specs.Node.{is_before, IsInOrder, with_named}
use Rattle.hir_textual_scope.proofs.NameOrder.{not_before_back, not_before_trans, left_of_middle}

-- before a macro with a later name it goes among those on the left
pub with_named-left : (l : List TextualMacro) (m : TextualMacro) (r : List TextualMacro) (name : List ℕ) (makro : MacroId)
    → is_before name m.name ≡ true → with_named (l ++ m ∷ r) name makro ≡ with_named l name makro ++ m ∷ r
with_named-left [] m r name makro h = rw h refl
with_named-left (n ∷ l) m r name makro h =
    elim (is_before name n.name)
    as (λ b. cond b (record { name = name; makro = makro } ∷ n ∷ (l ++ m ∷ r)) (n ∷ with_named (l ++ m ∷ r) name makro)
    ≡ cond b (record { name = name; makro = makro } ∷ n ∷ l) (n ∷ with_named l name makro) ++ m ∷ r) [
      | true ↦ refl
      | false ↦ ap (λ ms. n ∷ ms) (with_named-left l m r name makro h)
    ]

-- behind a macro with no later name it goes among those on the right
pub with_named-right : (l : List TextualMacro) (m : TextualMacro) (r : List TextualMacro) (name : List ℕ) (makro : MacroId)
    → is_before name m.name ≡ false → IsInOrder (l ++ m ∷ r) → with_named (l ++ m ∷ r) name makro ≡ l ++ m ∷ with_named r name makro
with_named-right [] m r name makro h s = rw h refl
with_named-right (n ∷ l) m r name makro h s =
    let here = All-head (λ other. is_before m.name other.name ≡ false) n l (left_of_middle (n ∷ l) m r s) in
    let q : is_before name n.name ≡ false = not_before_trans n.name m.name name here h in
    rw q (ap (λ ms. n ∷ ms) (with_named-right l m r name makro h s.1))

All-with_named : (P : TextualMacro → Type 0) (ms : List TextualMacro) (name : List ℕ) (makro : MacroId)
    → P (record { name = name; makro = makro }) → All P ms → All P (with_named ms name makro)
All-with_named P [] name makro p a = All-cons P (record { name = name; makro = makro }) [] p a
All-with_named P (m ∷ ms) name makro p a =
    elim (is_before name m.name) as (λ b. All P (cond b (record { name = name; makro = makro } ∷ m ∷ ms) (m ∷ with_named ms name makro))) [
      | true ↦ All-cons P (record { name = name; makro = makro }) (m ∷ ms) p a
      | false ↦ All-cons P m (with_named ms name makro) (All-head P m ms a) (All-with_named P ms name makro p (All-tail P m ms a))
    ]

in_order_by : (m : TextualMacro) (ms : List TextualMacro) (name : List ℕ) (makro : MacroId) (b : Bool) → is_before name m.name ≡ b
    → IsInOrder (m ∷ ms) → IsInOrder (with_named ms name makro)
    → IsInOrder (cond b (record { name = name; makro = makro } ∷ m ∷ ms) (m ∷ with_named ms name makro))
in_order_by m ms name makro true e s u =
    let here : is_before m.name name ≡ false = not_before_back name m.name e in
    let rest = All-weaker (λ other. is_before other.name m.name ≡ false) (λ other. is_before other.name name ≡ false)
    (λ other h. not_before_trans name m.name other.name here h) ms s.0 in
    (All-cons (λ other. is_before other.name name ≡ false) m ms here rest, s)
in_order_by m ms name makro false e s u = (All-with_named (λ other. is_before other.name m.name ≡ false) ms name makro e s.0, u)

-- and all stay in order
pub IsInOrder-with_named : (ms : List TextualMacro) (name : List ℕ) (makro : MacroId) → IsInOrder ms → IsInOrder (with_named ms name makro)
IsInOrder-with_named [] name makro s = (All-nil (λ other. is_before other.name name ≡ false), tt)
IsInOrder-with_named (m ∷ ms) name makro s =
    in_order_by m ms name makro (is_before name m.name) refl s (IsInOrder-with_named ms name makro s.1)

-- the macros of a node, of which one side took the new one
pub taken_on_left : (ms l : List TextualMacro) (m : TextualMacro) (r : List TextualMacro) (name : List ℕ) (makro : MacroId)
    (left : List TextualMacro) (middle : TextualMacro) (right : List TextualMacro)
    → ms ≡ l ++ m ∷ r → is_before name m.name ≡ true → left ≡ with_named l name makro → middle ≡ m → right ≡ r
    → left ++ middle ∷ right ≡ with_named ms name makro
taken_on_left ms l m r name makro left middle right e h p q s =
    (λ i. p i ++ q i ∷ s i) ∙ sym (with_named-left l m r name makro h) ∙ ap (λ xs. with_named xs name makro) (sym e)

pub taken_on_right : (ms l : List TextualMacro) (m : TextualMacro) (r : List TextualMacro) (name : List ℕ) (makro : MacroId)
    (left : List TextualMacro) (middle : TextualMacro) (right : List TextualMacro)
    → ms ≡ l ++ m ∷ r → is_before name m.name ≡ false → IsInOrder ms → left ≡ l → middle ≡ m → right ≡ with_named r name makro
    → left ++ middle ∷ right ≡ with_named ms name makro
taken_on_right ms l m r name makro left middle right e h o p q s =
    (λ i. p i ++ q i ∷ s i) ∙ sym (with_named-right l m r name makro h (subst IsInOrder e o)) ∙ ap (λ xs. with_named xs name makro) (sym e)
