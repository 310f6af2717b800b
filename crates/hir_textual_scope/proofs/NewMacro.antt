-- Which macros a name has once one more is defined.
use Rattle.std.proofs.Common.{◌≡◌, ◌≢◌, ℕ, Bool, true, false, cond, List, [], ◌∷◌, ◌++◌, None, refl, sym, ap, ◌∙◌, append-nil}
use Rattle.std.specs.Prelude.{nat_eq}
use Rattle.std.specs.List.{last_or}
use Rattle.std.specs.Cmp.Lexicographic.{pointwise, bytes_decides}
use Rattle.std.proofs.lemmas.List.Elements.{All-cons, All-weaker}
use Rattle.hir_ids.specs.declared.macro_kind.MacroId.{MacroId}
use Rattle.hir_textual_scope.specs.Types.{TextualMacro}
use Rattle.hir_textual_scope.specs.Macros.{has_name, macros_of}
use Rattle.hir_textual_scope.specs.Node.{is_before, IsInOrder, with_named}
use Rattle.hir_textual_scope.specs.Laws.{NewMacroComesLast, NewMacroIsMeant, OtherNamesKeepTheirs}
use Rattle.hir_textual_scope.proofs.NameOrder.{same_name, less_from_before, less_not_before}
use Rattle.hir_textual_scope.proofs.NamedMacros.{macros_of-append, macros_of-none, last_or-append}

pub same_itself : (name : List ℕ) → pointwise nat_eq name name ≡ true
same_itself name = (bytes_decides name name).1 refl

false_of_not : (b : Bool) → (b ≢ true) → b ≡ false
false_of_not true f = absurd (f refl)
false_of_not false f = refl

pub other_name : (other name : List ℕ) → other ≢ name → pointwise nat_eq other name ≡ false
other_name other name n = false_of_not (pointwise nat_eq other name) (λ e. n ((bytes_decides other name).0 e))

pub none_behind : (m : TextualMacro) (ms : List TextualMacro) (name : List ℕ) → is_before name m.name ≡ true → IsInOrder (m ∷ ms) → macros_of (m ∷ ms) name ≡ []
none_behind m ms name h s =
    let below = less_from_before name m.name h in
    let rest = All-weaker (λ other. is_before other.name m.name ≡ false) (λ other. has_name name other ≡ false)
    (λ other q. same_name name other.name _ (less_not_before name m.name other.name below q)) ms s.0 in
    macros_of-none (m ∷ ms) name (All-cons (λ other. has_name name other ≡ false) m ms (same_name name m.name _ below) rest)

pub front : (m : TextualMacro) (name : List ℕ) (ms : List TextualMacro) (b : Bool) → has_name name m ≡ b → macros_of (m ∷ ms) name
    ≡ cond b (m.makro ∷ macros_of ms name) (macros_of ms name)
front m name ms true e = rw e refl
front m name ms false e = rw e refl

apart : (b : Bool) (x : MacroId) (xs more : List MacroId) → cond b (x ∷ (xs ++ more)) (xs ++ more) ≡ cond b (x ∷ xs) xs ++ more
apart true x xs more = refl
apart false x xs more = refl

-- a macro in front of two lists
in_front : (m : TextualMacro) (name : List ℕ) (ms ns : List TextualMacro) (more : List MacroId) → macros_of ms name ≡ macros_of ns name ++ more
    → macros_of (m ∷ ms) name ≡ macros_of (m ∷ ns) name ++ more
in_front m name ms ns more u =
    front m name ms (has_name name m) refl ∙ ap (λ xs. cond (has_name name m) (m.makro ∷ xs) xs) u
    ∙ apart (has_name name m) m.makro (macros_of ns name) more
    ∙ ap (λ xs. xs ++ more) (sym (front m name ns (has_name name m) refl))

comes_last_by : (m : TextualMacro) (ms : List TextualMacro) (name : List ℕ) (makro : MacroId) (b : Bool) → is_before name m.name ≡ b
    → IsInOrder (m ∷ ms) → macros_of (with_named ms name makro) name ≡ macros_of ms name ++ makro ∷ []
    → macros_of (cond b (record { name = name; makro = makro } ∷ m ∷ ms) (m ∷ with_named ms name makro)) name ≡ macros_of (m ∷ ms) name ++ makro ∷ []
comes_last_by m ms name makro true e s u =
    let front : macros_of (record { name = name; makro = makro } ∷ m ∷ ms) name ≡ makro ∷ macros_of (m ∷ ms) name = rw (same_itself name) refl in
    front ∙ ap (λ xs. makro ∷ xs) (none_behind m ms name e s) ∙ ap (λ xs. xs ++ makro ∷ []) (sym (none_behind m ms name e s))
comes_last_by m ms name makro false e s u = in_front m name (with_named ms name makro) ms (makro ∷ []) u

-- by name it comes last among those of its name
pub named_comes_last : (ms : List TextualMacro) (name : List ℕ) (makro : MacroId) → IsInOrder ms
    → macros_of (with_named ms name makro) name ≡ macros_of ms name ++ makro ∷ []
named_comes_last [] name makro s = rw (same_itself name) refl
named_comes_last (m ∷ ms) name makro s = comes_last_by m ms name makro (is_before name m.name) refl s (named_comes_last ms name makro s.1)

others_by : (m : TextualMacro) (ms : List TextualMacro) (name : List ℕ) (makro : MacroId) (other : List ℕ) (b : Bool) → pointwise nat_eq other name ≡ false
    → macros_of (with_named ms name makro) other ≡ macros_of ms other
    → macros_of (cond b (record { name = name; makro = makro } ∷ m ∷ ms) (m ∷ with_named ms name makro)) other ≡ macros_of (m ∷ ms) other
others_by m ms name makro other true n u = rw n refl
others_by m ms name makro other false n u =
    front m other (with_named ms name makro) (has_name other m) refl ∙ ap (λ xs. cond (has_name other m) (m.makro ∷ xs) xs) u
    ∙ sym (front m other ms (has_name other m) refl)

pub other_names_keep_named : (ms : List TextualMacro) (name : List ℕ) (makro : MacroId) (other : List ℕ) → other ≢ name
    → macros_of (with_named ms name makro) other ≡ macros_of ms other
other_names_keep_named [] name makro other n = rw (other_name other name n) refl
other_names_keep_named (m ∷ ms) name makro other n =
    others_by m ms name makro other (is_before name m.name) (other_name other name n) (other_names_keep_named ms name makro other n)

-- ---- in the order of definition

pub new_macro_comes_last : NewMacroComesLast
new_macro_comes_last ms name makro =
    macros_of-append ms (record { name = name; makro = makro } ∷ []) name ∙ ap (λ xs. macros_of ms name ++ xs) (rw (same_itself name) refl)

pub new_macro_is_meant : NewMacroIsMeant
new_macro_is_meant ms name makro = ap (last_or None) (new_macro_comes_last ms name makro) ∙ last_or-append None (macros_of ms name) (makro ∷ [])

pub other_names_keep_theirs : OtherNamesKeepTheirs
other_names_keep_theirs ms name makro other n =
    macros_of-append ms (record { name = name; makro = makro } ∷ []) other ∙ ap (λ xs. macros_of ms other ++ xs) (rw (other_name other name n) refl)
    ∙ append-nil (macros_of ms other)
