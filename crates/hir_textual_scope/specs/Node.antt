-- Which macros are there in a subtree, and in the tree by name?
use Rattle.std.specs.Prelude.{◌≡◌, ℕ, Bool, false, List, [], ◌∷◌, Option, Some, None, fold, length, if◌then◌else◌}
use Rattle.std.specs.List.{All, filter}
use Rattle.std.specs.Cmp.Lexicographic.{slice_cmp}
use Rattle.std.specs.Ordering.{nat_cmp, is_lt}
use Rattle.std.specs.declared.rc.Rc.{Rc}
use Rattle.std.specs.declared.alloc.Global.{Global}
use Rattle.hir_ids.specs.declared.macro_kind.MacroId.{MacroId}
use Rattle.hir_textual_scope.specs.declared.textual_scope.TextualMacro.{TextualMacro}
use Rattle.hir_textual_scope.specs.declared.node.Node.{Node}
use Rattle.hir_textual_scope.specs.Macros.{has_name}

-- the macros of a subtree, from left to right
abbrev pub macros_under : Option (Rc Node Global) → List TextualMacro
macros_under None = []
macros_under (Some node) = node.value

-- ---- by name

-- whether one name comes before another
abbrev pub is_before : List ℕ → List ℕ → Bool
is_before name other = is_lt (slice_cmp nat_cmp name other)

-- no macro has a name before that of an earlier one
abbrev pub IsInOrder : List TextualMacro → Type 0
IsInOrder [] = Unit {0}
IsInOrder (m ∷ ms) = All (λ other. is_before other.name m.name ≡ false) ms × IsInOrder ms

-- macros by name with one more, the last of its name
abbrev pub with_named : List TextualMacro → List ℕ → MacroId → List TextualMacro
with_named [] name makro = record { name = name; makro = makro } ∷ []
with_named (m ∷ ms) name makro =
    if is_before name m.name then record { name = name; makro = makro } ∷ m ∷ ms else m ∷ with_named ms name makro

-- macros by name, and those of one name in the order of their definition
abbrev pub by_name : List TextualMacro → List TextualMacro
by_name ms = fold (λ sorted (m : TextualMacro). with_named sorted m.name m.makro) [] ms

-- how many macros have a name before this one
abbrev pub count_before : List TextualMacro → List ℕ → ℕ
count_before ms name = length (filter (λ (m : TextualMacro). is_before m.name name) ms)

-- the macros of a name with which a list begins
abbrev pub leading : List ℕ → List TextualMacro → List MacroId
leading name [] = []
leading name (m ∷ ms) = if has_name name m then m.makro ∷ leading name ms else []
