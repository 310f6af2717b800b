-- Which macros are in textual scope?
use Rattle.std.specs.Prelude.{ℕ, nat_eq, Bool, List, [], ◌∷◌, ◌++◌, Option, None, map}
use Rattle.std.specs.List.{filter, last_or}
use Rattle.std.specs.Cmp.Lexicographic.{pointwise}
use Rattle.hir_ids.specs.declared.macro_kind.MacroId.{MacroId}
use Rattle.hir_textual_scope.specs.declared.textual_scope.TextualMacro.{TextualMacro}

-- whether a macro has this name
abbrev pub has_name : List ℕ → TextualMacro → Bool
has_name name m = pointwise nat_eq name m.name

-- the macros with one more, the last of them
abbrev pub with_macro : List TextualMacro → List ℕ → MacroId → List TextualMacro
with_macro ms name makro = ms ++ record { name = name; makro = makro } ∷ []

-- the macros of a name, in the order in which they were defined
abbrev pub macros_of : List TextualMacro → List ℕ → List MacroId
macros_of ms name = map (λ m. m.makro) (filter (has_name name) ms)

-- the last macro of a name
abbrev pub last_of : List TextualMacro → List ℕ → Option MacroId
last_of ms name = last_or None (macros_of ms name)
