-- What does one more macro change?
use Rattle.std.specs.Prelude.{◌≡◌, ◌≢◌, ℕ, List, [], ◌∷◌, ◌++◌, Some}
use Rattle.hir_ids.specs.declared.macro_kind.MacroId.{MacroId}
use Rattle.hir_textual_scope.specs.declared.textual_scope.TextualMacro.{TextualMacro}
use Rattle.hir_textual_scope.specs.Macros.{last_of, macros_of, with_macro}

-- it comes last among those of its name
abbrev pub NewMacroComesLast : Type 0
NewMacroComesLast = (ms : List TextualMacro) (name : List ℕ) (makro : MacroId)
    → macros_of (with_macro ms name makro) name ≡ macros_of ms name ++ makro ∷ []

-- so its name means it
abbrev pub NewMacroIsMeant : Type 0
NewMacroIsMeant = (ms : List TextualMacro) (name : List ℕ) (makro : MacroId)
    → last_of (with_macro ms name makro) name ≡ Some makro

-- any other name has the macros that it had
abbrev pub OtherNamesKeepTheirs : Type 0
OtherNamesKeepTheirs = (ms : List TextualMacro) (name : List ℕ) (makro : MacroId) (other : List ℕ) → other ≢ name
    → macros_of (with_macro ms name makro) other ≡ macros_of ms other
