-- Which names of preludes change where a crate uses macros of another?
use Rattle.std.specs.Prelude.{ℕ, List, [], ◌∷◌}
use Rattle.hir_collector_rules.specs.HirIds.declared.macro_kind.MacroId.{MacroId}
use Rattle.hir_collector_rules.specs.HirImportRules.Changed.{ChangedValue, with_preludes}

-- the names of these macros besides, one after another
abbrev pub with_each : List (List ℕ × MacroId) → ChangedValue → ChangedValue
with_each [] c = c
with_each (e ∷ es) c = with_each es (with_preludes e.0 c)
