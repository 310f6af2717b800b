-- What do others see of a procedural-macro crate?
use Rattle.std.specs.Prelude.{ℕ, List, [], ◌∷◌, cond}
use Rattle.hir_nameres.specs.HirIds.declared.ids.Crate.{Crate}
use Rattle.hir_nameres.specs.HirIds.declared.ids.FunctionId.{FunctionId}
use Rattle.hir_nameres.specs.HirIds.declared.ids.ModuleDefId.TheVariants as definitions
use Rattle.hir_nameres.specs.HirIds.contracts.ids.ModuleDefIdPartialEq.TheImpl as module_def
use Rattle.hir_nameres.specs.HirScope.Scope.{ScopeValue}
use Rattle.hir_nameres.specs.HirScope.Scope.Updates.{censored_scope, without_definition}
use Rattle.hir_nameres.specs.HirDefMapRules.State.{Map, with_scope}
use Rattle.hir_collector_rules.specs.declared.exported.ExportedFunction.{ExportedFunction}
use Rattle.hir_collector_rules.specs.State.{Core}

-- a scope where a name doesn't stand for this function any more, if it did
abbrev pub without_function : List ℕ → FunctionId → ScopeValue → ScopeValue
without_function name f s = record s { values = without_definition module_def.ghosts.eq s.values name (definitions.FunctionId f) }

-- a scope where the names of these functions don't stand for them
abbrev pub without_functions : List ExportedFunction → ScopeValue → ScopeValue
without_functions [] s = s
without_functions (f ∷ fs) s = without_functions fs (without_function f.name f.id s)

-- a scope of which other crates see the procedural macros that it exports, and nothing else
abbrev pub exporting_scope : Crate → List ExportedFunction → ScopeValue → ScopeValue
exporting_scope krate exported s = censored_scope krate (without_functions exported s)

-- the map that a run leaves: the root of a procedural-macro crate shows only what it exports
abbrev pub ended : Core → Map
ended c = cond c.is_proc_macro (with_scope c.map 0 (exporting_scope c.map.id.krate c.exported)) c.map
