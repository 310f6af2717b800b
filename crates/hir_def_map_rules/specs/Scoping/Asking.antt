-- How is a path asked for?
use Rattle.std.specs.Prelude.{Option, None, Some, []}
use Rattle.hir_def_map_rules.specs.State.{Local}
use Rattle.hir_def_map_rules.specs.declared.path_result.ResolveMode.{ResolveMode}
use Rattle.hir_def_map_rules.specs.declared.path_result.ResolveMode.TheVariants as modes
use Rattle.hir_base.specs.declared.resolve_mode.BuiltinShadowMode.{BuiltinShadowMode}
use Rattle.hir_base.specs.declared.resolve_mode.MacroSubNs.{MacroSubNs}

-- over these crates, by an import or else, whether a builtin type yields to a module, which macros fit
pub record Asking : Type 0 where
  pub local : Local
  pub mode : ResolveMode
  pub shadow : BuiltinShadowMode
  pub sub_ns : Option MacroSubNs

-- how all ask but imports
abbrev pub by_other : Local → BuiltinShadowMode → Option MacroSubNs → Asking
by_other local shadow sub_ns = record { local = local; mode = modes.Other; shadow = shadow; sub_ns = sub_ns }

-- the crates that a path may begin with; where none are given, none
abbrev pub local_of : Option Local → Local
local_of None = []
local_of (Some local) = local
