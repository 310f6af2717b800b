use Rattle.std.proofs.Common.{◌≡◌, ◌++◌, drop}
use Rattle.hir_collector_start.proofs.crate_top.add_tools.Given as goal

-- with those that are left, all are registered
abbrev pub invariant-loop-name : goal.invariant-loop-name
invariant-loop-name l =
    record l.crate_data { registered_tools = l.crate_data.registered_tools ++ drop l.name-index l.names }
    ≡ record l.initial.crate_data { registered_tools = l.initial.crate_data.registered_tools ++ l.names }
