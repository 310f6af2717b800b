-- The module that was read at the index is the one that the write changes; past the end there is none.
use Rattle.std.proofs.Common.{arith, sym}
use Rattle.hir_def_map_rules.specs.Declaration.{listed}
use Rattle.hir_def_map_rules.specs.State.{ModuleValue, with_module_scope}
use Rattle.hir_def_map_rules.proofs.Modules.{OnOk-map, changed_at-write, changed_at-past}
use Rattle.hir_def_map_rules.proofs.declaration.list_in.Goals as goal

pub returns-then-at-len-clause-ok : goal.returns-then-at-len-clause-ok
returns-then-at-len-clause-ok c =
    sym (changed_at-past c.args.modules.now.items c.args.at (with_module_scope (listed c.args.declaration)) (omega (arith, c.args.modules.now.ok.0)))

pub returns-clause-ok : goal.returns-clause-ok
returns-clause-ok c =
    let change : ModuleValue → ModuleValue = with_module_scope (listed c.args.declaration) in
    OnOk-map c.list.result _ _
    (λ e. changed_at-write c.args.modules.now.items c.args.at change c.index_mut.result.now c.list.new.self (omega (arith, c.args.modules.now.ok.0))
    c.index_mut.ensures.value e)
    c.list.ensures.ok
