-- The module that was read at the index is the one that the push changes; past the end there is none.
use Rattle.std.proofs.Common.{arith, sym, refl}
use Rattle.std.proofs.lemmas.Option.{slice_get_past}
use Rattle.hir_def_map_rules.specs.State.{ModuleValue, pushed_module}
use Rattle.hir_def_map_rules.proofs.Modules.{OnOk-map, changed_at-write, changed_at-past, slice_get-read}
use Rattle.hir_def_map_rules.proofs.module_data.push_in.Goals as goal

pub returns-then-at-len-clause-ok : goal.returns-then-at-len-clause-ok
returns-then-at-len-clause-ok c =
    sym (changed_at-past c.args.modules.now.items c.args.at (pushed_module c.args.glob_imports.now c.args.place c.args.items c.args.import)
    (omega (arith, c.args.modules.now.ok.0)))

pub returns-then-at-len-clause-globs : goal.returns-then-at-len-clause-globs
returns-then-at-len-clause-globs c = rw (slice_get_past c.args.modules.now.items c.args.at (omega (arith, c.args.modules.now.ok.0))) refl

pub returns-then-at-len-clause-changed : goal.returns-then-at-len-clause-changed
returns-then-at-len-clause-changed c = rw (slice_get_past c.args.modules.now.items c.args.at (omega (arith, c.args.modules.now.ok.0))) refl

pub returns-clause-ok : goal.returns-clause-ok
returns-clause-ok c =
    let change : ModuleValue → ModuleValue = pushed_module c.args.glob_imports.now c.args.place c.args.items c.args.import in
    OnOk-map c.push.result _ _
    (λ e. changed_at-write c.args.modules.now.items c.args.at change c.index_mut.result.now c.push.new.self (omega (arith, c.args.modules.now.ok.0))
    c.index_mut.ensures.value e)
    c.push.ensures.ok

pub returns-clause-globs : goal.returns-clause-globs
returns-clause-globs c =
    rw (slice_get-read c.args.modules.now.items c.args.at c.index_mut.result.now (omega (arith, c.args.modules.now.ok.0)) c.index_mut.ensures.value)
    c.push.ensures.globs

pub returns-clause-changed : goal.returns-clause-changed
returns-clause-changed c =
    rw (slice_get-read c.args.modules.now.items c.args.at c.index_mut.result.now (omega (arith, c.args.modules.now.ok.0)) c.index_mut.ensures.value)
    c.push.ensures.changed
