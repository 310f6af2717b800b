-- One more crate is made of the next that was handed in.
use Rattle.std.proofs.Common.{◌<◌, ◌∙◌, List, length, get_or, ap, arith, refl}
use Rattle.hir_session_state.specs.HirMessages.declared.command.CrateInput.{CrateInput}
use Rattle.hir_session_sources.proofs.Start.{beginning-start, beginning-more, beginning-end}
use Rattle.hir_session_sources.proofs.beginning.infos_of.Goals as goal

pub loop-input-init : goal.loop-input-init
loop-input-init c = beginning-start _ _ _ c.new-infos.ensures.items

pub loop-input-preserved : goal.loop-input-preserved
loop-input-preserved c =
    let within : c.loop-input.input-index < length c.args.inputs.now.items = omega (arith, c.loop-input-test.true, c.deref-input-items.ensures.len) in
    beginning-more c.loop-input.input-index c.args.inputs.now.items _ _ _ _ _ c.input-item.result c.input-item.result within
    (c.input-item.is ∙ ap (λ (xs : List CrateInput). get_or xs c.loop-input.input-index c.input-item.result) c.deref-input-items.ensures.value)
    c.in_ok-add_crate.ensures.added c.loop-input.invariant

pub returns-clause-made : goal.returns-clause-made
returns-clause-made c =
    beginning-end c.loop-input.input-index c.args.inputs.now.items _ _ _ (omega (arith, c.loop-input-test.false, c.deref-input-items.ensures.len))
    c.loop-input.invariant
