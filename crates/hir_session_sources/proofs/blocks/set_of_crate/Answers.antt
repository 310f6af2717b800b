-- The table of the crate gets one more, or is the first; one that refused the block is as it was.
use Rattle.std.proofs.Common.{◌∙◌, ap, sym, Some}
use Rattle.std.specs.BTreeMap.{is_at}
use Rattle.hir_session_state.specs.HirIds.contracts.ids.CrateOrd.TheImpl as crate_order
use Rattle.hir_session_state.proofs.HirMapParts.Rewrites.{on_err, set_value-same}
use Rattle.hir_session_sources.proofs.BlockLemmas.{set_first, set_there}
use Rattle.hir_session_sources.proofs.blocks.set_of_crate.Goals as goal

pub returns-in_ok-set-in-Some-clause-ok : goal.returns-in_ok-set-in-Some-clause-ok
returns-in_ok-set-in-Some-clause-ok c =
    set_there c.args.krate c.args.blocks.now.entries (c.get_mut.follows.lender c.set.new.self).entries c.in-Some.own.now c.set.new.self c.args.steps.items
    c.args.block
    c.get_mut.ensures.ordered c.in-Some.ensures.value (c.get_mut.follows.holds c.set.new.self).0 c.in_ok-set-in-Some.ensures.ok

pub returns-in_ok-insert-in-None-clause-ok : goal.returns-in_ok-insert-in-None-clause-ok
returns-in_ok-insert-in-None-clause-ok c =
    set_first c.args.krate c.args.blocks.now.entries _ c.insert.new.self.entries c.new-own.result c.set-in-None.new.self c.args.steps.items c.args.block
    c.in-None.ensures.value (ap (λ m. m.entries) c.get_mut.follows.holds-at-none) c.in_ok-insert-in-None.ensures.entries c.in_ok-set-in-None.ensures.ok
    c.new-own.ensures.value

pub returns-in_err-set-in-Some-clause-err : goal.returns-in_err-set-in-Some-clause-err
returns-in_err-set-in-Some-clause-err c =
    on_err c.from_residual.result ((c.get_mut.follows.holds c.set.new.self).0
    ∙ set_value-same (is_at (crate_order.ghosts.cmp c.args.krate)) c.args.blocks.now.entries c.set.new.self
    (sym c.in-Some.ensures.value ∙ ap Some (sym c.in_err-set-in-Some.ensures.err)))
