-- The list that refused the helper is as it was, and so the entries are.
use Rattle.std.proofs.Common.{◌∙◌, ap, sym, Some}
use Rattle.std.specs.BTreeMap.{is_at}
use Rattle.hir_ids.specs.contracts.ast_id.AstIdOrd.TheImpl as ast_order
use Rattle.hir_map_parts.proofs.Rewrites.{on_err, set_value-same}
use Rattle.hir_map_parts.proofs.derive_helpers.push_helper.Goals as goal

pub returns-in_err-push-in-Some-clause-err : goal.returns-in_err-push-in-Some-clause-err
returns-in_err-push-in-Some-clause-err c =
    on_err c.from_residual.result ((c.get_mut.follows.holds c.push.new.self).0
    ∙ set_value-same (is_at (ast_order.ghosts.cmp c.args.item)) c.args.helpers.now.entries c.push.new.self
    (sym c.in-Some.ensures.value ∙ ap Some (sym c.in_err-push-in-Some.ensures.err)))
