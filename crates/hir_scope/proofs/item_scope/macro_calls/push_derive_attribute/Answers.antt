use Rattle.std.proofs.Common.{◌∙◌, ap, sym, Some}
use Rattle.hir_ids.specs.contracts.ast_id.AstIdPartialEq.TheImpl as ast_id
use Rattle.hir_scope.proofs.Rewrites.{set_value-same, on_err}
use Rattle.hir_scope.proofs.item_scope.macro_calls.push_derive_attribute.Goals as goal

-- the list whose allocation failed is unchanged, and so are the entries
pub returns-in_err-push-clause-err : goal.returns-in_err-push-clause-err
returns-in_err-push-clause-err c =
    on_err c.from_residual.result ((c.get_mut.follows.holds c.push.new.self).0
    ∙ set_value-same (ast_id.ghosts.eq c.args.adt.now) c.args.derives.now.entries c.push.new.self
    (sym c.in-Some.ensures.value ∙ ap Some (sym c.in_err-push.ensures.err)))
