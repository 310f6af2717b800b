-- The item is watched besides, if there is one.
use Rattle.std.proofs.Common.{◌≡◌, true, subst}
use Rattle.hir_nameres.specs.HirIds.declared.ast_id.AstId.{AstId}
use Rattle.hir_nameres.specs.HirIds.contracts.ast_id.AstIdOrd.TheImpl.Laws.{total-law as item_total}
use Rattle.hir_worklist.proofs.Woken.{keeps_besides, watches_its}
use Rattle.hir_import_rules.specs.Changed.{item_cmp}
use Rattle.hir_call_queue.specs.Waking.{watches_item}
use Rattle.hir_call_queue.proofs.queue.watch_item.Goals as goal

pub returns-clause-watching : goal.returns-clause-watching
returns-clause-watching c = λ item is.
    let same : c.in-Some.on ≡ item = cc in
    subst (λ (x : AstId). watches_item c.watch.new.self x c.args.i ≡ true) same
    (watches_its item_cmp item_total c.args.attributes.now c.watch.new.self c.in-Some.on c.args.i c.in_ok-watch.ensures.ok)

pub returns-clause-others : goal.returns-clause-others
returns-clause-others c = keeps_besides item_cmp c.args.attributes.now c.watch.new.self c.in-Some.on c.args.i c.in_ok-watch.ensures.ok

pub returns-in_default-clause-others : goal.returns-in_default-clause-others
returns-in_default-clause-others c = λ item p e. e
