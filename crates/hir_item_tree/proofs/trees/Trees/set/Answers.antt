use Rattle.std.proofs.Common.{sym, ap, is_some, ◌∙◌, cond, Some}
use Rattle.std.specs.BTreeMap.{get, is_at}
use Rattle.hir_base.specs.contracts.tree_id.TreeIdOrd.TheImpl.{ghosts as ids}
use Rattle.hir_item_tree.proofs.TreeKeys.{equal_id, kept_under, changed, unchanged, from_none, on_err}
use Rattle.hir_item_tree.proofs.trees.Trees.set.Goals as goal

-- where the source is kept under crates, it is there under this one too
pub returns-in_ok-insert-in-Some-clause-ok : goal.returns-in_ok-insert-in-Some-clause-ok
returns-in_ok-insert-in-Some-clause-ok c q =
    changed ids.cmp equal_id (λ t. t.value) c.args.key.id c.args.key.krate (get ids.cmp c.args.self.now.by_source)
    (get ids.cmp (c.get_mut.follows.lender c.insert.new.self)) c.in-Some.kept.now c.insert.new.self (Some c.args.tree)
    (λ krate. ap (λ o. kept_under (λ t. t.value) o krate) (sym c.in-Some.ensures.value))
    ((c.get_mut.follows.holds c.insert.new.self).3 (ap is_some (sym c.in-Some.ensures.value))).0
    c.in_ok-insert-in-Some.ensures.updates.0 q.id q.krate

-- else it is there under this one alone
pub returns-in_ok-insert-in-None-2-clause-ok : goal.returns-in_ok-insert-in-None-2-clause-ok
returns-in_ok-insert-in-None-2-clause-ok c q =
    changed ids.cmp equal_id (λ t. t.value) c.args.key.id c.args.key.krate (get ids.cmp c.args.self.now.by_source) (get ids.cmp c.insert-in-None-2.new.self)
    c.new-kept.result c.insert-in-None.new.self (Some c.args.tree)
    (from_none (λ t. t.value) (get ids.cmp c.args.self.now.by_source c.args.key.id) c.new-kept.result c.in-None.ensures.value c.new-kept.ensures.empty)
    (λ id. c.in_ok-insert-in-None-2.ensures.updates.0 id ∙ ap (λ m. cond (is_at (ids.cmp c.args.key.id) id) (Some c.insert-in-None.new.self) (get ids.cmp m id))
    c.get_mut.follows.holds-at-none)
    c.in_ok-insert-in-None.ensures.updates.0 q.id q.krate

-- a failed allocation leaves what was kept
pub returns-in_err-insert-in-Some-clause-err : goal.returns-in_err-insert-in-Some-clause-err
returns-in_err-insert-in-Some-clause-err c = on_err c.from_residual.result
    (λ q. unchanged ids.cmp equal_id (λ t. t.value) c.args.key.id (get ids.cmp c.args.self.now.by_source)
    (get ids.cmp (c.get_mut.follows.lender c.insert.new.self)) c.in-Some.kept.now c.insert.new.self
    (λ krate. ap (λ o. kept_under (λ t. t.value) o krate) (sym c.in-Some.ensures.value))
    ((c.get_mut.follows.holds c.insert.new.self).3 (ap is_some (sym c.in-Some.ensures.value))).0
    c.in_err-insert-in-Some.ensures.err q.id q.krate)
