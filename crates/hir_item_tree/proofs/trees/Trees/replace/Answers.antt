use Rattle.std.proofs.Common.{sym, ap, is_some, Some}
use Rattle.std.specs.BTreeMap.{get}
use Rattle.hir_base.specs.contracts.tree_id.TreeIdOrd.TheImpl.{ghosts as ids}
use Rattle.hir_item_tree.proofs.TreeKeys.{equal_id, kept_under, changed, unchanged}
use Rattle.hir_item_tree.proofs.trees.Trees.replace.Goals as goal

-- what is kept under this crate is this
pub returns-in-Some-get_mut-clause-replaced : goal.returns-in-Some-get_mut-clause-replaced
returns-in-Some-get_mut-clause-replaced c q =
    changed ids.cmp equal_id (λ t. t.value) c.args.key.id c.args.key.krate (get ids.cmp c.args.self.now.by_source)
    (get ids.cmp (c.get_mut.follows.lender (c.get_mut-in-Some.follows.lender c.args.tree)))
    c.in-Some.kept.now (c.get_mut-in-Some.follows.lender c.args.tree) (Some c.args.tree)
    (λ krate. ap (λ o. kept_under (λ t. t.value) o krate) (sym c.in-Some.ensures.value))
    ((c.get_mut.follows.holds (c.get_mut-in-Some.follows.lender c.args.tree)).3 (ap is_some (sym c.in-Some.ensures.value))).0
    ((c.get_mut-in-Some.follows.holds c.args.tree).3 (ap is_some (sym c.in-Some-get_mut.ensures.value))).0 q.id q.krate

-- nothing is kept under it, and nothing changes
pub returns-in-None-get_mut-clause-unchanged : goal.returns-in-None-get_mut-clause-unchanged
returns-in-None-get_mut-clause-unchanged c q =
    unchanged ids.cmp equal_id (λ t. t.value) c.args.key.id (get ids.cmp c.args.self.now.by_source)
    (get ids.cmp (c.get_mut.follows.lender c.get_mut-in-Some.follows.lender-at-none))
    c.in-Some.kept.now c.get_mut-in-Some.follows.lender-at-none
    (λ krate. ap (λ o. kept_under (λ t. t.value) o krate) (sym c.in-Some.ensures.value))
    ((c.get_mut.follows.holds c.get_mut-in-Some.follows.lender-at-none).3 (ap is_some (sym c.in-Some.ensures.value))).0
    (ap (λ m. m.entries) c.get_mut-in-Some.follows.holds-at-none) q.id q.krate
