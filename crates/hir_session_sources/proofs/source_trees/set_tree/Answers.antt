-- Where the file has something under crates, it then has this under this one too; else under this one alone.
use Rattle.std.proofs.Common.{sym, ap, is_some, ◌∙◌, cond, Some}
use Rattle.std.specs.BTreeMap.{get, is_at}
use Rattle.std.specs.Cmp.Lexicographic.{slice_cmp}
use Rattle.std.specs.Ordering.{nat_cmp}
use Rattle.hir_session_state.proofs.HirItemTree.TreeKeys.{kept_under, changed, unchanged, from_none, on_err}
use Rattle.hir_session_sources.proofs.SourceLemmas.{exact_paths}
use Rattle.hir_session_sources.proofs.source_trees.set_tree.Goals as goal

pub returns-in_ok-insert-in-Some-clause-ok : goal.returns-in_ok-insert-in-Some-clause-ok
returns-in_ok-insert-in-Some-clause-ok c =
    changed (slice_cmp nat_cmp) exact_paths.same (λ t. t.value) c.args.path.now c.args.krate (get (slice_cmp nat_cmp) c.args.files.now)
    (get (slice_cmp nat_cmp) (c.get_mut.follows.lender c.insert.new.self)) c.in-Some.kept.now c.insert.new.self (Some c.args.tree)
    (λ krate. ap (λ o. kept_under (λ t. t.value) o krate) (sym c.in-Some.ensures.value))
    ((c.get_mut.follows.holds c.insert.new.self).3 (ap is_some (sym c.in-Some.ensures.value))).0
    c.in_ok-insert-in-Some.ensures.updates.0

pub returns-in_ok-insert-in-None-2-clause-ok : goal.returns-in_ok-insert-in-None-2-clause-ok
returns-in_ok-insert-in-None-2-clause-ok c =
    changed (slice_cmp nat_cmp) exact_paths.same (λ t. t.value) c.args.path.now c.args.krate (get (slice_cmp nat_cmp) c.args.files.now)
    (get (slice_cmp nat_cmp) c.insert-in-None-2.new.self) c.new-kept.result c.insert-in-None.new.self (Some c.args.tree)
    (from_none (λ t. t.value) (get (slice_cmp nat_cmp) c.args.files.now c.args.path.now) c.new-kept.result c.in-None.ensures.value
    c.new-kept.ensures.empty)
    (λ p. rw c.in_ok-clone-in-None.ensures.value at (c.in_ok-insert-in-None-2.ensures.updates.0 p) ∙ ap
    (λ m. cond (is_at (slice_cmp nat_cmp c.args.path.now) p) (Some c.insert-in-None.new.self) (get (slice_cmp nat_cmp) m p)) c.get_mut.follows.holds-at-none)
    c.in_ok-insert-in-None.ensures.updates.0

pub returns-in_err-insert-in-Some-clause-err : goal.returns-in_err-insert-in-Some-clause-err
returns-in_err-insert-in-Some-clause-err c = on_err c.from_residual.result
    (unchanged (slice_cmp nat_cmp) exact_paths.same (λ t. t.value) c.args.path.now (get (slice_cmp nat_cmp) c.args.files.now)
    (get (slice_cmp nat_cmp) (c.get_mut.follows.lender c.insert.new.self)) c.in-Some.kept.now c.insert.new.self
    (λ krate. ap (λ o. kept_under (λ t. t.value) o krate) (sym c.in-Some.ensures.value))
    ((c.get_mut.follows.holds c.insert.new.self).3 (ap is_some (sym c.in-Some.ensures.value))).0
    c.in_err-insert-in-Some.ensures.err)
