-- A crate that lists the file has another tree of it; one that doesn't lists it once it has one, and has none where that is refused.
use Rattle.std.proofs.Common.{◌∙◌, ap, sym, refl, is_some}
use Rattle.std.specs.BTreeMap.{is_at}
use Rattle.std.specs.Cmp.Lexicographic.{slice_cmp}
use Rattle.std.specs.Map.{lookup}
use Rattle.std.specs.Ordering.{nat_cmp}
use Rattle.hir_session_state.proofs.HirMapParts.Rewrites.{on_err}
use Rattle.hir_session_state.proofs.Truth.{where_err, where_ok}
use Rattle.hir_session_sources.proofs.TreeLemmas.{file_listed, file_not_listed, is_listed-become, listed_file}
use Rattle.hir_session_sources.proofs.source_trees.SourceTrees.set_of_file.Goals as goal

pub returns-then-is_listed-clause-ok : goal.returns-then-is_listed-clause-ok
returns-then-is_listed-clause-ok c = where_ok c.set_tree.result c.set_tree.ensures.ok (λ trees.
    listed_file c.args.self.now (record c.args.self.now { by_path = c.set_tree.new.files }) c.args.path.now c.args.krate c.args.tree.value trees
    (λ k. refl) (λ k. refl) refl (sym c.is_listed.ensures.value ∙ c.if-is_listed.true))

pub returns-in_err-listed-clause-err : goal.returns-in_err-listed-clause-err
returns-in_err-listed-clause-err c = on_err c.from_residual-in_err-listed.result (
    file_not_listed c.args.self.now (record c.args.self.now { by_path = c.set_tree-2.new.files }) c.args.path.now c.args.krate c.args.tree.value
    c.in_ok-set_tree.ensures.ok (λ k. refl) (λ k. refl) (λ j k. refl) (sym c.is_listed.ensures.value ∙ c.if-is_listed.false))

pub returns-clause-ok : goal.returns-clause-ok
returns-clause-ok c = where_ok c.insert_under.result c.insert_under.ensures.ok (λ becomes.
    file_listed c.args.self.now (record c.args.self.now { by_path = c.set_tree-2.new.files; paths = c.insert_under.new.stored }) c.args.path.now
    c.args.krate c.args.tree.value c.in_ok-set_tree.ensures.ok (λ k. refl) (λ k. refl)
    (is_listed-become c.args.path.now c.args.krate _ c.args.self.now.paths c.insert_under.new.stored (rw c.in_ok-listed.ensures.value at becomes)))

pub returns-clause-err : goal.returns-clause-err
returns-clause-err c = where_err c.insert_under.result c.insert_under.ensures.err (λ same.
    file_not_listed c.args.self.now (record c.args.self.now { by_path = c.set_tree-2.new.files; paths = c.insert_under.new.stored }) c.args.path.now
    c.args.krate c.args.tree.value c.in_ok-set_tree.ensures.ok (λ k. refl) (λ k. refl)
    (λ j k. ap (λ es. is_some (lookup (is_at (slice_cmp nat_cmp j)) es)) (same k)) (sym c.is_listed.ensures.value ∙ c.if-is_listed.false))
