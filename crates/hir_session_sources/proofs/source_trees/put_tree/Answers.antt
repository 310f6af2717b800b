-- The file has it under the crate where it has something under it.
use Rattle.std.proofs.Common.{◌∙◌, ap, sym, is_some}
use Rattle.std.specs.BTreeMap.{get}
use Rattle.std.specs.Cmp.Lexicographic.{slice_cmp}
use Rattle.std.specs.Ordering.{nat_cmp}
use Rattle.hir_session_sources.specs.SourceTrees.{file_tree}
use Rattle.hir_session_sources.proofs.Replaced.{file_put, no_file_put}
use Rattle.hir_session_sources.proofs.source_trees.put_tree.Goals as goal

pub returns-in-Some : goal.returns-in-Some
returns-in-Some c = record {
  value = file_put c.args.path.now c.args.krate c.args.tree (get (slice_cmp nat_cmp) c.args.files.now)
      (get (slice_cmp nat_cmp) (c.get_mut.follows.lender c.put_at.new.own)) c.in-Some.kept.now c.put_at.new.own c.in-Some.ensures.value
      ((c.get_mut.follows.holds c.put_at.new.own).3 (ap is_some (sym c.in-Some.ensures.value))).0
      c.put_at.ensures.value;
}

pub returns-in-None : goal.returns-in-None
returns-in-None c = record {
  value = λ p k. ap (λ m. file_tree m p k) c.get_mut.follows.holds-at-none
      ∙ no_file_put c.args.path.now c.args.krate c.args.tree (get (slice_cmp nat_cmp) c.args.files.now) c.in-None.ensures.value p k;
}
