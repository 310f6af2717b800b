-- It then is kept of the block under its crate.
use Rattle.std.proofs.Common.{◌≡◌, ◌∙◌, ap, sym, refl, nat_eq, true}
use Rattle.hir_session_sources.proofs.TreeLemmas.{blocks_become}
use Rattle.hir_session_sources.proofs.source_trees.SourceTrees.set_of_block.Goals as goal

pub returns-in_ok-insert_under-clause-ok : goal.returns-in_ok-insert_under-clause-ok
returns-in_ok-insert_under-clause-ok c =
    let own : nat_eq c.args.place.now.holder.krate.0 c.args.krate.0 ≡ true = ap (λ k. nat_eq k.0 c.args.krate.0) (sym c.krate.ensures.value) ∙ sym c.eq.ensures
    ∙ c.if-eq.true in
    blocks_become c.args.self.now (record c.args.self.now { by_block = c.insert_under.new.stored }) c.args.place.now c.args.krate c.args.tree
    (λ j k. refl) (λ k. refl)
    (rw c.in_ok-place.ensures.value at c.in_ok-insert_under.ensures.ok) own
