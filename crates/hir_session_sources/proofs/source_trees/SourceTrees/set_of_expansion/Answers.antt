-- It then is kept of the expansion under the crate that calls.
use Rattle.std.proofs.Common.{◌≡◌, ◌∙◌, sym, refl, nat_eq, true}
use Rattle.hir_session_sources.proofs.TreeLemmas.{expansions_become}
use Rattle.hir_session_sources.proofs.source_trees.SourceTrees.set_of_expansion.Goals as goal

pub returns-in_ok-insert_under-clause-ok : goal.returns-in_ok-insert_under-clause-ok
returns-in_ok-insert_under-clause-ok c =
    let calls : nat_eq c.args.key.now.caller.0 c.args.krate.0 ≡ true = sym c.eq.ensures ∙ c.if-eq.true in
    expansions_become c.args.self.now (record c.args.self.now { by_key = c.insert_under.new.stored }) c.args.key.now c.in_ok-key.key c.args.krate c.args.tree
    (λ j k. refl) (λ k. refl)
    c.in_ok-key.ensures.value c.in_ok-insert_under.ensures.ok calls
