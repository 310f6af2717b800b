-- The crates so far come after their dependencies; the next is refused where it doesn't.
use Rattle.std.proofs.Common.{map, inl, inr, sym, ap, ◌∙◌, arith}
use Rattle.std.proofs.lemmas.List.{length-map}
use Rattle.hir_crate_graph.specs.Graph.{crates_at}
use Rattle.hir_crate_graph.proofs.Closure.{crates_at-map, transitive_of-done, transitive_of-late}
use Rattle.hir_crate_graph.proofs.transitive.TransitiveDependencies.of.Goals as goal

pub returns-in-Err : goal.returns-in-Err
returns-in-Err c =
    let all = length-map c.args.direct.now (λ crates. crates.items) in
    let long = c.loop-crates.invariant.1 in
    record {
      answer = elim c.in-Err.ensures.answer [
        | inl memory ↦ inl memory
        | inr verdict ↦ inr (
            transitive_of-late _ c.loop-crates.transitive c.as_slice.result.now _ c.loop-crates.invariant.0
            (ap (crates_at (map (λ crates. crates.items) c.args.direct.now)) long
            ∙ crates_at-map (λ crates. crates.items) c.args.direct.now c.loop-crates.crates-index c.crates-item.result (omega arith) c.crates-item.is
            ∙ sym c.as_slice.ensures.value)
            (omega arith) verdict
            )
      ];
    }

pub returns : goal.returns
returns c =
    let all = length-map c.args.direct.now (λ crates. crates.items) in
    let long = c.loop-crates.invariant.1 in
    record { answer = transitive_of-done _ c.loop-crates.transitive c.loop-crates.invariant.0 (omega arith) }
