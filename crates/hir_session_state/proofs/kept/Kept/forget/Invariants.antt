use Rattle.hir_session_state.specs.Askers.{HoldsExactly, ListsFallen}
use Rattle.hir_session_state.proofs.KeptLemmas.{IsForgetting}
use Rattle.hir_session_state.proofs.kept.Kept.forget.Given as goal

abbrev pub invariant-loop-id : goal.invariant-loop-id
invariant-loop-id l = record {
  forgetting : IsForgetting l.initial.self l.ids.items l.id-index l.self;
  exact : HoldsExactly l.tables l.self l.askers;
  listed : ListsFallen l.initial.self l.self l.fn.fell l.fell;
}
