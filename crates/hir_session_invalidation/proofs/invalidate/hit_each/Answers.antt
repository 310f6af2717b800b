-- One more place is hit.
use Rattle.std.proofs.Common.{◌≡◌, ◌∙◌, ap, sym, List, [], ◌∷◌, ◌++◌, append-nil, append_assoc}
use Rattle.hir_session_state.specs.HirIds.declared.ids.MapId.{MapId}
use Rattle.hir_session_invalidation.proofs.invalidate.hit_each.Goals as goal

pub loop-id-preserved : goal.loop-id-preserved
loop-id-preserved c =
    rw (c.in_ok-push.ensures.items, append_assoc, ← c.in-Some.ensures.steps) c.loop-id.invariant

pub returns : goal.returns
returns c = record {
  ok = sym (append-nil _) ∙ ap (λ (rest : List MapId). c.loop-id.hits.items ++ rest) (sym c.in-None.ensures.steps.0) ∙ c.loop-id.invariant;
}
