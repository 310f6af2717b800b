-- One more key is judged.
use Rattle.std.proofs.Common.{rules, sym, subst, List}
use Rattle.std.specs.Map.Iter.{deref_pair}
use Rattle.std.proofs.lemmas.Map.Iter.{btree_map_turn}
use Rattle.hir_session_state.specs.HirIds.declared.ids.MapId.{MapId}
use Rattle.hir_session_state.specs.HirCollectorRules.contracts.source_database.KeyOrd.TheImpl.Laws.{total-law as keys_total}
use Rattle.hir_session_sources.proofs.Changing.{no_trees}
use Rattle.hir_session_invalidation.proofs.Judging.{judging-end, judging-more, judging-start}
use Rattle.hir_session_invalidation.proofs.invalidate.invalidated_among.Goals as goal

pub loop-key-init : goal.loop-key-init
loop-key-init c = record {
  judging = rw c.new-hits.ensures.items (judging-start _ _ _ c.args.askers.now _ (search rules));
  changes = record { before = no_trees _ _ _ _ c.new.ensures.empty; after = no_trees _ _ _ _ c.new-2.ensures.empty };
}

pub loop-key-preserved : goal.loop-key-preserved
loop-key-preserved c =
    let turn = btree_map_turn deref_pair c.loop-key.yielded c.into_iter-key-iterator.result c.loop-key.key-iterator c.next.new.self c.next.result
    (c.in-Some.key, c.in-Some.places) c.loop-key.yielded_by c.in-Some.is c.next.ensures.steps keys_total c.args.askers.now (search rules) (search rules) in
    record {
      judging =
          judging-more _ _ _ c.args.askers.now c.loop-key.key-iterator c.next.new.self c.in-Some.key.now c.in-Some.places.now (search rules) turn.1 _ _
          c.loop-key.invariant.judging c.in_ok-judge.ensures.judged;
      changes = c.in_ok-judge.ensures.changes;
    }

-- none is left
pub returns : goal.returns
returns c = record {
  judged = judging-end _ _ _ c.args.askers.now c.loop-key.key-iterator _ c.in-None.ensures.steps.0 c.loop-key.invariant.judging;
  trees = c.loop-key.invariant.changes.after;
}
