-- One more is watched in each turn.
use Rattle.std.proofs.Common.{[], ◌∷◌, ◌++◌, rules}
use Rattle.std.proofs.lemmas.List.Elements.{All-push}
use Rattle.hir_import_rules.specs.Lasting.{IsThere}
use Rattle.hir_nameres.specs.contracts.nameres.path_resolution.slots.SlotOrd.TheImpl.Laws.{total-law as slot_total}
use Rattle.hir_import_resolution.specs.Inner.Queue.{slot_cmp}
use Rattle.hir_worklist.proofs.Woken.{keeps_besides, one_done, watches_more}
use Rattle.hir_import_resolution.proofs.resolver.watch.watch_each.Goals as goal

pub loop-slot-preserved : goal.loop-slot-preserved
loop-slot-preserved c =
    let slot = c.in_ok-to_slot.field-0 in
    record {
      done = c.loop-slot.invariant.done ++ slot ∷ [];
      split =
          one_done c.loop-slot.invariant.done slot c.next.new.self c.loop-slot.slot-iterator c.into_iter-slot-iterator.result c.loop-slot.invariant.split
          (search (rules, c.in-Some.ensures.steps, c.in_ok-to_slot.ensures.value));
      each =
          watches_more slot_cmp slot_total c.loop-slot.watchers c.watch.new.self slot c.args.i c.loop-slot.invariant.done c.loop-slot.invariant.each
          c.in_ok-watch.ensures.ok;
      there =
          λ e. All-push (IsThere c.args.modules) c.loop-slot.invariant.done slot (c.loop-slot.invariant.there (search (rules, e)))
          (search (rules, e, c.in_ok-to_slot.ensures.value));
      others =
          λ other p e. keeps_besides slot_cmp c.loop-slot.watchers c.watch.new.self slot c.args.i c.in_ok-watch.ensures.ok other p
          (c.loop-slot.invariant.others other p e);
    }
