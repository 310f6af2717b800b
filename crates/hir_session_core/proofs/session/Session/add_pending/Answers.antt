-- It is put where its nesting and its place say.
use Rattle.std.proofs.Common.{◌≡◌, ◌∙◌, ap, sym, Bool, true, cond}
use Rattle.std.specs.Prelude.{is_none}
use Rattle.std.specs.BTreeSet.{insert_key}
use Rattle.hir_session_state.specs.Blocks.{place_of_block}
use Rattle.hir_session_state.specs.SessionState.{block_kept}
use Rattle.hir_session_core.specs.Progress.{pending_of}
use Rattle.hir_session_core.specs.contracts.session.pending.PendingBlockOrd.TheImpl as pending_order
use Rattle.hir_session_core.specs.declared.session.pending.PendingBlock.{PendingBlock}
use Rattle.hir_session_core.proofs.session.Session.add_pending.Goals as goal

pub returns-in_ok-insert : goal.returns-in_ok-insert
returns-in_ok-insert c =
    let on : is_none (block_kept c.args.self.now c.args.block.now) ≡ true = sym c.is_block_marked.ensures.value ∙ c.if-is_block_marked.true in
    let keys = c.args.pending.now.keys in
    record {
      ok = c.in_ok-insert.ensures.keys
          ∙ ap (λ (p : PendingBlock). insert_key pending_order.ghosts.cmp keys p) c.in_ok-one.ensures.value
          ∙ sym (ap (λ (t : Bool). cond t (insert_key pending_order.ghosts.cmp keys (pending_of (place_of_block c.args.block.now))) keys) on);
    }
