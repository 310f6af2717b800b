-- It is due where nothing is kept of it.
use Rattle.std.proofs.Common.{◌∙◌, ap, sym, refl, Option}
use Rattle.std.specs.Prelude.{is_none}
use Rattle.hir_session_state.specs.Kept.{Resolution}
use Rattle.hir_session_state.proofs.Truth.{clash, no_value}
use Rattle.hir_session_core.proofs.Pending.{marked_none}
use Rattle.hir_session_core.proofs.session.Session.due_in.Goals as goal

pub returns-then-is_block_marked : goal.returns-then-is_block_marked
returns-then-is_block_marked c = record {
  place = refl;
  holder = refl;
  due = record {
    set = c.requires.set;
    marked = marked_none _ (sym c.is_block_marked.ensures.value ∙ c.if-is_block_marked.true);
    holder = c.args.holder;
    held = c.requires.held;
  };
  none = λ is. no_value (sym is);
}

pub returns-else-is_block_marked : goal.returns-else-is_block_marked
returns-else-is_block_marked c = record {
  place = tt;
  holder = tt;
  due = tt;
  none = λ is due. clash (ap (λ (o : Option Resolution). is_none o) due.marked) (sym c.is_block_marked.ensures.value ∙ c.if-is_block_marked.false);
}
