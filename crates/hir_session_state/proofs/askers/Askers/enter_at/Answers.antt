-- A key that asks for a source is entered there alone, and one that asks for none nowhere.
use Rattle.std.proofs.Common.{◌∙◌, ap, sym, Bool, ◌||◌}
use Rattle.hir_session_state.specs.Askers.{is_asker}
use Rattle.hir_session_state.proofs.Entering.{enters_none, one_entry}
use Rattle.hir_session_state.proofs.Truth.{where_ok}
use Rattle.hir_session_state.proofs.askers.Askers.enter_at.Goals as goal

pub returns-in-Some-clause-ok : goal.returns-in-Some-clause-ok
returns-in-Some-clause-ok c = where_ok c.add.result c.add.ensures.ok
    (λ added n k j. added n k j ∙ ap (λ (b : Bool). is_asker c.args.self.now n k j || b)
    (one_entry c.args.tables.now c.args.key c.in-Some.number c.args.id (sym c.in-Some.ensures.value) n k j))

pub returns-in-None-clause-ok : goal.returns-in-None-clause-ok
returns-in-None-clause-ok c = enters_none c.args.tables.now c.args.self.now c.args.key c.args.id (sym c.in-None.ensures.value)
