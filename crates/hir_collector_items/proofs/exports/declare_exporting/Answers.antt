-- What each part notes, all note.
use Rattle.std.proofs.Common.{refl, rules}
use Rattle.hir_collector_state.proofs.Noted.{noted_follow}
use Rattle.hir_collector_items.proofs.exports.declare_exporting.Goals as goal

pub returns-clause-noted : goal.returns-clause-noted
returns-clause-noted c =
    noted_follow c.in_ok-export.ensures.noted
    (noted_follow c.in_ok-describe_macro.ensures.noted (noted_follow c.in_ok-bind.ensures.noted c.in_ok-declare.ensures.noted))
