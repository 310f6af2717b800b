-- Under the number that it has now, its run begins in the module that holds it.
use Rattle.std.proofs.Common.{refl}
use Rattle.hir_session_state.proofs.HirScope.Rewrites.{on_err}
use Rattle.hir_session_state.specs.Due.IsStuckAt.{numbered_out}
use Rattle.hir_session_state.proofs.Truth.{where_ok}
use Rattle.hir_session_core.proofs.Begun.{at_err, block_resolved, block_stuck, holder_there, ready, where_err}
use Rattle.hir_session_core.proofs.Due.{passed_on}
use Rattle.hir_session_core.proofs.Growth.{grows_twice}
use Rattle.hir_session_core.proofs.session.Session.resolve_block.Goals as goal

pub file_of-file-requires : goal.file_of-file-requires
file_of-file-requires g c = record {
  there = holder_there _ _ c.in_ok-number.ensures.sound c.number_of.ensures.grown c.args.block c.args.holder c.in_ok-number.number c.requires.crates
      c.requires.due c.requires.held c.in_ok-number.ensures.means c.in_ok-number.ensures.number;
}

pub resolve_in-requires-clause-place : goal.resolve_in-requires-clause-place
resolve_in-requires-clause-place g c =
    (ready _ _ c.in_ok-number.ensures.sound c.number_of.ensures.grown c.args.block c.args.holder c.in_ok-number.number c.requires.crates c.requires.due
    c.requires.held
    c.in_ok-number.ensures.means c.in_ok-number.ensures.number c.krate-krate.result c.krate-krate.ensures.value c.file_of-file.result
    c.file_of-file.ensures.is).place

pub resolve_in-requires-clause-marked : goal.resolve_in-requires-clause-marked
resolve_in-requires-clause-marked g c =
    (ready _ _ c.in_ok-number.ensures.sound c.number_of.ensures.grown c.args.block c.args.holder c.in_ok-number.number c.requires.crates c.requires.due
    c.requires.held
    c.in_ok-number.ensures.means c.in_ok-number.ensures.number c.krate-krate.result c.krate-krate.ensures.value c.file_of-file.result
    c.file_of-file.ensures.is).marked

pub resolve_in-requires-clause-begun : goal.resolve_in-requires-clause-begun
resolve_in-requires-clause-begun g c =
    (ready _ _ c.in_ok-number.ensures.sound c.number_of.ensures.grown c.args.block c.args.holder c.in_ok-number.number c.requires.crates c.requires.due
    c.requires.held
    c.in_ok-number.ensures.means c.in_ok-number.ensures.number c.krate-krate.result c.krate-krate.ensures.value c.file_of-file.result
    c.file_of-file.ensures.is).begun

pub resolve_in-requires-clause-numbered : goal.resolve_in-requires-clause-numbered
resolve_in-requires-clause-numbered g c = c.file_of-file.ensures.numbered

pub resolve_in-requires-clause-behind : goal.resolve_in-requires-clause-behind
resolve_in-requires-clause-behind g c =
    (ready _ _ c.in_ok-number.ensures.sound c.number_of.ensures.grown c.args.block c.args.holder c.in_ok-number.number c.requires.crates c.requires.due
    c.requires.held
    c.in_ok-number.ensures.means c.in_ok-number.ensures.number c.krate-krate.result c.krate-krate.ensures.value c.file_of-file.result
    c.file_of-file.ensures.is).behind

pub returns-clause-ok : goal.returns-clause-ok
returns-clause-ok g c = where_ok c.resolve_in.result c.resolve_in.ensures.ok (λ found.
    block_resolved _ _ c.in_ok-number.ensures.sound c.number_of.ensures.grown c.args.block c.args.holder c.in_ok-number.number c.requires.crates c.requires.due
    c.requires.held c.in_ok-number.ensures.means c.in_ok-number.ensures.number c.krate-krate.result c.krate-krate.ensures.value _ found.0 found.1)

pub returns-clause-sound : goal.returns-clause-sound
returns-clause-sound g c = c.resolve_in.ensures.sound

pub returns-clause-many : goal.returns-clause-many
returns-clause-many g c = λ many.
    block_stuck _ _ c.in_ok-number.ensures.sound c.number_of.ensures.grown c.args.block c.args.holder c.in_ok-number.number c.requires.crates c.requires.due
    c.requires.held c.in_ok-number.ensures.means c.in_ok-number.ensures.number c.krate-krate.result c.krate-krate.ensures.value _ c.file_of-file.result
    c.file_of-file.ensures.is
    (at_err many c.resolve_in.ensures.err) (c.resolve_in.ensures.many many)

pub returns-clause-err : goal.returns-clause-err
returns-clause-err g c = where_err c.resolve_in.result c.resolve_in.ensures.err (λ later. grows_twice _ _ _ c.number_of.ensures.grown later)

pub returns-in_err-number-clause-sound : goal.returns-in_err-number-clause-sound
returns-in_err-number-clause-sound g c = c.number_of.ensures.grown.sound

pub returns-in_err-number-clause-err : goal.returns-in_err-number-clause-err
returns-in_err-number-clause-err g c = on_err _ c.number_of.ensures.grown

pub returns-in_err-number-clause-many : goal.returns-in_err-number-clause-many
returns-in_err-number-clause-many g c = λ many.
    let out = c.number_of.ensures.many (passed_on _ _ _ _ c.in_err-number.was c.from_residual.ensures.1 many) in
    numbered_out c.args.block refl out.0 out.1
