-- The loop stops at the first candidate that is there.
use Rattle.std.proofs.Common.{◌<◌, ◌≤◌, sym, length, arith}
use Rattle.hir_mod_dir.specs.Declaration.{is_there}
use Rattle.hir_mod_dir.proofs.PlaceLemmas.{position_found, position_missing}
use Rattle.hir_mod_dir.proofs.declaration.resolve_declaration.Goals as goal

pub returns-then-branch-clause-found : goal.returns-then-branch-clause-found
returns-then-branch-clause-found g c =
    let low : c.candidates.place < length c.args.candidates.now = omega arith in
    sym (position_found (is_there (g.F.PresentFiles.present c.args.files.now) c.args.file.now) c.args.candidates.now c.candidates.place
    c.index-candidates-place.result
    low (λ k l. c.candidates.invariant.before k c.index-candidates-place.result l)
    (cc (c.index-candidates-place.is, c.in_ok-asks_for.ensures.value, c.if-branch.true)))

pub returns-clause-found : goal.returns-clause-found
returns-clause-found g c =
    let high : length c.args.candidates.now ≤ c.candidates.place = omega arith in
    sym (position_missing (is_there (g.F.PresentFiles.present c.args.files.now) c.args.file.now) c.args.candidates.now c.candidates.place high
    (λ k d l. c.candidates.invariant.before k d l))
