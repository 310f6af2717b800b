-- The imports are taken over, and given back.
use Rattle.std.proofs.Common.{◌∙◌, ap, sym}
use Rattle.hir_nameres.specs.WorldParts.{part_of}
use Rattle.hir_import_resolution.specs.Inner.State.{finished_by, state_by, state_in}
use Rattle.hir_import_resolution.proofs.GlobsLasting.{globs_after, kept_through}
use Rattle.hir_import_resolution.proofs.Starting.{lasts_through}
use Rattle.hir_import_resolution.proofs.spreading.spread_changes.Goals as goal

pub returns-in-Ok-clause-globs : goal.returns-in-Ok-clause-globs
returns-in-Ok-clause-globs c = λ last.
    let new = c.new-resolver.ensures in
    let kept = kept_through (part_of c.args.world) c.args.imports c.new-resolver.result new.state new.finished new.globs last.kept in
    let lasts = lasts_through (part_of c.args.world) (finished_by c.new-resolver.result) (state_in c.args.imports) (state_by c.new-resolver.result)
    (sym new.finished) (sym new.state) last.lasts in
    globs_after (part_of c.args.world) c.finish_wave-imports.result.0 c.spread-spread.new.self (ap part_of c.in-Ok.ensures.is.changes.world ∙ new.finished)
    c.finish_wave-imports.ensures.state
    c.finish_wave-imports.ensures.globs (c.in-Ok.ensures.kept kept) (c.in-Ok.ensures.lasts kept lasts)
