-- The step is reported, or nothing was to be done.
use Rattle.std.proofs.Common.{refl, rules}
use Rattle.hir_glob_imports.specs.Keys.{slot_at}
use Rattle.hir_glob_imports.proofs.Advancing.{looks_rested, looks_taken, rested_kept}
use Rattle.hir_glob_imports.proofs.glob_imports.GlobImports.look_along.Goals as goal

pub returns-in_ok-report-clause-looks : goal.returns-in_ok-report-clause-looks
returns-in_ok-report-clause-looks g c =
    looks_taken g.N.Names.table (slot_at c.args.edge.importer c.args.key) c.args.names.now c.take.new.names c.args.self.now c.take.new.self
    c.args.count.now c.take.new.count c.args.changes.now.items c.report.new.changes.items (c.in_ok-take.ensures.took c.if-branch.true) c.in_ok-report.ensures.ok

pub returns-in_ok-report-clause-kept : goal.returns-in_ok-report-clause-kept
returns-in_ok-report-clause-kept g c = λ but. c.in_ok-take.ensures.kept c.if-branch.true but

pub returns-else-branch-clause-looks : goal.returns-else-branch-clause-looks
returns-else-branch-clause-looks g c =
    looks_rested g.N.Names.table c.args.names.now c.take.new.names c.args.self.now c.take.new.self c.args.count.now c.take.new.count c.args.changes.now.items
    (c.in_ok-take.ensures.names_stay c.if-branch.false) (c.in_ok-take.ensures.globs_stay c.if-branch.false) (c.in_ok-take.ensures.count_stays c.if-branch.false)

pub returns-else-branch-clause-kept : goal.returns-else-branch-clause-kept
returns-else-branch-clause-kept g c = λ but.
    rested_kept g.N.Names.table c.args.names.now c.take.new.names c.args.self.now c.take.new.self
    c.args.j c.args.edge (slot_at c.args.edge.importer c.args.key) c.requires.recorded refl (c.in_ok-take.ensures.rests c.if-branch.false)
    (c.in_ok-take.ensures.names_stay c.if-branch.false) (c.in_ok-take.ensures.globs_stay c.if-branch.false) but

pub returns-in_err-take-clause-many : goal.returns-in_err-take-clause-many
returns-in_err-take-clause-many g c = λ h. c.in_err-take.ensures.many (search rules)
