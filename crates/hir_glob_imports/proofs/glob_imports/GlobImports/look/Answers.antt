-- The pair is one of the edge, or of none.
use Rattle.std.proofs.Common.{sym, refl}
use Rattle.std.proofs.lemmas.Result.{on_ok_weaker}
use Rattle.hir_glob_imports.proofs.Advancing.{looks_rested, popped, popped_none}
use Rattle.hir_glob_imports.proofs.glob_imports.GlobImports.look.Goals as goal

pub returns-in-Some-clause-kept : goal.returns-in-Some-clause-kept
returns-in-Some-clause-kept g c =
    on_ok_weaker c.look_along.result
    (λ keeps beside. keeps (popped (g.N.Names.table.view c.args.names.now) c.args.self.now c.args.j c.args.key beside c.in-Some.edge
    (sym c.in-Some.ensures.value)))
    c.look_along.ensures.kept

pub returns-in-None-clause-looks : goal.returns-in-None-clause-looks
returns-in-None-clause-looks g c =
    looks_rested g.N.Names.table c.args.names.now c.args.names.now c.args.self.now c.args.self.now c.args.count.now c.args.count.now c.args.changes.now.items
    refl refl refl

pub returns-in-None-clause-kept : goal.returns-in-None-clause-kept
returns-in-None-clause-kept g c = λ beside.
    popped_none (g.N.Names.table.view c.args.names.now) c.args.self.now c.args.j c.args.key beside (sym c.in-None.ensures.value)
