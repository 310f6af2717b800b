-- The step is written, and the edges around the slot are to be looked at.
use Rattle.std.proofs.Common.{refl, rules}
use Rattle.hir_glob_imports.specs.Rules.{raises_along}
use Rattle.hir_glob_imports.specs.Waves.{brought_of, state_of}
use Rattle.hir_glob_imports.proofs.Taking.{raise_keeps, raise_takes, may_raise_to, spent_by}
use Rattle.hir_glob_imports.proofs.glob_imports.GlobImports.raise_along.Goals as goal

pub returns-clause-takes : goal.returns-clause-takes
returns-clause-takes g c =
    raise_takes g.N.Names.table c.args.names.now c.raise.new.self c.args.self.now c.args.self.now c.spread.new.self c.args.count.now c.tick.new.count
    c.args.j c.args.edge c.args.slot.now c.requires.recorded c.requires.at c.args.vis c.requires.update
    (λ i. record { names = c.in_ok-raise.ensures.ok i; edges = c.args.self.now.edges; brought = brought_of c.args.self.now; count = c.in_ok-tick.ensures.ok i })
    c.in_ok-spread.ensures.spreads

pub returns-clause-kept : goal.returns-clause-kept
returns-clause-kept g c = λ but.
    raise_keeps g.N.Names.table g.met.N.Names.writes c.args.names.now c.raise.new.self c.args.self.now c.args.self.now c.spread.new.self c.args.count.now
    c.tick.new.count
    c.args.j c.args.edge c.args.slot.now c.requires.recorded c.requires.at but c.args.vis c.requires.update
    (λ i. record { names = c.in_ok-raise.ensures.ok i; edges = c.args.self.now.edges; brought = brought_of c.args.self.now; count = c.in_ok-tick.ensures.ok i })
    refl
    c.in_ok-spread.ensures.spreads

pub returns-in_err-tick-clause-many : goal.returns-in_err-tick-clause-many
returns-in_err-tick-clause-many g c = λ h.
    spent_by g.N.Names.table (state_of c.args.names.now c.args.self.now c.args.count.now) (raises_along c.args.j c.args.edge c.args.slot.now c.args.vis)
    (may_raise_to g.N.Names.table c.args.names.now c.args.self.now c.args.count.now c.args.j c.args.edge c.args.slot.now c.requires.recorded c.requires.at
    c.args.vis c.requires.update)
    (c.in_err-tick.ensures.many (search rules))
