-- Each edge is pending at each key of its source.
use Rattle.std.proofs.lemmas.Result.{on_ok_weaker}
use Rattle.hir_glob_imports.proofs.Reopening.{reopened_from}
use Rattle.hir_glob_imports.proofs.glob_imports.GlobImports.reopen.Goals as goal

pub returns-clause-kept : goal.returns-clause-kept
returns-clause-kept g c =
    on_ok_weaker c.open_each.result
    (λ each. reopened_from (g.N.Names.table.view c.args.names.now) c.args.self.now
    (record { edges = c.self.inside.edges.items; brought = c.self.inside.brought.entries; pending = c.self.inside.pending.items })
    c.as_slice.result.now c.open_each.new.pending.items c.self.view_is c.as_slice.ensures.value c.requires.there c.requires.stands each)
    c.open_each.ensures.each
