-- No edge had the ends, so the new one is added.
use Rattle.std.proofs.Common.{length}
use Rattle.std.proofs.lemmas.Result.{on_ok_weaker}
use Rattle.hir_glob_imports.specs.Waves.{adds}
use Rattle.hir_glob_imports.proofs.Linking.{linked_keeps}
use Rattle.hir_glob_imports.proofs.glob_imports.GlobImports.record.Goals as goal

pub returns-clause-records : goal.returns-clause-records
returns-clause-records g c = on_ok_weaker c.add.result (λ is. adds c.requires.none is) c.add.ensures.added

pub returns-clause-brought : goal.returns-clause-brought
returns-clause-brought g c = on_ok_weaker c.add.result (λ linked. linked.brought) c.add.ensures.linked

pub returns-clause-kept : goal.returns-clause-kept
returns-clause-kept g c =
    on_ok_weaker c.add.result
    (λ linked. λ kept. linked_keeps (g.N.Names.table.view c.args.names.now) (length c.args.self.now.edges) c.args.edge c.args.self.now c.add.new.self linked
    c.requires.there kept)
    c.add.ensures.linked
