-- The edge that has the ends takes the greater visibility, where that is another one.
use Rattle.std.proofs.Common.{◌∙◌, ap, sym, refl}
use Rattle.std.proofs.lemmas.Result.{on_ok_weaker}
use Rattle.hir_glob_imports.specs.Waves.{edge_with_vis, wider_of, widens, stays}
use Rattle.hir_glob_imports.proofs.Linking.{linked_keeps}
use Rattle.hir_glob_imports.proofs.glob_imports.GlobImports.record_again.Goals as goal

pub returns-in-Some-clause-records : goal.returns-in-Some-clause-records
returns-in-Some-clause-records g c =
    on_ok_weaker c.widen.result
    (λ is. widens c.args.j c.args.recorded c.in-Some.wide c.requires.recorded c.requires.ends
    (sym (c.in-Some.ensures.value ∙ ap (wider_of c.args.recorded.vis) c.greater-greater.ensures.value)) is) c.widen.ensures.widened

pub returns-in-Some-clause-brought : goal.returns-in-Some-clause-brought
returns-in-Some-clause-brought g c = on_ok_weaker c.widen.result (λ linked. linked.brought) c.widen.ensures.linked

pub returns-in-Some-clause-kept : goal.returns-in-Some-clause-kept
returns-in-Some-clause-kept g c =
    on_ok_weaker c.widen.result
    (λ linked. λ kept.
    linked_keeps (g.N.Names.table.view c.args.names.now) c.args.j (edge_with_vis c.args.recorded c.in-Some.wide) c.args.self.now c.widen.new.self linked
    (kept.there c.args.j c.args.recorded c.requires.recorded) kept)
    c.widen.ensures.linked

pub returns-in-None-clause-records : goal.returns-in-None-clause-records
returns-in-None-clause-records g c =
    stays c.args.j c.args.recorded c.requires.recorded c.requires.ends
    (sym (c.in-None.ensures.value ∙ ap (wider_of c.args.recorded.vis) c.greater-greater.ensures.value)) refl
