-- Nothing brought the slot any more, and the edges around it are to be looked at.
use Rattle.std.proofs.Common.{refl}
use Rattle.hir_glob_imports.proofs.Spreading.{changed_answer}
use Rattle.hir_glob_imports.proofs.glob_imports.GlobImports.changed.Goals as goal

pub returns : goal.returns
returns c = changed_answer c.spread.result c.args.slot.now c.is_unnamed.result c.args.self.now
    (record { edges = c.self.inside.edges.items; brought = c.self.inside.brought.entries; pending = c.self.inside.pending.items })
    (record { edges = c.self.inside.edges.items; brought = c.forget_brought.new.modules.entries; pending = c.self.inside.pending.items })
    c.spread.new.self c.self.view_is refl refl c.forget_brought.ensures.value c.is_unnamed.ensures.value c.spread.ensures.spreads
