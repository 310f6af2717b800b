-- A glob wants the place.
use Rattle.std.proofs.Common.{sym, subst, Bool, IfOk}
use Rattle.hir_scope_table.specs.Globs.{place_cmp}
use Rattle.hir_scope_table.specs.Inner.Places.{places_of}
use Rattle.hir_scope_table.specs.Inner.Reserved.{IsKeyFor}
use Rattle.hir_scope_table.proofs.globs.Globs.reserve.Goals as goal

pub returns-then-wanted-clause-ok : goal.returns-then-wanted-clause-ok
returns-then-wanted-clause-ok c =
    let wanted : Bool → Type 0 = λ want. IfOk c.add.result (λ added. IsKeyFor place_cmp c.args.self.now c.args.at.now want added
    (places_of c.add.new.modules.entries)) in
    subst wanted (sym c.if-wanted.true) (rw (← c.self.view_is) c.add.ensures.ok)
