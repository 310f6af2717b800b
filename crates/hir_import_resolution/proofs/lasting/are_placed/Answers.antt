-- One item less is left in each turn.
use Rattle.std.proofs.Common.{◌≡◌, sym, subst, rules, ℕ, List, []}
use Rattle.std.specs.List.{AllByRecursion}
use Rattle.hir_nameres.specs.HirPerNs.PerNs.{Item}
use Rattle.hir_import_rules.specs.Lasting.{IsPlaced}
use Rattle.hir_import_resolution.proofs.lasting.are_placed.Goals as goal

pub returns : goal.returns
returns g c = record {
  placed = λ yes.
      let done : c.next.left ≡ [] = search rules in
      c.next.invariant
      (subst (λ (items : List (List ℕ × Item g.row.Def.Denot g.row.Import.Denot)). AllByRecursion (λ (e : List ℕ × Item g.row.Def.Denot g.row.Import.Denot). IsPlaced c.args.map.now e.1.vis) items)
      (sym done) tt);
}
