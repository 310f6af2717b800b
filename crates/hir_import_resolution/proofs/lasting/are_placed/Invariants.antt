use Rattle.std.proofs.Common.{ℕ, List}
use Rattle.std.specs.List.{AllByRecursion}
use Rattle.hir_nameres.specs.HirPerNs.PerNs.{Item}
use Rattle.hir_import_rules.specs.Lasting.{IsPlaced}
use Rattle.hir_import_resolution.proofs.lasting.are_placed.Given as goal

-- where the items that are left have such visibilities, all have
abbrev pub invariant-next : goal.invariant-next
invariant-next g l = AllByRecursion (λ (e : List ℕ × Item g.row.Def.Denot g.row.Import.Denot). IsPlaced l.map e.1.vis) l.left
    → AllByRecursion (λ (e : List ℕ × Item g.row.Def.Denot g.row.Import.Denot). IsPlaced l.map e.1.vis) l.fn.items
