-- What is left decides.
use Rattle.std.proofs.Common.{◌≡◌, length}
use Rattle.std.specs.List.{list_any}
use Rattle.hir_def_map_rules.specs.HirIds.declared.ids.ModuleId.{ModuleId}
use Rattle.hir_def_map_rules.specs.HirIds.contracts.ids.MapIdPartialEq.TheImpl as map_id
use Rattle.hir_nameres.proofs.world.part.WorldPart.has_holder_in.Given as goal

abbrev pub invariant-next : goal.invariant-next
invariant-next l =
    list_any (λ (h : ModuleId). map_id.ghosts.eq h.map l.fn.id) l.self.holders.now ≡ list_any (λ (h : ModuleId). map_id.ghosts.eq h.map l.fn.id) l.left

abbrev pub decreases-next : goal.decreases-next
decreases-next l = length l.left
