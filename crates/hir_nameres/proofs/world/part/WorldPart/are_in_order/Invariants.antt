-- Where the modules that are left may be read, all may be; the holders that are left are among all.
use Rattle.std.proofs.Common.{◌≡◌, true, length, option_copied}
use Rattle.std.specs.List.{list_any}
use Rattle.hir_def_map_rules.specs.HirIds.declared.ids.MapId.{MapId}
use Rattle.hir_def_map_rules.specs.HirIds.declared.ids.ModuleId.{ModuleId}
use Rattle.hir_def_map_rules.specs.HirIds.contracts.ids.MapIdPartialEq.TheImpl as map_id
use Rattle.hir_nameres.specs.WorldParts.{are_within}
use Rattle.hir_nameres.proofs.world.part.WorldPart.are_in_order.Given as goal

abbrev pub invariant-next : goal.invariant-next
invariant-next l =
    (are_within (option_copied l.self.crates) l.self.holders.now l.left ≡ true → are_within (option_copied l.self.crates) l.self.holders.now l.fn.modules
    ≡ true)
    × ((id : MapId) → list_any (λ (h : ModuleId). map_id.ghosts.eq h.map id) l.holders ≡ true → list_any (λ (h : ModuleId). map_id.ghosts.eq h.map id)
    l.self.holders.now ≡ true)

abbrev pub decreases-next : goal.decreases-next
decreases-next l = length l.holders
