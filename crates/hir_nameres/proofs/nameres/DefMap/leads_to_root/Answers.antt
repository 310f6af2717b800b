-- A map has as many parents as modules.
use Rattle.std.proofs.Common.{◌∙◌, ap, sym, ℕ}
use Rattle.std.proofs.lemmas.List.{length-map}
use Rattle.hir_def_map_rules.specs.State.{ModuleValue}
use Rattle.hir_def_map_rules.specs.Ancestors.{ends_within, leads_to_root, own_frame, parent_number}
use Rattle.hir_nameres.proofs.nameres.DefMap.leads_to_root.Goals as goal

pub up-init : goal.up-init
unfolding leads_to_root
up-init c =
    ap (λ (n : ℕ). ends_within (parent_number (own_frame c.args.self.now)) n c.args.at) (length-map c.args.self.now.modules (λ (m : ModuleValue). m.parent) ∙
    sym c.module_count-left.ensures.value)
