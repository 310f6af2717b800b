-- The holders of a module are its holder and that one's.
use Rattle.std.proofs.Common.{◌∙◌, ap, sym}
use Rattle.hir_def_map_rules.specs.HirPerNs.ModuleTree.{chain_from}
use Rattle.hir_def_map_rules.specs.Ancestors.{holders_in}
use Rattle.hir_def_map_rules.specs.Inner.AncestorLaws.{holders_up}
use Rattle.hir_nameres.specs.DefMaps.{maps_of, maps_placed}
use Rattle.hir_nameres.proofs.def_maps.DefMaps.holder_of.Goals as goal

pub returns-clause-above : goal.returns-clause-above
returns-clause-above c =
    holders_up (maps_of c.args.self.now) (maps_placed c.args.self.now) c.args.at
    ∙ ap (chain_from (holders_in (maps_of c.args.self.now))) (sym c.holder.ensures.value)
