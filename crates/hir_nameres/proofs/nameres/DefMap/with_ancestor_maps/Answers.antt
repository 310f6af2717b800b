-- The maps that are seen at once are those of the world and this one.
use Rattle.std.proofs.Common.{◌≡◌, ◌∷◌, ap, ◌∙◌, subst}
use Rattle.hir_def_map_rules.specs.AskMaps.{AsksMaps, with_maps}
use Rattle.hir_def_map_rules.specs.Ancestors.{holders_in}
use Rattle.hir_nameres.specs.DefMaps.{maps_of}
use Rattle.hir_def_map_rules.specs.Overlay.{Maps, overlay}
use Rattle.hir_nameres.specs.World.{finished_in}
use Rattle.hir_nameres.proofs.nameres.DefMap.with_ancestor_maps.Given as given
use Rattle.hir_nameres.proofs.nameres.DefMap.with_ancestor_maps.Goals as goal

pub returns : goal.returns
returns g c =
    let is : maps_of c.new-maps.result ≡ overlay (finished_in (g.W.FinishedMaps.maps_of c.args.world.now)) c.args.self.now =
    c.new-maps.ensures.value ∙ ap (λ (finished : Maps). overlay finished c.args.self.now) c.all.ensures.value
    in
    record {
      value = subst (λ (maps : Maps). AsksMaps (given.F-step g) c.args.f (with_maps maps (c.args.at ∷ holders_in maps c.args.at))
          c.with_ancestor_maps.result) is c.with_ancestor_maps.ensures.value;
    }
