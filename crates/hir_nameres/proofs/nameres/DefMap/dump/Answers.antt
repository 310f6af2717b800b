-- All pages are written, from the first on.
use Rattle.std.proofs.Common.{◌≡◌, ◌∙◌, ap, ℕ, List}
use Rattle.hir_def_map_rules.specs.HirIds.declared.ids.ModuleId.{ModuleId}
use Rattle.hir_def_map_rules.specs.Overlay.{Maps, overlay}
use Rattle.hir_nameres.specs.World.{finished_in}
use Rattle.hir_nameres.specs.DefMaps.{maps_of}
use Rattle.hir_def_map_rules.specs.Dump.{pages_outwards, text_of}
use Rattle.hir_def_map_rules.specs.Inner.Branches.{with_pages}
use Rattle.hir_def_map_rules.proofs.Branches.{with_pages-text}
use Rattle.hir_nameres.proofs.nameres.DefMap.dump.Goals as goal

pub returns : goal.returns
returns g c =
    let maps_same : maps_of c.new-maps.result ≡ overlay (finished_in (g.W.FinishedMaps.maps_of c.args.world.now)) c.args.self.now =
    c.new-maps.ensures.value ∙ ap (λ (p : Maps). overlay p c.args.self.now) c.all.ensures.value in
    record {
      ok =
          c.in_ok-dump_outwards.ensures.ok
          ∙ ap (λ (text : List ℕ). with_pages text (pages_outwards (maps_of c.new-maps.result) c.root.result)) c.new-buf.ensures.bytes
          ∙ with_pages-text (pages_outwards (maps_of c.new-maps.result) c.root.result)
          ∙ ap (λ (m : Maps). text_of (pages_outwards m c.root.result)) maps_same
          ∙ ap (λ (root : ModuleId). text_of (pages_outwards (overlay (finished_in (g.W.FinishedMaps.maps_of c.args.world.now)) c.args.self.now) root)) c.root.ensures.value;
    }
