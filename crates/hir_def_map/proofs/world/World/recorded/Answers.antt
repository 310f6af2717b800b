-- The crates first, from none on; then all.
use Rattle.std.proofs.Common.{◌∙◌, ap}
use Rattle.hir_def_map_rules.specs.State.{CrateData}
use Rattle.hir_def_map.proofs.Recorded.{recorded_for}
use Rattle.hir_def_map.proofs.world.World.recorded.Goals as goal

pub returns : goal.returns
returns c = record {
  value =
      recorded_for c.args.self.now.maps c.new-recorded.result c.record_crates.new.recorded c.record_all.new.recorded c.id-own.result
      c.dependencies-dependencies.result.now c.args.map.now c.args.local.now
      c.id-own.ensures.value (c.dependencies-dependencies.ensures.value ∙ ap (λ (d : CrateData). d.dependencies) c.crate_data.ensures.value)
      c.new-recorded.ensures.empty
      c.in_ok-record_crates.ensures.gains c.in_ok-record_all.ensures.records;
}
