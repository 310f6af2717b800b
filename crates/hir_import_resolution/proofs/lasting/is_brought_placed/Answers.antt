use Rattle.hir_def_map_rules.specs.State.{module_at}
use Rattle.hir_import_resolution.proofs.PlacedNames.{all_placed}
use Rattle.hir_import_resolution.proofs.lasting.is_brought_placed.Goals as goal

pub returns : goal.returns
returns c = record {
  placed = λ yes s by b is there.
      all_placed c.args.map.now (module_at c.args.map.now s.at) s.key b (c.are_names_placed.ensures.placed yes s.at s.key b) (c.requires.traits s.at) there;
}
