-- After the call no entry has the steps, so the one that went was the only one.
use Rattle.std.proofs.Common.{◌∙◌, ap}
use Rattle.std.specs.BTreeMap.{is_at}
use Rattle.std.specs.declared.alloc.Global.{Global}
use Rattle.std.specs.declared.vec.Vec.{Vec}
use Rattle.hir_session_state.specs.HirBase.declared.place.PlaceElement.{PlaceElement}
use Rattle.hir_session_state.specs.Blocks.{steps_cmp}
use Rattle.hir_session_sources.specs.BlockTables.{SetBlocks, by_steps, without_steps}
use Rattle.hir_session_sources.proofs.BlockLemmas.{left_by_steps}
use Rattle.hir_session_sources.proofs.EntryLemmas.{remove_entry-filter}
use Rattle.hir_session_sources.proofs.blocks.CrateBlocks.remove.Goals as goal

pub returns : goal.returns
returns c =
    let left = c.remove.ensures.updates.1 in
    record {
      value = ap by_steps (c.remove.ensures.entries
          ∙ remove_entry-filter (λ (k : Vec PlaceElement Global). is_at (steps_cmp c.args.steps.now) k.items) c.self.inside.blocks.entries
          (rw c.remove.ensures.entries at left))
          ∙ left_by_steps c.args.steps.now c.self.inside.blocks.entries
          ∙ ap (λ (own : SetBlocks). without_steps own c.args.steps.now) c.self.view_is;
    }
