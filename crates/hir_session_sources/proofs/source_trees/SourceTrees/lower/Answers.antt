-- What is lowered is what the source has under the crate that is handed in so.
use Rattle.std.proofs.Common.{◌∙◌, ap, sym, Option}
use Rattle.hir_session_state.specs.HirBase.CfgOptions.{is_set}
use Rattle.hir_session_state.specs.HirItemTree.Source.{SourceValue}
use Rattle.hir_session_state.specs.HirItemTree.SourceTree.{source_tree_of}
use Rattle.hir_session_state.specs.HirTables.SourcePlaces.{source_value}
use Rattle.hir_session_state.specs.SourceTable.{front_in}
use Rattle.hir_session_sources.specs.LoweredTrees.{tree_for, lowers}
use Rattle.hir_session_sources.proofs.source_trees.SourceTrees.lower.Goals as goal

pub returns : goal.returns
returns c =
    let info = c.args.info.now in
    record {
      ok = lowers (record { place = c.in_ok-place.place; tree = c.in_ok-tree.tree }) c.in_ok-place.ensures.value
          (c.in_ok-tree.ensures.ok ∙ c.in_ok-tree_behind.ensures.value
          ∙ ap (λ (o : Option SourceValue). source_tree_of (is_set info.config.options) (front_in info (source_value c.args.place)) o)
          c.in_ok-source.ensures.value
          ∙ ap (tree_for info c.args.table.now) (sym c.in_ok-place.ensures.value))
          c.in_ok-push.ensures.items;
    }
