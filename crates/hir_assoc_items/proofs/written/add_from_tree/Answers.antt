-- The item of the number is added.
use Rattle.std.proofs.Common.{◌∙◌, ◌++◌, List, ap, map}
use Rattle.hir_collector_rules.specs.HirItemTree.Collected.{collected_of}
use Rattle.hir_collector_rules.specs.HirItemTree.KeptForest.{all_items}
use Rattle.hir_collector_rules.specs.HirItemTree.Kinds.{kind_content}
use Rattle.hir_assoc_items.specs.Written.{WrittenValue, written_view}
use Rattle.hir_assoc_items.proofs.Reading.{found_written}
use Rattle.hir_assoc_items.proofs.written.add_from_tree.Goals as goal

pub returns : goal.returns
returns c = record {
  ok =
      c.in_ok-add.ensures.ok
      ∙ ap (λ (ws : List WrittenValue). map written_view c.args.items.now.items ++ ws)
      (found_written c.args.tree c.args.level (all_items c.args.source.now.items) c.args.id.0 (kind_content c.index-kind.result) c.syntax_id-node.result
      (collected_of c.attrs-attrs.result.now)
      c.requires.there c.index-kind.ensures.value c.syntax_id-node.ensures.value c.attrs-attrs.ensures.value);
}
