-- What is the tree of a source?
use Rattle.std.specs.Coded.{Coded, code_by, coded×}
use Rattle.std.specs.Prelude.{Bool}
use Rattle.std.proofs.Common.{refl}
use Rattle.hir_item_tree.specs.Attributes.{Attributes}
use Rattle.hir_base.specs.declared.cfg.CfgAtom.{CfgAtom}
use Rattle.hir_item_tree.specs.Check.{handed_in_attributes, handed_in}
use Rattle.hir_item_tree.specs.Collected.{Collected, empty, merge}
use Rattle.hir_item_tree.specs.Source.{SourceValue}
use Rattle.hir_item_tree.specs.KeptForest.{KeptForest, no_items, kept_attributes, kept_items}
use Rattle.hir_item_tree.specs.CollectedCodes.{coded_collected}
use Rattle.hir_item_tree.specs.Codes.{coded_forest}

-- what is left of the attributes at its top, and its items
pub record Tree : Type 0 where
  pub attributes : Collected
  pub items : KeptForest

-- the tree without attributes and items
abbrev pub empty_tree : Tree
empty_tree = record { attributes = empty; items = no_items }

-- the tree of a source under the options that are set, behind attributes of the crate
abbrev pub tree_of : (CfgAtom → Bool) → Attributes → SourceValue → Tree
tree_of set front s = record {
  attributes = merge (kept_attributes set front) (kept_attributes set (handed_in_attributes s));
  items = kept_items set (handed_in s);
}

-- a tree is stored as its parts
abbrev pub coded_tree : Coded Tree
coded_tree =
    code_by (Collected × KeptForest) (coded× coded_collected coded_forest) (λ t. (t.attributes, t.items))
    (λ p. record { attributes = p.0; items = p.1 }) (λ _. refl)
