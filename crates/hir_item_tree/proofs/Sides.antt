-- Kept items have none of what is kept beside a tree.
use Rattle.std.proofs.Common.{◌≡◌, Bool, refl, sym, ap, ap₂, ◌∙◌}
use Rattle.hir_item_tree.specs.Attributes.{Attributes}
use Rattle.hir_base.specs.declared.cfg.CfgAtom.{CfgAtom}
use Rattle.hir_item_tree.specs.Source as written
use Rattle.hir_item_tree.specs.Source.{NodeHead, Plain, Item, Items, SourceValue}
use Rattle.hir_item_tree.specs.KeptForest.{leaf, item, plain_visibility, kept_leaf, is_foreign, is_foreign_kind, kept_head, kept_holder, and_item, kept_item}
use Rattle.hir_item_tree.specs.KeptForest.{kept_items, kept_foreign}
use Rattle.hir_item_tree.specs.ItemTree.{Tree, tree_of}
use Rattle.hir_item_tree.specs.WithoutSides.{plain_without_sides, item_without_sides, items_without_sides, source_without_sides, SideListsLeaveTheTree}

leaf_without_sides : (p : Plain) → kept_leaf (plain_without_sides p) ≡ kept_leaf p
leaf_without_sides (written.import t) = refl
leaf_without_sides _ = refl

visibility_without_sides : (h : NodeHead) (p : Plain) → plain_visibility (plain_without_sides p) h.visibility ≡ plain_visibility p h.visibility
visibility_without_sides h (written.import t) = refl
visibility_without_sides h _ = refl

foreign_kind_without_sides : (p : Plain) → is_foreign_kind (plain_without_sides p) ≡ is_foreign_kind p
foreign_kind_without_sides (written.import t) = refl
foreign_kind_without_sides _ = refl

foreign_without_sides : (i : Item) → is_foreign (item_without_sides i) ≡ is_foreign i
foreign_without_sides (written.plain h p) = foreign_kind_without_sides p
foreign_without_sides (written.holder h k is) = refl

module _ (set : CfgAtom → Bool) where
  mutual
    pub kept_without_sides : (i : Item) → kept_item set (item_without_sides i) ≡ kept_item set i
    kept_without_sides (written.plain h p) = ap₂ (λ v l. leaf (kept_head set h v) l) (visibility_without_sides h p) (leaf_without_sides p)
    kept_without_sides (written.holder h written.extern_block is) =
        ap₂ (kept_holder (kept_head set h _) written.extern_block) (all_without_sides is) (foreign_of_all is)
    kept_without_sides (written.holder h (written.trait_item name) is) = refl
    kept_without_sides (written.holder h (written.implementation of_trait) is) = refl
    kept_without_sides (written.holder h (written.inline_module name) is) =
        ap₂ (kept_holder (kept_head set h _) (written.inline_module name)) (all_without_sides is) (foreign_of_all is)

    all_without_sides : (is : Items) → kept_items set (items_without_sides is) ≡ kept_items set is
    all_without_sides written.no_items = refl
    all_without_sides (written.item i is) = ap₂ item (kept_without_sides i) (all_without_sides is)

    foreign_of_all : (is : Items) → kept_foreign set (items_without_sides is) ≡ kept_foreign set is
    foreign_of_all written.no_items = refl
    foreign_of_all (written.item i is) =
        ap (λ b. and_item b (kept_item set (item_without_sides i)) (kept_foreign set (items_without_sides is))) (foreign_without_sides i)
        ∙ ap₂ (and_item (is_foreign i)) (kept_without_sides i) (foreign_of_all is)

  tree_without_sides : (front : Attributes) (s : SourceValue) → tree_of set front (source_without_sides s) ≡ tree_of set front s
  tree_without_sides front written.broken = refl
  tree_without_sides front (written.unit top items) =
      ap (λ f. let t : Tree = record { attributes = (tree_of set front (written.unit top items)).attributes; items = f } in t) (all_without_sides items)

pub side_lists_leave_the_tree : SideListsLeaveTheTree
side_lists_leave_the_tree set front a b e = sym (tree_without_sides set front a) ∙ (ap (tree_of set front) e ∙ tree_without_sides set front b)
