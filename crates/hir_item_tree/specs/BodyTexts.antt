-- Which sources differ in the texts of bodies alone?
use Rattle.std.specs.Prelude.{◌≡◌, Bool, []}
use Rattle.hir_base.specs.declared.cfg.CfgAtom.{CfgAtom}
use Rattle.hir_item_tree.specs.Source.{Plain, function, constant, static_item, Item, plain, holder, Items, no_items, item, SourceValue, broken, unit}
use Rattle.hir_item_tree.specs.Attributes.{Attributes}
use Rattle.hir_item_tree.specs.ItemTree.{tree_of}
use Rattle.hir_item_tree.specs.SideLists.{side_lists}

-- a kind without the text of its body
abbrev pub plain_without_body : Plain → Plain
plain_without_body (function name body) = function name []
plain_without_body (constant name body) = constant name []
plain_without_body (static_item name body) = static_item name []
plain_without_body p = p

abbrev mutual
  -- a node without the texts of bodies
  pub without_body : Item → Item
  without_body (plain h p) = plain h (plain_without_body p)
  without_body (holder h k is) = holder h k (without_bodies is)

  -- nodes without the texts of bodies
  pub without_bodies : Items → Items
  without_bodies no_items = no_items
  without_bodies (item i is) = item (without_body i) (without_bodies is)

-- a source without the texts of bodies
abbrev pub source_without_bodies : SourceValue → SourceValue
source_without_bodies broken = broken
source_without_bodies (unit written items) = unit written (without_bodies items)

-- sources that differ in the texts of bodies alone have equal trees
abbrev pub BodyTextsLeaveTheTree : Type 0
BodyTextsLeaveTheTree = (set : CfgAtom → Bool) (front : Attributes) (a b : SourceValue) → source_without_bodies a ≡ source_without_bodies b
    → tree_of set front a ≡ tree_of set front b

-- and the same is kept beside them
abbrev pub BodyTextsLeaveTheSides : Type 0
BodyTextsLeaveTheSides = (set : CfgAtom → Bool) (a b : SourceValue) → source_without_bodies a ≡ source_without_bodies b
    → side_lists set a ≡ side_lists set b
