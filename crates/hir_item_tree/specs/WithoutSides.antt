-- Which sources differ in what is kept beside their trees alone? In texts of bodies and macros, inputs, variants and associated items.
use Rattle.std.specs.Prelude.{◌≡◌, Bool, []}
use Rattle.hir_base.specs.declared.cfg.CfgAtom.{CfgAtom}
use Rattle.hir_item_tree.specs.Source.{NodeHead, MacroValue, Plain, function, enumeration, constant, static_item, macro_rules, macro_def, Holder, trait_item}
use Rattle.hir_item_tree.specs.Source.{implementation, Item, plain, holder, Items, no_items, item, SourceValue, broken, unit}
use Rattle.hir_item_tree.specs.Attributes.{Attributes}
use Rattle.hir_item_tree.specs.ItemTree.{tree_of}

-- what a node has, without the input of calls on it
abbrev pub head_without_input : NodeHead → NodeHead
head_without_input h = record { id = h.id; attributes = h.attributes; visibility = h.visibility; input = [] }

-- a macro without its text
abbrev pub macro_without_text : MacroValue → MacroValue
macro_without_text m = record { text = []; expander = m.expander; helpers = m.helpers }

-- a kind without the text of its body or its macro, and without variants
abbrev pub plain_without_sides : Plain → Plain
plain_without_sides (function name body) = function name []
plain_without_sides (enumeration name variants) = enumeration name []
plain_without_sides (constant name body) = constant name []
plain_without_sides (static_item name body) = static_item name []
plain_without_sides (macro_rules name definition) = macro_rules name (macro_without_text definition)
plain_without_sides (macro_def name definition) = macro_def name (macro_without_text definition)
plain_without_sides p = p

-- of nodes inside those of a module or an extern block; those of a trait or an impl are associated items
abbrev pub held_without_sides : Holder → Items → Items
held_without_sides (trait_item name) is = no_items
held_without_sides (implementation of_trait) is = no_items
held_without_sides _ is = is

abbrev mutual
  -- a node without what is kept beside its item
  pub item_without_sides : Item → Item
  item_without_sides (plain h p) = plain (head_without_input h) (plain_without_sides p)
  item_without_sides (holder h k is) = holder (head_without_input h) k (held_without_sides k (items_without_sides is))

  -- nodes without what is kept beside their items
  pub items_without_sides : Items → Items
  items_without_sides no_items = no_items
  items_without_sides (item i is) = item (item_without_sides i) (items_without_sides is)

-- a source without what is kept beside its tree, and without the texts of bodies
abbrev pub source_without_sides : SourceValue → SourceValue
source_without_sides broken = broken
source_without_sides (unit written items) = unit written (items_without_sides items)

-- sources that differ in these alone have equal trees
abbrev pub SideListsLeaveTheTree : Type 0
SideListsLeaveTheTree = (set : CfgAtom → Bool) (front : Attributes) (a b : SourceValue) → source_without_sides a ≡ source_without_sides b
    → tree_of set front a ≡ tree_of set front b
