-- Which row does a node get?
use Rattle.std.specs.Prelude.{ℕ, Bool, List}
use Rattle.hir_raw_visibility.specs.declared.raw_visibility.RawVisibility.{RawVisibility}
use Rattle.hir_base.specs.declared.cfg.CfgAtom.{CfgAtom}
use Rattle.hir_ids.specs.declared.ast_id.SyntaxId.{SyntaxId}
use Rattle.hir_item_tree.specs.Attributes.{Attributes}
use Rattle.hir_item_tree.specs.Source as written
use Rattle.hir_item_tree.specs.Source.{Holder as WrittenHolder, Item}
use Rattle.hir_item_tree.specs.KeptForest.{trait_item, implementation, extern_block, inline_module, plain_visibility, holder_visibility, kept_leaf}
use Rattle.hir_item_tree.specs.KeptForest.{kept_attributes}
use Rattle.hir_item_tree.specs.Rows.{Content, alone, with_items, RowValue}

-- the visibility that is kept of a node
abbrev pub kept_visibility : Item → RawVisibility
kept_visibility (written.plain h p) = plain_visibility p h.visibility
kept_visibility (written.holder h k is) = holder_visibility k h.visibility

-- what is kept of a kind with nodes inside, of which those that are kept have these numbers
abbrev pub holder_content : WrittenHolder → List ℕ → Content
holder_content written.extern_block numbers = with_items extern_block numbers
holder_content (written.trait_item name) numbers = alone (trait_item name)
holder_content (written.implementation of_trait) numbers = alone (implementation of_trait)
holder_content (written.inline_module name) numbers = with_items (inline_module name) numbers

-- what the row of a node is, its head aside
abbrev pub kept_content : Item → List ℕ → Content
kept_content (written.plain h p) numbers = alone (kept_leaf p)
kept_content (written.holder h k is) numbers = holder_content k numbers

-- the row of a node with this id and these attributes
abbrev pub kept_row : (CfgAtom → Bool) → SyntaxId → Attributes → Item → List ℕ → RowValue
kept_row set id attributes i numbers = record {
  head = record { id = id; visibility = kept_visibility i; attributes = kept_attributes set attributes };
  content = kept_content i numbers;
}
