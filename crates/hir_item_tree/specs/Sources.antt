-- What is handed in, by source and by crate?
use Rattle.std.specs.Prelude.{◌≡◌, Bool, [], Option, None, unwrap_or}
use Rattle.hir_base.specs.CfgOptions.{is_set}
use Rattle.hir_base.specs.declared.cfg.CfgAtom.{CfgAtom}
use Rattle.hir_ids.specs.declared.ids.Crate.{Crate}
use Rattle.hir_ids.specs.declared.ast_id.HirFileId.{HirFileId}
use Rattle.hir_item_tree.specs.Attributes.{Attributes, no_attributes}
use Rattle.hir_item_tree.specs.KeptForest.{no_items, kept_attributes}
use Rattle.hir_item_tree.specs.Source.{SourceValue, broken}
use Rattle.hir_item_tree.specs.ItemTree.{Tree, tree_of, empty_tree}

-- the sources, and of the crates the options that are set and the attributes at their roots
pub record SourcesValue : Type 0 where
  -- none of one that is absent
  pub source : HirFileId → Option SourceValue
  -- none where the file isn't the crate's root
  pub root_attributes : Crate → HirFileId → Option Attributes
  -- none of a crate that is absent
  pub options : Crate → Option (CfgAtom → Bool)

-- the options that are set in a crate
abbrev pub set_in : SourcesValue → Crate → CfgAtom → Bool
set_in s krate = unwrap_or (s.options krate) (is_set [])

-- the attributes of the crate that a file begins with
abbrev pub front_attributes : SourcesValue → Crate → HirFileId → Attributes
front_attributes s krate file = unwrap_or (s.root_attributes krate file) no_attributes

-- the tree of a source under a crate; one that is absent keeps what one that can't be read does
abbrev pub tree_under : SourcesValue → HirFileId → Crate → Tree
tree_under s file krate = tree_of (set_in s krate) (front_attributes s krate file) (unwrap_or (s.source file) broken)

-- a source that is absent, or can't be read, keeps no items: of a crate's root the attributes of the crate are left
abbrev pub UnreadSourcesKeepNoItems : Type 0
UnreadSourcesKeepNoItems =
    (s : SourcesValue) (file : HirFileId) (krate : Crate) → unwrap_or (s.source file) broken ≡ broken
    → tree_under s file krate ≡ record { attributes = kept_attributes (set_in s krate) (front_attributes s krate file); items = no_items }

-- and of another file nothing
abbrev pub OtherUnreadSourcesAreEmpty : Type 0
OtherUnreadSourcesAreEmpty =
    (s : SourcesValue) (file : HirFileId) (krate : Crate) → unwrap_or (s.source file) broken ≡ broken → s.root_attributes krate file ≡ None
    → tree_under s file krate ≡ empty_tree
