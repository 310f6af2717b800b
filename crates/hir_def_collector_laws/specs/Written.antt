-- Which items do the sources write that a run asked for?
use Rattle.std.specs.Prelude.{◌≡◌, ◌≢◌, true, List, None, Contains}
use Rattle.hir_collector_rules.specs.HirIds.declared.ast_id.MacroCallId.{MacroCallId}
use Rattle.hir_collector_rules.specs.HirItemTree.Collected.{is_enabled}
use Rattle.hir_collector_rules.specs.HirItemTree.KeptForest.{Head, Holder, KeptItem, KeptForest, holder, item}
use Rattle.hir_collector_rules.specs.HirBase.declared.tree_id.TreeId.{TreeId}
use Rattle.hir_collector_rules.specs.HirBase.declared.tree_id.TreeKey.{TreeKey}
use Rattle.hir_collector_rules.specs.HirTables.Tables.{TablesValue}
use Rattle.hir_collector_rules.specs.Calls.{call_tree}
use Rattle.hir_collector_rules.specs.Derivation.{CollectedValue}
use Rattle.hir_collector_rules.specs.Keys.{tree_at}
use Rattle.hir_collector_rules.specs.Workspace.{Workspace}
use Rattle.hir_collector_rules.specs.declared.source_database.Key.{Key}
use Rattle.hir_collector_rules.specs.declared.source_database.Key.TheVariants.{Tree}

-- a tree under the crate of a run
abbrev pub key_of : CollectedValue → TreeId → TreeKey
key_of answer tree = record { krate = answer.map.id.krate; id = tree }

-- an item is one of these, or stands in an enabled one of them, at any depth
pub data IsIn (i : KeptItem) : KeptForest → Type 0 where
  first : (others : KeptForest) → IsIn i (item i others)
  behind : (before : KeptItem) (others : KeptForest) → IsIn i others → IsIn i (item before others)
  inside : (head : Head) (kind : Holder) (items others : KeptForest) → is_enabled head.attributes ≡ true → IsIn i items
      → IsIn i (item (holder head kind items) others)

-- an item of a tree that was asked for; what holds the item is enabled
pub record IsWritten (tables : TablesValue) (w : Workspace) (asked : List Key) (key : TreeKey) (i : KeptItem) : Type 0 where
  pub key_asked : Contains asked (Tree key)
  -- the tree isn't disabled at its top, unless it is a block's or what a call expands to
  pub top : key.id.block ≡ None → ((id : MacroCallId) → key.id ≢ call_tree id) → is_enabled (tree_at tables w key).tree.attributes ≡ true
  pub within : IsIn i (tree_at tables w key).tree.items
