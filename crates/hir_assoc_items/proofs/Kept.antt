-- A source that keeps the items of a trait or an impl has a number.
use Rattle.std.proofs.Common.{◌≡◌, List, Option, Some, None, refl}
use Rattle.std.specs.Prelude.{IsSome}
use Rattle.std.specs.Option.{option_and_then}
use Rattle.hir_collector_rules.specs.HirItemTree.KeptForest.{KeptItem}
use Rattle.hir_collector_rules.specs.HirItemTree.SideLists.{entry_associated}
use Rattle.hir_collector_rules.specs.HirItemTree.SourceTree.{side_of}
use Rattle.hir_collector_rules.specs.HirItemTree.declared.check.NodeId.{NodeId}
use Rattle.hir_collector_rules.specs.HirBase.declared.tree_id.TreeKey.{TreeKey}
use Rattle.hir_collector_rules.specs.HirTables.SourcePlaces.{SourcePlaceValue}
use Rattle.hir_collector_rules.specs.HirTables.Tables.{TablesValue, source_of}
use Rattle.hir_collector_rules.specs.Keys.{source_in, source_under}
use Rattle.hir_collector_rules.specs.Workspace.{Workspace}

pub there_where_kept : (tables : TablesValue) (w : Workspace) (key : TreeKey) (node : NodeId) (is : List KeptItem) → option_and_then entry_associated
    (side_of (source_in tables w key) node) ≡ Some is
    → IsSome (source_of tables key.id)
there_where_kept tables w key node is kept = go (source_of tables key.id) kept
  where
    go : (o : Option SourcePlaceValue) → option_and_then entry_associated (side_of (source_under w key.krate o) node) ≡ Some is → IsSome o
    go None e = cc
    go (Some place) e = refl
