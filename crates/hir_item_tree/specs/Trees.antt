-- What is kept of a source under a crate?
use Rattle.std.specs.Prelude.{Bool, Option, option_map, ◌&&◌}
use Rattle.std.specs.Option.{option_and_then}
use Rattle.std.specs.BTreeMap.{is_at, get}
use Rattle.hir_ids.specs.contracts.ids.CrateOrd.TheImpl.{ghosts as crates}
use Rattle.hir_base.specs.contracts.tree_id.TreeIdOrd.TheImpl.{ghosts as ids}
use Rattle.hir_base.specs.declared.tree_id.TreeKey.{TreeKey}
use Rattle.hir_item_tree.specs.declared.trees.Trees.{Trees}
use Rattle.hir_item_tree.specs.SourceTree.{SourceTreeValue}

-- whether two sources under crates are the same
abbrev pub is_key : TreeKey → TreeKey → Bool
is_key key q = is_at (ids.cmp key.id) q.id && is_at (crates.cmp key.krate) q.krate

-- what is kept of a source under a crate, if anything is
abbrev pub source_at : Trees → TreeKey → Option SourceTreeValue
source_at trees key = option_and_then (λ kept. option_map (λ t. t.value) (get crates.cmp kept key.krate)) (get ids.cmp trees.by_source key.id)
