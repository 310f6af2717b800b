-- What is a source refused for?
use Rattle.std.specs.Prelude.{◌≡◌, [], Option, Some, None, Result, Ok, Err, ◌||◌, nat_lt, if◌then◌else◌}
use Rattle.std.specs.List.{list_any}
use Rattle.hir_base.specs.declared.limit.Limit.TheVariants as limits
use Rattle.hir_item_tree.specs.declared.check.NodeId.{NodeId}
use Rattle.hir_item_tree.specs.declared.check.CheckError.{CheckError}
use Rattle.hir_item_tree.specs.declared.check.CheckError.TheVariants as refusals
use Rattle.hir_item_tree.specs.contracts.check.NodeIdPartialEq.TheImpl.{ghosts}
use Rattle.hir_item_tree.specs.Attributes.{Attributes, no_attributes}
use Rattle.hir_item_tree.specs.Source.{Items, no_items, SourceValue, broken, unit}
use Rattle.hir_item_tree.specs.Limits.{have_long_attribute, have_long_path, has_large_index, size, depth, have_deep_tree, are_deep, have_deep_cfg}
use Rattle.hir_item_tree.specs.SyntaxIds.{ids, repeat_after}

-- the answer that is always allowed: memory ran out
abbrev pub IsMemory : CheckError → Type 0
IsMemory e = e ≡ refusals.Memory

-- the attributes at the top of a source; a broken one has none
abbrev pub handed_in_attributes : SourceValue → Attributes
handed_in_attributes broken = no_attributes
handed_in_attributes (unit written items) = written

-- the nodes of a source; a broken one has none
abbrev pub handed_in : SourceValue → Items
handed_in broken = no_items
handed_in (unit written items) = items

-- no node that stood before is good, and one is named
abbrev pub verdict_of_repeat : Option NodeId → Result (Unit {0}) CheckError
verdict_of_repeat None = Ok tt
verdict_of_repeat (Some n) = Err (refusals.DuplicateId n.kind n.id)

-- the first limit that is passed, or else the first node that stood before
abbrev pub verdict_of_unit : Attributes → Items → Result (Unit {0}) CheckError
verdict_of_unit attributes is =
    if have_long_attribute attributes || have_long_path is then Err (refusals.TooLarge limits.Path)
    else (if list_any has_large_index (ids is) then Err (refusals.TooLarge limits.Index)
    else (if nat_lt 1000000 (size is) then Err (refusals.TooLarge limits.Nodes)
    else (if nat_lt 32 (depth is) then Err (refusals.TooLarge limits.Modules)
    else (if have_deep_tree is then Err (refusals.TooLarge limits.UseTree)
    else (if are_deep attributes || have_deep_cfg is then Err (refusals.TooLarge limits.Cfg)
    else verdict_of_repeat (repeat_after ghosts.eq [] (ids is)))))))

-- what a source is refused for, if for anything
abbrev pub verdict_of_check : SourceValue → Result (Unit {0}) CheckError
verdict_of_check s = verdict_of_unit (handed_in_attributes s) (handed_in s)
