-- Which edge brought what stands in a slot?
use Rattle.std.specs.Prelude.{List, Option, None, Some}
use Rattle.std.specs.BTreeMap.{is_at}
use Rattle.std.specs.Map.{lookup}
use Rattle.hir_glob_imports.specs.declared.edge.Brought.{Brought}
use Rattle.hir_glob_imports.specs.declared.edge.Key.{Key}
use Rattle.hir_glob_imports.specs.contracts.edge.KeyOrd.TheImpl as key_order

-- by key, what brought what stands in a module
abbrev pub BroughtKeys : Type 0
BroughtKeys = List (Key × Brought)

-- what brought what stands at a key of a module, where something was brought to it
abbrev pub brought_in : Option BroughtKeys → Key → Option Brought
brought_in None key = None
brought_in (Some keys) key = lookup (is_at (key_order.ghosts.cmp key)) keys
