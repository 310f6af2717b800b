-- Which names of modules stand for what a glob brought.
use Rattle.std.specs.Prelude.{ℕ, Bool, List, cond}
use Rattle.std.specs.Ordering.{nat_cmp, ordering_then}
use Rattle.std.specs.Cmp.Lexicographic.{slice_cmp}
use Rattle.std.specs.declared.cmp.Ordering.{Ordering}
use Rattle.std.specs.BTreeMap.{is_at}
use Rattle.std.specs.BTreeSet.{insert_key}
use Rattle.std.specs.Set.{remove_key}
use Rattle.std.specs.List.{list_any}
use Rattle.hir_ids.specs.declared.ids.ModuleId.{ModuleId}
use Rattle.hir_ids.specs.contracts.ids.ModuleIdOrd.TheImpl as module_id

-- a name in a module
abbrev pub Place : Type 0
Place = ModuleId × List ℕ

-- by modules, then by names
abbrev pub place_cmp : Place → Place → Ordering
place_cmp a b = ordering_then (module_id.ghosts.cmp a.0 b.0) (slice_cmp nat_cmp a.1 b.1)

-- whether a list has a place
abbrev pub has_place : List Place → Place → Bool
has_place places at = list_any (is_at (place_cmp at)) places

-- the places with one more, unless it is there
abbrev pub with_place : List Place → Place → List Place
with_place places at = cond (has_place places at) places (insert_key place_cmp places at)

-- the places without one
abbrev pub without_place : List Place → Place → List Place
without_place places at = remove_key (is_at (place_cmp at)) places
