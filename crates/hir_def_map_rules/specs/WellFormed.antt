-- When has a map no dangling reference?
use Rattle.std.specs.Prelude.{◌≡◌, ◌<◌, Bool, Option, None, Some, length, not, false, true}
use Rattle.std.specs.List.{list_any}
use Rattle.hir_scope.specs.HirIds.declared.ids.MapId.{MapId}
use Rattle.hir_scope.specs.HirIds.declared.ids.ModuleId.{ModuleId}
use Rattle.hir_scope.specs.HirIds.contracts.ids.MapIdPartialEq.TheImpl as map_id
use Rattle.hir_def_map_rules.specs.References.{has_its_variants, is_holder_for, is_missing, any_reference_in, any_own_crate, prelude_reference, test_crate}
use Rattle.hir_def_map_rules.specs.References.{test_of, test_extern, is_there}
use Rattle.hir_def_map_rules.specs.State.{Map, IsInOrder, Local}
use Rattle.hir_def_map_rules.specs.Overlay.{Maps, Placed, holders_under}
use Rattle.hir_def_map_rules.specs.declared.reference.Reference.{Reference}

-- whether a holder, if there is one, lies outside of the map of an id
abbrev pub is_held_outside : MapId → Option ModuleId → Bool
is_held_outside id None = true
is_held_outside id (Some h) = not (map_id.ghosts.eq h.map id)

-- a map whose modules come after their parents, each of its references being to something among the maps
pub record HasNoDanglingReference (maps : Maps) (map : Map) : Type 0 where
  -- so is its crate's map, where it is a block's
  pub own_crate : any_own_crate (is_missing maps) map.id ≡ false
  -- and what holds its block, in a map of the crate that isn't its own
  pub held : is_holder_for maps map.id map.holder ≡ true
  pub outside : is_held_outside map.id map.holder ≡ true
  pub root : 0 < length map.modules
  pub in_order : IsInOrder map
  -- and enums with variants of their own
  pub variants : has_its_variants map ≡ true
  pub modules : list_any (any_reference_in (is_missing maps)) map.modules ≡ false
  pub prelude : test_of (is_missing maps) (prelude_reference map.prelude) ≡ false
  pub dependencies : list_any (test_crate (is_missing maps)) map.crate_data.dependencies ≡ false

-- so do the crates that paths may begin with
abbrev pub HasNoDanglingExtern : Maps → Local → Type 0
HasNoDanglingExtern maps local = list_any (test_extern (is_missing maps)) local ≡ false

-- a map in its place has no dangling reference
pub record IsWellFormed (maps : Maps) (id : MapId) (placed : Placed) : Type 0 where
  pub own : placed.map.id ≡ id
  pub holders : placed.holders ≡ holders_under maps id placed.map.holder
  pub names : HasNoDanglingReference maps placed.map
  pub begins : HasNoDanglingExtern maps placed.local

-- each of the maps is so
abbrev pub AreWellFormed : Maps → Type 0
AreWellFormed maps = (id : MapId) (placed : Placed) → maps id ≡ Some placed → IsWellFormed maps id placed

-- what is there of the one is there of the other
abbrev pub Extends : Maps → Maps → Type 0
Extends one other = (n : Reference) → is_there one n ≡ true → is_there other n ≡ true
