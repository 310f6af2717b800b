-- What holds of every path?
use Rattle.std.specs.Prelude.{◌≡◌, ℕ, List, Option, option_map, Bool, false, None, Some, IsTrue, true, is_some}
use Rattle.std.specs.List.{All}
use Rattle.hir_nameres.specs.HirBase.ModPath.{Path}
use Rattle.hir_nameres.specs.HirIds.declared.ids.EnumId.{EnumId}
use Rattle.hir_nameres.specs.HirIds.declared.ids.MapId.{MapId}
use Rattle.hir_nameres.specs.HirIds.declared.ids.ModuleId.{ModuleId}
use Rattle.hir_nameres.specs.HirPerNs.ModuleTree.{same_crate}
use Rattle.hir_nameres.specs.HirPerNs.Visibility.{is_visible}
use Rattle.hir_nameres.specs.HirPerNs.PerNs.{Item}
use Rattle.hir_nameres.specs.HirPerNs.declared.per_ns.PerNs.{PerNs}
use Rattle.hir_nameres.specs.HirPerNs.declared.visibility.Visibility.{Visibility}
use Rattle.hir_nameres.specs.HirDefMapRules.Ancestors.{frames_of, above_in, holders_in, holder_in, IsPlaced, frame_of, leads_to_root, up_in}
use Rattle.hir_nameres.specs.HirDefMapRules.Overlay.{Maps, entry_in, map_in, module_in, Placed, parent_in, alone}
use Rattle.hir_nameres.specs.HirDefMapRules.Scoping.{resolution_of}
use Rattle.hir_nameres.specs.HirDefMapRules.Scoping.Asking.{Asking}
use Rattle.hir_nameres.specs.HirDefMapRules.Scoping.Blocks.{joined, in_preludes}
use Rattle.hir_nameres.specs.HirDefMapRules.Scoping.FirstSegment.{legacy_of, macro_use_of, is_block_root}
use Rattle.hir_nameres.specs.HirDefMapRules.Scoping.Segments.{variant_in, seen, through_module, crossing, nearest_non_block_module}
use Rattle.hir_nameres.specs.Scoping.Slots.{prelude_module_of}
use Rattle.hir_nameres.specs.HirDefMapRules.Scoping.Start.{from_start}
use Rattle.hir_nameres.specs.HirDefMapRules.State.{CrateData, Map, crate_root, IsInOrder}
use Rattle.hir_nameres.specs.HirDefMapRules.declared.path_result.ResolvePathResult.{ResolvePathResult}

-- ---- names that a path doesn't have

-- a name stands for the same in each module, in its textual scope, among the variants of each enum and in each `macro_use` prelude
pub record AgreeOnName (one other : Maps) (name : List ℕ) : Type 0 where
  pub entries : (m : ModuleId) → entry_in one m name ≡ entry_in other m name
  pub legacy : (m : ModuleId) → legacy_of (module_in one m) name ≡ legacy_of (module_in other m) name
  pub variants : (id : EnumId) → variant_in one id name ≡ variant_in other id name
  pub macro_uses : (id : MapId) → macro_use_of (map_in one id) name ≡ macro_use_of (map_in other id) name

-- the data of a map's crate
abbrev pub data_of : Option Map → Option CrateData
data_of map = option_map (λ (m : Map). m.crate_data) map

-- the same modules lie above one another, crates say the same at their tops, and these names stand for the same
pub record AgreeOnNames (one other : Maps) (segments : List (List ℕ)) : Type 0 where
  pub frames : (id : MapId) → frames_of one id ≡ frames_of other id
  pub crate_data : (id : MapId) → data_of (map_in one id) ≡ data_of (map_in other id)
  pub preludes : (id : MapId) → prelude_module_of (map_in one id) ≡ prelude_module_of (map_in other id)
  pub names : All (AgreeOnName one other) segments

-- a path means the same over maps that agree on its names
abbrev pub UnnamedBindingsDoNotMatter : Type 0
UnnamedBindingsDoNotMatter = (one other : Maps) (asking : Asking) (from : ModuleId) (path : Path)
    → AgreeOnNames one other path.segments → resolution_of one asking from path ≡ resolution_of other asking from path

-- ---- who may see what a segment names

-- whether a module may see what has a visibility
abbrev pub may_see : Maps → ModuleId → Visibility → Bool
may_see maps from vis = is_visible (above_in maps) (holders_in maps) vis from

-- an item that isn't kept fails the test
abbrev pub IsLeftOut : {D I : Type 0} → (Visibility → Bool) → Option (Item D I) → Type 0
IsLeftOut test None = Unit {0}
IsLeftOut test (Some item) = test item.vis ≡ false

-- what is kept of an item is the item, and it passes the test; nothing is kept of one that fails, and of no other
abbrev pub IsKept : {D I : Type 0} → (Visibility → Bool) → Option (Item D I) → Option (Item D I) → Type 0
IsKept test bound None = IsLeftOut test bound
IsKept test bound (Some item) = (bound ≡ Some item) × IsTrue (test item.vis)

-- in each namespace
pub record AreKept (test : Visibility → Bool) (bound kept : PerNs) : Type 0 where
  pub types : IsKept test bound.types kept.types
  pub values : IsKept test bound.values kept.values
  pub macros : IsKept test bound.macros kept.macros

-- each segment after a module is a name of that module which the asking module may see
abbrev pub SegmentsAreSeen : Type 0
SegmentsAreSeen = (maps : Maps) (from at : ModuleId) (name : List ℕ)
    → AreKept (may_see maps from) (entry_in maps at name) (seen maps from at name)

-- a segment in a module of the asking module's crate takes a name of that module which the asking module may see, as it stands there
abbrev pub TakesHere : Maps → ModuleId → ModuleId → List ℕ → Type 0
TakesHere maps from m s =
    (items : PerNs) × AreKept (may_see maps from) (entry_in maps m s) items
    × ((further : ModuleId → PerNs → ResolvePathResult) → through_module further maps from s m ≡ further from items)

-- a segment in a module of another crate takes a name of the module where the path goes on, which is the asking module from there on
abbrev pub TakesThere : Maps → ModuleId → ModuleId → List ℕ → Type 0
TakesThere maps from m s =
    (items : PerNs) × AreKept (may_see maps (nearest_non_block_module maps m)) (entry_in maps (nearest_non_block_module maps m) s) items
    × ((further : ModuleId → PerNs → ResolvePathResult) → through_module further maps from s m ≡ crossing (further (nearest_non_block_module maps m) items))

-- each segment after what names a module hands on what the module that asks there may see
abbrev pub LaterSegmentsAreSeen : Type 0
LaterSegmentsAreSeen = (maps : Maps) (from m : ModuleId) (s : List ℕ)
    → (same_crate m.map.krate from.map.krate ≡ true → TakesHere maps from m s)
    × (same_crate m.map.krate from.map.krate ≡ false → TakesThere maps from m s)

-- ---- paths that are asked inside blocks

-- in a crate's own map a path means what it means from where it starts
abbrev pub CratesAskThemselves : Type 0
CratesAskThemselves = (maps : Maps) (asking : Asking) (from : ModuleId) (path : Path)
    → from.map.block ≡ None → resolution_of maps asking from path ≡ from_start maps asking from path.kind path.segments

-- a block's root has what it has itself, and besides what is asked of the module that holds it, by that module
abbrev pub BlocksAskHolders : Type 0
BlocksAskHolders = (maps : Maps) (asking : Asking) (from holder : ModuleId) (path : Path)
    → IsPlaced maps → is_block_root from ≡ true → holder_in maps from ≡ Some holder
    → resolution_of maps asking from path ≡ joined (from_start maps asking from path.kind path.segments) (resolution_of maps asking holder path)

-- a module inside a block has what it has itself, and besides what the preludes of its crate have
abbrev pub InnerModulesAskPreludes : Type 0
InnerModulesAskPreludes = (maps : Maps) (asking : Asking) (from : ModuleId) (path : Path)
    → is_some from.map.block ≡ true → is_block_root from ≡ false
    → resolution_of maps asking from path
    ≡ joined (from_start maps asking from path.kind path.segments) (in_preludes maps asking (crate_root from.map.krate) path.kind path.segments)

-- ---- steps

-- where parents lead to a root, one step up leads to the parent
abbrev pub RootedStepsLeadToParents : Type 0
RootedStepsLeadToParents = (maps : Maps) (m p : ModuleId) (placed : Placed)
    → maps m.map ≡ Some placed → placed.map.id ≡ m.map → leads_to_root (frame_of placed) m.index ≡ true
    → parent_in maps m ≡ Some p → p.map ≡ m.map → up_in maps m ≡ Some p

-- in a map whose parents come before their children, one step up leads to the parent
abbrev pub StepsLeadToParents : Type 0
StepsLeadToParents = (map : Map) → IsInOrder map → (m : ModuleId) → up_in (alone map) m ≡ parent_in (alone map) m
