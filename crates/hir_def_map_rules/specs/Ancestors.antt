-- Which modules lie above a module?
use Rattle.std.specs.Prelude.{◌≡◌, ℕ, zero, suc, ◌+◌, ◌++◌, Bool, true, ◌||◌, not, is_some, Option, None, Some, List, [], ◌∷◌, map, length, cond, nat_lt}
use Rattle.std.specs.Prelude.{slice_get, option_and_then, option_map}
use Rattle.hir_scope.specs.HirIds.declared.ids.MapId.{MapId}
use Rattle.hir_scope.specs.HirIds.declared.ids.ModuleId.{ModuleId}
use Rattle.hir_scope.specs.HirIds.contracts.ids.MapIdPartialEq.TheImpl as map_id
use Rattle.hir_def_map_rules.specs.State.{Map, ModuleValue, numbered}
use Rattle.hir_def_map_rules.specs.Overlay.{Maps, Placed}

-- a map without its names: what each module is in, by number, and the modules that hold the map
pub record Frame : Type 0 where
  pub id : MapId
  pub parents : List (Option ModuleId)
  pub holders : List ModuleId

abbrev pub frame_of : Placed → Frame
frame_of placed = record {
  id = placed.map.id;
  parents = map (λ (m : ModuleValue). m.parent) placed.map.modules;
  holders = placed.holders;
}

-- the frame of a map by itself
abbrev pub own_frame : Map → Frame
own_frame map = frame_of (record { map = map; local = []; holders = [] })

abbrev pub Frames : Type 0
Frames = MapId → Option Frame

unfoldable pub frames_of : Maps → Frames
frames_of maps id = option_map frame_of (maps id)

-- ---- in one map, by numbers

-- the number of a parent, where that is a module of the same map
abbrev pub number_in : MapId → Option ModuleId → Option ℕ
number_in id None = None
number_in id (Some p) = cond (map_id.ghosts.eq p.map id) (Some p.index) None

-- what a module is in
abbrev pub parent_number : Frame → ℕ → Option ℕ
parent_number frame at = number_in frame.id (option_and_then (λ (p : Option ModuleId). p) (slice_get frame.parents at))

-- whether a chain comes to its end from the next of it on
abbrev pub ends_from : (ℕ → Bool) → Option ℕ → Bool
ends_from ends None = true
ends_from ends (Some p) = ends p

-- whether steps come to an end within so many
abbrev pub ends_within : (ℕ → Option ℕ) → ℕ → ℕ → Bool
ends_within up zero at = not (is_some (up at))
ends_within up (suc n) at = ends_from (ends_within up n) (up at)

-- whether parents lead from a module to a root
unfoldable pub leads_to_root : Frame → ℕ → Bool
leads_to_root frame at = ends_within (parent_number frame) (length frame.parents) at

-- one step up leads to the parent; where parents lead round in a circle, only to one that comes before
abbrev pub step_to : Frame → ℕ → Option ℕ → Option ℕ
step_to frame at None = None
step_to frame at (Some p) = cond (nat_lt p at || leads_to_root frame at) (Some p) None

abbrev pub step_in : Frame → ℕ → Option ℕ
step_in frame at = step_to frame at (parent_number frame at)

-- a step, and those from there on
abbrev pub steps_from : (ℕ → List ℕ) → Option ℕ → List ℕ
steps_from steps None = []
steps_from steps (Some p) = p ∷ steps p

-- at most so many steps
abbrev pub steps_by : (ℕ → Option ℕ) → ℕ → ℕ → List ℕ
steps_by up zero at = []
steps_by up (suc n) at = steps_from (steps_by up n) (up at)

-- the modules above one in its map, the nearest first
unfoldable pub numbers_above : Frame → ℕ → List ℕ
numbers_above frame at = steps_by (step_in frame) (length frame.parents + at) at

-- ---- in several maps

abbrev pub step_of : Option Frame → ℕ → Option ℕ
step_of None at = None
step_of (Some frame) at = step_in frame at

abbrev pub numbers_of : Option Frame → ℕ → List ℕ
numbers_of None at = []
numbers_of (Some frame) at = numbers_above frame at

abbrev pub holders_of_frame : Option Frame → List ModuleId
holders_of_frame None = []
holders_of_frame (Some frame) = frame.holders

abbrev pub head_of : List ModuleId → Option ModuleId
head_of [] = None
head_of (h ∷ hs) = Some h

-- one step up in a module's own map
abbrev pub up_by : Frames → ModuleId → Option ModuleId
up_by frames m = option_map (numbered m.map) (step_of (frames m.map) m.index)

-- the modules that hold a module's map, the nearest first
abbrev pub holders_by : Frames → ModuleId → List ModuleId
holders_by frames m = holders_of_frame (frames m.map)

-- the module that holds the block of a module's map
abbrev pub holder_by : Frames → ModuleId → Option ModuleId
holder_by frames m = head_of (holders_by frames m)

-- the modules above one in its own map
abbrev pub above_inside : Frames → ModuleId → List ModuleId
above_inside frames m = map (numbered m.map) (numbers_of (frames m.map) m.index)

-- then the holder, what is above that in its map, and so on
abbrev pub above_under : Frames → List ModuleId → ModuleId → List ModuleId
above_under frames [] m = above_inside frames m
above_under frames (h ∷ hs) m = above_inside frames m ++ h ∷ above_under frames hs h

-- all that lie above a module, the nearest first
abbrev pub above_by : Frames → ModuleId → List ModuleId
above_by frames m = above_under frames (holders_by frames m) m

abbrev pub up_in : Maps → ModuleId → Option ModuleId
up_in maps m = up_by (frames_of maps) m

abbrev pub holders_in : Maps → ModuleId → List ModuleId
holders_in maps m = holders_by (frames_of maps) m

abbrev pub holder_in : Maps → ModuleId → Option ModuleId
holder_in maps m = holder_by (frames_of maps) m

unfoldable pub above_in : Maps → ModuleId → List ModuleId
above_in maps m = above_by (frames_of maps) m

-- ---- maps in their places

-- a holder of a map is a module of a map that is there, of the same crate, and those that are left hold that map
abbrev pub HolderLeads : Frames → MapId → ModuleId → List ModuleId → Type 0
HolderLeads frames id h hs = (h.map.krate ≡ id.krate) × (is_some (frames h.map) ≡ true) × (holders_by frames h ≡ hs)

-- each map is in its place
abbrev pub IsPlaced : Maps → Type 0
IsPlaced maps = (id : MapId) (h : ModuleId) (hs : List ModuleId) → holders_of_frame (frames_of maps id) ≡ h ∷ hs → HolderLeads (frames_of maps) id h hs
