-- Where do the steps of a place lead, in what is kept?
use Rattle.std.specs.Prelude.{ℕ, Bool, ◌+◌, zero, suc, List, [], ◌∷◌, ◌++◌, Option, Some, None, option_map, is_some, cond}
use Rattle.std.specs.Option.{option_and_then}
use Rattle.hir_collector_rules.specs.HirBase.Place.{PlaceValue}
use Rattle.hir_collector_rules.specs.HirBase.contracts.place.BlockPlacePartialEq.TheImpl as block_eq
use Rattle.hir_collector_rules.specs.HirIds.contracts.ids.MapIdPartialEq.TheImpl as map_id
use Rattle.hir_collector_rules.specs.HirIds.declared.ast_id.BlockId.{BlockId}
use Rattle.hir_collector_rules.specs.HirBase.declared.place.BlockPlace.{BlockPlace}
use Rattle.hir_collector_rules.specs.HirIds.declared.ids.Crate.{Crate}
use Rattle.hir_collector_rules.specs.HirIds.declared.ast_id.EditionedFileId.{EditionedFileId}
use Rattle.hir_collector_rules.specs.HirIds.declared.ast_id.HirFileId.{HirFileId}
use Rattle.hir_collector_rules.specs.HirBase.declared.macro_kind.MacroCallLoc.{MacroCallLoc}
use Rattle.hir_collector_rules.specs.HirIds.declared.ids.MapId.{MapId}
use Rattle.hir_collector_rules.specs.HirIds.declared.ids.ModuleId.{ModuleId}
use Rattle.hir_collector_rules.specs.HirBase.declared.place.PlaceElement.{PlaceElement}
use Rattle.hir_collector_rules.specs.HirIds.declared.ast_id.SyntaxId.{SyntaxId}
use Rattle.hir_collector_rules.specs.HirIds.declared.ast_id.HirFileId.TheVariants.{File, Macro}
use Rattle.hir_collector_rules.specs.HirBase.declared.place.PlaceElement.TheVariants as element
use Rattle.hir_collector_rules.specs.HirDefMapRules.Diagnostics.{call_node}
use Rattle.hir_collector_rules.specs.HirDefMapRules.State.{ModuleValue, child_at, crate_map, module_at, root_of}
use Rattle.hir_collector_rules.specs.HirMapParts.declared.origin.ModuleOrigin.{ModuleOrigin}
use Rattle.hir_collector_rules.specs.HirMapParts.declared.origin.ModuleOrigin.TheVariants as origin
use Rattle.hir_collector_rules.specs.HirTables.Tables.{TablesValue, block_at, call_at}
use Rattle.hir_session_state.specs.Blocks.{Blocks, block_in, place_of_block}
use Rattle.hir_session_state.specs.Kept.{Resolution, Resolutions, kept_in}

-- ---- numbers of blocks

-- the number of a block among those from this number on
abbrev pub number_from : ℕ → List BlockPlace → BlockPlace → Option BlockId
number_from n [] place = None
number_from n (b ∷ bs) place = cond (block_eq.ghosts.eq b place) (Some (record { 0 = n })) (number_from (n + 1) bs place)

-- the number of a block, if it has one
abbrev pub block_number : TablesValue → BlockPlace → Option BlockId
block_number tables place = number_from 0 tables.blocks place

-- the id of the map of the block of a number
abbrev pub block_map : Crate → BlockId → MapId
block_map krate id = record { krate = krate; block = Some id }

-- what is kept of a block
abbrev pub kept_block : TablesValue → Resolutions → BlockPlace → Option Resolution
kept_block tables kept place = option_and_then (λ id. kept_in kept (block_map place.holder.krate id)) (block_number tables place)

-- the place of the root of a map; of a block's where the number means a block
abbrev pub place_by : TablesValue → Crate → Option BlockId → Option PlaceValue
place_by tables krate None = Some (record { krate = krate; elements = [] })
place_by tables krate (Some b) = option_map place_of_block (block_at tables b)

abbrev pub place_of_map : TablesValue → MapId → Option PlaceValue
place_of_map tables id = place_by tables id.krate id.block

-- ---- the way down

-- where steps lead
pub data Standing : Type 0 where
  -- to a module of a current map
  at : ModuleId → Standing
  -- a name isn't there in the current map of this id
  lacks : MapId → Standing
  -- to or below a crate or a block that is stale
  stale : Standing
  -- a block isn't set
  unset : Standing

-- to the child of a name, if it is there; it is a module of the same map
abbrev pub to_child : MapId → Option ModuleId → Standing
to_child id None = lacks id
to_child id (Some m) = cond (map_id.ghosts.eq m.map id) (at m) (lacks id)

-- to the root of what is kept
abbrev pub to_root : Option Resolution → Standing
to_root None = stale
to_root (Some r) = at (root_of r.map.id)

-- the child of a name, where the map is kept
abbrev pub child_kept : Resolutions → ModuleId → List ℕ → Option ModuleId
child_kept kept m name = option_and_then (λ (r : Resolution). child_at r.map m.index name) (kept_in kept m.map)

-- whether a block is set
abbrev pub is_set : Blocks → BlockPlace → Bool
is_set blocks place = is_some (block_in blocks (place_of_block place))

-- the block of an id at the end of some steps
abbrev pub block_below : Crate → List PlaceElement → SyntaxId → BlockPlace
block_below krate before id = record { holder = record { krate = krate; elements = before }; id = id }

module _ (tables : TablesValue) (blocks : Blocks) (kept : Resolutions) where
  -- one step from where the steps before it lead
  abbrev pub step : Crate → List PlaceElement → Standing → PlaceElement → Standing
  step krate before (at m) (element.Module name) = to_child m.map (child_kept kept m name)
  step krate before (at m) (element.Block id) =
      cond (is_set blocks (block_below krate before id)) (to_root (kept_block tables kept (block_below krate before id))) unset
  step krate before (lacks id) e = lacks id
  step krate before stale (element.Module name) = stale
  step krate before stale (element.Block id) = cond (is_set blocks (block_below krate before id)) stale unset
  step krate before unset e = unset

  -- steps one after another, behind those that were taken before
  abbrev pub down : Crate → List PlaceElement → Standing → List PlaceElement → Standing
  down krate before standing [] = standing
  down krate before standing (e ∷ more) = down krate (before ++ e ∷ []) (step krate before standing e) more

  -- from the root of the crate, where something is kept of it
  abbrev pub from_crate : Option Resolution → PlaceValue → Standing
  from_crate None place = stale
  from_crate (Some r) place = down place.krate [] (at (root_of r.map.id)) place.elements

  -- where the steps of a place lead
  abbrev pub standing_in : PlaceValue → Standing
  standing_in place = from_crate (kept_in kept (crate_map place.krate)) place

-- the module to which they lead
abbrev pub module_by : Standing → Option ModuleId
module_by (at m) = Some m
module_by (lacks id) = None
module_by stale = None
module_by unset = None

-- the current map in which they end
abbrev pub map_by : Standing → Option MapId
map_by (at m) = Some m.map
map_by (lacks id) = Some id
map_by stale = None
map_by unset = None

-- ---- the file of a module

-- the file in which syntax is written, through at most so many calls that stand in one another
abbrev pub file_within : ℕ → TablesValue → HirFileId → Option EditionedFileId
file_within n t (File f) = Some f
file_within zero t (Macro c) = None
file_within (suc n) t (Macro c) = option_and_then (λ (call : MacroCallLoc). file_within n t (call_node call.kind).file_id) (call_at t c)

-- how many calls can stand in one another, where each stands in what calls with smaller numbers expand to
abbrev pub most_calls : HirFileId → ℕ
most_calls (File f) = 0
most_calls (Macro c) = suc c.0

abbrev pub file_around : TablesValue → HirFileId → Option EditionedFileId
file_around t file = file_within (most_calls file) t file

-- the file in which the items of a module are written, or the outermost call around them
abbrev pub file_of_origin : TablesValue → ModuleOrigin → Option EditionedFileId
file_of_origin t (origin.CrateRoot file) = Some file
file_of_origin t (origin.File is_mod_rs declared tree file) = Some file
file_of_origin t (origin.Inline tree declared) = file_around t tree.file
file_of_origin t (origin.BlockExpr id block) = file_around t block.file_id

abbrev pub file_of_module : TablesValue → Option ModuleValue → Option EditionedFileId
file_of_module t None = None
file_of_module t (Some m) = file_of_origin t m.origin

-- the same of a module of a map that is kept
abbrev pub definition_file : TablesValue → Resolutions → ModuleId → Option EditionedFileId
definition_file t kept m = option_and_then (λ (r : Resolution). file_of_module t (module_at r.map m.index)) (kept_in kept m.map)
