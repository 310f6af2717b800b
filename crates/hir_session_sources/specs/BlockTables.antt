-- How are blocks stored? No public clause speaks of this.
use Rattle.std.specs.Prelude.{◌≡◌, Bool, not, List, [], ◌∷◌, filter, map, Option, Some, None}
use Rattle.std.specs.BTreeMap.{is_at, insert_entry}
use Rattle.std.specs.List.{list_any}
use Rattle.std.specs.Map.{lookup}
use Rattle.std.specs.declared.alloc.Global.{Global}
use Rattle.std.specs.declared.vec.Vec.{Vec}
use Rattle.hir_session_state.specs.HirBase.Place.{PlaceValue}
use Rattle.hir_session_state.specs.HirIds.contracts.ids.CrateOrd.TheImpl as crate_order
use Rattle.hir_session_state.specs.HirBase.contracts.place.BlockPlacePartialEq.TheImpl as block_eq
use Rattle.hir_session_state.specs.HirBase.declared.place.BlockPlace.{BlockPlace}
use Rattle.hir_session_state.specs.HirIds.declared.ids.Crate.{Crate}
use Rattle.hir_session_state.specs.HirBase.declared.place.PlaceElement.{PlaceElement}
use Rattle.hir_session_state.specs.HirItemTree.Source.{SourceValue}
use Rattle.hir_session_state.specs.Blocks.{Blocks, CrateBlocks, place_of_block, steps_cmp}

-- a block that is set: its place, and its source as it was handed in
pub record SetBlockValue : Type 0 where
  pub place : BlockPlace
  pub source : SourceValue

-- those of a crate, each by the steps to it
abbrev pub SetBlocks : Type 0
SetBlocks = List (List PlaceElement × SetBlockValue)

-- those of each crate that has a table
abbrev pub SetTables : Type 0
SetTables = List (Crate × SetBlocks)

-- what is stored by steps
abbrev pub by_steps : {V : Type 0} → List (Vec PlaceElement Global × V) → List (List PlaceElement × V)
by_steps es = map (λ e. (e.0.items, e.1)) es

-- their sources
abbrev pub sources_of : SetBlocks → CrateBlocks
sources_of own = map (λ e. (e.0, e.1.source)) own

abbrev pub sources_by_crate : SetTables → Blocks
sources_by_crate tables = map (λ e. (e.0, sources_of e.1)) tables

-- steps in a crate
abbrev pub steps_in : Crate → List PlaceElement → PlaceValue
steps_in krate steps = record { krate = krate; elements = steps }

-- the place of each is that by which it is stored
abbrev pub ArePlacedIn : Crate → SetBlocks → Type 0
ArePlacedIn krate [] = Unit {0}
ArePlacedIn krate (e ∷ es) = (place_of_block e.1.place ≡ steps_in krate e.0) × ArePlacedIn krate es

abbrev pub AreInPlace : SetTables → Type 0
AreInPlace [] = Unit {0}
AreInPlace (e ∷ es) = ArePlacedIn e.0 e.1 × AreInPlace es

-- whether a place is among these
abbrev pub has_place : List BlockPlace → BlockPlace → Bool
has_place places b = list_any (λ p. block_eq.ghosts.eq p b) places

-- ---- changes

abbrev pub or_none : Option SetBlocks → SetBlocks
or_none None = []
or_none (Some own) = own

-- those of a crate, none where it has no table
abbrev pub of_crate : SetTables → Crate → SetBlocks
of_crate tables krate = or_none (lookup (is_at (crate_order.ghosts.cmp krate)) tables)

-- the tables once a block is set at these steps of a crate
abbrev pub with_set : SetTables → Crate → List PlaceElement → SetBlockValue → SetTables
with_set tables krate steps b = insert_entry crate_order.ghosts.cmp tables krate (insert_entry steps_cmp (of_crate tables krate) steps b)

-- those of a crate without the one at these steps
abbrev pub without_steps : SetBlocks → List PlaceElement → SetBlocks
without_steps own steps = filter (λ e. not (is_at (steps_cmp steps) e.0)) own

-- the tables without the block at these steps of a crate
abbrev pub left_by : SetTables → Crate → List PlaceElement → Option SetBlocks → SetTables
left_by tables krate steps None = tables
left_by tables krate steps (Some own) = insert_entry crate_order.ghosts.cmp tables krate (without_steps own steps)

abbrev pub without_set : SetTables → Crate → List PlaceElement → SetTables
without_set tables krate steps = left_by tables krate steps (lookup (is_at (crate_order.ghosts.cmp krate)) tables)
