-- Which blocks are set?
use Rattle.std.specs.Prelude.{List, map}
use Rattle.std.specs.List.{flat_map}
use Rattle.hir_session_state.specs.HirBase.Place.{PlaceValue}
use Rattle.hir_session_state.specs.HirIds.declared.ids.Crate.{Crate}
use Rattle.hir_session_state.specs.Blocks.{Blocks, CrateBlocks}

-- the places of the blocks of a crate
abbrev pub places_in : Crate → CrateBlocks → List PlaceValue
places_in krate own = map (λ b. record { krate = krate; elements = b.0 }) own

-- those of all blocks, in their order
abbrev pub places_of : Blocks → List PlaceValue
places_of blocks = flat_map (λ e. places_in e.0 e.1) blocks
