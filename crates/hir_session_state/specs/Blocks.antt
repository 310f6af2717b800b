-- What has a session of each block?
use Rattle.std.specs.Prelude.{ℕ, suc, not, List, [], ◌∷◌, ◌++◌, filter, Option, Some, None}
use Rattle.std.specs.BTreeMap.{is_at, insert_entry}
use Rattle.std.specs.Cmp.Lexicographic.{slice_cmp}
use Rattle.std.specs.Map.{lookup}
use Rattle.std.specs.Ordering.{nat_cmp, on, then_cmp}
use Rattle.std.specs.declared.cmp.Ordering.{Ordering}
use Rattle.hir_collector_rules.specs.HirBase.Place.{PlaceValue}
use Rattle.hir_collector_rules.specs.HirIds.contracts.ids.CrateOrd.TheImpl as crate_order
use Rattle.hir_collector_rules.specs.HirBase.contracts.place.PlaceElementOrd.TheImpl as element_order
use Rattle.hir_collector_rules.specs.HirBase.contracts.place.PlaceOrd.TheImpl as place_order
use Rattle.hir_collector_rules.specs.HirBase.declared.place.BlockPlace.{BlockPlace}
use Rattle.hir_collector_rules.specs.HirIds.declared.ids.Crate.{Crate}
use Rattle.hir_collector_rules.specs.HirBase.declared.place.PlaceElement.{PlaceElement}
use Rattle.hir_collector_rules.specs.HirBase.declared.place.PlaceElement.TheVariants as element
use Rattle.hir_collector_rules.specs.HirItemTree.Source.{SourceValue}

-- the place of the root of a block
abbrev pub place_of_block : BlockPlace → PlaceValue
place_of_block b = record { krate = b.holder.krate; elements = b.holder.elements ++ element.Block b.id ∷ [] }

-- how many blocks steps lead into, one within another
abbrev pub nesting_of : List PlaceElement → ℕ
nesting_of [] = 0
nesting_of (element.Module name ∷ more) = nesting_of more
nesting_of (element.Block id ∷ more) = suc (nesting_of more)

-- a block is resolved before another by how many blocks are around it, then by its place
abbrev pub block_cmp : BlockPlace → BlockPlace → Ordering
block_cmp = then_cmp (on (λ b. nesting_of (place_of_block b).elements) nat_cmp) (on place_of_block place_order.ghosts.cmp)

-- steps in their order
abbrev pub steps_cmp : List PlaceElement → List PlaceElement → Ordering
steps_cmp = slice_cmp element_order.ghosts.cmp

-- the blocks of a crate, each by the steps to it, in the order of their places
abbrev pub CrateBlocks : Type 0
CrateBlocks = List (List PlaceElement × SourceValue)

-- the sources of the blocks that are there, as they were handed in, by crate
abbrev pub Blocks : Type 0
Blocks = List (Crate × CrateBlocks)

-- the blocks of a crate; none where none is set
abbrev pub blocks_of : Option CrateBlocks → CrateBlocks
blocks_of None = []
blocks_of (Some own) = own

abbrev pub blocks_in : Blocks → Crate → CrateBlocks
blocks_in blocks krate = blocks_of (lookup (is_at (crate_order.ghosts.cmp krate)) blocks)

-- the source of the block at a place, if it is there
abbrev pub block_in : Blocks → PlaceValue → Option SourceValue
block_in blocks place = lookup (is_at (steps_cmp place.elements)) (blocks_in blocks place.krate)

-- the blocks of a crate where the one at these steps has this source, or isn't there
abbrev pub steps_with : CrateBlocks → List PlaceElement → Option SourceValue → CrateBlocks
steps_with own steps (Some source) = insert_entry steps_cmp own steps source
steps_with own steps None = filter (λ b. not (is_at (steps_cmp steps) b.0)) own

-- the blocks where those of a crate are these
abbrev pub with_crate_blocks : Blocks → Crate → CrateBlocks → Blocks
with_crate_blocks blocks krate own = insert_entry crate_order.ghosts.cmp blocks krate own

-- the blocks where the one at a place has this source
abbrev pub with_block : Blocks → PlaceValue → SourceValue → Blocks
with_block blocks place source = with_crate_blocks blocks place.krate (steps_with (blocks_in blocks place.krate) place.elements (Some source))

-- the blocks without the one at a place; a crate of which none was ever set has no entry
abbrev pub without_in : Blocks → PlaceValue → Option CrateBlocks → Blocks
without_in blocks place None = blocks
without_in blocks place (Some own) = with_crate_blocks blocks place.krate (steps_with own place.elements None)

abbrev pub without_block : Blocks → PlaceValue → Blocks
without_block blocks place = without_in blocks place (lookup (is_at (crate_order.ghosts.cmp place.krate)) blocks)

-- the blocks where the one at a place has this source, or isn't there
abbrev pub blocks_with : Blocks → PlaceValue → Option SourceValue → Blocks
blocks_with blocks place (Some source) = with_block blocks place source
blocks_with blocks place None = without_block blocks place
