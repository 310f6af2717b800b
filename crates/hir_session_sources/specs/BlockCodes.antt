-- How are blocks coded?
use Rattle.std.specs.Coded.{Coded, codes}
use Rattle.hir_session_state.specs.Blocks.{Blocks}
use Rattle.hir_session_state.specs.SourceCodes.{coded_source}
use Rattle.hir_session_sources.specs.BlockTables.{SetBlockValue, SetBlocks}

-- a block that is set is stored as its place and its source
pub coded_set_block : Coded SetBlockValue
coded_set_block = hlevel (codes, coded_source)

-- those of a crate are stored as the list of steps and of themselves
pub coded_set_blocks : Coded SetBlocks
coded_set_blocks = hlevel (codes, coded_set_block)

-- blocks are stored as the list of their crates, steps and sources
pub coded_blocks : Coded Blocks
coded_blocks = hlevel (codes, coded_source)
