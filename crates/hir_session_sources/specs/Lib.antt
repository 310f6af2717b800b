pub mod BlockPlaces
pub mod BlockTables
pub mod BlockCodes
pub mod ByCrate
pub mod EditValues
pub mod SourceTrees
pub mod LoweredTrees
