pub mod Directory
pub mod PathText
pub mod ModuleFiles
pub mod Declaration
pub mod Types
