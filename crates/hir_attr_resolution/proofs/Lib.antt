pub mod Deriving
pub mod Passing
