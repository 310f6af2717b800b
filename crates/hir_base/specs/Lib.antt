-- the types, under their names
pub mod Types
-- names
-- paths and files, and how they print
pub mod ModPath
pub mod Path
pub mod ParsePath
pub mod ParseFile
pub mod Display
pub mod Limit
-- places, ids and macros
pub mod Place
-- what items are written as
pub mod Shape
-- conditions on a crate's options
pub mod Cfg
pub mod CfgOptions
pub mod SameCfg
-- numbers for values
pub mod Locations
-- what holds of equality, order and hash, and where memory runs out
-- words of private code
pub mod DisplayText
pub mod Root
