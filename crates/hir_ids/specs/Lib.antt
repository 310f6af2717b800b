-- the types, under their names
pub mod Types
-- names
pub mod NameForm
pub mod Name
-- how they print
pub mod Display
-- ids and macros
pub mod Ids
pub mod MacroKind
pub mod BuiltinType
-- what holds of equality, order and hash, and where memory runs out
pub mod Laws
pub mod Refusal
-- words of private code
pub mod DisplayText
pub mod Head
pub mod Text
