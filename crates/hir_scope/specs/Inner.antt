-- Words of private code, and lemmas that an `impl` names.
pub mod Equality
pub mod Entries
