pub mod Transitive
