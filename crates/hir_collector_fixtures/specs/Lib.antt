pub mod Crates
