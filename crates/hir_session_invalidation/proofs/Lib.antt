pub mod Judging
pub mod Current
