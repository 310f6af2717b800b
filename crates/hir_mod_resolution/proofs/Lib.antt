pub mod Outline
pub mod Finding
