pub mod Looking
pub mod Texts
pub mod Reached
pub mod Behind
