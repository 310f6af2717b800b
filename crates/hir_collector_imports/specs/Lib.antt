pub mod Waiting
pub mod Outside
