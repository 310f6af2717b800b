pub mod CallSteps
pub mod Helping
