pub mod ImportSteps
pub mod NotedSlots
pub mod NotedImports
pub mod Outside
pub mod Ready
