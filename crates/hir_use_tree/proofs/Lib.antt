pub mod UseTreeLemmas
pub mod CallLemmas
pub mod UseTreePlaces
