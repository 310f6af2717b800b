pub mod Digits
pub mod Rootless
pub mod CallPlaces
pub mod Untaken
pub mod Missing
