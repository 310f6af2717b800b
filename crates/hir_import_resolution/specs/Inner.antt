-- Words of private code.
pub mod TableLaws
pub mod OpenLaws
pub mod State
pub mod Steps
pub mod Queue
