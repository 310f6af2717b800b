pub mod Written
pub mod Depth
pub mod AssocItems
pub mod Readers
pub mod Laws
-- ---- words of private code
pub mod Steps
