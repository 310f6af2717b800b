-- ---- what an import is, and what it brings
pub mod Visibilities
pub mod Directives
-- ---- where imports stand, and what globs read and write of it
pub mod Names
pub mod State
-- ---- the rules
pub mod Changes
pub mod Rules
-- ---- where they rest, and what may happen before they are taken up again
pub mod Rest
pub mod Lasting
-- ---- what changed since something was tried
pub mod Changed
-- ---- words of private code
pub mod ScopeLaws
pub mod Refusals
