-- What is a path?
pub use Rattle.hir_base.specs.ModPath.{Path}
