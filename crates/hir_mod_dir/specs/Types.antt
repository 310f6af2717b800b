-- The types of the crate, under their names.
pub use Rattle.hir_mod_dir.specs.declared.candidate.Candidate.{Candidate}
