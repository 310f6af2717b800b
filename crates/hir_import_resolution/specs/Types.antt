-- The types of the crate, under their names.
pub use Rattle.hir_import_resolution.specs.declared.import_queue.ImportQueue.{ImportQueue}
pub use Rattle.hir_import_resolution.specs.declared.imports.Imports.{Imports}
pub use Rattle.hir_import_resolution.specs.declared.resolver.Resolver.{Resolver}
pub use Rattle.hir_import_resolution.specs.declared.resolver.steps.Taking.{Taking}
pub use Rattle.hir_import_resolution.specs.declared.scopes.OpenScopes.{OpenScopes}
