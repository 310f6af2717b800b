-- The types of the crate, under their names.
pub use Rattle.hir_collector_rules.specs.declared.declaration.Declaration.{Declaration}
pub use Rattle.hir_collector_rules.specs.declared.exported.Export.{Export}
pub use Rattle.hir_collector_rules.specs.declared.exported.ExportedFunction.{ExportedFunction}
pub use Rattle.hir_collector_rules.specs.declared.macro_directive.Fate.{Fate}
pub use Rattle.hir_collector_rules.specs.declared.macro_directive.MacroDirective.{MacroDirective}
pub use Rattle.hir_collector_rules.specs.declared.macro_directive.MacroDirectiveKind.{MacroDirectiveKind}
pub use Rattle.hir_collector_rules.specs.declared.macro_directive.WaitingItem.{WaitingItem}
pub use Rattle.hir_collector_rules.specs.declared.site.Site.{Site}
pub use Rattle.hir_collector_rules.specs.declared.source_database.Config.{Config}
pub use Rattle.hir_collector_rules.specs.declared.source_database.CrateRoot.{CrateRoot}
pub use Rattle.hir_collector_rules.specs.declared.source_database.Dependency.{Dependency}
pub use Rattle.hir_collector_rules.specs.declared.source_database.Key.{Key}
pub use Rattle.hir_collector_rules.specs.declared.start.CollectError.{CollectError}
pub use Rattle.hir_collector_rules.specs.declared.start.Start.{Start}
pub use Rattle.hir_collector_rules.specs.declared.start.StepError.{StepError}
