-- Steps along globs are steps of imports.
use Rattle.std.proofs.Common.{◌≡◌, ◌∙◌, sym, refl}
use Rattle.std.proofs.lemmas.Result.{err_from_is_err_and}
use Rattle.hir_glob_imports.specs.declared.step.GlobError.TheVariants as glob_errors
use Rattle.hir_import_rules.specs.declared.error.ImportError.TheVariants as errors
use Rattle.hir_import_resolution.specs.Types.{Resolver}
use Rattle.hir_import_resolution.proofs.Spread.{refused_many, spread_is, spread_lasts, spread_recorded, spread_spent, spread_steps}
use Rattle.hir_import_resolution.proofs.resolver.Resolver.spread.Goals as goal

abbrev left : (c : goal.In_ok-wave) → Resolver
left c = record c.args.self.now { scopes = c.wave.new.names; globs = c.wave.new.self; count = c.wave.new.count; changes = c.wave.new.changes }

pub returns-clause-steps : goal.returns-clause-steps
returns-clause-steps c = spread_steps c.args.self.now (left c) c.wave.new.changes.items c.in_ok-wave.ensures.steps refl refl refl refl refl refl refl refl

pub returns-clause-is : goal.returns-clause-is
returns-clause-is c = spread_is c.args.self.now (left c) c.wave.new.changes.items c.in_ok-wave.ensures.steps refl refl refl refl refl refl refl refl refl

pub returns-clause-recorded : goal.returns-clause-recorded
returns-clause-recorded c = spread_recorded c.args.self.now (left c) c.wave.new.changes.items c.in_ok-wave.ensures.steps refl refl refl refl refl refl refl refl

pub returns-clause-lasts : goal.returns-clause-lasts
returns-clause-lasts c =
    λ kept lasts. spread_lasts c.args.self.now (left c) c.wave.new.changes.items c.in_ok-wave.ensures.steps refl refl refl refl refl refl refl refl kept lasts

pub returns-in_err-wave-clause-many : goal.returns-in_err-wave-clause-many
returns-in_err-wave-clause-many c = λ h.
    let p = err_from_is_err_and c.from_residual.result c.from_residual.ensures.1 in
    let many : p.0 ≡ errors.TooMany = cc in
    let same : c.in_err-wave.field-0.0 ≡ glob_errors.TooMany = refused_many c.in_err-wave.field-0.0 (sym p.2 ∙ many) in
    spread_spent c.args.self.now (c.in_err-wave.ensures.many cc)
