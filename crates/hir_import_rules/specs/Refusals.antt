-- What imports are given up for.
use Rattle.hir_glob_imports.specs.declared.step.GlobError.{GlobError}
use Rattle.hir_import_rules.specs.declared.error.ImportError.{ImportError}
use Rattle.hir_glob_imports.specs.declared.step.GlobError.TheVariants as glob_errors
use Rattle.hir_import_rules.specs.declared.error.ImportError.TheVariants as errors

-- why imports are given up where globs are
abbrev pub refusal_of : GlobError → ImportError
refusal_of glob_errors.TooMany = errors.TooMany
refusal_of glob_errors.Memory = errors.Memory
