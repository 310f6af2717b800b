-- The step that was wanted is the one that may be taken.
use Rattle.std.proofs.Common.{rules}
use Rattle.hir_glob_imports.proofs.glob_imports.GlobImports.take.Goals as goal

pub returns-in_err-copy_along-in-Copy-clause-many : goal.returns-in_err-copy_along-in-Copy-clause-many
returns-in_err-copy_along-in-Copy-clause-many g c = λ h. c.in_err-copy_along-in-Copy.ensures.many (search rules)

pub returns-in_err-follow_along-in-Follow-clause-many : goal.returns-in_err-follow_along-in-Follow-clause-many
returns-in_err-follow_along-in-Follow-clause-many g c = λ h. c.in_err-follow_along-in-Follow.ensures.many (search rules)

pub returns-in_err-raise_along-in-Raise-clause-many : goal.returns-in_err-raise_along-in-Raise-clause-many
returns-in_err-raise_along-in-Raise-clause-many g c = λ h. c.in_err-raise_along-in-Raise.ensures.many (search rules)
