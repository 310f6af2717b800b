use Rattle.std.proofs.Common.{rules}
use Rattle.hir_assoc_items.proofs.assoc.TraitItems.query_with_diagnostics.Goals as goal

pub returns-in_err-found-clause-many : goal.returns-in_err-found-clause-many
returns-in_err-found-clause-many g c = λ h. c.in_err-found.ensures.many (search rules)
