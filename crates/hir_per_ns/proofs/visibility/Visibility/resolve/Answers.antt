use Rattle.std.proofs.Common.{refl, Some, None}
use Rattle.hir_per_ns.proofs.visibility.Visibility.resolve.Goals as goal

-- what the look-up gave is what was found
pub returns-in-Some : goal.returns-in-Some
returns-in-Some g c = record { value = (Some c.in-Some.vis, (c.args.raw, c.in-Some.ensures, refl), refl) }

pub returns-in-None : goal.returns-in-None
returns-in-None g c = record { value = (None, (c.args.raw, c.in-None.ensures, refl), refl) }
