-- The set says of each option by its order whether it is there, and the order ties the same options alone.
use Rattle.std.proofs.Common.{subst}
use Rattle.hir_base.specs.CfgOptions.{Sets}
use Rattle.hir_base.proofs.AtomLemmas.{set_by_order}
use Rattle.hir_base.proofs.cfg_options.CfgOptions.insert.Goals as goal

pub returns-clause-ok : goal.returns-clause-ok
returns-clause-ok c =
    subst (λ old. Sets old c.insert.new.self.keys c.args.atom) c.self.view_is
    (set_by_order c.self.inside.enabled.keys c.insert.new.self.keys c.args.atom c.in_ok-insert.ensures.updates.0)
