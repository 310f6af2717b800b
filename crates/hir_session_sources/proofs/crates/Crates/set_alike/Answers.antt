-- Each crate depends on what it depended on, so the lists stay.
use Rattle.std.specs.Prelude.{slice_set}
use Rattle.std.proofs.Common.{arith, ◌≡◌}
use Rattle.std.proofs.lemmas.Grind.{common_steps}
use Rattle.hir_session_state.specs.HirCollectorRules.Workspace.{config_view}
use Rattle.hir_session_state.specs.Crates.{with_config}
use Rattle.hir_session_sources.proofs.Transitive.{listed-alike}
use Rattle.hir_session_sources.proofs.crates.Crates.set_alike.Goals as goal

pub invariant_of-self : goal.invariant_of-self
invariant_of-self c =
    let config = config_view c.args.config in
    let are : slice_set c.self.inside.list.items c.args.k c.set_config.new.self ≡ with_config c.args.self.now c.args.k config = grind (arith, common_steps) in
    rw are (listed-alike c.args.self.now c.self.inside.transitive c.args.k config c.requires.within c.requires.same
    (rw c.self.view_is at c.self.invariant))
