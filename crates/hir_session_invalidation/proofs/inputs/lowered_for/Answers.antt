-- Where sources have the same under the crate as before, what is kept of them is right.
use Rattle.std.proofs.Common.{◌≡◌, ◌∙◌, ap, subst}
use Rattle.hir_session_state.specs.HirCollectorRules.Workspace.{ConfigValue, config_view}
use Rattle.hir_session_state.specs.Crates.{CrateValue, crate_in}
use Rattle.hir_session_sources.specs.LoweredTrees.{LowerAlike}
use Rattle.hir_session_sources.proofs.Lowering.{none_lowered, trees_alike}
use Rattle.hir_session_invalidation.proofs.inputs.lowered_for.Goals as goal

pub returns-then-lower_alike : goal.returns-then-lower_alike
returns-then-lower_alike c =
    let before : CrateValue = crate_in c.args.crates.now c.args.krate.0 in
    let found : c.in-Some.before.now ≡ before = c.in-Some.ensures.there in
    let same : LowerAlike (config_view c.config.result.now) (config_view c.config-in-Some.result.now) = c.lower_alike.ensures.exact.0 c.if-lower_alike.true in
    let alike : LowerAlike before.config c.args.info.now.config =
    subst (λ (v : ConfigValue). LowerAlike before.config v) c.config-in-Some.ensures.value
    (subst (λ (v : ConfigValue). LowerAlike v (config_view c.config-in-Some.result.now))
    (c.config.ensures.value ∙ ap (λ (i : CrateValue). i.config) found) same) in
    record {
      lowered = none_lowered c.args.info.now c.args.sources.now c.args.krate c.args.trees.now c.new.result.items c.new.ensures.items
          (λ p tree is. c.requires.current.each p c.args.krate tree is
          ∙ trees_alike before c.args.info.now c.args.sources.now p c.requires.same alike);
    }
