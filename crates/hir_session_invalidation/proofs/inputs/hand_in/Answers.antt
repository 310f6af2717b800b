-- The crate has the data for which what is kept was lowered.
use Rattle.std.proofs.Common.{◌≡◌, ◌∙◌, ap, sym, subst, List}
use Rattle.hir_session_state.specs.HirCollectorRules.Workspace.{ConfigValue, config_view}
use Rattle.hir_session_state.specs.Crates.{CrateValue, crate_in, with_config}
use Rattle.hir_session_state.proofs.Renewed.{own_crate}
use Rattle.hir_session_sources.specs.LoweredTrees.{AreLoweredAnew}
use Rattle.hir_session_invalidation.proofs.inputs.hand_in.Goals as goal

pub returns-clause-ok : goal.returns-clause-ok
returns-clause-ok c =
    let config : ConfigValue = config_view c.args.config in
    let given : config_view c.into_config.result ≡ config = c.into_config.ensures.value ∙ ap (λ (i : CrateValue). i.config) c.in_ok-info.ensures.value in
    c.in_ok-set.ensures.ok ∙ ap (with_config c.args.crates.now c.args.krate.0) given

pub returns-clause-lowered : goal.returns-clause-lowered
returns-clause-lowered c =
    let k = c.args.krate.0 in
    let config : ConfigValue = config_view c.args.config in
    let given : config_view c.into_config.result ≡ config = c.into_config.ensures.value ∙ ap (λ (i : CrateValue). i.config) c.in_ok-info.ensures.value in
    let handed : c.set.new.self ≡ with_config c.args.crates.now k config =
    c.in_ok-set.ensures.ok ∙ ap (with_config c.args.crates.now k) given in
    let own : crate_in c.set.new.self k ≡ c.in_ok-info.info =
    ap (λ (crates : List CrateValue). crate_in crates k) handed ∙ own_crate c.args.crates.now k config c.requires.within ∙ sym c.in_ok-info.ensures.value in
    subst (λ (info : CrateValue). AreLoweredAnew info c.args.sources.now c.args.krate c.args.trees.now c.replace_lowered.new.self) (sym own)
    (c.replace_lowered.ensures.anew c.in_ok-info.info c.args.sources.now c.in_ok-lowered.ensures.lowered)
