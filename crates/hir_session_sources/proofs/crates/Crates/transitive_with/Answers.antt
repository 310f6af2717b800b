-- The lists of those before it are kept; its own is added, and those of the crates behind it.
use Rattle.std.specs.Prelude.{slice_index_or}
use Rattle.std.proofs.Common.{◌≡◌, ◌+◌, ◌<◌, ◌∙◌, List, length, map, ap, sym, subst, arith}
use Rattle.hir_session_state.specs.HirCollectorRules.Workspace.{ConfigValue, config_view, earlier}
use Rattle.hir_session_state.specs.HirCollectorRules.declared.source_database.Dependency.{Dependency}
use Rattle.hir_session_state.specs.Crates.{CrateValue, with_config}
use Rattle.hir_session_sources.proofs.Transitive.{AreListed, behind, listed-before, listed-behind, listed-end, listed-own}
use Rattle.hir_session_sources.proofs.crates.Crates.transitive_with.Goals as goal

pub loop-info-init : goal.loop-info-init
loop-info-init c =
    let config = config_view c.args.config.now in
    let before = listed-before c.args.self.now c.self.inside.transitive c.in_ok-transitive.transitive c.args.k config c.requires.within
    (rw c.self.view_is at c.self.invariant) c.in_ok-transitive.ensures.value c.in_ok-transitive.ensures.transitive in
    subst (AreListed (with_config c.args.self.now c.args.k config) c.add_transitive.new.transitive) (omega arith)
    (listed-own c.args.self.now c.in_ok-transitive.transitive c.add_transitive.new.transitive c.args.k config c.requires.within before
    (λ direct are is. c.in_ok-add_transitive.ensures.added direct are is) c.in_ok-add_transitive.ensures.longer)

pub loop-info-preserved : goal.loop-info-preserved
loop-info-preserved c =
    let crates = c.as_slice.ensures.value ∙ c.self.view_is in
    listed-behind c.args.self.now c.loop-info.transitive c.add_transitive-in-loop-info.new.transitive c.args.k c.loop-info.info-index (config_view c.args.config.now)
    c.info-item.result c.info-item.result (subst (λ (cs : List CrateValue). c.loop-info.info-index < length (behind cs c.args.k)) crates c.loop-info-test.true)
    (subst (λ (cs : List CrateValue). c.info-item.result ≡ slice_index_or (behind cs c.args.k) c.loop-info.info-index c.info-item.result) crates c.info-item.is)
    c.loop-info.invariant
    (λ direct are is. c.in_ok-add_transitive-2.ensures.added direct are
    (is ∙ ap (λ (v : ConfigValue). earlier (length c.loop-info.transitive) (map (λ (d : Dependency). d.krate) v.dependencies)) (sym c.config.ensures.value)))
    c.in_ok-add_transitive-2.ensures.longer
