-- The list of one more crate is added.
use Rattle.std.proofs.Common.{◌<◌, ◌∙◌, List, length, map, get_or, ap, sym, arith}
use Rattle.hir_session_state.specs.HirCollectorRules.Workspace.{ConfigValue, earlier}
use Rattle.hir_session_state.specs.HirCollectorRules.declared.source_database.Dependency.{Dependency}
use Rattle.hir_session_state.specs.Crates.{CrateValue}
use Rattle.hir_session_sources.proofs.Transitive.{listed-more}
use Rattle.hir_session_sources.proofs.crates.Crates.new.Goals as goal

pub loop-info-preserved : goal.loop-info-preserved
loop-info-preserved c =
    let within : c.loop-info.info-index < length c.args.list.items = omega (arith, c.loop-info-test.true, c.deref-info-items.ensures.len) in
    listed-more c.args.list.items c.loop-info.transitive c.add_transitive.new.transitive c.loop-info.info-index c.info-item.result c.info-item.result within
    (c.info-item.is ∙ ap (λ (xs : List CrateValue). get_or xs c.loop-info.info-index c.info-item.result) c.deref-info-items.ensures.value)
    c.loop-info.invariant
    (λ direct are is. c.in_ok-add_transitive.ensures.added direct are
    (is ∙ ap (λ (v : ConfigValue). earlier (length c.loop-info.transitive) (map (λ (d : Dependency). d.krate) v.dependencies)) (sym c.config.ensures.value)))
    c.in_ok-add_transitive.ensures.longer
