use Rattle.std.proofs.Common.{rules, List, ℕ, false, ◌≡◌, ◌∙◌, ◌+◌, ◌<◌, length, sym, ap, arith}
use Rattle.hir_crate_graph.specs.Dependencies.{has_late}
use Rattle.hir_collector_rules.specs.Workspace.{direct_by, named_by}
use Rattle.hir_collector_rules.specs.declared.source_database.Config.{Config}
use Rattle.hir_collector_fixtures.specs.Crates.{config_in}
use Rattle.hir_collector_fixtures.proofs.Transitive.{are_theirs, direct_of, named_of, one_longer}
use Rattle.hir_collector_fixtures.proofs.crates.transitive.Goals as goal

pub loop-config-preserved : goal.loop-config-preserved
loop-config-preserved c =
    let configs = c.args.configs.now.items in
    let walked = c.deref-config-items.result.now in
    let same : walked ≡ configs = c.deref-config-items.ensures.value in
    let i = c.loop-config.config-index in
    let count : length c.loop-config.found ≡ i = c.loop-config.invariant.count in
    let named : named_by (config_in configs) i ≡ c.as_slice.result.now =
    ap (λ (cs : List Config). named_by (config_in cs) i) (sym same)
    ∙ named_of walked i c.config-item.result c.loop-config-test.true c.config-item.is ∙ sym c.in_ok-crates.ensures.value ∙ sym c.as_slice.ensures.value in
    let on_time : has_late i c.as_slice.result.now ≡ false =
    ap (λ (n : ℕ). has_late n c.as_slice.result.now) (sym count) ∙ c.in_ok-push.ensures.added.in_order in
    let direct : direct_by (config_in configs) i ≡ c.as_slice.result.now = direct_of configs i c.as_slice.result.now named on_time in
    let longer = one_longer c.loop-config.found c.push.new.self c.as_slice.result.now c.in_ok-push.ensures.added in
    record {
      are = c.in_ok-push.ensures.transitive (direct_by (config_in configs)) c.loop-config.invariant.are (ap (direct_by (config_in configs)) count ∙ direct);
      count = longer ∙ ap (λ n. n + 1) count;
    }

pub returns : goal.returns
returns c = record {
  value = are_theirs c.args.configs.now.items c.loop-config.found c.loop-config.invariant.are
      (omega (
        arith,
        c.loop-config.invariant.count,
        c.loop-config-test.false,
        c.loop-config.auto.config-index-end,
        ap (λ (cs : List Config). length cs)
            c.deref-config-items.ensures.value,
      ));
}
