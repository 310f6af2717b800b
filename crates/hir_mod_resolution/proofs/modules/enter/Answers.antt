use Rattle.std.proofs.Common.{◌≡◌, refl, arith, append-nil}
use Rattle.hir_collector_state.specs.HirDefMapRules.State.{with_extern_block}
use Rattle.hir_collector_state.specs.HirCollectorRules.ItemIds.{extern_block_id}
use Rattle.hir_collector_state.specs.HirCollectorRules.State.{core_in, counted, with_map}
use Rattle.hir_collector_state.specs.HirCollectorRules.TreeReads.{head_of}
use Rattle.hir_collector_state.specs.HirCollectorRules.Steps.{enters_block}
use Rattle.hir_collector_state.proofs.Made.{made}
use Rattle.hir_collector_state.proofs.HirCollectorRules.Grows.{longer_by_block}
use Rattle.hir_collector_state.proofs.Noted.{noted_follow}
use Rattle.hir_mod_resolution.proofs.modules.enter.Goals as goal

pub returns-clause-ok : goal.returns-clause-ok
returns-clause-ok c = λ env finished items. record {
  step = λ done passed rest.
      made (enters_block c.args.site.now (head_of c.args.head) _ rest) (record { done = done; next = refl; enabled = c.requires.enabled; passed = passed }) tt
      tt
      (rw (append-nil, c.in_ok-tick.ensures.ok, c.in_ok-list_extern_block.ensures.ok, c.module_id.ensures.value, c.in_ok-dir.ensures.value) refl);
}

pub returns-clause-within : goal.returns-clause-within
returns-clause-within c = λ tables.
    let listed : (core_in c.tick.new.self) ≡ counted
    (with_map (core_in c.args.run.now) (with_extern_block (core_in c.args.run.now).map c.args.site.now.home
    (extern_block_id (core_in c.args.run.now).map c.args.site.now c.args.head.id))) =
    rw (c.in_ok-tick.ensures.ok, c.in_ok-list_extern_block.ensures.ok, c.module_id.ensures.value) refl in (
      record {
        there =
            longer_by_block (core_in c.args.run.now) (core_in c.tick.new.self) c.args.site.now.home
            (extern_block_id (core_in c.args.run.now).map c.args.site.now c.args.head.id) listed c.requires.in_range;
        tree = refl;
        file = refl;
        deep = rw c.in_ok-dir.ensures.value (omega arith);
      },
      refl,
    )

pub returns-clause-noted : goal.returns-clause-noted
returns-clause-noted c = noted_follow c.in_ok-list_extern_block.ensures.noted c.in_ok-tick.ensures.noted
