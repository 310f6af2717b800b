use Rattle.std.proofs.Common.{refl}
use Rattle.hir_collector_state.specs.HirCollectorRules.TreeReads.{head_of}
use Rattle.hir_collector_state.specs.HirCollectorRules.Steps.{lists_constant}
use Rattle.hir_collector_state.proofs.Made.{made}
use Rattle.hir_collector_state.proofs.Noted.{noted_follow}
use Rattle.hir_mod_collector.proofs.mod_collector.list_const.Goals as goal

pub returns-clause-ok : goal.returns-clause-ok
returns-clause-ok c = λ env finished. record {
  step = λ done passed rest.
      made (lists_constant c.args.site.now (head_of c.args.head) rest) (record { done = done; next = refl; enabled = c.requires.enabled; passed = passed }) tt
      tt
      (rw (c.in_ok-tick.ensures.ok, c.in_ok-list_unnamed_const.ensures.ok, c.container.ensures.value) refl);
}

pub returns-clause-noted : goal.returns-clause-noted
returns-clause-noted c = noted_follow c.in_ok-list_unnamed_const.ensures.noted c.in_ok-tick.ensures.noted
