use Rattle.std.proofs.Common.{refl}
use Rattle.hir_collector_state.specs.HirCollectorRules.TreeReads.{head_of}
use Rattle.hir_collector_state.specs.HirCollectorRules.Steps.{reaches_call}
use Rattle.hir_collector_state.proofs.Made.{made}
use Rattle.hir_collector_state.proofs.Noted.{noted_follow}
use Rattle.hir_mod_collector.proofs.mod_collector.reach_call.Goals as goal

pub returns-clause-ok : goal.returns-clause-ok
returns-clause-ok c = λ env finished. record {
  step = λ done passed rest.
      made (reaches_call c.args.site.now (head_of c.args.head) c.args.path.now rest)
      (record { done = done; next = refl; enabled = c.requires.enabled; passed = passed }) tt tt
      (rw (c.in_ok-tick.ensures.ok, c.in_ok-await_call.ensures.ok, c.in_ok-clone.ensures.value, c.in_ok-clone-2.ensures.value) refl);
}

pub returns-clause-noted : goal.returns-clause-noted
returns-clause-noted c = noted_follow c.in_ok-await_call.ensures.noted c.in_ok-tick.ensures.noted
