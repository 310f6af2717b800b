use Rattle.std.proofs.Common.{refl}
use Rattle.hir_collector_state.specs.HirCollectorRules.TreeReads.{head_of}
use Rattle.hir_collector_state.specs.HirCollectorRules.Steps.{reaches_crate}
use Rattle.hir_collector_state.proofs.Made.{made}
use Rattle.hir_collector_state.proofs.Noted.{noted_follow}
use Rattle.hir_collector_macros.proofs.imports.reach_extern_crate.Goals as goal

pub returns-clause-ok : goal.returns-clause-ok
returns-clause-ok c = λ env. record {
  step = λ done passed rest.
      made (reaches_crate c.args.site.now (head_of c.args.head) c.args.name.now c.args.alias.now rest)
      (record { done = done; next = refl; enabled = c.requires.enabled; passed = passed }) tt tt
      (rw (
        c.in_ok-tick.ensures.ok,
        c.in_ok-list_extern_crate.ensures.ok,
        c.in_ok-reach.ensures.ok,
        c.in_ok-use_macros.ensures.ok,
        c.in_ok-add_extern.ensures.ok,
        c.in_ok-import.ensures.value,
        c.module_id.ensures.value,
      ) refl);
}

pub returns-clause-noted : goal.returns-clause-noted
returns-clause-noted c =
    noted_follow c.in_ok-add_extern.ensures.noted
    (noted_follow c.in_ok-use_macros.ensures.noted
    (noted_follow c.in_ok-reach.ensures.noted (noted_follow c.in_ok-list_extern_crate.ensures.noted c.in_ok-tick.ensures.noted)))
