use Rattle.std.proofs.Common.{refl}
use Rattle.hir_collector_state.specs.HirItemTree.UseTree.{use_tree_view}
use Rattle.hir_collector_state.specs.HirCollectorRules.TreeReads.{head_of}
use Rattle.hir_collector_state.specs.HirCollectorRules.Steps.{reaches_imports}
use Rattle.hir_collector_state.proofs.Made.{made}
use Rattle.hir_collector_state.proofs.Noted.{noted_follow}
use Rattle.hir_collector_macros.proofs.imports.reach_use.Goals as goal

pub returns-clause-ok : goal.returns-clause-ok
returns-clause-ok c = λ env finished. record {
  step = λ done passed rest.
      made (reaches_imports c.args.site.now (head_of c.args.head) (use_tree_view c.args.tree.now) rest)
      (record { done = done; next = refl; enabled = c.requires.enabled; passed = passed }) tt tt
      (rw (c.in_ok-tick.ensures.ok, c.in_ok-reach_all.ensures.ok, c.in_ok-list_use.ensures.ok, c.in_ok-imports.ensures.value, c.module_id.ensures.value) refl);
}

pub returns-clause-noted : goal.returns-clause-noted
returns-clause-noted c = noted_follow c.in_ok-list_use.ensures.noted (noted_follow c.in_ok-reach_all.ensures.noted c.in_ok-tick.ensures.noted)
