-- The copy has the same parts under the same word.
use Rattle.std.proofs.Common.{◌∙◌, ap, sym}
use Rattle.hir_base.specs.Cfg.{all, any, unless, cfg_view}
use Rattle.hir_base.proofs.CfgLemmas.{cfg_view-all, cfg_view-any, cfg_view-not}
use Rattle.hir_base.proofs.cfg.+clone.Goals as goal

pub CfgExpr::clone-returns-in_ok-clone_all-in-All : goal.CfgExpr::clone-returns-in_ok-clone_all-in-All
CfgExpr::clone-returns-in_ok-clone_all-in-All t c = record {
  value = cfg_view-all c.in_ok-clone_all-in-All.field-0
      ∙ (ap all c.in_ok-clone_all-in-All.ensures.value ∙ sym (ap cfg_view c.in-All.is ∙ cfg_view-all c.in-All.parts));
}

pub CfgExpr::clone-returns-in_ok-clone_all-in-Any : goal.CfgExpr::clone-returns-in_ok-clone_all-in-Any
CfgExpr::clone-returns-in_ok-clone_all-in-Any t c = record {
  value = cfg_view-any c.in_ok-clone_all-in-Any.field-0
      ∙ (ap any c.in_ok-clone_all-in-Any.ensures.value ∙ sym (ap cfg_view c.in-Any.is ∙ cfg_view-any c.in-Any.parts));
}

pub CfgExpr::clone-returns-in_ok-new-in-Not : goal.CfgExpr::clone-returns-in_ok-new-in-Not
CfgExpr::clone-returns-in_ok-new-in-Not t c = record {
  value = cfg_view-not c.in_ok-new-in-Not.field-0
      ∙ (ap (λ p. unless (cfg_view p)) c.in_ok-new-in-Not.ensures.ok
      ∙ (ap unless (c.in_ok-clone-in-Not.ensures.value ∙ ap cfg_view c.deref.ensures)
      ∙ sym (ap cfg_view c.in-Not.is ∙ cfg_view-not c.in-Not.part)));
}
