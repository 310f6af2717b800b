-- Ordered options are equal just where the same are set, and then as many.
use Rattle.std.proofs.Common.{◌∙◌, ap, sym, subst, length}
use Rattle.std.specs.Bool.{Decides}
use Rattle.hir_base.specs.CfgOptions.{SetAlike}
use Rattle.hir_base.proofs.AtomLemmas.{keys_of_alike, options_Decides, alike_as_seen, differ_Decides}
use Rattle.hir_base.proofs.cfg_options.CfgOptions.same.Goals as goal

pub returns-else-len : goal.returns-else-len
returns-else-len c = record {
  value = alike_as_seen _ _ _ _ _ c.self.view_is c.other.view_is
      (differ_Decides c.len.result c.len-2.result c.if-len.false
      (λ alike. c.len.ensures.len ∙ (ap length (keys_of_alike c.self.inside.enabled c.other.inside.enabled c.len.ensures.ordered c.len-2.ensures.ordered alike)
      ∙ sym c.len-2.ensures.len)));
}

pub returns-then-len : goal.returns-then-len
returns-then-len c = record {
  value = alike_as_seen c.eq.result _ _ _ _ c.self.view_is c.other.view_is
      (subst (λ r. Decides r (SetAlike c.self.inside.enabled.keys c.other.inside.enabled.keys)) (sym c.eq.ensures)
      (options_Decides c.self.inside.enabled c.other.inside.enabled c.len.ensures.ordered c.len-2.ensures.ordered));
}
