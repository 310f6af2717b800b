-- The set is asked by the order, which ties the same options alone.
use Rattle.std.proofs.Common.{◌∙◌, ap}
use Rattle.hir_base.specs.CfgOptions.{is_set}
use Rattle.hir_base.proofs.AtomLemmas.{found_by_order}
use Rattle.hir_base.proofs.cfg_options.CfgOptions.check_atom.Goals as goal

pub returns : goal.returns
returns c = record {
  value = c.contains.ensures ∙ (found_by_order c.self.inside.enabled.keys c.args.atom.now ∙ ap (λ options. is_set options c.args.atom.now) c.self.view_is);
}
