-- The table of the crate has one less, where there is one.
use Rattle.std.proofs.Common.{◌∙◌, ap}
use Rattle.hir_session_sources.specs.BlockTables.{left_by}
use Rattle.hir_session_sources.proofs.BlockLemmas.{left_there}
use Rattle.hir_session_sources.proofs.blocks.remove_of_crate.Goals as goal

pub returns-in-Some : goal.returns-in-Some
returns-in-Some c = record {
  value =
      left_there c.args.krate c.args.blocks.now.entries (c.get_mut.follows.lender c.remove.new.self).entries c.in-Some.own.now c.remove.new.self
      c.args.steps.now
      c.get_mut.ensures.ordered c.in-Some.ensures.value (c.get_mut.follows.holds c.remove.new.self).0 c.remove.ensures.value;
}

pub returns-in-None : goal.returns-in-None
returns-in-None c = record {
  value = ap (λ m. m.entries) c.get_mut.follows.holds-at-none ∙ ap (left_by c.args.blocks.now.entries c.args.krate c.args.steps.now) c.in-None.ensures.value;
}
