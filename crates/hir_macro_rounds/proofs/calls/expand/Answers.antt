-- What waits is expanded, unless the source that writes the macro has no number.
use Rattle.hir_mod_collector.proofs.HirCollectorRules.Numbers.{tables_stay}
use Rattle.hir_mod_collector.specs.HirCollectorRules.UnknownSources.{of_itself}
use Rattle.hir_macro_rounds.proofs.calls.expand.Goals as goal

-- the source has none
pub returns-then-not-is_meant-clause-kept : goal.returns-then-not-is_meant-clause-kept
returns-then-not-is_meant-clause-kept g c = tables_stay c.args.locations.now

pub returns-then-not-is_meant-clause-unknown : goal.returns-then-not-is_meant-clause-unknown
returns-then-not-is_meant-clause-unknown g c = λ h. record {
  place = c.args.i;
  call = c.args.call.now;
  makro = c.args.makro;
  called = c.requires.called;
  shallow = c.requires.shallow;
  unknown = of_itself (c.is_meant.ensures.unknown c.if-not-is_meant.true);
}

-- it has one
pub expand_known-requires-clause-known : goal.expand_known-requires-clause-known
expand_known-requires-clause-known g c = c.is_meant.ensures.meant c.if-not-is_meant.false
