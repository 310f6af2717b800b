-- All but the options were found the same.
use Rattle.std.proofs.Common.{rules}
use Rattle.hir_session_sources.proofs.same_config.same_config.Goals as goal

pub returns : goal.returns
returns c = record {
  exact = (
    λ on. record { edition = search rules; attributes = search rules; dependencies = search rules; options = c.same.ensures.value.0 on },
    λ is. c.same.ensures.value.1 is.options,
  );
}
