-- The attributes were found the same.
use Rattle.std.proofs.Common.{rules}
use Rattle.hir_session_sources.proofs.same_config.lower_alike.Goals as goal

pub returns : goal.returns
returns c = record {
  exact = (
    λ on. record { attributes = search rules; options = c.same.ensures.value.0 on },
    λ is. c.same.ensures.value.1 is.options,
  );
}
