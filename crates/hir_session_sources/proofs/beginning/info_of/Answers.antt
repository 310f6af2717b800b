-- The parts are those that were handed in.
use Rattle.std.proofs.Common.{refl}
use Rattle.hir_session_sources.proofs.beginning.info_of.Goals as goal

pub returns : goal.returns
returns c = rw c.new.ensures.value (record {
  made = record {
    root = c.in_ok-clone.ensures.value;
    is_proc_macro = refl;
    config = rw c.as_slice.ensures.value at c.in_ok-config.ensures.config;
  };
  number = refl;
})
