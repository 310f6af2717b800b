use Rattle.std.proofs.Common.{refl}
use Rattle.hir_collector_start.proofs.crate_top.top_data.Goals as goal

pub returns : goal.returns
returns c = record {
  value =
      rw (
        c.in_ok-add_tools-2.ensures.ok,
        c.in_ok-add_tools.ensures.ok,
        c.in_ok-add_features.ensures.ok,
        c.set_recursion_limit.ensures.value,
        c.set_no_std.ensures.value,
        c.set_no_core.ensures.value,
        c.set_rustc_coherence_is_core.ensures.value,
        c.new-crate_data.ensures.value,
        c.recursion_limit.ensures.value,
        c.says.ensures.value,
        c.says-2.ensures.value,
        c.says-3.ensures.value,
        c.as_slice.ensures.value,
        c.as_slice-2.ensures.value,
        c.as_slice-3.ensures.value,
        c.in_ok-listed.ensures.value,
        c.in_ok-listed-2.ensures.value,
        c.in_ok-builtin_tools.ensures.value,
        c.as_slice-attrs.ensures.value,
      ) refl;
}
