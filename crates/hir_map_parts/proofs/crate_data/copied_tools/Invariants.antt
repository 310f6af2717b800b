use Rattle.std.proofs.Common.{◌≡◌, take}
use Rattle.hir_map_parts.proofs.crate_data.copied_tools.Given as goal

abbrev pub invariant-loop-tool : goal.invariant-loop-tool
invariant-loop-tool l = l.copy.items ≡ take l.tool-index l.tools
