use Rattle.std.proofs.Common.{sym}
use Rattle.hir_wire.proofs.LineLemmas.{line_says}
use Rattle.hir_wire.proofs.read.line.read_command.Goals as goal

-- a line with a value that has no float means what its fields do
pub returns : goal.returns
returns c = record { value = line_says _ _ _ c.in_ok-value.ensures.value (sym c.if-holds_float.ensures.value) c.read_value.ensures.value }
