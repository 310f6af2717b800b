use Rattle.std.proofs.Common.{◌≡◌, ◌++◌, length, string_bytes}
use Rattle.std.specs.List.{join_with_byte}
use Rattle.hir_ids.specs.Text.{nows}
use Rattle.hir_base.proofs.FileLemmas.{tail}
use Rattle.hir_base.proofs.file_path.join.Given as goal

abbrev pub invariant-rest : goal.invariant-rest
invariant-rest l = string_bytes l.text ++ tail (nows l.left) ≡ join_with_byte 47 (nows l.fn.segments)

abbrev pub decreases-rest : goal.decreases-rest
decreases-rest l = length l.left
