-- At which number of a list does a source stand? No public clause speaks of this.
use Rattle.std.specs.Prelude.{ℕ, ◌+◌, ◌*◌}
use Rattle.hir_session_state.specs.declared.source_number.SourceNumber.{SourceNumber}
use Rattle.hir_session_state.specs.declared.source_number.SourceNumber.TheVariants.{File, Block, Expansion}

-- one of its own for each
abbrev pub number_code : SourceNumber → ℕ
number_code (File id) = id.0 * 3
number_code (Block id) = id.0 * 3 + 1
number_code (Expansion id) = id.0 * 3 + 2
