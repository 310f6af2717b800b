-- First no enum gains variants, and then nothing but enums does.
use Rattle.hir_def_map_laws.proofs.EnumsGrow.{unstopped_reads}
use Rattle.hir_def_map_laws.proofs.unstopped_reads_decide.Goals as goal

pub returns : goal.returns
returns c = record { paths = unstopped_reads }
