use Rattle.std.proofs.Common.{None, Some}
use Rattle.hir_tables.proofs.PlainLemmas.{number_means}
use Rattle.hir_tables.proofs.TableLemmas.{of_blocks, block_ids}
use Rattle.hir_tables.proofs.tables.Tables.block_number.Goals as goal

pub returns-in-Some-clause-value : goal.returns-in-Some-clause-value
returns-in-Some-clause-value c =
    rw (← c.self.view_is) (number_means of_blocks block_ids c.self.inside.blocks c.args.place.now (Some c.in-Some.number) c.in-Some.ensures.value)

pub returns-in-None-clause-value : goal.returns-in-None-clause-value
returns-in-None-clause-value c =
    rw (← c.self.view_is) (number_means of_blocks block_ids c.self.inside.blocks c.args.place.now None c.in-None.ensures.value)
