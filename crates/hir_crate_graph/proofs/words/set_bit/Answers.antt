use Rattle.hir_crate_graph.proofs.Rows.{has_bit-set}
use Rattle.hir_crate_graph.proofs.words.set_bit.Goals as goal

pub returns : goal.returns
returns c = record { value = λ n. has_bit-set c.args.words.now c.args.place n c.requires.within }
