-- The answers of several maps are joined one after another.
use Rattle.hir_def_map_laws.proofs.Holders.{asks_holder, asks_preludes, start-of_crate}
use Rattle.hir_def_map_laws.proofs.blocks_ask_their_holders.Goals as goal

pub returns : goal.returns
returns c = record {
  holders = λ maps asking from holder path. asks_holder maps asking path.kind path.segments from holder;
  inner = λ maps asking from path. asks_preludes maps asking path.kind path.segments from;
  alone = λ maps asking from path. start-of_crate maps asking from path.kind path.segments;
}
