use Rattle.hir_session_laws.proofs.SparedCrates.{block_edits_spare_the_crate as spared}
use Rattle.hir_session_laws.proofs.laws.block_edits_spare_the_crate.Goals as goal

pub returns : goal.returns
returns c = record { law = spared c.crates_ask_for_no_block.ensures.none }
