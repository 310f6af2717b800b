-- The crate is made with the number that its root file got.
use Rattle.hir_session_sources.proofs.Start.{added_by}
use Rattle.hir_session_sources.proofs.beginning.add_crate.Goals as goal

pub returns : goal.returns
returns c = record {
  added = added_by _ _ _ _ _ c.in_ok-info.info c.in_ok-info.ensures.made c.in_ok-file.file _ c.in_ok-clone.ensures.value c.in_ok-file.ensures.found
      c.in_ok-info.ensures.number c.in_ok-push.ensures.items c.in_ok-file.ensures.kept c.in_ok-file.ensures.others;
}
