-- After the call no entry has the path, so the one that went was the only one.
use Rattle.std.proofs.Common.{◌∙◌, ap}
use Rattle.std.specs.Ordering.{nat_cmp}
use Rattle.std.specs.Cmp.Lexicographic.{slice_cmp}
use Rattle.std.specs.BTreeMap.{is_at}
use Rattle.hir_session_state.specs.Files.{Files, without_file}
use Rattle.hir_session_sources.proofs.EntryLemmas.{remove_entry-filter}
use Rattle.hir_session_sources.proofs.files.Files.remove.Goals as goal

pub returns : goal.returns
returns c =
    let left = c.remove.ensures.updates.1 in
    record {
      value = c.remove.ensures.entries
          ∙ remove_entry-filter (is_at (slice_cmp nat_cmp c.args.path.now)) c.self.inside.by_path.entries (rw c.remove.ensures.entries at left)
          ∙ ap (λ (files : Files). without_file files c.args.path.now) c.self.view_is;
    }
