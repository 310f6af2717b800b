-- After the call no entry has the key, so the one that went was the only one.
use Rattle.std.proofs.Common.{◌∙◌, ap}
use Rattle.std.specs.BTreeMap.{is_at}
use Rattle.hir_session_state.specs.HirBase.contracts.macro_kind.ExpansionKeyOrd.TheImpl as key_order
use Rattle.hir_session_state.specs.HirTables.SourcePlaces.{expansion_value}
use Rattle.hir_session_state.specs.Entries.{Entries, by_value, without_entry}
use Rattle.hir_session_sources.proofs.TreeLemmas.{without_by_value}
use Rattle.hir_session_sources.proofs.EntryLemmas.{remove_entry-filter}
use Rattle.hir_session_sources.proofs.entries.Entries.remove.Goals as goal

pub returns : goal.returns
returns c =
    let left = c.remove.ensures.updates.1 in
    record {
      value = ap by_value (c.remove.ensures.entries
          ∙ remove_entry-filter (is_at (key_order.ghosts.cmp c.args.key.now)) c.self.inside.by_key.entries (rw c.remove.ensures.entries at left))
          ∙ without_by_value c.args.key.now c.self.inside.by_key.entries
          ∙ ap (λ (es : Entries). without_entry es (expansion_value c.args.key.now)) c.self.view_is;
    }
