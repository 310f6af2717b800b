-- It is found by what its key says.
use Rattle.std.proofs.Common.{◌∙◌, ap, Some}
use Rattle.hir_session_state.specs.HirTables.SourcePlaces.{expansion_value}
use Rattle.hir_session_state.specs.HirMessages.Edits.{EntryValue}
use Rattle.hir_session_state.specs.Entries.{Entries, entry_at}
use Rattle.hir_session_sources.proofs.TreeLemmas.{found_by_value}
use Rattle.hir_session_sources.proofs.entries.Entries.get.Goals as goal

pub returns-in-Some : goal.returns-in-Some
returns-in-Some c = record {
  value = ap (λ (e : EntryValue). Some e) c.entry.ensures.value ∙ c.in-Some.ensures.value ∙ found_by_value c.args.key.now c.self.inside.by_key.entries
      ∙ ap (λ (es : Entries). entry_at es (expansion_value c.args.key.now)) c.self.view_is;
}

pub returns-in-None : goal.returns-in-None
returns-in-None c = record {
  value =
      c.in-None.ensures.value ∙ found_by_value c.args.key.now c.self.inside.by_key.entries ∙ ap (λ (es : Entries). entry_at es (expansion_value c.args.key.now))
      c.self.view_is;
}
