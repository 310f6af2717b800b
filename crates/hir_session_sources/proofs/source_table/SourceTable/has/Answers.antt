-- What is found has a source.
use Rattle.std.proofs.Common.{◌∙◌, ap, sym, Bor, Option, option_map}
use Rattle.std.specs.Prelude.{is_some}
use Rattle.hir_session_state.specs.HirItemTree.Source.{SourceValue, source_view}
use Rattle.hir_session_state.specs.HirItemTree.declared.source.Source.{Source}
use Rattle.hir_session_state.specs.HirTables.SourcePlaces.{expansion, expansion_value, file, source_value}
use Rattle.hir_session_state.specs.HirTables.declared.source_place.SourcePlace.{SourcePlace}
use Rattle.hir_session_state.specs.HirMessages.Edits.{EntryValue}
use Rattle.hir_session_sources.specs.EditValues.{entry_value}
use Rattle.hir_session_sources.specs.declared.entry.Entry.{Entry}
use Rattle.hir_session_state.specs.Entries.{source_of}
use Rattle.hir_session_state.specs.SourceTable.{SourceTable, source_at}
use Rattle.hir_session_sources.proofs.BlockLemmas.{there_of}
use Rattle.hir_session_sources.proofs.source_table.SourceTable.has.Goals as goal

pub returns-in-File : goal.returns-in-File
returns-in-File c = record {
  value = c.is_some.ensures
      ∙ there_of (λ (s : Bor Source). source_view s.now) c.get.result
      ∙ ap (λ (o : Option SourceValue). is_some o) c.get.ensures.value
      ∙ ap (λ (t : SourceTable). is_some (source_at t (file c.in-File.path.now))) c.self.view_is
      ∙ ap (λ (p : SourcePlace). is_some (source_at c.args.self.now (source_value p))) (sym c.in-File.is);
}

pub returns-in-Expansion : goal.returns-in-Expansion
returns-in-Expansion c = record {
  value = c.is_some-in-Expansion.ensures
      ∙ there_of (λ (e : Bor Entry). entry_value e.now) c.get-in-Expansion.result
      ∙ there_of (λ (e : EntryValue). e.source) (option_map (λ (e : Bor Entry). entry_value e.now) c.get-in-Expansion.result)
      ∙ ap (λ (o : Option EntryValue). is_some (source_of o)) c.get-in-Expansion.ensures.value
      ∙ ap (λ (t : SourceTable). is_some (source_at t (expansion (expansion_value c.in-Expansion.key.now)))) c.self.view_is
      ∙ ap (λ (p : SourcePlace). is_some (source_at c.args.self.now (source_value p))) (sym c.in-Expansion.is);
}
