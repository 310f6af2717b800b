-- It stands under what its key says.
use Rattle.std.proofs.Common.{◌∙◌, ap}
use Rattle.hir_session_state.specs.HirTables.SourcePlaces.{expansion_value}
use Rattle.hir_session_sources.specs.EditValues.{entry_value}
use Rattle.hir_session_state.specs.Entries.{Entries, by_value, with_entry}
use Rattle.hir_session_sources.proofs.TreeLemmas.{set_by_value}
use Rattle.hir_session_sources.proofs.entries.Entries.set.Goals as goal

pub returns-clause-ok : goal.returns-clause-ok
returns-clause-ok c =
    ap by_value c.in_ok-insert.ensures.entries
    ∙ set_by_value c.self.inside.by_key.entries c.args.key (entry_value c.args.entry)
    ∙ ap (λ (es : Entries). with_entry es (expansion_value c.args.key) (entry_value c.args.entry)) c.self.view_is
