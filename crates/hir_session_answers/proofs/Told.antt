-- Each diagnostic of a current crate is told: it is in a module of the crate's map, and about something that is written in a source, or in what a
-- call expands to.
use Rattle.std.specs.Prelude.{◌≡◌, Bool, true, not, is_some, List, [], ◌∷◌, length, map, nat_lt, Option, None, Some, option_map, Ok}
use Rattle.std.specs.List.{cons_option}
use Rattle.std.proofs.Common.{ap, refl, subst, sym, ◌∙◌}
use mathlib.Core.Bool.{true≢false}
use Rattle.hir_session_state.specs.HirIds.declared.ast_id.BlockId.{BlockId}
use Rattle.hir_session_state.specs.HirIds.declared.ids.Crate.{Crate}
use Rattle.hir_session_state.specs.HirIds.declared.ast_id.HirFileId.{HirFileId}
use Rattle.hir_session_state.specs.HirIds.declared.ids.MapId.{MapId}
use Rattle.hir_session_state.proofs.HirDefMapRules.StaysWellFormed.{module_there}
use Rattle.hir_session_state.specs.HirDefMapRules.Closed.{ModuleIsThere}
use Rattle.hir_session_state.specs.HirDefMapRules.Diagnostics.{KindValue, diagnostic_view}
use Rattle.hir_session_state.specs.HirDefMapRules.Overlay.{Maps, overlay}
use Rattle.hir_session_state.specs.HirDefMapRules.State.{numbered}
use Rattle.hir_session_state.specs.HirMapParts.declared.diagnostics.DefDiagnostic.{DefDiagnostic}
use Rattle.hir_session_state.specs.HirDefCollectorLaws.Sources.{RunsBindFromSources}
use Rattle.hir_session_state.specs.HirMessages.declared.answer.Definition.{Definition}
use Rattle.hir_session_state.specs.HirMessages.declared.diagnostic.Diagnostic.{Diagnostic}
use Rattle.hir_session_state.specs.HirMessages.declared.answer.SourceItem.{SourceItem}
use Rattle.hir_session_state.specs.Crates.{id_of}
use Rattle.hir_session_answers.specs.Diagnostics.{diagnostic_source, diagnostic_with, diagnostics_in, diagnostics_of, node_in}
use Rattle.hir_session_answers.specs.DiagnosticsStand.{AreTold, DiagnosticsStand}
use Rattle.hir_session_state.specs.Kept.{collected_of}
use Rattle.hir_session_state.specs.SessionState.{SessionState, Resolution, finished_of, kept_of, read_of, read_under, workspace_of, IsSound}
use Rattle.hir_session_answers.specs.SourceCalls.{source_of}
use Rattle.hir_session_answers.specs.SourceItems.{module_definition}
use Rattle.hir_session_answers.proofs.LeftOut.{IsSourced, asked_there, ended_of, mapped_some, maps_behind, module_shown, present, read_kept, sourced, start_of}
use Rattle.hir_session_answers.proofs.Reported.{AreReports, IsReport, ends_reported, reported_node}
use Rattle.hir_session_answers.proofs.Stand.{on_option, stands_at}
use Rattle.hir_session_state.proofs.Truth.{on_bool}

-- the test of what has no source item
abbrev unwritten : SessionState → HirFileId → Option BlockId → Bool
unwritten s file block = not (is_some (source_of s.tables file block))

-- what a run for a current place reported is in modules of its map, and about what has a source item
reported : (s : SessionState) (sound : IsSound s) (id : MapId) (r : Resolution) → kept_of s id ≡ Some r → AreReports (unwritten s) r.map.id
    (length r.map.modules) r.map.diagnostics
reported s sound id r is =
    ends_reported (unwritten s) s.tables (workspace_of s) (finished_of s) (start_of s sound id r is) (collected_of r) (ended_of s sound id r is)
    (λ key asked. ap not (asked_there s sound id r is key asked))

-- where both a module and an item have a source, the diagnostic is told
both_there : (kind : KindValue) (within : Option Definition) (item : Option SourceItem) → is_some within ≡ true → is_some item ≡ true
    → is_some (diagnostic_with kind within item) ≡ true
both_there kind None item f g = absurd (true≢false (sym f))
both_there kind (Some within) None f g = absurd (true≢false (sym g))
both_there kind (Some within) (Some item) f g = refl

module _ (runs : RunsBindFromSources) (s : SessionState) (sound : IsSound s) (id : MapId) (r : Resolution) (is : kept_of s id ≡ Some r) where
  abbrev maps : Maps
  maps = maps_behind s id r

  is_told : (d : DefDiagnostic) → IsReport (unwritten s) r.map.id (length r.map.modules) d → is_some (diagnostic_source s.tables maps (diagnostic_view d))
      ≡ true
  is_told d report =
      let same : numbered r.map.id d.in_module.index ≡ d.in_module = λ i. record { map = sym report.own i; index = d.in_module.index } in
      let there : ModuleIsThere maps d.in_module = subst (ModuleIsThere maps) same (module_there (read_under s id r.holders) r.map d.in_module.index
      report.below) in
      let written : IsSourced s maps r = sourced runs s sound id r is in
      let node = reported_node d in
      both_there (diagnostic_view d).kind (module_definition s.tables maps d.in_module) (option_map (node_in node) (source_of s.tables node.file_id node.block))
      (module_shown s.tables maps written.bound d.in_module there)
      (mapped_some (node_in node) (source_of s.tables node.file_id node.block) ∙ present (is_some (source_of s.tables node.file_id node.block)) report.written)

  next_told : (o : Option Diagnostic) → is_some o ≡ true → (os : List (Option Diagnostic)) (ts : List Diagnostic) → os ≡ map (λ (t : Diagnostic). Some t) ts
      → o ∷ os ≡ map (λ (t : Diagnostic). Some t) (cons_option o ts)
  next_told None f os ts rest = absurd (true≢false (sym f))
  next_told (Some t) f os ts rest = ap (λ (xs : List (Option Diagnostic)). Some t ∷ xs) rest

  each_told : (ds : List DefDiagnostic) → AreReports (unwritten s) r.map.id (length r.map.modules) ds
      → AreTold s.tables maps ds (diagnostics_in s.tables maps ds)
  each_told [] reports = refl
  each_told (d ∷ ds) reports =
      next_told (diagnostic_source s.tables maps (diagnostic_view d)) (is_told d reports.0)
      (map (λ (d : DefDiagnostic). diagnostic_source s.tables maps (diagnostic_view d)) ds) (diagnostics_in s.tables maps ds) (each_told ds reports.1)

-- diagnostics that are told stand
pub tell : RunsBindFromSources → (s : SessionState) (krate : Crate) (told : List Diagnostic) → IsSound s → diagnostics_of s krate ≡ Ok told
    → DiagnosticsStand s krate told
tell runs s krate told sound h =
    on_bool (nat_lt krate.0 (length s.crates))
    (λ within. on_option (kept_of s (id_of krate.0))
    (λ none. absurd (let wrong : ⊥ = cc (rw (within, none) at h) in wrong))
    (λ r some.
    let over = rw (within, some) at h in
    let is : diagnostics_in s.tables (overlay (read_of s (id_of krate.0)) r.map) r.map.diagnostics ≡ told = cc over in
    let all : AreTold s.tables (overlay (read_of s (id_of krate.0)) r.map) r.map.diagnostics
    (diagnostics_in s.tables (overlay (read_of s (id_of krate.0)) r.map) r.map.diagnostics) =
    subst (λ (read : Maps). AreTold s.tables (overlay read r.map) r.map.diagnostics (diagnostics_in s.tables (overlay read r.map) r.map.diagnostics))
    (sym (read_kept s (id_of krate.0) r some))
    (each_told runs s sound (id_of krate.0) r some r.map.diagnostics (reported s sound (id_of krate.0) r some)) in
    record {
      found = r;
      stands = stands_at s sound (id_of krate.0) r some;
      all = subst (AreTold s.tables (overlay (read_of s (id_of krate.0)) r.map) r.map.diagnostics) is all;
    }))
    (λ past. absurd (let wrong : ⊥ = cc (rw past at h) in wrong))
