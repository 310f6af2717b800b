-- What a run reports is of a module of its map, and about something that is written in a source that it asked for.
use Rattle.std.specs.Prelude.{◌≡◌, ◌<◌, ℕ, Bool, false, List, [], ◌∷◌, length, Contains, Option}
use Rattle.std.proofs.Common.{ap, arith, refl, subst, sym}
use Rattle.std.proofs.lemmas.List.Elements.{Contains-append_right}
use Rattle.hir_session_state.specs.HirIds.declared.ast_id.AstId.{AstId}
use Rattle.hir_session_state.specs.HirIds.declared.ast_id.BlockId.{BlockId}
use Rattle.hir_session_state.specs.HirIds.declared.ast_id.HirFileId.{HirFileId}
use Rattle.hir_session_state.specs.HirIds.declared.ids.MapId.{MapId}
use Rattle.hir_session_state.specs.HirIds.declared.ids.ModuleId.{ModuleId}
use Rattle.hir_session_state.specs.HirBase.declared.tree_id.TreeKey.{TreeKey}
use Rattle.hir_session_state.specs.HirTables.Tables.{TablesValue}
use Rattle.hir_session_state.specs.HirDefMapRules.Diagnostics.{diagnostic_view, node_of}
use Rattle.hir_session_state.specs.HirDefMapRules.Overlay.{Maps}
use Rattle.hir_session_state.specs.HirMapParts.declared.diagnostics.DefDiagnostic.{DefDiagnostic}
use Rattle.hir_session_state.specs.HirCollectorRules.Derivation.{CollectedValue, Ends}
use Rattle.hir_session_state.specs.HirCollectorRules.Start.{Beginning}
use Rattle.hir_session_state.specs.HirCollectorRules.Workspace.{Workspace}
use Rattle.hir_session_state.specs.HirCollectorRules.declared.source_database.Key.TheVariants as keys
use Rattle.hir_session_state.specs.HirDefCollectorLaws.Diagnostics.{IsToldOfItem}
use Rattle.hir_session_state.specs.HirDefCollectorLaws.Written.{key_of}
use Rattle.hir_session_state.proofs.HirDefCollectorLaws.Diagnostics.{diagnostics_are_of_items}

-- the node that a diagnostic is about
abbrev pub reported_node : DefDiagnostic → AstId
reported_node d = node_of (diagnostic_view d).kind

module _ (unwritten : HirFileId → Option BlockId → Bool) where
  -- a diagnostic is in one of so many modules of a map, and about something of which the test doesn't hold
  pub record IsReport (id : MapId) (count : ℕ) (d : DefDiagnostic) : Type 0 where
    pub own : d.in_module.map ≡ id
    pub below : d.in_module.index < count
    pub written : unwritten (reported_node d).file_id (reported_node d).block ≡ false

  abbrev pub AreReports : MapId → ℕ → List DefDiagnostic → Type 0
  AreReports id count [] = Unit {0}
  AreReports id count (d ∷ ds) = IsReport id count d × AreReports id count ds

  module _ (tables : TablesValue) (w : Workspace) (answer : CollectedValue)
      (clear : (key : TreeKey) → Contains answer.asked (keys.Tree key) → unwritten key.id.file key.id.block ≡ false) where
    is_report : (d : DefDiagnostic) → IsToldOfItem tables w answer (diagnostic_view d) → IsReport answer.map.id (length answer.map.modules) d
    is_report d told = record {
      own = ap (λ (m : ModuleId). m.map) told.module_is;
      below = subst (λ (m : ModuleId). m.index < length answer.map.modules) (sym told.module_is) told.there;
      written = clear (key_of answer (record { file = (reported_node d).file_id; block = (reported_node d).block })) told.of_item.written.key_asked;
    }

    are_reports : (ds : List DefDiagnostic) → ((d : DefDiagnostic) → Contains ds d → IsToldOfItem tables w answer (diagnostic_view d))
        → AreReports answer.map.id (length answer.map.modules) ds
    are_reports [] told = tt
    are_reports (d ∷ ds) told = (
      is_report d (told d (0, (let here : 0 < length (d ∷ ds) = omega arith in here), refl)),
      are_reports ds (λ e h. told e (Contains-append_right (d ∷ []) ds e h)),
    )

  -- where the test holds of no source that was asked for, each diagnostic is of a module of the map, and about something of which it doesn't hold
  pub ends_reported : (tables : TablesValue) (w : Workspace) (all : Maps) (from : Beginning) (answer : CollectedValue) → Ends tables w all from answer
      → ((key : TreeKey) → Contains answer.asked (keys.Tree key) → unwritten key.id.file key.id.block ≡ false)
      → AreReports answer.map.id (length answer.map.modules) answer.map.diagnostics
  ends_reported tables w all from answer e clear =
      are_reports tables w answer clear answer.map.diagnostics (λ d h. diagnostics_are_of_items tables w all from answer e d h)
