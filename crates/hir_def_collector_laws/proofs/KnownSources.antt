-- A run reaches only macros that are written in sources which have numbers, where the finished maps bind none but such.
use Rattle.std.specs.Prelude.{◌≡◌, ℕ, List, Bool, true, false, is_some, not, Option, Some, None, cond, option_map}
use Rattle.std.proofs.Common.{ap, refl, subst, arith}
use mathlib.Core.Bool.{true≢false}
use Rattle.hir_collector_rules.specs.HirBase.ModPath.{Path}
use Rattle.hir_collector_rules.specs.HirBase.declared.resolve_mode.MacroSubNs.TheVariants.{Bang}
use Rattle.hir_collector_rules.specs.HirIds.declared.macro_kind.MacroId.{MacroId}
use Rattle.hir_collector_rules.specs.HirIds.declared.ids.ModuleId.{ModuleId}
use Rattle.hir_collector_rules.specs.HirIds.declared.macro_kind.MacroId.TheVariants as macros
use Rattle.hir_collector_rules.specs.HirPerNs.PerNs.{Item}
use Rattle.hir_collector_rules.specs.HirPerNs.declared.imports.ImportOrExternCrate.{ImportOrExternCrate}
use Rattle.hir_collector_rules.specs.HirPerNs.declared.per_ns.PerNs.{PerNs}
use Rattle.hir_collector_rules.specs.HirTables.Tables.{TablesValue, source_under}
use Rattle.hir_collector_rules.specs.HirDefMapRules.Closed.{PathsLeadToWhatIsThere}
use Rattle.hir_collector_rules.specs.HirDefMapRules.Overlay.{Maps, overlay}
use Rattle.hir_collector_rules.specs.HirDefMapRules.Scoping.{resolution_of}
use Rattle.hir_collector_rules.specs.HirDefMapRules.Sources.{HoldsNowhere, HoldsOfNone, PathsAnswerFromSources, SourceTest, on_macro, on_macro_item, on_some}
use Rattle.hir_collector_rules.specs.HirDefMapRules.State.{numbered}
use Rattle.hir_collector_rules.specs.HirDefMapRules.WellFormed.{AreWellFormed}
use Rattle.hir_collector_rules.proofs.HirDefMapRules.NoneOf.{not_first}
use Rattle.hir_collector_rules.proofs.HirDefMapRules.StaysSourced.{HoldsNowhere-overlay}
use Rattle.hir_collector_rules.specs.declared.macro_directive.MacroDirective.{MacroDirective}
use Rattle.hir_collector_rules.specs.declared.macro_directive.MacroDirectiveKind.{MacroDirectiveKind}
use Rattle.hir_collector_rules.specs.declared.source_database.Key.TheVariants as keys
use Rattle.hir_collector_rules.specs.Calls.{by_style, called_macro, inner_macro, macro_among, path_of_call, style_of, suited, suits}
use Rattle.hir_collector_rules.specs.Keys.{IsMeant, environment}
use Rattle.hir_collector_rules.specs.Start.{Beginning, begin_of, holders_by, read_by, root_key, tree_key}
use Rattle.hir_collector_rules.specs.State.{State}
use Rattle.hir_collector_rules.specs.Steps.{Steps}
use Rattle.hir_collector_rules.specs.UnknownSources.{IsUnknown, of_file, of_inner, of_itself, of_macro}
use Rattle.hir_collector_rules.specs.Workspace.{Workspace}
use Rattle.hir_collector_rules.proofs.Asks.{still_asked}
use Rattle.hir_collector_rules.proofs.Holds.{in_range-start}
use Rattle.hir_collector_rules.proofs.Meaning.{passed_keys_have_meaning}
use Rattle.hir_def_collector_laws.specs.Sources.{BeginsClear, RunsMeetNoUnknownSource, unnumbered}
use Rattle.hir_def_collector_laws.specs.Whole.{StandsOnWhole}
use Rattle.hir_def_collector_laws.proofs.Sourced.{all_sourced, first_sourced}
use Rattle.hir_def_collector_laws.proofs.SourcedState.{AreClear, IsSourced, ShowsThere}
use Rattle.hir_def_collector_laws.proofs.Whole.{begins}
use Rattle.hir_def_collector_laws.proofs.WholeChanges.{NamesWhatIsThere}

module _ (t : SourceTest) where
  -- a test that holds neither of what is asked for nor of what the finished maps bind holds of nothing that a run comes upon on its way
  passed_sourced : PathsAnswerFromSources → PathsLeadToWhatIsThere → (tables : TablesValue) (w : Workspace) (finished : Maps) (from : Beginning) (at : State)
      → AreWellFormed (read_by w finished from.start) → StandsOnWhole w (read_by w finished from.start) from.start
      → BeginsClear t (read_by w finished from.start) from.start from.tree
      → HoldsNowhere t (read_by w finished from.start) → Steps (environment tables w) (read_by w finished from.start) (begin_of tables w finished from) at
      → AreClear t at
      → ShowsThere t (read_by w finished from.start) at.core.map → IsSourced t at
  passed_sourced answers paths tables w finished from at whole stands clear nowhere steps asked shown =
      let read : Maps = read_by w finished from.start in
      let begun : State = begin_of tables w finished from in
      let holders : List ModuleId = holders_by finished from.start in
      let names : NamesWhatIsThere read begun = begins paths read whole tables w holders from stands in
      let root : t.holder from.tree.file from.tree.block ≡ false =
      asked (tree_key from.start from.tree) (still_asked steps (root_key from.start from.tree) (0, omega arith, refl)) in
      all_sourced t answers paths read whole nowhere (environment tables w) begun at (in_range-start tables w read holders from) names
      (first_sourced t read nowhere tables w holders from clear root) steps shown asked

  -- nor of a macro that a path answers and that will do
  suited_clear : (kind : MacroDirectiveKind) (items : PerNs) (makro : MacroId) → suited kind (macro_among items) ≡ Some makro → HoldsOfNone t items
      → on_macro t makro ≡ false
  suited_clear kind items makro e none = go items.macros e none.macros
    where
      chosen : (i : Item MacroId ImportOrExternCrate) (b : Bool) → cond b (Some i.def) None ≡ Some makro → on_macro_item t i ≡ false → on_macro t makro ≡ false
      chosen i true e f = let same : i.def ≡ makro = cc in subst (λ (x : MacroId). on_macro t x ≡ false) same (not_first (on_macro t i.def) _ f)
      chosen i false e f = absurd cc

      go : (o : Option (Item MacroId ImportOrExternCrate)) → suited kind (option_map (λ (i : Item MacroId ImportOrExternCrate). i.def) o) ≡ Some makro
          → on_some (on_macro_item t) o ≡ false
          → on_macro t makro ≡ false
      go None e f = absurd cc
      go (Some i) e f = chosen i (suits kind i.def) e f

  -- nor of a macro that a path answers
  among_clear : (items : PerNs) (makro : MacroId) → macro_among items ≡ Some makro → HoldsOfNone t items → on_macro t makro ≡ false
  among_clear items makro e none = go items.macros e none.macros
    where
      go : (o : Option (Item MacroId ImportOrExternCrate)) → option_map (λ (i : Item MacroId ImportOrExternCrate). i.def) o ≡ Some makro
          → on_some (on_macro_item t) o ≡ false
          → on_macro t makro ≡ false
      go None e f = absurd cc
      go (Some i) e f = let same : i.def ≡ makro = cc in subst (λ (x : MacroId). on_macro t x ≡ false) same (not_first (on_macro t i.def) _ f)

  -- nor of one that a path reaches which a macro asks to have resolved first
  inner_clear : PathsAnswerFromSources → (read : Maps) → HoldsNowhere t read → (s : State) → IsSourced t s → (home : ℕ) (path : Path) (makro : MacroId)
      → inner_macro read s.core.local s.core.map home path ≡ Some makro → on_macro t makro ≡ false
  inner_clear answers read nowhere s sourced home path makro e =
      let items : PerNs = (resolution_of (overlay read s.core.map) (by_style Bang s.core.local) (numbered s.core.map.id home) path).resolved_def in
      among_clear items makro e
      (answers t (overlay read s.core.map) (by_style Bang s.core.local) (numbered s.core.map.id home) path
      (HoldsNowhere-overlay t read s.core.map nowhere sourced.map) sourced.local)

  -- nor of one that what waits reaches
  called_clear : PathsAnswerFromSources → (read : Maps) → HoldsNowhere t read → (s : State) → IsSourced t s → (d : MacroDirective) (makro : MacroId)
      → called_macro read s.core.local s.core.map d ≡ Some makro → on_macro t makro ≡ false
  called_clear answers read nowhere s sourced d makro e =
      let items : PerNs =
      (resolution_of (overlay read s.core.map) (by_style (style_of d.kind) s.core.local) (numbered s.core.map.id d.site.home) (path_of_call d)).resolved_def in
      suited_clear d.kind items makro e
      (answers t (overlay read s.core.map) (by_style (style_of d.kind) s.core.local) (numbered s.core.map.id d.site.home) (path_of_call d)
      (HoldsNowhere-overlay t read s.core.map nowhere sourced.map) sourced.local)

-- what the test of sources without numbers doesn't hold of is meant
meant_of : (tables : TablesValue) (makro : MacroId) → on_macro (unnumbered tables) makro ≡ false → IsMeant tables makro
meant_of tables (macros.Macro2Id id) f = present (is_some (source_under tables id.loc.file_id id.loc.block)) f
  where
    present : (b : Bool) → not b ≡ false → b ≡ true
    present true f = refl
    present false f = absurd (true≢false f)
meant_of tables (macros.MacroRulesId id) f = present (is_some (source_under tables id.loc.file_id id.loc.block)) f
  where
    present : (b : Bool) → not b ≡ false → b ≡ true
    present true f = refl
    present false f = absurd (true≢false f)
meant_of tables (macros.ProcMacroId id) f = tt

pub meets_no_unknown_source : PathsAnswerFromSources → PathsLeadToWhatIsThere → RunsMeetNoUnknownSource
meets_no_unknown_source answers paths tables w finished from whole stands clear meant nowhere (of_file there unknown) = unknown meant.file
meets_no_unknown_source answers paths tables w finished from whole stands clear meant nowhere (of_macro leads) =
    let read : Maps = read_by w finished from.start in
    let t : SourceTest = unnumbered tables in
    let at : State = leads.at in
    let asked : AreClear t at = λ key h. ap not (passed_keys_have_meaning tables w finished from at meant leads.steps (keys.Tree key) h) in
    let sourced : IsSourced t at = passed_sourced t answers paths tables w finished from at whole stands clear nowhere leads.steps asked (λ m there. refl) in
    go at sourced leads.reaches.call leads.reaches.makro leads.reaches.called.reaches leads.reaches.unknown
  where
    go : (at : State) → IsSourced (unnumbered tables) at → (d : MacroDirective) (makro : MacroId)
        → called_macro (read_by w finished from.start) at.core.local at.core.map d ≡ Some makro
        → IsUnknown tables (read_by w finished from.start) at d.site.home makro → ⊥
    go at sourced d makro reaches (of_itself unknown) =
        unknown (meant_of tables makro (called_clear (unnumbered tables) answers (read_by w finished from.start) nowhere at sourced d makro reaches))
    go at sourced d makro reaches (of_inner path inner there unknown) =
        unknown (meant_of tables inner (inner_clear (unnumbered tables) answers (read_by w finished from.start) nowhere at sourced d.site.home path inner there))
