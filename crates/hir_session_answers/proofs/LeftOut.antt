-- Nothing is left out of an answer: what a path names in a current map is written in files and blocks, or in what calls expand to.
use Rattle.std.specs.Prelude.{◌≡◌, ℕ, zero, suc, ◌<◌, ◌≤◌, Bool, true, false, not, ◌||◌, is_some, IsSome, slice_get, Contains, List, cond, Option, None, Some}
use Rattle.std.specs.Prelude.{option_map, option_and_then}
use Rattle.std.proofs.Common.{ap, arith, refl, subst, sym, ◌∙◌}
use mathlib.Core.Bool.{true≢false}
use Rattle.hir_session_state.specs.HirBase.ModPath.{Path}
use Rattle.hir_session_state.specs.HirIds.declared.ids.AdtId.{AdtId}
use Rattle.hir_session_state.specs.HirIds.declared.ast_id.AstId.{AstId}
use Rattle.hir_session_state.specs.HirIds.declared.ast_id.BlockId.{BlockId}
use Rattle.hir_session_state.specs.HirBase.declared.place.BlockPlace.{BlockPlace}
use Rattle.hir_session_state.specs.HirIds.declared.ids.Crate.{Crate}
use Rattle.hir_session_state.specs.HirIds.declared.ast_id.EditionedFileId.{EditionedFileId}
use Rattle.hir_session_state.specs.HirIds.declared.ast_id.HirFileId.{HirFileId}
use Rattle.hir_session_state.specs.HirIds.declared.ast_id.MacroCallId.{MacroCallId}
use Rattle.hir_session_state.specs.HirBase.declared.macro_kind.MacroCallLoc.{MacroCallLoc}
use Rattle.hir_session_state.specs.HirIds.declared.macro_kind.MacroId.{MacroId}
use Rattle.hir_session_state.specs.HirIds.declared.ids.MapId.{MapId}
use Rattle.hir_session_state.specs.HirIds.declared.ids.ModuleDefId.{ModuleDefId}
use Rattle.hir_session_state.specs.HirIds.declared.ids.ModuleId.{ModuleId}
use Rattle.hir_session_state.specs.HirIds.declared.ast_id.SyntaxId.{SyntaxId}
use Rattle.hir_session_state.specs.HirIds.declared.ast_id.HirFileId.TheVariants.{File, Macro}
use Rattle.hir_session_state.specs.HirIds.declared.ids.AdtId.TheVariants as adt
use Rattle.hir_session_state.specs.HirIds.declared.ids.ModuleDefId.TheVariants as def
use Rattle.hir_session_state.specs.HirIds.contracts.ids.MapIdPartialEq.TheImpl as map_id
use Rattle.hir_session_state.specs.HirIds.declared.macro_kind.MacroId.TheVariants as macro
use Rattle.hir_session_state.specs.HirPerNs.declared.imports.ImportOrExternCrate.{ImportOrExternCrate}
use Rattle.hir_session_state.specs.HirPerNs.declared.imports.ImportOrGlob.{ImportOrGlob}
use Rattle.hir_session_state.specs.HirPerNs.declared.visibility.Visibility.{Visibility}
use Rattle.hir_session_state.specs.HirPerNs.declared.imports.ImportOrExternCrate.TheVariants as import
use Rattle.hir_session_state.specs.HirPerNs.declared.imports.ImportOrGlob.TheVariants as value_import
use Rattle.hir_session_state.specs.HirPerNs.PerNs.{Item}
use Rattle.hir_session_state.specs.HirPerNs.declared.visibility.Visibility.TheVariants as vis
use Rattle.hir_session_state.specs.HirDefMapRules.Closed.{AreThere, IsThere, ModuleIsThere, PathsLeadToWhatIsThere}
use Rattle.hir_session_state.specs.HirDefMapRules.WellFormed.{AreWellFormed}
use Rattle.hir_session_state.specs.HirDefMapRules.References.{is_missing, reference_to, test_of, test_visibility, FailsAtItem}
use Rattle.hir_session_state.proofs.HirDefMapRules.NoneOf.{none_at, not_first, not_second}
use Rattle.hir_session_state.specs.HirDefMapRules.Scoping.{resolution_of}
use Rattle.hir_session_state.specs.HirDefMapRules.Inner.OverlayLaws.{same_id}
use Rattle.hir_session_state.specs.HirDefMapRules.Scoping.Asking.{Asking, local_of}
use Rattle.hir_session_state.specs.HirDefMapRules.Sources.{HoldsNowhere, HoldsNowhereIn, HoldsOfNoExtern, HoldsOfNone}
use Rattle.hir_session_state.specs.HirDefMapRules.Sources.{PathsAnswerFromSources, SourceTest, on_adt, on_def}
use Rattle.hir_session_state.specs.HirDefMapRules.Sources.{on_import, on_macro, on_macro_item, on_origin, on_some}
use Rattle.hir_session_state.specs.HirDefMapRules.Sources.{on_type, on_value, on_value_def, on_value_import}
use Rattle.hir_session_state.specs.HirDefMapRules.Sources.{on_visibility}
use Rattle.hir_session_state.specs.HirDefMapRules.State.{ModuleValue, crate_map, module_at}
use Rattle.hir_session_state.specs.HirDefMapRules.Overlay.{Maps, Placed, holders_of, overlay, module_in, placed_in}
use Rattle.hir_session_state.proofs.HirDefMapRules.StaysWellFormed.{Extends-overlay, IsClosed-overlay, LocalIsThere-begins}
use Rattle.hir_session_state.proofs.HirDefMapRules.StaysSourced.{HoldsNowhere-overlay}
use Rattle.hir_session_state.specs.HirMapParts.declared.origin.ModuleOrigin.{ModuleOrigin}
use Rattle.hir_session_state.specs.HirMapParts.declared.origin.ModuleOrigin.TheVariants as origin
use Rattle.hir_session_state.specs.HirDefMapRules.declared.reference.Reference.TheVariants as named
use Rattle.hir_session_state.specs.HirBase.declared.tree_id.TreeId.{TreeId}
use Rattle.hir_session_state.specs.HirBase.declared.tree_id.TreeKey.{TreeKey}
use Rattle.hir_session_state.specs.HirTables.SourcePlaces.{file, block as block_place, expansion}
use Rattle.hir_session_state.specs.HirTables.Tables.{TablesValue, block_at, call_at, entry_at, source_of as source_of_tree}
use Rattle.hir_session_state.specs.HirDefMapRules.Diagnostics.{call_node}
use Rattle.hir_session_state.specs.HirCollectorRules.Calls.{AreCallsPlaced, IsPlacedBelow}
use Rattle.hir_session_state.specs.HirCollectorRules.Derivation.{Ends}
use Rattle.hir_session_state.specs.HirCollectorRules.Start.{Beginning, read_by}
use Rattle.hir_session_state.specs.HirDefCollectorLaws.Sources.{BeginsClear, IsClearOf, RunsBindFromSources}
use Rattle.hir_session_state.specs.HirDefCollectorLaws.Whole.{StandsOnWhole}
use Rattle.hir_session_state.specs.HirCollectorRules.declared.source_database.Key.TheVariants as keys
use Rattle.hir_session_state.specs.HirMessages.declared.answer.AnswerVisibility.{AnswerVisibility}
use Rattle.hir_session_state.specs.HirMessages.declared.answer.Definition.{Definition}
use Rattle.hir_session_state.specs.HirMessages.declared.answer.ImportSource.{ImportSource}
use Rattle.hir_session_state.specs.HirMessages.declared.answer.ItemSource.{ItemSource}
use Rattle.hir_session_state.specs.HirMessages.declared.command.MacroStyle.{MacroStyle}
use Rattle.hir_session_state.specs.HirMessages.declared.command.Shadow.{Shadow}
use Rattle.hir_session_state.specs.HirMessages.declared.answer.SourceKind.{SourceKind}
use Rattle.hir_session_answers.specs.Answers.{answer_in, asking_of}
use Rattle.hir_session_answers.specs.LeavesOut.{LeavesNothingOut}
use Rattle.hir_session_state.specs.Kept.{collected_of, placed_by}
use Rattle.hir_session_state.specs.SessionState.{SessionState, Resolution, beginning_by, finished_of, kept_of, module_of, read_of, read_under, standing_of}
use Rattle.hir_session_state.specs.SessionState.{workspace_of, IsSound}
use Rattle.hir_session_state.specs.Standing.{most_calls}
use Rattle.hir_session_answers.specs.SourceCalls.{and_call, block_source, file_source, source_call, source_of, source_within}
use Rattle.hir_session_answers.specs.SourceItems.{adt_definition, answered_macro, answered_type, answered_value, block_definition, definition_of, import_source}
use Rattle.hir_session_answers.specs.SourceItems.{item_of, macro_definition, maybe_source, module_by, module_definition, together, value_import_source}
use Rattle.hir_session_answers.specs.SourceItems.{visibility_source}
use Rattle.hir_session_answers.proofs.LowerLaws.{asked_keys_have_meaning}
use Rattle.hir_session_state.proofs.Holding.{start_holders}
use Rattle.hir_session_state.proofs.Standing.{at_module, block_begun, kept_gives, module_there}
use Rattle.hir_session_state.proofs.Truth.{one_value}
use Rattle.hir_session_state.proofs.Worlds.{AgreeOn-refl}
use Rattle.hir_session_state.specs.HirNameres.WorldParts.{among}
use Rattle.hir_session_state.specs.HirBase.Place.{PlaceValue}
use Rattle.hir_session_state.specs.Crates.{transitive_in}
use Rattle.hir_session_answers.proofs.ReadMaps.{krate_is, own_apart, rank, read_whole, reads, stood_on_whole}

-- ---- options

pub present : (b : Bool) → not b ≡ false → b ≡ true
present true f = refl
present false f = absurd (true≢false f)

pub mapped_some : {A B : Type 0} (f : A → B) (o : Option A) → is_some (option_map f o) ≡ is_some o
mapped_some f None = refl
mapped_some f (Some x) = refl

-- ---- a run of which something is kept

module _ (s : SessionState) (sound : IsSound s) (id : MapId) (r : Resolution) (is : kept_of s id ≡ Some r) where
  -- what its run begins with
  abbrev pub start_of : Beginning
  start_of = (kept_gives s sound id r is).from

  pub ended_of : Ends s.tables (workspace_of s) (finished_of s) start_of (collected_of r)
  ended_of = (kept_gives s sound id r is).resolved.ends (workspace_of s) (finished_of s) AgreeOn-refl

  -- it reads what the place does
  pub start_read : read_by (workspace_of s) (finished_of s) start_of.start ≡ read_under s id r.holders
  start_read =
      let holders = start_holders s id r (kept_gives s sound id r is) in
      λ i. among (transitive_in s.crates (krate_is s sound id r is i).0) (sym holders i) (finished_of s)

  -- a block's run begins with the tree of the block, and with the crates of its crate's map
  begins_clear : (t : SourceTest) → ((b : BlockId) → id.block ≡ Some b
      → HoldsOfNoExtern t (local_of (option_map (λ (p : Placed). p.local) (read_under s id r.holders (crate_map id.krate)))))
      → BeginsClear t (read_under s id r.holders) start_of.start start_of.tree
  begins_clear t local = go id.block refl
    where
      go : (o : Option BlockId) → id.block ≡ o → BeginsClear t (read_under s id r.holders) start_of.start start_of.tree
      go None of =
          let begun = one_value (subst (λ (o : Option BlockId). beginning_by s id.krate o ≡ Some start_of) of (kept_gives s sound id r is).begun) in
          subst (λ (x : Beginning). BeginsClear t (read_under s id r.holders) x.start x.tree) begun tt
      go (Some b) of =
          let begun = block_begun s id.krate b start_of (subst (λ (o : Option BlockId). beginning_by s id.krate o ≡ Some start_of) of
          (kept_gives s sound id r is).begun) in
          subst (λ (x : Beginning). BeginsClear t (read_under s id r.holders) x.start x.tree) begun.is (refl, local b of)

-- ---- what current maps bind, under a test of sources that holds of no tree that a run asked for

module _ (runs : RunsBindFromSources) (s : SessionState) (sound : IsSound s) (t : SourceTest)
    (written : (j : MapId) (f : Resolution) → kept_of s j ≡ Some f → (key : TreeKey) → Contains f.asked (keys.Tree key) → t.holder key.id.file key.id.block
    ≡ false) where
  -- it holds of no module that is there beside the maps that a place reads
  abbrev ShowsThere : MapId → Resolution → Type 0
  ShowsThere j f = (m : ModuleId) → ModuleIsThere (overlay (read_under s j f.holders) f.map) m → t.shown m ≡ false

  abbrev Nowhere : Resolution → Type 0
  Nowhere f = HoldsNowhereIn t f.map × HoldsOfNoExtern t f.local

  apart : (j : MapId) (f : Resolution) → kept_of s j ≡ Some f → read_under s j f.holders f.map.id ≡ None
  apart j f is = ap (read_under s j f.holders) (kept_gives s sound j f is).own ∙ own_apart s sound j f is

  -- it holds of no module that is there beside the maps that a map reads which is read
  seen_in : (j : MapId) (f : Resolution) (is : kept_of s j ≡ Some f) → ShowsThere j f → (id : MapId) (placed : Placed) (e : read_under s j f.holders id
      ≡ Some placed)
      → ShowsThere id (reads s sound j f is id placed e).found
  seen_in j f is shows id placed e m h =
      shows m (Extends-overlay (read_under s j f.holders) f.map (apart j f is) (named.Module m) ((reads s sound j f is id placed e).extends (named.Module m) h))

  bound_reads : (j : MapId) (f : Resolution) → kept_of s j ≡ Some f → ShowsThere j f
      → ((i : MapId) (g : Resolution) → kept_of s i ≡ Some g → rank i g < rank j f → ShowsThere i g → Nowhere g) → HoldsNowhere t (read_under s j f.holders)
  bound_reads j f is shows below id placed e =
      let own = reads s sound j f is id placed e in
      subst (λ (p : Placed). HoldsNowhereIn t p.map) (sym own.map) (below id own.found own.is_kept own.lower (seen_in j f is shows id placed e)).0

  -- nor of the crates with which paths may begin in a map that is read
  local_clear : (j : MapId) (f : Resolution) (is : kept_of s j ≡ Some f) → ShowsThere j f
      → ((i : MapId) (g : Resolution) → kept_of s i ≡ Some g → rank i g < rank j f → ShowsThere i g → Nowhere g) → (id : MapId)
      → HoldsOfNoExtern t (local_of (option_map (λ (p : Placed). p.local) (read_under s j f.holders id)))
  local_clear j f is shows below id = go (read_under s j f.holders id) refl
    where
      go : (o : Option Placed) → read_under s j f.holders id ≡ o → HoldsOfNoExtern t (local_of (option_map (λ (p : Placed). p.local) o))
      go None e = refl
      go (Some placed) e =
          let own = reads s sound j f is id placed e in
          subst (λ (p : Placed). HoldsOfNoExtern t p.local) (sym own.map) (below id own.found own.is_kept own.lower (seen_in j f is shows id placed e)).1

  pub binds : (n : ℕ) (j : MapId) (f : Resolution) → kept_of s j ≡ Some f → rank j f < n → ShowsThere j f → Nowhere f
  binds zero j f is low shows = absurd (let no : rank j f < 0 = low in omega arith)
  binds (suc n) j f is low shows =
      let start = sym (start_read s sound j f is) in
      let below = λ (i : MapId) (g : Resolution) (there : kept_of s i ≡ Some g) (lower : rank i g < rank j f) (seen : ShowsThere i g). binds n i g there
      (let less : rank i g < n = omega arith in less) seen in
      let clear : IsClearOf t (read_under s j f.holders) f.asked f.map = record {
        written = written j f is;
        shown = shows;
        read = bound_reads j f is shows
            below;
      } in
      runs t s.tables (workspace_of s) (finished_of s) (start_of s sound j f is) (collected_of f)
      (subst AreWellFormed start (read_whole s sound j f is))
      (subst (λ (maps : Maps). StandsOnWhole (workspace_of s) maps (start_of s sound j f is).start) start (stood_on_whole s sound j f is))
      (subst (λ (maps : Maps). BeginsClear t maps (start_of s sound j f is).start (start_of s sound j f is).tree) start
      (begins_clear s sound j f is t (λ b of. local_clear j f is shows below (crate_map j.krate))))
      (ended_of s sound j f is)
      (subst (λ (maps : Maps). IsClearOf t maps f.asked f.map) start clear)

-- ---- source items of what such a test doesn't hold of

module _ (tables : TablesValue) (maps : Maps) where
  -- the test of what has no source item
  abbrev pub unsourced : SourceTest
  unsourced = record { holder = λ file block. not (is_some (source_of tables file block)); shown = λ m. is_missing maps (named.Module m) }

  item_there : (krate : Crate) (kind : SourceKind) (held : HirFileId) (block : Option BlockId) (id : SyntaxId) → unsourced.holder held block ≡ false
      → is_some (item_of tables krate kind held block id) ≡ true
  item_there krate kind held block id f = mapped_some _ (source_of tables held block) ∙ present (is_some (source_of tables held block)) f

  by_origin : (krate : Crate) (o : ModuleOrigin) → on_origin unsourced o ≡ false → is_some (module_by tables krate o) ≡ true
  by_origin krate (origin.CrateRoot root) f = refl
  by_origin krate (origin.File is_mod_rs at tree number) f = item_there krate _ at.file_id tree.block at.id f
  by_origin krate (origin.Inline tree at) f = item_there krate _ at.file_id tree.block at.id f
  by_origin krate (origin.BlockExpr id block) f =
      mapped_some (block_definition krate) (block_at tables id) ∙ sym (mapped_some block_source (block_at tables id)) ∙ present _ f

  adt_there : (a : AdtId) → on_adt unsourced a ≡ false → is_some (adt_definition tables a) ≡ true
  adt_there (adt.StructId i) f = item_there i.loc.container.map.krate _ i.loc.file_id i.loc.block i.loc.id f
  adt_there (adt.UnionId i) f = item_there i.loc.container.map.krate _ i.loc.file_id i.loc.block i.loc.id f
  adt_there (adt.EnumId i) f = item_there i.loc.container.map.krate _ i.loc.file_id i.loc.block i.loc.id f

  macro_there : (m : MacroId) → on_macro unsourced m ≡ false → is_some (macro_definition tables m) ≡ true
  macro_there (macro.Macro2Id i) f = item_there i.loc.container.map.krate _ i.loc.file_id i.loc.block i.loc.id f
  macro_there (macro.MacroRulesId i) f = item_there i.loc.container.map.krate _ i.loc.file_id i.loc.block i.loc.id f
  macro_there (macro.ProcMacroId i) f = item_there i.loc.container.map.krate _ i.loc.file_id i.loc.block i.loc.id f

  import_there : (i : ImportOrExternCrate) → on_import unsourced i ≡ false → is_some (import_source tables i) ≡ true
  import_there (import.Glob g) f = mapped_some _ (source_of tables g.use_.loc.file_id g.use_.loc.block) ∙ present _ f
  import_there (import.Import i) f = mapped_some _ (source_of tables i.use_.loc.file_id i.use_.loc.block) ∙ present _ f
  import_there (import.ExternCrate i) f = mapped_some _ (source_of tables i.loc.file_id i.loc.block) ∙ present _ f

  value_import_there : (i : ImportOrGlob) → on_value_import unsourced i ≡ false → is_some (value_import_source tables i) ≡ true
  value_import_there (value_import.Glob g) f = mapped_some _ (source_of tables g.use_.loc.file_id g.use_.loc.block) ∙ present _ f
  value_import_there (value_import.Import i) f = mapped_some _ (source_of tables i.use_.loc.file_id i.use_.loc.block) ∙ present _ f

  maybe_there : {I : Type 0} (source : I → Option ImportSource) (test : I → Bool) → ((i : I) → test i ≡ false → is_some (source i) ≡ true)
      → (o : Option I) → on_some test o ≡ false → is_some (maybe_source source o) ≡ true
  maybe_there source test there None f = refl
  maybe_there source test there (Some i) f = mapped_some _ (source i) ∙ there i f

  all_there : (d : Option Definition) (i : Option (Option ImportSource)) (v : Option AnswerVisibility) → is_some d ≡ true → is_some i ≡ true → is_some v ≡ true
      → is_some (together d i v) ≡ true
  all_there None i v f g h = absurd (true≢false (sym f))
  all_there (Some d) None v f g h = absurd (true≢false (sym g))
  all_there (Some d) (Some i) None f g h = absurd (true≢false (sym h))
  all_there (Some d) (Some i) (Some v) f g h = refl

  module _ (nowhere : HoldsNowhere unsourced maps) where
    pub module_shown : (m : ModuleId) → ModuleIsThere maps m → is_some (module_definition tables maps m) ≡ true
    module_shown m there = go (maps m.map) refl there
      where
        found : (placed : Placed) → HoldsNowhereIn unsourced placed.map → (o : Option ModuleValue) → module_at placed.map m.index ≡ o → is_some o ≡ true
            → is_some (option_and_then (λ (v : ModuleValue). module_by tables m.map.krate v.origin) o) ≡ true
        found placed none None e f = f
        found placed none (Some v) e f =
            by_origin m.map.krate v.origin (none_at (λ (x : ModuleValue). on_origin unsourced x.origin) placed.map.modules none.origins m.index v e)

        go : (o : Option Placed) → maps m.map ≡ o → is_some (option_and_then (λ (p : Placed). module_at p.map m.index) o) ≡ true
            → is_some (option_and_then (λ (v : ModuleValue). module_by tables m.map.krate v.origin)
            (option_and_then (λ (p : Placed). module_at p.map m.index) o)) ≡ true
        go None e f = f
        go (Some placed) e f = found placed (nowhere m.map placed e) (module_at placed.map m.index) refl f

    visible : (v : Visibility) → on_visibility unsourced v ≡ false → is_some (visibility_source tables maps v) ≡ true
    visible vis.Public f = refl
    visible (vis.PubCrate c) f = refl
    visible (vis.Module m written) f = mapped_some _ (module_definition tables maps m) ∙ module_shown m (present (is_some (module_in maps m)) f)

    def_there : (d : ModuleDefId) → on_def unsourced d ≡ false → ((m : ModuleId) → d ≡ def.ModuleId m → ModuleIsThere maps m)
        → is_some (definition_of tables maps d) ≡ true
    def_there (def.ModuleId m) f there = module_shown m (there m refl)
    def_there (def.FunctionId i) f there = item_there _ _ i.loc.file_id i.loc.block i.loc.id f
    def_there (def.AdtId i) f there = adt_there i f
    def_there (def.EnumVariantId i) f there = item_there _ _ i.parent.loc.file_id i.parent.loc.block i.id f
    def_there (def.ConstId i) f there = item_there _ _ i.loc.file_id i.loc.block i.loc.id f
    def_there (def.StaticId i) f there = item_there _ _ i.loc.file_id i.loc.block i.loc.id f
    def_there (def.TraitId i) f there = item_there _ _ i.loc.file_id i.loc.block i.loc.id f
    def_there (def.TypeAliasId i) f there = item_there _ _ i.loc.file_id i.loc.block i.loc.id f
    def_there (def.BuiltinType b) f there = refl
    def_there (def.MacroId i) f there = macro_there i f

    -- a value is no module
    value_def : (d : ModuleDefId) → on_value_def unsourced d ≡ false → on_def unsourced d ≡ false
    value_def (def.ModuleId m) f = refl
    value_def other f = f

    -- the parts of an item of which the test doesn't hold
    of_def : (d v i : Bool) → (d || (v || i)) ≡ false → d ≡ false
    of_def d v i f = not_first d (v || i) f

    of_vis : (d v i : Bool) → (d || (v || i)) ≡ false → v ≡ false
    of_vis d v i f = not_first v i (not_second d (v || i) f)

    of_import : (d v i : Bool) → (d || (v || i)) ≡ false → i ≡ false
    of_import d v i f = not_second v i (not_second d (v || i) f)

    pub types : (o : Option (Item ModuleDefId ImportOrExternCrate)) → on_some (on_type unsourced) o ≡ false → FailsAtItem (is_missing maps) o
        → is_some (option_and_then (answered_type tables maps) o) ≡ is_some o
    types None f there = refl
    types (Some i) f there =
        let d = on_def unsourced i.def in
        let v = on_visibility unsourced i.vis in
        let by = on_some (on_import unsourced) i.import in
        all_there (definition_of tables maps i.def) (maybe_source (import_source tables) i.import) (visibility_source tables maps i.vis)
        (def_there i.def (of_def d v by f)
        (λ m e. present (is_some (module_in maps m))
        (subst (λ (x : ModuleDefId). IsThere maps x) e (not_first (test_of (is_missing maps) (reference_to i.def)) (test_visibility (is_missing maps) i.vis)
        there))))
        (maybe_there (import_source tables) (on_import unsourced) import_there i.import (of_import d v by f))
        (visible i.vis (of_vis d v by f))

    pub values : (o : Option (Item ModuleDefId ImportOrGlob)) → on_some (on_value unsourced) o ≡ false
        → is_some (option_and_then (answered_value tables maps) o) ≡ is_some o
    values None f = refl
    values (Some i) f =
        let d = on_value_def unsourced i.def in
        let v = on_visibility unsourced i.vis in
        let by = on_some (on_value_import unsourced) i.import in
        let none : on_value_def unsourced i.def ≡ false = of_def d v by f in
        all_there (definition_of tables maps i.def) (maybe_source (value_import_source tables) i.import) (visibility_source tables maps i.vis)
        (def_there i.def (value_def i.def none) (λ m e. absurd (true≢false (subst (λ (x : ModuleDefId). on_value_def unsourced x ≡ false) e none))))
        (maybe_there (value_import_source tables) (on_value_import unsourced) value_import_there i.import (of_import d v by f))
        (visible i.vis (of_vis d v by f))

    pub macros : (o : Option (Item MacroId ImportOrExternCrate)) → on_some (on_macro_item unsourced) o ≡ false
        → is_some (option_and_then (answered_macro tables maps) o) ≡ is_some o
    macros None f = refl
    macros (Some i) f =
        let d = on_macro unsourced i.def in
        let v = on_visibility unsourced i.vis in
        let by = on_some (on_import unsourced) i.import in
        all_there (macro_definition tables i.def) (maybe_source (import_source tables) i.import) (visibility_source tables maps i.vis)
        (macro_there i.def (of_def d v by f))
        (maybe_there (import_source tables) (on_import unsourced) import_there i.import (of_import d v by f))
        (visible i.vis (of_vis d v by f))

-- ---- the trees that runs asked for

-- the path of a file that a number means
file_there : (tables : TablesValue) (f : EditionedFileId) → IsSome (source_of_tree tables (record { file = File f; block = None }))
    → is_some (source_of tables (File f) None) ≡ true
file_there tables f means = go (slice_get tables.files f.file_id.0) means
  where
    go : (o : Option (List ℕ)) → IsSome (option_map file o) → is_some (option_map file_source o) ≡ true
    go None h = absurd (let wrong : ⊥ = cc in wrong)
    go (Some path) h = refl

-- a block that a number means
block_there : (tables : TablesValue) (held : HirFileId) (b : BlockId) → IsSome (source_of_tree tables (record { file = held; block = Some b }))
    → is_some (option_map block_source (block_at tables b)) ≡ true
block_there tables held b means = go (block_at tables b) means
  where
    go : (o : Option BlockPlace) → IsSome (option_map block_place o) → is_some (option_map block_source o) ≡ true
    go None h = absurd (let wrong : ⊥ = cc in wrong)
    go (Some place) h = refl

module _ (tables : TablesValue) (placed : AreCallsPlaced tables) where
  -- few calls can stand in one another where a call before the one of this number is written
  few_around : (n m : ℕ) (held : HirFileId) → m ≤ n → ((c : MacroCallId) → held ≡ Macro c → c.0 < m) → most_calls held ≤ n
  few_around n m (File f) low earlier = omega arith
  few_around n m (Macro c) low earlier = let before : c.0 < m = earlier c refl in omega arith

  -- what holds a tree that has a number, where as many calls may stand in one another as can
  numbered_within : (n : ℕ) (held : HirFileId) (block : Option BlockId) → (block ≡ None → most_calls held ≤ n)
      → IsSome (source_of_tree tables (record { file = held; block = block }))
      → is_some (source_within n tables held block) ≡ true
  numbered_within n held (Some b) low means = block_there tables held b means
  numbered_within n (File f) None low means = file_there tables f means
  numbered_within zero (Macro c) None low means = absurd (let bound : suc c.0 ≤ zero = low refl in omega arith)
  numbered_within (suc n) (Macro c) None low means = go (call_at tables c) refl means (λ held block. numbered_within n held block)
    where
      inside : MacroCallLoc → Option ItemSource
      inside call = option_map (and_call (source_call call.kind)) (source_within n tables (call_node call.kind).file_id (call_node call.kind).block)

      within : c.0 ≤ n
      within = let below : suc c.0 ≤ suc n = low refl in omega arith

      of_call : (call : MacroCallLoc) → call_at tables c ≡ Some call
          → ((held : HirFileId) (block : Option BlockId) → (block ≡ None → most_calls held ≤ n)
          → IsSome (source_of_tree tables (record { file = held; block = block })) → is_some (source_within n tables held block) ≡ true)
          → is_some (option_and_then inside (call_at tables c)) ≡ true
      of_call call e next =
          let node : AstId = call_node call.kind in
          let own : IsPlacedBelow tables c.0 node = placed.calls c.0 call e in
          let there : is_some (source_within n tables node.file_id node.block) ≡ true =
          next node.file_id node.block (λ none. few_around n c.0 node.file_id within (λ m same. own.earlier m same none)) own.source in
          subst (λ (o : Option MacroCallLoc). is_some (option_and_then inside o) ≡ true) (sym e)
          (mapped_some (and_call (source_call call.kind)) (source_within n tables node.file_id node.block) ∙ there)

      go : (o : Option MacroCallLoc) → call_at tables c ≡ o
          → IsSome (option_map expansion (option_and_then (λ (call : MacroCallLoc). entry_at tables call.entry) o))
          → ((held : HirFileId) (block : Option BlockId) → (block ≡ None → most_calls held ≤ n)
          → IsSome (source_of_tree tables (record { file = held; block = block })) → is_some (source_within n tables held block) ≡ true)
          → is_some (option_and_then inside (call_at tables c)) ≡ true
      go None e h next = absurd (let wrong : ⊥ = cc in wrong)
      go (Some call) e h next = of_call call e next

  -- so each tree that has a number is held by something
  pub numbered_there : (id : TreeId) → IsSome (source_of_tree tables id) → is_some (source_of tables id.file id.block) ≡ true
  numbered_there id means = numbered_within (most_calls id.file) id.file id.block (λ none. omega arith) means

-- a tree that the run for a current place asked for is of a file or a block, or of what a call expands to
pub asked_there : (s : SessionState) (sound : IsSound s) (id : MapId) (r : Resolution) → kept_of s id ≡ Some r → (key : TreeKey)
    → Contains r.asked (keys.Tree key)
    → is_some (source_of s.tables key.id.file key.id.block) ≡ true
asked_there s sound id r is key asked =
    let gives = kept_gives s sound id r is in
    let means : IsSome (source_of_tree s.tables key.id) =
    asked_keys_have_meaning s.tables (workspace_of s) (finished_of s) gives.from (collected_of r) gives.meant (ended_of s sound id r is) (keys.Tree key) asked
    in
    numbered_there s.tables sound.calls key.id means

-- ---- the module that a place names

-- a module is there, in a map that is kept
pub record IsThereAt (s : SessionState) (m : ModuleId) : Type 0 where
  pub found : Resolution
  pub is : kept_of s m.map ≡ Some found
  pub module_ : is_some (module_at found.map m.index) ≡ true
  pub there : ModuleIsThere (overlay (read_under s m.map found.holders) found.map) m

-- so is one that a place names
pub place_there : (s : SessionState) → IsSound s → (place : PlaceValue) (m : ModuleId) → module_of s place ≡ Some m → IsThereAt s m
place_there s sound place m named =
    let kept = module_there s sound place m (at_module (standing_of s place) m named) in
    let read : Maps = read_under s m.map kept.found.holders in
    let own : map_id.ghosts.eq m.map kept.found.map.id ≡ true = ap (λ (x : MapId). map_id.ghosts.eq m.map x) (kept_gives s sound m.map kept.found kept.is).own ∙
    same_id m.map in
    record {
      found = kept.found;
      is = kept.is;
      module_ = kept.there;
      there =
          ap (λ (b : Bool). is_some (option_and_then (λ (p : Placed). module_at p.map m.index) (cond b (Some (placed_in read kept.found.map)) (read m.map))))
          own ∙ kept.there;
    }

-- ---- answers

-- the maps on which a current place stands, its own among them
abbrev pub maps_behind : SessionState → MapId → Resolution → Maps
maps_behind s id r = overlay (read_under s id r.holders) r.map

-- what they bind, and the crates with which its tables may begin, have sources
pub record IsSourced (s : SessionState) (maps : Maps) (r : Resolution) : Type 0 where
  pub bound : HoldsNowhere (unsourced s.tables maps) maps
  pub begun : HoldsOfNoExtern (unsourced s.tables maps) r.local

pub sourced : RunsBindFromSources → (s : SessionState) (sound : IsSound s) (id : MapId) (r : Resolution) → kept_of s id ≡ Some r
    → IsSourced s (maps_behind s id r) r
sourced runs s sound id r is =
    let maps : Maps = maps_behind s id r in
    let test : SourceTest = unsourced s.tables maps in
    let written : (j : MapId) (f : Resolution) → kept_of s j ≡ Some f → (key : TreeKey) → Contains f.asked (keys.Tree key)
    → test.holder key.id.file key.id.block ≡ false =
    λ j f there key asked. ap not (asked_there s sound j f there key asked) in
    let shows : (m : ModuleId) → ModuleIsThere maps m → test.shown m ≡ false = λ m there. ap not there in
    let own = binds runs s sound test written (suc (rank id r)) id r is (omega arith) shows in
    record {
      bound = HoldsNowhere-overlay test (read_under s id r.holders) r.map
          (bound_reads runs s sound test written id r is shows (λ i g there lower seen. binds runs s sound test written (rank id r) i g there lower seen))
          own.0;
      begun = own.1;
    }

-- what a kept place reads, where it is looked up
pub read_kept : (s : SessionState) (id : MapId) (r : Resolution) → kept_of s id ≡ Some r → read_of s id ≡ read_under s id r.holders
read_kept s id r is = ap (λ (o : Option Resolution). read_under s id (holders_of (option_map placed_by o))) is

-- an answer from a module of a current map leaves nothing out
pub whole : RunsBindFromSources → PathsAnswerFromSources → PathsLeadToWhatIsThere → (s : SessionState) (sound : IsSound s) (m : ModuleId) (r : Resolution)
    (is : kept_of s m.map ≡ Some r)
    → ModuleIsThere (maps_behind s m.map r) m → (path : Path) (shadow : Shadow) (style : Option MacroStyle)
    → LeavesNothingOut (resolution_of (maps_behind s m.map r) (asking_of r.local shadow style) m path).resolved_def
    (answer_in s.tables (maps_behind s m.map r) r.local m path shadow style)
whole runs answers leads s sound m r is there path shadow style =
    let gives = kept_gives s sound m.map r is in
    let read : Maps = read_under s m.map r.holders in
    let maps : Maps = maps_behind s m.map r in
    let test : SourceTest = unsourced s.tables maps in
    let written : IsSourced s maps r = sourced runs s sound m.map r is in
    let asking : Asking = asking_of r.local shadow style in
    let alone : read r.map.id ≡ None = ap read gives.own ∙ own_apart s sound m.map r is in
    let closed = IsClosed-overlay read r.map alone (read_whole s sound m.map r is) gives.names in
    let none : HoldsOfNone test (resolution_of maps asking m path).resolved_def = answers test maps asking m path written.bound written.begun in
    let lead : AreThere maps (resolution_of maps asking m path).resolved_def = leads maps asking m path closed (LocalIsThere-begins maps r.local gives.reaches)
    there in
    record {
      types = types s.tables maps written.bound (resolution_of maps asking m path).resolved_def.types none.types lead.types;
      values = values s.tables maps written.bound (resolution_of maps asking m path).resolved_def.values none.values;
      macros = macros s.tables maps written.bound (resolution_of maps asking m path).resolved_def.macros none.macros;
    }
