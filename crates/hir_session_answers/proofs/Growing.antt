-- An answer that leaves nothing out stays as tables grow.
use Rattle.std.proofs.Common.{◌≡◌, ◌⊎◌, inl, inr, ℕ, zero, suc, is_some, List, [], ◌∷◌, map, Option, None, Some, option_map, slice_get, refl, sym, ap, ◌∙◌}
use Rattle.std.proofs.Common.{subst}
use Rattle.std.specs.List.{cons_option}
use Rattle.std.specs.Option.{option_and_then}
use Rattle.hir_session_state.specs.HirBase.ModPath.{Path}
use Rattle.hir_session_state.specs.HirIds.declared.ids.AdtId.{AdtId}
use Rattle.hir_session_state.specs.HirIds.declared.ast_id.AstId.{AstId}
use Rattle.hir_session_state.specs.HirIds.declared.ast_id.BlockId.{BlockId}
use Rattle.hir_session_state.specs.HirBase.declared.place.BlockPlace.{BlockPlace}
use Rattle.hir_session_state.specs.HirIds.declared.ids.Crate.{Crate}
use Rattle.hir_session_state.specs.HirIds.declared.ast_id.HirFileId.{HirFileId}
use Rattle.hir_session_state.specs.HirBase.declared.macro_kind.MacroCallLoc.{MacroCallLoc}
use Rattle.hir_session_state.specs.HirIds.declared.macro_kind.MacroId.{MacroId}
use Rattle.hir_session_state.specs.HirIds.declared.ids.ModuleDefId.{ModuleDefId}
use Rattle.hir_session_state.specs.HirIds.declared.ids.ModuleId.{ModuleId}
use Rattle.hir_session_state.specs.HirIds.declared.ast_id.SyntaxId.{SyntaxId}
use Rattle.hir_session_state.specs.HirIds.declared.ast_id.HirFileId.TheVariants.{File, Macro}
use Rattle.hir_session_state.specs.HirIds.declared.ids.AdtId.TheVariants as adt
use Rattle.hir_session_state.specs.HirIds.declared.ids.ModuleDefId.TheVariants as def
use Rattle.hir_session_state.specs.HirIds.declared.macro_kind.MacroId.TheVariants as macro
use Rattle.hir_session_state.specs.HirPerNs.PerNs.{Item}
use Rattle.hir_session_state.specs.HirPerNs.declared.imports.ImportOrExternCrate.{ImportOrExternCrate}
use Rattle.hir_session_state.specs.HirPerNs.declared.imports.ImportOrGlob.{ImportOrGlob}
use Rattle.hir_session_state.specs.HirPerNs.declared.visibility.Visibility.{Visibility}
use Rattle.hir_session_state.specs.HirPerNs.declared.imports.ImportOrExternCrate.TheVariants as import
use Rattle.hir_session_state.specs.HirPerNs.declared.imports.ImportOrGlob.TheVariants as value_import
use Rattle.hir_session_state.specs.HirPerNs.declared.visibility.Visibility.TheVariants as vis
use Rattle.hir_session_state.specs.HirTables.Tables.{TablesValue, KeepsTables, block_at, call_at}
use Rattle.hir_session_state.specs.HirDefMapRules.Diagnostics.{DiagnosticValue, KindValue, call_node, diagnostic_view, node_of}
use Rattle.hir_session_state.specs.HirDefMapRules.Scoping.{resolution_of}
use Rattle.hir_session_state.specs.HirDefMapRules.State.{Local, ModuleValue}
use Rattle.hir_session_state.specs.HirDefMapRules.Overlay.{Maps, module_in}
use Rattle.hir_session_state.specs.HirMapParts.declared.diagnostics.DefDiagnostic.{DefDiagnostic}
use Rattle.hir_session_state.specs.HirMapParts.declared.origin.ModuleOrigin.{ModuleOrigin}
use Rattle.hir_session_state.specs.HirMapParts.declared.origin.ModuleOrigin.TheVariants as origin
use Rattle.hir_session_state.specs.HirMessages.declared.answer.AnswerItem.{AnswerItem}
use Rattle.hir_session_state.specs.HirMessages.declared.answer.AnswerVisibility.{AnswerVisibility}
use Rattle.hir_session_state.specs.HirMessages.declared.answer.Definition.{Definition}
use Rattle.hir_session_state.specs.HirMessages.declared.diagnostic.Diagnostic.{Diagnostic}
use Rattle.hir_session_state.specs.HirMessages.declared.answer.ImportSource.{ImportSource}
use Rattle.hir_session_state.specs.HirMessages.declared.answer.ItemSource.{ItemSource}
use Rattle.hir_session_state.specs.HirMessages.declared.command.MacroStyle.{MacroStyle}
use Rattle.hir_session_state.specs.HirMessages.declared.command.Shadow.{Shadow}
use Rattle.hir_session_state.specs.HirMessages.declared.answer.SourceItem.{SourceItem}
use Rattle.hir_session_state.specs.HirMessages.declared.answer.SourceKind.{SourceKind}
use Rattle.hir_session_answers.specs.Answers.{answer_in, asking_of}
use Rattle.hir_session_answers.specs.Diagnostics.{diagnostic_source, diagnostic_with, diagnostics_in, node_in, node_source}
use Rattle.hir_session_answers.specs.DiagnosticsStand.{AreTold}
use Rattle.hir_session_state.specs.Standing.{most_calls}
use Rattle.hir_session_answers.specs.LeavesOut.{LeavesNothingOut}
use Rattle.hir_session_answers.specs.SourceCalls.{and_call, block_source, file_source, source_call, source_of, source_within}
use Rattle.hir_session_answers.specs.SourceItems.{adt_definition, answered_macro, answered_type, answered_value, block_definition, definition_of, import_source}
use Rattle.hir_session_answers.specs.SourceItems.{item_in, item_of, macro_definition, maybe_source, module_by, module_definition, together, value_import_source}
use Rattle.hir_session_answers.specs.SourceItems.{visibility_source}
use Rattle.hir_session_state.proofs.Truth.{clash}

-- what was there stays
abbrev pub Stays : {X : Type 0} → Option X → Option X → Type 0
Stays one other = (one ≡ None) ⊎ (other ≡ one)

pub mapped : {X Y : Type 0} (f : X → Y) (one other : Option X) → Stays one other → Stays (option_map f one) (option_map f other)
mapped f one other (inl none) = inl (ap (option_map f) none)
mapped f one other (inr same) = inr (ap (option_map f) same)

no_import : (d : Option Definition) (v : Option AnswerVisibility) → together d None v ≡ None
no_import None v = refl
no_import (Some d) v = refl

no_visibility : (d : Option Definition) (i : Option (Option ImportSource)) → together d i None ≡ None
no_visibility None i = refl
no_visibility (Some d) None = refl
no_visibility (Some d) (Some i) = refl

all : (d e : Option Definition) (i j : Option (Option ImportSource)) (v w : Option AnswerVisibility) → Stays d e → Stays i j → Stays v w
    → Stays (together d i v) (together e j w)
all d e i j v w (inl none) b c = inl (ap (λ (x : Option Definition). together x i v) none)
all d e i j v w (inr a) (inl none) c = inl (ap (λ (x : Option (Option ImportSource)). together d x v) none ∙ no_import d v)
all d e i j v w (inr a) (inr b) (inl none) = inl (ap (together d i) none ∙ no_visibility d i)
all d e i j v w (inr a) (inr b) (inr c) = inr (λ k. together (a k) (b k) (c k))

module _ (few more : TablesValue) (keeps : KeepsTables few more) where
  block_stays : (b : BlockId) → Stays (block_at few b) (block_at more b)
  block_stays b = go (block_at few b) refl
    where
      go : (o : Option BlockPlace) → block_at few b ≡ o → Stays (block_at few b) (block_at more b)
      go None s = inl s
      go (Some place) s = inr (keeps.blocks b.0 place s ∙ sym s)

  within_stays : (n : ℕ) (file : HirFileId) (block : Option BlockId) → Stays (source_within n few file block) (source_within n more file block)
  within_stays n file (Some b) = mapped block_source (block_at few b) (block_at more b) (block_stays b)
  within_stays n (File f) None =
      mapped file_source (slice_get few.files f.file_id.0) (slice_get more.files f.file_id.0) (go (slice_get few.files f.file_id.0) refl)
    where
      go : (o : Option (List ℕ)) → slice_get few.files f.file_id.0 ≡ o → Stays (slice_get few.files f.file_id.0) (slice_get more.files f.file_id.0)
      go None s = inl s
      go (Some q) s = inr (keeps.files f.file_id.0 q s ∙ sym s)
  within_stays zero (Macro c) None = inl refl
  within_stays (suc n) (Macro c) None = go (call_at few c) refl (λ file block. within_stays n file block)
    where
      inside : TablesValue → MacroCallLoc → Option ItemSource
      inside t call = option_map (and_call (source_call call.kind)) (source_within n t (call_node call.kind).file_id (call_node call.kind).block)

      stays : (call : MacroCallLoc) → call_at few c ≡ Some call → Stays (source_within n few (call_node call.kind).file_id (call_node call.kind).block)
          (source_within n more (call_node call.kind).file_id (call_node call.kind).block)
          → Stays (option_and_then (inside few) (call_at few c)) (option_and_then (inside more) (call_at more c))
      stays call s next =
          subst (λ (o : Option MacroCallLoc). Stays (option_and_then (inside few) o) (option_and_then (inside more) (call_at more c))) (sym s)
          (subst (λ (o : Option MacroCallLoc). Stays (option_and_then (inside few) (Some call)) (option_and_then (inside more) o))
          (sym (keeps.calls c.0 call s))
          (mapped (and_call (source_call call.kind)) _ _ next))

      go : (o : Option MacroCallLoc) → call_at few c ≡ o
          → ((file : HirFileId) (block : Option BlockId) → Stays (source_within n few file block) (source_within n more file block))
          → Stays (option_and_then (inside few) (call_at few c)) (option_and_then (inside more) (call_at more c))
      go None s next = inl (ap (option_and_then (inside few)) s)
      go (Some call) s next = stays call s (next (call_node call.kind).file_id (call_node call.kind).block)

  pub source_stays : (file : HirFileId) (block : Option BlockId) → Stays (source_of few file block) (source_of more file block)
  source_stays file block = within_stays (most_calls file) file block

  item_stays : (krate : Crate) (kind : SourceKind) (file : HirFileId) (block : Option BlockId) (id : SyntaxId) → Stays (item_of few krate kind file block id)
      (item_of more krate kind file block id)
  item_stays krate kind file block id = mapped (item_in krate kind id) (source_of few file block) (source_of more file block) (source_stays file block)

  by_origin : (krate : Crate) (o : ModuleOrigin) → Stays (module_by few krate o) (module_by more krate o)
  by_origin krate (origin.CrateRoot file) = inr refl
  by_origin krate (origin.File is_mod_rs at tree file) = item_stays krate _ at.file_id tree.block at.id
  by_origin krate (origin.Inline tree at) = item_stays krate _ at.file_id tree.block at.id
  by_origin krate (origin.BlockExpr id block) = mapped (block_definition krate) (block_at few id) (block_at more id) (block_stays id)

  adt_stays : (a : AdtId) → Stays (adt_definition few a) (adt_definition more a)
  adt_stays (adt.StructId i) = item_stays i.loc.container.map.krate _ i.loc.file_id i.loc.block i.loc.id
  adt_stays (adt.UnionId i) = item_stays i.loc.container.map.krate _ i.loc.file_id i.loc.block i.loc.id
  adt_stays (adt.EnumId i) = item_stays i.loc.container.map.krate _ i.loc.file_id i.loc.block i.loc.id

  macro_stays : (m : MacroId) → Stays (macro_definition few m) (macro_definition more m)
  macro_stays (macro.Macro2Id i) = item_stays i.loc.container.map.krate _ i.loc.file_id i.loc.block i.loc.id
  macro_stays (macro.MacroRulesId i) = item_stays i.loc.container.map.krate _ i.loc.file_id i.loc.block i.loc.id
  macro_stays (macro.ProcMacroId i) = item_stays i.loc.container.map.krate _ i.loc.file_id i.loc.block i.loc.id

  import_stays : (i : ImportOrExternCrate) → Stays (import_source few i) (import_source more i)
  import_stays (import.Glob g) = mapped _ (source_of few g.use_.loc.file_id g.use_.loc.block) _ (source_stays g.use_.loc.file_id g.use_.loc.block)
  import_stays (import.Import i) = mapped _ (source_of few i.use_.loc.file_id i.use_.loc.block) _ (source_stays i.use_.loc.file_id i.use_.loc.block)
  import_stays (import.ExternCrate i) = mapped _ (source_of few i.loc.file_id i.loc.block) _ (source_stays i.loc.file_id i.loc.block)

  value_import_stays : (i : ImportOrGlob) → Stays (value_import_source few i) (value_import_source more i)
  value_import_stays (value_import.Glob g) = mapped _ (source_of few g.use_.loc.file_id g.use_.loc.block) _ (source_stays g.use_.loc.file_id g.use_.loc.block)
  value_import_stays (value_import.Import i) = mapped _ (source_of few i.use_.loc.file_id i.use_.loc.block) _ (source_stays i.use_.loc.file_id i.use_.loc.block)

  maybe_stays : {I : Type 0} (f g : I → Option ImportSource) → ((i : I) → Stays (f i) (g i)) → (o : Option I) → Stays (maybe_source f o) (maybe_source g o)
  maybe_stays f g stays None = inr refl
  maybe_stays f g stays (Some i) = mapped (λ held. Some held) (f i) (g i) (stays i)

  module _ (maps : Maps) where
    pub module_stays : (m : ModuleId) → Stays (module_definition few maps m) (module_definition more maps m)
    module_stays m = go (module_in maps m)
      where
        go : (o : Option ModuleValue) → Stays (option_and_then (λ (v : ModuleValue). module_by few m.map.krate v.origin) o)
            (option_and_then (λ (v : ModuleValue). module_by more m.map.krate v.origin) o)
        go None = inl refl
        go (Some v) = by_origin m.map.krate v.origin

    visibility_stays : (v : Visibility) → Stays (visibility_source few maps v) (visibility_source more maps v)
    visibility_stays vis.Public = inr refl
    visibility_stays (vis.PubCrate c) = inr refl
    visibility_stays (vis.Module m written) = mapped _ (module_definition few maps m) (module_definition more maps m) (module_stays m)

    def_stays : (d : ModuleDefId) → Stays (definition_of few maps d) (definition_of more maps d)
    def_stays (def.ModuleId m) = module_stays m
    def_stays (def.FunctionId i) = item_stays _ _ i.loc.file_id i.loc.block i.loc.id
    def_stays (def.AdtId i) = adt_stays i
    def_stays (def.EnumVariantId i) = item_stays _ _ i.parent.loc.file_id i.parent.loc.block i.id
    def_stays (def.ConstId i) = item_stays _ _ i.loc.file_id i.loc.block i.loc.id
    def_stays (def.StaticId i) = item_stays _ _ i.loc.file_id i.loc.block i.loc.id
    def_stays (def.TraitId i) = item_stays _ _ i.loc.file_id i.loc.block i.loc.id
    def_stays (def.TypeAliasId i) = item_stays _ _ i.loc.file_id i.loc.block i.loc.id
    def_stays (def.BuiltinType b) = inr refl
    def_stays (def.MacroId i) = macro_stays i

    pub type_stays : (i : Item ModuleDefId ImportOrExternCrate) → Stays (answered_type few maps i) (answered_type more maps i)
    type_stays i = all _ _ _ _ _ _ (def_stays i.def) (maybe_stays (import_source few) (import_source more) import_stays i.import) (visibility_stays i.vis)

    pub value_stays : (i : Item ModuleDefId ImportOrGlob) → Stays (answered_value few maps i) (answered_value more maps i)
    value_stays i =
        all _ _ _ _ _ _ (def_stays i.def) (maybe_stays (value_import_source few) (value_import_source more) value_import_stays i.import)
        (visibility_stays i.vis)

    pub macro_item_stays : (i : Item MacroId ImportOrExternCrate) → Stays (answered_macro few maps i) (answered_macro more maps i)
    macro_item_stays i =
        all _ _ _ _ _ _ (macro_stays i.def) (maybe_stays (import_source few) (import_source more) import_stays i.import) (visibility_stays i.vis)

    -- what isn't left out stays
    pub not_left_out : {I : Type 0} (f g : I → Option AnswerItem) → ((i : I) → Stays (f i) (g i)) → (o : Option I) → is_some (option_and_then f o) ≡ is_some o
        → option_and_then g o ≡ option_and_then f o
    not_left_out f g stays None there = refl
    not_left_out f g stays (Some i) there = elim (stays i) [
      | inl none ↦ clash there (ap (λ (x : Option AnswerItem). is_some x) none)
      | inr same ↦ same
    ]

    pub kept_answer : (local : Local) (m : ModuleId) (path : Path) (shadow : Shadow) (style : Option MacroStyle)
        → LeavesNothingOut (resolution_of maps (asking_of local shadow style) m path).resolved_def (answer_in few maps local m path shadow style)
        → answer_in more maps local m path shadow style ≡ answer_in few maps local m path shadow style
    kept_answer local m path shadow style whole =
        let found = resolution_of maps (asking_of local shadow style) m path in
        let types = not_left_out (answered_type few maps) (answered_type more maps) type_stays found.resolved_def.types whole.types in
        let values = not_left_out (answered_value few maps) (answered_value more maps) value_stays found.resolved_def.values whole.values in
        let macros = not_left_out (answered_macro few maps) (answered_macro more maps) macro_item_stays found.resolved_def.macros whole.macros in
        λ k. record { types = types k; values = values k; macros = macros k; stop = found.segment_index }

-- a diagnostic is told alike where its module and its item are
with_stays : (kind : KindValue) (a b : Option Definition) (i j : Option SourceItem) → Stays a b → Stays i j → Stays (diagnostic_with kind a i)
    (diagnostic_with kind b j)
with_stays kind a b i j (inl none) second = inl (ap (λ (x : Option Definition). diagnostic_with kind x i) none)
with_stays kind None b i j (inr same) second = inl refl
with_stays kind (Some d) b i j (inr same) (inl none) = inl (ap (diagnostic_with kind (Some d)) none)
with_stays kind (Some d) b i j (inr same) (inr alike) = inr (λ k. diagnostic_with kind (same k) (alike k))

module _ (few more : TablesValue) (keeps : KeepsTables few more) (maps : Maps) where
  node_stays : (n : AstId) → Stays (node_source few n) (node_source more n)
  node_stays n = mapped (node_in n) (source_of few n.file_id n.block) (source_of more n.file_id n.block) (source_stays few more keeps n.file_id n.block)

  diagnostic_stays : (d : DiagnosticValue) → Stays (diagnostic_source few maps d) (diagnostic_source more maps d)
  diagnostic_stays d =
      with_stays d.kind (module_definition few maps d.in_module) (module_definition more maps d.in_module) (node_source few (node_of d.kind))
      (node_source more (node_of d.kind))
      (module_stays few more keeps maps d.in_module) (node_stays (node_of d.kind))

  abbrev told_by : TablesValue → DefDiagnostic → Option Diagnostic
  told_by tables d = diagnostic_source tables maps (diagnostic_view d)

  -- one that is told stays
  told_stays : (d : DefDiagnostic) (t : Diagnostic) → told_by few d ≡ Some t → told_by more d ≡ told_by few d
  told_stays d t is = elim (diagnostic_stays (diagnostic_view d)) [
    | inl none ↦ let wrong : Some t ≡ None = sym is ∙ none in absurd (let never : ⊥ = cc in never)
    | inr same ↦ same
  ]

  -- all stay where none is left out
  pub kept_diagnostics : (ds : List DefDiagnostic) (told : List Diagnostic) → AreTold few maps ds told → diagnostics_in more maps ds
      ≡ diagnostics_in few maps ds
  kept_diagnostics [] told all = refl
  kept_diagnostics (d ∷ ds) [] all = absurd (let wrong : ⊥ = cc in wrong)
  kept_diagnostics (d ∷ ds) (t ∷ ts) all =
      let first : told_by few d ≡ Some t = cc in
      let others : AreTold few maps ds ts = cc in
      λ k. cons_option (told_stays d t first k) (kept_diagnostics ds ts others k)
