-- What a name stands for was declared, or was brought by an import that is written.
use Rattle.std.specs.BTreeMap.{is_at}
use Rattle.std.specs.Cmp.Lexicographic.{slice_cmp}
use Rattle.std.specs.Map.{lookup, remove_entry}
use Rattle.std.specs.Ordering.{nat_cmp}
use Rattle.std.proofs.Common.{◌≡◌, ◌∙◌, ℕ, List, [], ◌∷◌, ◌++◌, Bool, true, false, cond, Option, None, Some, IsSome, is_some, map as list_map, slice_get, refl}
use Rattle.std.proofs.Common.{sym, ap, subst, Contains}
use Rattle.std.proofs.lemmas.Cmp.{nat_list_cmp_total}
use Rattle.std.proofs.lemmas.List.Elements.{Contains-append_left}
use Rattle.hir_collector_rules.specs.HirIds.contracts.ids.ModuleDefIdPartialEq.TheImpl as module_def
use Rattle.hir_collector_rules.specs.HirIds.contracts.ids.TraitIdPartialEq.TheImpl as trait_id
use Rattle.hir_collector_rules.specs.HirIds.contracts.macro_kind.MacroIdPartialEq.TheImpl as makro
use Rattle.hir_collector_rules.specs.HirIds.declared.ids.Crate.{Crate}
use Rattle.hir_collector_rules.specs.HirIds.declared.macro_kind.MacroId.{MacroId}
use Rattle.hir_collector_rules.specs.HirIds.declared.ids.ModuleDefId.{ModuleDefId}
use Rattle.hir_collector_rules.specs.HirIds.declared.ids.ModuleId.{ModuleId}
use Rattle.hir_collector_rules.specs.HirIds.declared.ids.TraitId.{TraitId}
use Rattle.hir_collector_rules.specs.HirIds.declared.ids.ModuleDefId.TheVariants as definitions
use Rattle.hir_collector_rules.specs.HirUseTree.declared.imports.ImportAlias.{ImportAlias}
use Rattle.hir_collector_rules.specs.HirUseTree.declared.imports.ImportAlias.TheVariants as aliases
use Rattle.hir_collector_rules.specs.HirUseTree.declared.imports.ImportKind.TheVariants as kinds
use Rattle.hir_collector_rules.specs.HirPerNs.contracts.imports.ImportOrExternCratePartialEq.TheImpl as item_import
use Rattle.hir_collector_rules.specs.HirPerNs.contracts.imports.ImportOrGlobPartialEq.TheImpl as glob_import
use Rattle.hir_collector_rules.specs.HirScopeTable.Table.{rewritten}
use Rattle.hir_collector_rules.specs.HirScope.Bindings.{macro_candidate, taken, takes as takes_slot, type_candidate}
use Rattle.hir_collector_rules.specs.HirScope.Bindings.{value_candidate, with_item_definition, with_item_visibility}
use Rattle.hir_collector_rules.specs.HirScope.Bindings.{written_items}
use Rattle.hir_collector_rules.specs.HirScope.ImportRecords.{is_glob}
use Rattle.hir_collector_rules.specs.HirScope.Entries.{item_at}
use Rattle.hir_collector_rules.specs.HirScope.Globs.{GlobNames, Place, has_place}
use Rattle.hir_collector_rules.specs.HirPerNs.PerNs.{Item, is_nothing, value_import}
use Rattle.hir_collector_rules.specs.HirTextualScope.Macros.{with_macro}
use Rattle.hir_collector_rules.specs.HirTextualScope.declared.textual_scope.TextualMacro.{TextualMacro}
use Rattle.hir_collector_rules.specs.HirScope.Scope.{ScopeValue, empty_scope}
use Rattle.hir_collector_rules.specs.HirScope.Scope.Push.{pushed_scope, taken_candidates, with_unresolved, written_scope}
use Rattle.hir_collector_rules.specs.HirScope.Scope.Updates.{censored_item, censored_macro, is_definition, unnamed_import}
use Rattle.hir_collector_rules.specs.HirPerNs.declared.imports.GlobId.{GlobId}
use Rattle.hir_collector_rules.specs.HirPerNs.declared.imports.ImportId.{ImportId}
use Rattle.hir_collector_rules.specs.HirPerNs.declared.imports.ImportOrExternCrate.{ImportOrExternCrate}
use Rattle.hir_collector_rules.specs.HirPerNs.declared.imports.ImportOrGlob.{ImportOrGlob}
use Rattle.hir_collector_rules.specs.HirPerNs.declared.item_in_ns.ItemInNs.{ItemInNs}
use Rattle.hir_collector_rules.specs.HirPerNs.declared.per_ns.PerNs.{PerNs}
use Rattle.hir_collector_rules.specs.HirPerNs.declared.visibility.Visibility.{Visibility}
use Rattle.hir_collector_rules.specs.HirPerNs.declared.imports.ImportOrExternCrate.TheVariants as ways
use Rattle.hir_collector_rules.specs.HirPerNs.declared.imports.ImportOrGlob.TheVariants as value_ways
use Rattle.hir_collector_rules.specs.HirPerNs.declared.item_in_ns.ItemInNs.TheVariants as in_ns
use Rattle.hir_collector_rules.specs.HirTables.Tables.{TablesValue}
use Rattle.hir_collector_rules.specs.HirDefMapRules.Declaration.{listed}
use Rattle.hir_collector_rules.specs.HirDefMapRules.Overlay.{Maps}
use Rattle.hir_collector_rules.specs.HirDefMapRules.State.{Local, Map, ModuleValue, changed_at, entry_of, module_at, new_id}
use Rattle.hir_collector_rules.specs.HirDefMapRules.State.{new_module, numbered, with_child, with_module_scope}
use Rattle.hir_collector_rules.specs.HirDefMapRules.declared.declaration.Declaration.{Declaration as Listing}
use Rattle.hir_collector_rules.specs.HirDefMapRules.declared.declaration.Declaration.TheVariants as listings
use Rattle.hir_collector_rules.specs.HirGlobImports.Rules.{Rule as GlobRule, May as MayAlong, acts as glob_acts, brings}
use Rattle.hir_collector_rules.specs.HirGlobImports.Rules.{copies, copies_along, follows, follows_along, raises}
use Rattle.hir_collector_rules.specs.HirGlobImports.Rules.{raises_along}
use Rattle.hir_collector_rules.specs.HirGlobImports.declared.edge.Bound.{Bound}
use Rattle.hir_collector_rules.specs.HirGlobImports.declared.edge.Edge.{Edge}
use Rattle.hir_collector_rules.specs.HirGlobImports.declared.edge.Key.{Key}
use Rattle.hir_collector_rules.specs.HirGlobImports.declared.edge.Key.TheVariants.{Types, Values, Macros, Unnamed}
use Rattle.hir_collector_rules.specs.HirImportRules.Changes.{Change as ImportChange, along, keeps_trait, pushes, pushing, records, takes}
use Rattle.hir_collector_rules.specs.HirImportRules.Directives.{answer_by_source, answer_of_crate, glob_of, is_unnamed}
use Rattle.hir_collector_rules.specs.HirImportRules.Directives.{kept_by, kept_of, kept_trait, kind_of, leaf_of}
use Rattle.hir_collector_rules.specs.HirImportRules.Directives.{path_answer, trait_among, way_of}
use Rattle.hir_collector_rules.specs.HirImportRules.Names.{bound_of, redefined, revised, scope_table, view_of, with_trait}
use Rattle.hir_collector_rules.specs.HirImportRules.Rules.{Rule as ImportRule, May as MayImport, acts as import_acts, goes_along, takes_glob, takes_import}
use Rattle.hir_collector_rules.specs.HirImportRules.State.{ImportState, glob_state, scopes_of}
use Rattle.hir_collector_rules.specs.HirImportRules.declared.directive.ImportDirective.{ImportDirective}
use Rattle.hir_collector_rules.specs.HirImportRules.declared.directive.ImportSource.{ImportSource}
use Rattle.hir_collector_rules.specs.HirImportRules.declared.directive.ImportSource.TheVariants as sources
use Rattle.hir_collector_rules.specs.Calls.{error_of}
use Rattle.hir_collector_rules.specs.Changes.{Change, lists, makes, gives_variants, begins_paths, reaches, awaits, ends, settles, changes_imports, adds_textual}
use Rattle.hir_collector_rules.specs.Changes.{takes_textual, defines, describes, helps, lists_derive, notes, exports, uses_macros, tells, goes_on, act, perform}
use Rattle.hir_collector_rules.specs.Changes.{with_builtin_derive}
use Rattle.hir_collector_rules.specs.Invocations.{with_invocation}
use Rattle.hir_collector_rules.specs.declared.exported.ExportedFunction.{ExportedFunction}
use Rattle.hir_collector_rules.specs.Derivation.{CollectedValue, Ends}
use Rattle.hir_collector_rules.specs.Ended.{ended, exporting_scope, without_function, without_functions}
use Rattle.hir_collector_rules.specs.ItemIds.{module_id}
use Rattle.hir_collector_rules.specs.Keys.{Environment, environment}
use Rattle.hir_collector_rules.specs.Macros.{textual_at}
use Rattle.hir_collector_rules.specs.Start.{Beginning, krate_of}
use Rattle.hir_collector_rules.specs.State.{Core, State, import_state}
use Rattle.hir_collector_rules.specs.Steps.{Rule, drops_item, awaits_attribute, lists_derives, faults_derive, exports_macro, reaches_call, rests}
use Rattle.hir_collector_rules.specs.Steps.{expands_call, meets_macro}
use Rattle.hir_collector_rules.specs.Steps.{drops_call, drops_reached, derives_builtin, skips_attribute, falls_back, defines_rules, defines_macro}
use Rattle.hir_collector_rules.specs.Steps.{closes_module, declares_item, declares_enum, lists_constant, lists_impl, opens_module, opens_file, drops_file}
use Rattle.hir_collector_rules.specs.Steps.{misses_file, enters_block, reaches_imports, reaches_crate, resolves_imports, May, Step, Steps, acts, asking, more}
use Rattle.hir_collector_rules.specs.Steps.{none}
use Rattle.hir_collector_rules.specs.Workspace.{Workspace}
use Rattle.hir_collector_rules.proofs.Asks.{still_asked-Step}
use Rattle.hir_collector_rules.proofs.Changes.{AllFine, fine_bringing, fine_expanding, fine_macro, fine_reporting, perform_keeps}
use Rattle.hir_collector_rules.proofs.ImportEdits.{Edit, copy_at, copy_where, edit, edit_of, edited, follow_at, follow_where, imports_after, keeps_unnamed}
use Rattle.hir_collector_rules.proofs.ImportEdits.{map_after, pushes_to, redefines, revises}
use Rattle.hir_def_collector_laws.specs.Imports.{AreBrought, BindingsAreWritten, Brings, BringsValue, HasImport, IsTraitBrought, IsUnderscoreImport}
use Rattle.hir_def_collector_laws.specs.Imports.{UnnamedTraitsAreWritten}
use Rattle.hir_def_collector_laws.proofs.Ended.{ended_by}
use Rattle.hir_def_collector_laws.proofs.Entries.{AllValues, AloneKeys, all_among, all_found, all_last, all_mapped, all_removed, all_set, all_with_entry}
use Rattle.hir_def_collector_laws.proofs.Entries.{alone_mapped, alone_removed, alone_set, alone_with_entry}
use Rattle.hir_def_collector_laws.proofs.Imports.{answer_asked, answer_here, first_written, import_written}
use Rattle.hir_def_collector_laws.proofs.Lists.{standing}
use Rattle.hir_def_collector_laws.proofs.ModuleLists.{IsChanged, IsOfLonger, changed-at, changed_one, newest, of_longer, older, other_one}
use Rattle.hir_def_collector_laws.proofs.Written.{AreAsked, IsAllWritten, IsOfGlob, written-Steps}

-- ---- imports that were found stay

grown-act : (s : State) (c : Change) (r : ImportDirective) → Contains s.core.reached r → Contains (act s c).core.reached r
grown-act s (reaches rs) r h = Contains-append_left s.core.reached rs r h
grown-act s (changes_imports c) r h = subst (λ (rs : List ImportDirective). Contains rs r) (sym (imports_after (import_state s) c)) h
grown-act s other r h = h

grown-perform : (cs : List Change) (s : State) (r : ImportDirective) → Contains s.core.reached r → Contains (perform s cs).core.reached r
grown-perform [] s r h = h
grown-perform (c ∷ cs) s r h = grown-perform cs (act s c) r (grown-act s c r h)

grown-Step : {env : Environment} {finished : Maps} {old new : State} → Step env finished old new → (r : ImportDirective) → Contains old.core.reached r
    → Contains new.core.reached r
grown-Step {finished = finished} {old = old} step r h =
    subst (λ (s : State). Contains s.core.reached r) (sym step.is) (grown-perform (acts finished old step.rule) (asking old step.rule) r h)

-- ---- what these imports bring

module _ (rs : List ImportDirective) where
  -- one of them brings it to the module
  pub record OneBrings (home : ℕ) (way : ImportOrExternCrate) : Type 0 where
    pub directive : ImportDirective
    pub among : Contains rs directive
    pub is : Brings directive way
    pub written_in : directive.home ≡ home

  pub record OneBringsValue (home : ℕ) (way : ImportOrGlob) : Type 0 where
    pub directive : ImportDirective
    pub among : Contains rs directive
    pub is : BringsValue directive way
    pub written_in : directive.home ≡ home

  -- one of them is a glob of the module, or keeps a trait without a name
  pub record OneIsGlob (home : ℕ) : Type 0 where
    pub directive : ImportDirective
    pub among : Contains rs directive
    pub is : IsSome (glob_of directive.source)
    pub written_in : directive.home ≡ home

  pub record OneKeeps (home : ℕ) (id : ImportId) : Type 0 where
    pub directive : ImportDirective
    pub among : Contains rs directive
    pub is : IsUnderscoreImport directive id
    pub written_in : directive.home ≡ home

  abbrev pub IsFineWay : ℕ → Option ImportOrExternCrate → Type 0
  IsFineWay home o = (way : ImportOrExternCrate) → o ≡ Some way → OneBrings home way

  abbrev pub IsFineValue : ℕ → Option ImportOrGlob → Type 0
  IsFineValue home o = (way : ImportOrGlob) → o ≡ Some way → OneBringsValue home way

  abbrev pub IsFineKept : ℕ → Option ImportId → Type 0
  IsFineKept home None = OneIsGlob home
  IsFineKept home (Some id) = OneKeeps home id

  abbrev pub IsFineType : ℕ → Item ModuleDefId ImportOrExternCrate → Type 0
  IsFineType home i = IsFineWay home i.import

  abbrev pub IsFineValueItem : ℕ → Item ModuleDefId ImportOrGlob → Type 0
  IsFineValueItem home i = IsFineValue home i.import

  abbrev pub IsFineMacro : ℕ → Item MacroId ImportOrExternCrate → Type 0
  IsFineMacro home i = IsFineWay home i.import

  abbrev pub IsFineTrait : ℕ → Item (Unit {0}) ImportId → Type 0
  IsFineTrait home i = IsFineKept home i.import

  none_fine : (home : ℕ) → IsFineWay home None
  none_fine home way e = absurd (let no : ⊥ = cc in no)

  value_fine : (home : ℕ) (o : Option ImportOrExternCrate) → IsFineWay home o → IsFineValue home (value_import o)
  value_fine home None f way e = absurd (let no : ⊥ = cc in no)
  value_fine home (Some (ways.Import id)) f way e =
      let same : value_ways.Import id ≡ way = cc in
      let one : OneBrings home (ways.Import id) = f (ways.Import id) refl in
      subst (OneBringsValue home) same (record { directive = one.directive; among = one.among; is = one.is; written_in = one.written_in })
  value_fine home (Some (ways.Glob id)) f way e =
      let same : value_ways.Glob id ≡ way = cc in
      let one : OneBrings home (ways.Glob id) = f (ways.Glob id) refl in
      subst (OneBringsValue home) same (record { directive = one.directive; among = one.among; is = one.is; written_in = one.written_in })
  value_fine home (Some (ways.ExternCrate id)) f way e = absurd (let no : ⊥ = cc in no)

  -- an import that was found brings what it is
  source_brings : (r : ImportDirective) → Contains rs r → IsFineWay r.home (Some (way_of r.source))
  source_brings r h way e = go r.source refl
    where
      go : (source : ImportSource) → r.source ≡ source → OneBrings r.home way
      go (sources.Use id kind) f =
          let same : ways.Import id ≡ way = cc in
          subst (OneBrings r.home) same (record { directive = r; among = h; is = ap way_of f; written_in = refl })
      go (sources.ExternCrate id krate) f =
          let same : ways.ExternCrate id ≡ way = cc in
          subst (OneBrings r.home) same (record { directive = r; among = h; is = ap way_of f; written_in = refl })

  glob_brings : (home : ℕ) (edge_id : GlobId) (r : ImportDirective) → Contains rs r → glob_of r.source ≡ Some edge_id → r.home ≡ home
      → IsFineWay home (Some (ways.Glob edge_id))
  glob_brings home id r h is here way e =
      let same : ways.Glob id ≡ way = cc in
      subst (OneBrings home) same (record { directive = r; among = h; is = is; written_in = here })

  glob_is : (home : ℕ) (edge_id : GlobId) (r : ImportDirective) → Contains rs r → glob_of r.source ≡ Some edge_id → r.home ≡ home → OneIsGlob home
  glob_is home id r h is here = record { directive = r; among = h; is = ap is_some is; written_in = here }

  -- ---- a scope

  pub record IsFineScope (home : ℕ) (s : ScopeValue) : Type 0 where
    pub types : AllValues (IsFineType home) s.types
    pub values : AllValues (IsFineValueItem home) s.values
    pub macros : AllValues (IsFineMacro home) s.macros
    pub traits : AllValues (IsFineTrait home) s.unnamed_traits
    -- and no name has two values
    pub alone : AloneKeys (slice_cmp nat_cmp) nat_list_cmp_total s.values

  module _ (home : ℕ) (globs : GlobNames) (place : Place) (items : PerNs) (by : Option ImportOrExternCrate) (fine : IsFineWay home by) where
    types_pushed : (s : ScopeValue) → IsFineScope home s → AllValues (IsFineType home) (pushed_scope globs place items by s).types
    types_pushed s f = go (is_nothing items)
      where
        bound : (i : Item ModuleDefId ImportOrExternCrate) (b : Bool)
            → AllValues (IsFineType home) (written_items place.1 (cond b (type_candidate (Some i) by) None) s.types)
        bound i true = all_with_entry (IsFineType home) (slice_cmp nat_cmp) s.types place.1 (record { def = i.def; vis = i.vis; import = by }) f.types fine
        bound i false = f.types

        offered : (o : Option (Item ModuleDefId ImportOrExternCrate))
            → AllValues (IsFineType home) (written_items place.1 (taken module_def.ghosts.eq item_import.ghosts.eq s.types globs.types place
            (type_candidate o by))
            s.types)
        offered None = f.types
        offered (Some i) =
            bound i (takes_slot module_def.ghosts.eq item_import.ghosts.eq (has_place globs.types place) (item_at s.types place.1)
            (record { item = record { def = i.def; vis = i.vis; import = by }; is_glob = is_glob by }))

        go : (b : Bool) → AllValues (IsFineType home)
            (cond b (with_unresolved s place.1) (written_scope place.1 (taken_candidates s globs place items by) s)).types
        go true = f.types
        go false = offered items.types

    values_pushed : (s : ScopeValue) → IsFineScope home s → AllValues (IsFineValueItem home) (pushed_scope globs place items by s).values
    values_pushed s f = go (is_nothing items)
      where
        bound : (i : Item ModuleDefId ImportOrGlob) (b : Bool) → AllValues (IsFineValueItem home)
            (written_items place.1 (cond b (value_candidate (Some i) by) None) s.values)
        bound i true =
            all_with_entry (IsFineValueItem home) (slice_cmp nat_cmp) s.values place.1 (record { def = i.def; vis = i.vis; import = value_import by }) f.values
            (value_fine home by fine)
        bound i false = f.values

        offered : (o : Option (Item ModuleDefId ImportOrGlob)) → AllValues (IsFineValueItem home)
            (written_items place.1 (taken module_def.ghosts.eq glob_import.ghosts.eq s.values globs.values place (value_candidate o by)) s.values)
        offered None = f.values
        offered (Some i) =
            bound i (takes_slot module_def.ghosts.eq glob_import.ghosts.eq (has_place globs.values place) (item_at s.values place.1)
            (record { item = record { def = i.def; vis = i.vis; import = value_import by }; is_glob = is_glob by }))

        go : (b : Bool) → AllValues (IsFineValueItem home)
            (cond b (with_unresolved s place.1) (written_scope place.1 (taken_candidates s globs place items by) s)).values
        go true = f.values
        go false = offered items.values

    values_alone : (s : ScopeValue) → IsFineScope home s → AloneKeys (slice_cmp nat_cmp) nat_list_cmp_total (pushed_scope globs place items by s).values
    values_alone s f = go (is_nothing items)
      where
        bound : (i : Item ModuleDefId ImportOrGlob) (b : Bool) → AloneKeys (slice_cmp nat_cmp) nat_list_cmp_total
            (written_items place.1 (cond b (value_candidate (Some i) by) None) s.values)
        bound i true =
            alone_with_entry (slice_cmp nat_cmp) nat_list_cmp_total s.values place.1 (record { def = i.def; vis = i.vis; import = value_import by }) f.alone
        bound i false = f.alone

        offered : (o : Option (Item ModuleDefId ImportOrGlob)) → AloneKeys (slice_cmp nat_cmp) nat_list_cmp_total
            (written_items place.1 (taken module_def.ghosts.eq glob_import.ghosts.eq s.values globs.values place (value_candidate o by)) s.values)
        offered None = f.alone
        offered (Some i) =
            bound i (takes_slot module_def.ghosts.eq glob_import.ghosts.eq (has_place globs.values place) (item_at s.values place.1)
            (record { item = record { def = i.def; vis = i.vis; import = value_import by }; is_glob = is_glob by }))

        go : (b : Bool) → AloneKeys (slice_cmp nat_cmp) nat_list_cmp_total
            (cond b (with_unresolved s place.1) (written_scope place.1 (taken_candidates s globs place items by) s)).values
        go true = f.alone
        go false = offered items.values

    macros_pushed : (s : ScopeValue) → IsFineScope home s → AllValues (IsFineMacro home) (pushed_scope globs place items by s).macros
    macros_pushed s f = go (is_nothing items)
      where
        bound : (i : Item MacroId ImportOrExternCrate) (b : Bool) → AllValues (IsFineMacro home)
            (written_items place.1 (cond b (macro_candidate (Some i) by) None) s.macros)
        bound i true = all_with_entry (IsFineMacro home) (slice_cmp nat_cmp) s.macros place.1 (record { def = i.def; vis = i.vis; import = by }) f.macros fine
        bound i false = f.macros

        offered : (o : Option (Item MacroId ImportOrExternCrate)) → AllValues (IsFineMacro home)
            (written_items place.1 (taken makro.ghosts.eq item_import.ghosts.eq s.macros globs.macros place (macro_candidate o by)) s.macros)
        offered None = f.macros
        offered (Some i) =
            bound i (takes_slot makro.ghosts.eq item_import.ghosts.eq (has_place globs.macros place) (item_at s.macros place.1)
            (record { item = record { def = i.def; vis = i.vis; import = by }; is_glob = is_glob by }))

        go : (b : Bool) → AllValues (IsFineMacro home)
            (cond b (with_unresolved s place.1) (written_scope place.1 (taken_candidates s globs place items by) s)).macros
        go true = f.macros
        go false = offered items.macros

    traits_pushed : (s : ScopeValue) → IsFineScope home s → AllValues (IsFineTrait home) (pushed_scope globs place items by s).unnamed_traits
    traits_pushed s f = go (is_nothing items)
      where
        go : (b : Bool) → AllValues (IsFineTrait home)
            (cond b (with_unresolved s place.1) (written_scope place.1 (taken_candidates s globs place items by) s)).unnamed_traits
        go true = f.traits
        go false = f.traits

  -- an item that is written anew keeps what brought it
  module _ {D I : Type 0} (P : Item D I → Type 0) (new : Item D I → Item D I) (keeps : (i : Item D I) → P i → P (new i)) where
    rewritten_fine : (items : List (List ℕ × Item D I)) (name : List ℕ) → AllValues P items → AllValues P (rewritten new items name (item_at items name))
    rewritten_fine items name f = go (item_at items name) refl
      where
        go : (o : Option (Item D I)) → item_at items name ≡ o → AllValues P (rewritten new items name o)
        go None e = f
        go (Some i) e = all_set P (is_at (slice_cmp nat_cmp name)) items (new i) f (keeps i (all_found P (is_at (slice_cmp nat_cmp name)) items i f e))

  rewritten_alone : (new : Item ModuleDefId ImportOrGlob → Item ModuleDefId ImportOrGlob) (items : List (List ℕ × Item ModuleDefId ImportOrGlob))
      (name : List ℕ)
      → AloneKeys (slice_cmp nat_cmp) nat_list_cmp_total items → AloneKeys (slice_cmp nat_cmp) nat_list_cmp_total
      (rewritten new items name (item_at items name))
  rewritten_alone new items name f = go (item_at items name)
    where
      go : (o : Option (Item ModuleDefId ImportOrGlob)) → AloneKeys (slice_cmp nat_cmp) nat_list_cmp_total (rewritten new items name o)
      go None = f
      go (Some i) = alone_set (slice_cmp nat_cmp) nat_list_cmp_total (is_at (slice_cmp nat_cmp name)) items (new i) f

  redefined_fine : (name : List ℕ) (def : ItemInNs) (vis : Visibility) (home : ℕ) (s : ScopeValue) → IsFineScope home s
      → IsFineScope home (redefined name def vis s)
  redefined_fine name (in_ns.Types def) vis home s f =
      record {
        types = rewritten_fine (IsFineType home) (with_item_definition def vis) (λ i p. p) s.types name f.types;
        values = f.values;
        macros = f.macros;
        traits = f.traits;
        alone = f.alone;
      }
  redefined_fine name (in_ns.Values def) vis home s f =
      record {
        types = f.types;
        values = rewritten_fine (IsFineValueItem home) (with_item_definition def vis) (λ i p. p) s.values name f.values;
        macros = f.macros;
        traits = f.traits;
        alone = rewritten_alone (with_item_definition def vis) s.values name f.alone;
      }
  redefined_fine name (in_ns.Macros def) vis home s f =
      record {
        types = f.types;
        values = f.values;
        macros = rewritten_fine (IsFineMacro home) (with_item_definition def vis) (λ i p. p) s.macros name f.macros;
        traits = f.traits;
        alone = f.alone;
      }

  -- a trait that is kept without a name
  kept_import_fine : (home : ℕ) (by : Option ImportId) → IsFineKept home by → (o : Option (Item (Unit {0}) ImportId))
      → ((i : Item (Unit {0}) ImportId) → o ≡ Some i → IsFineTrait home i) → IsFineKept home (unnamed_import o by)
  kept_import_fine home by fine None f = fine
  kept_import_fine home by fine (Some i) f = f i refl

  trait_fine : (home : ℕ) (id : TraitId) (vis : Visibility) (by : Option ImportId) → IsFineKept home by → (s : ScopeValue) → IsFineScope home s
      → IsFineScope home (with_trait id vis by s)
  trait_fine home id vis by fine s f = record {
    types = f.types;
    values = f.values;
    macros = f.macros;
    traits = all_last (IsFineTrait home) trait_id.ghosts.eq s.unnamed_traits id _ f.traits
        (kept_import_fine home by fine (lookup (trait_id.ghosts.eq id) s.unnamed_traits) (λ i e. all_found (IsFineTrait home) (trait_id.ghosts.eq id)
        s.unnamed_traits i f.traits e));
    alone = f.alone;
  }

  revised_fine : (home : ℕ) (key : Key) (vis : Visibility) → OneIsGlob home → (s : ScopeValue) → IsFineScope home s → IsFineScope home (revised key vis s)
  revised_fine home (Types name) vis fine s f =
      record {
        types = rewritten_fine (IsFineType home) (with_item_visibility vis) (λ i p. p) s.types name f.types;
        values = f.values;
        macros = f.macros;
        traits = f.traits;
        alone = f.alone;
      }
  revised_fine home (Values name) vis fine s f =
      record {
        types = f.types;
        values = rewritten_fine (IsFineValueItem home) (with_item_visibility vis) (λ i p. p) s.values name f.values;
        macros = f.macros;
        traits = f.traits;
        alone = rewritten_alone (with_item_visibility vis) s.values name f.alone;
      }
  revised_fine home (Macros name) vis fine s f =
      record {
        types = f.types;
        values = f.values;
        macros = rewritten_fine (IsFineMacro home) (with_item_visibility vis) (λ i p. p) s.macros name f.macros;
        traits = f.traits;
        alone = f.alone;
      }
  revised_fine home (Unnamed id) vis fine s f = trait_fine home id vis None fine s f

  -- what brings it is an import of the module
  abbrev IsFineEdit : ℕ → Edit → Type 0
  IsFineEdit home (pushes_to globs name items by) = IsFineWay home by
  IsFineEdit home (keeps_unnamed id vis by) = IsFineKept home by
  IsFineEdit home (redefines name def vis) = Unit {0}
  IsFineEdit home (revises key vis) = OneIsGlob home

  edit_fine : (m : ModuleId) (home : ℕ) (e : Edit) → IsFineEdit home e → (s : ScopeValue) → IsFineScope home s → IsFineScope home (edit m e s)
  edit_fine m home (pushes_to globs name items by) fine s f = record {
    types = types_pushed home globs (m, name) items by fine s f;
    values = values_pushed home globs (m, name) items by fine s f;
    macros = macros_pushed home globs (m, name) items by fine s f;
    traits = traits_pushed home globs (m, name) items by fine s f;
    alone = values_alone home globs (m, name) items by fine s f;
  }
  edit_fine m home (keeps_unnamed id vis by) fine s f = trait_fine home id vis by fine s f
  edit_fine m home (redefines name def vis) fine s f = redefined_fine name def vis home s f
  edit_fine m home (revises key vis) fine s f = revised_fine home key vis fine s f

  -- ---- a map

  -- each module binds what imports of it bring
  pub record AreFine (ms : List ModuleValue) : Type 0 where
    pub each : (number : ℕ) (m : ModuleValue) → slice_get ms number ≡ Some m → IsFineScope number m.scope

  fine_changed : (ms : List ModuleValue) (at : ℕ) (change : ModuleValue → ModuleValue)
      → ((m : ModuleValue) → IsFineScope at m.scope → IsFineScope at (change m).scope) → AreFine ms → AreFine (changed_at ms at change)
  fine_changed ms at change keeps f = record { each = λ number m e. go number m (changed-at ms at change number m e) }
    where
      go : (number : ℕ) (m : ModuleValue) → IsChanged ms at change number m → IsFineScope number m.scope
      go number m (changed_one old here there is) =
          let before : IsFineScope at old.scope = subst (λ (k : ℕ). IsFineScope k old.scope) here (f.each number old there) in
          subst (λ (k : ℕ). IsFineScope k m.scope) (sym here) (subst (λ (v : ModuleValue). IsFineScope at v.scope) (sym is) (keeps old before))
      go number m (other_one ne there) = f.each number m there

  fine_empty : (home : ℕ) → IsFineScope home empty_scope
  fine_empty home = record { types = tt; values = tt; macros = tt; traits = tt; alone = tt }

  fine_longer : (ms : List ModuleValue) (new : ModuleValue) → new.scope ≡ empty_scope → AreFine ms → AreFine (ms ++ new ∷ [])
  fine_longer ms new empty f = record { each = λ number m e. go number m (of_longer ms new number m e) }
    where
      go : (number : ℕ) (m : ModuleValue) → IsOfLonger ms new number m → IsFineScope number m.scope
      go number m (older h) = f.each number m h
      go number m (newest h) = subst (λ (s : ScopeValue). IsFineScope number s) (sym (ap (λ (v : ModuleValue). v.scope) h ∙ empty)) (fine_empty number)

  fine_listed : (home : ℕ) (d : Listing) (s : ScopeValue) → IsFineScope home s → IsFineScope home (listed d s)
  fine_listed home (listings.Def def) s f = record { types = f.types; values = f.values; macros = f.macros; traits = f.traits; alone = f.alone }
  fine_listed home other s f = record { types = f.types; values = f.values; macros = f.macros; traits = f.traits; alone = f.alone }

  abbrev AreFineEdits : Option (ℕ × Edit) → Type 0
  AreFineEdits None = Unit {0}
  AreFineEdits (Some e) = IsFineEdit e.0 e.1

  edited_fine : (m : Map) (o : Option (ℕ × Edit)) → AreFineEdits o → AreFine m.modules → AreFine (edited m o).modules
  edited_fine m None fine f = f
  edited_fine m (Some e) fine f =
      fine_changed m.modules e.0 (with_module_scope (edit (numbered m.id e.0) e.1)) (λ v g. edit_fine (numbered m.id e.0) e.0 e.1 fine v.scope g) f

  -- ---- changes

  abbrev IsFineImport : ImportChange → Type 0
  IsFineImport (pushes home name items source) = IsFineWay home (pushing source)
  IsFineImport (keeps_trait finished home id vis by) = (tr : TraitId) → id ≡ Some tr → IsFineKept home by
  IsFineImport (takes i t) = Unit {0}
  IsFineImport (records edges) = Unit {0}
  IsFineImport (along finished (copies slot of vis by)) = IsFineWay slot.at (Some (ways.Glob by)) × OneIsGlob slot.at
  IsFineImport (along finished (brings slot by)) = Unit {0}
  IsFineImport (along finished (follows slot of vis)) = OneIsGlob slot.at
  IsFineImport (along finished (raises slot vis)) = OneIsGlob slot.at

  abbrev IsFineChange : State → Change → Type 0
  IsFineChange s (changes_imports c) = IsFineImport c
  IsFineChange s other = Unit {0}

  fine_edits : (s : ImportState) (c : ImportChange) → IsFineImport c → AreFineEdits (edit_of s c)
  fine_edits s (pushes home None items source) fine = tt
  fine_edits s (pushes home (Some name) items source) fine = fine
  fine_edits s (keeps_trait finished home None vis by) fine = tt
  fine_edits s (keeps_trait finished home (Some id) vis by) fine = fine id refl
  fine_edits s (takes i t) fine = tt
  fine_edits s (records edges) fine = tt
  fine_edits s (along finished (copies slot of vis by)) fine = go (bound_of (scopes_of finished s) of slot.key)
    where
      at_key : (key : Key) (b : Bound) → IsFineEdit slot.at (copy_at s key vis by b)
      at_key (Types name) b = fine.0
      at_key (Values name) b = fine.0
      at_key (Macros name) b = fine.0
      at_key (Unnamed id) b = fine.1

      go : (o : Option Bound) → AreFineEdits (copy_where s slot vis by o)
      go None = tt
      go (Some b) = at_key slot.key b
  fine_edits s (along finished (brings slot by)) fine = tt
  fine_edits s (along finished (follows slot of vis)) fine = go (bound_of (scopes_of finished s) of slot.key)
    where
      at_key : (key : Key) (b : Bound) → IsFineEdit slot.at (follow_at s key vis b)
      at_key (Types name) b = tt
      at_key (Values name) b = tt
      at_key (Macros name) b = tt
      at_key (Unnamed id) b = fine

      go : (o : Option Bound) → AreFineEdits (follow_where s slot vis o)
      go None = tt
      go (Some b) = at_key slot.key b
  fine_edits s (along finished (raises slot vis)) fine = fine

  -- all that a state binds is fine
  pub record IsFineState (s : State) : Type 0 where
    pub modules : AreFine s.core.map.modules

  -- macros in textual scope are none of these
  textual_fine : (ms : List ModuleValue) (home : ℕ) (change : List TextualMacro → List TextualMacro) → AreFine ms
      → AreFine (changed_at ms home (with_module_scope (λ (x : ScopeValue). record x { legacy_macros = change x.legacy_macros })))
  textual_fine ms home change f =
      fine_changed ms home (with_module_scope (λ (x : ScopeValue). record x { legacy_macros = change x.legacy_macros }))
      (λ v g. record { types = g.types; values = g.values; macros = g.macros; traits = g.traits; alone = g.alone }) f

  fine-act : (s : State) (c : Change) → IsFineState s → IsFineChange s c → IsFineState (act s c)
  fine-act s (lists home d) f fine =
      record { modules = fine_changed s.core.map.modules home (with_module_scope (listed d)) (λ v g. fine_listed home d v.scope g) f.modules }
  fine-act s (makes home name origin visibility) f fine = record {
    modules =
        fine_longer (changed_at s.core.map.modules home (with_child name (new_id s.core.map))) (new_module origin visibility (Some (module_id s.core.map home)))
        refl
        (fine_changed s.core.map.modules home (with_child name (new_id s.core.map)) (λ v g. g) f.modules);
  }
  fine-act s (changes_imports c) f fine = record {
    modules =
        subst (λ (m : Map). AreFine m.modules) (sym (map_after (import_state s) c))
        (edited_fine s.core.map (edit_of (import_state s) c) (fine_edits (import_state s) c fine) f.modules);
  }
  fine-act s (adds_textual home name makro) f fine =
      record { modules = textual_fine s.core.map.modules home (λ macros. with_macro macros name makro) f.modules }
  fine-act s (takes_textual home from_) f fine = record { modules = textual_fine s.core.map.modules home (λ _. textual_at s.core.map from_) f.modules }
  fine-act s (lists_derive home imp) f fine = record {
    modules =
        fine_changed s.core.map.modules home (with_module_scope (with_builtin_derive imp))
        (λ v g. record { types = g.types; values = g.values; macros = g.macros; traits = g.traits; alone = g.alone }) f.modules;
  }
  fine-act s (notes home invocation) f fine = record {
    modules =
        fine_changed s.core.map.modules home (with_module_scope (with_invocation invocation))
        (λ v g. record { types = g.types; values = g.values; macros = g.macros; traits = g.traits; alone = g.alone }) f.modules;
  }
  fine-act s other f fine = record { modules = f.modules }

  -- ---- rules

  abbrev AllImports : List ImportChange → Type 0
  AllImports [] = Unit {0}
  AllImports (c ∷ cs) = IsFineImport c × AllImports cs

  imports_all : (cs : List ImportChange) (t : State) → AllImports cs → AllFine IsFineChange t (list_map changes_imports cs)
  imports_all [] t all = tt
  imports_all (c ∷ cs) t all = (all.0, imports_all cs (act t (changes_imports c)) all.1)

  -- an `extern crate` keeps no trait
  no_trait : (krate : Option Crate) → trait_among (kept_of kinds.Plain (answer_of_crate krate)).types ≡ None
  no_trait None = refl
  no_trait (Some krate) = refl

  unnamed_alias : (alias : Option ImportAlias) (o : Option TraitId) (tr : TraitId) → cond (is_unnamed alias) o None ≡ Some tr
      → (alias ≡ Some aliases.Underscore) × (o ≡ Some tr)
  unnamed_alias None o tr e = absurd (let no : ⊥ = cc in no)
  unnamed_alias (Some aliases.Underscore) o tr e = (refl, e)
  unnamed_alias (Some (aliases.Alias name)) o tr e = absurd (let no : ⊥ = cc in no)

  kept_fine : (finished : Maps) (local : Local) (m : Map) (r : ImportDirective) → Contains rs r → (tr : TraitId) → kept_trait finished local m r ≡ Some tr
      → IsFineKept r.home (leaf_of r.source)
  kept_fine finished local m r h tr e = go r.source refl
    where
      kept : (r.alias ≡ Some aliases.Underscore) × (trait_among (kept_by finished local m r).types ≡ Some tr)
      kept = unnamed_alias r.alias (trait_among (kept_by finished local m r).types) tr e

      go : (source : ImportSource) → r.source ≡ source → IsFineKept r.home (leaf_of source)
      go (sources.Use id kind) is = record { directive = r; among = h; is = record { way = ap way_of is; alias = kept.0 }; written_in = refl }
      go (sources.ExternCrate id krate) is =
          let nothing_kept : trait_among (kept_by finished local m r).types ≡ None =
          ap (λ (source : ImportSource). trait_among (kept_of (kind_of source) (answer_by_source source (path_answer finished local m r))).types) is ∙ no_trait
          krate in
          absurd (let no : None ≡ Some tr = sym nothing_kept ∙ kept.1 in cc)

  module _ (finished : Maps) (s : State) (found : (r : ImportDirective) → Contains s.core.reached r → Contains rs r)
      (globs : (j : ℕ) (e : Edge) → slice_get s.core.globs.edges j ≡ Some e → IsFineWay e.importer (Some (ways.Glob e.id)) × OneIsGlob e.importer) where
    -- an edge leads from a glob of its module
    here_glob : (j : ℕ) (e : Edge) (at : ℕ) → slice_get s.core.globs.edges j ≡ Some e → e.importer ≡ at → IsFineWay at (Some (ways.Glob e.id)) × OneIsGlob at
    here_glob j e at recorded into = subst (λ (k : ℕ). IsFineWay k (Some (ways.Glob e.id)) × OneIsGlob k) into (globs j e recorded)

    glob_all : (rule : GlobRule) → MayAlong scope_table (glob_state finished (import_state s)) rule
        → AllImports (list_map (along finished) (glob_acts (view_of (scopes_of finished (import_state s))) rule))
    glob_all (copies_along j e slot b) may = (here_glob j e slot.at may.shows.recorded may.shows.at, (tt, tt))
    glob_all (follows_along j e slot b) may = ((here_glob j e slot.at may.shows.recorded may.shows.at).1, (tt, tt))
    glob_all (raises_along j e slot vis) may = ((here_glob j e slot.at may.shows.recorded may.shows.at).1, tt)

    rule_all : (rule : ImportRule) → MayImport finished (import_state s) rule → AllImports (import_acts finished (import_state s) rule)
    rule_all (takes_import i r t) may =
        let among : Contains rs r = found r (standing s.core.reached i r may.import) in
        (source_brings r among, (kept_fine finished s.core.local s.core.map r among, (tt, tt)))
    rule_all (takes_glob i r t by target edges) may = (tt, (tt, tt))
    rule_all (goes_along rule) may = glob_all rule may

    fine_rule : (r : Rule) → May finished s r → AllFine IsFineChange (asking s r) (acts finished s r)
    fine_rule (declares_item v d rest) may = (tt, (tt, (none_fine v.site.home, tt)))
    fine_rule (declares_enum site head name variants rest) may = (tt, (tt, (tt, (none_fine site.home, tt))))
    fine_rule (opens_module site head name items rest) may = (tt, (tt, (tt, (tt, (none_fine site.home, tt)))))
    fine_rule (opens_file site head name search file rest) may = (tt, (tt, (tt, (tt, (none_fine site.home, tt)))))
    fine_rule (misses_file site head name search report rest) may = (tt, (tt, (tt, (tt, (none_fine site.home, (tt, tt))))))
    fine_rule (reaches_imports site head tree rest) may = (tt, (tt, (tt, tt)))
    fine_rule (reaches_crate site head name alias rest) may = (tt, (tt, (tt, (tt, (tt, tt)))))
    fine_rule (defines_rules site head name expander helpers rest) may =
        (tt, (tt, (tt, (tt, fine_macro IsFineChange _ _ expander (λ t. tt) head name _ (λ t. none_fine 0) _))))
    fine_rule (defines_macro site head name expander helpers rest) may =
        (tt, (tt, (tt, (tt, (none_fine site.home, fine_reporting IsFineChange _ _ expander (λ t. tt) _)))))
    fine_rule (lists_derives v at a adt paths call rest) may = (tt, (tt, (tt, tt)))
    fine_rule (exports_macro site head name d e rest) may = (tt, (tt, (tt, (tt, (none_fine site.home, (tt, (none_fine site.home, tt)))))))
    fine_rule (meets_macro i d makro x) may = (tt, tt)
    fine_rule rests may = (tt, tt)
    fine_rule (expands_call i d makro x) may = (tt, (tt, (tt, fine_expanding IsFineChange _ (λ t helper. tt) _ _ d (error_of x.there) (λ t text. tt) _)))
    fine_rule (drops_call i d) may = (tt, tt)
    fine_rule (drops_reached i d makro) may = (tt, fine_bringing IsFineChange _ (λ t helper. tt) _ _)
    fine_rule (derives_builtin i d makro imp) may = (tt, (tt, (tt, fine_bringing IsFineChange _ (λ t helper. tt) _ _)))
    fine_rule (falls_back i d k waited) may = (tt, (tt, (tt, tt)))
    fine_rule (resolves_imports rule) may = imports_all (import_acts finished (import_state s) rule) (asking s (resolves_imports rule)) (rule_all rule may)
    fine_rule other may = (tt, (tt, tt))

  -- ---- what others see of the root of a procedural-macro crate

  pub fine_without : (home : ℕ) (fs : List ExportedFunction) (s : ScopeValue) → IsFineScope home s → IsFineScope home (without_functions fs s)
  fine_without home [] s f = f
  fine_without home (x ∷ xs) s f =
      fine_without home xs (without_function x.name x.id s)
      (record {
        types = f.types;
        values = (removed (is_definition module_def.ghosts.eq (definitions.FunctionId x.id) (item_at s.values x.name))).0;
        macros = f.macros;
        traits = f.traits;
        alone = (removed (is_definition module_def.ghosts.eq (definitions.FunctionId x.id) (item_at s.values x.name))).1;
      })
    where
      removed : (b : Bool) → AllValues (IsFineValueItem home) (cond b (remove_entry (is_at (slice_cmp nat_cmp x.name)) s.values) s.values)
          × AloneKeys (slice_cmp nat_cmp) nat_list_cmp_total (cond b (remove_entry (is_at (slice_cmp nat_cmp x.name)) s.values) s.values)
      removed true = (
        all_removed (IsFineValueItem home) (is_at (slice_cmp nat_cmp x.name)) s.values f.values,
        alone_removed (slice_cmp nat_cmp) nat_list_cmp_total
            (is_at (slice_cmp nat_cmp x.name)) s.values f.alone,
      )
      removed false = (f.values, f.alone)

  fine_exporting : (home : ℕ) (krate : Crate) (fs : List ExportedFunction) (s : ScopeValue) → IsFineScope home s → IsFineScope home (exporting_scope krate fs s)
  fine_exporting home krate fs s f =
      let left : IsFineScope home (without_functions fs s) = fine_without home fs s f in
      record {
        types = all_mapped (IsFineType home) (censored_item krate) (λ i p. p) (without_functions fs s).types left.types;
        values = all_mapped (IsFineValueItem home) (censored_item krate) (λ i p. p) (without_functions fs s).values left.values;
        macros = all_mapped (IsFineMacro home) (censored_macro krate) (λ i p. p) (without_functions fs s).macros left.macros;
        traits = all_mapped (IsFineTrait home) (censored_item krate) (λ i p. p) (without_functions fs s).unnamed_traits left.traits;
        alone = alone_mapped (slice_cmp nat_cmp) nat_list_cmp_total (censored_item krate) (without_functions fs s).values left.alone;
      }

  pub fine_ended : (c : Core) → AreFine c.map.modules → AreFine (ended c).modules
  fine_ended c f =
      ended_by c (λ (m : Map). AreFine m.modules) f
      (fine_changed c.map.modules 0 (with_module_scope (exporting_scope c.map.id.krate c.exported))
      (λ v g. fine_exporting 0 c.map.id.krate c.exported v.scope g) f)

module _ (tables : TablesValue) (w : Workspace) (from : Beginning) (answer : CollectedValue) (rs : List ImportDirective) where
  fine-Steps : {finished : Maps} {begun last : State} → answer.map.id.krate ≡ krate_of from.start → IsAllWritten tables w from answer begun
      → AreAsked tables w from answer last
      → ((r : ImportDirective) → Contains last.core.reached r → Contains rs r) → IsFineState rs begun → Steps (environment tables w) finished begun last
      → IsFineState rs last
  fine-Steps here first asked found f none = f
  fine-Steps {finished = finished} here first asked found f (more old new before step) =
      let earlier : AreAsked tables w from answer old = λ key h. asked key (still_asked-Step step key h) in
      let found_earlier : (r : ImportDirective) → Contains old.core.reached r → Contains rs r = λ r h. found r (grown-Step step r h) in
      let written : IsAllWritten tables w from answer old = written-Steps tables w from answer here before earlier first in
      let fine : IsFineState rs old = fine-Steps here first earlier found_earlier f before in
      let globs : (j : ℕ) (e : Edge) → slice_get old.core.globs.edges j ≡ Some e → IsFineWay rs e.importer (Some (ways.Glob e.id)) × OneIsGlob rs e.importer =
      λ j e at.
      let one : IsOfGlob tables w from answer old.core.reached e = written.globs e (standing old.core.globs.edges j e at) in
      let among : Contains rs one.directive = found_earlier one.directive one.among in
      (glob_brings rs e.importer e.id one.directive among one.is_glob one.into, glob_is rs e.importer e.id one.directive among one.is_glob one.into) in
      let begun : IsFineState rs (asking old step.rule) = record { modules = fine.modules } in
      let done = perform_keeps (IsFineState rs) (IsFineChange rs) (fine-act rs) (acts finished old step.rule) (asking old step.rule) begun
      (fine_rule rs finished old found_earlier globs step.rule step.may) in
      subst (IsFineState rs) (sym step.is) (record { modules = done.modules })

module _ (tables : TablesValue) (w : Workspace) (finished : Maps) (from : Beginning) (answer : CollectedValue) (e : Ends tables w finished from answer) where
  abbrev found_imports : List ImportDirective
  found_imports = e.last.core.reached

  pub fine_last : IsFineState found_imports e.last
  fine_last =
      fine-Steps tables w from answer found_imports (answer_here tables w finished from answer e) (first_written tables w finished from answer e)
      (answer_asked tables w finished from answer e) (λ r h. h)
      (record { modules = fine_longer found_imports [] _ refl (record { each = λ number m h. absurd (let no : ⊥ = cc in no) }) }) e.derived

  fine_answer : AreFine found_imports answer.map.modules
  fine_answer = subst (λ (m : Map). AreFine found_imports m.modules) (sym e.map_is) (fine_ended found_imports e.last.core fine_last.modules)

  has_import : (number : ℕ) (way : ImportOrExternCrate) → OneBrings found_imports number way → HasImport tables w from answer
      (λ r. Brings r way × (r.home ≡ number))
  has_import number way one =
      record {
        directive = one.directive;
        is_import = import_written tables w finished from answer e one.directive one.among;
        is_such = (one.is, one.written_in);
      }

  has_value : (number : ℕ) (way : ImportOrGlob) → OneBringsValue found_imports number way → HasImport tables w from answer
      (λ r. BringsValue r way × (r.home ≡ number))
  has_value number way one =
      record {
        directive = one.directive;
        is_import = import_written tables w finished from answer e one.directive one.among;
        is_such = (one.is, one.written_in);
      }

  entry_brought : (number : ℕ) (o : Option ModuleValue) → ((v : ModuleValue) → o ≡ Some v → IsFineScope found_imports number v.scope) → (name : List ℕ)
      → AreBrought tables w from answer number (entry_of o name)
  entry_brought number None f name = record {
    types = λ i way at is. absurd (let no : ⊥ = cc in no);
    values = λ i way at is. absurd (let no : ⊥ = cc in no);
    macros = λ i way at is. absurd (let no : ⊥ = cc in no);
  }
  entry_brought number (Some m) f name =
      let fine : IsFineScope found_imports number m.scope = f m refl in
      record {
        types =
            λ i way at is. has_import number way (all_found (IsFineType found_imports number) (is_at (slice_cmp nat_cmp name)) m.scope.types i fine.types at way
            is);
        values =
            λ i way at is. has_value number way (all_found (IsFineValueItem found_imports number) (is_at (slice_cmp nat_cmp name)) m.scope.values i fine.values
            at way is);
        macros =
            λ i way at is. has_import number way (all_found (IsFineMacro found_imports number) (is_at (slice_cmp nat_cmp name)) m.scope.macros i fine.macros at
            way is);
      }

  trait_kept : (number : ℕ) (item : Item (Unit {0}) ImportId) → IsFineTrait found_imports number item → IsTraitBrought tables w from answer number item
  trait_kept number item fine = record {
    by_import = λ id is.
        let one : OneKeeps found_imports number id = subst (IsFineKept found_imports number) is fine in
        record {
          directive = one.directive;
          is_import = import_written tables w finished from answer e one.directive one.among;
          is_such = (one.is, one.written_in);
        };
    by_glob = λ is.
        let one : OneIsGlob found_imports number = subst (IsFineKept found_imports number) is fine in
        record {
          directive = one.directive;
          is_import = import_written tables w finished from answer e one.directive one.among;
          is_such = (one.is, one.written_in);
        };
  }

pub bindings_are_written : BindingsAreWritten
bindings_are_written tables w finished from answer e number name =
    entry_brought tables w finished from answer e number (module_at answer.map number) (λ v at. (fine_answer tables w finished from answer e).each number v at)
    name

pub unnamed_traits_are_written : UnnamedTraitsAreWritten
unnamed_traits_are_written tables w finished from answer e number m at id item among =
    let fine : IsFineScope e.last.core.reached number m.scope = (fine_answer tables w finished from answer e).each number m at in
    trait_kept tables w finished from answer e number item (all_among (IsFineTrait e.last.core.reached number) m.scope.unnamed_traits id item fine.traits among)
