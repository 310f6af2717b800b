-- All that a list of a trait or an impl has is told, and the same when it is asked for again.
use Rattle.std.specs.List.{cons_option, filter_map}
use Rattle.std.specs.Option.{option_and_then}
use Rattle.std.proofs.Common.{◌≡◌, ◌∙◌, inl, inr, ap, sym, subst, refl, ℕ, ◌+◌, Bool, true, false, is_some, List, [], ◌∷◌, ◌++◌, map, Option, Some, None}
use Rattle.std.proofs.Common.{◌<◌, IsSome, option_map, slice_get}
use Rattle.std.specs.Prelude.{unwrap_or, cond, is_none, not, ◌||◌, Ok, Err}
use Rattle.std.proofs.Common.{zero, suc, Contains}
use mathlib.Core.Bool.{true≢false}
use Rattle.hir_session_machine.specs.HirBase.ModPath.{Path}
use Rattle.hir_session_machine.specs.HirBase.declared.macro_kind.MacroCallLoc.{MacroCallLoc}
use Rattle.hir_session_machine.specs.HirBase.declared.tree_id.TreeKey.{TreeKey}
use Rattle.hir_session_machine.specs.HirBase.Place.{PlaceValue}
use Rattle.hir_session_machine.specs.HirIds.Ids.{container_module}
use Rattle.hir_session_machine.specs.HirIds.declared.ast_id.AstId.{AstId}
use Rattle.hir_session_machine.specs.HirIds.declared.ast_id.AstKind.{AstKind}
use Rattle.hir_session_machine.specs.HirIds.declared.ast_id.BlockId.{BlockId}
use Rattle.hir_session_machine.specs.HirIds.declared.ast_id.HirFileId.{HirFileId}
use Rattle.hir_session_machine.specs.HirIds.declared.ast_id.HirFileId.TheVariants.{File, Macro}
use Rattle.hir_session_machine.specs.HirIds.declared.ast_id.MacroCallId.{MacroCallId}
use Rattle.hir_session_machine.specs.HirIds.declared.ids.AssocItemId.{AssocItemId}
use Rattle.hir_session_machine.specs.HirIds.declared.ids.ImplId.{ImplId}
use Rattle.hir_session_machine.specs.HirIds.declared.ids.ItemContainerId.{ItemContainerId}
use Rattle.hir_session_machine.specs.HirIds.declared.ids.ItemLoc.{ItemLoc}
use Rattle.hir_session_machine.specs.HirIds.declared.ids.MapId.{MapId}
use Rattle.hir_session_machine.specs.HirIds.declared.ids.ModuleId.{ModuleId}
use Rattle.hir_session_machine.specs.HirIds.declared.ids.ModuleDefId.{ModuleDefId}
use Rattle.hir_session_machine.specs.HirIds.declared.ids.TraitId.{TraitId}
use Rattle.hir_session_machine.specs.HirIds.declared.ids.ItemContainerId.TheVariants as container
use Rattle.hir_session_machine.specs.HirIds.declared.ids.ModuleDefId.TheVariants as def
use Rattle.hir_session_machine.specs.HirSessionState.HirPerNs.PerNs.{Item}
use Rattle.hir_session_machine.specs.HirSessionState.HirScope.Scope.Reads.{impls_of_kind}
use Rattle.hir_session_machine.specs.HirSessionState.HirScope.declared.item_scope.iter.impls.ImplKind.TheVariants.{Any}
use Rattle.hir_session_machine.specs.HirSessionState.HirPerNs.declared.imports.ImportOrExternCrate.{ImportOrExternCrate}
use Rattle.hir_session_machine.specs.HirIds.declared.macro_kind.MacroId.{MacroId}
use Rattle.hir_session_machine.specs.HirIds.declared.ast_id.AstKind.TheVariants as kind
use Rattle.hir_session_machine.specs.HirIds.declared.ids.AssocItemId.TheVariants as assoc
use Rattle.hir_session_machine.specs.HirIds.declared.macro_kind.MacroId.TheVariants as macros
use Rattle.hir_session_machine.specs.HirItemTree.KeptForest.{KeptItem}
use Rattle.hir_session_machine.specs.HirItemTree.SideLists.{entry_associated}
use Rattle.hir_session_machine.specs.HirItemTree.SourceTree.{SourceTreeValue, side_of}
use Rattle.hir_session_machine.specs.HirItemTree.SyntaxIds.{node_id}
use Rattle.hir_session_machine.specs.HirTables.SourcePlaces.{ExpansionValue, expansion}
use Rattle.hir_session_machine.specs.HirTables.Tables.{HasEachOnce, KeepsTables, TablesValue, call_at, entry_at, source_of as source_of_tree}
use Rattle.hir_session_machine.specs.HirDefMapRules.Closed.{ModuleIsThere, PathsLeadToWhatIsThere}
use Rattle.hir_session_machine.specs.HirDefMapRules.Diagnostics.{DiagnosticValue, KindValue, call_node, node_of}
use Rattle.hir_session_machine.specs.HirDefMapRules.Overlay.{Maps, module_in, overlay}
use Rattle.hir_session_machine.specs.HirDefMapRules.Scoping.{resolution_of}
use Rattle.hir_session_machine.specs.HirDefMapRules.Sources.{HoldsOfNone, PathsAnswerFromSources, on_def, on_import, on_some, on_type, on_visibility}
use Rattle.hir_session_machine.specs.HirDefMapRules.declared.path_result.ResolvePathResult.{ResolvePathResult}
use Rattle.hir_session_machine.proofs.HirSessionState.HirDefMapRules.NoneOf.{not_first}
use Rattle.hir_session_machine.specs.HirDefMapRules.State.{Map, ModuleValue, module_at}
use Rattle.hir_session_machine.specs.HirCollectorRules.Calls.{AreCallsPlaced, IsPlacedBelow, call_key, call_tree, error_of}
use Rattle.hir_session_machine.specs.HirCollectorRules.Keys.{IsMeant, environment, source_in}
use Rattle.hir_session_machine.specs.HirCollectorRules.Workspace.{Workspace}
use Rattle.hir_session_machine.specs.HirCollectorRules.declared.source_database.Key.TheVariants as keys
use Rattle.hir_session_machine.specs.HirDefCollectorLaws.Sources.{RunsBindFromSources, unnumbered}
use Rattle.hir_assoc_items.specs.AssocItems.{Becomes, CallBecomes, ContainerValue, FlattensTo, IsCall, IsNumberOfCall, ListingValue, Meets, ReachesUnknown}
use Rattle.hir_assoc_items.specs.AssocItems.{call, call_error, call_loc, call_source, container_of, crate_of, definition_by, error_told, expanded, expansion_by}
use Rattle.hir_assoc_items.specs.AssocItems.{first, first_missing, followed_by, inner_paths, item_loc, items_written, kept_for, left_out, limit_of, listed}
use Rattle.hir_assoc_items.specs.AssocItems.{listed_by, loc_key, loc_tree, macro_called, module_of, next, none, of_inner, of_macro, one_call, too_deep}
use Rattle.hir_assoc_items.specs.AssocItems.{unreached, waits}
use Rattle.hir_assoc_items.specs.Depth.{and_expansion, expansions_around, expansions_within, most_around}
use Rattle.hir_assoc_items.specs.Steps.{AreMeant}
use Rattle.hir_assoc_items.specs.Written.{WrittenValue, item_node, top_items, written}
use Rattle.hir_assoc_items.specs.declared.written.AssocKind.{AssocKind}
use Rattle.hir_assoc_items.specs.declared.written.AssocKind.TheVariants as kinds
use Rattle.hir_assoc_items.proofs.Growth.{AreKnown, expansion_stays, paths_stay, source_in_stays, there_still}
use Rattle.hir_assoc_items.proofs.Kept.{there_where_kept}
use Rattle.hir_assoc_items.proofs.Taking.{meant_both, written_meant}
use Rattle.hir_assoc_items.proofs.Unique.{unique}
use Rattle.hir_session_machine.specs.HirMessages.declared.answer.SourceItem.{SourceItem}
use Rattle.hir_session_machine.specs.HirMessages.declared.diagnostic.CalledItem.{CalledItem}
use Rattle.hir_session_machine.specs.HirMessages.declared.diagnostic.Diagnostic.{Diagnostic}
use Rattle.hir_session_machine.specs.HirMessages.declared.answer.Definition.{Definition}
use Rattle.hir_session_machine.specs.HirMessages.declared.items.AssocItem.{AssocItem}
use Rattle.hir_session_machine.specs.HirMessages.declared.items.Items.{Items}
use Rattle.hir_session_machine.specs.HirSessionState.Due.{Grows}
use Rattle.hir_session_machine.specs.HirSessionState.Kept.{Resolution, collected_of, kept_in}
use Rattle.hir_session_machine.specs.HirSessionState.SessionState.{SessionState, finished_of, kept_of, module_of as place_module, read_of, read_under}
use Rattle.hir_session_machine.specs.HirSessionState.SessionState.{workspace_of, IsSound}
use Rattle.hir_session_machine.specs.HirSessionState.SourceTable.{workspace_in}
use Rattle.hir_session_machine.proofs.HirSessionState.Truth.{clash, on_bool, one_value}
use Rattle.hir_session_machine.proofs.HirSessionState.Standing.{kept_gives}
use Rattle.hir_session_machine.proofs.HirSessionState.HirTables.Growth.{KeepsTables-trans}
use Rattle.hir_session_machine.specs.HirMessages.declared.command.Shadow.TheVariants as shadow
use Rattle.hir_session_machine.specs.HirMessages.declared.reply.Status.{Status}
use Rattle.hir_session_machine.specs.HirMessages.declared.reply.Status.TheVariants as status
use Rattle.hir_session_machine.specs.HirSessionState.declared.error.ImplItemsError.TheVariants as impl_error
use Rattle.hir_session_machine.specs.HirSessionState.declared.error.TraitItemsError.TheVariants as trait_error
use Rattle.hir_session_machine.specs.HirSessionAnswers.Answers.{asking_of}
use Rattle.hir_session_machine.specs.HirSessionAnswers.Status.{status_of}
use Rattle.hir_session_machine.specs.HirSessionAnswers.AssocItems.{ListsItems, assoc_source, called_source, items_told, named_source, source_item_in}
use Rattle.hir_session_machine.specs.HirSessionAnswers.AssocItems.{source_item_of, trait_asked, trait_at, trait_by, trait_from, trait_kept, trait_named}
use Rattle.hir_session_machine.specs.HirSessionAnswers.AssocItems.{trait_of, impl_asked, impl_at, impl_by, impl_from, impl_kept, impls_by, impls_of}
use Rattle.hir_session_machine.specs.HirSessionAnswers.Diagnostics.{diagnostic_source, diagnostic_with, node_in, node_source}
use Rattle.hir_session_machine.specs.HirSessionAnswers.SourceCalls.{source_of}
use Rattle.hir_session_machine.specs.HirSessionAnswers.SourceItems.{module_by, module_definition}
use Rattle.hir_session_machine.proofs.HirSessionAnswers.KnownSources.{calls_known}
use Rattle.hir_session_machine.proofs.HirSessionAnswers.LeftOut.{IsThereAt, ended_of, mapped_some, maps_behind, module_shown, place_there, present, read_kept}
use Rattle.hir_session_machine.proofs.HirSessionAnswers.LeftOut.{sourced, start_of}
use Rattle.hir_session_machine.proofs.HirSessionAnswers.LowerLaws.{asked_keys_have_meaning}
use Rattle.hir_session_machine.proofs.HirSessionAnswers.ReadMaps.{read_whole, stood_on_whole}
use Rattle.hir_session_machine.proofs.HirSessionState.HirDefCollectorLaws.Ended.{same_id}
use Rattle.hir_session_laws.specs.Laws.{ImplModulesAreThere, ImplsAreToldAlike, ImplsAreToldWhole, IsModuleThere, IsToldWhole, TraitsAreToldAlike}
use Rattle.hir_session_laws.specs.Laws.{TraitsAreToldWhole}
use Rattle.hir_session_laws.proofs.KeptSources.{begins_clear, bound, is_clear, maps_clear, read_clear, start_reads}
use Rattle.hir_session_machine.proofs.HirSessionAnswers.Growing.{Stays, mapped, module_stays, source_stays}
use Rattle.hir_session_machine.proofs.HirSessionAnswers.LeftOut.{numbered_there}
use Rattle.hir_session_laws.proofs.UnnamedTraits.{AllKeys}
use Rattle.hir_session_laws.proofs.WrittenImpls.{AreImplsOwn, IsImplOf, ends_own}

-- ---- lists

module _ {A : Type 0} (P : A → Type 0) where
  abbrev pub Each : List A → Type 0
  Each [] = Unit {0}
  Each (x ∷ xs) = P x × Each xs

  each_joined : (xs ys : List A) → Each xs → Each ys → Each (xs ++ ys)
  each_joined [] ys f g = g
  each_joined (x ∷ xs) ys f g = (f.0, each_joined xs ys f.1 g)

each_so : {A : Type 0} (P Q : A → Type 0) → ((x : A) → P x → Q x) → (xs : List A) → Each P xs → Each Q xs
each_so P Q so [] f = tt
each_so P Q so (x ∷ xs) f = (so x f.0, each_so P Q so xs f.1)

-- where something is told of each, nothing is left out
all_told : {A B : Type 0} (f : A → Option B) (xs : List A) → Each (λ (x : A). is_some (f x) ≡ true) xs
    → map f xs ≡ map (λ (y : B). Some y) (filter_map f xs)
all_told f [] told = refl
all_told {A} {B} f (x ∷ xs) told = go (f x) told.0 (all_told f xs told.1)
  where
    go : (o : Option B) → is_some o ≡ true → map f xs ≡ map (λ (y : B). Some y) (filter_map f xs)
        → o ∷ map f xs ≡ map (λ (y : B). Some y) (cons_option o (filter_map f xs))
    go None there rest = absurd (true≢false (sym there))
    go (Some y) there rest = ap (λ (os : List (Option B)). Some y ∷ os) rest

-- where the same is told of each, the same is told of all
told_alike : {A B : Type 0} (f g : A → Option B) (xs : List A) → Each (λ (x : A). g x ≡ f x) xs → filter_map g xs ≡ filter_map f xs
told_alike f g [] same = refl
told_alike f g (x ∷ xs) same = λ k. cons_option (same.0 k) (told_alike f g xs same.1 k)

-- what is there is the same where what was there stays
still : {X : Type 0} (one other : Option X) → Stays one other → is_some one ≡ true → other ≡ one
still {X} one other (inl gone) there = clash there (ap (λ (o : Option X). is_some o) gone)
still one other (inr same) there = same

-- ---- the trees of items

-- a call that has a number expands to what has one
number_means : (tables : TablesValue) (w : Workspace) (c : ContainerValue) (node : AstId) (makro : MacroId) (id : MacroCallId)
    → IsNumberOfCall (environment tables w) c node makro id → IsSome (source_of_tree tables (call_tree id))
number_means tables w c node makro id number =
    ap (λ (o : Option MacroCallLoc). is_some (option_map expansion (option_and_then (λ (made : MacroCallLoc). entry_at tables made.entry) o))) number.call
    ∙ ap (λ (o : Option ExpansionValue). is_some (option_map expansion o)) number.depends

inside_meant : (tables : TablesValue) (w : Workspace) (c : ContainerValue) (i : WrittenValue) (ahead : ListingValue) (inside : List WrittenValue)
    → Becomes (environment tables w) c i ahead inside → AreMeant tables inside
inside_meant tables w c i _ _ (left_out condition disabled) = tt
inside_meant tables w c i _ _ (listed enabled no_call) = tt
inside_meant tables w c i _ _ (call path ahead inside is becomes) = go ahead inside becomes
  where
    go : (ahead : ListingValue) (inside : List WrittenValue) → CallBecomes (environment tables w) c i path ahead inside → AreMeant tables inside
    go _ _ (too_deep deep) = tt
    go _ _ (unreached shallow nowhere) = tt
    go _ _ (waits makro inner shallow reached missing) = tt
    go _ _ (expanded makro id shallow reached all number) =
        written_meant tables (call_tree id) (number_means tables w c (item_node i) makro id number) (i.level + 1)
        (top_items (call_source (environment tables w) c id).tree.items)

-- a source that keeps something for a trait or an impl has a number
kept_meant : (tables : TablesValue) (w : Workspace) (loc : ItemLoc ModuleId) (node : AstKind) → AreMeant tables (items_written tables w loc node)
kept_meant tables w loc node = go (option_and_then entry_associated (side_of (source_in tables w (loc_key loc)) (node_id node loc.id))) refl
  where
    go : (o : Option (List KeptItem)) → option_and_then entry_associated (side_of (source_in tables w (loc_key loc)) (node_id node loc.id)) ≡ o
        → AreMeant tables (written (loc_tree loc) (expansions_around tables loc.file_id loc.block) (unwrap_or o []))
    go None e = tt
    go (Some items) e =
        written_meant tables (loc_tree loc) (there_where_kept tables w (loc_key loc) (node_id node loc.id) items e)
        (expansions_around tables loc.file_id loc.block) items

meant_still : (few more : TablesValue) → KeepsTables few more → (items : List WrittenValue) → AreMeant few items → AreMeant more items
meant_still few more keeps [] meant = tt
meant_still few more keeps (i ∷ items) meant = (there_still few more keeps i.tree meant.0, meant_still few more keeps items meant.1)

-- ---- what a list tells

module _ (tables : TablesValue) (placed : AreCallsPlaced tables) (w : Workspace) (c : ContainerValue) where
  abbrev IsItemTold : List ℕ × AssocItemId → Type 0
  IsItemTold named = is_some (named_source tables named) ≡ true

  abbrev IsCallTold : AstId × MacroCallId → Type 0
  IsCallTold called = is_some (called_source tables called) ≡ true

  -- it is about something that has a source item, in the module that holds the trait or the impl
  abbrev IsAbout : DiagnosticValue → Type 0
  IsAbout d = (is_some (node_source tables (node_of d.kind)) ≡ true) × (d.in_module ≡ module_of c)

  pub record IsListedWhole (listing : ListingValue) : Type 0 where
    pub items : Each IsItemTold listing.items
    pub calls : Each IsCallTold listing.calls
    pub diagnostics : Each IsAbout listing.diagnostics

  both_whole : (a b : ListingValue) → IsListedWhole a → IsListedWhole b → IsListedWhole (followed_by a b)
  both_whole a b p q = record {
    items = each_joined IsItemTold a.items b.items p.items q.items;
    calls = each_joined IsCallTold a.calls b.calls p.calls q.calls;
    diagnostics = each_joined IsAbout a.diagnostics b.diagnostics p.diagnostics q.diagnostics;
  }

  module _ (i : WrittenValue) (means : IsSome (source_of_tree tables i.tree)) where
    there : is_some (source_of tables i.tree.file i.tree.block) ≡ true
    there = numbered_there tables placed i.tree means

    node_there : is_some (node_source tables (item_node i)) ≡ true
    node_there = mapped_some (node_in (item_node i)) (source_of tables i.tree.file i.tree.block) ∙ there

    source_there : (node : AstKind) → is_some (source_item_of tables node i.tree.file i.tree.block i.id) ≡ true
    source_there node = mapped_some (source_item_in node i.id) (source_of tables i.tree.file i.tree.block) ∙ there

    definition_whole : (k : AssocKind) → IsListedWhole (listed_by (definition_by (item_loc c i) k))
    definition_whole (kinds.Function name) =
        record {
          items = (mapped_some _ (source_item_of tables kind.Fn i.tree.file i.tree.block i.id) ∙ source_there kind.Fn, tt);
          calls = tt;
          diagnostics = tt;
        }
    definition_whole (kinds.Const None) = record { items = tt; calls = tt; diagnostics = tt }
    definition_whole (kinds.Const (Some name)) = record {
      items = (mapped_some _ (source_item_of tables kind.Const i.tree.file i.tree.block i.id) ∙ source_there kind.Const, tt);
      calls = tt;
      diagnostics = tt;
    }
    definition_whole (kinds.TypeAlias name) = record {
      items = (mapped_some _ (source_item_of tables kind.TypeAlias i.tree.file i.tree.block i.id) ∙ source_there kind.TypeAlias, tt);
      calls = tt;
      diagnostics = tt;
    }
    definition_whole (kinds.MacroCall path) = record { items = tt; calls = tt; diagnostics = tt }

    errors_about : (path : Path) (o : Option (List ℕ)) → Each IsAbout (error_told c (item_node i) path o)
    errors_about path None = tt
    errors_about path (Some error) = ((node_there, refl), tt)

    call_whole : (path : Path) (ahead : ListingValue) (inside : List WrittenValue) → CallBecomes (environment tables w) c i path ahead inside
        → IsListedWhole ahead
    call_whole path _ _ (too_deep deep) = record { items = tt; calls = tt; diagnostics = tt }
    call_whole path _ _ (unreached shallow nowhere) = record { items = tt; calls = tt; diagnostics = ((node_there, refl), tt) }
    call_whole path _ _ (waits makro inner shallow reached missing) = record { items = tt; calls = tt; diagnostics = ((node_there, refl), tt) }
    call_whole path _ _ (expanded makro id shallow reached all number) = record {
      items = tt;
      calls = (mapped_some _ (node_source tables (item_node i)) ∙ node_there, tt);
      diagnostics = errors_about path (call_error (environment tables w) c (item_node i) makro);
    }

    becomes_whole : (ahead : ListingValue) (inside : List WrittenValue) → Becomes (environment tables w) c i ahead inside → IsListedWhole ahead
    becomes_whole _ _ (left_out condition disabled) = record { items = tt; calls = tt; diagnostics = ((node_there, refl), tt) }
    becomes_whole _ _ (listed enabled no_call) = definition_whole i.kind
    becomes_whole _ _ (call path ahead inside is becomes) = call_whole path ahead inside becomes

  flattens_whole : (items : List WrittenValue) (listing : ListingValue) → AreMeant tables items → FlattensTo (environment tables w) c items listing
      → IsListedWhole listing
  flattens_whole _ _ meant none = record { items = tt; calls = tt; diagnostics = tt }
  flattens_whole _ _ meant (next i rest ahead inside behind becomes more) =
      both_whole ahead behind (becomes_whole i meant.0 ahead inside becomes)
      (flattens_whole (inside ++ rest) behind (meant_both tables inside rest (inside_meant tables w c i ahead inside becomes) meant.1) more)

-- ---- as tables grow

module _ (few more : TablesValue) (keeps : KeepsTables few more) (w : Workspace) (c : ContainerValue)
    (known : (items : List WrittenValue) → ¬ ReachesUnknown (environment few w) c items) where
  -- a macro that isn't unknown is known
  known_means : (makro : MacroId) → ¬ (¬ IsMeant few makro) → IsMeant few makro
  known_means (macros.Macro2Id id) h = on_bool (is_some (source_of_tree few (record { file = id.loc.file_id; block = id.loc.block })))
      (λ means. means) (λ not. absurd (h (λ means. clash means not)))
  known_means (macros.MacroRulesId id) h = on_bool (is_some (source_of_tree few (record { file = id.loc.file_id; block = id.loc.block })))
      (λ means. means) (λ not. absurd (h (λ means. clash means not)))
  known_means (macros.ProcMacroId id) h = tt

  -- a call of an item reaches it
  meets_macro : (i : WrittenValue) (path : Path) → IsCall i path → (makro : MacroId) → i.level < limit_of c → macro_called c path ≡ Some makro
      → Meets (environment few w) c (i ∷ []) i makro
  meets_macro i path is makro shallow reached =
      record { before = 0; comes = first i []; path = path; reaches = record { is = is; shallow = shallow; reached = reached } }

  -- so its source has a number
  macro_means : (i : WrittenValue) (path : Path) → IsCall i path → (makro : MacroId) → i.level < limit_of c → macro_called c path ≡ Some makro → IsMeant few makro
  macro_means i path is makro shallow reached = known_means makro (λ unknown. known (i ∷ [])
      (record { item = i; makro = makro; meets = meets_macro i path is makro shallow reached; unknown = of_macro unknown }))

  -- and so have those of the macros that it asks for first
  inner_mean : (i : WrittenValue) (path : Path) → IsCall i path → (makro : MacroId) → i.level < limit_of c → macro_called c path ≡ Some makro
      → AreKnown few c (inner_paths (environment few w) c (item_node i) makro)
  inner_mean i path is makro shallow reached asked inner among reaches = known_means inner (λ unknown. known (i ∷ [])
      (record { item = i; makro = makro; meets = meets_macro i path is makro shallow reached; unknown = of_inner asked inner reaches unknown }))

  call_still : (i : WrittenValue) → IsSome (source_of_tree few i.tree) → (path : Path) → IsCall i path → (ahead : ListingValue) (inside : List WrittenValue)
      → CallBecomes (environment few w) c i path ahead inside → CallBecomes (environment more w) c i path ahead inside
  call_still i means path is _ _ (too_deep deep) = too_deep deep
  call_still i means path is _ _ (unreached shallow nowhere) = unreached shallow nowhere
  call_still i means path is _ _ (waits makro inner shallow reached missing) =
      waits makro inner shallow reached
      (ap (first_missing c) (paths_stay few more keeps w c (item_node i) makro means (macro_means i path is makro shallow reached)) ∙ missing)
  call_still i means path is _ _ (expanded makro id shallow reached all number) =
      let meant : IsMeant few makro = macro_means i path is makro shallow reached in
      let same : expansion_by (environment more w) c (item_node i) makro ≡ expansion_by (environment few w) c (item_node i) makro =
      expansion_stays few more keeps w c (item_node i) makro means meant (inner_mean i path is makro shallow reached) in
      let numbered : IsNumberOfCall (environment more w) c (item_node i) makro id = record {
        entry = number.entry;
        depends = keeps.entries number.entry.0 (expansion_by (environment few w) c (item_node i) makro) number.depends
            ∙ ap (λ (x : ExpansionValue). Some x) (sym same);
        call = keeps.calls id.0 (call_loc (item_node i) number.entry) number.call;
      } in
      let error : call_error (environment more w) c (item_node i) makro ≡ call_error (environment few w) c (item_node i) makro =
      ap (λ (x : ExpansionValue). error_of (w.entry x)) same in
      let source : call_source (environment more w) c id ≡ call_source (environment few w) c id =
      source_in_stays few more keeps w (call_key (crate_of c) id) (number_means few w c (item_node i) makro id number) in
      subst (λ (e : Option (List ℕ)). CallBecomes (environment more w) c i path (one_call c (item_node i) id path e)
      (written (call_tree id) (i.level + 1) (top_items (call_source (environment few w) c id).tree.items))) error
      (subst (λ (t : SourceTreeValue). CallBecomes (environment more w) c i path
      (one_call c (item_node i) id path (call_error (environment more w) c (item_node i) makro))
      (written (call_tree id) (i.level + 1) (top_items t.tree.items))) source
      (expanded makro id shallow reached (ap (first_missing c) (paths_stay few more keeps w c (item_node i) makro means meant) ∙ all) numbered))

  becomes_still : (i : WrittenValue) → IsSome (source_of_tree few i.tree) → (ahead : ListingValue) (inside : List WrittenValue)
      → Becomes (environment few w) c i ahead inside → Becomes (environment more w) c i ahead inside
  becomes_still i means _ _ (left_out condition disabled) = left_out condition disabled
  becomes_still i means _ _ (listed enabled no_call) = listed enabled no_call
  becomes_still i means _ _ (call path ahead inside is becomes) = call path ahead inside is (call_still i means path is ahead inside becomes)

  flattens_still : (items : List WrittenValue) (listing : ListingValue) → AreMeant few items → FlattensTo (environment few w) c items listing
      → FlattensTo (environment more w) c items listing
  flattens_still _ _ meant none = none
  flattens_still _ _ meant (next i rest ahead inside behind becomes others) =
      next i rest ahead inside behind (becomes_still i meant.0 ahead inside becomes)
      (flattens_still (inside ++ rest) behind (meant_both few inside rest (inside_meant few w c i ahead inside becomes) meant.1) others)

module _ (few more : TablesValue) (keeps : KeepsTables few more) where
  item_stays : (node : AstKind) (i : ItemLoc ItemContainerId)
      → Stays (source_item_of few node i.file_id i.block i.id) (source_item_of more node i.file_id i.block i.id)
  item_stays node i =
      mapped (source_item_in node i.id) (source_of few i.file_id i.block) (source_of more i.file_id i.block) (source_stays few more keeps i.file_id i.block)

  named_stays : (named : List ℕ × AssocItemId) → Stays (named_source few named) (named_source more named)
  named_stays named = mapped _ (assoc_source few named.1) (assoc_source more named.1) (go named.1)
    where
      go : (id : AssocItemId) → Stays (assoc_source few id) (assoc_source more id)
      go (assoc.FunctionId i) = item_stays kind.Fn i.loc
      go (assoc.ConstId i) = item_stays kind.Const i.loc
      go (assoc.TypeAliasId i) = item_stays kind.TypeAlias i.loc

  node_stays : (n : AstId) → Stays (node_source few n) (node_source more n)
  node_stays n = mapped (node_in n) (source_of few n.file_id n.block) (source_of more n.file_id n.block) (source_stays few more keeps n.file_id n.block)

  called_stays : (called : AstId × MacroCallId) → Stays (called_source few called) (called_source more called)
  called_stays called = mapped _ (node_source few called.0) (node_source more called.0) (node_stays called.0)

-- ---- in sessions

-- a module that is there has a source
shown_there : RunsBindFromSources → (s : SessionState) → IsSound s → (id : MapId) (r : Resolution) → kept_of s id ≡ Some r → (m : ModuleId)
    → ModuleIsThere (overlay (read_of s id) r.map) m → is_some (module_definition s.tables (overlay (read_of s id) r.map) m) ≡ true
shown_there runs s sound id r is m =
    subst (λ (read : Maps). ModuleIsThere (overlay read r.map) m → is_some (module_definition s.tables (overlay read r.map) m) ≡ true)
    (sym (read_kept s id r is))
    (λ there. module_shown s.tables (maps_behind s id r) (sourced runs s sound id r is).bound m there)

both_there : (k : KindValue) (within : Option Definition) (item : Option SourceItem) → is_some within ≡ true → is_some item ≡ true
    → is_some (diagnostic_with k within item) ≡ true
both_there k None item f g = absurd (true≢false (sym f))
both_there k (Some within) None f g = absurd (true≢false (sym g))
both_there k (Some within) (Some item) f g = refl

module _ (runs : RunsBindFromSources) (s t : SessionState) (sound : IsSound s) (grown : Grows s t) (id : MapId) (holder : ItemContainerId)
    (loc : ItemLoc ModuleId) (node : AstKind) (told : Items) (lists : ListsItems s t id holder (items_written s.tables (workspace_of s) loc node) told) where
  abbrev held : ContainerValue
  held = container_of (overlay (read_of s id) lists.flattened.found.map) lists.flattened.found.local holder

  abbrev maps_told : Maps
  maps_told = overlay (read_of t id) lists.tells.found.map

  items_meant : AreMeant t.tables (items_written s.tables (workspace_of s) loc node)
  items_meant = meant_still s.tables t.tables grown.tables (items_written s.tables (workspace_of s) loc node) (kept_meant s.tables (workspace_of s) loc node)

  listing_whole : IsListedWhole t.tables grown.sound.calls (workspace_of s) held lists.listing
  listing_whole =
      flattens_whole t.tables grown.sound.calls (workspace_of s) held (items_written s.tables (workspace_of s) loc node) lists.listing items_meant
      lists.flattened.flattens

  diagnostics_told : ModuleIsThere maps_told (container_module holder)
      → Each (λ (d : DiagnosticValue). is_some (diagnostic_source t.tables maps_told d) ≡ true) lists.listing.diagnostics
  diagnostics_told there =
      each_so (IsAbout t.tables grown.sound.calls (workspace_of s) held) (λ (d : DiagnosticValue). is_some (diagnostic_source t.tables maps_told d) ≡ true)
      (λ d about. both_there d.kind (module_definition t.tables maps_told d.in_module) (node_source t.tables (node_of d.kind))
      (subst (λ (m : ModuleId). is_some (module_definition t.tables maps_told m) ≡ true) (sym about.1)
      (shown_there runs t grown.sound id lists.tells.found lists.tells.is (container_module holder) there)) about.0)
      lists.listing.diagnostics listing_whole.diagnostics

  pub told_whole : IsToldWhole t id holder lists.listing told
  told_whole = record {
    found = lists.tells.found;
    is = lists.tells.is;
    items = all_told (named_source t.tables) lists.listing.items listing_whole.items
        ∙ ap (λ (x : Items). map (λ (i : AssocItem). Some i) x.items) (sym lists.tells.are);
    calls = all_told (called_source t.tables) lists.listing.calls listing_whole.calls
        ∙ ap (λ (x : Items). map (λ (i : CalledItem). Some i) x.calls) (sym lists.tells.are);
    diagnostics = λ there. all_told (diagnostic_source t.tables maps_told) lists.listing.diagnostics (diagnostics_told there)
        ∙ ap (λ (x : Items). map (λ (d : Diagnostic). Some d) x.diagnostics) (sym lists.tells.are);
  }

-- ---- again

-- how many expansions are around what has a number stays as tables grow
around_still : (few more : TablesValue) (keeps : KeepsTables few more) (placed : AreCallsPlaced few) → (n : ℕ) (file : HirFileId) (block : Option BlockId)
    → IsSome (source_of_tree few (record { file = file; block = block }))
    → expansions_within n more file block ≡ expansions_within n few file block
around_still few more keeps placed zero file block means = refl
around_still few more keeps placed (suc n) file (Some b) means = refl
around_still few more keeps placed (suc n) (File f) None means = refl
around_still few more keeps placed (suc n) (Macro c) None means =
    go (call_at few c) refl means (λ file block. around_still few more keeps placed n file block)
  where
    within : TablesValue → Option MacroCallLoc → ℕ
    within tables o =
        and_expansion (option_map (λ (at : AstId). expansions_within n tables at.file_id at.block)
        (option_map (λ (made : MacroCallLoc). call_node made.kind) o))

    go : (o : Option MacroCallLoc) → call_at few c ≡ o
        → IsSome (option_map expansion (option_and_then (λ (made : MacroCallLoc). entry_at few made.entry) o))
        → ((file : HirFileId) (block : Option BlockId) → IsSome (source_of_tree few (record { file = file; block = block }))
        → expansions_within n more file block ≡ expansions_within n few file block)
        → within more (call_at more c) ≡ within few (call_at few c)
    go None e h below = absurd (let no : ⊥ = cc in no)
    go (Some made) e h below =
        let own : IsPlacedBelow few c.0 (call_node made.kind) = placed.calls c.0 made e in
        ap (within more) (keeps.calls c.0 made e)
        ∙ ap (λ (count : ℕ). count + 1) (below (call_node made.kind).file_id (call_node made.kind).block own.source)
        ∙ sym (ap (within few) e)

written_still : (few more : TablesValue) (keeps : KeepsTables few more) (placed : AreCallsPlaced few) (w : Workspace) (loc : ItemLoc ModuleId) (node : AstKind)
    → IsSome (source_of_tree few (loc_tree loc)) → items_written more w loc node ≡ items_written few w loc node
written_still few more keeps placed w loc node means =
    let depth = around_still few more keeps placed (most_around loc.file_id) loc.file_id loc.block means in
    let source = source_in_stays few more keeps w (loc_key loc) means in
    λ k. written (loc_tree loc) (depth k) (kept_for (source k) (node_id node loc.id))

-- what is kept binds only what sources write that have numbers
module _ (runs : RunsBindFromSources) (s : SessionState) (sound : IsSound s) where
  asked_numbered : (j : MapId) (f : Resolution) → kept_of s j ≡ Some f → (key : TreeKey) → Contains f.asked (keys.Tree key)
      → (unnumbered s.tables).holder key.id.file key.id.block ≡ false
  asked_numbered j f is key asked =
      let gives = kept_gives s sound j f is in
      ap not (asked_keys_have_meaning s.tables (workspace_of s) (finished_of s) gives.from (collected_of f) gives.meant (ended_of s sound j f is)
      (keys.Tree key) asked)

  shows_none : (m : ModuleId) → (unnumbered s.tables).shown m ≡ false
  shows_none m = refl

  -- so does a trait that a path names
  module _ (paths : PathsAnswerFromSources) (leads : PathsLeadToWhatIsThere) where
    trait_numbered : (d : ModuleDefId) (id : TraitId) → on_def (unnumbered s.tables) d ≡ false → trait_of d ≡ Some id
        → IsSome (source_of_tree s.tables (loc_tree id.loc))
    trait_numbered (def.TraitId other) id f e =
        let same : other ≡ id = one_value e in
        subst (λ (x : TraitId). IsSome (source_of_tree s.tables (loc_tree x.loc))) same
        (present (is_some (source_of_tree s.tables (loc_tree other.loc))) f)
    trait_numbered other id f e = absurd (let no : ⊥ = cc in no)

    named_numbered : (r : ResolvePathResult) (id : TraitId) → HoldsOfNone (unnumbered s.tables) r.resolved_def → trait_named r ≡ Some id
        → IsSome (source_of_tree s.tables (loc_tree id.loc))
    named_numbered r id clear e = go (is_none r.segment_index) e
      where
        of_types : (o : Option (Item ModuleDefId ImportOrExternCrate)) → on_some (on_type (unnumbered s.tables)) o ≡ false
            → option_and_then (λ (i : Item ModuleDefId ImportOrExternCrate). trait_of i.def) o ≡ Some id
            → IsSome (source_of_tree s.tables (loc_tree id.loc))
        of_types None f h = absurd (let no : ⊥ = cc in no)
        of_types (Some i) f h =
            trait_numbered i.def id
            (not_first (on_def (unnumbered s.tables) i.def)
            (on_visibility (unnumbered s.tables) i.vis || on_some (on_import (unnumbered s.tables)) i.import) f) h

        go : (b : Bool) → cond b (option_and_then (λ (i : Item ModuleDefId ImportOrExternCrate). trait_of i.def) r.resolved_def.types) None ≡ Some id
            → IsSome (source_of_tree s.tables (loc_tree id.loc))
        go true h = of_types r.resolved_def.types clear.types h
        go false h = absurd (let no : ⊥ = cc in no)

    found_numbered : (m : ModuleId) (r : Resolution) → kept_of s m.map ≡ Some r → (path : Path) (id : TraitId)
        → trait_named (resolution_of (overlay (read_of s m.map) r.map) (asking_of r.local shadow.Other None) m path) ≡ Some id
        → IsSome (source_of_tree s.tables (loc_tree id.loc))
    found_numbered m r is path id e =
        named_numbered (resolution_of (maps_behind s m.map r) (asking_of r.local shadow.Other None) m path) id
        (paths (unnumbered s.tables) (maps_behind s m.map r) (asking_of r.local shadow.Other None) m path
        (maps_clear runs s sound (unnumbered s.tables) shows_none asked_numbered m.map r is)
        (bound runs s sound (unnumbered s.tables) shows_none asked_numbered m.map r is).1)
        (subst (λ (read : Maps). trait_named (resolution_of (overlay read r.map) (asking_of r.local shadow.Other None) m path) ≡ Some id)
        (read_kept s m.map r is) e)

    kept_trait : (o : Option TraitId) (id : TraitId) → trait_kept s.kept o ≡ Ok id → o ≡ Some id
    kept_trait None id e = absurd (let no : ⊥ = cc in no)
    kept_trait (Some x) id e = go (is_none (kept_in s.kept x.loc.container.map)) e
      where
        go : (b : Bool) → cond b (Err trait_error.UnknownPlace) (Ok x) ≡ Ok id → Some x ≡ Some id
        go true h = absurd (let no : ⊥ = cc in no)
        go false h = let same : x ≡ id = cc in ap (λ (y : TraitId). Some y) same

    pub asked_trait_numbered : (place : PlaceValue) (path : Path) (id : TraitId) → trait_at s place path ≡ Ok id
        → IsSome (source_of_tree s.tables (loc_tree id.loc))
    asked_trait_numbered place path id given = current (status_of s place) (place_module s place) given
      where
        kept : (m : ModuleId) (o : Option Resolution) → kept_of s m.map ≡ o → trait_from s.kept (read_of s m.map) o m path ≡ Ok id
            → IsSome (source_of_tree s.tables (loc_tree id.loc))
        kept m None is e = absurd (let no : ⊥ = cc in no)
        kept m (Some r) is e =
            found_numbered m r is path id
            (kept_trait (trait_named (resolution_of (overlay (read_of s m.map) r.map) (asking_of r.local shadow.Other None) m path)) id e)

        asked : (o : Option ModuleId) → trait_asked s o path ≡ Ok id → IsSome (source_of_tree s.tables (loc_tree id.loc))
        asked None e = absurd (let no : ⊥ = cc in no)
        asked (Some m) e = kept m (kept_of s m.map) refl e

        current : (now : Status) (o : Option ModuleId) → trait_by now (trait_asked s o path) ≡ Ok id → IsSome (source_of_tree s.tables (loc_tree id.loc))
        current status.Current o e = asked o e
        current status.Stale o e = absurd (let no : ⊥ = cc in no)
        current status.Unknown o e = absurd (let no : ⊥ = cc in no)

    -- and an impl that a module lists
    impls_own : (j : MapId) (f : Resolution) → kept_of s j ≡ Some f → AreImplsOwn (unnumbered s.tables) j f.map.modules
    impls_own j f is =
        let e = ended_of s sound j f is in
        let mine : e.last.core.map.id ≡ j = sym (ap (λ (m : Map). m.id) e.map_is ∙ same_id e.last.core) ∙ (kept_gives s sound j f is).own in
        ends_own (unnumbered s.tables) j paths leads (read_under s j f.holders) (read_whole s sound j f is)
        (read_clear runs s sound (unnumbered s.tables) shows_none asked_numbered j f is) s.tables (workspace_of s) (finished_of s)
        (start_of s sound j f is) (collected_of f) (start_reads runs s sound (unnumbered s.tables) shows_none asked_numbered j f is)
        (stood_on_whole s sound j f is) (begins_clear runs s sound (unnumbered s.tables) shows_none asked_numbered j f is) e
        (is_clear runs s sound (unnumbered s.tables) shows_none asked_numbered j f is) mine

    among_impls : (P : ImplId → Type 0) (es : List (ImplId × Bool)) → AllKeys P es → (n : ℕ) (id : ImplId) → slice_get (impls_of_kind Any es) n ≡ Some id
        → P id
    among_impls P [] all n id e = absurd (let no : ⊥ = cc in no)
    among_impls P (entry ∷ es) all zero id e = subst P (one_value e) all.0
    among_impls P (entry ∷ es) all (suc n) id e = among_impls P es all.1 n id e

    listed_impl : (m : ModuleId) (r : Resolution) → kept_of s m.map ≡ Some r → (number : ℕ) (id : ImplId)
        → slice_get (impls_of r.map m.index) number ≡ Some id → IsImplOf (unnumbered s.tables) m.map m.index id
    listed_impl m r is number id e = go (module_at r.map m.index) refl e
      where
        go : (o : Option ModuleValue) → module_at r.map m.index ≡ o
            → slice_get (impls_by (option_map (λ (v : ModuleValue). v.scope) o)) number ≡ Some id → IsImplOf (unnumbered s.tables) m.map m.index id
        go None at h = absurd (let no : ⊥ = cc in no)
        go (Some v) at h =
            among_impls (IsImplOf (unnumbered s.tables) m.map m.index) v.scope.impls ((impls_own m.map r is).each m.index v at) number id h

    kept_impl : (o : Option ImplId) (id : ImplId) → impl_kept s.kept o ≡ Ok id → o ≡ Some id
    kept_impl None id e = absurd (let no : ⊥ = cc in no)
    kept_impl (Some x) id e = go (is_none (kept_in s.kept x.loc.container.map)) e
      where
        go : (b : Bool) → cond b (Err impl_error.UnknownPlace) (Ok x) ≡ Ok id → Some x ≡ Some id
        go true h = absurd (let no : ⊥ = cc in no)
        go false h = let same : x ≡ id = cc in ap (λ (y : ImplId). Some y) same

    pub asked_impl_numbered : (place : PlaceValue) (number : ℕ) (id : ImplId) → impl_at s place number ≡ Ok id
        → IsSome (source_of_tree s.tables (loc_tree id.loc))
    asked_impl_numbered place number id given = current (status_of s place) (place_module s place) given
      where
        kept : (m : ModuleId) (o : Option Resolution) → kept_of s m.map ≡ o → impl_from s.kept o m number ≡ Ok id
            → IsSome (source_of_tree s.tables (loc_tree id.loc))
        kept m None is e = absurd (let no : ⊥ = cc in no)
        kept m (Some r) is e =
            present (is_some (source_of_tree s.tables (loc_tree id.loc)))
            (listed_impl m r is number id (kept_impl (slice_get (impls_of r.map m.index) number) id e)).clear

        asked : (o : Option ModuleId) → impl_asked s o number ≡ Ok id → IsSome (source_of_tree s.tables (loc_tree id.loc))
        asked None e = absurd (let no : ⊥ = cc in no)
        asked (Some m) e = kept m (kept_of s m.map) refl e

        current : (now : Status) (o : Option ModuleId) → impl_by now (impl_asked s o number) ≡ Ok id → IsSome (source_of_tree s.tables (loc_tree id.loc))
        current status.Current o e = asked o e
        current status.Stale o e = absurd (let no : ⊥ = cc in no)
        current status.Unknown o e = absurd (let no : ⊥ = cc in no)

    -- the module that lists it is there
    module_there : (m : ModuleId) → IsThereAt s m → (found : Resolution) → kept_of s m.map ≡ Some found → ModuleIsThere (overlay (read_of s m.map) found.map) m
    module_there m at found is =
        let same : at.found ≡ found = one_value (sym at.is ∙ is) in
        subst (λ (f : Resolution). ModuleIsThere (overlay (read_of s m.map) f.map) m) same
        (subst (λ (read : Maps). ModuleIsThere (overlay read at.found.map) m) (sym (read_kept s m.map at.found at.is)) at.there)

    pub impl_module_there : (place : PlaceValue) (number : ℕ) (id : ImplId) → impl_at s place number ≡ Ok id → IsModuleThere s id.loc.container
    impl_module_there place number id given = current (status_of s place) (place_module s place) refl given
      where
        kept : (m : ModuleId) → place_module s place ≡ Some m → (o : Option Resolution) → kept_of s m.map ≡ o → impl_from s.kept o m number ≡ Ok id
            → IsModuleThere s id.loc.container
        kept m named None is e = absurd (let no : ⊥ = cc in no)
        kept m named (Some r) is e =
            let own : IsImplOf (unnumbered s.tables) m.map m.index id =
            listed_impl m r is number id (kept_impl (slice_get (impls_of r.map m.index) number) id e) in
            subst (λ (x : ModuleId). IsModuleThere s x) (sym own.within) (module_there m (place_there s sound place m named))

        asked : (o : Option ModuleId) → place_module s place ≡ o → impl_asked s o number ≡ Ok id → IsModuleThere s id.loc.container
        asked None named e = absurd (let no : ⊥ = cc in no)
        asked (Some m) named e = kept m named (kept_of s m.map) refl e

        current : (now : Status) (o : Option ModuleId) → place_module s place ≡ o → impl_by now (impl_asked s o number) ≡ Ok id
            → IsModuleThere s id.loc.container
        current status.Current o named e = asked o named e
        current status.Stale o named e = absurd (let no : ⊥ = cc in no)
        current status.Unknown o named e = absurd (let no : ⊥ = cc in no)

module _ (runs : RunsBindFromSources) (s t u v : SessionState) (sound : IsSound s) (once : HasEachOnce v.tables)
    (listed_first : Grows s t) (between : Grows t u) (listed_again : Grows u v) (id : MapId) (holder : ItemContainerId) (loc : ItemLoc ModuleId)
    (node : AstKind) (told again : Items) (means : IsSome (source_of_tree s.tables (loc_tree loc)))
    (lists : ListsItems s t id holder (items_written s.tables (workspace_of s) loc node) told)
    (relists : ListsItems u v id holder (items_written u.tables (workspace_of u) loc node) again) where
  abbrev w : Workspace
  w = workspace_of s

  abbrev held_first : ContainerValue
  held_first = held runs s t sound listed_first id holder loc node told lists

  abbrev written_first : List WrittenValue
  written_first = items_written s.tables w loc node

  until : KeepsTables s.tables u.tables
  until = KeepsTables-trans _ _ _ listed_first.tables between.tables

  later : KeepsTables t.tables v.tables
  later = KeepsTables-trans _ _ _ between.tables listed_again.tables

  same_workspace : workspace_of u ≡ w
  same_workspace = λ k. workspace_in ((between.crates ∙ listed_first.crates) k) ((between.sources ∙ listed_first.sources) k)

  -- what a session reads is read in those that grew from it
  read_grown : (old new : SessionState) → Grows old new → read_of new id ≡ read_of old id
  read_grown old new grown = λ k. read_of (record { crates = grown.crates k; tables = new.tables; sources = new.sources; kept = grown.kept k }) id

  kept_grown : (old new : SessionState) → Grows old new → kept_of new id ≡ kept_of old id
  kept_grown old new grown = λ k. kept_in (grown.kept k) id

  same_read : read_of u id ≡ read_of s id
  same_read = read_grown t u between ∙ read_grown s t listed_first

  same_found : relists.flattened.found ≡ lists.flattened.found
  same_found = one_value (sym relists.flattened.is ∙ kept_grown t u between ∙ kept_grown s t listed_first ∙ lists.flattened.is)

  same_written : items_written u.tables (workspace_of u) loc node ≡ written_first
  same_written = (λ k. items_written u.tables (same_workspace k) loc node) ∙ written_still s.tables u.tables until sound.calls w loc node means

  known : (items : List WrittenValue) → ¬ ReachesUnknown (environment t.tables w) held_first items
  known items =
      subst (λ (read : Maps). ¬ ReachesUnknown (environment t.tables w) (container_of (overlay read lists.flattened.found.map)
      lists.flattened.found.local holder) items) (sym (read_kept s id lists.flattened.found lists.flattened.is))
      (calls_known s sound t.tables listed_first.tables id lists.flattened.found lists.flattened.is holder items)

  comes_first : FlattensTo (environment v.tables w) held_first written_first lists.listing
  comes_first =
      flattens_still t.tables v.tables later w held_first known written_first lists.listing
      (items_meant runs s t sound listed_first id holder loc node told lists) lists.flattened.flattens

  comes_again : FlattensTo (environment v.tables w) held_first written_first relists.listing
  comes_again =
      subst (λ (items : List WrittenValue). FlattensTo (environment v.tables w) held_first items relists.listing) same_written
      (subst (λ (f : Resolution). FlattensTo (environment v.tables w) (container_of (overlay (read_of s id) f.map) f.local holder)
      (items_written u.tables (workspace_of u) loc node) relists.listing) same_found
      (subst (λ (read : Maps). FlattensTo (environment v.tables w)
      (container_of (overlay read relists.flattened.found.map) relists.flattened.found.local holder)
      (items_written u.tables (workspace_of u) loc node) relists.listing) same_read
      (subst (λ (x : Workspace). FlattensTo (environment v.tables x)
      (container_of (overlay (read_of u id) relists.flattened.found.map) relists.flattened.found.local holder)
      (items_written u.tables (workspace_of u) loc node) relists.listing) same_workspace relists.flattened.flattens)))

  same_listing : relists.listing ≡ lists.listing
  same_listing = unique (environment v.tables w) held_first written_first relists.listing lists.listing once comes_again comes_first

  -- ---- what is told of it

  abbrev maps : Maps
  maps = maps_told runs s t sound listed_first id holder loc node told lists

  same_maps : overlay (read_of v id) relists.tells.found.map ≡ maps
  same_maps =
      let read : read_of v id ≡ read_of t id = read_grown u v listed_again ∙ read_grown t u between in
      let found : relists.tells.found ≡ lists.tells.found =
      one_value (sym relists.tells.is ∙ kept_grown u v listed_again ∙ kept_grown t u between ∙ lists.tells.is) in
      λ k. overlay (read k) (found k).map

  whole : IsListedWhole t.tables listed_first.sound.calls w held_first lists.listing
  whole = listing_whole runs s t sound listed_first id holder loc node told lists

  module_alike : (m : ModuleId) → module_definition v.tables maps m ≡ module_definition t.tables maps m
  module_alike m = go (module_in maps m) refl
    where
      go : (o : Option ModuleValue) → module_in maps m ≡ o → module_definition v.tables maps m ≡ module_definition t.tables maps m
      go None e = ap (option_and_then (λ (x : ModuleValue). module_by v.tables m.map.krate x.origin)) e
          ∙ sym (ap (option_and_then (λ (x : ModuleValue). module_by t.tables m.map.krate x.origin)) e)
      go (Some x) e = still (module_definition t.tables maps m) (module_definition v.tables maps m) (module_stays t.tables v.tables later maps m)
          (shown_there runs t listed_first.sound id lists.tells.found lists.tells.is m (ap (λ (o : Option ModuleValue). is_some o) e))

  diagnostic_alike : (d : DiagnosticValue) → IsAbout t.tables listed_first.sound.calls w held_first d
      → diagnostic_source v.tables maps d ≡ diagnostic_source t.tables maps d
  diagnostic_alike d about =
      let item : node_source v.tables (node_of d.kind) ≡ node_source t.tables (node_of d.kind) =
      still (node_source t.tables (node_of d.kind)) (node_source v.tables (node_of d.kind)) (node_stays t.tables v.tables later (node_of d.kind)) about.0 in
      λ k. diagnostic_with d.kind (module_alike d.in_module k) (item k)

  told_by_both : items_told v.tables maps lists.listing ≡ items_told t.tables maps lists.listing
  told_by_both =
      let items : filter_map (named_source v.tables) lists.listing.items ≡ filter_map (named_source t.tables) lists.listing.items =
      told_alike (named_source t.tables) (named_source v.tables) lists.listing.items
      (each_so (IsItemTold t.tables listed_first.sound.calls w held_first) (λ (n : List ℕ × AssocItemId). named_source v.tables n ≡ named_source t.tables n)
      (λ n there. still (named_source t.tables n) (named_source v.tables n) (named_stays t.tables v.tables later n) there) lists.listing.items whole.items) in
      let calls : filter_map (called_source v.tables) lists.listing.calls ≡ filter_map (called_source t.tables) lists.listing.calls =
      told_alike (called_source t.tables) (called_source v.tables) lists.listing.calls
      (each_so (IsCallTold t.tables listed_first.sound.calls w held_first) (λ (n : AstId × MacroCallId). called_source v.tables n ≡ called_source t.tables n)
      (λ n there. still (called_source t.tables n) (called_source v.tables n) (called_stays t.tables v.tables later n) there)
      lists.listing.calls whole.calls) in
      let diagnostics : filter_map (diagnostic_source v.tables maps) lists.listing.diagnostics
      ≡ filter_map (diagnostic_source t.tables maps) lists.listing.diagnostics =
      told_alike (diagnostic_source t.tables maps) (diagnostic_source v.tables maps) lists.listing.diagnostics
      (each_so (IsAbout t.tables listed_first.sound.calls w held_first) (λ (d : DiagnosticValue). diagnostic_source v.tables maps d ≡
      diagnostic_source t.tables maps d) diagnostic_alike lists.listing.diagnostics whole.diagnostics) in
      λ k. record { items = items k; calls = calls k; diagnostics = diagnostics k }

  pub told_again : again ≡ told
  told_again =
      relists.tells.are ∙ (λ k. items_told v.tables (same_maps k) (same_listing k)) ∙ told_by_both ∙ sym lists.tells.are

pub traits_whole : RunsBindFromSources → TraitsAreToldWhole
traits_whole runs s t id told sound grown lists =
    told_whole runs s t sound grown id.loc.container.map (container.TraitId id) id.loc kind.Trait told lists

pub impls_whole : RunsBindFromSources → ImplsAreToldWhole
impls_whole runs s t id told sound grown lists =
    told_whole runs s t sound grown id.loc.container.map (container.ImplId id) id.loc kind.Impl told lists

pub traits_alike : RunsBindFromSources → PathsAnswerFromSources → PathsLeadToWhatIsThere → TraitsAreToldAlike
traits_alike runs paths leads s t u v place path id told again sound given grown lists between after relists once =
    told_again runs s t u v sound once grown between after id.loc.container.map (container.TraitId id) id.loc kind.Trait told again
    (asked_trait_numbered runs s sound paths leads place path id given) lists relists

pub impls_alike : RunsBindFromSources → PathsAnswerFromSources → PathsLeadToWhatIsThere → ImplsAreToldAlike
impls_alike runs paths leads s t u v place number id told again sound given grown lists between after relists once =
    told_again runs s t u v sound once grown between after id.loc.container.map (container.ImplId id) id.loc kind.Impl told again
    (asked_impl_numbered runs s sound paths leads place number id given) lists relists

pub impl_modules_there : RunsBindFromSources → PathsAnswerFromSources → PathsLeadToWhatIsThere → ImplModulesAreThere
impl_modules_there runs paths leads s place number id sound given = impl_module_there runs s sound paths leads place number id given
