-- What holds of all that a session does?
use Rattle.std.specs.Prelude.{◌≡◌, ◌≢◌, ℕ, Bool, true, false, is_some, List, [], ◌∷◌, map, Option, Some, None, Ok, Contains}
use Rattle.std.specs.Option.{option_and_then}
use Rattle.hir_session_machine.specs.HirBase.ModPath.{Path}
use Rattle.hir_session_machine.specs.HirBase.Place.{PlaceValue}
use Rattle.hir_session_machine.specs.HirBase.declared.place.BlockPlace.{BlockPlace}
use Rattle.hir_session_machine.specs.HirIds.declared.ids.Crate.{Crate}
use Rattle.hir_session_machine.specs.HirIds.declared.ids.ImplId.{ImplId}
use Rattle.hir_session_machine.specs.HirIds.declared.ids.ItemContainerId.{ItemContainerId}
use Rattle.hir_session_machine.specs.HirIds.declared.ids.TraitId.{TraitId}
use Rattle.hir_session_machine.specs.HirIds.declared.ids.ItemContainerId.TheVariants as container
use Rattle.hir_session_machine.specs.HirIds.Ids.{container_module}
use Rattle.hir_session_machine.specs.HirIds.declared.ast_id.EntryId.{EntryId}
use Rattle.hir_session_machine.specs.HirIds.declared.ids.MapId.{MapId}
use Rattle.hir_session_machine.specs.HirIds.declared.ids.ModuleId.{ModuleId}
use Rattle.hir_session_machine.specs.HirItemTree.BodyTexts.{source_without_bodies}
use Rattle.hir_session_machine.specs.HirItemTree.Source.{SourceValue}
use Rattle.hir_session_machine.specs.HirBase.declared.tree_id.TreeKey.{TreeKey}
use Rattle.hir_session_machine.specs.HirTables.SourcePlaces.{ExpansionValue, SourcePlaceValue, block, file}
use Rattle.hir_session_machine.specs.HirTables.Tables as numbers
use Rattle.hir_session_machine.specs.HirTables.Tables.{HasEachOnce, TablesValue, source_of}
use Rattle.hir_session_machine.specs.HirCollectorRules.declared.source_database.Key.{Key}
use Rattle.hir_session_machine.specs.HirCollectorRules.declared.source_database.Key.TheVariants.{Tree, Expansion}
use Rattle.hir_session_machine.specs.HirDefMapRules.State.{ModuleValue, crate_map, module_at}
use Rattle.hir_session_machine.specs.HirDefMapRules.Closed.{ModuleIsThere}
use Rattle.hir_session_machine.specs.HirDefMapRules.Overlay.{Maps, overlay}
use Rattle.hir_session_machine.specs.HirSessionState.HirPerNs.declared.per_ns.PerNs.{PerNs}
use Rattle.hir_assoc_items.specs.AssocItems.{ListingValue}
use Rattle.hir_session_machine.specs.HirMessages.Edits.{CrateDataValue, EditValue, EntryValue, set_file, remove_file, set_block, remove_block, set_expansion}
use Rattle.hir_session_machine.specs.HirMessages.Edits.{remove_expansion, set_crate}
use Rattle.hir_session_machine.specs.HirMessages.declared.command.MacroStyle.{MacroStyle}
use Rattle.hir_session_machine.specs.HirMessages.declared.command.Shadow.{Shadow}
use Rattle.hir_session_machine.specs.HirMessages.declared.diagnostic.CalledItem.{CalledItem}
use Rattle.hir_session_machine.specs.HirMessages.declared.diagnostic.Diagnostic.{Diagnostic}
use Rattle.hir_session_machine.specs.HirMessages.declared.items.AssocItem.{AssocItem}
use Rattle.hir_session_machine.specs.HirMessages.declared.items.Items.{Items}
use Rattle.hir_session_machine.specs.HirSessionAnswers.Answers.{answer_of}
use Rattle.hir_session_machine.specs.HirSessionAnswers.AssocItems.{ListsImpl, ListsTrait, called_source, impl_at, named_source, trait_at}
use Rattle.hir_session_machine.specs.HirSessionAnswers.Diagnostics.{diagnostic_source, diagnostics_of}
use Rattle.hir_session_machine.specs.HirSessionAnswers.Dumps.{dump_at}
use Rattle.hir_session_machine.specs.HirSessionAnswers.Modules.{file_modules_of, modules_of}
use Rattle.hir_session_machine.specs.HirSessionAnswers.Names.{names_of, scope_entries}
use Rattle.hir_session_machine.specs.HirSessionAnswers.SourceItems.{answered_macro, answered_type, answered_value}
use Rattle.hir_session_machine.specs.HirSessionAnswers.Status.{status_of}
use Rattle.hir_session_machine.specs.HirSessionAnswers.TreeText.{tree_text_of}
use Rattle.hir_session_machine.specs.HirSessionState.Blocks.{block_in, place_of_block}
use Rattle.hir_session_machine.specs.HirSessionState.Beginning.{IsConfigOf}
use Rattle.hir_session_machine.specs.HirSessionState.Crates.{crate_in, id_of}
use Rattle.hir_session_machine.specs.HirSessionState.Due.{Grows}
use Rattle.hir_session_machine.specs.HirSessionState.Entries.{entry_at}
use Rattle.hir_session_machine.specs.HirSessionState.Files.{file_at}
use Rattle.hir_session_machine.specs.HirSessionState.KeySources.{key_place}
use Rattle.hir_session_machine.specs.HirSessionState.SessionState.{SessionState, Resolution, kept_of, is_marked, read_of, standing_of, IsSound}
use Rattle.hir_session_machine.specs.HirSessionState.Standing.{map_by}
use Rattle.hir_session_machine.specs.HirSessionState.Changes.{Applies, AppliesTo}
use Rattle.hir_session_machine.specs.HirSessionState.SourceEdits.{SourceEditValue, of_block, of_expansion, of_file, place_of, source_edit}
pub use Rattle.hir_session_machine.specs.HirSessionAnswers.Histories.{History, WasAltered, DifferOnlyWhereAltered}

-- each query has the same answer in both
abbrev pub AnswersAlike : SessionState → SessionState → Type 0
AnswersAlike old new = (place : PlaceValue) (path : Path) (shadow : Shadow) (style : Option MacroStyle)
    → answer_of new place path shadow style ≡ answer_of old place path shadow style

-- whatever is asked is answered alike in both, and the items of the same traits and impls would be listed
pub record TellsAlike (old new : SessionState) : Type 0 where
  pub marks : (id : MapId) → is_marked new id ≡ is_marked old id
  pub statuses : (place : PlaceValue) → status_of new place ≡ status_of old place
  pub answers : AnswersAlike old new
  pub names : (place : PlaceValue) → names_of new place ≡ names_of old place
  pub modules : (krate : Crate) → modules_of new krate ≡ modules_of old krate
  pub file_modules : (path : List ℕ) → file_modules_of new path ≡ file_modules_of old path
  pub diagnostics : (krate : Crate) → diagnostics_of new krate ≡ diagnostics_of old krate
  pub dumps : (place : PlaceValue) → dump_at new place ≡ dump_at old place
  pub pages : (krate : Crate) (path : List ℕ) → tree_text_of new krate path ≡ tree_text_of old krate path
  pub traits : (place : PlaceValue) (path : Path) → trait_at new place path ≡ trait_at old place path
  pub impls : (place : PlaceValue) (number : ℕ) → impl_at new place number ≡ impl_at old place number

-- a query that gives numbers to calls changes no answer
abbrev pub NumbersChangeNoAnswer : Type 0
NumbersChangeNoAnswer = (old new : SessionState) → IsSound old → Grows old new → TellsAlike old new

-- ---- names, and lists of traits and impls

-- a source item is told in each namespace in which a name stands for something
pub record IsWhole (tables : TablesValue) (maps : Maps) (items : PerNs) : Type 0 where
  pub types : is_some (option_and_then (answered_type tables maps) items.types) ≡ is_some items.types
  pub values : is_some (option_and_then (answered_value tables maps) items.values) ≡ is_some items.values
  pub macros : is_some (option_and_then (answered_macro tables maps) items.macros) ≡ is_some items.macros

abbrev pub AreWhole : TablesValue → Maps → List (Option (List ℕ) × PerNs) → Type 0
AreWhole tables maps [] = Unit {0}
AreWhole tables maps (entry ∷ entries) = IsWhole tables maps entry.1 × AreWhole tables maps entries

-- so it is for all names of a module of a current map, and for its traits without a name
abbrev pub NamesAreToldWhole : Type 0
NamesAreToldWhole = (s : SessionState) (m : ModuleId) (found : Resolution) (v : ModuleValue) → IsSound s → kept_of s m.map ≡ Some found
    → module_at found.map m.index ≡ Some v → AreWhole s.tables (overlay (read_of s m.map) found.map) (scope_entries v.scope)

-- the module is there, in a map that is kept
abbrev pub IsModuleThere : SessionState → ModuleId → Type 0
IsModuleThere s m = (found : Resolution) → kept_of s m.map ≡ Some found → ModuleIsThere (overlay (read_of s m.map) found.map) m

-- a list tells each of its items and calls, and all that went wrong, if the module is there that holds the trait or the impl
pub record IsToldWhole (s : SessionState) (id : MapId) (holder : ItemContainerId) (listing : ListingValue) (told : Items) : Type 0 where
  pub found : Resolution
  pub is : kept_of s id ≡ Some found
  pub items : map (named_source s.tables) listing.items ≡ map (λ (i : AssocItem). Some i) told.items
  pub calls : map (called_source s.tables) listing.calls ≡ map (λ (i : CalledItem). Some i) told.calls
  pub diagnostics : ModuleIsThere (overlay (read_of s id) found.map) (container_module holder)
      → map (diagnostic_source s.tables (overlay (read_of s id) found.map)) listing.diagnostics ≡ map (λ (d : Diagnostic). Some d) told.diagnostics

-- nothing that a trait's list has is left out
abbrev pub TraitsAreToldWhole : Type 0
TraitsAreToldWhole = (s t : SessionState) (id : TraitId) (told : Items) → IsSound s → Grows s t → (lists : ListsTrait s id told t)
    → IsToldWhole t id.loc.container.map (container.TraitId id) lists.listing told

-- nor what an impl's has
abbrev pub ImplsAreToldWhole : Type 0
ImplsAreToldWhole = (s t : SessionState) (id : ImplId) (told : Items) → IsSound s → Grows s t → (lists : ListsImpl s id told t)
    → IsToldWhole t id.loc.container.map (container.ImplId id) lists.listing told

-- the module that holds an impl which is asked for is there
abbrev pub ImplModulesAreThere : Type 0
ImplModulesAreThere = (s : SessionState) (place : PlaceValue) (number : ℕ) (id : ImplId) → IsSound s → impl_at s place number ≡ Ok id
    → IsModuleThere s id.loc.container

-- a trait's items that are asked for again, where tables have grown at most, are told alike
abbrev pub TraitsAreToldAlike : Type 0
TraitsAreToldAlike = (s t u v : SessionState) (place : PlaceValue) (path : Path) (id : TraitId) (told again : Items) → IsSound s → trait_at s place path ≡ Ok id
    → Grows s t → ListsTrait s id told t → Grows t u → Grows u v → ListsTrait u id again v → HasEachOnce v.tables → again ≡ told

-- so are an impl's
abbrev pub ImplsAreToldAlike : Type 0
ImplsAreToldAlike = (s t u v : SessionState) (place : PlaceValue) (number : ℕ) (id : ImplId) (told again : Items) → IsSound s → impl_at s place number ≡ Ok id
    → Grows s t → ListsImpl s id told t → Grows t u → Grows u v → ListsImpl u id again v → HasEachOnce v.tables → again ≡ told

-- ---- edits of bodies

-- a file that was there is set to a source that differs in the texts of bodies alone: no mark changes
abbrev pub BodyEditsMarkNothing : Type 0
BodyEditsMarkNothing = (old new : SessionState) (path : List ℕ) (was source : SourceValue) → IsSound old
    → file_at old.sources.files path ≡ Some was → source_without_bodies was ≡ source_without_bodies source → Applies old (set_file path source) new
    → (id : MapId) → is_marked new id ≡ is_marked old id

-- and no answer
abbrev pub BodyEditsLeaveAnswers : Type 0
BodyEditsLeaveAnswers = (old new : SessionState) (path : List ℕ) (was source : SourceValue) → IsSound old
    → file_at old.sources.files path ≡ Some was → source_without_bodies was ≡ source_without_bodies source → Applies old (set_file path source) new
    → AnswersAlike old new

-- an expansion that was there is set to one with the same error and the same inner paths, and a source that differs in the texts of bodies alone: no mark
-- changes
abbrev pub ExpansionBodyEditsMarkNothing : Type 0
ExpansionBodyEditsMarkNothing = (old new : SessionState) (key : ExpansionValue) (was entry : EntryValue) → IsSound old
    → entry_at old.sources.entries key ≡ Some was → was.error ≡ entry.error → was.inner ≡ entry.inner
    → source_without_bodies was.source ≡ source_without_bodies entry.source
    → Applies old (set_expansion key entry) new
    → (id : MapId) → is_marked new id ≡ is_marked old id

-- and no answer
abbrev pub ExpansionBodyEditsLeaveAnswers : Type 0
ExpansionBodyEditsLeaveAnswers = (old new : SessionState) (key : ExpansionValue) (was entry : EntryValue) → IsSound old
    → entry_at old.sources.entries key ≡ Some was → was.error ≡ entry.error → was.inner ≡ entry.inner
    → source_without_bodies was.source ≡ source_without_bodies entry.source
    → Applies old (set_expansion key entry) new
    → AnswersAlike old new

-- a file that was absent is set, to an empty source too: each place whose run asked for it is marked
abbrev pub SetAbsentFileMarks : Type 0
SetAbsentFileMarks = (old new : SessionState) (path : List ℕ) (source : SourceValue) (id : MapId) (found : Resolution) (key : TreeKey)
    → file_at old.sources.files path ≡ None → Applies old (set_file path source) new
    → kept_of old id ≡ Some found → Contains found.asked (Tree key) → source_of old.tables key.id ≡ Some (file path)
    → is_marked new id ≡ true

-- a file that was there is removed, an empty one too: each place whose run asked for it is marked
abbrev pub RemovePresentFileMarks : Type 0
RemovePresentFileMarks = (old new : SessionState) (path : List ℕ) (was : SourceValue) (id : MapId) (found : Resolution) (key : TreeKey)
    → file_at old.sources.files path ≡ Some was → Applies old (remove_file path) new
    → kept_of old id ≡ Some found → Contains found.asked (Tree key) → source_of old.tables key.id ≡ Some (file path)
    → is_marked new id ≡ true

-- a file that isn't there is removed: no mark changes
abbrev pub RemoveAbsentFileMarksNothing : Type 0
RemoveAbsentFileMarksNothing = (old new : SessionState) (path : List ℕ) → IsSound old
    → file_at old.sources.files path ≡ None → Applies old (remove_file path) new → (id : MapId) → is_marked new id ≡ is_marked old id

-- and no answer
abbrev pub RemoveAbsentFileLeavesAnswers : Type 0
RemoveAbsentFileLeavesAnswers = (old new : SessionState) (path : List ℕ) → IsSound old
    → file_at old.sources.files path ≡ None → Applies old (remove_file path) new → AnswersAlike old new

-- an expansion that was absent is set, to an empty source too: each place whose run asked for it is marked
abbrev pub SetAbsentExpansionMarks : Type 0
SetAbsentExpansionMarks = (old new : SessionState) (key : ExpansionValue) (entry : EntryValue) (id : MapId) (found : Resolution) (number : EntryId)
    → entry_at old.sources.entries key ≡ None → Applies old (set_expansion key entry) new
    → kept_of old id ≡ Some found → Contains found.asked (Expansion number) → numbers.entry_at old.tables number ≡ Some key
    → is_marked new id ≡ true

-- an expansion that was there is removed, an empty one too: each place whose run asked for it is marked
abbrev pub RemovePresentExpansionMarks : Type 0
RemovePresentExpansionMarks = (old new : SessionState) (key : ExpansionValue) (was : EntryValue) (id : MapId) (found : Resolution) (number : EntryId)
    → entry_at old.sources.entries key ≡ Some was → Applies old (remove_expansion key) new
    → kept_of old id ≡ Some found → Contains found.asked (Expansion number) → numbers.entry_at old.tables number ≡ Some key
    → is_marked new id ≡ true

-- an expansion that isn't there is removed: no mark changes
abbrev pub RemoveAbsentExpansionMarksNothing : Type 0
RemoveAbsentExpansionMarksNothing = (old new : SessionState) (key : ExpansionValue) → IsSound old
    → entry_at old.sources.entries key ≡ None → Applies old (remove_expansion key) new → (id : MapId) → is_marked new id ≡ is_marked old id

-- and no answer
abbrev pub RemoveAbsentExpansionLeavesAnswers : Type 0
RemoveAbsentExpansionLeavesAnswers = (old new : SessionState) (key : ExpansionValue) → IsSound old
    → entry_at old.sources.entries key ≡ None → Applies old (remove_expansion key) new → AnswersAlike old new

-- ---- blocks

-- a block that was set is set to a source that differs in the texts of bodies alone: no mark changes
abbrev pub BlockBodyEditsMarkNothing : Type 0
BlockBodyEditsMarkNothing = (old new : SessionState) (place : BlockPlace) (was source : SourceValue) → IsSound old
    → block_in old.sources.blocks (place_of_block place) ≡ Some was → source_without_bodies was ≡ source_without_bodies source
    → Applies old (set_block place source) new
    → (id : MapId) → is_marked new id ≡ is_marked old id

-- and no answer
abbrev pub BlockBodyEditsLeaveAnswers : Type 0
BlockBodyEditsLeaveAnswers = (old new : SessionState) (place : BlockPlace) (was source : SourceValue) → IsSound old
    → block_in old.sources.blocks (place_of_block place) ≡ Some was → source_without_bodies was ≡ source_without_bodies source
    → Applies old (set_block place source) new
    → AnswersAlike old new

-- a block that wasn't set is, to an empty source too: each place whose run asked for it is marked
abbrev pub SetAbsentBlockMarks : Type 0
SetAbsentBlockMarks = (old new : SessionState) (place : BlockPlace) (source : SourceValue) (id : MapId) (found : Resolution) (key : TreeKey)
    → block_in old.sources.blocks (place_of_block place) ≡ None → Applies old (set_block place source) new
    → kept_of old id ≡ Some found → Contains found.asked (Tree key) → source_of old.tables key.id ≡ Some (block place)
    → is_marked new id ≡ true

-- a block that was set is removed, an empty one too: each place whose run asked for it is marked
abbrev pub RemovePresentBlockMarks : Type 0
RemovePresentBlockMarks = (old new : SessionState) (place : BlockPlace) (was : SourceValue) (id : MapId) (found : Resolution) (key : TreeKey)
    → block_in old.sources.blocks (place_of_block place) ≡ Some was → Applies old (remove_block place) new
    → kept_of old id ≡ Some found → Contains found.asked (Tree key) → source_of old.tables key.id ≡ Some (block place)
    → is_marked new id ≡ true

-- a block that isn't set is removed: no mark changes
abbrev pub RemoveAbsentBlockMarksNothing : Type 0
RemoveAbsentBlockMarksNothing = (old new : SessionState) (place : BlockPlace) → IsSound old
    → block_in old.sources.blocks (place_of_block place) ≡ None → Applies old (remove_block place) new → (id : MapId) → is_marked new id ≡ is_marked old id

-- and no answer
abbrev pub RemoveAbsentBlockLeavesAnswers : Type 0
RemoveAbsentBlockLeavesAnswers = (old new : SessionState) (place : BlockPlace) → IsSound old
    → block_in old.sources.blocks (place_of_block place) ≡ None → Applies old (remove_block place) new → AnswersAlike old new

-- whether an edit is of a block
abbrev pub edits_block : EditValue → Bool
edits_block (set_file path source) = false
edits_block (remove_file path) = false
edits_block (set_block place source) = true
edits_block (remove_block place) = true
edits_block (set_expansion key entry) = false
edits_block (remove_expansion key) = false
edits_block (set_crate krate given) = false

-- an edit of a block changes no mark of a crate
abbrev pub BlockEditsSpareTheCrate : Type 0
BlockEditsSpareTheCrate = (old new : SessionState) (edit : EditValue) (k : ℕ) → IsSound old → edits_block edit ≡ true → Applies old edit new
    → is_marked new (id_of k) ≡ is_marked old (id_of k)

-- ---- sources for which no run asked

-- no run of which something is kept asked for the source at the place
pub record IsUnasked (s : SessionState) (place : SourcePlaceValue) : Type 0 where
  pub each : (id : MapId) (found : Resolution) (key : Key) → kept_of s id ≡ Some found → Contains found.asked key → key_place s.tables key ≢ Some place

-- an edit of a source for which no run asked: no mark changes
abbrev pub UnaskedSourcesMarkNothing : Type 0
UnaskedSourcesMarkNothing = (old new : SessionState) (edit : SourceEditValue) → IsSound old → IsUnasked old (place_of edit)
    → AppliesTo old (source_edit edit) new → (id : MapId) → is_marked new id ≡ is_marked old id

-- whether an edit of a source is of a block
abbrev pub is_of_block : SourceEditValue → Bool
is_of_block (of_file path new) = false
is_of_block (of_block place new) = true
is_of_block (of_expansion key new) = false

-- and no answer, unless it is of a block
abbrev pub UnaskedSourcesLeaveAnswers : Type 0
UnaskedSourcesLeaveAnswers =
    (old new : SessionState) (edit : SourceEditValue) → IsSound old → IsUnasked old (place_of edit) → is_of_block edit ≡ false
    → AppliesTo old (source_edit edit) new → AnswersAlike old new

-- nor, whatever it is of, one at a place whose steps end in a current map
abbrev pub UnaskedSourcesLeaveCurrentAnswers : Type 0
UnaskedSourcesLeaveCurrentAnswers =
    (old new : SessionState) (edit : SourceEditValue) (place : PlaceValue) (id : MapId) (path : Path) (shadow : Shadow) (style : Option MacroStyle)
    → IsSound old → IsUnasked old (place_of edit) → AppliesTo old (source_edit edit) new → map_by (standing_of old place) ≡ Some id
    → answer_of new place path shadow style ≡ answer_of old place path shadow style

-- ---- what crates are handed in with

-- data that a crate has already: no mark changes
abbrev pub SameDataMarkNothing : Type 0
SameDataMarkNothing = (old new : SessionState) (krate : Crate) (given : CrateDataValue) → IsSound old
    → IsConfigOf given (crate_in old.crates krate.0).config → Applies old (set_crate krate given) new → (id : MapId) → is_marked new id ≡ is_marked old id

-- and no answer
abbrev pub SameDataLeaveAnswers : Type 0
SameDataLeaveAnswers = (old new : SessionState) (krate : Crate) (given : CrateDataValue) → IsSound old
    → IsConfigOf given (crate_in old.crates krate.0).config → Applies old (set_crate krate given) new → AnswersAlike old new

-- other data mark the crate
abbrev pub OtherDataMarkTheCrate : Type 0
OtherDataMarkTheCrate = (old new : SessionState) (krate : Crate) (given : CrateDataValue) → ¬ IsConfigOf given (crate_in old.crates krate.0).config
    → Applies old (set_crate krate given) new → is_marked new (crate_map krate) ≡ true
