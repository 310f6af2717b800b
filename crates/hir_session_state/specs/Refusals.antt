-- What are a session and an edit refused for?
use Rattle.std.specs.Prelude.{◌≡◌, ℕ, ◌+◌, Bool, false, true, ◌&&◌, not, nat_le, nat_lt, List, [], ◌∷◌, length, map, Option, Some, None, Result, Ok, Err}
use Rattle.std.specs.Prelude.{if◌then◌else◌}
use Rattle.std.specs.List.{list_all, list_any}
use Rattle.hir_collector_rules.specs.HirBase.ModPath.{Path}
use Rattle.hir_collector_rules.specs.HirBase.declared.place.BlockPlace.{BlockPlace}
use Rattle.hir_collector_rules.specs.HirIds.declared.ids.Crate.{Crate}
use Rattle.hir_collector_rules.specs.HirBase.declared.limit.Limit.{Limit}
use Rattle.hir_collector_rules.specs.HirBase.declared.locations.LocationsError.{LocationsError}
use Rattle.hir_collector_rules.specs.HirBase.declared.macro_kind.MacroText.{MacroText}
use Rattle.hir_collector_rules.specs.HirBase.declared.place.PlaceElement.{PlaceElement}
use Rattle.hir_collector_rules.specs.HirBase.declared.locations.LocationsError.TheVariants as number_error
use Rattle.hir_collector_rules.specs.HirBase.declared.limit.Limit.TheVariants as limit
use Rattle.hir_collector_rules.specs.HirBase.declared.place.PlaceElement.TheVariants as element
use Rattle.hir_collector_rules.specs.HirTables.SourcePlaces.{ExpansionValue}
use Rattle.hir_collector_rules.specs.HirItemTree.Attributes.{Attributes}
use Rattle.hir_collector_rules.specs.HirItemTree.Source.{SourceValue}
use Rattle.hir_collector_rules.specs.HirItemTree.Check.{verdict_of_check}
use Rattle.hir_collector_rules.specs.HirItemTree.Limits.{are_deep, have_long_attribute, is_long}
use Rattle.hir_collector_rules.specs.HirItemTree.declared.check.CheckError.{CheckError}
use Rattle.hir_collector_rules.specs.HirItemTree.declared.check.CheckError.TheVariants as check_error
use Rattle.hir_messages.specs.CommandValue.{CrateInputValue}
use Rattle.hir_messages.specs.declared.command.Dependency.{Dependency}
use Rattle.hir_messages.specs.Edits.{CrateDataValue, EditValue, EntryValue, set_file, remove_file, set_block, remove_block, set_expansion, remove_expansion, set_crate}
use Rattle.hir_session_state.specs.declared.error.NewSessionError.{NewSessionError}
use Rattle.hir_session_state.specs.declared.error.NewSessionError.TheVariants as new_error
use Rattle.hir_session_state.specs.declared.error.EditError.{EditError}
use Rattle.hir_session_state.specs.declared.error.EditError.TheVariants as edit_error
use Rattle.hir_session_state.specs.declared.error.RefreshError.{RefreshError}
use Rattle.hir_session_state.specs.declared.error.RefreshError.TheVariants as refresh_error
use Rattle.hir_session_state.specs.declared.error.QueryError.{QueryError}
use Rattle.hir_session_state.specs.declared.error.QueryError.TheVariants as query_error
use Rattle.hir_session_state.specs.declared.error.TreeTextError.{TreeTextError}
use Rattle.hir_session_state.specs.declared.error.TreeTextError.TheVariants as tree_text_error
use Rattle.hir_session_state.specs.declared.error.DiagnosticsError.{DiagnosticsError}
use Rattle.hir_session_state.specs.declared.error.DiagnosticsError.TheVariants as diagnostics_error
use Rattle.hir_session_state.specs.declared.error.ModulesError.{ModulesError}
use Rattle.hir_session_state.specs.declared.error.ModulesError.TheVariants as modules_error
use Rattle.hir_session_state.specs.SessionState.{max_crates}
use Rattle.hir_session_state.specs.Nesting.{is_nested_too_deep}
use Rattle.hir_session_state.specs.Blocks.{nesting_of, place_of_block}

-- memory ran out
abbrev pub IsNewMemory : NewSessionError → Type 0
IsNewMemory e = e ≡ new_error.Memory

-- memory ran out
abbrev pub IsEditMemory : EditError → Type 0
IsEditMemory e = e ≡ edit_error.Memory

-- memory ran out
abbrev pub IsQueryMemory : QueryError → Type 0
IsQueryMemory e = e ≡ query_error.Memory

-- memory ran out
abbrev pub IsTreeTextMemory : TreeTextError → Type 0
IsTreeTextMemory e = e ≡ tree_text_error.Memory

-- memory ran out for diagnostics
abbrev pub IsDiagnosticsMemory : DiagnosticsError → Type 0
IsDiagnosticsMemory e = e ≡ diagnostics_error.Memory

-- memory ran out for a list of modules
abbrev pub IsModulesMemory : ModulesError → Type 0
IsModulesMemory e = e ≡ modules_error.Memory

-- why a refresh ends early where a block gets no number
abbrev pub refresh_error_of_number : LocationsError → RefreshError
refresh_error_of_number number_error.TooMany = refresh_error.TooMany
refresh_error_of_number number_error.Memory = refresh_error.Memory

-- the crates that a list names as dependencies
abbrev pub dependency_crates : List Dependency → List Crate
dependency_crates dependencies = map (λ d. d.krate) dependencies

-- whether one of the crates doesn't come before this one
abbrev pub has_late : ℕ → List Crate → Bool
has_late k crates = list_any (λ d. nat_le k d.0) crates

-- the first crate, from this number on, that has a dependency that doesn't come before it
abbrev pub first_out_of_order : ℕ → List CrateInputValue → Option Crate
first_out_of_order k [] = None
first_out_of_order k (c ∷ cs) =
    if has_late k (dependency_crates c.deps) then Some (record { 0 = k }) else first_out_of_order (k + 1) cs

-- whether a path in the attributes that are handed in for a crate has too many segments
abbrev pub is_too_long : CrateInputValue → Bool
is_too_long c = have_long_attribute c.attributes

-- whether conditions in some attributes nest too deep, where their paths have no more segments than they may
abbrev pub nest_too_deep : Attributes → Bool
nest_too_deep attributes = not (have_long_attribute attributes) && are_deep attributes

-- so it is with those that are handed in for a crate
abbrev pub is_too_deep : CrateInputValue → Bool
is_too_deep c = nest_too_deep c.attributes

-- that the crates are within the limits, or the first limit that is passed
abbrev pub verdict_of_limits : List CrateInputValue → Result (Unit {0}) NewSessionError
verdict_of_limits inputs =
    if list_any is_too_long inputs then Err (new_error.TooLarge limit.Path) else
    (if list_any is_too_deep inputs then Err (new_error.TooLarge limit.Cfg) else
    (if nat_lt max_crates (length inputs) then Err (new_error.TooLarge limit.Crates) else Ok tt))

-- what is said of the order of the crates, and then of the limits
abbrev pub verdict_of_order : List CrateInputValue → Option Crate → Result (Unit {0}) NewSessionError
verdict_of_order inputs (Some krate) = Err (new_error.DependencyOrder krate)
verdict_of_order inputs None = verdict_of_limits inputs

-- that a session over the crates is made, or the first thing for which it is refused
abbrev pub verdict_of_new : List CrateInputValue → Result (Unit {0}) NewSessionError
verdict_of_new inputs = verdict_of_order inputs (first_out_of_order 0 inputs)

-- what an edit is refused for where its source is
abbrev pub edit_error_of : CheckError → EditError
edit_error_of (check_error.TooLarge limit) = edit_error.TooLarge limit
edit_error_of (check_error.DuplicateId kind id) = edit_error.DuplicateId kind id
edit_error_of check_error.Memory = edit_error.Memory

-- the same of an answer
abbrev pub edit_result_of : Result (Unit {0}) CheckError → Result (Unit {0}) EditError
edit_result_of (Ok u) = Ok tt
edit_result_of (Err e) = Err (edit_error_of e)

-- what a source is refused for
abbrev pub verdict_of_source : SourceValue → Result (Unit {0}) EditError
verdict_of_source source =
    if is_nested_too_deep source then Err (edit_error.TooLarge limit.Modules) else edit_result_of (verdict_of_check source)

-- whether there are the crates that an expansion names, where there are so many
abbrev pub are_known : ℕ → ExpansionValue → Bool
are_known count key = nat_lt key.caller.0 count && (nat_lt key.called.krate.0 count && list_all (λ (m : MacroText). nat_lt m.krate.0 count) key.reached)

-- the most paths that a macro may ask to have resolved first
abbrev pub max_inner : ℕ
max_inner = 1000

-- what such paths are refused for: one with too many segments, or too many of them
abbrev pub verdict_of_inner : List Path → Result (Unit {0}) EditError
verdict_of_inner paths =
    if list_any is_long paths then Err (edit_error.TooLarge limit.Path) else
    (if nat_lt max_inner (length paths) then Err (edit_error.TooLarge limit.Inner) else Ok tt)

-- what an expansion is refused for: the paths that it lists, or its source where it lists none
abbrev pub verdict_of_paths : List Path → Result (Unit {0}) EditError → Result (Unit {0}) EditError
verdict_of_paths [] verdict = verdict
verdict_of_paths (path ∷ paths) verdict = verdict_of_inner (path ∷ paths)

abbrev pub verdict_of_entry : EntryValue → Result (Unit {0}) EditError
verdict_of_entry entry = verdict_of_paths entry.inner (verdict_of_source entry.source)

-- what an expansion that is set is refused for: crates that aren't there first
abbrev pub verdict_of_expansion : ℕ → ExpansionValue → EntryValue → Result (Unit {0}) EditError
verdict_of_expansion count key entry =
    if are_known count key then verdict_of_entry entry else Err edit_error.UnknownCrate

-- what an expansion that is removed is refused for
abbrev pub verdict_of_removal : ℕ → ExpansionValue → Result (Unit {0}) EditError
verdict_of_removal count key = if are_known count key then Ok tt else Err edit_error.UnknownCrate

-- what other data of the crate of this number are refused for, where the crate is there: attributes above the limits, and then a dependency that doesn't come
-- before it
abbrev pub verdict_of_data : Crate → Attributes → List Dependency → Result (Unit {0}) EditError
verdict_of_data krate attributes deps =
    if have_long_attribute attributes then Err (edit_error.TooLarge limit.Path) else
    (if nest_too_deep attributes then Err (edit_error.TooLarge limit.Cfg) else
    (if has_late krate.0 (dependency_crates deps) then Err (edit_error.DependencyOrder krate) else Ok tt))

-- the same of a crate, where there are so many
abbrev pub verdict_of_crate : ℕ → Crate → CrateDataValue → Result (Unit {0}) EditError
verdict_of_crate count krate given =
    if nat_lt krate.0 count then verdict_of_data krate given.attributes given.deps else Err edit_error.UnknownCrate

-- whether an id has an index above those that ids may have
abbrev pub has_high_index : PlaceElement → Bool
has_high_index (element.Module name) = false
has_high_index (element.Block id) = nat_lt 2047 id.index

-- whether a limit is told before that of indices
abbrev pub is_before_index : Limit → Bool
is_before_index limit.Line = true
is_before_index limit.Name = true
is_before_index limit.Path = true
is_before_index limit.File = true
is_before_index limit.Index = false
is_before_index limit.Nodes = false
is_before_index limit.Modules = false
is_before_index limit.UseTree = false
is_before_index limit.Cfg = false
is_before_index limit.Blocks = false
is_before_index limit.Crates = false
is_before_index limit.Inner = false

-- whether a source is refused for a limit
abbrev pub passes_limit : Result (Unit {0}) EditError → Bool
passes_limit (Ok u) = false
passes_limit (Err edit_error.UnknownCrate) = false
passes_limit (Err (edit_error.TooLarge limit)) = true
passes_limit (Err (edit_error.DependencyOrder krate)) = false
passes_limit (Err (edit_error.DuplicateId kind id)) = false
passes_limit (Err edit_error.Memory) = false

-- and for one that is told before that of indices
abbrev pub passes_before_index : Result (Unit {0}) EditError → Bool
passes_before_index (Ok u) = false
passes_before_index (Err edit_error.UnknownCrate) = false
passes_before_index (Err (edit_error.TooLarge limit)) = is_before_index limit
passes_before_index (Err (edit_error.DependencyOrder krate)) = false
passes_before_index (Err (edit_error.DuplicateId kind id)) = false
passes_before_index (Err edit_error.Memory) = false

-- the most blocks that are in one another
abbrev pub max_blocks : ℕ
max_blocks = 16

-- what is said of a source, where the steps to its block are within the limits; of several limits the first is told
abbrev pub verdict_with_steps : List PlaceElement → Result (Unit {0}) EditError → Result (Unit {0}) EditError
verdict_with_steps steps verdict =
    if passes_before_index verdict then verdict else
    (if list_any has_high_index steps then Err (edit_error.TooLarge limit.Index) else
    (if passes_limit verdict then verdict else
    (if nat_lt max_blocks (nesting_of steps) then Err (edit_error.TooLarge limit.Blocks) else verdict)))

-- what is said of a block of which this is said beside its place, where there are so many crates
abbrev pub verdict_of_block : ℕ → BlockPlace → Result (Unit {0}) EditError → Result (Unit {0}) EditError
verdict_of_block count place verdict =
    if nat_lt place.holder.krate.0 count then verdict_with_steps (place_of_block place).elements verdict else Err edit_error.UnknownCrate

-- that the edit of a session over so many crates is accepted, or the first thing for which it is refused
abbrev pub verdict_of_apply : ℕ → EditValue → Result (Unit {0}) EditError
verdict_of_apply count (set_file path source) = verdict_of_source source
verdict_of_apply count (remove_file path) = Ok tt
verdict_of_apply count (set_block place source) = verdict_of_block count place (verdict_of_source source)
verdict_of_apply count (remove_block place) = verdict_of_block count place (Ok tt)
verdict_of_apply count (set_expansion key entry) = verdict_of_expansion count key entry
verdict_of_apply count (remove_expansion key) = verdict_of_removal count key
verdict_of_apply count (set_crate krate given) = verdict_of_crate count krate given
