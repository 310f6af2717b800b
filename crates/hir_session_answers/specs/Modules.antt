-- Which places do the modules of a map have?
use Rattle.std.specs.Prelude.{ℕ, zero, suc, nat_eq, nat_lt, Bool, true, false, List, [], ◌∷◌, ◌++◌, length, Option, None, Some, option_map, Result, Ok, Err}
use Rattle.std.specs.Prelude.{cond, if◌then◌else◌}
use Rattle.std.specs.Cmp.Lexicographic.{pointwise}
use Rattle.std.specs.Option.{option_and_then, option_to_list}
use Rattle.hir_session_state.specs.HirBase.Place.{PlaceValue}
use Rattle.hir_session_state.specs.HirIds.declared.ast_id.EditionedFileId.{EditionedFileId}
use Rattle.hir_session_state.specs.HirIds.declared.ids.Crate.{Crate}
use Rattle.hir_session_state.specs.HirIds.declared.ids.ModuleId.{ModuleId}
use Rattle.hir_session_state.specs.HirBase.declared.place.PlaceElement.{PlaceElement}
use Rattle.hir_session_state.specs.HirBase.declared.place.PlaceElement.TheVariants as element
use Rattle.hir_session_state.specs.HirTables.Tables.{TablesValue, file_at}
use Rattle.hir_session_state.specs.HirDefMapRules.Origins.{file_of}
use Rattle.hir_session_state.specs.HirDefMapRules.State.{Map, ModuleValue, module_at, parent_at}
use Rattle.hir_session_state.specs.declared.error.ModulesError.{ModulesError}
use Rattle.hir_session_state.specs.declared.error.ModulesError.TheVariants as error
use Rattle.hir_session_state.specs.Crates.{id_of}
use Rattle.hir_session_state.specs.SessionState.{SessionState, Resolution, kept_of}

-- ---- the place of a module

-- the name under which the module of this number is among others
abbrev pub name_among : List (List ℕ × ModuleId) → ℕ → Option (List ℕ)
name_among [] at = None
name_among (child ∷ children) at = cond (nat_eq child.1.index at) (Some child.0) (name_among children at)

abbrev pub name_in : Option ModuleValue → ℕ → Option (List ℕ)
name_in None at = None
name_in (Some holder) at = name_among holder.children at

-- the name of a module in the one that it is in; of two modules with one name there the first has it
abbrev pub name_below : Map → ℕ → ℕ → Option (List ℕ)
name_below map holder at = name_in (module_at map holder) at

-- steps, and then one to a module of this name
abbrev pub then_to : Option (List PlaceElement) → List ℕ → Option (List PlaceElement)
then_to None name = None
then_to (Some steps) name = Some (steps ++ element.Module name ∷ [])

-- the steps to a module from what it is in, where those to that are known; none lead to the root
abbrev pub steps_from : Map → (ℕ → Option (List PlaceElement)) → ℕ → Option ModuleId → Option (List PlaceElement)
steps_from map steps at None = Some []
steps_from map steps at (Some holder) = option_and_then (then_to (steps holder.index)) (name_below map holder.index at)

-- the steps that lead to a module from the root, past fewer modules than this
abbrev pub steps_to : Map → ℕ → ℕ → Option (List PlaceElement)
steps_to map zero at = None
steps_to map (suc depth) at = steps_from map (steps_to map depth) at (parent_at map at)

abbrev pub place_by : Map → List PlaceElement → PlaceValue
place_by map steps = record { krate = map.id.krate; elements = steps }

-- the place of a module, if it has one; a way up that meets no module twice meets no more than there are
abbrev pub place_of : Map → ℕ → Option PlaceValue
place_of map at = option_map (place_by map) (steps_to map (length map.modules) at)

-- ---- the modules that are asked for

abbrev pub is_path : List ℕ → Option (List ℕ) → Bool
is_path path None = false
is_path path (Some own) = pointwise nat_eq own path

-- whether the file that a module has to itself is the one at a path
abbrev pub is_of_file : TablesValue → List ℕ → Option EditionedFileId → Bool
is_of_file tables path None = false
is_of_file tables path (Some own) = is_path path (file_at tables own.file_id)

-- whether a module is asked for: each is where no path is given
abbrev pub is_wanted : TablesValue → Option (List ℕ) → Option ModuleValue → Bool
is_wanted tables None m = true
is_wanted tables (Some path) None = false
is_wanted tables (Some path) (Some m) = is_of_file tables path (file_of m.origin)

-- the place of a module that is asked for
abbrev pub wanted_place : TablesValue → Option (List ℕ) → Map → ℕ → Option PlaceValue
wanted_place tables path map at = cond (is_wanted tables path (module_at map at)) (place_of map at) None

-- the places of those with numbers below this one, in the order of their numbers
abbrev pub places_below : TablesValue → Option (List ℕ) → Map → ℕ → List PlaceValue
places_below tables path map zero = []
places_below tables path map (suc at) = places_below tables path map at ++ option_to_list (wanted_place tables path map at)

-- those of all modules of a map that are asked for
abbrev pub places_of : TablesValue → Option (List ℕ) → Map → List PlaceValue
places_of tables path map = places_below tables path map (length map.modules)

-- ---- the modules of a crate

-- those of what is kept of a crate
abbrev pub modules_from : TablesValue → Option Resolution → Result (List PlaceValue) ModulesError
modules_from tables None = Err error.StalePlace
modules_from tables (Some r) = Ok (places_of tables None r.map)

-- the places of the modules of a crate, or why they aren't listed
abbrev pub modules_of : SessionState → Crate → Result (List PlaceValue) ModulesError
modules_of s krate = if nat_lt krate.0 (length s.crates) then modules_from s.tables (kept_of s (id_of krate.0)) else Err error.UnknownCrate

-- ---- the modules that a file is

-- in what is kept of a crate
abbrev pub modules_in : TablesValue → List ℕ → Option Resolution → List PlaceValue
modules_in tables path None = []
modules_in tables path (Some r) = places_of tables (Some path) r.map

-- in the first so many crates
abbrev pub modules_below : SessionState → List ℕ → ℕ → List PlaceValue
modules_below s path zero = []
modules_below s path (suc k) = modules_below s path k ++ modules_in s.tables path (kept_of s (id_of k))

-- in all crates that are current
abbrev pub file_modules_of : SessionState → List ℕ → List PlaceValue
file_modules_of s path = modules_below s path (length s.crates)
