-- What a part of a run does.
use Rattle.std.specs.Prelude.{◌≡◌, ◌+◌, ℕ, suc, map, Bool, true, false, List, [], ◌∷◌, ◌++◌, length, Option, None, Some, option_map}
use Rattle.std.specs.Option.{option_to_list}
use Rattle.hir_nameres.specs.HirBase.Cfg.{Cfg}
use Rattle.hir_nameres.specs.HirIds.declared.ast_id.AstKind.TheVariants as nodes
use Rattle.hir_item_tree.specs.Collected.{Numbered as Attribute, is_enabled, numbered}
use Rattle.hir_item_tree.specs.KeptForest.{Head}
use Rattle.hir_nameres.specs.HirBase.ModPath.{Path}
use Rattle.hir_nameres.specs.HirIds.declared.ids.AdtId.{AdtId}
use Rattle.hir_nameres.specs.HirIds.declared.ast_id.AstId.{AstId}
use Rattle.hir_nameres.specs.HirIds.declared.ast_id.AttrId.{AttrId}
use Rattle.hir_nameres.specs.HirIds.declared.ids.Crate.{Crate}
use Rattle.hir_nameres.specs.HirBase.declared.locations.LocationsError.{LocationsError}
use Rattle.hir_nameres.specs.HirIds.declared.ast_id.MacroCallId.{MacroCallId}
use Rattle.hir_item_tree.specs.declared.kinds.ModItemKind.{ModItemKind}
use Rattle.hir_nameres.specs.HirBase.declared.tree_id.TreeId.{TreeId}
use Rattle.hir_item_tree.specs.declared.kinds.ModItemKind.TheVariants as kinds
use Rattle.hir_mod_dir.specs.declared.candidate.Candidate.{Candidate}
use Rattle.hir_nameres.specs.HirDefMapRules.Macros.{with_diagnostic, with_exported, with_macro_data}
use Rattle.hir_nameres.specs.HirMapParts.declared.add_module_error.AddModuleError.{AddModuleError}
use Rattle.hir_nameres.specs.HirMapParts.declared.diagnostics.DefDiagnostic.{DefDiagnostic}
use Rattle.hir_nameres.specs.HirMapParts.declared.origin.ModuleOrigin.{ModuleOrigin}
use Rattle.hir_nameres.specs.HirIds.declared.macro_kind.MacroId.TheVariants.{ProcMacroId}
use Rattle.hir_collector_rules.specs.declared.declaration.Declaration.{Declaration}
use Rattle.hir_collector_rules.specs.declared.exported.Export.{Export}
use Rattle.hir_nameres.specs.HirPerNs.declared.visibility.Visibility.{Visibility}
use Rattle.hir_nameres.specs.HirPerNs.declared.visibility.Visibility.TheVariants.{Public}
use Rattle.hir_nameres.specs.HirDefMapRules.Overlay.{Maps}
use Rattle.hir_nameres.specs.HirDefMapRules.State.{Map, ModuleValue, new_module, with_module}
use Rattle.hir_collector_rules.specs.declared.site.Site.{Site}
use Rattle.hir_nameres.specs.HirMapParts.declared.add_module_error.AddModuleError.TheVariants as refusals
use Rattle.hir_import_rules.specs.declared.error.ImportError.{ImportError}
use Rattle.hir_import_rules.specs.declared.error.ImportError.TheVariants as imports
use Rattle.hir_collector_rules.specs.declared.start.CollectError.{CollectError}
use Rattle.hir_collector_rules.specs.declared.start.CollectError.TheVariants as runs
use Rattle.hir_collector_rules.specs.declared.start.StepError.{StepError}
use Rattle.hir_collector_rules.specs.declared.start.StepError.TheVariants.{TooMany, Memory}
use Rattle.hir_item_tree.specs.SourceTree.{SourceTreeValue}
use Rattle.hir_nameres.specs.HirBase.declared.locations.LocationsError.TheVariants as numbers
use Rattle.hir_tables.specs.SourcePlaces.{SourcePlaceValue}
use Rattle.hir_tables.specs.Tables.{KeepsTables, TablesValue, source_of}
use Rattle.hir_collector_rules.specs.Keys.{Environment, environment}
use Rattle.hir_collector_rules.specs.Workspace.{Workspace}
use Rattle.hir_collector_rules.specs.ModuleFiles.{AreNumbered, IsNumberOf, IsSearch, LookedAt, ModuleFile, Tried, file_reading, file_readings, module_file}
use Rattle.hir_collector_rules.specs.ModuleFiles.{named_by}
use Rattle.hir_collector_rules.specs.Attributes.{attr_id, next_attribute, paths_in, proc_macro_id}
use Rattle.hir_collector_rules.specs.Calls.{IsNumberedDerive}
use Rattle.hir_collector_rules.specs.Invocations.{derive_met, with_noted}
use Rattle.hir_collector_rules.specs.ItemIds.{function_id, module_id, node_of}
use Rattle.hir_collector_rules.specs.Items.{file_origin, own_visibility}
use Rattle.hir_collector_rules.specs.Macros.{macro_declaration, textual_at, with_textual_scope}
use Rattle.hir_collector_rules.specs.Reports.{IsUnconfigured, invalid_target, malformed_derive}
use Rattle.hir_collector_rules.specs.State.{Core, Task, Visit, visits, counted, joined, with_calls, with_exported_function, with_map}
use Rattle.hir_collector_rules.specs.Changes.{Change, perform}
use Rattle.hir_collector_rules.specs.Steps.{Sees, Step, Steps, behind, derives_from, exported_function, keys_read, module_declaration, with_declaration}
use Rattle.hir_collector_rules.specs.Steps.{with_keys}
use Rattle.hir_collector_rules.specs.Derivation.{IsSpent}
use Rattle.hir_collector_rules.specs.NumberedOut.{IsDeriveNumberedOut}

-- it holds over the tables as they are, and over each that they grow to
abbrev pub OnceGrown : TablesValue → Workspace → (Environment → Type 0) → Type 0
OnceGrown tables w P = (grown : TablesValue) → KeepsTables tables grown → P (environment grown w)

-- this is what a tree's source has under a crate, and its number means something
pub record IsHeld (tables : TablesValue) (w : Workspace) (krate : Crate) (tree : TreeId) (source : SourceTreeValue) : Type 0 where
  pub place : SourcePlaceValue
  pub at : source_of tables tree ≡ Some place
  pub is : w.tree krate place ≡ source

-- nothing is to be looked up for an attribute of the visited item any more, where so many are done with
abbrev pub IsPassed : Core → Visit → ℕ → Type 0
IsPassed c v done = next_attribute c.map v.site v.item done ≡ None

-- one step over the workspace handles the visit once its attributes are done with, and these tasks come next
pub record Handles (env : Environment) (finished : Maps) (old new : Core) (v : Visit) (inside : List Task) : Type 0 where
  pub step : (done : ℕ) → IsPassed old v done → (rest : List Task) → Step env finished (joined old (visits (behind v done) ∷ rest))
      (joined new (inside ++ rest))

-- steps over the workspace handle the visit once its attributes are done with, and what it binds goes along globs; these tasks come next
pub record HandlesAndSpreads (env : Environment) (finished : Maps) (old new : Core) (v : Visit) (inside : List Task) : Type 0 where
  pub steps : (done : ℕ) → IsPassed old v done → (rest : List Task) → Steps env finished (joined old (visits (behind v done) ∷ rest))
      (joined new (inside ++ rest))

-- as many steps as are counted were taken by then
pub record HandlesTooFar (env : Environment) (finished : Maps) (old : Core) (v : Visit) : Type 0 where
  pub spent : (done : ℕ) → IsPassed old v done → (rest : List Task) → IsSpent env finished (joined old (visits (behind v done) ∷ rest))

-- steps go through attributes of the visited item, and come to where it is next, or to where it waits
abbrev pub GoesThrough : Environment → Maps → Core → Core → Visit → ℕ → Option ℕ → Type 0
GoesThrough env finished old new v from None = (rest : List Task) → Steps env finished (joined old (visits (behind v from) ∷ rest)) (joined new rest)
GoesThrough env finished old new v from (Some done) =
    IsPassed new v done × ((rest : List Task) → Steps env finished (joined old (visits (behind v from) ∷ rest)) (joined new (visits (behind v done) ∷ rest)))

pub record Passes (env : Environment) (finished : Maps) (old new : Core) (v : Visit) (from : ℕ) (done : Option ℕ) : Type 0 where
  pub goes : GoesThrough env finished old new v from done

-- steps through them lead to as many as are counted
pub record PassesTooFar (env : Environment) (finished : Maps) (old : Core) (v : Visit) (from : ℕ) : Type 0 where
  pub spent : (rest : List Task) → IsSpent env finished (joined old (visits (behind v from) ∷ rest))

-- the paths of a `derive` on a node wait, and it is noted where its module's scope notes derives; its call has a number
pub record ListsDerive (tables : TablesValue) (site : Site) (node : AstId) (attr : AttrId) (adt : AdtId) (paths : List Path) (old new : Core) : Type 0 where
  pub call : MacroCallId
  pub numbered : IsNumberedDerive tables old.map.id.krate node attr call
  pub is : new ≡ with_map (with_calls old (derives_from site node attr adt 0 paths)) (with_noted old.map site.home (derive_met node attr call paths))

-- a `derive` on a node becomes calls of its paths, or is reported
pub data TakesDerive (tables : TablesValue) (site : Site) (node : AstId) (a : Attribute) (adt : Option AdtId) (old new : Core) : Type 0 where
  listed : (target : AdtId) (paths : List Path) → adt ≡ Some target → paths_in a.meta.input ≡ Some paths → ListsDerive tables site node (attr_id a) target paths
      old new
      → TakesDerive tables site node a adt old new
  no_target : adt ≡ None → new ≡ with_map old (with_diagnostic old.map (invalid_target (module_id old.map site.home) node (attr_id a)))
      → TakesDerive tables site node a adt old new
  no_paths : (target : AdtId) → adt ≡ Some target → paths_in a.meta.input ≡ None → new
      ≡ with_map old (with_diagnostic old.map (malformed_derive (module_id old.map site.home) node (attr_id a)))
      → TakesDerive tables site node a adt old new

-- it lists paths, and its call can't get a number
pub record LacksDeriveNumber (tables : TablesValue) (own : Crate) (node : AstId) (a : Attribute) (adt : Option AdtId) : Type 0 where
  pub target : AdtId
  pub is_target : adt ≡ Some target
  pub paths : List Path
  pub lists : paths_in a.meta.input ≡ Some paths
  pub out : IsDeriveNumberedOut tables own node (attr_id a)

-- what is to be done once the attribute at a place is handled: the item goes on behind it, unless it waits
abbrev pub goes_behind : Visit → ℕ → Bool → List Task
goes_behind v at false = []
goes_behind v at true = visits (behind v (suc at)) ∷ []

-- one step handles an attribute of the visited item, and this is still to be done
pub record HandlesAttribute (env : Environment) (finished : Maps) (old new : Core) (v : Visit) (done : ℕ) (next : List Task) : Type 0 where
  pub step : (rest : List Task) → Step env finished (joined old (visits (behind v done) ∷ rest)) (joined new (next ++ rest))

-- these changes are made, whatever is still to be done
pub record Makes (changes : List Change) (old new : Core) : Type 0 where
  pub is : (rest : List Task) → joined new rest ≡ perform (joined old rest) changes

-- steps do what is to be done, one task after another
pub record Walks (env : Environment) (finished : Maps) (old new : Core) (tasks : List Task) : Type 0 where
  pub steps : (rest : List Task) → Steps env finished (joined old (tasks ++ rest)) (joined new rest)

-- steps through the tasks lead to as many as are counted
pub record WalksTooFar (env : Environment) (finished : Maps) (old : Core) (tasks : List Task) : Type 0 where
  pub spent : (rest : List Task) → IsSpent env finished (joined old (tasks ++ rest))

-- why a step isn't taken where a file or a call can't get a number
abbrev pub refusal_of_number : LocationsError → StepError
refusal_of_number numbers.TooMany = TooMany
refusal_of_number numbers.Memory = Memory

-- why one isn't where a module can't be added
abbrev pub refusal_of : AddModuleError → StepError
refusal_of refusals.TooMany = TooMany
refusal_of refusals.Memory = Memory

-- why one isn't where imports aren't taken
abbrev pub refusal_of_import : ImportError → StepError
refusal_of_import imports.TooMany = TooMany
refusal_of_import imports.Memory = Memory

-- why a run is given up where a step isn't taken
abbrev pub refusal_of_step : StepError → CollectError
refusal_of_step TooMany = runs.TooMany
refusal_of_step Memory = runs.Memory

-- a diagnostic like this is added, and nothing else changes
pub record Tells (P : DefDiagnostic → Type 0) (old new : Core) : Type 0 where
  pub report : DefDiagnostic
  pub is_such : P report
  pub is : new ≡ with_map old (with_diagnostic old.map report)

-- the file of a candidate was asked for, if it names one
pub record LooksAt (tables : TablesValue) (w : Workspace) (declaring : Option (List ℕ)) (candidate : Candidate) (old new : Core) (file : Option LookedAt) : Type
    0 where
  pub numbered : IsNumberOf tables (option_map (λ (f : LookedAt). f.id) file) (named_by declaring candidate)
  pub sees : OnceGrown tables w (λ env. (finished : Maps) → Sees env finished (file_reading old.map.id.krate old.map.crate_data.edition file))
  pub asked : new ≡ record old { asked = with_keys old.asked (keys_read (file_reading old.map.id.krate old.map.crate_data.edition file)) }

-- the file of a module was looked for among candidates
pub record Finds (tables : TablesValue) (w : Workspace) (declaring : Option (List ℕ)) (candidates : List Candidate) (old new : Core)
    (file : Option ModuleFile) : Type 0 where
  pub absent : List Tried
  pub found : Option Tried
  pub search : IsSearch candidates (record { declaring = declaring; absent = absent; found = found })
  pub numbered : AreNumbered tables declaring (absent ++ option_to_list found)
  pub sees : OnceGrown tables w (λ env. (finished : Maps)
      → Sees env finished (file_readings old.map.id.krate old.map.crate_data.edition (absent ++ option_to_list found)))
  pub asked : new ≡ record old {
    asked = with_keys old.asked
        (keys_read (file_readings old.map.id.krate old.map.crate_data.edition (absent ++ option_to_list found)));
  }
  pub is : file ≡ module_file found

-- the map with one more module, which begins with the macros in textual scope in the one around it
abbrev pub begun : Map → ℕ → List ℕ → ModuleValue → Map
begun m home name new = let made : Map = with_module m home name new in with_textual_scope made (length m.modules) (textual_at made home)

-- the core once a function that exports a macro is declared, with the macro
abbrev pub with_export : Core → Site → Head → List ℕ → Declaration → Export → Core
with_export c site head name d e =
    let makro = proc_macro_id c.map site head.id e.style in
    let noted = with_exported_function (with_map c (with_exported c.map (function_id c.map site head.id) makro)) (exported_function c.map site head name) in
    with_declaration (with_declaration (with_map noted (with_macro_data noted.map (ProcMacroId makro) e.what)) site.home d) site.home
    (macro_declaration e.what.name (ProcMacroId makro) Public)

-- a run once a module is made, listed and bound
abbrev pub opened : Maps → Core → Site → Head → List ℕ → ModuleOrigin → Core
opened finished c site head name origin =
    let vis : Visibility = own_visibility finished c.local c.map site head in
    counted (with_declaration (with_map c (begun c.map site.home name (new_module origin vis (Some (module_id c.map site.home))))) site.home
    (module_declaration c.map name vis))

-- a diagnostic like this is added, and a step is counted
pub record Drops (P : DefDiagnostic → Type 0) (old new : Core) : Type 0 where
  pub report : DefDiagnostic
  pub is_such : P report
  pub is : new ≡ counted (with_map old (with_diagnostic old.map report))

-- the file of a module is disabled at its top, which is reported; or the module is made, and the items of the file come next
pub record DropsFile (site : Site) (head : Head) (file : ModuleFile) (old new : Core) : Type 0 where
  pub condition : Cfg
  pub disabled : file.tree.attributes.disabled ≡ Some condition
  pub drops : Drops (IsUnconfigured (module_id old.map site.home) (node_of site.tree nodes.Module head.id) condition old.options) old new

pub record OpensFile (finished : Maps) (site : Site) (head : Head) (name : List ℕ) (file : ModuleFile) (old new : Core) : Type 0 where
  pub enabled : is_enabled file.tree.attributes ≡ true
  pub is : new ≡ opened finished old site head name (file_origin site.tree head.id old.map.crate_data.edition file)

-- one of the two may be done
pub data MayTake (site : Site) (head : Head) (file : ModuleFile) (c : Core) : Type 0 where
  may_open : is_enabled file.tree.attributes ≡ true → MayTake site head file c
  may_drop : (condition : Cfg) (report : DefDiagnostic) → file.tree.attributes.disabled ≡ Some condition
      → IsUnconfigured (module_id c.map site.home) (node_of site.tree nodes.Module head.id) condition c.options report → MayTake site head file c

-- whether an item holds no others, and is no module
abbrev pub is_single : ModItemKind → Bool
is_single (kinds.Mod i) = false
is_single (kinds.ExternBlock i) = false
is_single _ = true
