-- Why a run asked for a key.
use Rattle.std.specs.Prelude.{◌≡◌, true, ℕ, List, [], ◌∷◌, Option, None, Some, Contains, slice_get}
use Rattle.hir_nameres.specs.HirIds.declared.ids.Crate.{Crate}
use Rattle.hir_nameres.specs.HirIds.declared.ids.EnumId.{EnumId}
use Rattle.hir_nameres.specs.HirIds.declared.ast_id.FileId.{FileId}
use Rattle.hir_nameres.specs.HirIds.declared.macro_kind.MacroId.{MacroId}
use Rattle.hir_nameres.specs.HirIds.declared.ids.ModuleDefId.{ModuleDefId}
use Rattle.hir_nameres.specs.HirIds.declared.ids.AdtId.TheVariants as adts
use Rattle.hir_nameres.specs.HirIds.declared.ids.ModuleDefId.TheVariants as definitions
use Rattle.hir_item_tree.specs.Collected.{is_enabled}
use Rattle.hir_item_tree.specs.KeptForest.{Head, leaf, outline_module}
use Rattle.hir_mod_dir.specs.ModuleFiles.{candidates_of}
use Rattle.hir_mod_dir.specs.declared.candidate.Candidate.{Candidate}
use Rattle.hir_tables.specs.Tables.{TablesValue}
use Rattle.hir_nameres.specs.HirDefMapRules.Overlay.{Maps}
use Rattle.hir_nameres.specs.HirDefMapRules.State.{ModuleValue, module_at}
use Rattle.hir_collector_rules.specs.declared.macro_directive.MacroDirective.{MacroDirective}
use Rattle.hir_collector_rules.specs.declared.site.Site.{Site}
use Rattle.hir_collector_rules.specs.declared.source_database.Key.{Key}
use Rattle.hir_collector_rules.specs.declared.source_database.Key.TheVariants.{Tree, Variants}
use Rattle.hir_collector_rules.specs.Workspace.{Workspace, transitive_dependencies_in}
use Rattle.hir_collector_rules.specs.Keys.{config_key, environment, map_key}
use Rattle.hir_collector_rules.specs.Attributes.{next_attribute}
use Rattle.hir_collector_rules.specs.ModuleFiles.{IsNumberOf, NoneIsThereBefore, file_key, named_by}
use Rattle.hir_collector_rules.specs.State.{State, Task, visits}
use Rattle.hir_collector_rules.specs.Start.{Beginning, begin_of, held_keys, holders_by, krate_of, read_by, root_key}
use Rattle.hir_collector_rules.specs.Calls.{EagerLook, Expanding, IsNumberedCall, IsNumberedEager}
use Rattle.hir_collector_rules.specs.Steps.{Expands, MeetsEager, Sees, Steps, behind, expands_call, keys_read, meets_macro, path_of, reads, visit}

-- the definitions that a module lists, if it is there
abbrev pub declarations_of : Option ModuleValue → List ModuleDefId
declarations_of None = []
declarations_of (Some m) = m.scope.declarations

-- a state on the way of a run from its start to this one
pub record IsPassed (tables : TablesValue) (w : Workspace) (finished : Maps) (from : Beginning) (last at : State) : Type 0 where
  pub before : Steps (environment tables w) (read_by w finished from.start) (begin_of tables w finished from) at
  pub after : Steps (environment tables w) (read_by w finished from.start) at last

-- the next item of a state is a `mod` item of which this is the candidate of a number, and its file has this number
pub record IsCandidate (tables : TablesValue) (w : Workspace) (at : State) (key : Key) : Type 0 where
  pub site : Site
  pub head : Head
  pub name : List ℕ
  pub rest : List Task
  pub done : ℕ
  pub next : at.agenda ≡ visits (behind (visit site (leaf head (outline_module name))) done) ∷ rest
  pub enabled : is_enabled head.attributes ≡ true
  -- nothing is to be looked up for an attribute of it any more
  pub passed : next_attribute at.core.map site (leaf head (outline_module name)) done ≡ None
  -- the file in which the item, or the outermost call around it, is written
  pub declaring : Option (List ℕ)
  pub written : IsNumberOf tables site.file declaring
  pub place : ℕ
  pub candidate : Candidate
  pub is_candidate : slice_get (candidates_of site.dir name (path_of head)) place ≡ Some candidate
  pub id : FileId
  pub is_file : IsNumberOf tables (Some id) (named_by declaring candidate)
  pub is : key ≡ Tree (file_key at.core.map.id.krate at.core.map.crate_data.edition id)
  -- no candidate before it is there
  pub earlier : NoneIsThereBefore w at.core.map.id.krate declaring (candidates_of site.dir name (path_of head)) place

-- a call, a path of a derive or an attribute of a state reaches a macro, and this is the key of the macro's text, of the input, of what the macro asks for
-- first, of the text of a macro that such a path reaches, of the expansion or of the expansion's items
pub record IsOfCall (tables : TablesValue) (w : Workspace) (finished : Maps) (at : State) (key : Key) : Type 0 where
  pub place : ℕ
  pub call : MacroDirective
  pub makro : MacroId
  pub seen : Expanding
  pub expands : Expands finished at place call makro seen
  pub numbered : IsNumberedCall tables at.core.map.id.krate call makro seen
  pub sees : Sees (environment tables w) finished (reads at (expands_call place call makro seen))
  pub among : Contains (keys_read (reads at (expands_call place call makro seen))) key

-- it reaches a macro that asks for a path first which reaches nothing, and this is the key of the macro's text, of the input or of what it asks for
pub record IsOfEager (tables : TablesValue) (w : Workspace) (finished : Maps) (at : State) (key : Key) : Type 0 where
  pub place : ℕ
  pub call : MacroDirective
  pub makro : MacroId
  pub seen : EagerLook
  pub meets : MeetsEager finished at place call makro seen
  pub numbered : IsNumberedEager tables at.core.map.id.krate call makro seen
  pub sees : Sees (environment tables w) finished (reads at (meets_macro place call makro seen))
  pub among : Contains (keys_read (reads at (meets_macro place call makro seen))) key

-- the reasons for which a run that ends in this state may have asked for a key
pub data HasCause (tables : TablesValue) (w : Workspace) (finished : Maps) (from : Beginning) (last : State) (key : Key) : Type 0 where
  -- it is the tree with which the run begins
  root_tree : key ≡ root_key from.start from.tree → HasCause tables w finished from last key
  -- it is the map of the crate of a block, or that of a module which holds the block
  of_holder : Contains (held_keys from.start (holders_by finished from.start)) key → HasCause tables w finished from last key
  -- it is the variants of an enum that a module lists
  declared_enum : (home : ℕ) (id : EnumId) → Contains (declarations_of (module_at last.core.map home)) (definitions.AdtId (adts.EnumId id)) → key ≡ Variants id
      → HasCause tables w finished from last key
  -- it is the tree of a candidate of a `mod` item, of which no earlier candidate is there
  candidate : (at : State) → IsPassed tables w finished from last at → IsCandidate tables w at key → HasCause tables w finished from last key
  -- it is one of the keys of a call that reaches a macro
  of_call : (at : State) → IsPassed tables w finished from last at → IsOfCall tables w (read_by w finished from.start) at key → HasCause tables w finished from
      last key
  -- or one of those of a call that waits for a path that the macro asks for
  of_eager : (at : State) → IsPassed tables w finished from last at → IsOfEager tables w (read_by w finished from.start) at key → HasCause tables w finished
      from last key
  -- it is the map of a crate on which the run's crate depends
  dependency : (krate : Crate) → Contains (transitive_dependencies_in w (krate_of from.start)) krate → key ≡ map_key krate → HasCause tables w finished from
      last key
  -- it is what the run's crate was handed in with, or a crate on which that depends
  handed_in : (krate : Crate) → Contains (krate_of from.start ∷ transitive_dependencies_in w (krate_of from.start)) krate → key ≡ config_key krate
      → HasCause tables w finished from last key
