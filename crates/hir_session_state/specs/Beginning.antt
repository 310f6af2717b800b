-- How does a session begin?
use Rattle.std.specs.Prelude.{◌≡◌, ℕ, ◌<◌, List, [], ◌∷◌, ◌++◌, length, map, None, Some}
use Rattle.hir_collector_rules.specs.HirBase.CfgOptions.{SetAlike}
use Rattle.hir_messages.specs.CommandValue.{CrateInputValue, data_of_input}
use Rattle.hir_messages.specs.Edits.{CrateDataValue}
use Rattle.hir_messages.specs.declared.command.Dependency.{Dependency as HandedIn}
use Rattle.hir_collector_rules.specs.declared.source_database.Dependency.{Dependency}
use Rattle.hir_collector_rules.specs.Workspace.{ConfigValue}
use Rattle.hir_collector_rules.specs.HirIds.declared.ids.MapId.{MapId}
use Rattle.hir_session_state.specs.Crates.{CrateValue, crate_in}
use Rattle.hir_collector_rules.specs.HirTables.Tables.{TablesValue, file_at, KeepsTables}
use Rattle.hir_session_state.specs.SessionState.{SessionState, kept_of}

-- a dependency as a run sees it
abbrev pub dependency_of : HandedIn → Dependency
dependency_of d = record { krate = d.krate; name = d.name; is_prelude = d.prelude }

-- it is what a crate is handed in with, and its options are a set
pub record IsConfigOf (given : CrateDataValue) (config : ConfigValue) : Type 0 where
  pub edition : config.edition ≡ given.edition
  pub attributes : config.attributes ≡ given.attributes
  pub dependencies : config.dependencies ≡ map dependency_of given.deps
  pub options : SetAlike config.options given.options

-- two crates are handed in alike: their options are the same set
pub record IsSameConfig (given config : ConfigValue) : Type 0 where
  pub edition : config.edition ≡ given.edition
  pub attributes : config.attributes ≡ given.attributes
  pub dependencies : config.dependencies ≡ given.dependencies
  pub options : SetAlike config.options given.options

-- the crate is as it was handed in
pub record IsMade (input : CrateInputValue) (c : CrateValue) : Type 0 where
  pub root : c.own.root ≡ input.root
  pub is_proc_macro : c.own.is_proc_macro ≡ input.proc_macro
  pub config : IsConfigOf (data_of_input input) c.config

-- the crates are as they were handed in
abbrev pub AreMade : List CrateInputValue → List CrateValue → Type 0
AreMade [] [] = Unit {0}
AreMade (input ∷ inputs) (c ∷ cs) = IsMade input c × AreMade inputs cs
AreMade [] (c ∷ cs) = ⊥
AreMade (input ∷ inputs) [] = ⊥

-- the number of each crate's root file means its path
abbrev pub AreRooted : TablesValue → List CrateValue → Type 0
AreRooted tables crates = (k : ℕ) → k < length crates → file_at tables (crate_in crates k).file ≡ Some (crate_in crates k).own.root

-- one more crate was made, as it was handed in
pub record IsAdded (input : CrateInputValue) (old new : List CrateValue) (before after : TablesValue) : Type 0 where
  pub made : CrateValue
  pub is : IsMade input made
  pub number : file_at after made.file ≡ Some made.own.root
  pub longer : new ≡ old ++ made ∷ []
  pub kept : KeepsTables before after
  pub others : after ≡ record before { files = after.files }

-- the session is over these crates, without sources, and nothing of it is resolved
pub record Begins (inputs : List CrateInputValue) (s : SessionState) : Type 0 where
  pub crates : AreMade inputs s.crates
  -- two crates with one root file have one number for it
  pub rooted : AreRooted s.tables s.crates
  -- and nothing else has a number
  pub tables : s.tables ≡ record { files = s.tables.files; blocks = []; entries = []; calls = [] }
  pub sources : s.sources ≡ record { files = []; blocks = []; entries = [] }
  pub kept : (id : MapId) → kept_of s id ≡ None
