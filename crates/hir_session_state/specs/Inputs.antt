-- What is handed in, and what does an edit make of it?
use Rattle.std.specs.Prelude.{List}
use Rattle.hir_collector_rules.specs.Workspace.{Workspace}
use Rattle.hir_session_state.specs.Crates.{CrateValue}
use Rattle.hir_session_state.specs.SourceEdits.{SourceEditValue, edited}
use Rattle.hir_session_state.specs.SourceTable.{SourceTable, workspace_in}

-- the crates by number, and the sources that are there
pub record InputsValue : Type 0 where
  pub crates : List CrateValue
  pub sources : SourceTable

-- the workspace for which they stand
abbrev pub workspace_by : InputsValue → Workspace
workspace_by inputs = workspace_in inputs.crates inputs.sources

-- what is handed in once the edit is made
abbrev pub inputs_after : InputsValue → SourceEditValue → InputsValue
inputs_after inputs edit = record inputs { sources = edited inputs.sources edit }

-- the workspace then
abbrev pub workspace_after : InputsValue → SourceEditValue → Workspace
workspace_after inputs edit = workspace_by (inputs_after inputs edit)
