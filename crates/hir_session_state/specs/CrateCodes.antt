-- How is a crate stored?
use Rattle.std.specs.Prelude.{List}
use Rattle.std.specs.Coded.{Coded, codes, coded_list}
use Rattle.hir_collector_rules.specs.HirItemTree.CollectedCodes.{coded_atom}
use Rattle.hir_session_state.specs.Crates.{CrateValue}
use Rattle.hir_session_state.specs.SourceCodes.{coded_attributes}

-- a crate is stored as its parts
pub coded_crate : Coded CrateValue
coded_crate = hlevel (codes, coded_attributes, coded_atom)

-- crates are stored in their order
pub coded_crates : Coded (List CrateValue)
coded_crates = coded_list coded_crate
