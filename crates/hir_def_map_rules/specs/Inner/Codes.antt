-- How are def maps stored?
use Rattle.std.specs.Coded.{Coded, codes}
use Rattle.hir_base.specs.contracts.cfg.CfgExpr as cfg
use Rattle.hir_def_map_rules.specs.State.{Map}
pub use Rattle.hir_map_parts.specs.Inner.Codes.{coded_diagnostics}

-- a map is stored as its parts
pub coded_map : Coded Map
coded_map = hlevel (codes, cfg.the_row.coded)
