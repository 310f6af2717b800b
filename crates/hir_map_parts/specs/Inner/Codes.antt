-- How are diagnostics stored?
use Rattle.std.specs.Prelude.{List}
use Rattle.std.specs.Coded.{Coded, codes}
use Rattle.hir_base.specs.contracts.cfg.CfgExpr as cfg
use Rattle.hir_map_parts.specs.declared.diagnostics.DefDiagnostic.{DefDiagnostic}

-- diagnostics are stored as the list of their parts, conditions as trees
pub coded_diagnostics : Coded (List DefDiagnostic)
coded_diagnostics = hlevel (codes, cfg.the_row.coded)
