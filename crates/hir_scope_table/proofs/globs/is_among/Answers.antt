use Rattle.std.proofs.Common.{◌∙◌, Some, None}
use Rattle.hir_scope_table.proofs.NamesByModule.{has_place_in}
use Rattle.hir_scope_table.proofs.globs.is_among.Goals as goal

pub returns-in-Some : goal.returns-in-Some
returns-in-Some c = record {
  value =
      c.has_name.ensures.value
      ∙ has_place_in c.args.modules.now.entries c.args.at.now (Some c.in-Some.names.now) c.len.ensures.ordered c.in-Some.ensures.value;
}

pub returns-in-None : goal.returns-in-None
returns-in-None c = record { value = has_place_in c.args.modules.now.entries c.args.at.now None c.len.ensures.ordered c.in-None.ensures.value }
