use Rattle.hir_scope_table.proofs.NamesByModule.{name_removed}
use Rattle.hir_scope_table.proofs.globs.remove_among.Goals as goal

pub returns : goal.returns
returns c = record {
  value = name_removed c.args.names.now c.remove.new.self c.args.name.now c.remove.ensures.value;
  sorted = c.is_ordered.ensures.ordered;
}
