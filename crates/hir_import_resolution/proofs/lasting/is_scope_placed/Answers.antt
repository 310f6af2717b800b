-- What a name stands for is one of the items, and a module that isn't there has none.
use Rattle.std.proofs.Common.{rules}
use Rattle.hir_def_map_rules.specs.State.{module_at}
use Rattle.hir_import_resolution.proofs.PlacedNames.{none_placed, placed_in}
use Rattle.hir_import_resolution.proofs.lasting.is_scope_placed.Goals as goal

pub returns-else-not-are_placed-2 : goal.returns-else-not-are_placed-2
returns-else-not-are_placed-2 c = record {
  placed = λ yes key b named is.
      placed_in c.args.map.now (module_at c.args.map.now c.args.at) c.in-Some.scope.now (search (rules, c.scope.ensures.value))
      (rw (← c.types.ensures.value) (c.are_placed.ensures.placed c.if-not-are_placed.false))
      (rw (← c.values.ensures.value) (c.are_placed-in-Some.ensures.placed c.if-not-are_placed-2.false))
      (rw (← c.macros.ensures.value) (c.are_placed-in-Some-2.ensures.placed yes)) key b named is;
}

pub returns-in-None : goal.returns-in-None
returns-in-None c = record {
  placed = λ yes key b named is.
      none_placed c.args.map.now (module_at c.args.map.now c.args.at) (search (rules, c.scope.ensures.value)) key b is;
}
