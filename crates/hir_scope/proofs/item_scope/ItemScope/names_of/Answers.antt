use Rattle.hir_scope.proofs.AskLemmas.{asked_types, asked_values, asked_macros}
use Rattle.hir_scope.proofs.item_scope.ItemScope.names_of.Goals as goal

pub returns-in-Types : goal.returns-in-Types
returns-in-Types g c = record {
  value = asked_types (goal.F-step g) c.args.cb c.args.self.now c.in-Types.id c.args.item c.types.result c.ask_names.result c.in-Types.is
      c.types.ensures.value c.ask_names.ensures.value;
}

pub returns-in-Values : goal.returns-in-Values
returns-in-Values g c = record {
  value = asked_values (goal.F-step g) c.args.cb c.args.self.now c.in-Values.id c.args.item c.values.result c.ask_names-in-Values.result c.in-Values.is
      c.values.ensures.value c.ask_names-in-Values.ensures.value;
}

pub returns-in-Macros : goal.returns-in-Macros
returns-in-Macros g c = record {
  value = asked_macros (goal.F-step g) c.args.cb c.args.self.now c.in-Macros.id c.args.item c.macros.result c.ask_names-in-Macros.result c.in-Macros.is
      c.macros.ensures.value c.ask_names-in-Macros.ensures.value;
}
