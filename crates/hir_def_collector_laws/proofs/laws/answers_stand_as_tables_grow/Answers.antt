use Rattle.hir_collector_rules.proofs.Meaning.{answers_stand, asked_keys_have_meaning, looks_stand}
use Rattle.hir_def_collector_laws.proofs.laws.answers_stand_as_tables_grow.Goals as goal

pub returns-clause-looks : goal.returns-clause-looks
returns-clause-looks c = looks_stand

pub returns-clause-meaning : goal.returns-clause-meaning
returns-clause-meaning c = asked_keys_have_meaning

pub returns-clause-answers : goal.returns-clause-answers
returns-clause-answers c = answers_stand
