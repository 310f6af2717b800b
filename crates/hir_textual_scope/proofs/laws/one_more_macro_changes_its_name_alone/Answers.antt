use Rattle.hir_textual_scope.proofs.NewMacro.{new_macro_comes_last, new_macro_is_meant, other_names_keep_theirs}
use Rattle.hir_textual_scope.proofs.laws.one_more_macro_changes_its_name_alone.Goals as goal

pub returns : goal.returns
returns c = record { comes_last = new_macro_comes_last; is_meant = new_macro_is_meant; others = other_names_keep_theirs }
