use Rattle.std.proofs.Common.{subst, sym}
use Rattle.hir_scope_table.specs.Inner.Place.{IsKept}
use Rattle.hir_scope_table.proofs.Edits.{kept_none}
use Rattle.hir_scope_table.proofs.entry_list.EntryList.new.Goals as goal

pub invariant_of-result : goal.invariant_of-result
invariant_of-result g c = subst (λ es. IsKept es) (sym c.new.ensures.value) kept_none
