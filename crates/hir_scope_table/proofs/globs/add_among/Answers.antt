use Rattle.std.proofs.Common.{subst, sym, Some, List, ℕ}
use Rattle.std.specs.Cmp.Lexicographic.{slice_cmp}
use Rattle.std.specs.List.Sorted.{IsStrictlySortedBy}
use Rattle.std.specs.Ordering.{nat_cmp}
use Rattle.hir_scope_table.specs.Inner.Places.{Names, names_in}
use Rattle.hir_scope_table.specs.Inner.Reserved.{IsEntryFor}
use Rattle.hir_scope_table.proofs.NamesByModule.{name_added}
use Rattle.hir_scope_table.proofs.globs.add_among.Goals as goal

pub returns-clause-ok : goal.returns-clause-ok
returns-clause-ok c =
    name_added c.args.names.now c.add.new.self c.args.name.now c.in_ok-added.added
    (subst (λ (name : List ℕ). IsEntryFor (slice_cmp nat_cmp) c.args.names.now (Some (name, tt)) c.in_ok-added.added c.add.new.self)
    c.in_ok-clone.ensures.value c.in_ok-added.ensures.ok)

pub returns-in_err-clone-clause-sorted : goal.returns-in_err-clone-clause-sorted
returns-in_err-clone-clause-sorted c = c.is_ordered.ensures.ordered

pub returns-in_err-added-clause-sorted : goal.returns-in_err-added-clause-sorted
returns-in_err-added-clause-sorted c =
    subst (λ (names : Names). IsStrictlySortedBy (slice_cmp nat_cmp) (names_in names)) (sym c.in_err-added.ensures.err) c.is_ordered.ensures.ordered
