use Rattle.std.proofs.Common.{sym, subst, true, List}
use Rattle.std.specs.Cmp.Lexicographic.{slice_cmp}
use Rattle.std.specs.List.Sorted.{IsStrictlySortedBy}
use Rattle.std.specs.Ordering.{nat_cmp}
use Rattle.hir_ids.specs.contracts.ids.ModuleIdOrd.TheImpl as module_id
use Rattle.hir_ids.specs.contracts.ids.ModuleIdOrd.TheImpl.Laws.{total-law as module_total}
use Rattle.hir_ids.specs.declared.ids.ModuleId.{ModuleId}
use Rattle.hir_scope_table.specs.Globs.{place_cmp}
use Rattle.hir_scope_table.specs.Inner.Places.{Names, names_in, places_of, AreNamesSorted}
use Rattle.hir_scope_table.specs.Inner.Reserved.{IsKeyFor}
use Rattle.hir_scope_table.proofs.ByModule.{all_insert, key_first}
use Rattle.hir_scope_table.proofs.NamesByModule.{exact_module}
use Rattle.hir_scope_table.proofs.globs.add_first.Goals as goal

pub returns-clause-ok : goal.returns-clause-ok
returns-clause-ok c =
    let es = c.args.modules.now.entries in
    let at = c.args.at.now in
    let new = c.add_among.new.names in
    let added = c.in_ok-added.added in
    subst (λ (fs : List (ModuleId × Names)). IsKeyFor place_cmp (places_of es) at true added (places_of fs)) (sym c.in_ok-insert.ensures.entries)
    (key_first module_id.ghosts.cmp module_total exact_module (slice_cmp nat_cmp) names_in at.0 at.1 es new added c.insert.ensures.was_ordered
    c.requires.absent
    (subst (λ (names : Names). IsKeyFor (slice_cmp nat_cmp) (names_in names) at.1 true added (names_in new)) c.new-names.ensures.value
    c.in_ok-added.ensures.ok))

pub returns-clause-sorted : goal.returns-clause-sorted
returns-clause-sorted c =
    subst (λ (fs : List (ModuleId × Names)). AreNamesSorted fs) (sym c.in_ok-insert.ensures.entries)
    (all_insert (λ (names : Names). IsStrictlySortedBy (slice_cmp nat_cmp) (names_in names)) module_id.ghosts.cmp c.args.modules.now.entries c.args.at.now.0
    c.add_among.new.names c.add_among.ensures.sorted c.requires.sorted)
