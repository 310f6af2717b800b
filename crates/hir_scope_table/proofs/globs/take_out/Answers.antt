use Rattle.std.proofs.Common.{◌∙◌, ap, sym, subst, List}
use Rattle.std.specs.BTreeMap.{BTreeMap, is_at}
use Rattle.std.specs.Cmp.Lexicographic.{slice_cmp}
use Rattle.std.specs.List.Sorted.{IsStrictlySortedBy}
use Rattle.std.specs.Ordering.{nat_cmp}
use Rattle.hir_ids.specs.contracts.ids.ModuleIdOrd.TheImpl as module_id
use Rattle.hir_ids.specs.contracts.ids.ModuleIdOrd.TheImpl.Laws.{total-law as module_total}
use Rattle.hir_ids.specs.declared.ids.ModuleId.{ModuleId}
use Rattle.hir_scope_table.specs.Inner.Places.{Names, names_in, places_of, AreNamesSorted}
use Rattle.hir_scope_table.proofs.ByModule.{all_set, remove_none, remove_there}
use Rattle.hir_scope_table.proofs.NamesByModule.{exact_module}
use Rattle.hir_scope_table.proofs.globs.take_out.Goals as goal

pub returns-in-Some : goal.returns-in-Some
returns-in-Some c =
    let es = c.args.modules.now.entries in
    let at = c.args.at.now in
    let new = c.remove_among.new.names in
    record {
      value =
          ap places_of (c.get_mut.follows.holds new).0
          ∙ sym (remove_there module_id.ghosts.cmp module_total exact_module (slice_cmp nat_cmp) names_in at.0 at.1 es c.in-Some.names.now new
          c.get_mut.ensures.ordered (sym c.in-Some.ensures.value) c.remove_among.ensures.value);
      sorted =
          subst (λ (fs : List (ModuleId × Names)). AreNamesSorted fs) (sym (c.get_mut.follows.holds new).0)
          (all_set (λ (names : Names). IsStrictlySortedBy (slice_cmp nat_cmp) (names_in names)) (is_at (module_id.ghosts.cmp at.0)) es new
          c.remove_among.ensures.sorted c.requires.sorted);
    }

pub returns-in-None : goal.returns-in-None
returns-in-None c =
    let es = c.args.modules.now.entries in
    let at = c.args.at.now in
    record {
      value =
          ap (λ (m : BTreeMap ModuleId Names). places_of m.entries) c.get_mut.follows.holds-at-none
          ∙ sym (remove_none module_id.ghosts.cmp module_total exact_module (slice_cmp nat_cmp) names_in at.0 at.1 es c.get_mut.ensures.ordered
          (sym c.in-None.ensures.value));
      sorted = subst (λ (m : BTreeMap ModuleId Names). AreNamesSorted m.entries) (sym c.get_mut.follows.holds-at-none) c.requires.sorted;
    }
