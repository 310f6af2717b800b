use Rattle.std.proofs.Common.{◌≡◌, ◌∙◌, ap, sym, subst, true, List, Some, IfOk, OnErr}
use Rattle.std.specs.BTreeMap.{BTreeMap, is_at}
use Rattle.std.specs.Cmp.Lexicographic.{slice_cmp}
use Rattle.std.specs.List.Sorted.{IsStrictlySortedBy}
use Rattle.std.specs.Ordering.{nat_cmp}
use Rattle.std.proofs.lemmas.Map.Steps.{set_value_same}
use Rattle.hir_ids.specs.contracts.ids.ModuleIdOrd.TheImpl as module_id
use Rattle.hir_ids.specs.contracts.ids.ModuleIdOrd.TheImpl.Laws.{total-law as module_total}
use Rattle.hir_ids.specs.declared.ids.ModuleId.{ModuleId}
use Rattle.hir_scope_table.specs.Globs.{place_cmp}
use Rattle.hir_scope_table.specs.Inner.Places.{Names, names_in, places_of, AreNamesSorted}
use Rattle.hir_scope_table.specs.Inner.Reserved.{IsKeyFor}
use Rattle.hir_scope_table.proofs.ByModule.{all_set, key_there}
use Rattle.hir_scope_table.proofs.NamesByModule.{exact_module, if_ok, on_err}
use Rattle.hir_scope_table.proofs.globs.add.Goals as goal

pub returns-in-Some-clause-ok : goal.returns-in-Some-clause-ok
returns-in-Some-clause-ok c =
    let es = c.args.modules.now.entries in
    let at = c.args.at.now in
    let new = c.add_among.new.names in
    if_ok c.add_among.result (λ added. IsKeyFor (slice_cmp nat_cmp) (names_in c.in-Some.names.now) at.1 true added (names_in new))
    (λ added. IsKeyFor place_cmp (places_of es) at true added (places_of (c.get_mut.follows.lender new).entries))
    (λ added key. subst (λ (fs : List (ModuleId × Names)). IsKeyFor place_cmp (places_of es) at true added (places_of fs))
    (sym (c.get_mut.follows.holds new).0)
    (key_there module_id.ghosts.cmp module_total exact_module (slice_cmp nat_cmp) names_in at.0 at.1 es c.in-Some.names.now new added
    c.get_mut.ensures.ordered (sym c.in-Some.ensures.value) key))
    c.add_among.ensures.ok

pub returns-in-Some-clause-err : goal.returns-in-Some-clause-err
returns-in-Some-clause-err c =
    let es = c.args.modules.now.entries in
    let new = c.add_among.new.names in
    on_err c.add_among.result (new ≡ c.in-Some.names.now) (places_of (c.get_mut.follows.lender new).entries ≡ places_of es)
    (λ same. ap places_of ((c.get_mut.follows.holds new).0
    ∙ set_value_same (is_at (module_id.ghosts.cmp c.args.at.now.0)) es new (sym c.in-Some.ensures.value ∙ ap Some (sym same))))
    c.add_among.ensures.err

pub returns-in-Some-clause-sorted : goal.returns-in-Some-clause-sorted
returns-in-Some-clause-sorted c =
    let es = c.args.modules.now.entries in
    let new = c.add_among.new.names in
    subst (λ (fs : List (ModuleId × Names)). AreNamesSorted fs) (sym (c.get_mut.follows.holds new).0)
    (all_set (λ (names : Names). IsStrictlySortedBy (slice_cmp nat_cmp) (names_in names)) (is_at (module_id.ghosts.cmp c.args.at.now.0)) es new
    c.add_among.ensures.sorted c.requires.sorted)

pub returns-in-None-clause-ok : goal.returns-in-None-clause-ok
returns-in-None-clause-ok c =
    subst (λ (m : BTreeMap ModuleId Names). IfOk c.add_first.result (λ added. IsKeyFor place_cmp (places_of m.entries) c.args.at.now true added
    (places_of c.add_first.new.modules.entries))) c.get_mut.follows.holds-at-none c.add_first.ensures.ok

pub returns-in-None-clause-err : goal.returns-in-None-clause-err
returns-in-None-clause-err c =
    subst (λ (m : BTreeMap ModuleId Names). OnErr c.add_first.result (places_of c.add_first.new.modules.entries ≡ places_of m.entries))
    c.get_mut.follows.holds-at-none c.add_first.ensures.err
