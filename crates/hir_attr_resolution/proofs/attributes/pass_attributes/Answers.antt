-- One attribute after another, until none is left or the item waits.
use Rattle.std.proofs.Common.{rules, ◌≡◌, ◌∙◌, ◌<◌, ℕ, Bool, true, false, Some, None, map, subst, sym}
use Rattle.hir_collector_state.specs.HirItemTree.Collected.{numbered}
use Rattle.hir_collector_state.specs.HirDefMapRules.State.{Map}
use Rattle.hir_collector_state.proofs.HirTables.Growth.{KeepsTables-trans}
use Rattle.hir_attr_resolution.specs.declared.attributes.Visited.{Visited}
use Rattle.hir_collector_state.specs.HirCollectorRules.Attributes.{next_among, next_attribute}
use Rattle.hir_collector_state.specs.HirCollectorRules.Moves.{HandlesAttribute, goes_behind}
use Rattle.hir_collector_state.specs.HirCollectorRules.State.{Core, core_in, visit}
use Rattle.hir_collector_state.specs.HirCollectorRules.Keys.{node_tree}
use Rattle.hir_collector_state.proofs.HirCollectorRules.Lists.{get_there}
use Rattle.hir_collector_state.proofs.HirCollectorRules.ModuleFiles.{source_kept}
use Rattle.hir_collector_state.proofs.HirCollectorRules.Numbers.{tables_stay}
use Rattle.hir_collector_state.proofs.Noted.{noted_follow, noted_itself}
use Rattle.hir_attr_resolution.proofs.Passing.{PassesTo, passes_all, passes_far, passes_next, passes_none, passes_waits, place_of, visited_at, visited_none}
use Rattle.hir_attr_resolution.proofs.attributes.pass_attributes.Goals as goal

pub next-init : goal.next-init
next-init c = record {
  kept = tables_stay c.args.locations.now;
  placed = λ placed. placed;
  in_range = c.requires.in_range;
  goes = λ env finished item keeps is. passes_none env finished (core_in c.args.run.now) c.args.visited item c.args.from is;
  noted = noted_itself c.args.run.now;
}

pub handle_attribute-requires-clause-meant : goal.handle_attribute-requires-clause-meant
handle_attribute-requires-clause-meant c =
    source_kept c.args.locations.now c.next.locations c.next.invariant.kept (node_tree c.args.visited.node) c.requires.meant

pub next-preserved : goal.next-preserved
next-preserved c = record {
  kept = KeepsTables-trans c.args.locations.now c.next.locations c.handle_attribute.new.locations c.next.invariant.kept c.in_ok-handle_attribute.ensures.kept;
  placed = λ placed. c.in_ok-handle_attribute.ensures.placed (c.next.invariant.placed placed);
  in_range = subst (λ (n : ℕ). c.args.visited.site.now.home < n) (sym c.in_ok-handle_attribute.ensures.modules) c.next.invariant.in_range;
  goes = λ env finished item keeps is.
      let v : Visited = c.args.visited in
      let old : Core = core_in c.args.run.now in
      let now : Core = core_in c.next.run in
      let new : Core = core_in c.handle_attribute.new.run in
      let before : PassesTo env finished old v item c.args.from now c.next.done = c.next.invariant.goes env finished item
      (KeepsTables-trans c.next.locations c.handle_attribute.new.locations env.tables c.in_ok-handle_attribute.ensures.kept keeps) is in
      let a = get_there v.attrs.now c.in-Some.at c.in-Some.ensures.there in
      let at : Some c.in-Some.at ≡ place_of (next_among now.map v.node c.next.done (map numbered v.attrs.now)) =
      subst (λ (m : Map). Some c.in-Some.at ≡ place_of (next_among m v.node c.next.done (map numbered v.attrs.now))) c.map.ensures.value c.in-Some.ensures.value
      in
      let found : next_attribute now.map v.site.now item c.next.done ≡ Some (c.in-Some.at, numbered a.0) = visited_at now.map v item before.still c.next.done
      c.in-Some.at a.0 a.1 at in
      passes_next env finished old v item c.args.from now new c.next.done c.in-Some.at before
      (subst (λ (b : Bool). HandlesAttribute env finished now new (visit v.site.now item) c.next.done (goes_behind (visit v.site.now item) c.in-Some.at b))
      c.if-not-branch.false
      (c.in_ok-handle_attribute.ensures.ok env finished item c.next.done a.0 keeps before.still a.1 found));
  noted = noted_follow c.next.invariant.noted c.in_ok-handle_attribute.ensures.noted;
}

pub returns-then-not-branch-clause-kept : goal.returns-then-not-branch-clause-kept
returns-then-not-branch-clause-kept c =
    KeepsTables-trans c.args.locations.now c.next.locations c.handle_attribute.new.locations c.next.invariant.kept c.in_ok-handle_attribute.ensures.kept

pub returns-then-not-branch-clause-placed : goal.returns-then-not-branch-clause-placed
returns-then-not-branch-clause-placed c = λ placed. c.in_ok-handle_attribute.ensures.placed (c.next.invariant.placed placed)

pub returns-in_err-handle_attribute-clause-kept : goal.returns-in_err-handle_attribute-clause-kept
returns-in_err-handle_attribute-clause-kept c =
    KeepsTables-trans c.args.locations.now c.next.locations c.handle_attribute.new.locations c.next.invariant.kept c.in_err-handle_attribute.ensures.kept

pub returns-in_err-handle_attribute-clause-placed : goal.returns-in_err-handle_attribute-clause-placed
returns-in_err-handle_attribute-clause-placed c = λ placed. c.in_err-handle_attribute.ensures.placed (c.next.invariant.placed placed)

pub returns-then-not-branch-clause-noted : goal.returns-then-not-branch-clause-noted
returns-then-not-branch-clause-noted c = noted_follow c.next.invariant.noted c.in_ok-handle_attribute.ensures.noted

pub returns-then-not-branch-clause-ok : goal.returns-then-not-branch-clause-ok
returns-then-not-branch-clause-ok c = λ env finished item keeps is.
    let v : Visited = c.args.visited in
    let old : Core = core_in c.args.run.now in
    let now : Core = core_in c.next.run in
    let new : Core = core_in c.handle_attribute.new.run in
    let before : PassesTo env finished old v item c.args.from now c.next.done = c.next.invariant.goes env finished item
    (KeepsTables-trans c.next.locations c.handle_attribute.new.locations env.tables c.in_ok-handle_attribute.ensures.kept keeps) is in
    let a = get_there v.attrs.now c.in-Some.at c.in-Some.ensures.there in
    let at : Some c.in-Some.at ≡ place_of (next_among now.map v.node c.next.done (map numbered v.attrs.now)) =
    subst (λ (m : Map). Some c.in-Some.at ≡ place_of (next_among m v.node c.next.done (map numbered v.attrs.now))) c.map.ensures.value c.in-Some.ensures.value
    in
    let found : next_attribute now.map v.site.now item c.next.done ≡ Some (c.in-Some.at, numbered a.0) = visited_at now.map v item before.still c.next.done
    c.in-Some.at a.0 a.1 at in
    passes_waits env finished old v item c.args.from now new c.next.done before
    (subst (λ (b : Bool). HandlesAttribute env finished now new (visit v.site.now item) c.next.done (goes_behind (visit v.site.now item) c.in-Some.at b))
    c.if-not-branch.true
    (c.in_ok-handle_attribute.ensures.ok env finished item c.next.done a.0 keeps before.still a.1 found))

pub returns-in_err-handle_attribute-clause-many : goal.returns-in_err-handle_attribute-clause-many
returns-in_err-handle_attribute-clause-many c = λ many env finished item keeps is.
    let v : Visited = c.args.visited in
    let old : Core = core_in c.args.run.now in
    let now : Core = core_in c.next.run in
    let before : PassesTo env finished old v item c.args.from now c.next.done = c.next.invariant.goes env finished item
    (KeepsTables-trans c.next.locations c.handle_attribute.new.locations env.tables c.in_err-handle_attribute.ensures.kept keeps) is in
    let a = get_there v.attrs.now c.in-Some.at c.in-Some.ensures.there in
    let at : Some c.in-Some.at ≡ place_of (next_among now.map v.node c.next.done (map numbered v.attrs.now)) =
    subst (λ (m : Map). Some c.in-Some.at ≡ place_of (next_among m v.node c.next.done (map numbered v.attrs.now))) c.map.ensures.value c.in-Some.ensures.value
    in
    let found : next_attribute now.map v.site.now item c.next.done ≡ Some (c.in-Some.at, numbered a.0) = visited_at now.map v item before.still c.next.done
    c.in-Some.at a.0 a.1 at in
    passes_far env finished old v item c.args.from now c.next.done before
    (c.in_err-handle_attribute.ensures.many (search rules) env finished item c.next.done a.0 keeps before.still a.1 found)

pub returns-clause-ok : goal.returns-clause-ok
returns-clause-ok c = λ env finished item keeps is.
    let v : Visited = c.args.visited in
    let old : Core = core_in c.args.run.now in
    let now : Core = core_in c.next.run in
    let before : PassesTo env finished old v item c.args.from now c.next.done = c.next.invariant.goes env finished item keeps is in
    let gone : c.next_attribute.result ≡ None = search (rules, c.in_default.is) in
    let past : None ≡ place_of (next_among now.map v.node c.next.done (map numbered v.attrs.now)) =
    subst (λ (m : Map). None ≡ place_of (next_among m v.node c.next.done (map numbered v.attrs.now))) c.map.ensures.value
    (sym gone ∙ c.next_attribute.ensures.value) in
    passes_all env finished old v item c.args.from now c.next.done before (visited_none now.map v item before.still c.next.done past)
