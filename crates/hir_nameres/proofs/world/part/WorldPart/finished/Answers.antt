-- It may be read where all that holds it may be.
use Rattle.std.proofs.Common.{rules, ◌≡◌, ◌∙◌, ap, sym, true, false, option_copied, Some}
use Rattle.std.specs.Option.{option_map}
use Rattle.std.specs.BTreeMap.{get}
use Rattle.hir_def_map_rules.specs.HirIds.contracts.ids.MapIdOrd.TheImpl as map_order
use Rattle.hir_nameres.specs.WorldParts.{are_within}
use Rattle.hir_nameres.specs.World.{finished_in, placed_of}
use Rattle.hir_nameres.proofs.Parts.{part-cut, part-within}
use Rattle.hir_nameres.proofs.world.part.WorldPart.finished.Goals as goal

pub returns-then-are_within : goal.returns-then-are_within
unfolding finished_in
returns-then-are_within c =
    let crates = option_copied c.args.self.now.crates in
    let holders = c.args.self.now.holders.now in
    let there : get map_order.ghosts.cmp c.args.self.now.maps.now c.args.id ≡ Some c.in-Some.finished.now = search rules in
    let all : are_within crates holders c.in-Some.finished.now.holders.items ≡ true = ap (are_within crates holders) (sym c.as_slice.ensures.value) ∙ sym
    c.are_within.ensures.value ∙ c.if-are_within.true in
    record {
      value =
          sym (part-within c.args.self.now c.args.id (placed_of c.in-Some.finished.now) (sym c.is_within.ensures.value ∙ c.if-not-is_within.false)
          (ap (option_map placed_of) there) all);
    }

pub returns-else-are_within : goal.returns-else-are_within
unfolding finished_in
returns-else-are_within c =
    let crates = option_copied c.args.self.now.crates in
    let holders = c.args.self.now.holders.now in
    let there : get map_order.ghosts.cmp c.args.self.now.maps.now c.args.id ≡ Some c.in-Some.finished.now = search rules in
    let some : are_within crates holders c.in-Some.finished.now.holders.items ≡ false = ap (are_within crates holders) (sym c.as_slice.ensures.value) ∙ sym
    c.are_within.ensures.value ∙ c.if-are_within.false in
    record {
      value =
          sym (part-cut c.args.self.now c.args.id (placed_of c.in-Some.finished.now) (sym c.is_within.ensures.value ∙ c.if-not-is_within.false)
          (ap (option_map placed_of) there) some);
    }
