-- The crates on which that of a recorded map depends are covered by it.
use Rattle.std.proofs.Common.{◌∙◌, ap, sym, subst, List}
use Rattle.hir_nameres.specs.HirIds.declared.ids.Crate.{Crate}
use Rattle.hir_nameres.specs.HirCrateGraph.CrateSet.{Gains, has_crate}
use Rattle.hir_def_map_rules.specs.State.{CrateData}
use Rattle.hir_def_map.proofs.Recorded.{covered-crate, ok-map}
use Rattle.hir_def_map.proofs.world.World.record_crate.Goals as goal

pub returns-in-Some-clause-covered : goal.returns-in-Some-clause-covered
returns-in-Some-clause-covered c =
    let P : List Crate → Type 0 = λ x. Gains c.args.covered.now c.union_with.new.self (has_crate x) in
    ok-map c.union_with.result
    (λ gains. covered-crate c.args.self.now.maps c.args.recorded.now c.insert_id.new.ids c.args.covered.now c.union_with.new.self c.args.krate
    c.in-Some.finished.now c.args.self.now.checked
    (sym c.in-Some.ensures.value) c.in_ok-insert_id.ensures.ok c.requires.covered
    (subst P (c.dependencies.ensures.value ∙ ap (λ (d : CrateData). d.dependencies) c.crate_data.ensures.value) gains))
    c.union_with.ensures.ok
