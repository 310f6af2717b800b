use Rattle.std.proofs.Common.{List, map, take, ap, sym, subst, ◌∙◌}
use Rattle.std.specs.declared.alloc.Global.{Global}
use Rattle.std.specs.declared.rc.Rc.{Rc}
use Rattle.std.proofs.lemmas.List.{take-map}
use Rattle.hir_ids.specs.declared.ids.Crate.{Crate}
use Rattle.hir_crate_graph.specs.Dependencies.{AreTransitive}
use Rattle.hir_crate_graph.specs.declared.crate_set.CrateSet.{CrateSet}
use Rattle.hir_crate_graph.proofs.Prefixes.{AreTransitive-prefix, shared_sets}
use Rattle.hir_crate_graph.proofs.transitive.TransitiveDependencies.prefix.Goals as goal

pub returns-clause-value : goal.returns-clause-value
returns-clause-value c =
    ap (map (λ (set : Rc CrateSet Global). set.value)) c.truncate.ensures.items
    ∙ sym (take-map (λ (set : Rc CrateSet Global). set.value) c.args.len c.in_ok-sets.sets.items)
    ∙ ap (take c.args.len) (shared_sets c.self.inside.sets.items c.in_ok-sets.sets.items c.in_ok-sets.ensures.cases.0)
    ∙ ap (take c.args.len) c.self.view_is

pub returns-clause-transitive : goal.returns-clause-transitive
returns-clause-transitive c = λ direct other are agree.
    subst (λ (sets : List (List Crate)). AreTransitive other sets) (sym (returns-clause-value c))
    (AreTransitive-prefix direct other c.args.len agree c.args.self.now are)
