-- It is found by what its key says.
use Rattle.std.proofs.Common.{◌≡◌, ◌∙◌, ap, sym, refl, nat_eq, true, Option, Some, None, option_map, Bor}
use Rattle.std.specs.declared.alloc.Global.{Global}
use Rattle.std.specs.declared.rc.Rc.{Rc}
use Rattle.hir_session_state.specs.HirItemTree.SourceTree.{SourceTreeValue}
use Rattle.hir_session_sources.specs.ByCrate.{entries_under}
use Rattle.hir_session_sources.proofs.TreeLemmas.{found_by_value}
use Rattle.hir_session_sources.proofs.source_trees.SourceTrees.of_expansion.Goals as goal

values_of : (o : Option (Bor (Rc SourceTreeValue Global))) → option_map (λ (t : Bor (Rc SourceTreeValue Global)). t.now.value) o
    ≡ option_map (λ (t : Rc SourceTreeValue Global). t.value) (option_map (λ (t : Bor (Rc SourceTreeValue Global)). t.now) o)
values_of None = refl
values_of (Some t) = refl

pub returns-then-eq : goal.returns-then-eq
returns-then-eq c =
    let calls : nat_eq c.args.key.now.caller.0 c.args.krate.0 ≡ true = sym c.eq.ensures ∙ c.if-eq.true in
    record {
      value = rw calls (values_of c.get_under.result
          ∙ ap (option_map (λ (t : Rc SourceTreeValue Global). t.value))
          (c.get_under.ensures.value ∙ found_by_value c.args.key.now (entries_under c.args.self.now.by_key c.args.krate)));
    }
