-- It is found by its place.
use Rattle.std.proofs.Common.{◌≡◌, ◌∙◌, ap, sym, refl, nat_eq, true, Option, Some, None, option_map, Bor}
use Rattle.std.specs.declared.alloc.Global.{Global}
use Rattle.std.specs.declared.rc.Rc.{Rc}
use Rattle.hir_session_state.specs.HirItemTree.SourceTree.{SourceTreeValue}
use Rattle.hir_session_sources.proofs.source_trees.SourceTrees.of_block.Goals as goal

values_of : (o : Option (Bor (Rc SourceTreeValue Global))) → option_map (λ (t : Bor (Rc SourceTreeValue Global)). t.now.value) o
    ≡ option_map (λ (t : Rc SourceTreeValue Global). t.value) (option_map (λ (t : Bor (Rc SourceTreeValue Global)). t.now) o)
values_of None = refl
values_of (Some t) = refl

pub returns-then-eq : goal.returns-then-eq
returns-then-eq c =
    let own : nat_eq c.args.place.now.holder.krate.0 c.args.krate.0 ≡ true = ap (λ k. nat_eq k.0 c.args.krate.0) (sym c.krate.ensures.value) ∙ sym c.eq.ensures
    ∙ c.if-eq.true in
    record {
      value = rw own (values_of c.get_under.result ∙ ap (option_map (λ (t : Rc SourceTreeValue Global). t.value)) c.get_under.ensures.value);
    }
