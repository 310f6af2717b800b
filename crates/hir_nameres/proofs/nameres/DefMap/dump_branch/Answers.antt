-- Nothing is below a module that isn't there.
use Rattle.std.proofs.Common.{◌≡◌, ◌≤◌, ◌∙◌, ap, sym, refl, arith, ℕ, zero, suc, List, [], ◌++◌, length, reverse, Option, None}
use Rattle.std.specs.List.{slice_get}
use Rattle.std.proofs.lemmas.Grind.{common_steps}
use Rattle.std.proofs.lemmas.List.{append-nil}
use Rattle.std.proofs.lemmas.Option.{slice_get_past}
use Rattle.hir_def_map_rules.specs.State.{Modules, ModuleValue, module_at}
use Rattle.hir_def_map_rules.specs.Inner.Branches.{BranchValue, branches_below}
use Rattle.hir_nameres.proofs.nameres.DefMap.dump_branch.Goals as goal

nothing_below : (depth : ℕ) (path : List ℕ) → branches_below depth path None ≡ []
nothing_below zero path = refl
nothing_below (suc depth) path = refl

same : (items : List BranchValue) (depth : ℕ) (path : List ℕ) (o : Option ModuleValue) → o ≡ None → items ≡ items ++ reverse (branches_below depth path o)
same items depth path o e =
    sym (ap (λ (m : Option ModuleValue). items ++ reverse (branches_below depth path m)) e
    ∙ ap (λ (bs : List BranchValue). items ++ reverse bs) (nothing_below depth path)
    ∙ append-nil items)

pub returns-clause-left : goal.returns-clause-left
returns-clause-left c =
    let past : length c.as_slice.result.now ≤ c.branch.inside.at =
    first_of (omega (arith, c.in-None.ensures.lookup), grind (arith, common_steps, c.in-None.ensures.lookup)) in
    let here : c.branch.inside.at ≡ c.args.branch.at = ap (λ (b : BranchValue). b.at) c.branch.view_is in
    let absent : module_at c.args.self.now c.args.branch.at ≡ None =
    ap (λ (m : Modules). slice_get m.modules c.args.branch.at) (sym c.modules.ensures.value)
    ∙ ap (λ (ms : List ModuleValue). slice_get ms c.args.branch.at) (sym c.as_slice.ensures.value)
    ∙ ap (λ (at : ℕ). slice_get c.as_slice.result.now at) (sym here)
    ∙ slice_get_past c.as_slice.result.now c.branch.inside.at past in
    same c.args.left.now.items c.args.branch.depth c.args.branch.path (module_at c.args.self.now c.args.branch.at) absent
