use Rattle.std.proofs.Common.{◌≡◌, ◌∙◌, sym, rules, true}
use Rattle.hir_per_ns.specs.ModuleTree.{same_map, same_module, is_at_or_above, IsTree, up_of}
use Rattle.hir_per_ns.proofs.Wider.{exact_map, exact_module, wider, same_union, union_right, union_left}
use Rattle.hir_per_ns.proofs.visibility.upper_module.Goals as goal

-- equal modules have one set
pub returns-then-eq-clause-union : goal.returns-then-eq-clause-union
returns-then-eq-clause-union g c =
    let same : same_module c.args.one c.args.two ≡ true = search rules in
    let t = g.T.ModuleTree in
    λ f. same_union (t.above c.args.tree.now) (t.holders c.args.tree.now) c.args.one_written c.args.one_written c.args.two_written c.args.one c.args.two
    (exact_module c.args.one c.args.two same) f

-- the set of the lower of two modules of one map is a part of that of the upper
pub returns-then-lies_at_or_above-clause-union : goal.returns-then-lies_at_or_above-clause-union
returns-then-lies_at_or_above-clause-union g c =
    let t = g.T.ModuleTree in
    let tree : IsTree (t.above c.args.tree.now) (t.holders c.args.tree.now) (up_of (t.parent_of c.args.tree.now) (t.holder_of c.args.tree.now))
    (t.holder_of c.args.tree.now) =
    record {
      above_step = g.met.T.ModuleTree.above_step c.args.tree.now;
      holders_step = g.met.T.ModuleTree.holders_step c.args.tree.now;
      same_holder = g.met.T.ModuleTree.same_holder c.args.tree.now;
    } in
    let one : same_map c.args.one.map c.args.map ≡ true = search rules in
    let two : same_map c.args.two.map c.args.map ≡ true = search rules in
    let maps : c.args.one.map ≡ c.args.two.map = exact_map _ _ one ∙ sym (exact_map _ _ two) in
    let above : is_at_or_above (t.above c.args.tree.now) c.args.two c.args.one ≡ true = search rules in
    λ f. union_right _ _ (wider tree c.args.one_written c.args.two_written c.args.one c.args.two maps above f)

pub returns-then-lies_at_or_above-2-clause-union : goal.returns-then-lies_at_or_above-2-clause-union
returns-then-lies_at_or_above-2-clause-union g c =
    let t = g.T.ModuleTree in
    let tree : IsTree (t.above c.args.tree.now) (t.holders c.args.tree.now) (up_of (t.parent_of c.args.tree.now) (t.holder_of c.args.tree.now))
    (t.holder_of c.args.tree.now) =
    record {
      above_step = g.met.T.ModuleTree.above_step c.args.tree.now;
      holders_step = g.met.T.ModuleTree.holders_step c.args.tree.now;
      same_holder = g.met.T.ModuleTree.same_holder c.args.tree.now;
    } in
    let one : same_map c.args.one.map c.args.map ≡ true = search rules in
    let two : same_map c.args.two.map c.args.map ≡ true = search rules in
    let maps : c.args.two.map ≡ c.args.one.map = exact_map _ _ two ∙ sym (exact_map _ _ one) in
    let above : is_at_or_above (t.above c.args.tree.now) c.args.one c.args.two ≡ true = search rules in
    λ f. union_left _ _ (wider tree c.args.two_written c.args.one_written c.args.two c.args.one maps above f)
