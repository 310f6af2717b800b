-- The list of the module gets one more edge, or is the first.
use Rattle.std.proofs.Common.{ap, subst, sym, is_some, ℕ, List, [], ◌∷◌, Option}
use Rattle.std.specs.BTreeMap.{BTreeMap}
use Rattle.std.specs.declared.vec.Vec.{Vec}
use Rattle.std.specs.declared.alloc.Global.{Global}
use Rattle.hir_glob_imports.specs.Inner.{edges_at, items_or_none}
use Rattle.std.specs.Prelude.{Contains}
use Rattle.std.proofs.lemmas.List.Elements.{Contains-append_left}
use Rattle.hir_glob_imports.proofs.EdgeLists.{listed_still}
use Rattle.hir_glob_imports.proofs.index.EdgesByModule.add.Goals as goal

pub returns-in_ok-push-in-Some-clause-kept : goal.returns-in_ok-push-in-Some-clause-kept
returns-in_ok-push-in-Some-clause-kept c =
    listed_still c.args.self.now (record { lists = c.get_mut.follows.lender c.push.new.self; alloc = c.args.self.now.alloc }) c.args.at c.push.new.self
    ((c.get_mut.follows.holds c.push.new.self).3 (ap is_some (sym c.in-Some.ensures.value))).0
    (λ x h.
    let had : Contains c.in-Some.list.now.items x =
    subst (λ (o : Option (Vec ℕ Global)). Contains (items_or_none o) x) (sym c.in-Some.ensures.value) h in
    subst (λ (xs : List ℕ). Contains xs x) (sym c.in_ok-push-in-Some.ensures.items) (Contains-append_left c.in-Some.list.now.items (c.args.edge ∷ []) x had))

pub returns-in_err-push-in-Some-clause-kept : goal.returns-in_err-push-in-Some-clause-kept
returns-in_err-push-in-Some-clause-kept c =
    listed_still c.args.self.now (record { lists = c.get_mut.follows.lender c.push.new.self; alloc = c.args.self.now.alloc }) c.args.at c.push.new.self
    ((c.get_mut.follows.holds c.push.new.self).3 (ap is_some (sym c.in-Some.ensures.value))).0
    (λ x h.
    let had : Contains c.in-Some.list.now.items x =
    subst (λ (o : Option (Vec ℕ Global)). Contains (items_or_none o) x) (sym c.in-Some.ensures.value) h in
    subst (λ (xs : List ℕ). Contains xs x) (sym c.in_err-push-in-Some.ensures.items) had)

pub returns-in-None-clause-kept : goal.returns-in-None-clause-kept
returns-in-None-clause-kept c =
    subst (λ (lists : BTreeMap ℕ (Vec ℕ Global)). (of other : ℕ) → Contains (edges_at (record { lists = lists; alloc = c.args.self.now.alloc }) of) other
    → Contains (edges_at c.add_first.new.self of) other) c.get_mut.follows.holds-at-none c.add_first.ensures.kept
