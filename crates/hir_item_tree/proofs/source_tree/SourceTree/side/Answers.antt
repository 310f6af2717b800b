use Rattle.std.proofs.Common.{◌≡◌, get_or, Some, sym, ap, ◌∙◌, arith}
use Rattle.hir_item_tree.specs.SideLists.{entry_view}
use Rattle.hir_item_tree.specs.SourceTree.{SourceTreeValue, side_of}
use Rattle.hir_item_tree.proofs.SideIndexLemmas.{IsFirst, entry_at_place, no_entry}
use Rattle.hir_item_tree.proofs.source_tree.SourceTree.side.Goals as goal

-- the place is that of an entry
pub index-requires : goal.index-requires
index-requires c =
    let es = c.self.inside.sides.items in
    let first : IsFirst c.args.node 0 c.in-Some.place.now es = entry_at_place c.args.node 0 c.in-Some.place.now es
    (sym (c.self.invariant c.args.node) ∙ sym c.in-Some.ensures.value) in
    omega (arith, first.is, first.within)

-- which is the first of the node
pub returns-in-Some : goal.returns-in-Some
returns-in-Some c =
    let es = c.self.inside.sides.items in
    let first : IsFirst c.args.node 0 c.in-Some.place.now es = entry_at_place c.args.node 0 c.in-Some.place.now es
    (sym (c.self.invariant c.args.node) ∙ sym c.in-Some.ensures.value) in
    let at : first.at ≡ c.in-Some.place.now = omega (arith, first.is) in
    let here : get_or es first.at c.index.result.now ≡ c.index.result.now = ap (λ i. get_or es i c.index.result.now) at ∙ sym c.index.ensures in
    record {
      value = ap (λ e. Some (entry_view e)) (sym here) ∙ sym (first.entry c.index.result.now) ∙ ap (λ (t : SourceTreeValue). side_of t c.args.node)
          c.self.view_is;
    }

pub returns-in-None : goal.returns-in-None
returns-in-None c =
    record {
      value = sym (no_entry c.args.node 0 c.self.inside.sides.items (sym (c.self.invariant c.args.node) ∙ sym c.in-None.ensures.value)) ∙ ap
          (λ (t : SourceTreeValue). side_of t c.args.node) c.self.view_is;
    }
