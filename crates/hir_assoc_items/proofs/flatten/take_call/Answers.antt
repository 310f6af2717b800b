-- A call is dropped, told or expanded.
use Rattle.std.proofs.Common.{rules, ◌≡◌, ◌∙◌, ◌<◌, ◌≤◌, ℕ, [], None, subst, sym}
use Rattle.hir_assoc_items.specs.AssocItems.{call, limit_of, macro_called, nothing, too_deep, unreached, unresolved}
use Rattle.hir_assoc_items.specs.Steps.{container_view, left_of, listing_view}
use Rattle.hir_assoc_items.specs.Written.{WrittenValue, written_view}
use Rattle.hir_assoc_items.proofs.OnItsWay.{followed_nothing}
use Rattle.hir_assoc_items.proofs.Taking.{taken_alone}
use Rattle.hir_assoc_items.proofs.flatten.take_call.Goals as goal

pub returns-then-item-from-clause-ok : goal.returns-then-item-from-clause-ok
returns-then-item-from-clause-ok g c =
    let w = g.D.SourceDatabase.workspace c.args.db.now in
    let of = container_view c.args.container.now in
    let i : WrittenValue = written_view c.args.item.now in
    let limit : c.from.result ≡ c.recursion_limit.result = search rules in
    let deep : limit_of of ≤ i.level = subst (λ (n : ℕ). n ≤ i.level) (limit ∙ c.recursion_limit.ensures.value) c.if-item-from.true in
    taken_alone c.args.locations.now w of i (left_of c.args.left.now.items) (listing_view c.args.found.now) (listing_view c.args.found.now) nothing
    (λ grown k. call c.args.path.now nothing [] c.requires.is (too_deep deep)) (sym (followed_nothing (listing_view c.args.found.now)))

pub returns-in_default-clause-ok : goal.returns-in_default-clause-ok
returns-in_default-clause-ok g c =
    let w = g.D.SourceDatabase.workspace c.args.db.now in
    let of = container_view c.args.container.now in
    let i : WrittenValue = written_view c.args.item.now in
    let path = c.args.path.now in
    let limit : c.from.result ≡ c.recursion_limit.result = search rules in
    let shallow : i.level < limit_of of = subst (λ (n : ℕ). i.level < n) (limit ∙ c.recursion_limit.ensures.value) c.if-item-from.false in
    let reaches_none : macro_called of path ≡ None = cc (c.called_macro.ensures.value, c.in_default.is) in
    taken_alone c.args.locations.now w of i (left_of c.args.left.now.items) (listing_view c.args.found.now) (listing_view c.tell_unresolved.new.found)
    (unresolved of i path)
    (λ grown k. call path (unresolved of i path) [] c.requires.is (unreached shallow reaches_none)) c.in_ok-tell_unresolved.ensures.ok

pub returns-clause-unknown : goal.returns-clause-unknown
returns-clause-unknown g c = λ h.
    let of = container_view c.args.container.now in
    let i : WrittenValue = written_view c.args.item.now in
    let limit : c.from.result ≡ c.recursion_limit.result = search rules in
    record {
      path = c.args.path.now;
      makro = c.in-Some.makro;
      reaches = record {
        is = c.requires.is;
        shallow = subst (λ (n : ℕ). i.level < n) (limit ∙ c.recursion_limit.ensures.value) c.if-item-from.false;
        reached = sym c.called_macro.ensures.value ∙ c.in-Some.is;
      };
      unknown = c.expand.ensures.unknown h;
    }
