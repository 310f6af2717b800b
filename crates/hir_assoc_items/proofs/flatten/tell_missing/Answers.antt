-- It is told for the first path that reaches nothing.
use Rattle.std.proofs.Common.{◌≡◌, ◌∙◌, None, Some, ap, subst, sym}
use Rattle.std.specs.Prelude.{option_map}
use Rattle.hir_collector_rules.specs.HirBase.ModPath.{Path}
use Rattle.hir_assoc_items.specs.AssocItems.{first_missing, followed_by, unresolved}
use Rattle.hir_assoc_items.specs.Steps.{container_view, listing_view}
use Rattle.hir_assoc_items.specs.Written.{written_view}
use Rattle.hir_assoc_items.proofs.flatten.tell_missing.Goals as goal

pub returns-in_default : goal.returns-in_default
returns-in_default c = record {
  ok = λ path is.
      let none : first_missing (container_view c.args.container.now) c.args.paths.now ≡ None =
      sym c.first_missing.ensures.value ∙ ap (λ o. option_map (λ p. p.now) o) c.in_default.is in
      absurd (let no : ⊥ = cc in no);
}

pub returns : goal.returns
returns c = record {
  ok = λ path is.
      let both : Some c.in-Some.path.now ≡ Some path = c.in-Some.ensures.value ∙ is in
      let same : c.in-Some.path.now ≡ path = cc in
      subst (λ (p : Path). listing_view c.tell_unresolved.new.found
      ≡ followed_by (listing_view c.args.found.now) (unresolved (container_view c.args.container.now) (written_view c.args.item.now) p)) same
      c.in_ok-tell_unresolved.ensures.ok;
}
