-- A test that always answers alike keeps what it answers yes for.
use Rattle.std.proofs.Common.{◌≡◌, ◌∙◌, ap, Bool, Option, None, Some, cond}
use Rattle.hir_per_ns.specs.PerNs.{Item, Passes, PassInOrder, keep_item, keep_of}
use Rattle.hir_per_ns.specs.Types.{PerNs, Visibility}

module _ {F : Type 0} (steps : F → Visibility → Bool → F → Type 0) (keep : Visibility → Bool)
    (alike : (state : F) (vis : Visibility) (answer : Bool) (left : F) → steps state vis answer left → answer ≡ keep vis) where
  kept_alike : {D I : Type 0} (f g : F) (item kept : Option (Item D I)) → Passes steps f item kept g → kept ≡ keep_item keep item
  kept_alike f g None kept passed = passed.0
  kept_alike f g (Some item) kept passed =
      passed.2 ∙ ap (λ (b : Bool). cond b (Some item) None) (alike f item.vis passed.0 g passed.1)

  pub filtered_alike : (f : F) (items kept : PerNs) → PassInOrder steps f items kept → kept ≡ keep_of keep items
  filtered_alike f items kept passed =
      let types : kept.types ≡ keep_item keep items.types = kept_alike f passed.0 items.types kept.types passed.3 in
      let values : kept.values ≡ keep_item keep items.values = kept_alike passed.0 passed.1 items.values kept.values passed.4 in
      let macros : kept.macros ≡ keep_item keep items.macros = kept_alike passed.1 passed.2 items.macros kept.macros passed.5 in
      λ i. record { types = types i; values = values i; macros = macros i }
