-- It is found among those of the crate.
use Rattle.std.proofs.Common.{◌≡◌, ◌∙◌, ap, sym, refl, subst, Option, Some, None, option_map, Bor, List}
use Rattle.std.specs.Prelude.{IfSome}
use Rattle.std.specs.BTreeMap.{is_at}
use Rattle.std.specs.Map.{lookup}
use Rattle.hir_session_state.specs.HirIds.declared.ids.Crate.{Crate}
use Rattle.hir_session_state.specs.HirBase.declared.place.PlaceElement.{PlaceElement}
use Rattle.hir_session_state.specs.Blocks.{place_of_block, steps_cmp}
use Rattle.hir_session_sources.specs.BlockTables.{ArePlacedIn, SetBlockValue, SetBlocks, steps_in}
use Rattle.hir_session_sources.proofs.BlockLemmas.{in_none, in_own, placed_at}
use Rattle.hir_session_sources.proofs.blocks.Blocks.found.Goals as goal

of_copies : (o : Option (Bor SetBlockValue)) → option_map (λ (b : Bor SetBlockValue). b.now.source) o ≡ option_map (λ (b : SetBlockValue). b.source)
    (option_map (λ (b : Bor SetBlockValue). b.now) o)
of_copies None = refl
of_copies (Some b) = refl

in_place : (krate : Crate) (steps : List PlaceElement) (own : SetBlocks) → ArePlacedIn krate own → (o : Option (Bor SetBlockValue))
    → option_map (λ (b : Bor SetBlockValue). b.now) o ≡ lookup (is_at (steps_cmp steps)) own → IfSome o (λ (b : Bor SetBlockValue). place_of_block b.now.place
    ≡ steps_in krate steps)
in_place krate steps own placed None e = tt
in_place krate steps own placed (Some b) e =
    subst (λ (o : Option SetBlockValue). IfSome o (λ (x : SetBlockValue). place_of_block x.place ≡ steps_in krate steps)) (sym e)
    (placed_at krate steps own placed)

pub returns-in-Some : goal.returns-in-Some
returns-in-Some c = record {
  value = of_copies c.get.result ∙ ap (option_map (λ (b : SetBlockValue). b.source)) c.get.ensures.value
      ∙ in_own c.args.self.now c.args.krate c.args.steps.now c.in-Some.own.now c.in-Some.ensures.value;
  placed = in_place c.args.krate c.args.steps.now c.in-Some.own.now c.in-Some.ensures.placed c.get.result c.get.ensures.value;
}

pub returns-in-None : goal.returns-in-None
returns-in-None c = record {
  value = in_none c.args.self.now c.args.krate c.args.steps.now c.in-None.ensures.value;
  placed = tt;
}
