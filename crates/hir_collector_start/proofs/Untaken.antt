-- Imports that were never taken, one after another.
use Rattle.std.proofs.Common.{◌≡◌, ◌∙◌, ℕ, zero, suc, ◌+◌, ◌<◌, List, [], ◌∷◌, length, drop, get_or, slice_get, Option, Some, None, cond, refl, sym, ap, ◌++◌}
use Rattle.std.proofs.Common.{append_assoc, Bool, true, false, add-one}
use Rattle.hir_collector_rules.specs.HirPerNs.declared.imports.ImportOrExternCrate.{ImportOrExternCrate}
use Rattle.hir_collector_rules.specs.HirImportRules.declared.directive.ImportDirective.{ImportDirective}
use Rattle.hir_collector_rules.specs.HirImportRules.Directives.{TakenValue}
use Rattle.hir_collector_rules.specs.Derivation.{leftover_among, is_left_over, told_of}
use Rattle.hir_collector_rules.proofs.Lists.{drop_at, drop_some, drop_none}

-- without takings there is none
leftover_among-none : (rs : List ImportDirective) → leftover_among rs [] ≡ []
leftover_among-none [] = refl
leftover_among-none (r ∷ rs) = refl

drop-empty : (i : ℕ) (ts : List TakenValue) → drop i ts ≡ [] → drop (suc i) ts ≡ []
drop-empty zero [] e = refl
drop-empty (suc i) [] e = refl
drop-empty zero (t ∷ ts) e = absurd (let no : ⊥ = cc in no)
drop-empty (suc i) (t ∷ ts) e = drop-empty i ts e

-- the import at a place, if it was never taken, and those from there on
pub leftover_step : (rs : List ImportDirective) (ts : List TakenValue) (i : ℕ) (r : ImportDirective) → i < length rs → r ≡ get_or rs i r
    → leftover_among (drop i rs) (drop i ts)
    ≡ cond (is_left_over (slice_get ts i)) (told_of r.source ∷ leftover_among (drop (i + 1) rs) (drop (i + 1) ts))
    (leftover_among (drop (i + 1) rs) (drop (i + 1) ts))
leftover_step rs ts i r h e = rw (drop_at rs i r h e, add-one) (go (slice_get ts i) refl)
  where
    go : (o : Option TakenValue) → slice_get ts i ≡ o → leftover_among (r ∷ drop (suc i) rs) (drop i ts)
        ≡ cond (is_left_over o) (told_of r.source ∷ leftover_among (drop (suc i) rs) (drop (suc i) ts)) (leftover_among (drop (suc i) rs) (drop (suc i) ts))
    go None f =
        let none : drop i ts ≡ [] = drop_none ts i f in
        let after : drop (suc i) ts ≡ [] = drop-empty i ts none in
        rw (none, after, leftover_among-none (drop (suc i) rs)) refl
    go (Some t) f = rw (drop_some ts i t f) refl

module _ (out : List ImportOrExternCrate) (rs : List ImportDirective) (ts : List TakenValue) (i : ℕ) (r : ImportDirective) where
  -- an import that was never taken is left over
  pub untaken_next : i < length rs → r ≡ get_or rs i r → is_left_over (slice_get ts i) ≡ true
      → out ++ leftover_among (drop i rs) (drop i ts) ≡ leftover_among rs ts
      → (out ++ told_of r.source ∷ []) ++ leftover_among (drop (i + 1) rs) (drop (i + 1) ts) ≡ leftover_among rs ts
  untaken_next h e is before =
      let rest = leftover_among (drop (i + 1) rs) (drop (i + 1) ts) in
      let step : leftover_among (drop i rs) (drop i ts) ≡ told_of r.source ∷ rest = leftover_step rs ts i r h e ∙ ap
      (λ (b : Bool). cond b (told_of r.source ∷ rest) rest) is in
      append_assoc out (told_of r.source ∷ []) rest ∙ ap (λ (ids : List ImportOrExternCrate). out ++ ids) (sym step) ∙ before

  -- one that was taken isn't
  pub taken_next : i < length rs → r ≡ get_or rs i r → is_left_over (slice_get ts i) ≡ false
      → out ++ leftover_among (drop i rs) (drop i ts) ≡ leftover_among rs ts
      → out ++ leftover_among (drop (i + 1) rs) (drop (i + 1) ts) ≡ leftover_among rs ts
  taken_next h e is before =
      let rest = leftover_among (drop (i + 1) rs) (drop (i + 1) ts) in
      let step : leftover_among (drop i rs) (drop i ts) ≡ rest = leftover_step rs ts i r h e ∙ ap (λ (b : Bool). cond b (told_of r.source ∷ rest) rest) is in
      ap (λ (ids : List ImportOrExternCrate). out ++ ids) (sym step) ∙ before
