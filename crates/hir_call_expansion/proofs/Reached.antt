-- Paths are looked at one after another: which macros they reach, whether the sources of these have numbers, and their texts.
use Rattle.std.proofs.Common.{◌≡◌, ◌∙◌, ◌<◌, ℕ, zero, suc, ◌++◌, List, [], ◌∷◌, Contains, Option, None, Some, sym, ap, append_assoc, map, refl, arith}
use Rattle.std.specs.Prelude.{IsSome}
use Rattle.std.proofs.lemmas.List.{map-append}
use Rattle.hir_collector_state.specs.HirBase.ModPath.{Path}
use Rattle.hir_collector_state.specs.HirIds.declared.macro_kind.MacroId.{MacroId}
use Rattle.hir_collector_state.specs.HirDefMapRules.Overlay.{Maps}
use Rattle.hir_collector_state.specs.HirDefMapRules.State.{Local, Map}
use Rattle.hir_collector_state.specs.HirCollectorRules.Calls.{first_missing, inner_macro, or_missing}

module _ (finished : Maps) (local : Local) (m : Map) (home : ℕ) where
  abbrev reaching : Path → Option MacroId
  reaching = inner_macro finished local m home

  -- one more path reaches a macro
  pub reached_more : (found : List MacroId) (makro : MacroId) (path : Path) (left all : List Path) → inner_macro finished local m home path ≡ Some makro
      → map (λ (x : MacroId). Some x) found ++ map reaching (path ∷ left) ≡ map reaching all
      → map (λ (x : MacroId). Some x) (found ++ makro ∷ []) ++ map reaching left ≡ map reaching all
  reached_more found makro path left all is h =
      ap (λ (xs : List (Option MacroId)). xs ++ map reaching left) (map-append (λ (x : MacroId). Some x) found (makro ∷ []))
      ∙ append_assoc (map (λ (x : MacroId). Some x) found) (Some makro ∷ []) (map reaching left)
      ∙ ap (λ (o : Option MacroId). map (λ (x : MacroId). Some x) found ++ o ∷ map reaching left) (sym is) ∙ h

  pub missing_more : (makro : MacroId) (path : Path) (left : List Path) (o : Option Path) → inner_macro finished local m home path ≡ Some makro
      → first_missing finished local m home (path ∷ left) ≡ o → first_missing finished local m home left ≡ o
  missing_more makro path left o is h =
      sym (ap (λ (x : Option MacroId). or_missing path x (first_missing finished local m home left)) is) ∙ h

  -- or it reaches none
  pub missing_here : (path : Path) (left : List Path) (o : Option Path) → inner_macro finished local m home path ≡ None
      → first_missing finished local m home (path ∷ left) ≡ o → IsSome o
  missing_here path left None is h =
      let here : first_missing finished local m home (path ∷ left) ≡ Some path =
      ap (λ (x : Option MacroId). or_missing path x (first_missing finished local m home left)) is in
      absurd (let no : ⊥ = cc in no)
  missing_here path left (Some p) is h = refl

  -- a macro that was found is reached by a path
  pub path_of : (paths : List Path) (found : List MacroId) → map reaching paths ≡ map (λ (x : MacroId). Some x) found → (makro : MacroId) → Contains found makro
      → (path : Path) × (inner_macro finished local m home path ≡ Some makro)
  path_of [] [] is makro (n, below, at) = absurd (let past : n < 0 = below in omega arith)
  path_of [] (x ∷ xs) is makro among = absurd (let no : ⊥ = cc in no)
  path_of (p ∷ ps) [] is makro (n, below, at) = absurd (let past : n < 0 = below in omega arith)
  path_of (p ∷ ps) (x ∷ xs) is makro (zero, below, at) =
      let first : inner_macro finished local m home p ≡ Some x = cc in (p, first ∙ ap (λ (y : MacroId). Some y) at)
  path_of (p ∷ ps) (x ∷ xs) is makro (suc n, below, at) =
      let others : map reaching ps ≡ map (λ (y : MacroId). Some y) xs = cc in path_of ps xs others makro (n, omega (arith, below), at)

-- one more is found for the next
pub found_more : {A B : Type 0} (f : A → B) (found : List B) (b : B) (x : A) (left all : List A) → f x ≡ b → found ++ map f (x ∷ left) ≡ map f all
    → (found ++ b ∷ []) ++ map f left ≡ map f all
found_more f found b x left all is h = append_assoc found (b ∷ []) (map f left) ∙ ap (λ y. found ++ y ∷ map f left) (sym is) ∙ h
