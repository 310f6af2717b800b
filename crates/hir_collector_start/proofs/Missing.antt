-- Which of the paths that an eager macro asks for is the first that reaches nothing, where they are looked at one macro after another?
use Rattle.std.proofs.Common.{◌≡◌, ◌∙◌, ℕ, ◌+◌, ◌-◌, ◌≤◌, Bool, true, false, List, [], ◌∷◌, ◌++◌, length, take, drop, get_or, Option, None, Some, cond, refl, sym, ap, arith}
use Rattle.std.proofs.lemmas.List.{take_all}
use Rattle.hir_collector_rules.specs.HirBase.ModPath.{Path}
use Rattle.hir_collector_rules.specs.HirIds.declared.macro_kind.MacroId.{MacroId}
use Rattle.hir_collector_rules.specs.HirDefMapRules.Overlay.{Maps}
use Rattle.hir_collector_rules.specs.HirDefMapRules.State.{Local, Map}
use Rattle.hir_collector_rules.specs.declared.macro_directive.EagerMacro.{EagerMacro}
use Rattle.hir_collector_rules.specs.Calls.{asked_before, first_missing, inner_macro, is_same_macro, or_missing}

-- a list that isn't empty is its first and the others
pub one_first : (es : List EagerMacro) (e d : EagerMacro) → 1 ≤ length es → e ≡ get_or es 0 d → es ≡ e ∷ take (length es - 1) (drop 1 es)
one_first [] e d h is = absurd (omega arith)
one_first (x ∷ xs) e d h is =
    ap (λ (y : EagerMacro). y ∷ xs) (sym is) ∙ ap (λ (ys : List EagerMacro). e ∷ ys) (sym (take_all (length (x ∷ xs) - 1) xs (omega arith)))

module _ (finished : Maps) (local : Local) (m : Map) (home : ℕ) where
  -- one that is missing among some is so among these and more
  missing_first : (xs ys : List Path) (p : Path) → first_missing finished local m home xs ≡ Some p → first_missing finished local m home (xs ++ ys) ≡ Some p
  missing_first [] ys p h = absurd (let no : ⊥ = cc in no)
  missing_first (x ∷ xs) ys p h = go (inner_macro finished local m home x) h (missing_first xs ys p)
    where
      go : (o : Option MacroId) → or_missing x o (first_missing finished local m home xs) ≡ Some p
          → (first_missing finished local m home xs ≡ Some p → first_missing finished local m home (xs ++ ys) ≡ Some p)
          → or_missing x o (first_missing finished local m home (xs ++ ys)) ≡ Some p
      go None e later = e
      go (Some makro) e later = later e

  -- where none is, it is among the others
  missing_behind : (xs ys : List Path) → first_missing finished local m home xs ≡ None → first_missing finished local m home (xs ++ ys)
      ≡ first_missing finished local m home ys
  missing_behind [] ys h = refl
  missing_behind (x ∷ xs) ys h = go (inner_macro finished local m home x) h (missing_behind xs ys)
    where
      go : (o : Option MacroId) → or_missing x o (first_missing finished local m home xs) ≡ None
          → (first_missing finished local m home xs ≡ None → first_missing finished local m home (xs ++ ys) ≡ first_missing finished local m home ys)
          → or_missing x o (first_missing finished local m home (xs ++ ys)) ≡ first_missing finished local m home ys
      go None e later = absurd (let no : ⊥ = cc in no)
      go (Some makro) e later = later e

  module _ (seen : EagerMacro) (others : List EagerMacro) (makro : MacroId) where
    -- the first macro asks for one
    pub missing_now : (p : Path) → cond (is_same_macro seen.makro makro) (first_missing finished local m home seen.inner) None ≡ Some p
        → first_missing finished local m home (asked_before (seen ∷ others) makro) ≡ Some p
    missing_now p = go (is_same_macro seen.makro makro)
      where
        go : (b : Bool) → cond b (first_missing finished local m home seen.inner) None ≡ Some p
            → first_missing finished local m home (cond b (seen.inner ++ asked_before others makro) (asked_before others makro)) ≡ Some p
        go true h = missing_first seen.inner (asked_before others makro) p h
        go false h = absurd (let no : ⊥ = cc in no)

    -- or only the others may
    pub missing_later : cond (is_same_macro seen.makro makro) (first_missing finished local m home seen.inner) None ≡ None
        → first_missing finished local m home (asked_before (seen ∷ others) makro) ≡ first_missing finished local m home (asked_before others makro)
    missing_later = go (is_same_macro seen.makro makro)
      where
        go : (b : Bool) → cond b (first_missing finished local m home seen.inner) None ≡ None
            → first_missing finished local m home (cond b (seen.inner ++ asked_before others makro) (asked_before others makro))
            ≡ first_missing finished local m home (asked_before others makro)
        go true h = missing_behind seen.inner (asked_before others makro) h
        go false h = refl
