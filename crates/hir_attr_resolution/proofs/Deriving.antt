-- Paths of a derive that are listed one after another.
use Rattle.std.proofs.Common.{◌≡◌, ◌∙◌, List, [], ◌∷◌, ◌++◌, ap, refl}
use Rattle.hir_collector_state.specs.HirCollectorRules.declared.macro_directive.EagerMacro.{EagerMacro}
use Rattle.hir_collector_state.specs.HirCollectorRules.declared.macro_directive.Fate.{Fate}
use Rattle.hir_collector_state.specs.HirCollectorRules.declared.macro_directive.MacroDirective.{MacroDirective}
use Rattle.hir_collector_state.specs.HirCollectorRules.declared.macro_directive.Fate.TheVariants.{Waits}
use Rattle.hir_collector_state.specs.HirCollectorRules.State.{Core, all_wait, none_eager, with_calls}

append_one : {A : Type 0} (xs : List A) (y : A) (ys : List A) → (xs ++ y ∷ []) ++ ys ≡ xs ++ y ∷ ys
append_one [] y ys = refl
append_one (x ∷ xs) y ys = ap (λ (zs : List _). x ∷ zs) (append_one xs y ys)

-- one that waits, and then others
pub one_more_call : (c : Core) (d : MacroDirective) (ds : List MacroDirective) → with_calls (with_calls c (d ∷ [])) ds ≡ with_calls c (d ∷ ds)
one_more_call c d ds =
    ap (λ (cs : List MacroDirective). record c {
      calls = cs;
      fates = (c.fates ++ Waits ∷ []) ++ all_wait ds;
      eager = (c.eager ++ [] ∷ []) ++ none_eager ds;
    }) (append_one c.calls d ds)
    ∙ ap (λ (fs : List Fate). record c { calls = c.calls ++ d ∷ ds; fates = fs; eager = (c.eager ++ [] ∷ []) ++ none_eager ds })
    (append_one c.fates Waits (all_wait ds))
    ∙ ap (λ (es : List (List EagerMacro)). record c { calls = c.calls ++ d ∷ ds; fates = c.fates ++ Waits ∷ all_wait ds; eager = es })
    (append_one c.eager [] (none_eager ds))

append_none : {A : Type 0} (xs : List A) → xs ++ [] ≡ xs
append_none [] = refl
append_none (x ∷ xs) = ap (λ (zs : List _). x ∷ zs) (append_none xs)

pub no_more_calls : (c : Core) → with_calls c [] ≡ c
no_more_calls c =
    ap (λ (cs : List MacroDirective). record c { calls = cs; fates = c.fates ++ []; eager = c.eager ++ [] }) (append_none c.calls)
    ∙ ap (λ (fs : List Fate). record c { fates = fs; eager = c.eager ++ [] }) (append_none c.fates)
    ∙ ap (λ (es : List (List EagerMacro)). record c { eager = es }) (append_none c.eager)
