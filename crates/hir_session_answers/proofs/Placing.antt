-- Going up from a module gives the steps that lead to it.
use Rattle.std.proofs.Common.{◌≡◌, ◌∙◌, ap, sym, refl, ℕ, suc, List, [], ◌∷◌, ◌++◌, reverse, Option, Some, None, option_map}
use Rattle.std.proofs.lemmas.List.{append-nil, append_assoc, reverse-append}
use Rattle.std.specs.Option.{option_and_then}
use Rattle.hir_session_state.specs.HirIds.declared.ids.ModuleId.{ModuleId}
use Rattle.hir_session_state.specs.HirBase.declared.place.PlaceElement.{PlaceElement}
use Rattle.hir_session_state.specs.HirBase.declared.place.PlaceElement.TheVariants as element
use Rattle.hir_session_state.specs.HirDefMapRules.State.{Map, parent_at}
use Rattle.hir_session_answers.specs.Modules.{name_below, steps_from, steps_to, then_to}

-- steps, and behind them those that were taken on the way up, the last of them first
abbrev pub and_taken : List PlaceElement → Option (List PlaceElement) → Option (List PlaceElement)
and_taken taken o = option_map (λ (steps : List PlaceElement). steps ++ reverse taken) o

pub none_taken : (o : Option (List PlaceElement)) → o ≡ and_taken [] o
none_taken None = refl
none_taken (Some steps) = ap (λ (s : List PlaceElement). Some s) (sym (append-nil steps))

one_taken : (taken : List PlaceElement) (name : List ℕ) (o : Option (List PlaceElement))
    → and_taken taken (then_to o name) ≡ and_taken (taken ++ element.Module name ∷ []) o
one_taken taken name None = refl
one_taken taken name (Some steps) =
    ap (λ (s : List PlaceElement). Some s) (append_assoc steps (element.Module name ∷ []) (reverse taken)
    ∙ sym (ap (λ (s : List PlaceElement). steps ++ s) (reverse-append taken (element.Module name ∷ []))))

module _ (map : Map) (depth at : ℕ) (taken : List PlaceElement) where
  -- the root has been reached
  pub at_root : parent_at map at ≡ None → and_taken taken (steps_to map (suc depth) at) ≡ Some (reverse taken)
  at_root up = ap (λ (o : Option ModuleId). and_taken taken (steps_from map (steps_to map depth) at o)) up

  module _ (holder : ModuleId) (up : parent_at map at ≡ Some holder) where
    named_by : (o : Option (List ℕ)) → name_below map holder.index at ≡ o
        → and_taken taken (steps_to map (suc depth) at) ≡ and_taken taken (option_and_then (then_to (steps_to map depth holder.index)) o)
    named_by o is =
        ap (λ (p : Option ModuleId). and_taken taken (steps_from map (steps_to map depth) at p)) up
        ∙ ap (λ (n : Option (List ℕ)). and_taken taken (option_and_then (then_to (steps_to map depth holder.index)) n)) is

    -- no step leads to the module
    pub no_step : name_below map holder.index at ≡ None → and_taken taken (steps_to map (suc depth) at) ≡ None
    no_step is = named_by None is

    -- one step more
    pub one_step : (name : List ℕ) → name_below map holder.index at ≡ Some name
        → and_taken taken (steps_to map (suc depth) at) ≡ and_taken (taken ++ element.Module name ∷ []) (steps_to map depth holder.index)
    one_step name is = named_by (Some name) is ∙ one_taken taken name (steps_to map depth holder.index)
