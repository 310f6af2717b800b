-- Where nothing is to be done about what waits, and what is given up.
use Rattle.std.proofs.Common.{◌≡◌, ◌∙◌, ◌⊎◌, ℕ, ◌+◌, ◌<◌, ◌≤◌, true, false, List, Option, length, slice_get, slice_set, None, Some, inl, inr, refl, sym, ap}
use Rattle.std.proofs.Common.{subst, arith}
use Rattle.std.proofs.lemmas.Bool.{cases_lt}
use Rattle.hir_collector_state.specs.HirIds.declared.ast_id.AstId.{AstId}
use Rattle.hir_collector_state.specs.HirIds.declared.macro_kind.MacroId.{MacroId}
use Rattle.hir_collector_state.specs.HirIds.declared.macro_kind.MacroId.TheVariants.{Macro2Id, MacroRulesId, ProcMacroId}
use Rattle.hir_collector_state.specs.HirDefMapRules.Overlay.{Maps}
use Rattle.hir_collector_state.specs.HirDefMapRules.State.{Map}
use Rattle.hir_collector_state.specs.HirCollectorRules.declared.macro_directive.Fate.{Fate}
use Rattle.hir_collector_state.specs.HirCollectorRules.declared.macro_directive.MacroDirective.{MacroDirective}
use Rattle.hir_collector_state.specs.HirCollectorRules.declared.macro_directive.MacroDirectiveKind.{MacroDirectiveKind}
use Rattle.hir_collector_state.specs.HirCollectorRules.declared.macro_directive.WaitingItem.{WaitingItem}
use Rattle.hir_collector_state.specs.HirCollectorRules.declared.macro_directive.Fate.TheVariants.{GivenUp, Waits}
use Rattle.hir_collector_state.specs.HirCollectorRules.declared.macro_directive.MacroDirectiveKind.TheVariants.{Attr, Derive, FnLike}
use Rattle.hir_macro_calls.specs.declared.due.Due.{Due}
use Rattle.hir_macro_calls.specs.declared.due.Due.TheVariants.{Derives, Nothing, Reaches, Skips}
use Rattle.hir_collector_state.specs.HirCollectorRules.CallMoves.{FindsBuiltin, IsAttributeWaiting, IsFirstWaiting, NoneWaits, NoneWaitsBefore}
use Rattle.hir_macro_calls.specs.Due.{IsDueOf}
use Rattle.hir_collector_state.specs.HirCollectorRules.Calls.{IsWaiting, LacksMacro, LeadsNowhere, builtin_impl, expands_by}
use Rattle.hir_collector_state.specs.HirCollectorRules.Calls.{is_call, is_inert_by, is_inert_now, item_in}
use Rattle.hir_collector_state.specs.HirCollectorRules.Calls.{waiting_item}
use Rattle.hir_collector_state.specs.HirCollectorRules.Keys.{Environment}
use Rattle.hir_collector_state.specs.HirCollectorRules.State.{Core, Task, at_rest, joined}
use Rattle.hir_collector_state.specs.HirCollectorRules.Steps.{Steps, by_builtin}
use Rattle.hir_collector_state.proofs.HirCollectorRules.Bound.{number_same_or_not}
use Rattle.hir_collector_state.proofs.HirCollectorRules.Lists.{get_inside, get_set_other, get_set_same, length_set}
use Rattle.hir_collector_state.proofs.HirCollectorRules.Tried.{calls_longer, waiting_before}

-- where nothing waits at a place, nothing there leads anywhere
pub nothing_waits : (finished : Maps) (c : Core) (i : ℕ) → ((d : MacroDirective) → ¬ IsWaiting (at_rest c) i d) → LeadsNowhere finished (at_rest c) i
nothing_waits finished c i none = record {
  shallow = λ d waits. absurd (none d waits);
  nowhere = λ d waits. absurd (none d waits);
  active = λ d waits. absurd (none d waits);
}

-- nor where nothing is to be done about what does
pub nothing_due : (finished : Maps) (c : Core) (i : ℕ) (here : MacroDirective) → IsWaiting (at_rest c) i here → IsDueOf finished c i here Nothing
    → LeadsNowhere finished (at_rest c) i
nothing_due finished c i here at due = record {
  shallow = λ d waits. subst (λ (x : MacroDirective). is_call x ≡ true → x.site.level < c.map.crate_data.recursion_limit) (same d waits) due.0;
  nowhere = λ d waits. subst (LacksMacro finished c i) (same d waits) due.1;
  active = λ d waits. subst (λ (x : MacroDirective). is_inert_now c.map x ≡ false) (same d waits) due.2;
}
  where
    same : (d : MacroDirective) → IsWaiting (at_rest c) i d → here ≡ d
    same d waits =
        let first : slice_get c.calls i ≡ Some here = at.call in
        let other : slice_get c.calls i ≡ Some d = waits.call in
        cc

-- no attribute waits before the next place, where the one at this place was given up and none waited before it
pub none_before : {env : Environment} {finished : Maps} (old mid new : Core) (i : ℕ) (tasks : List Task) → length old.fates ≡ length old.calls
    → NoneWaitsBefore old i → i < length old.fates
    → mid.calls ≡ old.calls → mid.fates ≡ slice_set old.fates i GivenUp → Steps env finished (joined mid tasks) (at_rest new) → NoneWaitsBefore new (i + 1)
none_before {env} {finished} old mid new i tasks paired first inside calls fates steps = record {
  inside = let more : length mid.calls ≤ length new.calls = calls_longer steps in omega (arith, inside, paired, longer, more);
  none = λ j w. go j w (cases_lt j (i + 1));
}
  where
    mid_paired : length mid.fates ≡ length mid.calls
    mid_paired =
        ap (λ (fs : List Fate). length fs) fates ∙ length_set old.fates i GivenUp ∙ paired ∙ sym (ap (λ (ds : List MacroDirective). length ds) calls)

    longer : length mid.calls ≡ length old.calls
    longer = ap (λ (ds : List MacroDirective). length ds) calls

    -- one that waits before it waited there already
    earlier : (j : ℕ) (w : IsAttributeWaiting new j) → j < i + 1 → IsWaiting (joined mid tasks) j w.call
    earlier j w low = waiting_before steps mid_paired w.waits (omega (arith, low, inside, paired, longer))

    not_here : (j : ℕ) (d : MacroDirective) → j ≡ i → IsWaiting (joined mid tasks) j d → ⊥
    not_here j d here waits =
        let given : slice_get mid.fates j ≡ Some GivenUp =
        ap (λ (fs : List Fate). slice_get fs j) fates ∙ subst (λ (k : ℕ). slice_get (slice_set old.fates i GivenUp) k ≡ Some GivenUp) (sym here)
        (get_set_same old.fates i GivenUp inside) in
        let waiting : slice_get mid.fates j ≡ Some Waits = waits.waits in
        let no : ⊥ = cc in no

    -- and before it none did
    not_before : (j : ℕ) (w : IsAttributeWaiting new j) → j < i → IsWaiting (joined mid tasks) j w.call → ⊥
    not_before j w low waits =
        let was : IsWaiting (at_rest old) j w.call = record {
          call = subst (λ (ds : List MacroDirective). slice_get ds j ≡ Some w.call) calls waits.call;
          waits = sym (get_set_other old.fates i j GivenUp (λ e. omega (arith, e, low))) ∙ sym (ap (λ (fs : List Fate). slice_get fs j) fates) ∙ waits.waits;
        } in
        let past : i ≤ j = first.none j (record { call = w.call; waits = was; item = w.item; is_item = w.is_item }) in
        omega (arith, past, low)

    below : (j : ℕ) → IsAttributeWaiting new j → j < i + 1 → ⊥
    below j w low = elim (number_same_or_not j i) [
      | inl here ↦ not_here j w.call here (earlier j w low)
      | inr other ↦ not_before j w (omega (arith, other, low)) (earlier j w low)
    ]

    go : (j : ℕ) → IsAttributeWaiting new j → (j < i + 1) ⊎ (i + 1 ≤ j) → i + 1 ≤ j
    go j w (inl low) = absurd (below j w low)
    go j w (inr high) = high

-- none waits there later either: what waits later and was there waited before
pub none_waits_later : {env : Environment} {finished : Maps} (old new : Core) (first : ℕ) → length old.fates ≡ length old.calls
    → Steps env finished (at_rest old) (at_rest new) → NoneWaitsBefore old first → NoneWaitsBefore new first
none_waits_later old new first paired steps before = record {
  inside = let more : length old.calls ≤ length new.calls = calls_longer steps in omega (arith, before.inside, more);
  none = λ j w. go j w (cases_lt j first);
}
  where
    go : (j : ℕ) → IsAttributeWaiting new j → (j < first) ⊎ (first ≤ j) → first ≤ j
    go j w (inl low) =
        before.none j (record {
          call = w.call;
          waits = waiting_before steps paired w.waits (omega (arith, low, before.inside));
          item = w.item;
          is_item = w.is_item;
        })
    go j w (inr high) = high

-- nor at the next place, where none waits at this one
pub none_waits_past : (c : Core) (i : ℕ) → NoneWaitsBefore c i → i < length c.calls → ¬ IsAttributeWaiting c i → NoneWaitsBefore c (i + 1)
none_waits_past c i before there none = record { inside = omega arith; none = λ j w. go j w (cases_lt j (i + 1)) }
  where
    go : (j : ℕ) → IsAttributeWaiting c j → (j < i + 1) ⊎ (i + 1 ≤ j) → i + 1 ≤ j
    go j w (inl low) =
        let from : i ≤ j = before.none j w in
        let here : j ≡ i = omega (arith, low, from) in
        absurd (none (subst (IsAttributeWaiting c) here w))
    go j w (inr high) = high

-- and none waits at all, where none does before the end
pub none_waits_anywhere : (c : Core) (i : ℕ) → NoneWaitsBefore c i → length c.calls ≤ i → NoneWaits c
none_waits_anywhere c i before over = λ j w.
    let inside : j < length c.calls = get_inside c.calls j w.call w.waits.call in
    let from : i ≤ j = before.none j w in
    absurd (omega (arith, inside, from, over))

-- where the first attribute waits, what waits has an item
pub has_item : (c : Core) (i : ℕ) (d : MacroDirective) → IsFirstWaiting c i → IsWaiting (at_rest c) i d → waiting_item d ≡ None → ⊥
has_item c i d first waits none =
    let here : slice_get c.calls i ≡ Some d = waits.call in
    let there : slice_get c.calls i ≡ Some first.waits.call = first.waits.waits.call in
    let same : d ≡ first.waits.call = cc in
    let item : waiting_item d ≡ Some first.waits.item = subst (λ (x : MacroDirective). waiting_item x ≡ Some first.waits.item) (sym same) first.waits.is_item in
    let no : ⊥ = cc in no

-- what reaches a macro without an expansion, and has no item, is a path of a derive, which stands for an impl
pub has_impl : (makro : MacroId) (kind : MacroDirectiveKind) → expands_by kind makro ≡ false → item_in kind ≡ None → builtin_impl makro kind ≡ None → ⊥
has_impl (Macro2Id id) (FnLike path) builtin item none = let no : ⊥ = cc in no
has_impl (MacroRulesId id) (FnLike path) builtin item none = let no : ⊥ = cc in no
has_impl (ProcMacroId id) (FnLike path) builtin item none = let no : ⊥ = cc in no
has_impl makro (Derive path attr index adt) builtin item none = let no : ⊥ = cc in no
has_impl makro (Attr path attr k) builtin item none = let no : ⊥ = cc in no

-- what is inert by now is an attribute, and has an item
pub inert_item : (m : Map) (node : AstId) (kind : MacroDirectiveKind) → is_inert_by m node kind ≡ true → (k : WaitingItem) × (item_in kind ≡ Some k)
inert_item m node (FnLike path) inert = absurd (let no : ⊥ = cc in no)
inert_item m node (Derive path attr index adt) inert = absurd (let no : ⊥ = cc in no)
inert_item m node (Attr path attr k) inert = (k, refl)

-- what is to be done about what reaches a macro without an expansion
module _ (finished : Maps) (c : Core) (i : ℕ) (d : MacroDirective) (makro : MacroId) (due : Due) (finds : FindsBuiltin finished c d makro)
    (derives : waiting_item d ≡ None → due ≡ Derives makro) (skips : (k : WaitingItem) → waiting_item d ≡ Some k → due ≡ Skips) where
  pub due_builtin : IsDueOf finished c i d due
  due_builtin = go (waiting_item d) refl
    where
      go : (o : Option WaitingItem) → waiting_item d ≡ o → IsDueOf finished c i d due
      go None e = subst (IsDueOf finished c i d) (sym (derives e)) (finds, e)
      go (Some k) e = subst (IsDueOf finished c i d) (sym (skips k e)) (k, e, by_builtin makro finds.reaches finds.builtin)

  pub reaches_none : (other : MacroId) → due ≡ Reaches other → ⊥
  reaches_none other reaches = go (waiting_item d) refl
    where
      go : (o : Option WaitingItem) → waiting_item d ≡ o → ⊥
      go None e = let is : due ≡ Derives makro = derives e in let no : ⊥ = cc in no
      go (Some k) e = let is : due ≡ Skips = skips k e in let no : ⊥ = cc in no
