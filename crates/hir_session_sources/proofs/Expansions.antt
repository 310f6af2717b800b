-- What expansions depend on: the order of it is exact, and that of keys as they are stored.
use Rattle.std.proofs.Common.{◌≡◌, true, false, ◌&&◌, List, [], ◌∷◌, Ordering, refl, sym, ap, ap₂, ◌∙◌}
use Rattle.std.specs.Cmp.{IsTotalOrder, on_total, then_total, tied_itself, both_tied, first_so, second_so, unsigned_Decides}
use Rattle.std.specs.Cmp.Lexicographic.{lists_ties, lists_total, nat_list_cmp_total, pointwise, slice_cmp, bytes_decides, texts_ties}
use Rattle.std.specs.Ordering.{is_eq, nat_cmp, on, then_cmp}
use Rattle.std.specs.BTreeMap.{is_at}
use mathlib.Core.Bool.{true≢false}
use Rattle.hir_session_state.specs.HirIds.contracts.ids.CrateOrd.TheImpl as crate_order
use Rattle.hir_session_state.specs.HirIds.contracts.ids.CrateOrd.TheImpl.Laws.{total-law as crates_total}
use Rattle.hir_session_state.specs.HirBase.contracts.macro_kind.CallStyleOrd.TheImpl as style_order
use Rattle.hir_session_state.specs.HirBase.contracts.macro_kind.CallStyleOrd.TheImpl.Laws.{total-law as styles_total, matches_eq-law as styles_tie}
use Rattle.hir_session_state.specs.HirBase.contracts.macro_kind.CallStylePartialEq.TheImpl as style_eq
use Rattle.hir_session_state.specs.HirBase.contracts.macro_kind.ExpansionKeyOrd.TheImpl as key_order
use Rattle.hir_session_state.specs.HirBase.contracts.macro_kind.MacroTextOrd.TheImpl as text_order
use Rattle.hir_session_state.specs.HirBase.contracts.macro_kind.MacroTextOrd.TheImpl.Laws.{total-law as macros_total, matches_eq-law as macros_tie}
use Rattle.hir_session_state.specs.HirBase.contracts.macro_kind.MacroTextPartialEq.TheImpl as text_eq
use Rattle.hir_session_state.specs.HirBase.declared.macro_kind.CallStyle.{CallStyle}
use Rattle.hir_session_state.specs.HirBase.declared.macro_kind.ExpansionKey.{ExpansionKey}
use Rattle.hir_session_state.specs.HirBase.declared.macro_kind.MacroText.{MacroText}
use Rattle.hir_session_state.specs.HirBase.declared.macro_kind.CallStyle.TheVariants as style
use Rattle.hir_session_state.specs.HirTables.SourcePlaces.{ExpansionValue, expansion_value}
use Rattle.hir_session_state.specs.Entries.{expansion_cmp}
use Rattle.hir_session_sources.proofs.Changing.{equal_crate}
use Rattle.hir_session_sources.proofs.Lookups.{IsExact}

-- ---- its parts

same_style : (a b : CallStyle) → style_eq.ghosts.eq a b ≡ true → a ≡ b
same_style style.Bang style.Bang e = refl
same_style style.Derive style.Derive e = refl
same_style (style.Attribute a) (style.Attribute b) e = λ i. style.Attribute (record { 0 = (unsigned_Decides a.0 b.0).0 e i })
same_style a b e = absurd (true≢false (sym e))

same_macro : (a b : MacroText) → text_eq.ghosts.eq a b ≡ true → a ≡ b
same_macro a b e = λ i. record {
  krate = record { 0 = (unsigned_Decides a.krate.0 b.krate.0).0 (first_so _ _ e) i };
  text = (bytes_decides a.text b.text).0 (second_so _ _ e) i;
}

same_macros : (xs ys : List MacroText) → pointwise text_eq.ghosts.eq xs ys ≡ true → xs ≡ ys
same_macros [] [] e = refl
same_macros [] (y ∷ ys) e = absurd (true≢false (sym e))
same_macros (x ∷ xs) [] e = absurd (true≢false (sym e))
same_macros (x ∷ xs) (y ∷ ys) e =
    ap₂ ◌∷◌ (same_macro x y (first_so (text_eq.ghosts.eq x y) (pointwise text_eq.ghosts.eq xs ys) e))
    (same_macros xs ys (second_so (text_eq.ghosts.eq x y) (pointwise text_eq.ghosts.eq xs ys) e))

-- ---- the whole

-- two are tied where each part is
ties : {K : Type 0} (R S : K → K → Ordering) (a b : K) → is_at (then_cmp R S a) b ≡ (is_at (R a) b && is_at (S a) b)
ties R S a b = sym (both_tied (is_at (R a) b) (is_at (S a) b) (R a b) (S a b) refl refl)

abbrev by_reached : ExpansionValue → ExpansionValue → Ordering
by_reached = on (λ e. e.reached) (slice_cmp text_order.ghosts.cmp)

abbrev by_called : ExpansionValue → ExpansionValue → Ordering
by_called = then_cmp (on (λ e. e.called) text_order.ghosts.cmp) by_reached

abbrev by_call : ExpansionValue → ExpansionValue → Ordering
by_call = then_cmp (on (λ e. e.call) style_order.ghosts.cmp) by_called

abbrev by_input : ExpansionValue → ExpansionValue → Ordering
by_input = then_cmp (on (λ e. e.input) (slice_cmp nat_cmp)) by_call

expansions_total : IsTotalOrder expansion_cmp
expansions_total =
    then_total (on_total (λ (e : ExpansionValue). e.caller) crates_total)
    (then_total (on_total (λ (e : ExpansionValue). e.input) nat_list_cmp_total)
    (then_total (on_total (λ (e : ExpansionValue). e.call) styles_total)
    (then_total (on_total (λ (e : ExpansionValue). e.called) macros_total) (on_total (λ (e : ExpansionValue). e.reached) (lists_total macros_total)))))

same_expansion : (a b : ExpansionValue) → is_at (expansion_cmp a) b ≡ true → a ≡ b
same_expansion a b e =
    let all = sym (ties (on (λ (v : ExpansionValue). v.caller) crate_order.ghosts.cmp) by_input a b) ∙ e in
    let input = sym (ties (on (λ (v : ExpansionValue). v.input) (slice_cmp nat_cmp)) by_call a b) ∙ second_so
    (is_at (crate_order.ghosts.cmp a.caller) b.caller) (is_at (by_input a) b) all in
    let call = sym (ties (on (λ (v : ExpansionValue). v.call) style_order.ghosts.cmp) by_called a b) ∙ second_so (is_at (slice_cmp nat_cmp a.input) b.input)
    (is_at (by_call a) b) input in
    let called = sym (ties (on (λ (v : ExpansionValue). v.called) text_order.ghosts.cmp) by_reached a b) ∙ second_so
    (is_at (style_order.ghosts.cmp a.call) b.call) (is_at (by_called a) b) call in
    λ i. record {
      caller = equal_crate a.caller b.caller (first_so (is_at (crate_order.ghosts.cmp a.caller) b.caller) (is_at (by_input a) b) all) i;
      called =
          same_macro a.called b.called (macros_tie a.called b.called ∙ first_so (is_at (text_order.ghosts.cmp a.called) b.called) (is_at (by_reached a) b) called)
          i;
      call = same_style a.call b.call (styles_tie a.call b.call ∙ first_so (is_at (style_order.ghosts.cmp a.call) b.call) (is_at (by_called a) b) call) i;
      input =
          (bytes_decides a.input b.input).0 (texts_ties a.input b.input ∙ first_so (is_at (slice_cmp nat_cmp a.input) b.input) (is_at (by_call a) b) input)
          i;
      reached = same_macros a.reached b.reached (lists_ties text_order.ghosts.cmp macros_tie a.reached b.reached
          ∙ second_so (is_at (text_order.ghosts.cmp a.called) b.called) (is_at (by_reached a) b) called) i;
    }

pub exact_expansions : IsExact expansion_cmp
exact_expansions = record { same = same_expansion; own = λ p. ap is_eq (tied_itself expansions_total p) }

-- keys are compared as what they say
pub compared_alike : (a b : ExpansionKey) → key_order.ghosts.cmp a b ≡ expansion_cmp (expansion_value a) (expansion_value b)
compared_alike a b = refl
