-- Looking at a pending pair: it is taken out, and either nothing is to be done there, or a step is taken and its slot reported.
use Rattle.std.proofs.Common.{◌≡◌, ◌∙◌, ap, sym, subst, refl, ℕ, ◌+◌, Bool, true, false, ◌⊎◌, inl, inr, List, [], ◌∷◌, ◌++◌, Option, None, Some, slice_get}
use mathlib.Core.Bool.{true≢false}
use Rattle.std.specs.Prelude.{Contains}
use Rattle.std.proofs.lemmas.List.Elements.{Contains-append_left, Contains-push, Contains-push_cases}
use Rattle.hir_glob_imports.specs.Types.{Brought, Edge, Key, Slot}
use Rattle.hir_glob_imports.specs.declared.edge.Update.TheVariants.{Nothing}
use Rattle.hir_glob_imports.specs.Inner.{IsKeptBeside, IsKeptBut, Looks, StepIn, Takes, pair}
use Rattle.hir_glob_imports.specs.Keys.{slot_at}
use Rattle.hir_glob_imports.specs.Moves.{shown, update_of}
use Rattle.hir_glob_imports.specs.Rules.{GlobState, IsSpent, May, Rule, Steps, StepsIn, copies_along, follows_along, more, more_in, none, none_in, raises_along}
use Rattle.hir_glob_imports.specs.Rules.{slot_of}
use Rattle.hir_glob_imports.specs.View.{View, NameTable, bound_in}
use Rattle.hir_glob_imports.specs.Waves.{GlobsValue, brought_of, update_in, state_of, IsPendingOrSettled, IsKept}
use Rattle.hir_glob_imports.proofs.Taking.{brought_by_list}

-- ---- a pair is taken out

module _ (v : View) (g m : GlobsValue) (j : ℕ) (key : Key)
    (edges : m.edges ≡ g.edges) (brought : m.brought ≡ g.brought) (pending : g.pending ≡ m.pending ++ (j, key) ∷ []) (kept : IsKept v g) where
  in_old : (k : ℕ) (d : Edge) → slice_get m.edges k ≡ Some d → slice_get g.edges k ≡ Some d
  in_old k d is = subst (λ (es : List Edge). slice_get es k ≡ Some d) edges is

  same_brought : (q : Slot) → brought_of m q ≡ brought_of g q
  same_brought q = λ i. brought_by_list m g brought i q

  there : (k : ℕ) (d : Edge) → slice_get m.edges k ≡ Some d → v.has d.importer ≡ true
  there k d is = kept.there k d (in_old k d is)

  -- what was pending is so still, or is the pair
  pair_or_settled : (k : ℕ) (d : Edge) (other : Key) → slice_get m.edges k ≡ Some d
      → IsPendingOrSettled v m k d other ⊎ (pair j key ≡ pair k other)
  pair_or_settled k d other is = go (kept.settled k d other (in_old k d is))
    where
      on : Contains m.pending (k, other) ⊎ (pair j key ≡ pair k other) → IsPendingOrSettled v m k d other ⊎ (pair j key ≡ pair k other)
      on (inl h) = inl (inl h)
      on (inr same) = inr same

      go : IsPendingOrSettled v g k d other → IsPendingOrSettled v m k d other ⊎ (pair j key ≡ pair k other)
      go (inl h) = on (Contains-push_cases m.pending (j, key) (k, other) (subst (λ (ps : List (ℕ × Key)). Contains ps (k, other)) pending h))
      go (inr nothing) =
          inl (inr (ap (λ (by : Option Brought). update_of v k d other (shown v d other) (bound_in v (slot_at d.importer other)) by)
          (same_brought (slot_at d.importer other)) ∙ nothing))

  pub beside : IsKeptBeside v m j key
  beside = record { there = there; settled = pair_or_settled; stands = λ q by is. kept.stands q by (sym (same_brought q) ∙ is) }

module _ (v : View) (m : GlobsValue) (j : ℕ) (key : Key) (kept : IsKeptBeside v m j key) where
  -- a pair of no edge
  pub popped_none : slice_get m.edges j ≡ None → IsKept v m
  popped_none missing = record {
    there = kept.there;
    settled = λ k d other is. go k d other is (kept.settled k d other is);
    stands = kept.stands;
  }
    where
      go : (k : ℕ) (d : Edge) (other : Key) → slice_get m.edges k ≡ Some d → IsPendingOrSettled v m k d other ⊎ (pair j key ≡ pair k other)
          → IsPendingOrSettled v m k d other
      go k d other is (inl h) = h
      go k d other is (inr same) =
          let no : None ≡ Some d = sym missing ∙ ap (λ (p : ℕ × Key). slice_get m.edges p.0) same ∙ is in
          absurd cc

  pub popped : (e : Edge) → slice_get m.edges j ≡ Some e → IsKeptBut v m j (slot_at e.importer key)
  popped e found = record {
    there = kept.there;
    settled = λ k d other is. go k d other is (kept.settled k d other is);
    stands = kept.stands;
  }
    where
      go : (k : ℕ) (d : Edge) (other : Key) → slice_get m.edges k ≡ Some d → IsPendingOrSettled v m k d other ⊎ (pair j key ≡ pair k other)
          → IsPendingOrSettled v m k d other ⊎ ((d.importer ≡ e.importer) × (other ≡ key) × (k ≡ j))
      go k d other is (inl h) = inl h
      go k d other is (inr same) =
          let one : Some d ≡ Some e = sym is ∙ ap (λ (p : ℕ × Key). slice_get m.edges p.0) (sym same) ∙ found in
          let edge : d ≡ e = cc in
          inr (ap (λ (x : Edge). x.importer) edge, ap (λ (p : ℕ × Key). p.1) (sym same), ap (λ (p : ℕ × Key). p.0) (sym same))

-- where nothing is to be done, the pair is settled
pub rested : (v : View) (m : GlobsValue) (j : ℕ) (e : Edge) (s : Slot) → slice_get m.edges j ≡ Some e → e.importer ≡ s.at
    → IsKeptBut v m j s → update_in v (brought_of m) j e s ≡ Nothing → IsKept v m
rested v m j e s found at kept nothing = record {
  there = kept.there;
  settled = λ k d key is. go k d key is (kept.settled k d key is);
  stands = kept.stands;
}
  where
    go : (k : ℕ) (d : Edge) (key : Key) → slice_get m.edges k ≡ Some d
        → IsPendingOrSettled v m k d key ⊎ ((d.importer ≡ s.at) × (key ≡ s.key) × (k ≡ j)) → IsPendingOrSettled v m k d key
    go k d key is (inl h) = h
    go k d key is (inr this) = inr ((λ i. update_in v (brought_of m) (this.2 i) (edge i) (slot i)) ∙ nothing)
      where
        one : Some d ≡ Some e
        one = sym is ∙ ap (λ (n : ℕ). slice_get m.edges n) this.2 ∙ found

        edge : d ≡ e
        edge = cc

        slot : slot_at d.importer key ≡ s
        slot = λ i. record { at = this.0 i; key = this.1 i }

-- ---- several looks

no_step : {A : Type 0} → false ≡ true → A
no_step f = absurd (true≢false (sym f))

module _ {S : Type 0} (t : NameTable S) where
  -- nothing was done yet
  pub looks_none : (n : S) (g : GlobsValue) (count : ℕ) (xs : List Slot) → Looks t false n g count xs n g count xs
  looks_none n g count xs = record {
    step = λ f. no_step f;
    counted = λ f. no_step f;
    stays = λ f. refl;
    reported = λ s h. h;
  }

  -- nothing was to be done at the pair
  pub looks_rested : (n n' : S) (g g' : GlobsValue) (count count' : ℕ) (xs : List Slot) → n' ≡ n → g' ≡ g → count' ≡ count
      → Looks t false n g count xs n' g' count' xs
  looks_rested n n' g g' count count' xs names globs counted = record {
    step = λ f. no_step f;
    counted = λ f. no_step f;
    stays = λ f. λ i. state_of (names i) (globs i) (counted i);
    reported = λ s h. h;
  }

  -- nothing was to be done along the edge
  pub rested_kept : (n n' : S) (g g' : GlobsValue) (j : ℕ) (e : Edge) (s : Slot) → slice_get g.edges j ≡ Some e → e.importer ≡ s.at
      → update_in (t.view n) (brought_of g) j e s ≡ Nothing → n' ≡ n → g' ≡ g → IsKeptBut (t.view n) g j s → IsKept (t.view n') g'
  rested_kept n n' g g' j e s found at nothing names globs kept =
      subst (λ (x : S). IsKept (t.view x) g') (sym names)
      (subst (λ (y : GlobsValue). IsKept (t.view n) y) (sym globs) (rested (t.view n) g j e s found at kept nothing))

  -- a step was taken, and its slot reported
  pub looks_taken : (s : Slot) (n n' : S) (g g' : GlobsValue) (count count' : ℕ) (xs ys : List Slot) → Takes t s n g count n' g' count' → ys ≡ xs ++ s ∷ []
      → Looks t true n g count xs n' g' count' ys
  looks_taken s n n' g g' count count' xs ys takes is = record {
    step =
        λ f. record {
          step = takes.step;
          among = subst (λ (q : Slot). Contains ys q) (sym takes.slot_is)
              (subst (λ (zs : List Slot). Contains zs s) (sym is) (Contains-push xs s));
        };
    counted = λ f. takes.counted;
    stays = λ f. absurd (true≢false f);
    reported = λ q h. subst (λ (zs : List Slot). Contains zs q) (sym is) (Contains-append_left xs (s ∷ []) q h);
  }

  -- one more look, once a pair was taken out
  pub looks_join : (took : Bool) (n n1 n2 : S) (g g1 m g2 : GlobsValue) (count count1 count2 : ℕ) (xs ys zs : List Slot)
      → Looks t false n g count xs n1 g1 count1 ys → m.edges ≡ g1.edges → m.brought ≡ g1.brought
      → Looks t took n1 m count1 ys n2 g2 count2 zs → Looks t took n g count xs n2 g2 count2 zs
  looks_join took n n1 n2 g g1 m g2 count count1 count2 xs ys zs first edges brought second = record {
    step = λ f. subst (λ (x : GlobState S). StepIn t zs x (state_of n2 g2 count2)) before (second.step f);
    counted = λ f. second.counted f ∙ ap (λ (x : GlobState S). x.count + 1) before;
    stays = λ f. second.stays f ∙ before;
    reported = λ s h. second.reported s (first.reported s h);
  }
    where
      taken_out : state_of n1 m count1 ≡ state_of n1 g1 count1
      taken_out = λ i. record { names = n1; edges = edges i; brought = brought_by_list m g1 brought i; count = count1 }

      before : state_of n1 m count1 ≡ state_of n g count
      before = taken_out ∙ first.stays refl

  pub looks_join_at : (took took' : Bool) → took' ≡ took → (n n1 n2 : S) (g g1 m g2 : GlobsValue) (count count1 count2 : ℕ) (xs ys zs : List Slot)
      → Looks t false n g count xs n1 g1 count1 ys → m.edges ≡ g1.edges → m.brought ≡ g1.brought
      → Looks t took' n1 m count1 ys n2 g2 count2 zs → Looks t took n g count xs n2 g2 count2 zs
  looks_join_at took took' same n n1 n2 g g1 m g2 count count1 count2 xs ys zs first edges brought second =
      looks_join took n n1 n2 g g1 m g2 count count1 count2 xs ys zs first edges brought
      (subst (λ (b : Bool). Looks t b n1 m count1 ys n2 g2 count2 zs) same second)

  -- no more steps could be counted from where a pair was taken out
  pub spent_join : (n n1 : S) (g g1 m : GlobsValue) (count count1 : ℕ) (xs ys : List Slot)
      → Looks t false n g count xs n1 g1 count1 ys → m.edges ≡ g1.edges → m.brought ≡ g1.brought
      → IsSpent t (state_of n1 m count1) → IsSpent t (state_of n g count)
  spent_join n n1 g g1 m count count1 xs ys first edges brought spent = subst (λ (x : GlobState S). IsSpent t x) (taken_out ∙ first.stays refl) spent
    where
      taken_out : state_of n1 m count1 ≡ state_of n1 g1 count1
      taken_out = λ i. record { names = n1; edges = edges i; brought = brought_by_list m g1 brought i; count = count1 }

  -- ---- steps

  pub steps_then : (from mid to : GlobState S) → Steps t from mid → Steps t mid to → Steps t from to
  steps_then from mid to first none = first
  steps_then from mid to first (more old new before step) = more old new (steps_then from mid old first before) step

  -- steps lead on to where no more could be counted
  pub spent_after : (from mid : GlobState S) → Steps t from mid → IsSpent t mid → IsSpent t from
  spent_after from mid first spent = record {
    at = spent.at;
    steps = steps_then from mid spent.at first spent.steps;
    full = spent.full;
    next = spent.next;
    step = spent.step;
  }

  pub steps_more : (xs ys : List Slot) (from to : GlobState S) → ((s : Slot) → Contains xs s → Contains ys s) → StepsIn t xs from to → StepsIn t ys from to
  steps_more xs ys from to more_slots none_in = none_in
  steps_more xs ys from to more_slots (more_in old new before step among) =
      more_in old new (steps_more xs ys from old more_slots before) step (more_slots (slot_of step.rule) among)

  pub steps_of : (xs : List Slot) (from to : GlobState S) → StepsIn t xs from to → Steps t from to
  steps_of xs from to none_in = none
  steps_of xs from to (more_in old new before step among) = more old new (steps_of xs from old before) step

  -- one more step of a wave
  pub steps_step : (xs ys : List Slot) (from old new : GlobState S) → StepsIn t xs from old → ((s : Slot) → Contains xs s → Contains ys s)
      → StepIn t ys old new → StepsIn t ys from new
  steps_step xs ys from old new before more_slots last = more_in old new (steps_more xs ys from old more_slots before) last.step last.among

  pub steps_same : (xs ys : List Slot) (from old new : GlobState S) → StepsIn t xs from old → ((s : Slot) → Contains xs s → Contains ys s)
      → new ≡ old → StepsIn t ys from new
  steps_same xs ys from old new before more_slots same =
      subst (λ (x : GlobState S). StepsIn t ys from x) (sym same) (steps_more xs ys from old more_slots before)

  -- ---- no globs

  absurd_without : {A : Type 0} (g : GlobState S) (j : ℕ) (e : Edge) → g.edges ≡ [] → slice_get g.edges j ≡ Some e → A
  absurd_without g j e nothing recorded =
      let no : None ≡ Some e = sym (ap (λ (es : List Edge). slice_get es j) nothing) ∙ recorded in
      absurd cc

  no_step_without : {A : Type 0} (g : GlobState S) (rule : Rule) → May t g rule → g.edges ≡ [] → A
  no_step_without g (copies_along j e s b) may nothing = absurd_without g j e nothing may.shows.recorded
  no_step_without g (follows_along j e s b) may nothing = absurd_without g j e nothing may.shows.recorded
  no_step_without g (raises_along j e s vis) may nothing = absurd_without g j e nothing may.shows.recorded

  -- where no glob is recorded, nothing changes
  pub nothing_without : (xs : List Slot) (from to : GlobState S) → from.edges ≡ [] → StepsIn t xs from to → to ≡ from
  nothing_without xs from to nothing none_in = refl
  nothing_without xs from to nothing (more_in old new before step among) =
      no_step_without old step.rule step.may (ap (λ (x : GlobState S). x.edges) (nothing_without xs from old nothing before) ∙ nothing)
