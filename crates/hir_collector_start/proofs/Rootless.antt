-- A run that has come upon nothing, and the number of the tree with which a run begins.
use Rattle.std.proofs.Common.{◌≡◌, ◌∙◌, ℕ, false, List, [], length, slice_get, Option, Some, None, refl, sym, ap, subst}
use Rattle.std.specs.Prelude.{IsSome}
use Rattle.hir_collector_rules.specs.HirBase.declared.tree_id.TreeId.{TreeId}
use Rattle.hir_collector_rules.specs.HirTables.SourcePlaces.{SourcePlaceValue}
use Rattle.hir_collector_rules.specs.HirTables.Tables.{KeepsTables, TablesValue, source_of}
use Rattle.hir_collector_rules.proofs.HirTables.Growth.{source_of-kept}
use Rattle.hir_collector_rules.specs.HirDefMapRules.Overlay.{Maps}
use Rattle.hir_collector_rules.specs.HirDefMapRules.State.{IsInOrder}
use Rattle.hir_collector_rules.specs.HirGlobImports.declared.edge.Brought.{Brought}
use Rattle.hir_collector_rules.specs.CallMoves.{ComesToRest, IsReady, rested}
use Rattle.hir_collector_rules.specs.Keys.{Environment}
use Rattle.hir_collector_rules.specs.State.{Core, RecordedGlobs, no_recorded_globs}

nothing_at : {A : Type 0} (xs : List A) (i : ℕ) (x : A) → xs ≡ [] → slice_get xs i ≡ Some x → ⊥
nothing_at xs i x e h = let gone : slice_get [] i ≡ Some x = subst (λ (ys : List _). slice_get ys i ≡ Some x) e h in let no : ⊥ = cc in no

nothing_brought_there : (o : Option Brought) (by : Brought) → o ≡ None → o ≡ Some by → ⊥
nothing_brought_there o by e h = let no : ⊥ = cc in no

pub ready_empty : (tables : TablesValue) (finished : Maps) (c : Core) → c.globs ≡ no_recorded_globs → c.reached ≡ [] → c.taken ≡ [] → c.calls ≡ [] → c.fates
    ≡ [] → c.eager ≡ [] → IsInOrder c.map
    → IsReady tables finished c
ready_empty tables finished c globs reached taken calls fates eager in_order = record {
  sound = record {
    there = λ j e h. absurd (nothing_at c.globs.edges j e (ap (λ (g : RecordedGlobs). g.edges) globs) h);
    stands = λ slot by h. absurd (nothing_brought_there (c.globs.brought slot) by (ap (λ (g : RecordedGlobs). g.brought slot) globs) h);
    recorded = λ i. record { each = λ r t target h at has. absurd (nothing_at c.reached i r reached h) };
  };
  imports = λ i r h. absurd (nothing_at c.reached i r reached h);
  paired = ap length taken ∙ sym (ap length reached);
  fated = ap length fates ∙ sym (ap length calls);
  listed = ap length eager ∙ sym (ap length calls);
  calls = λ i d h. absurd (nothing_at c.calls i d calls h);
  meant = λ i d h. absurd (nothing_at c.calls i d calls h);
  in_order = in_order;
}

-- nothing is left to be done in it
pub rests_empty : (env : Environment) (finished : Maps) (c : Core) → c.globs ≡ no_recorded_globs → c.reached ≡ [] → c.calls ≡ [] → ComesToRest env finished c c
    false
rests_empty env finished c globs reached calls =
    rested
    (record {
      settled = λ i. record {
        among = λ r t h at. absurd (nothing_at c.reached i r reached h);
        linked = λ r t by target h at. absurd (nothing_at c.reached i r reached h);
      };
      recorded = λ i. record { each = λ r t target h at has. absurd (nothing_at c.reached i r reached h) };
      closed = record {
        closed = λ j e key h. absurd (nothing_at c.globs.edges j e no_edges h);
        followed = λ j e key h. absurd (nothing_at c.globs.edges j e no_edges h);
        raised = λ j e key h. absurd (nothing_at c.globs.edges j e no_edges h);
      };
      stands = λ slot by h. absurd (nothing_brought_there (c.globs.brought slot) by (ap (λ (g : RecordedGlobs). g.brought slot) globs) h);
    })
    (λ i. record {
      shallow = λ d waits. absurd (nothing_at c.calls i d calls waits.call);
      nowhere = λ d waits. absurd (nothing_at c.calls i d calls waits.call);
      active = λ d waits. absurd (nothing_at c.calls i d calls waits.call);
    })
    (λ j w. nothing_at c.calls j w.call calls w.waits.call)
  where
    no_edges : c.globs.edges ≡ []
    no_edges = ap (λ (g : RecordedGlobs). g.edges) globs

-- the number of the tree goes on to mean something
pub root_there : (tables grown : TablesValue) (id : TreeId) → KeepsTables tables grown → IsSome (source_of tables id) → IsSome (source_of grown id)
root_there tables grown id kept there = go (source_of tables id) refl there
  where
    go : (o : Option SourcePlaceValue) → source_of tables id ≡ o → IsSome o → IsSome (source_of grown id)
    go None e h = absurd (let no : ⊥ = cc in no)
    go (Some place) e h = subst (λ (o : Option SourcePlaceValue). IsSome o) (sym (source_of-kept tables grown id place kept e)) refl
