-- Visibilities of edges, of what globs brought, and of traits without names stay of a kind.
use Rattle.std.proofs.Common.{◌≡◌, ◌∙◌, ap, sym, subst, refl, ℕ, Bool, true, false, ◌⊎◌, inl, inr, List, length, Option, None, Some}
use Rattle.std.proofs.Common.{slice_get, if◌then◌else◌}
use mathlib.Core.Bool.{true≢false}
use Rattle.std.specs.Prelude.{IsSome, is_some}
use Rattle.hir_scope.specs.HirIds.declared.ids.TraitId.{TraitId}
use Rattle.hir_scope.specs.HirPerNs.declared.visibility.Visibility.{Visibility}
use Rattle.hir_glob_imports.specs.Types.{Bound, Brought, Edge, Key, Slot}
use Rattle.hir_glob_imports.specs.declared.edge.Key.TheVariants.{Unnamed}
use Rattle.hir_glob_imports.specs.declared.edge.Target.TheVariants.{Own}
use Rattle.hir_glob_imports.specs.Keys.{is_unnamed, same_slot, slot_at}
use Rattle.hir_glob_imports.specs.Moves.{brought_vis, may_raise, same_vis, seen_by}
use Rattle.hir_glob_imports.specs.Rules.{BroughtBy, GlobState, May, Rule, Shows, Step, StepsIn, after, as_seen, copies_along, follows_along, more_in, none_in}
use Rattle.hir_glob_imports.specs.Rules.{noted, raises_along}
use Rattle.hir_glob_imports.specs.View.{Binds, ChangesOnly, IsNameTable, NameTable, View, bound_in, with_vis}
use Rattle.hir_glob_imports.specs.Waves.{AreOfKind, FindsKind, Records, Stands, adds, edge_with_vis, stays, wider_of, widens}
use Rattle.hir_glob_imports.proofs.Exact.{exact_slot}
use Rattle.hir_glob_imports.proofs.Linking.{one_or_last, one_or_written}
pub use Rattle.hir_glob_imports.proofs.Resting.{nothing_along}
use Rattle.hir_glob_imports.proofs.Taking.{noted-other}
use Rattle.hir_glob_imports.proofs.Updates.{there_from_seen}

-- what one sees has a visibility under which one does
pub sees_from_seen : (sees : Visibility → Bool) (o : Option Bound) (b : Bound) → seen_by sees o ≡ Some b → sees b.vis ≡ true
sees_from_seen sees None b e = absurd cc
sees_from_seen sees (Some x) b e = go (sees x.vis) refl e
  where
    go : (t : Bool) → sees x.vis ≡ t → (if t then Some x else None) ≡ Some b → sees b.vis ≡ true
    go true s f = let same : x ≡ b = cc in subst (λ (y : Bound). sees y.vis ≡ true) same s
    go false s f = absurd cc

-- a key without a name is that of a trait
pub unnamed_key : (key : Key) → is_unnamed key ≡ true → (id : TraitId) × (key ≡ Unnamed id)
unnamed_key (Unnamed id) e = (id, refl)
unnamed_key other e = absurd (true≢false (sym e))

some_there : (o : Option Bound) → IsSome o → (c : Bound) × (o ≡ Some c)
some_there None e = absurd (true≢false (sym e))
some_there (Some c) e = (c, refl)

module _ (P : Visibility → Type 0) where
  -- ---- a slot that is written

  -- what is found in a view that is written in a slot alone is of the kind still
  finds_still : (s : Slot) (v w : View) → ChangesOnly s v w → FindsKind P v → FindsKind P w
  finds_still s v w changes finds = record {
    seen = λ at vis has sees. finds.seen at vis (sym (changes.has at) ∙ has) (sym (changes.sees at vis) ∙ sees);
    lesser = λ a b first second. subst P (sym (changes.lesser a b)) (finds.lesser a b first second);
    greater = λ a b wide first second is. finds.greater a b wide first second (sym (changes.greater a b) ∙ is);
  }

  -- where a slot takes a visibility of the kind, all are of the kind still
  module _ (s : Slot) (b : Bound) (v w : View) (binds : Binds s b v w) (of_kind : P b.vis) (edges : List Edge) (old new : BroughtBy)
      (others : (q : Slot) → same_slot s q ≡ false → new q ≡ old q) (kinds : AreOfKind P v edges old) where
    here : (q : Slot) (c : Bound) → same_slot s q ≡ true → bound_in w q ≡ Some c → P c.vis
    here q c m is =
        let same : s ≡ q = exact_slot s q m in
        let one : Some b ≡ Some c = sym binds.bound ∙ ap (bound_in w) same ∙ is in
        let it : b ≡ c = cc in
        subst (λ (x : Bound). P x.vis) it of_kind

    brought_still : (q : Slot) (by : Brought) (c : Bound) → new q ≡ Some by → bound_in w q ≡ Some c → (m : Bool) → same_slot s q ≡ m → P c.vis
    brought_still q by c is there true m = here q c m there
    brought_still q by c is there false m = kinds.brought q by c (sym (others q m) ∙ is) (sym (binds.changes.bound (Own q.at) q.key m) ∙ there)

    trait_still : (at : ℕ) (id : TraitId) (c : Bound) → w.bound (Own at) (Unnamed id) ≡ Some c → (m : Bool) → same_slot s (slot_at at (Unnamed id)) ≡ m
        → P c.vis
    trait_still at id c there true m = here (slot_at at (Unnamed id)) c m there
    trait_still at id c there false m = kinds.traits at id c (sym (binds.changes.bound (Own at) (Unnamed id) m) ∙ there)

    kinds_still : AreOfKind P w edges new
    kinds_still = record {
      edges = kinds.edges;
      brought = λ q by c is there. brought_still q by c is there (same_slot s q) refl;
      traits = λ at id c there. trait_still at id c there (same_slot s (slot_at at (Unnamed id))) refl;
    }

  -- ---- steps

  module _ {S : Type 0} (t : NameTable S) (writes : IsNameTable t) where
    -- what holds at each step
    record IsOfKind (g : GlobState S) : Type 0 where
      finds : FindsKind P (t.view g.names)
      there : (j : ℕ) (e : Edge) → slice_get g.edges j ≡ Some e → (t.view g.names).has e.importer ≡ true
      some : (s : Slot) (by : Brought) → g.brought s ≡ Some by → IsSome (bound_in (t.view g.names) s)
      kinds : AreOfKind P (t.view g.names) g.edges g.brought

    written : (s : Slot) (b : Bound) (g : GlobState S) (n : S) (brought : BroughtBy) (count : ℕ) → Binds s b (t.view g.names) (t.view n) → P b.vis
        → ((q : Slot) → same_slot s q ≡ false → brought q ≡ g.brought q) → IsOfKind g
        → IsOfKind (record { names = n; edges = g.edges; brought = brought; count = count })
    written s b g n brought count binds of_kind others holds = record {
      finds = finds_still s (t.view g.names) (t.view n) binds.changes holds.finds;
      there = λ j e is. binds.changes.has e.importer ∙ holds.there j e is;
      some = λ q by is. on q by is (same_slot s q) refl;
      kinds = kinds_still s b (t.view g.names) (t.view n) binds of_kind g.edges g.brought brought others holds.kinds;
    }
      where
        on : (q : Slot) (by : Brought) → brought q ≡ Some by → (m : Bool) → same_slot s q ≡ m → IsSome (bound_in (t.view n) q)
        on q by is true m = subst (λ (x : Slot). IsSome (bound_in (t.view n) x)) (exact_slot s q m) (ap is_some binds.bound)
        on q by is false m = ap is_some (binds.changes.bound (Own q.at) q.key m) ∙ holds.some q by (sym (others q m) ∙ is)

    -- the visibility under which an edge brings what its source shows
    along : (g : GlobState S) (j : ℕ) (e : Edge) (s : Slot) (b : Bound) → IsOfKind g → Shows (t.view g.names) g.edges j e s b
        → P (brought_vis (t.view g.names) e b)
    along g j e s b holds shows =
        let source : P b.vis =
        holds.finds.seen e.importer b.vis (holds.there j e shows.recorded)
        (sees_from_seen ((t.view g.names).sees e.importer) ((t.view g.names).bound e.source s.key) b shows.shown) in
        holds.finds.lesser e.vis b.vis (holds.kinds.edges j e shows.recorded) source

    -- what may be raised is a trait without a name, or a glob brought it
    raised : (g : GlobState S) (j : ℕ) (s : Slot) (c : Bound) → IsOfKind g → bound_in (t.view g.names) s ≡ Some c → may_raise j s.key (g.brought s) ≡ true
        → P c.vis
    raised g j s c holds stands may = on (g.brought s) refl may
      where
        unnamed : is_unnamed s.key ≡ true → P c.vis
        unnamed u =
            let key = unnamed_key s.key u in
            holds.kinds.traits s.at key.0 c (ap ((t.view g.names).bound (Own s.at)) (sym key.1) ∙ stands)

        on : (o : Option Brought) → g.brought s ≡ o → may_raise j s.key o ≡ true → P c.vis
        on None is m = unnamed m
        on (Some by) is m = holds.kinds.brought s by c is stands

    ruled : (g : GlobState S) (rule : Rule) → May t g rule → IsOfKind g → IsOfKind (after t g rule)
    ruled g (copies_along j e s b) may holds =
        written s (with_vis b vis) g (t.copied g.names s e.source vis e.id) (noted g.brought s (as_seen j e b)) _
        (writes.copies g.names s e.source b vis e.id (subst (λ (k : ℕ). (t.view g.names).has k ≡ true) may.shows.at (holds.there j e may.shows.recorded))
        may.vacant
        (there_from_seen ((t.view g.names).sees e.importer) ((t.view g.names).bound e.source s.key) b may.shows.shown))
        (along g j e s b holds may.shows) (noted-other g.brought s (as_seen j e b)) holds
      where
        vis : Visibility
        vis = brought_vis (t.view g.names) e b
    ruled g (follows_along j e s b) may holds =
        written s (with_vis b vis) g (t.followed g.names s e.source vis) (noted g.brought s (as_seen j e b)) _
        (writes.follows g.names s e.source b stands.0 vis stands.1
        (there_from_seen ((t.view g.names).sees e.importer) ((t.view g.names).bound e.source s.key) b may.shows.shown))
        (along g j e s b holds may.shows) (noted-other g.brought s (as_seen j e b)) holds
      where
        vis : Visibility
        vis = brought_vis (t.view g.names) e b

        stands : (c : Bound) × (bound_in (t.view g.names) s ≡ Some c)
        stands = some_there (bound_in (t.view g.names) s) (holds.some s may.last may.brought_last)
    ruled g (raises_along j e s vis) may holds =
        written s (with_vis may.c vis) g (t.raised g.names s vis) g.brought _ (writes.raises g.names s may.c vis may.stands)
        (holds.finds.greater may.c.vis (brought_vis (t.view g.names) e may.b) vis (raised g j s may.c holds may.stands may.may)
        (along g j e s may.b holds may.shows) may.greater)
        (λ q apart. refl) holds

    stepped : (old new : GlobState S) → Step t old new → IsOfKind old → IsOfKind new
    stepped old new step holds = subst IsOfKind (sym step.is) (ruled old step.rule step.may holds)

    all_steps : (slots : List Slot) (from to : GlobState S) → IsOfKind from → StepsIn t slots from to → IsOfKind to
    all_steps slots from to holds none_in = holds
    all_steps slots from to holds (more_in old new before step among) = stepped old new step (all_steps slots from old holds before)

    -- steps leave visibilities of the kind
    pub kinds_kept : (slots : List Slot) (g g' : GlobState S) → FindsKind P (t.view g.names)
        → ((j : ℕ) (e : Edge) → slice_get g.edges j ≡ Some e → (t.view g.names).has e.importer ≡ true)
        → ((s : Slot) (by : Brought) → g.brought s ≡ Some by → Stands (t.view g.names) s by)
        → AreOfKind P (t.view g.names) g.edges g.brought → StepsIn t slots g g' → AreOfKind P (t.view g'.names) g'.edges g'.brought
    kinds_kept slots g g' finds there stands kinds steps =
        (all_steps slots g g' (record { finds = finds; there = there; some = λ s by is. ap is_some (stands s by is).there; kinds = kinds }) steps).kinds

  -- ---- a glob that is recorded

  wider_there : (vis wide : Visibility) (o : Option Visibility) → wider_of vis o ≡ Some wide → o ≡ Some wide
  wider_there vis wide None e = absurd cc
  wider_there vis wide (Some x) e = go (same_vis x vis) e
    where
      go : (t : Bool) → (if t then None else Some x) ≡ Some wide → Some x ≡ Some wide
      go true f = absurd cc
      go false f = f

  -- so does an edge of the kind that is recorded
  pub kind_linked : (v : View) (old new : List Edge) (e : Edge) (brought : BroughtBy) → Records v old new e → P e.vis → FindsKind P v
      → AreOfKind P v old brought → AreOfKind P v new brought
  kind_linked v old new e brought records of_kind finds kinds = record { edges = each records; brought = kinds.brought; traits = kinds.traits }
    where
      one_more : (x : Edge) (k : ℕ) → P x.vis → (j : ℕ) (d : Edge) → (slice_get old j ≡ Some d) ⊎ ((j ≡ k) × (d ≡ x)) → P d.vis
      one_more x k p j d (inl before) = kinds.edges j d before
      one_more x k p j d (inr now) = subst (λ (y : Edge). P y.vis) (sym now.1) p

      each : Records v old new e → (j : ℕ) (d : Edge) → slice_get new j ≡ Some d → P d.vis
      each (widens k x wide there ends wider is) j d found =
          one_more (edge_with_vis x wide) k (finds.greater x.vis e.vis wide (kinds.edges k x there) of_kind
          (wider_there x.vis wide (v.greater x.vis e.vis) wider)) j d
          (one_or_written old k (edge_with_vis x wide) j d (subst (λ (es : List Edge). slice_get es j ≡ Some d) is found))
      each (stays k x there ends wider is) j d found = kinds.edges j d (subst (λ (es : List Edge). slice_get es j ≡ Some d) is found)
      each (adds apart is) j d found =
          one_more e (length old) of_kind j d (one_or_last old e j d (subst (λ (es : List Edge). slice_get es j ≡ Some d) is found))
