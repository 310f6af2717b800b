-- A step along an edge leaves what is kept of globs as it has to be.
use Rattle.std.proofs.Common.{◌≡◌, ◌∙◌, ap, sym, subst, refl, ℕ, ◌+◌, Bool, true, false, ◌==◌, ◌⊎◌, inl, inr, List, Option, None, Some, slice_get}
use Rattle.std.proofs.Common.{if◌then◌else◌}
use mathlib.Core.Bool.{true≢false}
use Rattle.std.specs.Prelude.{Contains}
use Rattle.std.specs.Cmp.{unsigned_Decides}
use Rattle.std.specs.Cmp.Derive.{both_true}
use Rattle.std.specs.BTreeMap.{is_at}
use Rattle.std.specs.Map.{lookup}
use Rattle.hir_scope.specs.HirPerNs.contracts.visibility.VisibilityEq.TheImpl.Laws.{laws-law as vis_laws}
use Rattle.hir_scope.specs.HirPerNs.declared.visibility.Visibility.{Visibility}
use Rattle.hir_glob_imports.specs.contracts.edge.BoundEq.TheImpl.Laws.{laws-law as bound_laws}
use Rattle.std.specs.Ordering.{nat_cmp}
use Rattle.hir_glob_imports.specs.ByModule.{brought_in}
use Rattle.hir_glob_imports.specs.Types.{Bound, Brought, Edge, Key, Slot}
use Rattle.hir_glob_imports.specs.declared.edge.Update.TheVariants.{Nothing, Copy, Follow, Raise}
use Rattle.hir_glob_imports.specs.declared.step.TheConstants.{MAX_STEPS}
use Rattle.hir_glob_imports.specs.Inner.{IsKeptBut, Spreads, Takes}
use Rattle.hir_glob_imports.specs.Keys.{slot_at, same_slot, is_unnamed}
use Rattle.hir_glob_imports.specs.Moves.{shown, brought_vis, is_as_seen, raise_of, update_of_brought, update_of}
use Rattle.hir_glob_imports.specs.Rules.{GlobState, BroughtBy, with_brought, noted, as_seen, after, copies_along, follows_along, raises_along, IsSpent, May}
use Rattle.hir_glob_imports.specs.Rules.{Rule, none, slot_of}
use Rattle.hir_glob_imports.specs.View.{View, NameTable, IsNameTable, Binds, bound_in, with_vis}
use Rattle.hir_glob_imports.specs.Waves.{GlobsValue, brought_of, update_in, update_at, state_of, IsKept, IsPendingOrSettled, Stands}
use Rattle.hir_glob_imports.proofs.Settling.{same_itself, kept_after}
use Rattle.hir_glob_imports.proofs.Updates.{IsCopy, IsFollow, IsRaising, there_from_seen, copy_from, follow_from, raising_from}

-- ---- what is noted

pub noted-other : (f : BroughtBy) (s : Slot) (by : Brought) (q : Slot) → same_slot s q ≡ false → noted f s by q ≡ f q
noted-other f s by q apart = go (is_unnamed s.key)
  where
    go : (t : Bool) → (if t then f else with_brought f s (Some by)) q ≡ f q
    go true = refl
    go false = ap (λ (t : Bool). if t then Some by else f q) apart

pub noted-named : (f : BroughtBy) (s : Slot) (by : Brought) → is_unnamed s.key ≡ false → noted f s by s ≡ Some by
noted-named f s by named =
    ap (λ (t : Bool). (if t then f else with_brought f s (Some by)) s) named ∙ ap (λ (t : Bool). if t then Some by else f s) (same_itself s)

pub noted-unnamed : (f : BroughtBy) (s : Slot) (by : Brought) → is_unnamed s.key ≡ true → noted f s by s ≡ f s
noted-unnamed f s by unnamed = ap (λ (t : Bool). (if t then f else with_brought f s (Some by)) s) unnamed

-- what an edge brought is as it saw it
as_seen-now : (j : ℕ) (e : Edge) (b : Bound) → is_as_seen e b (as_seen j e b) ≡ true
as_seen-now j e b = both_true (bound_laws.refl b) (vis_laws.refl e.vis)

same_number : (j : ℕ) → (j == j) ≡ true
same_number j = (unsigned_Decides j j).1 refl

-- what was just brought is settled
pub settled_now : (v : View) (j : ℕ) (e : Edge) (key : Key) (b c : Bound) → is_unnamed key ≡ false
    → update_of v j e key (Some b) (Some c) (Some (as_seen j e b)) ≡ Nothing
settled_now v j e key b c named =
    ap (λ (t : Bool). if t then raise_of v e b c else update_of_brought v j e b c (Some (as_seen j e b))) named
    ∙ ap (λ (t : Bool). if t then (if is_as_seen e b (as_seen j e b) then Nothing else Follow b) else raise_of v e b c) (same_number j)
    ∙ ap (λ (t : Bool). if t then Nothing else Follow b) (as_seen-now j e b)

pub brought_by_list : (a b : GlobsValue) → a.brought ≡ b.brought → brought_of a ≡ brought_of b
brought_by_list a b same = λ i q. brought_in (lookup (is_at (nat_cmp q.at)) (same i)) q.key

-- ---- steps that may be taken

module _ {S : Type 0} (t : NameTable S) (n : S) (g : GlobsValue) (count : ℕ) (j : ℕ) (e : Edge) (s : Slot)
    (recorded : slice_get g.edges j ≡ Some e) (at : e.importer ≡ s.at) where
  pub may_copy : (b : Bound) → update_in (t.view n) (brought_of g) j e s ≡ Copy b → May t (state_of n g count) (copies_along j e s b)
  may_copy b update = record { shows = record { recorded = recorded; at = at; shown = why.shown }; vacant = why.vacant }
    where
      why : IsCopy b (shown (t.view n) e s.key) (bound_in (t.view n) s)
      why = copy_from (t.view n) j e s.key b (shown (t.view n) e s.key) (bound_in (t.view n) s) (brought_of g s) update

  pub copies_there : (b : Bound) → update_in (t.view n) (brought_of g) j e s ≡ Copy b → (t.view n).bound e.source s.key ≡ Some b
  copies_there b update = there_from_seen ((t.view n).sees e.importer) ((t.view n).bound e.source s.key) b (may_copy b update).shows.shown

  pub may_follow : (b : Bound) → update_in (t.view n) (brought_of g) j e s ≡ Follow b → May t (state_of n g count) (follows_along j e s b)
  may_follow b update =
      record {
        last = why.last;
        shows = record { recorded = recorded; at = at; shown = why.shown };
        named = why.named;
        brought_last = why.brought;
        by_it = why.by_it;
        differs = why.differs;
      }
    where
      why : IsFollow j e s.key b (shown (t.view n) e s.key) (bound_in (t.view n) s) (brought_of g s)
      why = follow_from (t.view n) j e s.key b (shown (t.view n) e s.key) (bound_in (t.view n) s) (brought_of g s) update

  pub follows_there : (b : Bound) → update_in (t.view n) (brought_of g) j e s ≡ Follow b → (t.view n).bound e.source s.key ≡ Some b
  follows_there b update = there_from_seen ((t.view n).sees e.importer) ((t.view n).bound e.source s.key) b (may_follow b update).shows.shown

  pub may_raise_to : (vis : Visibility) → update_in (t.view n) (brought_of g) j e s ≡ Raise vis → May t (state_of n g count) (raises_along j e s vis)
  may_raise_to vis update =
      record {
        b = why.b;
        c = why.c;
        shows = record { recorded = recorded; at = at; shown = why.shown };
        stands = why.stands_there;
        may = why.may;
        same = why.raise.same;
        greater = why.raise.greater;
        differs = why.raise.differs;
      }
    where
      why : IsRaising (t.view n) j e s.key vis (shown (t.view n) e s.key) (bound_in (t.view n) s) (brought_of g s)
      why = raising_from (t.view n) j e s.key vis (shown (t.view n) e s.key) (bound_in (t.view n) s) (brought_of g s) update

-- where as many steps were taken as are counted, and one more may be taken
pub spent_by : {S : Type 0} (t : NameTable S) (at : GlobState S) (rule : Rule) → May t at rule → at.count ≡ MAX_STEPS → IsSpent t at
spent_by t at rule may full = record { at = at; steps = none; full = full; next = after t at rule; step = record { rule = rule; may = may; is = refl } }

-- ---- steps that are taken

module _ {S : Type 0} (t : NameTable S) (n n' : S) (g m h : GlobsValue) (count count' : ℕ) (j : ℕ) (e : Edge) (s : Slot)
    (recorded : slice_get g.edges j ≡ Some e) (at : e.importer ≡ s.at) where
  -- the state after spreading is that before it
  spread_state : (moved : Bool) → Spreads s moved m h → state_of n' h count' ≡ state_of n' m count'
  spread_state moved spreads =
      λ i. record { names = n'; edges = spreads.edges i; brought = brought_by_list h m spreads.brought i; count = count' }

  -- a rule that is applied changes its slot
  takes : (rule : Rule) → May t (state_of n g count) rule → slot_of rule ≡ s → (moved : Bool) → Spreads s moved m h
      → state_of n' m count' ≡ after t (state_of n g count) rule → count' ≡ count + 1 → Takes t s n g count n' h count'
  takes rule may slot_is moved spreads is counted = record {
    step = record { rule = rule; may = may; is = spread_state moved spreads ∙ is };
    slot_is = slot_is;
    counted = counted;
  }

  pub copy_takes : (b : Bound) → update_in (t.view n) (brought_of g) j e s ≡ Copy b
      → state_of n' m count' ≡ after t (state_of n g count) (copies_along j e s b)
      → Spreads s (is_unnamed s.key) m h → Takes t s n g count n' h count'
  copy_takes b update is spreads =
      takes (copies_along j e s b) (may_copy t n g count j e s recorded at b update) refl (is_unnamed s.key) spreads is (ap (λ (x : GlobState S). x.count) is)

  pub follow_takes : (b : Bound) → update_in (t.view n) (brought_of g) j e s ≡ Follow b
      → state_of n' m count' ≡ after t (state_of n g count) (follows_along j e s b)
      → Spreads s true m h → Takes t s n g count n' h count'
  follow_takes b update is spreads =
      takes (follows_along j e s b) (may_follow t n g count j e s recorded at b update) refl true spreads is (ap (λ (x : GlobState S). x.count) is)

  pub raise_takes : (vis : Visibility) → update_in (t.view n) (brought_of g) j e s ≡ Raise vis
      → state_of n' m count' ≡ after t (state_of n g count) (raises_along j e s vis)
      → Spreads s true m h → Takes t s n g count n' h count'
  raise_takes vis update is spreads =
      takes (raises_along j e s vis) (may_raise_to t n g count j e s recorded at vis update) refl true spreads is (ap (λ (x : GlobState S). x.count) is)

-- ---- what they leave of what was kept

module _ {S : Type 0} (t : NameTable S) (writes : IsNameTable t) (n n' : S) (g m h : GlobsValue) (count count' : ℕ) (j : ℕ) (e : Edge) (s : Slot)
    (recorded : slice_get g.edges j ≡ Some e) (at : e.importer ≡ s.at) (kept : IsKeptBut (t.view n) g j s) where
  has : (t.view n).has s.at ≡ true
  has = subst (λ (k : ℕ). (t.view n).has k ≡ true) at (kept.there j e recorded)

  -- a step that writes a slot and spreads leaves everything pending or settled
  keeps : (b : Bound) (binds : Binds s b (t.view n) (t.view n'))
      (moved : Bool) (edges : m.edges ≡ g.edges) (pending : m.pending ≡ g.pending) (spreads : Spreads s moved m h)
      (others : (q : Slot) → same_slot s q ≡ false → brought_of h q ≡ brought_of g q)
      (inward : moved ≡ false → (k : ℕ) (d : Edge) → slice_get g.edges k ≡ Some d → d.importer ≡ s.at
      → (update_at (t.view n) (brought_of g) k d s.key ≡ Nothing) ⊎ (k ≡ j) → shown (t.view n') d s.key ≡ shown (t.view n) d s.key
      → IsPendingOrSettled (t.view n') h k d s.key)
      (here : (by : Brought) → brought_of h s ≡ Some by → Stands (t.view n') s by)
      → IsKept (t.view n') h
  keeps b binds moved edges pending spreads others inward here =
      kept_after (t.view n) (t.view n') s binds.changes g h (λ k. k ≡ j) kept.there kept.settled kept.stands (spreads.edges ∙ edges) others
      (λ k key p. spreads.kept k key (subst (λ (ps : List (ℕ × Key)). Contains ps (k, key)) (sym pending) p))
      (λ k d is from. spreads.out k d (in_old k d is) from)
      (into moved refl)
      here
    where
      in_old : (k : ℕ) (d : Edge) → slice_get g.edges k ≡ Some d → slice_get m.edges k ≡ Some d
      in_old k d is = subst (λ (es : List Edge). slice_get es k ≡ Some d) (sym edges) is

      into : (w : Bool) → moved ≡ w → (k : ℕ) (d : Edge) → slice_get g.edges k ≡ Some d → d.importer ≡ s.at
          → (update_at (t.view n) (brought_of g) k d s.key ≡ Nothing) ⊎ (k ≡ j) → shown (t.view n') d s.key ≡ shown (t.view n) d s.key
          → IsPendingOrSettled (t.view n') h k d s.key
      into true w k d is to old same = inl (spreads.inward w k d (in_old k d is) to)
      into false w k d is to old same = inward w k d is to old same

  pub copy_keeps : (b : Bound) → update_in (t.view n) (brought_of g) j e s ≡ Copy b
      → state_of n' m count' ≡ after t (state_of n g count) (copies_along j e s b) → m.pending ≡ g.pending
      → Spreads s (is_unnamed s.key) m h → IsKept (t.view n') h
  copy_keeps b update is pending spreads =
      keeps (with_vis b vis) binds (is_unnamed s.key) edges pending spreads
      (λ q apart. brought_at q ∙ noted-other (brought_of g) s (as_seen j e b) q apart)
      inward (here (is_unnamed s.key) refl)
    where
      vis : Visibility
      vis = brought_vis (t.view n) e b

      why : IsCopy b (shown (t.view n) e s.key) (bound_in (t.view n) s)
      why = copy_from (t.view n) j e s.key b (shown (t.view n) e s.key) (bound_in (t.view n) s) (brought_of g s) update

      names : n' ≡ t.copied n s e.source vis e.id
      names = ap (λ (x : GlobState S). x.names) is

      edges : m.edges ≡ g.edges
      edges = ap (λ (x : GlobState S). x.edges) is

      binds : Binds s (with_vis b vis) (t.view n) (t.view n')
      binds = subst (λ (x : S). Binds s (with_vis b vis) (t.view n) (t.view x)) (sym names)
          (writes.copies n s e.source b vis e.id has why.vacant (there_from_seen ((t.view n).sees e.importer) ((t.view n).bound e.source s.key) b why.shown))

      brought_at : (q : Slot) → brought_of h q ≡ noted (brought_of g) s (as_seen j e b) q
      brought_at q = λ i. (brought_by_list h m spreads.brought ∙ ap (λ (x : GlobState S). x.brought) is) i q

      inward : is_unnamed s.key ≡ false → (k : ℕ) (d : Edge) → slice_get g.edges k ≡ Some d → d.importer ≡ s.at
          → (update_at (t.view n) (brought_of g) k d s.key ≡ Nothing) ⊎ (k ≡ j) → shown (t.view n') d s.key ≡ shown (t.view n) d s.key
          → IsPendingOrSettled (t.view n') h k d s.key
      inward named k d found to (inl old) same = on (shown (t.view n) d s.key) refl
        where
          slot_of : slot_at d.importer s.key ≡ s
          slot_of = λ i. record { at = to i; key = s.key }

          on : (o : Option Bound) → shown (t.view n) d s.key ≡ o → IsPendingOrSettled (t.view n') h k d s.key
          on None hidden =
              inr (ap (λ (o : Option Bound). update_of (t.view n') k d s.key o (bound_in (t.view n') (slot_at d.importer s.key))
              (brought_of h (slot_at d.importer s.key))) (same ∙ hidden))
          on (Some x) seen =
              let vacant : bound_in (t.view n) (slot_at d.importer s.key) ≡ None = subst (λ (q : Slot). bound_in (t.view n) q ≡ None) (sym slot_of) why.vacant
              in
              let copies : Copy x ≡ Nothing =
              sym (λ i. update_of (t.view n) k d s.key (seen i) (vacant i) (brought_of g (slot_at d.importer s.key))) ∙ old in
              absurd cc
      inward named k d found to (inr looked) same = inr (subst (λ (q : Slot). update_in (t.view n') (brought_of h) k d q ≡ Nothing) (sym slot_of) at_slot)
        where
          slot_of : slot_at d.importer s.key ≡ s
          slot_of = λ i. record { at = to i; key = s.key }

          found_there : Some d ≡ Some e
          found_there = sym found ∙ ap (λ (x : ℕ). slice_get g.edges x) looked ∙ recorded

          same_edge : d ≡ e
          same_edge = cc

          brought_here : brought_of h s ≡ Some (as_seen j e b)
          brought_here = brought_at s ∙ noted-named (brought_of g) s (as_seen j e b) named

          shown_here : shown (t.view n') d s.key ≡ Some b
          shown_here = same ∙ ap (λ (x : Edge). shown (t.view n) x s.key) same_edge ∙ why.shown

          at_slot : update_in (t.view n') (brought_of h) k d s ≡ Nothing
          at_slot =
              (λ i. update_of (t.view n') (looked i) (same_edge i) s.key (shown_here i) (binds.bound i) (brought_here i))
              ∙ settled_now (t.view n') j e s.key b (with_vis b vis) named

      here : (u : Bool) → is_unnamed s.key ≡ u → (by : Brought) → brought_of h s ≡ Some by → Stands (t.view n') s by
      here true unnamed by brought =
          let old = kept.stands s by (sym (brought_at s ∙ noted-unnamed (brought_of g) s (as_seen j e b) unnamed) ∙ brought) in
          let none : Some old.bound ≡ None = sym old.there ∙ why.vacant in
          absurd cc
      here false named by brought =
          let new : Some (as_seen j e b) ≡ Some by = sym (brought_at s ∙ noted-named (brought_of g) s (as_seen j e b) named) ∙ brought in
          let same : as_seen j e b ≡ by = cc in
          record { bound = with_vis b vis; there = binds.bound; same = ap (λ (x : Brought). x.seen.def) same }

  pub follow_keeps : (b : Bound) → update_in (t.view n) (brought_of g) j e s ≡ Follow b
      → state_of n' m count' ≡ after t (state_of n g count) (follows_along j e s b) → m.pending ≡ g.pending
      → Spreads s true m h → IsKept (t.view n') h
  follow_keeps b update is pending spreads =
      keeps (with_vis b vis) binds true edges pending spreads
      (λ q apart. brought_at q ∙ noted-other (brought_of g) s (as_seen j e b) q apart)
      (λ moved. absurd (true≢false moved)) here
    where
      vis : Visibility
      vis = brought_vis (t.view n) e b

      why : IsFollow j e s.key b (shown (t.view n) e s.key) (bound_in (t.view n) s) (brought_of g s)
      why = follow_from (t.view n) j e s.key b (shown (t.view n) e s.key) (bound_in (t.view n) s) (brought_of g s) update

      names : n' ≡ t.followed n s e.source vis
      names = ap (λ (x : GlobState S). x.names) is

      edges : m.edges ≡ g.edges
      edges = ap (λ (x : GlobState S). x.edges) is

      binds : Binds s (with_vis b vis) (t.view n) (t.view n')
      binds = subst (λ (x : S). Binds s (with_vis b vis) (t.view n) (t.view x)) (sym names)
          (writes.follows n s e.source b why.bound vis why.stands_there (there_from_seen ((t.view n).sees e.importer) ((t.view n).bound e.source s.key) b
          why.shown))

      brought_at : (q : Slot) → brought_of h q ≡ noted (brought_of g) s (as_seen j e b) q
      brought_at q = λ i. (brought_by_list h m spreads.brought ∙ ap (λ (x : GlobState S). x.brought) is) i q

      here : (by : Brought) → brought_of h s ≡ Some by → Stands (t.view n') s by
      here by brought =
          let new : Some (as_seen j e b) ≡ Some by = sym (brought_at s ∙ noted-named (brought_of g) s (as_seen j e b) why.named) ∙ brought in
          let same : as_seen j e b ≡ by = cc in
          record { bound = with_vis b vis; there = binds.bound; same = ap (λ (x : Brought). x.seen.def) same }

  pub raise_keeps : (vis : Visibility) → update_in (t.view n) (brought_of g) j e s ≡ Raise vis
      → state_of n' m count' ≡ after t (state_of n g count) (raises_along j e s vis) → m.pending ≡ g.pending
      → Spreads s true m h → IsKept (t.view n') h
  raise_keeps vis update is pending spreads =
      keeps (with_vis why.c vis) binds true edges pending spreads (λ q apart. brought_at q)
      (λ moved. absurd (true≢false moved)) here
    where
      why : IsRaising (t.view n) j e s.key vis (shown (t.view n) e s.key) (bound_in (t.view n) s) (brought_of g s)
      why = raising_from (t.view n) j e s.key vis (shown (t.view n) e s.key) (bound_in (t.view n) s) (brought_of g s) update

      names : n' ≡ t.raised n s vis
      names = ap (λ (x : GlobState S). x.names) is

      edges : m.edges ≡ g.edges
      edges = ap (λ (x : GlobState S). x.edges) is

      binds : Binds s (with_vis why.c vis) (t.view n) (t.view n')
      binds = subst (λ (x : S). Binds s (with_vis why.c vis) (t.view n) (t.view x)) (sym names) (writes.raises n s why.c vis why.stands_there)

      brought_at : (q : Slot) → brought_of h q ≡ brought_of g q
      brought_at q = λ i. (brought_by_list h m spreads.brought ∙ ap (λ (x : GlobState S). x.brought) is) i q

      here : (by : Brought) → brought_of h s ≡ Some by → Stands (t.view n') s by
      here by brought =
          let old = kept.stands s by (sym (brought_at s) ∙ brought) in
          let one : Some why.c ≡ Some old.bound = sym why.stands_there ∙ old.there in
          let same : why.c ≡ old.bound = cc in
          record { bound = with_vis why.c vis; there = binds.bound; same = ap (λ (x : Bound). x.def) same ∙ old.same }
