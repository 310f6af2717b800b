-- What falls with a map depends on it, and what is left stays checked.
use Rattle.std.proofs.Common.{◌≡◌, ◌∙◌, ap, sym, subst, refl, Bool, true, false, not, ◌&&◌, ◌||◌, is_some, cond, Option, Some, None, List, [], ◌∷◌, ◌⊎◌, inl}
use Rattle.std.proofs.Common.{inr}
use mathlib.Core.Bool.{true≢false}
use Rattle.std.specs.Option.{option_map}
use Rattle.std.specs.List.{list_any}
use Rattle.std.specs.BTreeMap.{BTreeMap, get, is_at, Updates}
use Rattle.hir_nameres.specs.HirIds.declared.ids.MapId.{MapId}
use Rattle.hir_nameres.specs.HirIds.declared.ids.ModuleId.{ModuleId}
use Rattle.hir_nameres.specs.HirIds.contracts.ids.MapIdOrd.TheImpl as map_order
use Rattle.hir_nameres.specs.HirPerNs.ModuleTree.{same_crate}
use Rattle.hir_def_map.specs.Types.{Finished}
use Rattle.hir_def_map_rules.specs.Overlay.{Maps, Placed, holders_of, holders_under}
use Rattle.hir_def_map_rules.specs.Ancestors.{HolderLeads, IsPlaced, frame_of, frames_of, holders_of_frame}
use Rattle.hir_def_map_rules.specs.References.{lies_in, refers_to, any_reference}
use Rattle.hir_nameres.specs.World.{IsChecked, IsFinished, finished_in, placed_of}
use Rattle.hir_nameres.specs.Removal.{Depends, FallsWith, IsClosed, IsFalling, IsUpward, lacks_some, lists_in, lists_of, refers_in, refers_of}
use Rattle.hir_nameres.specs.Removal.Depends.{itself, through}
use Rattle.hir_def_map.proofs.Depending.{depends_still, falls_by}
use Rattle.hir_def_map.proofs.Joined.{finished_kept, holder_named, own_id, same_id}
use Rattle.hir_def_map.proofs.Naming.{names_finished}

abbrev pub Store : Type 0
Store = BTreeMap MapId Finished

abbrev pub at : Store → MapId → Option Finished
at maps id = get map_order.ghosts.cmp maps id

-- ---- ids in a set that are of no map

-- where none is of no map, an id in the set is of one
module _ (test : MapId → Bool) where
  any_from : (xs : List MapId) (id : MapId) → list_any (is_at (map_order.ghosts.cmp id)) xs ≡ true → test id ≡ true → list_any test xs ≡ true
  any_from [] id e t = absurd cc
  any_from (x ∷ xs) id e t = go (λ f. any_from xs id f t) (is_at (map_order.ghosts.cmp id) x) refl e
    where
      right : (a b : Bool) → b ≡ true → (a || b) ≡ true
      right true b f = refl
      right false b f = f

      go : (list_any (is_at (map_order.ghosts.cmp id)) xs ≡ true → list_any test xs ≡ true)
          → (b : Bool) → is_at (map_order.ghosts.cmp id) x ≡ b → (b || list_any (is_at (map_order.ghosts.cmp id)) xs) ≡ true → (test x || list_any test xs)
          ≡ true
      go below true s f = ap (λ (b : Bool). b || list_any test xs) (let P : MapId → Type 0 = λ y. test y ≡ true in subst P (same_id id x s) t)
      go below false s f = right (test x) (list_any test xs) (below f)

  -- some id in the set passes
  any_which : (xs : List MapId) → list_any test xs ≡ true → (id : MapId) × (list_any (is_at (map_order.ghosts.cmp id)) xs ≡ true) × (test id ≡ true)
  any_which [] e = absurd cc
  any_which (x ∷ xs) e = go (λ f. any_which xs f) (test x) refl e
    where
      right : (a b : Bool) → b ≡ true → (a || b) ≡ true
      right true b f = refl
      right false b f = f

      go : (list_any test xs ≡ true → (id : MapId) × (list_any (is_at (map_order.ghosts.cmp id)) xs ≡ true) × (test id ≡ true))
          → (b : Bool) → test x ≡ b → (b || list_any test xs) ≡ true → (id : MapId)
          × ((is_at (map_order.ghosts.cmp id) x || list_any (is_at (map_order.ghosts.cmp id)) xs) ≡ true) × (test id ≡ true)
      go below true s f = (x, ap (λ (b : Bool). b || list_any (is_at (map_order.ghosts.cmp x)) xs) (own_id x), s)
      go below false s f = let h = below f in (h.0, right (is_at (map_order.ghosts.cmp h.0) x) (list_any (is_at (map_order.ghosts.cmp h.0)) xs) h.1, h.2)

is_there_or : (o : Option Finished) → not (is_some o) ≡ true → o ≡ None
is_there_or None e = refl
is_there_or (Some f) e = absurd cc

-- where a map lists a missing one, it is there and lists it
pub which_lacks : (maps : Store) (o : Option Finished) → lacks_some maps o ≡ true → (j : MapId) × (lists_of o j ≡ true) × (at maps j ≡ None)
    × (is_some o ≡ true)
which_lacks maps None e = absurd cc
which_lacks maps (Some f) e =
    let h = any_which (λ (id : MapId). not (is_some (at maps id))) f.named.keys e in
    (h.0, h.1, is_there_or (at maps h.0) h.2, refl)

-- where a map lists a missing one, it lacks it
pub lacks_from : (maps : Store) (o : Option Finished) (j : MapId) → lists_of o j ≡ true → at maps j ≡ None → lacks_some maps o ≡ true
lacks_from maps None j e n = absurd cc
lacks_from maps (Some f) j e n = any_from (λ (id : MapId). not (is_some (at maps id))) f.named.keys j e (ap (λ (o : Option Finished). not (is_some o)) n)

-- ---- one map falls after another

removed_here : (old new : Store) (id : MapId) → Updates map_order.ghosts.cmp old new id None → at new id ≡ None
removed_here old new id updates = updates.1

-- first the map itself
pub falling-start : (old new : Store) (id : MapId) → Updates map_order.ghosts.cmp old new id None → IsFalling old new id
falling-start old new id updates = record {
  gone = updates.1;
  each = λ k. go k (is_at (map_order.ghosts.cmp id) k) refl;
}
  where
    go : (k : MapId) (b : Bool) → is_at (map_order.ghosts.cmp id) k ≡ b → (at new k ≡ at old k) ⊎ ((at new k ≡ None) × Depends (lists_in old) id k)
    go k true s = inr (updates.0 k ∙ ap (λ (b : Bool). cond b None (at old k)) s, itself k (sym (same_id id k s)))
    go k false s = inl (updates.2 k s)

module _ (old now new : Store) (id next : MapId) (closed : IsClosed old) (falling : IsFalling old now id)
    (lacking : lacks_some now (at now next) ≡ true) (updates : Updates map_order.ghosts.cmp now new next None) where
  -- what it lists and is missing has fallen, since it was there
  depends : Depends (lists_in old) id next
  depends = on (which_lacks now (at now next) lacking)
    where
      by_next : (j : MapId) → lists_of (at now next) j ≡ true → is_some (at now next) ≡ true → lists_in old next j ≡ true
      by_next j l i = elim (falling.each next) [
        | inl same ↦ sym (ap (λ (o : Option Finished). lists_of o j) same) ∙ l
        | inr fell ↦ absurd (true≢false (sym i ∙ ap is_some fell.0))
      ]

      on : (j : MapId) × (lists_of (at now next) j ≡ true) × (at now j ≡ None) × (is_some (at now next) ≡ true) → Depends (lists_in old) id next
      on h = elim (falling.each h.0) [
        | inl same ↦ absurd (true≢false (sym (lacks_from old (at old next) h.0 (by_next h.0 h.1 h.3) (sym same ∙ h.2)) ∙ closed next))
        | inr fell ↦ through next h.0 (by_next h.0 h.1 h.3) fell.1
      ]

  pub falling-step : IsFalling old new id
  falling-step = record {
    gone = updates.0 id ∙ stays (is_at (map_order.ghosts.cmp next) id) (at now id) falling.gone;
    each = λ k. go k (is_at (map_order.ghosts.cmp next) k) refl;
  }
    where
      stays : (b : Bool) (o : Option Finished) → o ≡ None → cond b None o ≡ None
      stays true o e = refl
      stays false o e = e

      go : (k : MapId) (b : Bool) → is_at (map_order.ghosts.cmp next) k ≡ b → (at new k ≡ at old k) ⊎ ((at new k ≡ None) × Depends (lists_in old) id k)
      go k true s =
          let P : MapId → Type 0 = λ x. Depends (lists_in old) id x in
          inr (updates.0 k ∙ ap (λ (b : Bool). cond b None (at now k)) s, subst P (same_id next k s) depends)
      go k false s = elim (falling.each k) [
        | inl same ↦ inl (updates.2 k s ∙ same)
        | inr fell ↦ inr (updates.2 k s ∙ fell.0, fell.1)
      ]

-- ---- the end

module _ (old new : Store) (id : MapId) (falling : IsFalling old new id) (closed : IsClosed new) where
  -- what is still there was there
  was_there : (k : MapId) → is_some (at new k) ≡ true → at new k ≡ at old k
  was_there k i = elim (falling.each k) [
    | inl same ↦ same
    | inr fell ↦ absurd (true≢false (sym i ∙ ap is_some fell.0))
  ]

  -- what lists a map that is gone is gone
  pub gone_upward : IsUpward (lists_in old) (λ k. not (is_some (at new k)))
  gone_upward k other l g = go (at new k) refl
    where
      go : (o : Option Finished) → at new k ≡ o → not (is_some (at new k)) ≡ true
      go None s = ap (λ (o : Option Finished). not (is_some o)) s
      go (Some f) s =
          let same : at new k ≡ at old k = was_there k (ap is_some s) in
          absurd (true≢false (sym (lacks_from new (at new k) other (ap (λ (o : Option Finished). lists_of o other) same ∙ l) (is_there_or (at new other) g)) ∙
          closed k))

  pub all_gone : (k : MapId) → FallsWith (lists_in old) id k → at new k ≡ None
  all_gone k d = is_there_or (at new k) (d (λ x. not (is_some (at new x))) (ap (λ (o : Option Finished). not (is_some o)) falling.gone) gone_upward)

-- ---- checked maps

placed_some : (o : Option Finished) → is_some (option_map placed_of o) ≡ true → is_some o ≡ true
placed_some None e = absurd cc
placed_some (Some f) e = refl

some_placed : (o : Option Finished) → is_some o ≡ true → is_some (option_map placed_of o) ≡ true
some_placed None e = absurd cc
some_placed (Some f) e = refl

names_there : (o : Option Finished) (j : MapId) → refers_of o j ≡ true → is_some o ≡ true
names_there None j e = absurd cc
names_there (Some f) j e = refl

framed_some : (o : Option Placed) → is_some (option_map frame_of o) ≡ true → is_some o ≡ true
framed_some None e = absurd cc
framed_some (Some p) e = refl

module _ (old : Store) (checked : IsChecked old) where
  -- an id that is kept is that of a map that is named
  names_at : (k j : MapId) → lists_in old k j ≡ true → refers_in old k j ≡ true
  names_at k j l = go (at old k) refl l
    where
      go : (o : Option Finished) → at old k ≡ o → lists_of o j ≡ true → refers_of o j ≡ true
      go None s e = absurd cc
      go (Some f) s e = (checked.each k f s).named j e

  -- so what depends on a map by the ids that are kept does by the names, and falls with it by them
  pub by_names : (a b : MapId) → Depends (lists_in old) a b → Depends (refers_in old) a b
  by_names a b d = depends_still (lists_in old) (refers_in old) names_at a b d

  pub by_lists : (a b : MapId) → Depends (refers_in old) a b → FallsWith (lists_in old) a b
  by_lists a b d = falls_by (refers_in old) (lists_in old) checked.covered a b d

  -- a map that is named is there
  named_there : (k : MapId) (f : Finished) → at old k ≡ Some f → (j : MapId) → refers_to f.map f.local j ≡ true → is_some (at old j) ≡ true
  unfolding finished_in
  named_there k f s j e = placed_some (at old j) (names_finished (finished_in old) f.map f.local (checked.each k f s).complete j e)

  pub checked_closed : IsClosed old
  checked_closed k = go (lacks_some old (at old k)) refl
    where
      known : (j : MapId) (o : Option Finished) → at old k ≡ o → refers_of o j ≡ true → is_some (at old j) ≡ true
      known j None s e = absurd cc
      known j (Some f) s e = named_there k f s j e

      go : (b : Bool) → lacks_some old (at old k) ≡ b → b ≡ false
      go false s = refl
      go true s =
          let h = which_lacks old (at old k) s in
          absurd (true≢false (sym (known h.0 (at old k) refl (names_at k h.0 h.1)) ∙ ap is_some h.2))

under_head : (A : Maps) (k : MapId) (o : Option ModuleId) (h : ModuleId) (hs : List ModuleId) → holders_under A k o ≡ h ∷ hs → o ≡ Some h
under_head A k None h hs e = absurd cc
under_head A k (Some m) h hs e = go (same_crate m.map.krate k.krate && is_some (A m.map)) e
  where
    go : (b : Bool) → cond b (m ∷ holders_of (A m.map)) [] ≡ h ∷ hs → Some m ≡ Some h
    go true f = let same : m ≡ h = cc in ap Some same
    go false f = absurd cc

module _ (old new : Store) (id : MapId) (checked : IsChecked old) (falling : IsFalling old new id) (closed : IsClosed new) where
  abbrev before : Maps
  before = finished_in old

  abbrev after : Maps
  after = finished_in new

  same_maps : (k : MapId) → at new k ≡ at old k → before k ≡ after k
  unfolding finished_in
  same_maps k e = ap (option_map placed_of) (sym e)

  was : (k : MapId) (g : Finished) → at new k ≡ Some g → at old k ≡ Some g
  was k g e = sym (was_there old new id falling closed k (ap is_some e)) ∙ e

  here : (k : MapId) (g : Finished) → at new k ≡ Some g → is_some (before k) ≡ true
  unfolding finished_in
  here k g e = some_placed (at old k) (ap is_some (was k g e))

  -- so is what it names
  named_stays : (k j : MapId) → refers_in old k j ≡ true → is_some (at new k) ≡ true → is_some (at new j) ≡ true
  named_stays k j n i = go (at new j) refl
    where
      go : (o : Option Finished) → at new j ≡ o → is_some (at new j) ≡ true
      go (Some f) s = ap is_some s
      go None s =
          let away : not (is_some (at new k)) ≡ true = checked.covered k j n (λ x. not (is_some (at new x))) (ap (λ (o : Option Finished). not (is_some o)) s)
          (gone_upward old new id falling closed) in
          absurd (true≢false (sym away ∙ ap not i))

  -- and it falls with the same maps as before
  module _ (falls : MapId → Bool) (up : IsUpward (lists_in new) falls) where
    abbrev or_gone : MapId → Bool
    or_gone x = not (is_some (at new x)) || falls x

    up_or_gone : IsUpward (lists_in old) or_gone
    up_or_gone k other l f = go (at new k) refl
      where
        later : (a b : Bool) → b ≡ true → (a || b) ≡ true
        later true b e = refl
        later false b e = e

        listed : is_some (at new k) ≡ true → lists_in new k other ≡ true
        listed i = ap (λ (o : Option Finished). lists_of o other) (was_there old new id falling closed k i) ∙ l

        here : is_some (at new k) ≡ true → is_some (at new other) ≡ true
        here i = still (at new other) refl
          where
            still : (o : Option Finished) → at new other ≡ o → is_some (at new other) ≡ true
            still (Some g) s = ap is_some s
            still None s = absurd (true≢false (sym (lacks_from new (at new k) other (listed i) s) ∙ closed k))

        go : (o : Option Finished) → at new k ≡ o → or_gone k ≡ true
        go None s = ap (λ (o : Option Finished). not (is_some o) || falls k) s
        go (Some g) s =
            let i : is_some (at new k) ≡ true = ap is_some s in
            later (not (is_some (at new k))) (falls k) (up k other (listed i) (ap (λ (b : Bool). not b || falls other) (sym (here i)) ∙ f))

    still_falls : (k j : MapId) → refers_in old k j ≡ true → is_some (at new k) ≡ true → falls j ≡ true → falls k ≡ true
    still_falls k j n i f =
        ap (λ (b : Bool). not b || falls k) (sym i) ∙ checked.covered k j n or_gone (later (not (is_some (at new j))) (falls j) f) up_or_gone
      where
        later : (a b : Bool) → b ≡ true → (a || b) ≡ true
        later true b e = refl
        later false b e = e

  covered_still : (k j : MapId) → refers_in new k j ≡ true → FallsWith (lists_in new) j k
  covered_still k j n falls f up =
      let i : is_some (at new k) ≡ true = names_there (at new k) j n in
      still_falls falls up k j (ap (λ (o : Option Finished). refers_of o j) (sym (was_there old new id falling closed k i)) ∙ n) i f

  -- what is still there finds the maps that it names as they were
  same : (k : MapId) (g : Finished) → at new k ≡ Some g → (j : MapId) → any_reference (lies_in j) g.map g.local ≡ true → before j ≡ after j
  same k g e j named = go (is_at (map_order.ghosts.cmp g.map.id) j) refl
    where
      finished : IsFinished before k g
      finished = checked.each k g (was k g e)

      there : refers_to g.map g.local j ≡ true → is_some (at new j) ≡ true
      there n = named_stays k j (ap (λ (o : Option Finished). refers_of o j) (was k g e) ∙ n) (ap is_some e)

      go : (b : Bool) → is_at (map_order.ghosts.cmp g.map.id) j ≡ b → before j ≡ after j
      go true s =
          let P : MapId → Type 0 = λ x. before x ≡ after x in
          subst P (sym finished.own ∙ same_id g.map.id j s) (same_maps k (was_there old new id falling closed k (ap is_some e)))
      go false s = same_maps j (was_there old new id falling closed j (there (ap (λ (b : Bool). not b && any_reference (lies_in j) g.map g.local) s ∙ named)))

  placed_after : IsPlaced after
  unfolding finished_in frames_of
  placed_after k h hs e = go (at new k) refl e
    where
      leads : (g : Finished) → at new k ≡ Some g → g.holders.items ≡ h ∷ hs → HolderLeads (frames_of after) k h hs
      leads g s f =
          let l : HolderLeads (frames_of before) k h hs = checked.placed k h hs
          (ap (λ (o : Option Finished). holders_of_frame (option_map frame_of (option_map placed_of o))) (was k g s) ∙ f) in
          let held : g.map.holder ≡ Some h = under_head before k g.map.holder h hs (sym (checked.each k g (was k g s)).holders ∙ f) in
          let kept : before h.map ≡ after h.map = same k g s h.map (holder_named g.map g.local h held) in (
            l.0,
            ap (λ (o : Option Placed). is_some (option_map frame_of o)) (sym kept) ∙ l.1,
            ap (λ (o : Option Placed). holders_of_frame (option_map frame_of o)) (sym kept) ∙ l.2,
          )

      go : (o : Option Finished) → at new k ≡ o → holders_of_frame (option_map frame_of (option_map placed_of o)) ≡ h ∷ hs → HolderLeads (frames_of after) k h
          hs
      go None s f = absurd cc
      go (Some g) s f = leads g s f

  pub fallen_checked : IsChecked new
  fallen_checked = record {
    placed = placed_after;
    each = λ k g e. finished_kept before after k g (checked.each k g (was k g e)) (here k g e) (λ j named i. same k g e j named);
    covered = covered_still;
  }

  -- all that depend on the map are gone
  pub dependents_gone : (k : MapId) → Depends (refers_in old) id k → at new k ≡ None
  dependents_gone k d = all_gone old new id falling closed k (by_lists old checked id k d)

  -- and all others stay
  pub others_stay : (k : MapId) → ¬ Depends (refers_in old) id k → at new k ≡ at old k
  others_stay k free = elim (falling.each k) [
    | inl same ↦ same
    | inr fell ↦ absurd (free (by_names old checked id k fell.1))
  ]

pub none_there : (o : Option Finished) → is_some o ≡ false → o ≡ None
none_there None e = refl
none_there (Some f) e = absurd cc

-- on a map that isn't there nothing depends that is there
pub absent_gone : (old : Store) (id : MapId) → IsChecked old → at old id ≡ None → (k : MapId) → Depends (refers_in old) id k → at old k ≡ None
absent_gone old id checked absent _ (itself k e) = ap (at old) e ∙ absent
absent_gone old id checked absent _ (through k other n d) = go (absent_gone old id checked absent other d) (at old k) refl n
  where
    go : at old other ≡ None → (o : Option Finished) → at old k ≡ o → refers_of o other ≡ true → at old k ≡ None
    go m None s e = s
    go m (Some f) s e = absurd (true≢false (sym (named_there old checked k f s other e) ∙ ap is_some m))
