-- The place of the first entry of a node, and the entry.
use Rattle.std.proofs.Common.{◌≡◌, ◌<◌, ◌≤◌, ℕ, suc, ◌+◌, ◌-◌, Bool, true, false, cond, List, [], ◌∷◌, length, drop, get_or, Option, Some, None, refl, sym, ap}
use Rattle.std.proofs.Common.{◌∙◌, arith}
use Rattle.std.proofs.Math.Seq.{drop-cons}
use Rattle.std.specs.BTreeMap.{BTreeMap, is_at, get}
use Rattle.std.specs.Cmp.{ties}
use Rattle.hir_item_tree.specs.Types.{NodeId}
use Rattle.hir_item_tree.specs.declared.side_lists.SideEntry.{SideEntry as KeptEntry}
use Rattle.hir_item_tree.specs.contracts.check.NodeIdPartialEq.TheImpl.{ghosts}
use Rattle.hir_item_tree.specs.contracts.check.NodeIdPartialOrd.TheImpl.Laws.{lawful as partial_lawful}
use Rattle.hir_item_tree.specs.contracts.check.NodeIdOrd.TheImpl.{ghosts as order}
use Rattle.hir_item_tree.specs.contracts.check.NodeIdOrd.TheImpl.Laws.{lawful}
use Rattle.hir_item_tree.specs.SideLists.{entry_view, entries_view, entry_of}
use Rattle.hir_item_tree.specs.SideIndex.{place_of}

-- the test of a look-up is that of `==`
same_test : (a n : NodeId) → ghosts.eq a n ≡ is_at (order.cmp a) n
same_test a n = ties partial_lawful.laws lawful.matches_partial_cmp a n

-- an entry at its place is the first of its node
pub record IsFirst (n : NodeId) (first p : ℕ) (es : List KeptEntry) : Type 0 where
  pub at : ℕ
  pub is : p ≡ first + at
  pub within : at < length es
  pub entry : (d : KeptEntry) → entry_of n (entries_view es) ≡ Some (entry_view (get_or es at d))

pub entry_at_place : (n : NodeId) (first p : ℕ) (es : List KeptEntry) → place_of n first es ≡ Some p → IsFirst n first p es
entry_at_place n first p [] h = cc
entry_at_place n first p (e ∷ es) h = go (λ found. entry_at_place n (suc first) p es found) (is_at (order.cmp e.node) n) refl h
  where
    go : (place_of n (suc first) es ≡ Some p → IsFirst n (suc first) p es) → (b : Bool) → is_at (order.cmp e.node) n ≡ b
        → cond b (Some first) (place_of n (suc first) es) ≡ Some p → IsFirst n first p (e ∷ es)
    go later true on found = record {
      at = 0;
      is = let s : first ≡ p = cc in omega (arith, s);
      within = omega arith;
      entry = λ d. rw (same_test e.node n ∙ on) refl;
    }
    go later false off found =
        let rest = later found in
        record {
          at = suc rest.at;
          is = omega (arith, rest.is);
          within = omega (arith, rest.within);
          entry = λ d. rw (same_test e.node n ∙ off) (rest.entry d);
        }

pub no_entry : (n : NodeId) (first : ℕ) (es : List KeptEntry) → place_of n first es ≡ None → entry_of n (entries_view es) ≡ None
no_entry n first [] h = refl
no_entry n first (e ∷ es) h = go (λ found. no_entry n (suc first) es found) (is_at (order.cmp e.node) n) refl h
  where
    go : (place_of n (suc first) es ≡ None → entry_of n (entries_view es) ≡ None) → (b : Bool) → is_at (order.cmp e.node) n ≡ b
        → cond b (Some first) (place_of n (suc first) es) ≡ None → entry_of n (entries_view (e ∷ es)) ≡ None
    go later true on found = cc
    go later false off found = rw (same_test e.node n ∙ off) (later found)

-- one more place, in front of those that are there
pub place_in_front : (old new : BTreeMap NodeId ℕ) (es : List KeptEntry) (left : ℕ) (e : KeptEntry) → 0 < left → left ≤ length es
    → get_or es (left - 1) e ≡ e → ((n : NodeId) → get order.cmp old n ≡ place_of n left (drop left es))
    → ((q : NodeId) → get order.cmp new q ≡ cond (is_at (order.cmp e.node) q) (Some (left - 1)) (get order.cmp old q))
    → (n : NodeId) → get order.cmp new n ≡ place_of n (left - 1) (drop (left - 1) es)
place_in_front old new es left e some within is before updates n =
    let next : suc (left - 1) ≡ left = omega (arith, some) in
    let opened : drop (left - 1) es ≡ e ∷ drop left es
    = drop-cons es (left - 1) e (omega (arith, some, within)) ∙ ap (λ x. x ∷ drop (suc (left - 1)) es) is ∙ ap (λ m. e ∷ drop m es) next in
    let later : place_of n (suc (left - 1)) (drop left es) ≡ get order.cmp old n = ap (λ m. place_of n m (drop left es)) next ∙ sym (before n) in
    updates n ∙ sym (ap (place_of n (left - 1)) opened ∙ ap (λ o. cond (is_at (order.cmp e.node) n) (Some (left - 1)) o) later)
