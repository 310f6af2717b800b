-- Of the names of one namespace in a module, those that no import brought: this holds of each, and no glob is noted as what brought it.
use Rattle.std.proofs.Common.{◌≡◌, ◌≢◌, ◌∙◌, ◌⊎◌, inl, inr, ℕ, Bool, true, false, cond, List, Option, None, Some, is_some, if◌then◌else◌, refl, sym, ap, subst}
use Rattle.std.proofs.Common.{true≢false}
use Rattle.std.specs.BTreeMap.{insert_entry, is_at}
use Rattle.std.specs.Cmp.Lexicographic.{slice_cmp}
use Rattle.std.specs.Map.{set_value}
use Rattle.std.specs.Ordering.{nat_cmp}
use Rattle.hir_collector_rules.specs.HirScope.Bindings.{Candidate, taken, takes as takes_slot, written_items}
use Rattle.hir_collector_rules.specs.HirScope.Entries.{item_at, with_entry}
use Rattle.hir_collector_rules.specs.HirScope.Globs.{Place, has_place}
use Rattle.hir_collector_rules.specs.HirPerNs.PerNs.{Item}
use Rattle.hir_collector_rules.proofs.HirScope.AfterPush.{item_at-with_entry, item_at-with_entry_other}
use Rattle.hir_collector_rules.specs.HirScopeTable.Table.{rewritten}
use Rattle.hir_collector_rules.specs.HirGlobImports.Keys.{same_slot, slot_at}
use Rattle.hir_collector_rules.specs.HirGlobImports.Rules.{BroughtBy, with_brought}
use Rattle.hir_collector_rules.specs.HirGlobImports.declared.edge.Brought.{Brought}
use Rattle.hir_collector_rules.specs.HirGlobImports.declared.edge.Key.{Key}
use Rattle.hir_collector_rules.specs.HirGlobImports.declared.edge.Slot.{Slot}
use Rattle.hir_collector_rules.specs.HirGlobImports.declared.edge.Key.TheVariants.{Types}
use Rattle.hir_collector_rules.proofs.HirGlobImports.Exact.{exact_slot}
use Rattle.hir_collector_rules.proofs.HirGlobImports.Settling.{same_itself}

-- names are the same or not
one_or_other : (a b : List ℕ) → (a ≡ b) ⊎ (b ≢ a)
one_or_other a b = go (same_slot (slot_at 0 (Types a)) (slot_at 0 (Types b))) refl
  where
    one : (x y : List ℕ) → Types x ≡ Types y → x ≡ y
    one x y e = cc

    go : (t : Bool) → same_slot (slot_at 0 (Types a)) (slot_at 0 (Types b)) ≡ t → (a ≡ b) ⊎ (b ≢ a)
    go true e = inl (one a b (ap (λ (s : Slot). s.key) (exact_slot (slot_at 0 (Types a)) (slot_at 0 (Types b)) e)))
    go false e = inr (λ same. true≢false
        (sym (same_itself (slot_at 0 (Types a))) ∙ ap (λ (x : List ℕ). same_slot (slot_at 0 (Types a)) (slot_at 0 (Types x))) (sym same) ∙ e))

-- an import brought what stands under a name, if anything does
abbrev pub HasNoOwn : {D I : Type 0} → List (List ℕ × Item D I) → List ℕ → Type 0
HasNoOwn {D} {I} items name = (i : Item D I) → item_at items name ≡ Some i → i.import ≡ None → ⊥

-- ---- a push

module _ {D I : Type 0} (same_def : D → D → Bool) (same_import : I → I → Bool) (places : List Place) (here : Place) (items : List (List ℕ × Item D I)) where
  abbrev pub items_after : Option (Candidate D I) → List (List ℕ × Item D I)
  items_after c = written_items here.1 (taken same_def same_import items places here c) items

  written_other : (c : Option (Candidate D I)) (other : List ℕ) → other ≢ here.1 → item_at (written_items here.1 c items) other ≡ item_at items other
  written_other None other ne = refl
  written_other (Some c) other ne = item_at-with_entry_other items here.1 c.push.item other ne

  written_here : (c : Candidate D I) (b : Bool) (i : Item D I) → item_at (written_items here.1 (cond b (Some c) None) items) here.1 ≡ Some i
      → (c.push.item ≡ i) ⊎ (item_at items here.1 ≡ Some i)
  written_here c true i e =
      let known : Some c.push.item ≡ Some i = sym (item_at-with_entry items here.1 c.push.item) ∙ e in
      let same : c.push.item ≡ i = cc in
      inl same
  written_here c false i e = inr e

  -- what stands under a name is what was pushed to it, or stood there before
  stands_after : (c : Candidate D I) (name : List ℕ) (i : Item D I) → item_at (items_after (Some c)) name ≡ Some i
      → ((here.1 ≡ name) × (c.push.item ≡ i)) ⊎ (item_at items name ≡ Some i)
  stands_after c name i e = elim (one_or_other here.1 name) as (λ _. ((here.1 ≡ name) × (c.push.item ≡ i)) ⊎ (item_at items name ≡ Some i)) [
    | inl same ↦ at_name same
        (written_here c (takes_slot same_def same_import (has_place places here) (item_at items here.1) c.push) i
        (ap (item_at (items_after (Some c))) same ∙ e))
    | inr ne ↦ inr (sym (written_other (taken same_def same_import items places here (Some c)) name ne) ∙ e)
  ]
    where
      at_name : here.1 ≡ name → (c.push.item ≡ i) ⊎ (item_at items here.1 ≡ Some i) → ((here.1 ≡ name) × (c.push.item ≡ i)) ⊎ (item_at items name ≡ Some i)
      at_name same (inl is) = inl (same, is)
      at_name same (inr was) = inr (ap (item_at items) (sym same) ∙ was)

  -- where what is pushed carries an import, none comes without one
  pub none_pushed : (c : Candidate D I) → (c.push.item.import ≡ None → ⊥) → (name : List ℕ) → HasNoOwn items name → HasNoOwn (items_after (Some c)) name
  none_pushed c imported name vacant i e none = elim (stands_after c name i e) as (λ _. ⊥) [
    | inl now ↦ imported (ap (λ (x : Item D I). x.import) now.1 ∙ none)
    | inr was ↦ vacant i was none
  ]

-- ---- an item is written anew, and keeps its import

module _ {D I : Type 0} (new : Item D I → Item D I) (items : List (List ℕ × Item D I)) (name : List ℕ) where
  set_is_entry : (i : Item D I) → item_at items name ≡ Some i → rewritten new items name (Some i) ≡ with_entry (slice_cmp nat_cmp) items name (new i)
  set_is_entry i e =
      sym (ap (λ (b : Bool). cond b (set_value (is_at (slice_cmp nat_cmp name)) items (new i)) (insert_entry (slice_cmp nat_cmp) items name (new i)))
      (ap is_some e))

  anew_here : (i : Item D I) → item_at items name ≡ Some i → item_at (rewritten new items name (item_at items name)) name ≡ Some (new i)
  anew_here i e =
      ap (λ (o : Option (Item D I)). item_at (rewritten new items name o) name) e
      ∙ ap (λ (es : List (List ℕ × Item D I)). item_at es name) (set_is_entry i e)
      ∙ item_at-with_entry items name (new i)

  anew_other : (other : List ℕ) → other ≢ name → item_at (rewritten new items name (item_at items name)) other ≡ item_at items other
  anew_other other ne = go (item_at items name) refl
    where
      go : (o : Option (Item D I)) → item_at items name ≡ o → item_at (rewritten new items name o) other ≡ item_at items other
      go None e = refl
      go (Some i) e = ap (λ (es : List (List ℕ × Item D I)). item_at es other) (set_is_entry i e) ∙ item_at-with_entry_other items name (new i) other ne

  none_here : ((i : Item D I) → (new i).import ≡ i.import) → HasNoOwn items name → HasNoOwn (rewritten new items name (item_at items name)) name
  none_here keeps vacant i e none = go (item_at items name) refl
    where
      go : (o : Option (Item D I)) → item_at items name ≡ o → ⊥
      go None h =
          let missing : None ≡ Some i = sym (ap (λ (x : Option (Item D I)). item_at (rewritten new items name x) name) h ∙ h) ∙ e in
          let no : ⊥ = cc in
          no
      go (Some x) h =
          let known : Some (new x) ≡ Some i = sym (anew_here x h) ∙ e in
          let same : new x ≡ i = cc in
          vacant x h (sym (keeps x) ∙ ap (λ (y : Item D I). y.import) same ∙ none)

  pub none_anew : ((i : Item D I) → (new i).import ≡ i.import) → (other : List ℕ) → HasNoOwn items other
      → HasNoOwn (rewritten new items name (item_at items name)) other
  none_anew keeps other vacant i e none = elim (one_or_other name other) as (λ _. ⊥) [
    | inl same ↦
        let vacant_here : HasNoOwn items name = λ x f g. vacant x (ap (item_at items) (sym same) ∙ f) g in
        none_here keeps vacant_here i (ap (item_at (rewritten new items name (item_at items name))) same ∙ e) none
    | inr ne ↦ vacant i (sym (anew_other other ne) ∙ e) none
  ]

-- ---- what holds of each

module _ {D I : Type 0} (at : List ℕ → Key) (Own : List ℕ → Item D I → Type 0) where
  pub record IsOwnItem (brought : BroughtBy) (number : ℕ) (name : List ℕ) (i : Item D I) : Type 0 where
    pub unbrought : brought (slot_at number (at name)) ≡ None
    pub own : Own name i

  abbrev pub AreOwnItems : BroughtBy → ℕ → List (List ℕ × Item D I) → Type 0
  AreOwnItems brought number items = (name : List ℕ) (i : Item D I) → item_at items name ≡ Some i → i.import ≡ None → IsOwnItem brought number name i

  -- where globs brought nothing more
  pub own_unbrought : (brought brought' : BroughtBy) (number : ℕ) (items : List (List ℕ × Item D I))
      → ((name : List ℕ) → brought (slot_at number (at name)) ≡ None → brought' (slot_at number (at name)) ≡ None) → AreOwnItems brought number items
      → AreOwnItems brought' number items
  own_unbrought brought brought' number items keeps f name i e none =
      let before : IsOwnItem brought number name i = f name i e none in
      record { unbrought = keeps name before.unbrought; own = before.own }

  -- a glob is noted as what brought something else
  pub own_noted : (brought : BroughtBy) (now : Brought) (number home : ℕ) (key : Key) (items : List (List ℕ × Item D I))
      → ((name : List ℕ) → slot_at home key ≡ slot_at number (at name) → HasNoOwn items name) → AreOwnItems brought number items
      → AreOwnItems (with_brought brought (slot_at home key) (Some now)) number items
  own_noted brought now number home key items apart f name i e none =
      let before : IsOwnItem brought number name i = f name i e none in
      record { unbrought = go (same_slot (slot_at home key) (slot_at number (at name))) refl before.unbrought; own = before.own }
    where
      go : (t : Bool) → same_slot (slot_at home key) (slot_at number (at name)) ≡ t → brought (slot_at number (at name)) ≡ None
          → (if t then Some now else brought (slot_at number (at name))) ≡ None
      go true s g = absurd (apart name (exact_slot (slot_at home key) (slot_at number (at name)) s) i e none)
      go false s g = g

  -- where what is pushed without an import is such an item
  pub own_pushed : (same_def : D → D → Bool) (same_import : I → I → Bool) (places : List Place) (here : Place) (brought : BroughtBy) (number : ℕ)
      (items : List (List ℕ × Item D I))
      → (c : Candidate D I) → (c.push.item.import ≡ None → IsOwnItem brought number here.1 c.push.item) → AreOwnItems brought number items
      → AreOwnItems brought number (items_after same_def same_import places here items (Some c))
  own_pushed same_def same_import places here brought number items c fine f name i e none =
      elim (stands_after same_def same_import places here items c name i e) as (λ _. IsOwnItem brought number name i) [
        | inl now ↦
            let pushed : IsOwnItem brought number here.1 c.push.item = fine (ap (λ (x : Item D I). x.import) now.1 ∙ none) in
            subst (λ (n : List ℕ). IsOwnItem brought number n i) now.0 (subst (λ (x : Item D I). IsOwnItem brought number here.1 x) now.1 pushed)
        | inr was ↦ f name i was none
      ]

  -- where an item that an import brought is written anew
  pub own_anew : (new : Item D I → Item D I) → ((i : Item D I) → (new i).import ≡ i.import)
      → (items : List (List ℕ × Item D I)) (name : List ℕ) (brought : BroughtBy) (number : ℕ)
      → HasNoOwn items name → AreOwnItems brought number items → AreOwnItems brought number (rewritten new items name (item_at items name))
  own_anew new keeps items name brought number vacant f other i e none = elim (one_or_other name other) as (λ _. IsOwnItem brought number other i) [
    | inl same ↦ absurd (none_here new items name keeps vacant i (ap (item_at (rewritten new items name (item_at items name))) same ∙ e) none)
    | inr ne ↦ f other i (sym (anew_other new items name other ne) ∙ e) none
  ]
