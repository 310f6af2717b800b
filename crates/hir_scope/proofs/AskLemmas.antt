-- What one name more adds to asking about names, and about which names an item is asked.
use Rattle.std.specs.Prelude.{◌≡◌, refl, ℕ, Bool, true, false, not, is_some, List, ◌∷◌, Option, None, cond}
use Rattle.std.proofs.Common.{sym, ap, ◌∙◌, subst}
use Rattle.std.specs.Borrow.{Bor}
use Rattle.hir_ids.specs.declared.macro_kind.MacroId.{MacroId}
use Rattle.hir_ids.specs.declared.ids.ModuleDefId.{ModuleDefId}
use Rattle.hir_ids.specs.contracts.ids.ModuleDefIdPartialEq.TheImpl as module_def
use Rattle.hir_ids.specs.contracts.macro_kind.MacroIdPartialEq.TheImpl as makro
use Rattle.hir_scope.specs.Types.{ImportOrExternCrate, ImportOrGlob, ItemInNs, Visibility}
use Rattle.hir_per_ns.specs.declared.item_in_ns.ItemInNs.TheVariants.{Types, Values, Macros}
use Rattle.hir_per_ns.specs.PerNs.{Item}
use Rattle.hir_scope.specs.Scope.Reads.{AsksInOrder, names_with, names_of_item}
use Rattle.hir_scope.specs.Scope.{ScopeValue}

-- a negation, from the other side
pub other_side : (a b : Bool) → a ≡ not b → b ≡ not a
other_side true true e = e
other_side true false e = refl
other_side false true e = refl
other_side false false e = e

module _ {F T : Type 0} (steps : F → Bor (List ℕ) → Visibility → Bool → Option T → F → Type 0) where
  -- a name that had no answer comes before the others
  pub unanswered : {D I : Type 0} (same : D → D → Bool) (def : D) (f g : F) (entry : List ℕ × Item D I) (entries all : List (List ℕ × Item D I))
      (lent : Bor (List ℕ)) (explicit : Bool) (answer outcome : Option T)
      → all ≡ entry ∷ entries → same entry.1.def def ≡ true → lent.now ≡ entry.0 → explicit ≡ not (is_some entry.1.import) → answer ≡ None
      → steps f lent entry.1.vis explicit answer g
      → AsksInOrder steps g (names_with same def entries) outcome → AsksInOrder steps f (names_with same def all) outcome
  unanswered same def f g entry entries all lent explicit answer outcome first bound named imported none stepped asks =
      subst (λ names. AsksInOrder steps f names outcome)
      (sym (ap (names_with same def) first ∙ ap (λ b. cond b ((entry.0, entry.1.vis, not (is_some entry.1.import)) ∷ names_with same def entries)
      (names_with same def entries)) bound))
      (None, g, lent, named, subst (λ b. steps f lent entry.1.vis b None g) imported (subst (λ a. steps f lent entry.1.vis explicit a g) none stepped), asks)

  pub asked_types : (f : F) (scope : ScopeValue) (id : ModuleDefId) (item : ItemInNs) (entries : List (List ℕ × Item ModuleDefId ImportOrExternCrate))
      (outcome : Option T)
      → item ≡ Types id → entries ≡ scope.types → AsksInOrder steps f (names_with module_def.ghosts.eq id entries) outcome
      → AsksInOrder steps f (names_of_item scope item) outcome
  asked_types f scope id item entries outcome is all asks =
      subst (λ i. AsksInOrder steps f (names_of_item scope i) outcome) (sym is)
      (subst (λ es. AsksInOrder steps f (names_with module_def.ghosts.eq id es) outcome) all asks)

  pub asked_values : (f : F) (scope : ScopeValue) (id : ModuleDefId) (item : ItemInNs) (entries : List (List ℕ × Item ModuleDefId ImportOrGlob))
      (outcome : Option T)
      → item ≡ Values id → entries ≡ scope.values → AsksInOrder steps f (names_with module_def.ghosts.eq id entries) outcome
      → AsksInOrder steps f (names_of_item scope item) outcome
  asked_values f scope id item entries outcome is all asks =
      subst (λ i. AsksInOrder steps f (names_of_item scope i) outcome) (sym is)
      (subst (λ es. AsksInOrder steps f (names_with module_def.ghosts.eq id es) outcome) all asks)

  pub asked_macros : (f : F) (scope : ScopeValue) (id : MacroId) (item : ItemInNs) (entries : List (List ℕ × Item MacroId ImportOrExternCrate))
      (outcome : Option T)
      → item ≡ Macros id → entries ≡ scope.macros → AsksInOrder steps f (names_with makro.ghosts.eq id entries) outcome
      → AsksInOrder steps f (names_of_item scope item) outcome
  asked_macros f scope id item entries outcome is all asks =
      subst (λ i. AsksInOrder steps f (names_of_item scope i) outcome) (sym is) (subst (λ es. AsksInOrder steps f (names_with makro.ghosts.eq id es) outcome)
      all asks)
