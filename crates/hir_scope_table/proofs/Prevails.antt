-- Pushes that come one after another leave what prevails among them.
use Rattle.std.proofs.Common.{◌≡◌, ◌∙◌, ap, sym, refl, Bool, true, false, not, ◌&&◌, ◌||◌, List, [], ◌∷◌, ◌++◌, Option, None, Some, cond, filter, fold}
use mathlib.Core.Bool.{true≢false}
use Rattle.std.specs.Cmp.{IsEquivalence}
use Rattle.std.proofs.lemmas.List.Sums.{fold-append}
use Rattle.hir_scope_table.specs.Types.{Candidate, Item, Push}
use Rattle.hir_scope_item.specs.Bindings.{first_of}
use Rattle.hir_scope_item.specs.Bindings.{is_same_import, Slot, slot_after_push, history_of, from_explicit, is_by_import, run_starts, last_or}
use Rattle.hir_scope_item.specs.Bindings.{explicit_binding, prevailing}
use Rattle.hir_scope_table.specs.Table.{slot_after_candidate, pushes_of}

module _ {I : Type 0} (same_import : I → I → Bool) (imports : IsEquivalence same_import) where
  -- equal imports are equal to the same imports
  alike : (a b : Option I) → is_same_import same_import a b ≡ true → (x : Option I) → is_same_import same_import b x ≡ is_same_import same_import a x
  alike None b h x = absurd (true≢false (sym h))
  alike (Some a) None h x = absurd (true≢false (sym h))
  alike (Some a) (Some b) h None = refl
  alike (Some a) (Some b) h (Some c) = sym (imports.congr a b c h)

module _ {D V I : Type 0} (same_def : D → D → Bool) (same_import : I → I → Bool) (defs : IsEquivalence same_def) (imports : IsEquivalence same_import) where
  -- once an explicit push stands, the pushes of its import alone count, and of these those whose definition differs from the one before
  explicit_stands : (ps : List (Push D V I)) (b before : Item D V I) (import : Option I)
      → ((x : Option I) → is_same_import same_import b.import x ≡ is_same_import same_import import x)
      → ((d : D) → same_def b.def d ≡ same_def before.def d)
      → (fold (slot_after_push same_def same_import) (record { bound = Some b; globbed = false }) ps).bound
      ≡ Some (last_or b (run_starts same_def before (filter (is_by_import same_import import) ps)))
  explicit_stands [] b before import like same = refl
  explicit_stands (p ∷ ps) b before import like same =
      go (λ c d i l s. explicit_stands ps c d i l s) p.is_glob (is_same_import same_import import p.item.import) (same_def before.def p.item.def) refl refl refl
    where
      go : ((c d : Item D V I) (i : Option I)
          → ((x : Option I) → is_same_import same_import c.import x ≡ is_same_import same_import i x)
          → ((e : D) → same_def c.def e ≡ same_def d.def e)
          → (fold (slot_after_push same_def same_import) (record { bound = Some c; globbed = false }) ps).bound
          ≡ Some (last_or c (run_starts same_def d (filter (is_by_import same_import i) ps))))
          → (g s e : Bool) → p.is_glob ≡ g → is_same_import same_import import p.item.import ≡ s → same_def before.def p.item.def ≡ e
          → (fold (slot_after_push same_def same_import)
          (cond (not p.is_glob && (false || (is_same_import same_import b.import p.item.import && not (same_def b.def p.item.def))))
          (record { bound = Some p.item; globbed = p.is_glob }) (record { bound = Some b; globbed = false })) ps).bound
          ≡ Some (last_or b (run_starts same_def before
          (cond (not p.is_glob && is_same_import same_import import p.item.import) (p ∷ filter (is_by_import same_import import) ps)
          (filter (is_by_import same_import import) ps))))
      go rest true s e gs ss es = rw gs (rest b before import like same)
      go rest false false e gs ss es =
          let other : is_same_import same_import b.import p.item.import ≡ false = like p.item.import ∙ ss in
          rw (gs, ss, other) (rest b before import like same)
      go rest false true true gs ss es =
          let other : is_same_import same_import b.import p.item.import ≡ true = like p.item.import ∙ ss in
          let kept : same_def b.def p.item.def ≡ true = same p.item.def ∙ es in
          rw (gs, ss, other, kept, es) (rest b p.item import like (λ d. defs.congr b.def p.item.def d kept))
      go rest false true false gs ss es =
          let other : is_same_import same_import b.import p.item.import ≡ true = like p.item.import ∙ ss in
          let differs : same_def b.def p.item.def ≡ false = same p.item.def ∙ es in
          rw (gs, ss, other, differs, es) (rest p.item p.item import (alike same_import imports import p.item.import ss) (λ d. refl))

  -- what a glob brought stays until an explicit push
  glob_stands : (ps : List (Push D V I)) (b : Item D V I)
      → (fold (slot_after_push same_def same_import) (record { bound = Some b; globbed = true }) ps).bound
      ≡ first_of (explicit_binding same_def same_import (from_explicit ps)) (Some b)
  glob_stands [] b = refl
  glob_stands (p ∷ ps) b = go (glob_stands ps b) p.is_glob refl
    where
      go : ((fold (slot_after_push same_def same_import) (record { bound = Some b; globbed = true }) ps).bound
          ≡ first_of (explicit_binding same_def same_import (from_explicit ps)) (Some b))
          → (g : Bool) → p.is_glob ≡ g
          → (fold (slot_after_push same_def same_import) (record { bound = Some b; globbed = true }) (p ∷ ps)).bound
          ≡ first_of (explicit_binding same_def same_import (from_explicit (p ∷ ps))) (Some b)
      go rest true gs = rw gs rest
      go rest false gs = rw gs (explicit_stands ps p.item p.item p.item.import (λ x. refl) (λ d. refl))

  -- an empty slot takes the first push
  first_stands : (ps : List (Push D V I)) (globbed : Bool)
      → (fold (slot_after_push same_def same_import) (record { bound = None; globbed = globbed }) ps).bound ≡ prevailing same_def same_import ps
  first_stands [] globbed = refl
  first_stands (p ∷ ps) globbed = go p.is_glob refl
    where
      go : (g : Bool) → p.is_glob ≡ g
          → (fold (slot_after_push same_def same_import) (record { bound = None; globbed = globbed }) (p ∷ ps)).bound ≡ prevailing same_def same_import (p ∷ ps)
      go true gs = rw gs (glob_stands ps p.item)
      go false gs = rw gs (explicit_stands ps p.item p.item p.item.import (λ x. refl) (λ d. refl))

  -- so a slot holds what prevails among what stood there and the pushes since
  pub what_prevails : (slot : Slot D V I) (ps : List (Push D V I))
      → (fold (slot_after_push same_def same_import) slot ps).bound ≡ prevailing same_def same_import (history_of slot ++ ps)
  what_prevails slot ps = go slot.bound slot.globbed
    where
      go : (b : Option (Item D V I)) (g : Bool)
          → (fold (slot_after_push same_def same_import) (record { bound = b; globbed = g }) ps).bound
          ≡ prevailing same_def same_import (history_of (record { bound = b; globbed = g }) ++ ps)
      go None g = first_stands ps g
      go (Some b) true = glob_stands ps b
      go (Some b) false = explicit_stands ps b b b.import (λ x. refl) (λ d. refl)

  -- a candidate is a push, or none
  candidate_folds : {T : Type 0} (candidate : Option (Candidate D V I T)) (slot : Slot D V I)
      → slot_after_candidate same_def same_import candidate slot ≡ fold (slot_after_push same_def same_import) slot (pushes_of candidate)
  candidate_folds None slot = refl
  candidate_folds (Some o) slot = refl

  -- and a slot that takes a candidate holds what prevails among what stood there, the pushes since and the candidateed one
  pub candidate_prevails : {T : Type 0} (candidate : Option (Candidate D V I T)) (old new : Slot D V I) → new ≡ slot_after_candidate same_def same_import
      candidate old
      → (cut : Slot D V I) (ps : List (Push D V I)) → old ≡ fold (slot_after_push same_def same_import) cut ps
      → new.bound ≡ prevailing same_def same_import (history_of cut ++ (ps ++ pushes_of candidate))
  candidate_prevails candidate old new made cut ps pushed =
      let joined : new ≡ fold (slot_after_push same_def same_import) cut (ps ++ pushes_of candidate) =
      made ∙ (ap (slot_after_candidate same_def same_import candidate) pushed
      ∙ (candidate_folds candidate (fold (slot_after_push same_def same_import) cut ps)
      ∙ sym (fold-append (slot_after_push same_def same_import) cut ps (pushes_of candidate)))) in
      ap (λ (s : Slot D V I). s.bound) joined ∙ what_prevails cut (ps ++ pushes_of candidate)
