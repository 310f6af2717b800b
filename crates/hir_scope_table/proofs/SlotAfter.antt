-- What is bound in a slot after a push.
use Rattle.std.proofs.Common.{◌≡◌, refl, sym, Bool, true, false, not, ◌&&◌, ◌||◌, Option, None, Some, cond}
use mathlib.Core.Bool.{true≢false}
use Rattle.std.specs.Option.{is_some}
use Rattle.hir_scope_table.specs.Types.{Candidate, Item}
use Rattle.hir_scope_item.specs.Bindings.{Slot, first_of, is_reresolved_by, slot_after, takes}
use Rattle.hir_scope_table.specs.Table.{slot_after_candidate}

module _ {D V I : Type 0} (same_def : D → D → Bool) (same_import : I → I → Bool) where
  either_some : (b : Bool) (x y : Item D V I) → is_some (cond b (Some x) (Some y)) ≡ true
  either_some true x y = refl
  either_some false x y = refl

  -- what is bound stays bound
  pub slot_after-bound : (bound push : Option (Item D V I)) → is_some bound ≡ true → is_some (slot_after same_def same_import bound push) ≡ true
  slot_after-bound None push h = absurd (true≢false (sym h))
  slot_after-bound (Some b) None h = refl
  slot_after-bound (Some b) (Some p) h = either_some (is_reresolved_by same_def same_import b p) p b

  -- and so is what is pushed
  pub slot_after-pushed : (bound push : Option (Item D V I)) → is_some push ≡ true → is_some (slot_after same_def same_import bound push) ≡ true
  slot_after-pushed bound None h = absurd (true≢false (sym h))
  slot_after-pushed None (Some p) h = refl
  slot_after-pushed (Some b) (Some p) h = either_some (is_reresolved_by same_def same_import b p) p b

  written_or_left : (b : Bool) (x : Item D V I) (slot : Slot D V I) (globbed : Bool) → is_some slot.bound ≡ true
      → is_some (cond {A = Slot D V I} b (record { bound = Some x; globbed = globbed }) slot).bound ≡ true
  written_or_left true x slot globbed h = refl
  written_or_left false x slot globbed h = h

  module _ {T : Type 0} where
    -- the same, where globs push too
    pub slot_after_candidate-bound : (candidate : Option (Candidate D V I T)) (slot : Slot D V I) → is_some slot.bound ≡ true
        → is_some (slot_after_candidate same_def same_import candidate slot).bound ≡ true
    slot_after_candidate-bound None slot h = h
    slot_after_candidate-bound (Some c) slot h = written_or_left (takes same_def same_import slot.globbed slot.bound c.push) c.push.item slot c.push.is_glob h

    pub slot_after_candidate-pushed : (candidate : Option (Candidate D V I T)) (slot : Slot D V I) → is_some candidate ≡ true
        → is_some (slot_after_candidate same_def same_import candidate slot).bound ≡ true
    slot_after_candidate-pushed None slot h = absurd (true≢false (sym h))
    slot_after_candidate-pushed (Some c) slot h = go slot.bound
      where
        go : (o : Option (Item D V I))
            → is_some (slot_after_candidate same_def same_import (Some c) (record { bound = o; globbed = slot.globbed })).bound ≡ true
        go None = refl
        go (Some b) =
            written_or_left (takes same_def same_import slot.globbed (Some b) c.push) c.push.item (record { bound = Some b; globbed = slot.globbed })
            c.push.is_glob refl

    -- a glob's push binds what wasn't bound, whatever globs have brought
    pub slot_after_candidate-glob : (candidate : Candidate D V I T) (slot : Slot D V I) → candidate.push.is_glob ≡ true
        → (slot_after_candidate same_def same_import (Some candidate) slot).bound ≡ first_of slot.bound (Some candidate.push.item)
    slot_after_candidate-glob candidate slot globs = go slot.bound
      where
        stays : (is_glob rest : Bool) (b : Item D V I) → is_glob ≡ true
            → (cond {A = Slot D V I} (not is_glob && rest) (record { bound = Some candidate.push.item; globbed = candidate.push.is_glob })
            (record { bound = Some b; globbed = slot.globbed })).bound ≡ Some b
        stays true rest b e = refl
        stays false rest b e = absurd (true≢false (sym e))

        go : (o : Option (Item D V I))
            → (slot_after_candidate same_def same_import (Some candidate) (record { bound = o; globbed = slot.globbed })).bound
            ≡ first_of o (Some candidate.push.item)
        go None = refl
        go (Some b) = stays candidate.push.is_glob (slot.globbed || is_reresolved_by same_def same_import b candidate.push.item) b globs
