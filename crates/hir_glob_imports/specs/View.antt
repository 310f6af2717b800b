-- How are the names of modules read, and what do writes leave?
use Rattle.std.specs.Prelude.{◌≡◌, ℕ, Bool, true, false, Option, None, Some}
use Rattle.hir_scope.specs.HirPerNs.declared.imports.GlobId.{GlobId}
use Rattle.hir_scope.specs.HirPerNs.declared.visibility.Visibility.{Visibility}
use Rattle.hir_glob_imports.specs.declared.edge.Bound.{Bound}
use Rattle.hir_glob_imports.specs.declared.edge.Key.{Key}
use Rattle.hir_glob_imports.specs.declared.edge.Slot.{Slot}
use Rattle.hir_glob_imports.specs.declared.edge.Target.{Target}
use Rattle.hir_glob_imports.specs.declared.edge.Target.TheVariants.{Own}
use Rattle.hir_glob_imports.specs.Keys.{is_slot}

-- what globs read: the map that is being built, and what its paths reach
pub record View : Type 0 where
  -- whether the map has a module of this number
  pub has : ℕ → Bool
  -- what stands at a key of a target
  pub bound : Target → Key → Option Bound
  -- whether a module of the map may see
  pub sees : ℕ → Visibility → Bool
  -- the lesser of a glob's visibility and a source's, and the glob's where they are unrelated
  pub lesser : Visibility → Visibility → Visibility
  -- the greater of two visibilities, where one is
  pub greater : Visibility → Visibility → Option Visibility

-- what stands in a slot
abbrev pub bound_in : View → Slot → Option Bound
bound_in v s = v.bound (Own s.at) s.key

-- names of modules that globs write, and what each write leaves
pub record NameTable (S : Type 0) : Type 0 where
  pub view : S → View
  -- a vacant slot takes what a target has at its key, under a visibility, by a glob
  pub copied : S → Slot → Target → Visibility → GlobId → S
  -- a slot takes the definition that a target has at its key, and a visibility
  pub followed : S → Slot → Target → Visibility → S
  -- a slot takes another visibility
  pub raised : S → Slot → Visibility → S

-- nothing but what stands in a slot changes
pub record ChangesOnly (s : Slot) (old new : View) : Type 0 where
  pub bound : (of : Target) (key : Key) → is_slot s of key ≡ false → new.bound of key ≡ old.bound of key
  pub has : (at : ℕ) → new.has at ≡ old.has at
  pub sees : (at : ℕ) (vis : Visibility) → new.sees at vis ≡ old.sees at vis
  pub lesser : (glob source : Visibility) → new.lesser glob source ≡ old.lesser glob source
  pub greater : (one other : Visibility) → new.greater one other ≡ old.greater one other

-- a slot takes a binding, and nothing else changes
pub record Binds (s : Slot) (b : Bound) (old new : View) : Type 0 where
  pub changes : ChangesOnly s old new
  pub bound : bound_in new s ≡ Some b

abbrev pub with_vis : Bound → Visibility → Bound
with_vis b vis = record { def = b.def; vis = vis }

-- each write does what it says
pub record IsNameTable {S : Type 0} (t : NameTable S) : Type 0 where
  pub copies : (n : S) (s : Slot) (of : Target) (b : Bound) (vis : Visibility) (by : GlobId)
      → (t.view n).has s.at ≡ true → bound_in (t.view n) s ≡ None → (t.view n).bound of s.key ≡ Some b
      → Binds s (with_vis b vis) (t.view n) (t.view (t.copied n s of vis by))
  pub follows : (n : S) (s : Slot) (of : Target) (b c : Bound) (vis : Visibility)
      → bound_in (t.view n) s ≡ Some c → (t.view n).bound of s.key ≡ Some b
      → Binds s (with_vis b vis) (t.view n) (t.view (t.followed n s of vis))
  pub raises : (n : S) (s : Slot) (c : Bound) (vis : Visibility) → bound_in (t.view n) s ≡ Some c
      → Binds s (with_vis c vis) (t.view n) (t.view (t.raised n s vis))
