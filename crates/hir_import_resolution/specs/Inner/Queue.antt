-- What is queued, and what is settled?
use Rattle.std.specs.Prelude.{◌≡◌, ℕ, ◌<◌, ◌≤◌, Bool, true, false, List, [], ◌++◌, Option, None, Some, length, slice_get, cond}
use Rattle.std.specs.declared.cmp.Ordering.{Ordering}
use Rattle.hir_def_map_rules.specs.Overlay.{Maps}
use Rattle.hir_def_map_rules.specs.Reaches.{by_import}
use Rattle.hir_nameres.specs.Scoping.Slots.{reads}
use Rattle.hir_def_map_rules.specs.State.{numbered}
use Rattle.hir_nameres.specs.declared.nameres.path_resolution.slots.Slot.{Slot as PathSlot}
use Rattle.hir_nameres.specs.contracts.nameres.path_resolution.slots.SlotOrd.TheImpl as slot_order
use Rattle.hir_def_map_laws.specs.SlotChanges.{ScopesChangeAmong}
use Rattle.hir_glob_imports.specs.declared.step.TheConstants.{MAX_STEPS}
use Rattle.hir_worklist.specs.Queue.{IsIdle, Queue, count_of, is_unfinished}
use Rattle.hir_worklist.specs.Settling.{AreSettled, WatchesEach}
use Rattle.hir_worklist.specs.Waking as waking
use Rattle.hir_worklist.specs.Waking.{IsSamePass}
use Rattle.hir_worklist.specs.declared.watchers.Watchers.{Watchers}
use Rattle.hir_import_rules.specs.declared.directive.ImportDirective.{ImportDirective}
use Rattle.hir_import_rules.specs.declared.directive.ImportSource.{ImportSource}
use Rattle.hir_import_rules.specs.declared.directive.ImportSource.TheVariants as sources
use Rattle.hir_import_resolution.specs.declared.resolver.Resolver.{Resolver}
use Rattle.hir_import_resolution.specs.Inner.State.{AreRecorded, IsApart, IsKeptIn, finished_by, state_by}
use Rattle.hir_import_rules.specs.Lasting.{IsFirm, Lasts}
use Rattle.hir_import_rules.specs.Rest.{IsSettled}
use Rattle.hir_import_rules.specs.State.{ImportState}

-- ---- what an import reads

abbrev pub path_reads : Maps → ImportState → ImportDirective → ImportSource → List PathSlot
path_reads finished s r (sources.Use id kind) = reads finished (by_import s.local) s.map (numbered s.map.id r.home) r.path
path_reads finished s r (sources.ExternCrate id krate) = []

abbrev pub reads_by : Maps → ImportState → Option ImportDirective → List PathSlot
reads_by finished s None = []
reads_by finished s (Some r) = path_reads finished s r r.source

-- the slots that the path of the import at a place reads, where what it reads is watched
abbrev pub reads_at : Bool → Maps → ImportState → ℕ → List PathSlot
reads_at apart finished s i = cond apart (reads_by finished s (slice_get s.imports i)) []

abbrev pub slot_cmp : PathSlot → PathSlot → Ordering
slot_cmp = slot_order.ghosts.cmp

-- what an import's path means stays as modules and enums come; an `extern crate` has none
abbrev pub IsFirmBy : Maps → ImportState → ImportDirective → ImportSource → Type 0
IsFirmBy finished s r (sources.Use id kind) = IsFirm finished s r (path_reads finished s r (sources.Use id kind))
IsFirmBy finished s r (sources.ExternCrate id krate) = Unit {0}

-- the import at the place is settled, and stays so as modules and enums come, where that is to last
pub record IsSettledFor (lasting : Bool) (finished : Maps) (s : ImportState) (i : ℕ) : Type 0 where
  pub settled : IsSettled finished s i
  pub firm : lasting ≡ true → (r : ImportDirective) → slice_get s.imports i ≡ Some r → IsFirmBy finished s r r.source

-- each import that is idle, but one that is tried, is settled and watches what it reads
abbrev pub AreIdleSettled : Bool → Bool → Maps → ImportState → Option ℕ → Queue → Watchers PathSlot → Type 0
AreIdleSettled lasting apart finished s tried q watchers = AreSettled slot_cmp (reads_at apart finished s) (IsSettledFor lasting finished s) tried q watchers

-- ---- what watches slots, and what is queued where they change

-- what watched a slot watches it still
abbrev pub KeepsWatched : Watchers PathSlot → Watchers PathSlot → Type 0
KeepsWatched = waking.KeepsWatched slot_cmp

-- what watches each of these slots is queued, one slot after another, and watches it no more
abbrev pub WakesEach : Queue → Watchers PathSlot → Queue → Watchers PathSlot → List PathSlot → Type 0
WakesEach = waking.WakesEach slot_cmp

-- of these slots what watches them is queued; where nothing is watched, all is queued
pub record IsWoken (apart : Bool) (slots : List PathSlot) (q : Queue) (watchers : Watchers PathSlot) (r : Queue) (after : Watchers PathSlot) : Type 0 where
  pub watching : apart ≡ true → WakesEach r after q watchers slots
  pub all : apart ≡ false → (p : ℕ) → ¬ IsIdle r p
  pub pass : IsSamePass q r

-- ---- the resolver

-- what holds of a resolver between two calls, where this import is tried
pub record IsBegun (r : Resolver) (tried : Option ℕ) : Type 0 where
  pub settled : AreIdleSettled r.lasting r.apart (finished_by r) (state_by r) tried r.worklist r.watchers
  -- no import is finished, and there is nothing besides
  pub unfinished : (p : ℕ) → p < length r.imports.items → is_unfinished r.worklist p ≡ true
  pub count : count_of r.worklist ≡ length r.imports.items
  pub there : (p : ℕ) (import : ImportDirective) → slice_get r.imports.items p ≡ Some import → import.home < length r.scopes.map.modules
  pub apart : r.apart ≡ true → IsApart (finished_by r) r.scopes.map.id r.local
  pub kept : IsKeptIn r
  pub recorded : AreRecorded r
  pub lasts : r.lasting ≡ true → Lasts (finished_by r) (state_by r)
  pub watches : r.lasting ≡ true → r.apart ≡ true
  pub fresh : r.changes.items ≡ []
  pub small : r.count ≤ MAX_STEPS

-- and nothing is to be looked at along globs
pub record IsRunning (r : Resolver) (tried : Option ℕ) : Type 0 where
  pub begun : IsBegun r tried
  pub waved : r.globs.pending ≡ []

-- the import at the place is tried, and watches what it reads
pub record IsTrying (r : Resolver) (i : ℕ) : Type 0 where
  pub running : IsRunning r (Some i)
  pub watching : WatchesEach slot_cmp r.watchers i (reads_at r.apart (finished_by r) (state_by r) i)
  pub firm : r.lasting ≡ true → (d : ImportDirective) → slice_get r.imports.items i ≡ Some d → IsFirmBy (finished_by r) (state_by r) d d.source

-- ---- what is reported

-- the slots that have changed are reported behind those that were
pub record Reports (old new : Resolver) : Type 0 where
  pub more : List PathSlot
  pub listed : new.reported.items ≡ old.reported.items ++ more
  pub among : ScopesChangeAmong old.scopes.map new.scopes.map old.local more
  pub local : new.local ≡ old.local
