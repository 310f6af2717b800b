-- What may happen to imports between two times that they rest?
use Rattle.std.specs.Prelude.{◌≡◌, ℕ, ◌<◌, ◌≤◌, Bool, true, List, [], None, Some, Contains, length, slice_get}
use Rattle.hir_def_map_rules.specs.Overlay.{Maps}
use Rattle.hir_nameres.specs.declared.nameres.path_resolution.slots.Slot.{Slot as PathSlot}
use Rattle.hir_def_map_laws.specs.ReadLaw.{AgreeAt, Grows}
use Rattle.hir_glob_imports.specs.Waves.{GlobsValue, update_at}
use Rattle.hir_glob_imports.specs.declared.edge.Edge.{Edge}
use Rattle.hir_glob_imports.specs.declared.edge.Key.{Key}
use Rattle.hir_glob_imports.specs.declared.edge.Update.TheVariants.{Nothing}
use Rattle.hir_worklist.specs.Queue.{count_of, is_unfinished}
use Rattle.hir_import_rules.specs.declared.directive.ImportDirective.{ImportDirective}
use Rattle.hir_import_resolution.specs.declared.import_queue.ImportQueue.{ImportQueue}
use Rattle.hir_import_resolution.specs.Inner.Queue.{AreIdleSettled}
use Rattle.hir_import_resolution.specs.Inner.State.{IsApart}
use Rattle.hir_import_rules.specs.Lasting.{IsThere, Lasts}
use Rattle.hir_import_rules.specs.Names.{view_of}
use Rattle.hir_import_rules.specs.Rest.{BroughtStands}
use Rattle.hir_import_rules.specs.State.{ImportState, scopes_of}
use Rattle.hir_import_growth.specs.Growth.{GlobsLast, HaveGlobs}

-- ---- what is queued

-- whether finished maps don't refer to the map of the imports, so that what they read is watched
abbrev pub is_apart : ImportQueue → Bool
is_apart queue = queue.apart

-- whether what was found out of imports and globs lasts as the map grows
abbrev pub is_lasting : ImportQueue → Bool
is_lasting queue = queue.lasting

-- a queue has the imports that there are, and one that isn't queued would do nothing if it were tried, and watches what it reads
pub record AreQueued (finished : Maps) (queue : ImportQueue) (s : ImportState) : Type 0 where
  pub settled : AreIdleSettled queue.lasting queue.apart finished s None queue.worklist queue.watchers
  -- it has the imports, and none is finished
  pub count : count_of queue.worklist ≡ length s.imports
  pub unfinished : (p : ℕ) → p < length s.imports → is_unfinished queue.worklist p ≡ true
  pub there : (p : ℕ) (d : ImportDirective) → slice_get s.imports p ≡ Some d → d.home < length s.map.modules
  -- no pass is under way
  pub over : queue.worklist.current ≡ []
  pub outside : queue.worklist.end ≡ 0

-- a queue is up to date with where imports stand: along no glob anything is to be done either
pub record IsUpToDate (finished : Maps) (queue : ImportQueue) (s : ImportState) : Type 0 where
  pub queued : AreQueued finished queue s
  pub still : (j : ℕ) (e : Edge) (key : Key) → slice_get s.edges j ≡ Some e → update_at (view_of (scopes_of finished s)) s.brought j e key ≡ Nothing
  pub importers : (j : ℕ) (e : Edge) → slice_get s.edges j ≡ Some e → e.importer < length s.map.modules
  pub lasts : queue.lasting ≡ true → Lasts finished s
  pub watches : queue.lasting ≡ true → queue.apart ≡ true

-- ---- what may have changed since

-- the map and its crates grew, and what they hold differs in these slots alone; the imports that there were stand where they stood, and others may have come behind them
pub record Grew (old new : ImportState) (slots : List PathSlot) : Type 0 where
  pub grows : Grows old.map new.map
  pub modules : length old.map.modules ≤ length new.map.modules
  pub others : (slot : PathSlot) → ¬ Contains slots slot → IsThere (length old.map.modules) slot → AgreeAt old.map old.local new.map new.local slot
  pub imports : (i : ℕ) → i < length old.imports → slice_get new.imports i ≡ slice_get old.imports i
  pub taken : (i : ℕ) → i < length old.imports → slice_get new.taken i ≡ slice_get old.taken i

-- a queue was up to date, and what changed since differs in these slots alone
pub record IsResumable (finished : Maps) (queue : ImportQueue) (now : ImportState) (slots : List PathSlot) : Type 0 where
  pub before : ImportState
  pub up_to_date : IsUpToDate finished queue before
  pub grew : Grew before now slots
  pub apart : is_apart queue ≡ true → IsApart finished before.map.id before.local
  pub apart_now : is_apart queue ≡ true → IsApart finished now.map.id now.local

-- ---- globs

-- where imports rest, globs last if what was found out does
abbrev pub RestingGlobsLast : Type 0
RestingGlobsLast =
    (finished : Maps) (queue : ImportQueue) (s : ImportState) (g : GlobsValue) → IsUpToDate finished queue s → is_lasting queue ≡ true
    → BroughtStands finished s → HaveGlobs s g
    → GlobsLast finished s g
