-- Which calls and imports wait in queues, and when is it in vain to try them?
use Rattle.std.specs.Prelude.{◌≡◌, ◌≢◌, ℕ, ◌<◌, ◌≤◌, true, false, Contains, [], ◌∷◌, List, Option, None, Some, length, option_map}
use Rattle.hir_collector_state.specs.HirIds.declared.ast_id.AstId.{AstId}
use Rattle.hir_collector_state.specs.HirDefMapRules.Overlay.{Maps}
use Rattle.hir_collector_state.specs.HirNameres.declared.nameres.path_resolution.slots.Slot.{Slot as PathSlot}
use Rattle.hir_collector_state.specs.HirDefMapLaws.ReadLaw.{BeginsOutside}
use Rattle.hir_collector_state.specs.HirGlobImports.Keys.{name_of}
use Rattle.hir_collector_state.specs.HirGlobImports.declared.edge.Slot.{Slot as GlobSlot}
use Rattle.hir_worklist.specs.Queue.{IsIdle, count_of, is_unfinished}
use Rattle.hir_worklist.specs.Settling.{AreWatched}
use Rattle.hir_import_resolution.specs.Inner.Queue.{slot_cmp}
use Rattle.hir_import_resolution.specs.Inner.State.{IsApart}
use Rattle.hir_collector_state.specs.HirImportGrowth.Growth.{GlobsLast}
use Rattle.hir_import_resolution.specs.Rounds.{Grew, IsUpToDate as AreUpToDate, is_apart as are_apart, is_lasting}
use Rattle.hir_collector_state.specs.HirImportRules.State.{ImportState}
use Rattle.hir_import_resolution.specs.declared.import_queue.ImportQueue.{ImportQueue}
use Rattle.hir_collector_state.specs.HirImportRules.Changed.{ChangedValue, everything, joined, with_slot}
use Rattle.hir_call_queue.specs.Waking.{attributes_of, is_apart, watchers_of, watches_item, worklist_of}
use Rattle.hir_call_queue.specs.declared.queue.CallQueue.{CallQueue}
use Rattle.hir_collector_rules.specs.declared.macro_directive.EagerMacro.{EagerMacro}
use Rattle.hir_collector_rules.specs.declared.macro_directive.MacroDirective.{MacroDirective}
use Rattle.hir_collector_rules.specs.Calls.{IsWaiting, LacksMacro, is_call, is_inert_now, waiting_item}
use Rattle.hir_collector_state.specs.Waiting.{NotesSlots, StandsStill}
use Rattle.hir_collector_rules.specs.State.{Core, Run, at_rest, core_in, eager_at, import_state}

-- ---- what globs change

-- the slot of a name in a module besides; any where there is no name, as of a trait without one
abbrev pub noted_name : ℕ → Option (List ℕ) → ChangedValue → ChangedValue
noted_name at None c = everything
noted_name at (Some name) c = with_slot at name c

-- what globs have changed besides
abbrev pub noted_along : List GlobSlot → ChangedValue → ChangedValue
noted_along [] c = c
noted_along (s ∷ ss) c = noted_along ss (noted_name s.at (name_of s.key) c)

-- ---- what waits

-- the item that an attribute stands on; a call and a path of a derive stand on none
abbrev pub item_of : MacroDirective → Option AstId
item_of d = option_map (λ k. d.ast_id) (waiting_item d)

-- a queue is up to date with where a run stands: what isn't queued is no call that is too deep, reaches no macro with all that this asks for first, isn't inert, and watches what it has seen, an attribute besides the item that it stands on; one that is being tried aside
pub record IsUpToDate (finished : Maps) (q : CallQueue) (c : Core) (tried : Option ℕ) : Type 0 where
  pub seen : ℕ → List PathSlot
  pub watched : is_apart q ≡ true → AreWatched slot_cmp seen tried (worklist_of q) (watchers_of q)
  pub stands : is_apart q ≡ true → (p : ℕ) (d : MacroDirective) → IsIdle (worklist_of q) p → tried ≢ Some p → IsWaiting (at_rest c) p d
      → StandsStill finished c p d (seen p)
  pub on_items : is_apart q ≡ true → (p : ℕ) (d : MacroDirective) → IsIdle (worklist_of q) p → tried ≢ Some p → IsWaiting (at_rest c) p d
      → (item : AstId) → item_of d ≡ Some item → watches_item (attributes_of q) item p ≡ true
  pub shallow : (p : ℕ) (d : MacroDirective) → IsIdle (worklist_of q) p → tried ≢ Some p → IsWaiting (at_rest c) p d → is_call d ≡ true
      → d.site.level < c.map.crate_data.recursion_limit
  pub nowhere : (p : ℕ) (d : MacroDirective) → IsIdle (worklist_of q) p → tried ≢ Some p → IsWaiting (at_rest c) p d → LacksMacro finished c p d
  pub active : (p : ℕ) (d : MacroDirective) → IsIdle (worklist_of q) p → tried ≢ Some p → IsWaiting (at_rest c) p d → is_inert_now c.map d ≡ false
  -- it has calls of the run, and none is finished
  pub unfinished : (p : ℕ) → p < count_of (worklist_of q) → is_unfinished (worklist_of q) p ≡ true
  pub count : count_of (worklist_of q) ≤ length c.calls

-- no pass is under way
pub record IsBetweenPasses (q : CallQueue) : Type 0 where
  pub over : (worklist_of q).current ≡ []
  pub outside : (worklist_of q).end ≡ 0

-- calls stay, and one that waits waited before; what eager macros asked for is kept
pub record KeepsWaiting (old new : Core) : Type 0 where
  pub eager : (p : ℕ) (seen : EagerMacro) → Contains (eager_at old p) seen → Contains (eager_at new p) seen
  pub longer : length old.calls ≤ length new.calls
  pub before : (p : ℕ) (d : MacroDirective) → p < length old.calls → IsWaiting (at_rest new) p d → IsWaiting (at_rest old) p d

-- a queue was up to date with a run, and what has changed of it since is noted
pub record IsStale (finished : Maps) (q : CallQueue) (now : Run) : Type 0 where
  pub before : Run
  pub up_to_date : IsUpToDate finished q (core_in before) None
  pub noted : NotesSlots before now
  pub waits : KeepsWaiting (core_in before) (core_in now)

-- finished maps don't refer to the map of a run, and no path begins with a module of it where it is a block's
abbrev pub KeepsApart : Maps → Core → Type 0
KeepsApart finished c = IsApart finished c.map.id c.local

-- it is so where calls watch what they read
abbrev pub LiesApart : Maps → CallQueue → Core → Type 0
LiesApart finished q c = is_apart q ≡ true → KeepsApart finished c

-- ---- imports that rested

-- imports were up to date with where they stood once, and what has changed since differs in these slots alone; what is known of globs holds
pub record IsOutgrown (finished : Maps) (queue : ImportQueue) (now : Run) (slots : List PathSlot) : Type 0 where
  pub before : ImportState
  pub up_to_date : AreUpToDate finished queue before
  pub paired : length before.taken ≡ length before.imports
  pub grew : Grew before (import_state (at_rest (core_in now))) slots
  pub globs : GlobsLast finished (import_state (at_rest (core_in now))) now.globs
  pub outside : are_apart queue ≡ true → BeginsOutside before.map.id before.local

-- imports of which what was found out lasts were so, unless all slots count as changed
abbrev pub IsBehind : Maps → ImportQueue → ChangedValue → Run → Type 0
IsBehind finished queue changed now = is_lasting queue ≡ true → changed.all ≡ false → IsOutgrown finished queue now changed.slots

-- if the slots that were gathered and noted before held all that has changed since imports rested, those that are gathered and noted now do
abbrev pub IsGathered : Maps → ChangedValue → Run → ChangedValue → Run → Type 0
IsGathered finished before old after new =
    (queue : ImportQueue) → IsBehind finished queue (joined before old.changed) old → IsBehind finished queue (joined after new.changed) new
