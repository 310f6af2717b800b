-- Which steps do globs take?
use Rattle.std.specs.Prelude.{◌≡◌, ℕ, ◌+◌, true, false, ◌==◌, List, [], ◌∷◌, Option, None, Some, Contains, slice_get, if◌then◌else◌}
use Rattle.hir_scope.specs.HirPerNs.declared.imports.GlobId.{GlobId}
use Rattle.hir_scope.specs.HirPerNs.declared.visibility.Visibility.{Visibility}
use Rattle.hir_glob_imports.specs.declared.step.TheConstants.{MAX_STEPS}
use Rattle.hir_glob_imports.specs.declared.edge.Bound.{Bound}
use Rattle.hir_glob_imports.specs.declared.edge.Brought.{Brought}
use Rattle.hir_glob_imports.specs.declared.edge.Edge.{Edge}
use Rattle.hir_glob_imports.specs.declared.edge.Slot.{Slot}
use Rattle.hir_glob_imports.specs.declared.edge.Target.{Target}
use Rattle.hir_glob_imports.specs.Keys.{same_slot, is_unnamed}
use Rattle.hir_glob_imports.specs.Moves.{shown, brought_vis, is_as_seen, may_raise, same_def, same_vis}
use Rattle.hir_glob_imports.specs.View.{View, NameTable, bound_in}

-- which edge brought what stands in each slot, where one did
abbrev pub BroughtBy : Type 0
BroughtBy = Slot → Option Brought

-- the same, but for one slot
abbrev pub with_brought : BroughtBy → Slot → Option Brought → BroughtBy
with_brought brought s by other = if same_slot s other then by else brought other

-- the part of a run that globs change
pub record GlobState (S : Type 0) : Type 0 where
  pub names : S
  pub edges : List Edge
  pub brought : BroughtBy
  -- how many steps the run took
  pub count : ℕ

-- ---- changes

pub data Act : Type 0 where
  copies : Slot → Target → Visibility → GlobId → Act
  brings : Slot → Brought → Act
  follows : Slot → Target → Visibility → Act
  raises : Slot → Visibility → Act

-- a trait without a name follows nothing, so what brought it isn't kept
abbrev pub noted : BroughtBy → Slot → Brought → BroughtBy
noted brought s by = if is_unnamed s.key then brought else with_brought brought s (Some by)

abbrev pub act : {S : Type 0} → NameTable S → GlobState S → Act → GlobState S
act t g (copies s of vis by) = record g { names = t.copied g.names s of vis by }
act t g (brings s by) = record g { brought = noted g.brought s by }
act t g (follows s of vis) = record g { names = t.followed g.names s of vis }
act t g (raises s vis) = record g { names = t.raised g.names s vis }

-- changes one after another
abbrev pub perform : {S : Type 0} → NameTable S → GlobState S → List Act → GlobState S
perform t g [] = g
perform t g (a ∷ acts) = perform t (act t g a) acts

abbrev pub ticked : {S : Type 0} → GlobState S → GlobState S
ticked g = record g { count = g.count + 1 }

-- ---- rules

-- a rule: an edge with its number, a slot of its importer, and what the source shows or the visibility that is given
pub data Rule : Type 0 where
  -- a vacant slot takes what the source shows
  copies_along : ℕ → Edge → Slot → Bound → Rule
  -- what the edge brought takes definition and visibility along it
  follows_along : ℕ → Edge → Slot → Bound → Rule
  -- what another edge brought with the same definition, or a trait without a name, takes the greater visibility
  raises_along : ℕ → Edge → Slot → Visibility → Rule

-- an edge is recorded, leads to the module of the slot, and its source shows this there
pub record Shows (v : View) (edges : List Edge) (j : ℕ) (e : Edge) (s : Slot) (b : Bound) : Type 0 where
  pub recorded : slice_get edges j ≡ Some e
  pub at : e.importer ≡ s.at
  pub shown : shown v e s.key ≡ Some b

pub record CanCopy (v : View) (edges : List Edge) (j : ℕ) (e : Edge) (s : Slot) (b : Bound) : Type 0 where
  pub shows : Shows v edges j e s b
  pub vacant : bound_in v s ≡ None

pub record CanFollow (v : View) (edges : List Edge) (brought : BroughtBy) (j : ℕ) (e : Edge) (s : Slot) (b : Bound) : Type 0 where
  pub last : Brought
  pub shows : Shows v edges j e s b
  pub named : is_unnamed s.key ≡ false
  pub brought_last : brought s ≡ Some last
  pub by_it : (last.edge == j) ≡ true
  pub differs : is_as_seen e b last ≡ false

pub record CanRaise (v : View) (edges : List Edge) (brought : BroughtBy) (j : ℕ) (e : Edge) (s : Slot) (vis : Visibility) : Type 0 where
  pub b : Bound
  pub c : Bound
  pub shows : Shows v edges j e s b
  pub stands : bound_in v s ≡ Some c
  pub may : may_raise j s.key (brought s) ≡ true
  pub same : same_def c.def b.def ≡ true
  pub greater : v.greater c.vis (brought_vis v e b) ≡ Some vis
  pub differs : same_vis vis c.vis ≡ false

-- when a rule may be applied
abbrev pub May : {S : Type 0} → NameTable S → GlobState S → Rule → Type 0
May t g (copies_along j e s b) = CanCopy (t.view g.names) g.edges j e s b
May t g (follows_along j e s b) = CanFollow (t.view g.names) g.edges g.brought j e s b
May t g (raises_along j e s vis) = CanRaise (t.view g.names) g.edges g.brought j e s vis

-- what an edge brought, as it saw it
abbrev pub as_seen : ℕ → Edge → Bound → Brought
as_seen j e b = record { edge = j; seen = b; edge_vis = e.vis }

-- what a rule changes
abbrev pub acts : View → Rule → List Act
acts v (copies_along j e s b) = copies s e.source (brought_vis v e b) e.id ∷ brings s (as_seen j e b) ∷ []
acts v (follows_along j e s b) = follows s e.source (brought_vis v e b) ∷ brings s (as_seen j e b) ∷ []
acts v (raises_along j e s vis) = raises s vis ∷ []

abbrev pub after : {S : Type 0} → NameTable S → GlobState S → Rule → GlobState S
after t g rule = ticked (perform t g (acts (t.view g.names) rule))

-- one step along an edge
pub record Step {S : Type 0} (t : NameTable S) (old new : GlobState S) : Type 0 where
  pub rule : Rule
  pub may : May t old rule
  pub is : new ≡ after t old rule

-- steps one after another
pub data Steps {S : Type 0} (t : NameTable S) (from : GlobState S) : GlobState S → Type 0 where
  none : Steps t from from
  more : (old new : GlobState S) → Steps t from old → Step t old new → Steps t from new

-- the slot that a rule changes
abbrev pub slot_of : Rule → Slot
slot_of (copies_along j e s b) = s
slot_of (follows_along j e s b) = s
slot_of (raises_along j e s vis) = s

-- steps one after another, each of which changes a slot of a list
pub data StepsIn {S : Type 0} (t : NameTable S) (slots : List Slot) (from : GlobState S) : GlobState S → Type 0 where
  none_in : StepsIn t slots from from
  more_in : (old new : GlobState S) → StepsIn t slots from old → (step : Step t old new) → Contains slots (slot_of step.rule)
      → StepsIn t slots from new

-- as many steps as are counted lead on from here, and one more may be taken
pub record IsSpent {S : Type 0} (t : NameTable S) (from : GlobState S) : Type 0 where
  pub at : GlobState S
  pub steps : Steps t from at
  pub full : at.count ≡ MAX_STEPS
  pub next : GlobState S
  pub step : Step t at next
