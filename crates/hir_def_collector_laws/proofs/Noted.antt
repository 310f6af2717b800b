-- Where a glob brought what a name stands for, it is noted along which edge: in a list of names.
use Rattle.std.proofs.Common.{◌≡◌, ◌≢◌, ◌∙◌, ℕ, zero, suc, Bool, true, false, cond, List, [], ◌∷◌, ◌++◌, Option, None, Some, is_some, option_and_then}
use Rattle.std.proofs.Common.{slice_get, slice_set, if◌then◌else◌, refl, sym, ap, subst, true≢false}
use Rattle.std.specs.BTreeMap.{insert_entry, is_at}
use Rattle.std.specs.Cmp.Lexicographic.{slice_cmp}
use Rattle.std.specs.Map.{set_value}
use Rattle.std.specs.Ordering.{nat_cmp}
use Rattle.hir_collector_rules.specs.HirIds.declared.ids.Crate.{Crate}
use Rattle.hir_collector_rules.specs.HirIds.declared.ids.MapId.{MapId}
use Rattle.hir_collector_rules.specs.HirScope.Bindings.{Candidate, Push, taken, takes as takes_slot, written_items, written_places}
use Rattle.hir_collector_rules.specs.HirScope.Entries.{item_at, with_entry}
use Rattle.hir_collector_rules.specs.HirScope.Globs.{Place, has_place, with_place, without_place}
use Rattle.hir_collector_rules.specs.HirPerNs.PerNs.{Item}
use Rattle.hir_collector_rules.specs.HirPerNs.declared.imports.GlobId.{GlobId}
use Rattle.hir_collector_rules.specs.HirPerNs.declared.per_ns.PerNs.{PerNs}
use Rattle.hir_collector_rules.specs.HirPerNs.declared.visibility.Visibility.{Visibility}
use Rattle.hir_collector_rules.proofs.HirScope.AfterPush.{item_at-with_entry, item_at-with_entry_other}
use Rattle.hir_collector_rules.specs.HirScopeTable.Table.{rewritten}
use Rattle.hir_collector_rules.specs.HirDefMapRules.State.{place_at}
use Rattle.hir_collector_rules.specs.HirGlobImports.Keys.{same_slot, slot_at}
use Rattle.hir_collector_rules.specs.HirGlobImports.Rules.{BroughtBy, with_brought}
use Rattle.hir_collector_rules.specs.HirGlobImports.View.{View}
use Rattle.hir_collector_rules.specs.HirGlobImports.Waves.{Records, adds, edge_with_vis, stays, widens}
use Rattle.hir_collector_rules.specs.HirGlobImports.declared.edge.Brought.{Brought}
use Rattle.hir_collector_rules.specs.HirGlobImports.declared.edge.Edge.{Edge}
use Rattle.hir_collector_rules.specs.HirGlobImports.declared.edge.Key.{Key}
use Rattle.hir_collector_rules.specs.HirGlobImports.declared.edge.Slot.{Slot}
use Rattle.hir_collector_rules.specs.HirGlobImports.declared.edge.Key.TheVariants.{Types, Values, Macros}
use Rattle.hir_collector_rules.proofs.HirGlobImports.Exact.{exact_slot}
use Rattle.hir_collector_rules.proofs.HirGlobImports.Settling.{same_itself}
use Rattle.hir_collector_rules.specs.HirImportRules.Changes.{forgotten, forgotten_in}
use Rattle.hir_def_collector_laws.specs.Globs.{glob_by, is_open_in}
use Rattle.hir_def_collector_laws.proofs.Places.{now_with, still_with, still_without}

-- ---- edges that are recorded stay

-- an edge of the same glob into the same module stands at a place
pub record IsStillAt (edges : List Edge) (place : ℕ) (e : Edge) : Type 0 where
  pub edge : Edge
  pub recorded : slice_get edges place ≡ Some edge
  pub id : edge.id ≡ e.id
  pub into : edge.importer ≡ e.importer

abbrev pub KeepsEdges : List Edge → List Edge → Type 0
KeepsEdges old new = (place : ℕ) (e : Edge) → slice_get old place ≡ Some e → IsStillAt new place e

pub keeps_all : (edges : List Edge) → KeepsEdges edges edges
keeps_all edges place e at = record { edge = e; recorded = at; id = refl; into = refl }

keeps_widened : (old : List Edge) (k : ℕ) (d : Edge) (wide : Visibility) → slice_get old k ≡ Some d → KeepsEdges old (slice_set old k (edge_with_vis d wide))
keeps_widened [] k d wide at place e h = absurd (let no : ⊥ = cc in no)
keeps_widened (x ∷ xs) zero d wide at zero e h =
    let is_d : x ≡ d = cc in
    let is_e : x ≡ e = cc in
    let same : d ≡ e = sym is_d ∙ is_e in
    record { edge = edge_with_vis d wide; recorded = refl; id = ap (λ (y : Edge). y.id) same; into = ap (λ (y : Edge). y.importer) same }
keeps_widened (x ∷ xs) zero d wide at (suc place) e h = record { edge = e; recorded = h; id = refl; into = refl }
keeps_widened (x ∷ xs) (suc k) d wide at zero e h = record { edge = e; recorded = h; id = refl; into = refl }
keeps_widened (x ∷ xs) (suc k) d wide at (suc place) e h =
    let still : IsStillAt (slice_set xs k (edge_with_vis d wide)) place e = keeps_widened xs k d wide at place e h in
    record { edge = still.edge; recorded = still.recorded; id = still.id; into = still.into }

keeps_added : (old others : List Edge) → KeepsEdges old (old ++ others)
keeps_added [] others place e h = absurd (let no : ⊥ = cc in no)
keeps_added (x ∷ xs) others zero e h = record { edge = e; recorded = h; id = refl; into = refl }
keeps_added (x ∷ xs) others (suc place) e h =
    let still : IsStillAt (xs ++ others) place e = keeps_added xs others place e h in
    record { edge = still.edge; recorded = still.recorded; id = still.id; into = still.into }

pub keeps_recorded : {v : View} (old new : List Edge) (e : Edge) → Records v old new e → KeepsEdges old new
keeps_recorded old new e (widens k d wide at ends by is) = subst (KeepsEdges old) (sym is) (keeps_widened old k d wide at)
keeps_recorded old new e (stays k d at ends by is) = subst (KeepsEdges old) (sym is) (keeps_all old)
keeps_recorded old new e (adds apart is) = subst (KeepsEdges old) (sym is) (keeps_added old (e ∷ []))

-- ---- slots

slots_apart : (a b : Slot) → a ≢ b → same_slot a b ≡ false
slots_apart a b ne = go (same_slot a b) refl
  where
    go : (t : Bool) → same_slot a b ≡ t → t ≡ false
    go true e = absurd (ne (exact_slot a b e))
    go false e = refl

-- slots of two modules, and of two kinds of keys
pub modules_apart : (home number : ℕ) (a b : Key) → number ≢ home → same_slot (slot_at home a) (slot_at number b) ≡ false
modules_apart home number a b ne = slots_apart (slot_at home a) (slot_at number b) (λ e. ne (sym (ap (λ (s : Slot). s.at) e)))

pub keys_apart : (home number : ℕ) (a b : Key) → a ≢ b → same_slot (slot_at home a) (slot_at number b) ≡ false
keys_apart home number a b ne = slots_apart (slot_at home a) (slot_at number b) (λ e. ne (ap (λ (s : Slot). s.key) e))

pub unforgotten : (home : ℕ) (key : Key) (binds : Bool) (brought : BroughtBy) (s : Slot) → same_slot (slot_at home key) s ≡ false
    → forgotten_in home key binds brought s ≡ brought s
unforgotten home key true brought s e = ap (λ (b : Bool). if b then None else brought s) e
unforgotten home key false brought s e = refl

forgotten_alike : (home : ℕ) (key : Key) (binds : Bool) (one other : BroughtBy) (s : Slot) → one s ≡ other s → forgotten_in home key binds one s
    ≡ forgotten_in home key binds other s
forgotten_alike home key true one other s e = ap (λ (o : Option Brought). if same_slot (slot_at home key) s then None else o) e
forgotten_alike home key false one other s e = e

module _ (home : ℕ) (name : List ℕ) (items : PerNs) (brought : BroughtBy) (number : ℕ) (n : List ℕ) where
  abbrev pub types_forgotten : BroughtBy
  types_forgotten = forgotten_in home (Types name) (is_some items.types) brought

  abbrev pub values_forgotten : BroughtBy
  values_forgotten = forgotten_in home (Values name) (is_some items.values) types_forgotten

  pub forgot_types : forgotten home name items brought (slot_at number (Types n)) ≡ forgotten_in home (Types name) (is_some items.types) brought
      (slot_at number (Types n))
  forgot_types =
      unforgotten home (Macros name) (is_some items.macros) values_forgotten (slot_at number (Types n))
      (keys_apart home number (Macros name) (Types n) (λ e. let no : ⊥ = cc in no))
      ∙ unforgotten home (Values name) (is_some items.values) types_forgotten (slot_at number (Types n))
      (keys_apart home number (Values name) (Types n) (λ e. let no : ⊥ = cc in no))

  pub forgot_values : forgotten home name items brought (slot_at number (Values n)) ≡ forgotten_in home (Values name) (is_some items.values) brought
      (slot_at number (Values n))
  forgot_values =
      unforgotten home (Macros name) (is_some items.macros) values_forgotten (slot_at number (Values n))
      (keys_apart home number (Macros name) (Values n) (λ e. let no : ⊥ = cc in no))
      ∙ forgotten_alike home (Values name) (is_some items.values) types_forgotten brought (slot_at number (Values n))
      (unforgotten home (Types name) (is_some items.types) brought (slot_at number (Values n))
      (keys_apart home number (Types name) (Values n) (λ e. let no : ⊥ = cc in no)))

  pub forgot_macros : forgotten home name items brought (slot_at number (Macros n)) ≡ forgotten_in home (Macros name) (is_some items.macros) brought
      (slot_at number (Macros n))
  forgot_macros =
      forgotten_alike home (Macros name) (is_some items.macros) values_forgotten brought (slot_at number (Macros n))
      (unforgotten home (Values name) (is_some items.values) types_forgotten (slot_at number (Macros n))
      (keys_apart home number (Values name) (Macros n) (λ e. let no : ⊥ = cc in no))
      ∙ unforgotten home (Types name) (is_some items.types) brought (slot_at number (Macros n))
      (keys_apart home number (Types name) (Macros n) (λ e. let no : ⊥ = cc in no)))

-- ---- a note

-- where all may see what an edge saw, or all of a crate, and the edge let them, they may see this
abbrev pub GivesAll : Brought → Visibility → Type 0
GivesAll last vis = (within : Option Crate) → is_open_in within last.seen.vis ≡ true → is_open_in within last.edge_vis ≡ true → is_open_in within vis ≡ true

-- all who may see the one may see the other
abbrev pub IsAsOpen : Visibility → Visibility → Type 0
IsAsOpen old new = (within : Option Crate) → is_open_in within old ≡ true → is_open_in within new ≡ true

-- a recorded edge of the glob into the module brought what stands in a slot, with this visibility, and its place is one of those that globs brought
pub record HasNote (own : MapId) (places : List Place) (brought : BroughtBy) (edges : List Edge) (number : ℕ) (key : Key) (name : List ℕ) (id : GlobId)
    (vis : Visibility) : Type 0 where
  pub edge : Edge
  pub last : Brought
  pub noted : brought (slot_at number key) ≡ Some last
  pub recorded : slice_get edges last.edge ≡ Some edge
  pub is_glob : edge.id ≡ id
  pub into : edge.importer ≡ number
  pub placed : has_place places (place_at own number name) ≡ true
  pub given : GivesAll last vis

-- a note stays where what it says does
pub record Stays (own : MapId) (places places' : List Place) (brought brought' : BroughtBy) (edges edges' : List Edge) (number : ℕ) (key : Key)
    (name : List ℕ) : Type 0 where
  pub noted : brought' (slot_at number key) ≡ brought (slot_at number key)
  pub placed : has_place places (place_at own number name) ≡ true → has_place places' (place_at own number name) ≡ true
  pub recorded : KeepsEdges edges edges'

pub note_stays : {own : MapId} {places places' : List Place} {brought brought' : BroughtBy} {edges edges' : List Edge} {number : ℕ} {key : Key} {name : List ℕ}
    {id : GlobId} {vis : Visibility}
    → Stays own places places' brought brought' edges edges' number key name → HasNote own places brought edges number key name id vis
    → HasNote own places' brought' edges' number key name id vis
note_stays {edges' = edges'} kept note =
    let still : IsStillAt edges' note.last.edge note.edge = kept.recorded note.last.edge note.edge note.recorded in
    record {
      edge = still.edge;
      last = note.last;
      noted = kept.noted ∙ note.noted;
      recorded = still.recorded;
      is_glob = still.id ∙ note.is_glob;
      into = still.into ∙ note.into;
      placed = kept.placed note.placed;
      given = note.given;
    }

-- an edge that brought what stands in a slot brings it again
pub noted_anew : (own : MapId) (places : List Place) (brought : BroughtBy) (edges : List Edge) (number : ℕ) (key : Key) (name : List ℕ) (id : GlobId)
    (old new : Visibility) (last now : Brought)
    → brought (slot_at number key) ≡ Some last → last.edge ≡ now.edge → GivesAll now new
    → HasNote own places brought edges number key name id old → HasNote own places (with_brought brought (slot_at number key) (Some now)) edges number key name
    id new
noted_anew own places brought edges number key name id old new last now was same given note =
    let known : Some last ≡ Some note.last = sym was ∙ note.noted in
    let is_last : last ≡ note.last = cc in
    record {
      edge = note.edge;
      last = now;
      noted = ap (λ (b : Bool). if b then Some now else brought (slot_at number key)) (same_itself (slot_at number key));
      recorded = ap (slice_get edges) (sym same ∙ ap (λ (b : Brought). b.edge) is_last) ∙ note.recorded;
      is_glob = note.is_glob;
      into = note.into;
      placed = note.placed;
      given = given;
    }

-- another edge raises who may see it
pub note_raised : {own : MapId} {places : List Place} {brought : BroughtBy} {edges : List Edge} {number : ℕ} {key : Key} {name : List ℕ} {id : GlobId}
    {old : Visibility} (new : Visibility)
    → IsAsOpen old new → HasNote own places brought edges number key name id old → HasNote own places brought edges number key name id new
note_raised new wider note = record {
  edge = note.edge;
  last = note.last;
  noted = note.noted;
  recorded = note.recorded;
  is_glob = note.is_glob;
  into = note.into;
  placed = note.placed;
  given = λ within seen edge. wider within (note.given within seen edge);
}

-- ---- the names of one namespace

-- an item of a list by names, written anew
module _ {D I : Type 0} (new : Item D I → Item D I) (items : List (List ℕ × Item D I)) (name : List ℕ) where
  set_is_entry : (i : Item D I) → item_at items name ≡ Some i → rewritten new items name (Some i) ≡ with_entry (slice_cmp nat_cmp) items name (new i)
  set_is_entry i e =
      sym (ap (λ (b : Bool). cond b (set_value (is_at (slice_cmp nat_cmp name)) items (new i)) (insert_entry (slice_cmp nat_cmp) items name (new i)))
      (ap is_some e))

  anew_here : (i : Item D I) → item_at items name ≡ Some i → item_at (rewritten new items name (item_at items name)) name ≡ Some (new i)
  anew_here i e =
      ap (λ (o : Option (Item D I)). item_at (rewritten new items name o) name) e
      ∙ ap (λ (es : List (List ℕ × Item D I)). item_at es name) (set_is_entry i e)
      ∙ item_at-with_entry items name (new i)

  anew_other : (other : List ℕ) → other ≢ name → item_at (rewritten new items name (item_at items name)) other ≡ item_at items other
  anew_other other ne = go (item_at items name) refl
    where
      go : (o : Option (Item D I)) → item_at items name ≡ o → item_at (rewritten new items name o) other ≡ item_at items other
      go None e = refl
      go (Some i) e = ap (λ (es : List (List ℕ × Item D I)). item_at es other) (set_is_entry i e) ∙ item_at-with_entry_other items name (new i) other ne

module _ {D I : Type 0} (glob : I → Option GlobId) (at : List ℕ → Key) where
  -- each name that a glob brought has its note
  abbrev pub AreNotedIn : MapId → List Place → BroughtBy → List Edge → ℕ → List (List ℕ × Item D I) → Type 0
  AreNotedIn own places brought edges number items =
      (name : List ℕ) (item : Item D I) (id : GlobId) → item_at items name ≡ Some item → option_and_then glob item.import ≡ Some id
      → HasNote own places brought edges number (at name) name id item.vis

  written_other : (items : List (List ℕ × Item D I)) (name other : List ℕ) (c : Option (Candidate D I)) → other ≢ name → item_at (written_items name c items)
      other ≡ item_at items other
  written_other items name other None ne = refl
  written_other items name other (Some c) ne = item_at-with_entry_other items name c.push.item other ne

  -- ---- a change of one name

  module _ (same_def : D → D → Bool) (same_import : I → I → Bool) (one_name : (a b : List ℕ) → at a ≡ at b → a ≡ b) (own : MapId) (home : ℕ) (name : List ℕ)
      (places : List Place) (brought : BroughtBy) (edges : List Edge) (items : List (List ℕ × Item D I)) where
    abbrev here : Place
    here = place_at own home name

    -- a name of the module is another one, if its slot is
    other_name : (n : List ℕ) → same_slot (slot_at home (at name)) (slot_at home (at n)) ≡ false → n ≢ name
    other_name n away e =
        true≢false (sym (same_itself (slot_at home (at name))) ∙ ap (λ (x : List ℕ). same_slot (slot_at home (at name)) (slot_at home (at x))) (sym e) ∙ away)

    -- where other names are as they were, it is enough to know what comes of the name itself
    module _ (places' : List Place) (brought' : BroughtBy) (after : List (List ℕ × Item D I))
        (other_places : (q : Place) → q ≢ here → has_place places q ≡ true → has_place places' q ≡ true)
        (other_slots : (n : List ℕ) → same_slot (slot_at home (at name)) (slot_at home (at n)) ≡ false → brought' (slot_at home (at n))
        ≡ brought (slot_at home (at n)))
        (other_items : (n : List ℕ) → n ≢ name → item_at after n ≡ item_at items n) where
      by_name : ((item : Item D I) (id : GlobId) → item_at after name ≡ Some item → option_and_then glob item.import ≡ Some id → HasNote own places' brought'
          edges home (at name) name id item.vis)
          → AreNotedIn own places brought edges home items → AreNotedIn own places' brought' edges home after
      by_name at_name f n item id e g = go (same_slot (slot_at home (at name)) (slot_at home (at n))) refl
        where
          go : (t : Bool) → same_slot (slot_at home (at name)) (slot_at home (at n)) ≡ t → HasNote own places' brought' edges home (at n) n id item.vis
          go true s =
              let same : name ≡ n = one_name name n (ap (λ (x : Slot). x.key) (exact_slot (slot_at home (at name)) (slot_at home (at n)) s)) in
              subst (λ (x : List ℕ). HasNote own places' brought' edges home (at x) x id item.vis) same (at_name item id (ap (item_at after) same ∙ e) g)
          go false s =
              let ne : n ≢ name = other_name n s in
              let kept : Stays own places places' brought brought' edges edges home (at n) n = record {
                noted = other_slots n s;
                placed = other_places (place_at own home n) (λ h. ne (ap (λ (q : Place). q.1) h));
                recorded = keeps_all edges;
              } in
              note_stays kept (f n item id (sym (other_items n ne) ∙ e) g)

    -- ---- a push

    abbrev pub items_after : Option (Candidate D I) → List (List ℕ × Item D I)
    items_after c = written_items name (taken same_def same_import items places here c) items

    abbrev pub places_after : Option (Candidate D I) → List Place
    places_after c = written_places here (taken same_def same_import items places here c) places

    still_placed : (c : Option (Candidate D I)) (q : Place) → q ≢ here → has_place places q ≡ true → has_place (written_places here c places) q ≡ true
    still_placed None q ne h = h
    still_placed (Some c) q ne h = go c.push.is_glob
      where
        go : (b : Bool) → has_place (cond b (with_place places here) (without_place places here)) q ≡ true
        go true = still_with here q places h
        go false = still_without here q ne places h

    other_written : (c : Option (Candidate D I)) (n : List ℕ) → n ≢ name → item_at (items_after c) n ≡ item_at items n
    other_written c n ne = written_other items name n (taken same_def same_import items places here c) ne

    -- ---- by no glob

    abbrev pub IsExplicit : Option (Candidate D I) → Type 0
    IsExplicit None = Unit {0}
    IsExplicit (Some c) = (c.push.is_glob ≡ false) × (option_and_then glob c.push.item.import ≡ None)

    -- it takes the place of what a glob brought
    taken_anyway : (push : Push D I) (b : Item D I) (globbed : Bool) → push.is_glob ≡ false → globbed ≡ true → takes_slot same_def same_import globbed (Some b)
        push ≡ true
    taken_anyway push b false e g = absurd (true≢false (sym g))
    taken_anyway push b true e g = rw e refl

    explicit_item : (c : Candidate D I) → IsExplicit (Some c) → AreNotedIn own places brought edges home items
        → glob_by glob (item_at (items_after (Some c)) name) ≡ None
    explicit_item c explicit f = go (takes_slot same_def same_import (has_place places here) (item_at items name) c.push) refl
      where
        left : (o : Option (Item D I)) → item_at items name ≡ o → takes_slot same_def same_import (has_place places here) o c.push ≡ false → glob_by glob o
            ≡ None
        left None e t = refl
        left (Some b) e t = on (option_and_then glob b.import) refl
          where
            on : (g : Option GlobId) → option_and_then glob b.import ≡ g → g ≡ None
            on None h = refl
            on (Some id) h = absurd (true≢false (sym (taken_anyway c.push b (has_place places here) explicit.0 (f name b id e h).placed) ∙ t))

        go : (b : Bool) → takes_slot same_def same_import (has_place places here) (item_at items name) c.push ≡ b
            → glob_by glob (item_at (written_items name (cond b (Some c) None) items) name) ≡ None
        go true t = ap (glob_by glob) (item_at-with_entry items name c.push.item) ∙ explicit.1
        go false t = left (item_at items name) refl t

    explicit_name : (c : Option (Candidate D I)) (binds : Bool) (brought' : BroughtBy) → IsExplicit c → (c ≡ None → binds ≡ false)
        → brought' (slot_at home (at name)) ≡ forgotten_in home (at name) binds brought (slot_at home (at name)) → AreNotedIn own places brought edges home
        items
        → (item : Item D I) (id : GlobId) → item_at (items_after c) name ≡ Some item → option_and_then glob item.import ≡ Some id
        → HasNote own (places_after c) brought' edges home (at name) name id item.vis
    explicit_name None binds brought' explicit binds_not is f item id e g =
        let kept : Stays own places places brought brought' edges edges home (at name) name = record {
          noted = is ∙ ap (λ (b : Bool). forgotten_in home (at name) b brought (slot_at home (at name))) (binds_not refl);
          placed = λ h. h;
          recorded = keeps_all edges;
        } in
        note_stays kept (f name item id e g)
    explicit_name (Some c) binds brought' explicit binds_not is f item id e g =
        let no_glob : glob_by glob (item_at (items_after (Some c)) name) ≡ None = explicit_item c explicit f in
        absurd (let no : None ≡ Some id = sym no_glob ∙ ap (glob_by glob) e ∙ g in cc)

    -- what is bound explicitly is no glob's any more
    pub explicit_here : (c : Option (Candidate D I)) (binds : Bool) (brought' : BroughtBy) → IsExplicit c → (c ≡ None → binds ≡ false)
        → ((n : List ℕ) → brought' (slot_at home (at n)) ≡ forgotten_in home (at name) binds brought (slot_at home (at n)))
        → AreNotedIn own places brought edges home items → AreNotedIn own (places_after c) brought' edges home (items_after c)
    explicit_here c binds brought' explicit binds_not forgets f =
        by_name (places_after c) brought' (items_after c) (still_placed (taken same_def same_import items places here c))
        (λ n s. forgets n ∙ unforgotten home (at name) binds brought (slot_at home (at n)) s) (other_written c)
        (explicit_name c binds brought' explicit binds_not (forgets name) f) f

    -- ---- by a glob

    abbrev pub brought_now : Brought → BroughtBy
    brought_now now = with_brought brought (slot_at home (at name)) (Some now)

    other_brought : (now : Brought) (n : List ℕ) → same_slot (slot_at home (at name)) (slot_at home (at n)) ≡ false → brought_now now (slot_at home (at n))
        ≡ brought (slot_at home (at n))
    other_brought now n s = ap (λ (b : Bool). if b then Some now else brought (slot_at home (at n))) s

    copied_name : (c : Candidate D I) (e : Edge) (now : Brought) → c.push.is_glob ≡ true → option_and_then glob c.push.item.import ≡ Some e.id
        → GivesAll now c.push.item.vis
        → item_at items name ≡ None → slice_get edges now.edge ≡ Some e → e.importer ≡ home
        → (item : Item D I) (id : GlobId) → item_at (items_after (Some c)) name ≡ Some item → option_and_then glob item.import ≡ Some id
        → HasNote own (places_after (Some c)) (brought_now now) edges home (at name) name id item.vis
    copied_name c e now globbed brings given vacant recorded into item id is by =
        let takes_it : taken same_def same_import items places here (Some c)
        ≡ Some c = ap (λ (o : Option (Item D I)). cond (takes_slot same_def same_import (has_place places here) o c.push) (Some c) None) vacant in
        let stands : item_at (items_after (Some c)) name ≡ Some c.push.item =
        ap (λ (o : Option (Candidate D I)). item_at (written_items name o items) name) takes_it ∙ item_at-with_entry items name c.push.item in
        let known : Some c.push.item ≡ Some item = sym stands ∙ is in
        let same : c.push.item ≡ item = cc in
        let ids : Some e.id ≡ Some id = sym brings ∙ ap (λ (x : Item D I). option_and_then glob x.import) same ∙ by in
        record {
          edge = e;
          last = now;
          noted = ap (λ (b : Bool). if b then Some now else brought (slot_at home (at name))) (same_itself (slot_at home (at name)));
          recorded = recorded;
          is_glob = cc;
          into = into;
          placed =
              ap (λ (o : Option (Candidate D I)). has_place (written_places here o places) here) takes_it
              ∙ ap (λ (b : Bool). has_place (cond b (with_place places here) (without_place places here)) here) globbed
              ∙ now_with here places;
          given = subst (λ (x : Item D I). GivesAll now x.vis) same given;
        }

    -- what a glob brings to a vacant slot is noted
    pub copied_here : (c : Candidate D I) (e : Edge) (now : Brought) → c.push.is_glob ≡ true → option_and_then glob c.push.item.import ≡ Some e.id
        → GivesAll now c.push.item.vis
        → item_at items name ≡ None → slice_get edges now.edge ≡ Some e → e.importer ≡ home
        → AreNotedIn own places brought edges home items → AreNotedIn own (places_after (Some c)) (brought_now now) edges home (items_after (Some c))
    copied_here c e now globbed brings given vacant recorded into f =
        by_name (places_after (Some c)) (brought_now now) (items_after (Some c)) (still_placed (taken same_def same_import items places here (Some c)))
        (other_brought now) (other_written (Some c))
        (copied_name c e now globbed brings given vacant recorded into) f

    -- ---- an item is written anew

    module _ (new : Item D I → Item D I) (keeps : (i : Item D I) → (new i).import ≡ i.import) (brought' : BroughtBy)
        (other_slots : (n : List ℕ) → same_slot (slot_at home (at name)) (slot_at home (at n)) ≡ false → brought' (slot_at home (at n))
        ≡ brought (slot_at home (at n)))
        (renoted : (i : Item D I) (id : GlobId) → item_at items name ≡ Some i → HasNote own places brought edges home (at name) name id i.vis
        → HasNote own places brought' edges home (at name) name id (new i).vis) where
      abbrev after_rewriting : List (List ℕ × Item D I)
      after_rewriting = rewritten new items name (item_at items name)

      rewritten_name : AreNotedIn own places brought edges home items → (item : Item D I) (id : GlobId) → item_at after_rewriting name ≡ Some item
          → option_and_then glob item.import ≡ Some id
          → HasNote own places brought' edges home (at name) name id item.vis
      rewritten_name f item id e g = go (item_at items name) refl
        where
          go : (o : Option (Item D I)) → item_at items name ≡ o → HasNote own places brought' edges home (at name) name id item.vis
          go None h =
              let same : item_at after_rewriting name ≡ None = ap (λ (o : Option (Item D I)). item_at (rewritten new items name o) name) h ∙ h in
              absurd (let no : None ≡ Some item = sym same ∙ e in cc)
          go (Some i) h =
              let known : Some (new i) ≡ Some item = sym (anew_here new items name i h) ∙ e in
              let same : new i ≡ item = cc in
              let by : option_and_then glob i.import ≡ Some id = ap (option_and_then glob) (sym (keeps i) ∙ ap (λ (x : Item D I). x.import) same) ∙ g in
              subst (λ (x : Item D I). HasNote own places brought' edges home (at name) name id x.vis) same (renoted i id h (f name i id h by))

      pub rewritten_here : AreNotedIn own places brought edges home items → AreNotedIn own places brought' edges home after_rewriting
      rewritten_here f = by_name places brought' after_rewriting (λ q ne h. h) other_slots (anew_other new items name) (rewritten_name f) f
