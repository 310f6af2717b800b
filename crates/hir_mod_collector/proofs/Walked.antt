-- The walk, step by step.
use Rattle.std.proofs.Common.{◌≡◌, ◌∙◌, ℕ, zero, suc, ◌+◌, ◌<◌, ◌≤◌, true, false, List, [], ◌∷◌, ◌++◌, length, drop, get_or, map, slice_get, slice_index_or}
use Rattle.std.proofs.Common.{Option, Some, None, refl, sym, ap, subst, arith, append-nil, append_assoc}
use Rattle.std.specs.List.{All}
use Rattle.std.specs.Option.{IfSome}
use Rattle.std.specs.Prelude.{is_some}
use Rattle.std.proofs.lemmas.List.Elements.{All-head, All-tail}
use Rattle.hir_collector_state.specs.HirItemTree.Collected.{is_enabled, numbered}
use Rattle.hir_collector_state.specs.HirItemTree.ItemTree.{Tree}
use Rattle.hir_collector_state.specs.HirBase.Cfg.{Cfg}
use Rattle.hir_collector_state.specs.HirMapParts.declared.diagnostics.DefDiagnostic.{DefDiagnostic}
use Rattle.hir_collector_state.specs.HirIds.declared.ast_id.AstKind.{AstKind}
use Rattle.hir_collector_state.specs.HirIds.declared.ast_id.AstKind.TheVariants as nodes
use Rattle.hir_collector_state.specs.HirItemTree.Kinds.{item_head, item_kind, kind_content, kind_of, module_content}
use Rattle.hir_collector_state.specs.HirItemTree.declared.kinds.ExternBlock.{ExternBlock}
use Rattle.hir_collector_state.specs.HirItemTree.declared.kinds.Mod.{Mod}
use Rattle.hir_collector_state.specs.HirItemTree.declared.rows.ModItemId.{ModItemId}
use Rattle.hir_collector_state.specs.HirItemTree.declared.kinds.ModItemKind.{ModItemKind}
use Rattle.hir_collector_state.specs.HirItemTree.declared.kinds.ModKind.{ModKind}
use Rattle.hir_collector_state.specs.HirItemTree.declared.kinds.ModKind.TheVariants.{Inline, Outline}
use Rattle.hir_collector_state.specs.HirItemTree.declared.kinds.ModItemKind.TheVariants as kinds
use Rattle.hir_collector_state.specs.HirItemTree.KeptForest.{Head, KeptItem, KeptForest, all_items, no_items}
use Rattle.hir_collector_state.specs.HirItemTree.Rows.{Content, alone, with_items, numbers_of, items_at, item_of, and_found}
use Rattle.hir_collector_state.specs.HirDefMapRules.Overlay.{Maps}
use Rattle.hir_collector_state.specs.HirDefMapRules.State.{Map}
use Rattle.hir_attr_resolution.specs.declared.attributes.Visited.{Visited}
use Rattle.hir_collector_state.specs.HirCollectorRules.Attributes.{adt_of}
use Rattle.hir_collector_state.specs.HirCollectorRules.declared.site.Site.{Site}
use Rattle.hir_collector_state.specs.HirCollectorRules.Keys.{Environment, absent_source}
use Rattle.hir_collector_state.specs.HirCollectorRules.State.{Task, Visit, visits, Core, at_rest, joined, visits_over, counted}
use Rattle.hir_collector_state.specs.HirCollectorRules.Start.{is_declared, tree_visits}
use Rattle.hir_collector_state.specs.HirCollectorRules.Steps.{Steps, behind, none, drops_item, visit}
use Rattle.hir_collector_state.specs.HirCollectorRules.TreeReads.{visits_at, visits_behind, visits_found as one_found, above}
use Rattle.hir_collector_state.specs.HirCollectorRules.Reports.{IsUnconfigured}
use Rattle.hir_collector_state.specs.HirCollectorRules.ItemIds.{module_id, node_of}
use Rattle.hir_collector_state.specs.HirCollectorRules.Derivation.{IsFull, IsSpent, counted_out}
use Rattle.hir_collector_state.specs.HirCollectorRules.Moves.{Drops, HandlesAndSpreads, HandlesTooFar, IsPassed}
use Rattle.hir_collector_state.specs.HirCollectorRules.Moves.{Passes, PassesTooFar, Walks, WalksTooFar, is_single}
use Rattle.hir_attr_resolution.specs.Visiting.{IsVisited}
use Rattle.hir_collector_state.proofs.HirCollectorRules.Lists.{drop_at, get_there}
use Rattle.hir_collector_state.proofs.HirCollectorRules.Moves.{Steps-append, Steps-one, spent_after}
use Rattle.hir_collector_state.proofs.Made.{Goes, made}
use Rattle.hir_collector_state.proofs.HirCollectorRules.Grows.{Grows-Steps}
use Rattle.hir_collector_macros.proofs.Progress.{goes_next, goes_off, is_outline}

-- nothing is anywhere
abbrev pub nowhere : Environment
nowhere = record {
  tables = record { files = []; blocks = []; entries = []; calls = [] };
  workspace = record {
    crates = [];
    config = λ krate. None;
    tree = λ krate source. absent_source;
    entry = λ key. record { present = false; error = None; inner = [] };
  };
}

-- ---- numbers

-- what stands at a place, whatever the default
pub at_place : (ids : List ModItemId) (i : ℕ) (d : ModItemId) → i < length ids → slice_index_or ids i d ≡ get_or ids i (slice_index_or ids i d)
at_place [] i d h = absurd (omega arith)
at_place (y ∷ ys) zero d h = refl
at_place (y ∷ ys) (suc i) d h = at_place ys i d (omega arith)

pub at_index : (ids : List ModItemId) (i : ℕ) (x d : ModItemId) → i < length ids → x ≡ slice_index_or ids i d → x ≡ get_or ids i x
at_index [] i x d h e = absurd (omega arith)
at_index (y ∷ ys) zero x d h e = e
at_index (y ∷ ys) (suc i) x d h e = at_index ys i x d (omega arith) e

-- numbers below one are all below it
pub above_least : (n : ℕ) (ns : List ℕ) → All (λ m. m < n) ns → above ns ≤ n
above_least n [] h = omega arith
above_least n (m ∷ ms) h = omega (arith, All-head (λ m. m < n) m ms h, above_least n ms (All-tail (λ m. m < n) m ms h))

-- each is below that which is above them
pub above_each : (ids : List ModItemId) (i : ℕ) (x : ModItemId) → i < length ids → x ≡ get_or ids i x → x.0 < above (numbers_of ids)
above_each [] i x h e = absurd (omega arith)
above_each (y ∷ ys) zero x h e = let same : x.0 ≡ y.0 = ap (λ (z : ModItemId). z.0) e in omega arith
above_each (y ∷ ys) (suc i) x h e = omega (arith, above_each ys i x (omega arith) e)

-- what holds of the numbers holds of each
pub at_each : (n : ℕ) (ids : List ModItemId) (i : ℕ) (x : ModItemId) → All (λ m. m < n) (numbers_of ids) → i < length ids → x ≡ get_or ids i x → x.0 < n
at_each n ids i x all h e = omega (arith, above_least n (numbers_of ids) all, above_each ids i x h e)

pub All-same_numbers : (P : ℕ → Type 0) (ms ns : List ℕ) → ms ≡ ns → All P ns → All P ms
All-same_numbers P ms ns e h = subst (All P) (sym e) h

pub All-below : (m n : ℕ) (ns : List ℕ) → m ≤ n → All (λ k. k < m) ns → All (λ k. k < n) ns
All-below m n ns h all = λ k d inside. omega (arith, all k d inside)

-- ---- the items of a site, one after another

visits_found : (site : Site) (o : Option KeptItem) (f : KeptForest) → visits_over site (and_found o f) ≡ visits_over site (and_found o no_items) ++ visits_over
    site f
visits_found site None f = refl
visits_found site (Some i) f = refl

module _ (tree : Tree) (site : Site) where
  -- the item of the first number, and then those of the others
  visits_first : (n : ℕ) (ns : List ℕ) → visits_at tree site (n ∷ ns) ≡ visits_at tree site (n ∷ []) ++ visits_at tree site ns
  visits_first n ns = visits_found site (slice_get (all_items tree.items) n) (items_at (all_items tree.items) ns)

  -- what is still to be visited at an item: the item, and what comes after it
  pub left_next : (ids : List ModItemId) (i : ℕ) (x : ModItemId) (rest : List Task) → i < length ids → x ≡ get_or ids i x
      → visits_at tree site (numbers_of (drop i ids)) ++ rest ≡ visits_at tree site (x.0 ∷ []) ++ (visits_at tree site (numbers_of (drop (i + 1) ids)) ++ rest)
  left_next ids i x rest h e =
      ap (λ (xs : List ModItemId). visits_at tree site (numbers_of xs) ++ rest) (drop_at ids i x h e)
      ∙ ap (λ (vs : List Task). vs ++ rest) (visits_first x.0 (numbers_of (drop (i + 1) ids)))
      ∙ append_assoc (visits_at tree site (x.0 ∷ [])) (visits_at tree site (numbers_of (drop (i + 1) ids))) rest

  -- past the last, nothing
  pub left_past : (ids : List ModItemId) (i : ℕ) → length ids ≤ i → visits_at tree site (numbers_of (drop i ids)) ≡ []
  left_past ids i h = ap (λ (xs : List ModItemId). visits_at tree site (numbers_of xs)) (drop_past ids i h)
    where
      drop_past : (xs : List ModItemId) (i : ℕ) → length xs ≤ i → drop i xs ≡ []
      drop_past [] zero h = refl
      drop_past [] (suc i) h = refl
      drop_past (x ∷ xs) zero h = absurd (omega arith)
      drop_past (x ∷ xs) (suc i) h = drop_past xs i (omega arith)

  module _ (env : Environment) (finished : Maps) (ids : List ModItemId) (old : Core) where
    -- steps through those before a place
    pub record WalksTo (c : Core) (i : ℕ) : Type 0 where
      pub steps : (rest : List Task) → Steps env finished (joined old (visits_at tree site (numbers_of ids) ++ rest))
          (joined c (visits_at tree site (numbers_of (drop i ids)) ++ rest))

    pub WalksTo-none : WalksTo old 0
    WalksTo-none = record { steps = λ rest. none }

    steps_to : (c : Core) (i : ℕ) (x : ModItemId) → i < length ids → x ≡ get_or ids i x → WalksTo c i → (rest : List Task)
        → Steps env finished (joined old (visits_at tree site (numbers_of ids) ++ rest))
        (joined c (visits_at tree site (x.0 ∷ []) ++ (visits_at tree site (numbers_of (drop (i + 1) ids)) ++ rest)))
    steps_to c i x h e before rest =
        subst (λ (agenda : List Task). Steps env finished (joined old (visits_at tree site (numbers_of ids) ++ rest)) (joined c agenda))
        (left_next ids i x rest h e) (before.steps rest)

    pub WalksTo-next : (c d : Core) (i : ℕ) (x : ModItemId) → i < length ids → x ≡ get_or ids i x → WalksTo c i
        → Walks env finished c d (visits_at tree site (x.0 ∷ [])) → WalksTo d (i + 1)
    WalksTo-next c d i x h e before step = record {
      steps = λ rest. Steps-append (steps_to c i x h e before rest) (step.steps (visits_at tree site (numbers_of (drop (i + 1) ids)) ++ rest));
    }

    pub Walks-all : (c : Core) (i : ℕ) → length ids ≤ i → WalksTo c i → Walks env finished old c (visits_at tree site (numbers_of ids))
    Walks-all c i h before = record {
      steps = λ rest.
          subst (λ (vs : List Task). Steps env finished (joined old (visits_at tree site (numbers_of ids) ++ rest)) (joined c (vs ++ rest))) (left_past ids i h)
          (before.steps rest);
    }

    pub WalksTooFar-next : (c : Core) (i : ℕ) (x : ModItemId) → i < length ids → x ≡ get_or ids i x → WalksTo c i
        → WalksTooFar env finished c (visits_at tree site (x.0 ∷ []))
        → WalksTooFar env finished old (visits_at tree site (numbers_of ids))
    WalksTooFar-next c i x h e before far = record {
      spent = λ rest. spent_after (steps_to c i x h e before rest) (far.spent (visits_at tree site (numbers_of (drop (i + 1) ids)) ++ rest));
    }

-- steps take no module away
pub longer_after : {env : Environment} {finished : Maps} (old new : Core) (vs : List Task) → Walks env finished old new vs → length old.map.modules ≤ length
    new.map.modules
longer_after old new vs walks = (Grows-Steps (walks.steps [])).longer

-- nor do those that handle an item
pub still_there : {env : Environment} {finished : Maps} (old new : Core) (v : Visit) (inside : List Task) (n done : ℕ) → IsPassed old v done
    → HandlesAndSpreads env finished old new v inside → n < length old.map.modules
    → n < length new.map.modules
still_there old new v inside n done passed handles h =
    let longer : length old.map.modules ≤ length new.map.modules = (Grows-Steps (handles.steps done passed [])).longer in
    omega arith

pub still_there-counted : (old new : Core) (n : ℕ) → new ≡ counted old → n < length old.map.modules → n < length new.map.modules
still_there-counted old new n is h = rw is h

-- ---- one item

found : {A : Type 0} (o : Option A) (x : A) (P : A → Type 0) → o ≡ Some x → IfSome o P → P x
found o x P e h = let p : IfSome (Some x) P = subst (λ (q : Option _). IfSome q P) e h in p

module _ (tree : Tree) (n : ℕ) (h : Head) (c : Content) (there : n < length (all_items tree.items))
    (head : IfSome (slice_get (all_items tree.items) n) (λ i. h ≡ item_head i))
    (content : IfSome (slice_get (all_items tree.items) n) (λ i. item_of (all_items tree.items) (item_head i) c ≡ i)) where
  -- the item of a number, by its head and content
  one_whole : (i : KeptItem) → slice_get (all_items tree.items) n ≡ Some i → item_of (all_items tree.items) h c ≡ i
  one_whole i at =
      let items = all_items tree.items in
      let same_head : h ≡ item_head i = found (slice_get items n) i (λ i. h ≡ item_head i) at head in
      let same : item_of items (item_head i) c ≡ i = found (slice_get items n) i (λ i. item_of items (item_head i) c ≡ i) at content in
      ap (λ (g : Head). item_of items g c) same_head ∙ same

  pub visits_one : (site : Site) (done : ℕ) → visits_behind tree site n done ≡ visits (behind (visit site (item_of (all_items tree.items) h c)) done) ∷ []
  visits_one site done =
      let i = get_there (all_items tree.items) n there in
      ap (λ (o : Option KeptItem). one_found site done o) i.1 ∙ ap (λ (x : KeptItem). visits (behind (visit site x) done) ∷ []) (sym (one_whole i.0 i.1))

  -- whether it is disabled
  pub enabled_one : is_enabled h.attributes ≡ true → IfSome (slice_get (all_items tree.items) n) (λ i. is_enabled (item_head i).attributes ≡ true)
  enabled_one on =
      let items = all_items tree.items in
      let i = get_there items n there in
      let same_head : h ≡ item_head i.0 = found (slice_get items n) i.0 (λ i. h ≡ item_head i) i.1 head in
      let here : is_enabled (item_head i.0).attributes ≡ true = subst (λ (g : Head). is_enabled g.attributes ≡ true) same_head on in
      subst (λ (o : Option KeptItem). IfSome o (λ i. is_enabled (item_head i).attributes ≡ true)) (sym i.1) here

  -- what holds of it
  pub holds_of_one : (P : KeptItem → Type 0) → IfSome (slice_get (all_items tree.items) n) P → P (item_of (all_items tree.items) h c)
  holds_of_one P holds =
      let i = get_there (all_items tree.items) n there in
      subst P (sym (one_whole i.0 i.1)) (found (slice_get (all_items tree.items) n) i.0 P i.1 holds)

-- the item of a number alone is one that is visited from its first attribute on
pub visits_alone : (tree : Tree) (site : Site) (n : ℕ) → visits_at tree site (n ∷ []) ≡ visits_behind tree site n 0
visits_alone tree site n = go (slice_get (all_items tree.items) n)
  where
    go : (o : Option KeptItem) → visits_over site (and_found o no_items) ≡ one_found site 0 o
    go None = refl
    go (Some i) = refl

-- steps handle the item whose attributes are done with, and then those inside are walked
pub Walks-first : {env : Environment} {finished : Maps} (old mid new : Core) (v : Visit) (done : ℕ) (inside : List Task) → IsPassed old v done
    → HandlesAndSpreads env finished old mid v inside
    → Walks env finished mid new inside → Walks env finished old new (visits (behind v done) ∷ [])
Walks-first {env} {finished} old mid new v done inside passed handles walks =
    record { steps = λ rest. Steps-append (handles.steps done passed rest) (walks.steps rest) }

-- steps through attributes of the item come before that, or lead to where it waits
pub Walks-passed : {env : Environment} {finished : Maps} (old mid new : Core) (v : Visit) (from done : ℕ) (vs : List Task) → vs ≡ visits (behind v from) ∷ []
    → Passes env finished old mid v from (Some done)
    → Walks env finished mid new (visits (behind v done) ∷ []) → Walks env finished old new vs
Walks-passed {env} {finished} old mid new v from done vs e passes walks = record {
  steps = λ rest.
      subst (λ (us : List Task). Steps env finished (joined old (us ++ rest)) (joined new rest)) (sym e)
      (Steps-append (passes.goes.1 rest) (walks.steps rest));
}

pub Walks-waits : {env : Environment} {finished : Maps} (old new : Core) (v : Visit) (from : ℕ) (vs : List Task) → vs ≡ visits (behind v from) ∷ []
    → Passes env finished old new v from None → Walks env finished old new vs
Walks-waits {env} {finished} old new v from vs e passes = record {
  steps = λ rest. subst (λ (us : List Task). Steps env finished (joined old (us ++ rest)) (joined new rest)) (sym e) (passes.goes rest);
}

-- or they lead too far, or what comes behind them does
pub WalksTooFar-passing : {env : Environment} {finished : Maps} (old : Core) (v : Visit) (from : ℕ) (vs : List Task) → vs ≡ visits (behind v from) ∷ []
    → PassesTooFar env finished old v from → WalksTooFar env finished old vs
WalksTooFar-passing {env} {finished} old v from vs e far =
    record { spent = λ rest. subst (λ (us : List Task). IsSpent env finished (joined old (us ++ rest))) (sym e) (far.spent rest) }

pub WalksTooFar-passed : {env : Environment} {finished : Maps} (old mid : Core) (v : Visit) (from done : ℕ) (vs : List Task) → vs ≡ visits (behind v from) ∷ []
    → Passes env finished old mid v from (Some done)
    → WalksTooFar env finished mid (visits (behind v done) ∷ []) → WalksTooFar env finished old vs
WalksTooFar-passed {env} {finished} old mid v from done vs e passes far = record {
  spent = λ rest. subst (λ (us : List Task). IsSpent env finished (joined old (us ++ rest))) (sym e) (spent_after (passes.goes.1 rest) (far.spent rest));
}

-- the item leads too far itself
pub WalksTooFar-here : {env : Environment} {finished : Maps} (old : Core) (v : Visit) (done : ℕ) → IsPassed old v done → HandlesTooFar env finished old v
    → WalksTooFar env finished old (visits (behind v done) ∷ [])
WalksTooFar-here old v done passed far = record { spent = λ rest. far.spent done passed rest }

-- steps through attributes take no module away
pub there_behind : {env : Environment} {finished : Maps} (old new : Core) (v : Visit) (from : ℕ) (done : Option ℕ) (n : ℕ) → Passes env finished old new v from
    done → n < length old.map.modules → n < length new.map.modules
there_behind old new v from None n passes h =
    let longer : length old.map.modules ≤ length new.map.modules = (Grows-Steps (passes.goes [])).longer in omega arith
there_behind old new v from (Some done) n passes h =
    let longer : length old.map.modules ≤ length new.map.modules = (Grows-Steps (passes.goes.1 [])).longer in omega arith

-- how many are done with where the item is next
pub past_one : (o : Option ℕ) → is_some o ≡ true → (done : ℕ) × (o ≡ Some done)
past_one None h = absurd (let no : ⊥ = cc in no)
past_one (Some done) h = (done, refl)

pub past_none : (o : Option ℕ) → is_some o ≡ false → o ≡ None
past_none None h = refl
past_none (Some done) h = absurd (let no : ⊥ = cc in no)

-- steps through those inside lead too far
pub WalksTooFar-inside : {env : Environment} {finished : Maps} (old mid : Core) (v : Visit) (done : ℕ) (inside : List Task) → IsPassed old v done
    → HandlesAndSpreads env finished old mid v inside
    → WalksTooFar env finished mid inside → WalksTooFar env finished old (visits (behind v done) ∷ [])
WalksTooFar-inside {env} {finished} old mid v done inside passed handles far =
    record { spent = λ rest. spent_after (handles.steps done passed rest) (far.spent rest) }

-- steps through attributes of the item, the one that handles it, and those through what is inside
pub Walks-through : {env : Environment} {finished : Maps} (old passed mid new : Core) (v : Visit) (from done : ℕ) (vs inside : List Task) → vs
    ≡ visits (behind v from) ∷ []
    → Passes env finished old passed v from (Some done) → HandlesAndSpreads env finished passed mid v inside → Walks env finished mid new inside
    → Walks env finished old new vs
Walks-through old passed mid new v from done vs inside e passes handles walks =
    Walks-passed old passed new v from done vs e passes (Walks-first passed mid new v done inside passes.goes.0 handles walks)

pub WalksTooFar-through : {env : Environment} {finished : Maps} (old passed mid : Core) (v : Visit) (from done : ℕ) (vs inside : List Task) → vs
    ≡ visits (behind v from) ∷ []
    → Passes env finished old passed v from (Some done) → HandlesAndSpreads env finished passed mid v inside → WalksTooFar env finished mid inside
    → WalksTooFar env finished old vs
WalksTooFar-through old passed mid v from done vs inside e passes handles far =
    WalksTooFar-passed old passed v from done vs e passes (WalksTooFar-inside passed mid v done inside passes.goes.0 handles far)

-- tasks that are done one after another
pub Walks-append : {env : Environment} {finished : Maps} (old mid new : Core) (inside behind : List Task) → Walks env finished old mid inside
    → Walks env finished mid new behind
    → Walks env finished old new (inside ++ behind)
Walks-append {env} {finished} old mid new inside behind first then_ = record {
  steps = λ rest.
      subst (λ (ts : List Task). Steps env finished (joined old ts) (joined new rest)) (sym (append_assoc inside behind rest))
      (Steps-append (first.steps (behind ++ rest)) (then_.steps rest));
}

-- the first of them lead too far, or those behind do
pub WalksTooFar-first : {env : Environment} {finished : Maps} (old : Core) (inside behind : List Task) → WalksTooFar env finished old inside
    → WalksTooFar env finished old (inside ++ behind)
WalksTooFar-first {env} {finished} old inside behind far = record {
  spent = λ rest. subst (λ (ts : List Task). IsSpent env finished (joined old ts)) (sym (append_assoc inside behind rest)) (far.spent (behind ++ rest));
}

pub WalksTooFar-behind : {env : Environment} {finished : Maps} (old mid : Core) (inside behind : List Task) → Walks env finished old mid inside
    → WalksTooFar env finished mid behind
    → WalksTooFar env finished old (inside ++ behind)
WalksTooFar-behind {env} {finished} old mid inside behind first far = record {
  spent =
      λ rest. subst (λ (ts : List Task). IsSpent env finished (joined old ts)) (sym (append_assoc inside behind rest))
      (spent_after (first.steps (behind ++ rest)) (far.spent rest));
}

-- as many as are counted were taken already, and the item has its rule
pub far_here : {env : Environment} {finished : Maps} (site : Site) (i : KeptItem) (old : Core) → is_enabled (item_head i).attributes ≡ true → is_outline i
    ≡ false → IsFull old.count old.map
    → HandlesTooFar env finished old (visit site i)
far_here {env} {finished} site i old on single full = record {
  spent = λ done passed rest.
      let at = joined old (visits (behind (visit site i) done) ∷ rest) in
      let goes : Goes env finished at = goes_next env finished at site rest i done refl on passed single in
      record { at = at; steps = none; stuck = counted_out goes.next goes.step full };
}

pub far_off : {env : Environment} {finished : Maps} (site : Site) (i : KeptItem) (done : ℕ) (condition : Cfg) (report : DefDiagnostic) (old : Core)
    → (item_head i).attributes.disabled ≡ Some condition
    → IsUnconfigured (module_id old.map site.home) (node_of site.tree (item_kind i) (item_head i).id) condition old.options report → IsFull old.count old.map
    → WalksTooFar env finished old (visits (behind (visit site i) done) ∷ [])
far_off {env} {finished} site i done condition report old off reported full = record {
  spent = λ rest.
      let at = joined old (visits (behind (visit site i) done) ∷ rest) in
      let goes : Goes env finished at = goes_off env finished at site rest i done condition report refl off reported in
      record { at = at; steps = none; stuck = counted_out goes.next goes.step full };
}

-- a disabled item is dropped
pub dropped : {env : Environment} {finished : Maps} (site : Site) (i : KeptItem) (done : ℕ) (condition : Cfg) (old new : Core)
    → (item_head i).attributes.disabled ≡ Some condition
    → Drops (IsUnconfigured (module_id old.map site.home) (node_of site.tree (item_kind i) (item_head i).id) condition old.options) old new
    → Walks env finished old new (visits (behind (visit site i) done) ∷ [])
dropped {env} {finished} site i done condition old new off drops = record {
  steps = λ rest.
      Steps-one (made (drops_item (behind (visit site i) done) drops.report rest)
      (record { next = refl; condition = condition; disabled = off; reported = drops.is_such }) tt tt (rw drops.is refl));
}

-- what an item is that a tree lends
head_same : (items : List KeptItem) (h : Head) (c : Content) → item_head (item_of items h c) ≡ h
head_same items h (alone l) = refl
head_same items h (with_items k ns) = refl

module_same : (items : List KeptItem) (h : Head) (m : Mod) (k : ModKind) → item_kind (item_of items h (module_content k m)) ≡ nodes.Module
module_same items h m (Inline ids) = refl
module_same items h m Outline = refl

kind_same : (items : List KeptItem) (h : Head) (item : ModItemKind) → item_kind (item_of items h (kind_content item)) ≡ kind_of item
kind_same items h (kinds.Mod i) = module_same items h i i.kind
kind_same items h other = refl

-- an item that holds no others and is no module, and a module that is written where it is declared, are of no other file
pub single_here : (items : List KeptItem) (h : Head) (item : ModItemKind) → is_single item ≡ true → is_outline (item_of items h (kind_content item)) ≡ false
single_here items h (kinds.ExternBlock i) e = absurd (let no : ⊥ = cc in no)
single_here items h (kinds.Mod i) e = absurd (let no : ⊥ = cc in no)
single_here items h other e = refl

pub inline_here : (items : List KeptItem) (h : Head) (item : ModItemKind) (m : Mod) (ids : _) → item ≡ kinds.Mod m → m.kind ≡ Inline ids
    → is_outline (item_of items h (kind_content item)) ≡ false
inline_here items h item m ids e f =
    subst (λ (it : ModItemKind). is_outline (item_of items h (kind_content it)) ≡ false) (sym e)
    (subst (λ (k : ModKind). is_outline (item_of items h (module_content k m)) ≡ false) (sym f) refl)

pub block_here : (items : List KeptItem) (h : Head) (item : ModItemKind) (b : ExternBlock) → item ≡ kinds.ExternBlock b
    → is_outline (item_of items h (kind_content item)) ≡ false
block_here items h item b e = subst (λ (it : ModItemKind). is_outline (item_of items h (kind_content it)) ≡ false) (sym e) refl

pub far_item : (env : Environment) (finished : Maps) (site : Site) (items : List KeptItem) (h : Head) (item : ModItemKind) (old : Core)
    → is_enabled h.attributes ≡ true
    → is_outline (item_of items h (kind_content item)) ≡ false → IsFull old.count old.map → HandlesTooFar env finished old
    (visit site (item_of items h (kind_content item)))
far_item env finished site items h item old on here full =
    far_here site (item_of items h (kind_content item)) old (ap (λ (g : Head). is_enabled g.attributes) (head_same items h (kind_content item)) ∙ on) here full

-- an item of a tree whose attributes are gone through
module _ (m : Map) (visited : Visited) (h : Head) (item : ModItemKind) where
  abbrev all : List KeptItem
  all = all_items visited.source.now.value.tree.items

  abbrev one : KeptItem
  one = item_of all h (kind_content item)

  module _ (there : visited.id.0 < length all) (head : IfSome (slice_get all visited.id.0) (λ i. h ≡ item_head i))
      (content : IfSome (slice_get all visited.id.0) (λ i. item_of all (item_head i) (kind_content item) ≡ i)) where
    kept_one : slice_get all visited.id.0 ≡ Some one
    kept_one =
        let i = get_there all visited.id.0 there in
        i.1 ∙ ap Some (sym (one_whole visited.source.now.value.tree visited.id.0 h (kind_content item) there head content i.0 i.1))

    pub holds_at_one : (P : KeptItem → Type 0) → P one → IfSome (slice_get all visited.id.0) P
    holds_at_one P holds = subst (λ (o : Option KeptItem). IfSome o P) (sym kept_one) holds

    pub visited_one : IfSome (slice_get all visited.id.0) (λ i. is_enabled (item_head i).attributes ≡ true) → visited.node ≡ node_of visited.site.now.tree
        (kind_of item) h.id
        → map numbered visited.attrs.now ≡ h.attributes.attributes → visited.adt ≡ adt_of m visited.site.now one → IsVisited m visited one
    visited_one enabled node attributes adt = record {
      kept = kept_one;
      node =
          node ∙ ap (λ (k : AstKind). node_of visited.site.now.tree k h.id) (sym (kind_same all h item)) ∙ ap
          (λ (g : Head). node_of visited.site.now.tree (item_kind one) g.id) (sym (head_same all h (kind_content item)));
      enabled = found (slice_get all visited.id.0) one (λ i. is_enabled (item_head i).attributes ≡ true) kept_one enabled;
      attributes = attributes ∙ ap (λ (g : Head). g.attributes.attributes) (sym (head_same all h (kind_content item)));
      adt = adt;
    }

-- an item of a tree that is disabled
module _ (site : Site) (tree : Tree) (n done : ℕ) (h : Head) (item : ModItemKind) (condition : Cfg)
    (is : visits_behind tree site n done ≡ visits (behind (visit site (item_of (all_items tree.items) h (kind_content item))) done) ∷ [])
    (off : h.attributes.disabled ≡ Some condition) where
  abbrev i : KeptItem
  i = item_of (all_items tree.items) h (kind_content item)

  off_there : (item_head i).attributes.disabled ≡ Some condition
  off_there = ap (λ (g : Head). g.attributes.disabled) (head_same (all_items tree.items) h (kind_content item)) ∙ off

  reported_there : (old : Core) (d : DefDiagnostic) → IsUnconfigured (module_id old.map site.home) (node_of site.tree (kind_of item) h.id) condition old.options
      d
      → IsUnconfigured (module_id old.map site.home) (node_of site.tree (item_kind i) (item_head i).id) condition old.options d
  reported_there old d r =
      subst (λ (kind : AstKind). IsUnconfigured (module_id old.map site.home) (node_of site.tree kind (item_head i).id) condition old.options d)
      (sym (kind_same (all_items tree.items) h item))
      (subst (λ (g : Head). IsUnconfigured (module_id old.map site.home) (node_of site.tree (kind_of item) g.id) condition old.options d)
      (sym (head_same (all_items tree.items) h (kind_content item))) r)

  pub dropped_at : (env : Environment) (finished : Maps) (old new : Core)
      → Drops (IsUnconfigured (module_id old.map site.home) (node_of site.tree (kind_of item) h.id) condition old.options) old new
      → Walks env finished old new (visits_behind tree site n done)
  dropped_at env finished old new drops =
      subst (λ (vs : List Task). Walks env finished old new vs) (sym is)
      (dropped site i done condition old new off_there
      (record { report = drops.report; is_such = reported_there old drops.report drops.is_such; is = drops.is }))

  pub far_at : (env : Environment) (finished : Maps) (old : Core) (d : DefDiagnostic) → IsUnconfigured (module_id old.map site.home)
      (node_of site.tree (kind_of item) h.id) condition old.options d
      → IsFull old.count old.map → WalksTooFar env finished old (visits_behind tree site n done)
  far_at env finished old d r full =
      subst (λ (vs : List Task). WalksTooFar env finished old vs) (sym is) (far_off site i done condition d old off_there (reported_there old d r) full)

-- ---- the start

disabled_visits : (site : Site) (tree : Tree) → is_declared site.tree tree ≡ false → tree_visits site tree ≡ []
disabled_visits site tree e = rw e refl

enabled_visits : (site : Site) (tree : Tree) → is_declared site.tree tree ≡ true → tree_visits site tree ≡ visits_over site tree.items
enabled_visits site tree e = rw e refl

module _ (env : Environment) (finished : Maps) (site : Site) (tree : Tree) (old : Core) where
  -- of a tree whose items aren't declared nothing is visited
  pub walks_disabled : is_declared site.tree tree ≡ false → Steps env finished (joined old (tree_visits site tree)) (at_rest old)
  walks_disabled disabled = subst (λ (vs : List Task). Steps env finished (joined old vs) (at_rest old)) (sym (disabled_visits site tree disabled)) none

  -- of another its items are
  module _ (ids : List ModItemId) (enabled : is_declared site.tree tree ≡ true) (all : items_at (all_items tree.items) (numbers_of ids) ≡ tree.items) where
    present_visits : visits_at tree site (numbers_of ids) ++ [] ≡ tree_visits site tree
    present_visits = append-nil (visits_at tree site (numbers_of ids)) ∙ ap (visits_over site) all ∙ sym (enabled_visits site tree enabled)

    pub walks_present : (new : Core) → Walks env finished old new (visits_at tree site (numbers_of ids))
        → Steps env finished (joined old (tree_visits site tree)) (at_rest new)
    walks_present new walks = subst (λ (vs : List Task). Steps env finished (joined old vs) (at_rest new)) present_visits (walks.steps [])

    pub spent_present : WalksTooFar env finished old (visits_at tree site (numbers_of ids)) → IsSpent env finished (joined old (tree_visits site tree))
    spent_present far = subst (λ (vs : List Task). IsSpent env finished (joined old vs)) present_visits (far.spent [])
