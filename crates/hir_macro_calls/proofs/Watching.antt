-- A call watches what two paths read, and of a macro that asks for paths first which of them reaches nothing.
use Rattle.std.proofs.Common.{◌≡◌, ◌∙◌, ◌==◌, ℕ, Bool, true, false, length, List, [], ◌∷◌, ◌++◌, Option, None, Some, Contains, cond, refl, sym, ap, subst, inl, inr, ◌<◌, zero, suc, arith}
use Rattle.std.specs.List.{All}
use Rattle.std.specs.Prelude.{IsSome}
use Rattle.std.proofs.lemmas.Bool.Decides.{nat_tests}
use Rattle.std.proofs.lemmas.List.{nil_from_length}
use Rattle.std.proofs.lemmas.List.Elements.{All-append, All-weaker, Contains-append_cases, Contains-append_left, Contains-append_right}
use Rattle.hir_collector_state.specs.HirBase.ModPath.{Path}
use Rattle.hir_collector_state.specs.HirIds.declared.ast_id.AstId.{AstId}
use Rattle.hir_collector_state.specs.HirIds.declared.macro_kind.MacroId.{MacroId}
use Rattle.hir_collector_state.specs.HirDefMapRules.Overlay.{Maps}
use Rattle.hir_collector_state.specs.HirDefMapRules.State.{Local, Map}
use Rattle.hir_collector_state.specs.HirImportRules.Changed.{IsThere}
use Rattle.hir_collector_state.specs.HirNameres.declared.nameres.path_resolution.slots.Slot.{Slot as PathSlot}
use Rattle.hir_worklist.specs.Watching.{is_watching}
use Rattle.hir_import_resolution.specs.Inner.Queue.{slot_cmp}
use Rattle.hir_call_queue.specs.Waking.{GoesOn, IsWatching, watchers_of}
use Rattle.hir_call_queue.specs.declared.queue.CallQueue.{CallQueue}
use Rattle.hir_collector_state.specs.HirCollectorRules.declared.macro_directive.EagerMacro.{EagerMacro}
use Rattle.hir_collector_state.specs.HirCollectorRules.declared.macro_directive.MacroDirective.{MacroDirective}
use Rattle.hir_collector_state.specs.HirCollectorRules.Calls as calls
use Rattle.hir_collector_state.specs.HirCollectorRules.Calls.{LacksMacro, asked_before, called_macro, first_missing, inner_macro, is_same_macro, or_missing}
use Rattle.hir_collector_state.specs.HirCollectorRules.State.{Core, eager_at}
use Rattle.hir_collector_state.specs.Waiting as vain
use Rattle.hir_collector_state.specs.Waiting.{ReadsInVain, call_reads, inner_reads}
use Rattle.hir_macro_calls.specs.Due.{missing_at, missing_by}

-- a pass goes on as it went on
pub goes_on_later : (a b c : CallQueue) → GoesOn a b → GoesOn b c → GoesOn a c
goes_on_later a b c first then_ = record {
  apart = then_.apart ∙ first.apart;
  pass = record {
    finished = then_.pass.finished ∙ first.pass.finished;
    next = then_.pass.next ∙ first.pass.next;
    end = then_.pass.end ∙ first.pass.end;
    outside = λ over at_end. then_.pass.outside (first.pass.outside over at_end) (first.pass.end ∙ at_end);
  };
  queued = record { still = λ p e. then_.queued.still p (first.queued.still p e) };
}

-- it watches what both read
pub watching_both : (modules : ℕ) (few more : List PathSlot) (item : Option AstId) (i : ℕ) (a b c : CallQueue) → IsWatching modules few item i a b
    → IsWatching modules more None i b c
    → IsWatching modules (few ++ more) item i a c
watching_both modules few more item i a b c first then_ = record {
  on = goes_on_later a b c first.on then_.on;
  idle = λ p rests. first.idle p (then_.idle p rests);
  others = λ slot p e. then_.others slot p (first.others slot p e);
  each = λ apart rests.
      All-append (λ slot. is_watching slot_cmp (watchers_of c) slot i ≡ true) few more
      (All-weaker (λ slot. is_watching slot_cmp (watchers_of b) slot i ≡ true) (λ slot. is_watching slot_cmp (watchers_of c) slot i ≡ true)
      (λ slot e. then_.others slot i e) few (first.each apart (then_.idle i rests))) (then_.each (first.on.apart ∙ apart) rests);
  there = λ apart rests.
      All-append (IsThere modules) few more (first.there apart (then_.idle i rests)) (then_.there (first.on.apart ∙ apart) rests);
  other_items = λ on p e. then_.other_items on p (first.other_items on p e);
  on_its_item = λ apart on is. then_.other_items on i (first.on_its_item apart on is);
}

-- a path that was asked for is one of an eager macro that was met
pub asked_by : (es : List EagerMacro) (makro : MacroId) (path : Path) → Contains (asked_before es makro) path
    → (e : EagerMacro) × Contains es e × (is_same_macro e.makro makro ≡ true) × Contains e.inner path
asked_by [] makro path (n, below, is) = let past : n < 0 = below in absurd (omega arith)
asked_by (e ∷ es) makro path h = go (is_same_macro e.makro makro) refl (asked_by es makro path) h
  where
    later : (f : EagerMacro) × Contains es f × (is_same_macro f.makro makro ≡ true) × Contains f.inner path
        → (f : EagerMacro) × Contains (e ∷ es) f × (is_same_macro f.makro makro ≡ true) × Contains f.inner path
    later found = (found.0, Contains-append_right (e ∷ []) es found.0 found.1, found.2, found.3)

    go : (b : Bool) → is_same_macro e.makro makro ≡ b
        → (Contains (asked_before es makro) path
        → (f : EagerMacro) × Contains es f × (is_same_macro f.makro makro ≡ true) × Contains f.inner path)
        → Contains (cond b (e.inner ++ asked_before es makro) (asked_before es makro)) path
        → (f : EagerMacro) × Contains (e ∷ es) f × (is_same_macro f.makro makro ≡ true) × Contains f.inner path
    go true same rest among = elim (Contains-append_cases e.inner (asked_before es makro) path among) [
      | inl own ↦ (e, (0, omega arith, refl), same, own)
      | inr others ↦ later (rest others)
    ]
    go false same rest among = later (rest among)

-- and the other way round
among_asked : (es : List EagerMacro) (makro : MacroId) (e : EagerMacro) (path : Path) → Contains es e → is_same_macro e.makro makro ≡ true
    → Contains e.inner path → Contains (asked_before es makro) path
among_asked [] makro e path (n, below, is) same among = let past : n < 0 = below in absurd (omega arith)
among_asked (x ∷ xs) makro e path (zero, below, is) same among =
    subst (λ (b : Bool). Contains (cond b (x.inner ++ asked_before xs makro) (asked_before xs makro)) path)
    (sym (subst (λ (y : EagerMacro). is_same_macro y.makro makro ≡ true) (sym is) same))
    (Contains-append_left x.inner (asked_before xs makro) path (subst (λ (y : EagerMacro). Contains y.inner path) (sym is) among))
among_asked (x ∷ xs) makro e path (suc n, below, is) same among =
    go (is_same_macro x.makro makro) (among_asked xs makro e path (n, omega (arith, below), is) same among)
  where
    go : (b : Bool) → Contains (asked_before xs makro) path → Contains (cond b (x.inner ++ asked_before xs makro) (asked_before xs makro)) path
    go true behind = Contains-append_right x.inner (asked_before xs makro) path behind
    go false behind = behind

-- the first of some paths that reaches nothing is one of them, and reaches nothing
module _ (finished : Maps) (local : Local) (m : Map) (home : ℕ) where
  pub missing_among : (paths : List Path) (path : Path) → first_missing finished local m home paths ≡ Some path
      → Contains paths path × (inner_macro finished local m home path ≡ None)
  missing_among [] path e = absurd (let no : ⊥ = cc in no)
  missing_among (p ∷ ps) path e = go (inner_macro finished local m home p) refl (missing_among ps path) e
    where
      go : (o : Option MacroId) → inner_macro finished local m home p ≡ o
          → (first_missing finished local m home ps ≡ Some path → Contains ps path × (inner_macro finished local m home path ≡ None))
          → or_missing p o (first_missing finished local m home ps) ≡ Some path
          → Contains (p ∷ ps) path × (inner_macro finished local m home path ≡ None)
      go None none rest is = let same : p ≡ path = cc in (
        (0, omega arith, same),
        subst (λ (x : Path). inner_macro finished local m home x ≡ None) same none,
      )
      go (Some makro) some rest is = let found = rest is in (Contains-append_right (p ∷ []) ps path found.0, found.1)

  -- and where one of them does, there is a first
  pub some_missing : (paths : List Path) (path : Path) → Contains paths path → inner_macro finished local m home path ≡ None
      → first_missing finished local m home paths ≡ None → ⊥
  some_missing [] path (n, below, is) none e = let past : n < 0 = below in omega arith
  some_missing (p ∷ ps) path among none e =
      go (inner_macro finished local m home p) refl e (λ later gone. some_missing ps path later none gone) among
    where
      go : (o : Option MacroId) → inner_macro finished local m home p ≡ o → or_missing p o (first_missing finished local m home ps) ≡ None
          → (Contains ps path → first_missing finished local m home ps ≡ None → ⊥)
          → Contains (p ∷ ps) path → ⊥
      go None here is rest h = let no : ⊥ = cc in no
      go (Some makro) here is rest (zero, below, same) =
          let both : inner_macro finished local m home p ≡ None = subst (λ (x : Path). inner_macro finished local m home x ≡ None) (sym same) none in
          let no : ⊥ = cc in no
      go (Some makro) here is rest (suc n, below, same) = rest (n, omega (arith, below), same) is

-- what it has read, it has read in vain
module _ (finished : Maps) (c : Core) (i : ℕ) (d : MacroDirective) where
  -- where no path is missing that its macro was seen to ask for, its own reaches nothing
  pub vain_alone : LacksMacro finished c i d → missing_at finished c i d ≡ None
      → ReadsInVain finished c.local c.map (eager_at c i) d (call_reads finished c.local c.map d)
  vain_alone (calls.reaches_none nowhere) none = vain.reaches_none nowhere refl
  vain_alone (calls.lacks_inner makro by path called known same among missing) none =
      let all : first_missing finished c.local c.map d.site.home (asked_before (eager_at c i) makro) ≡ None =
      ap (missing_by finished c i d) (sym called) ∙ none in
      absurd (some_missing finished c.local c.map d.site.home (asked_before (eager_at c i) makro) path
      (among_asked (eager_at c i) makro by path known same among) missing all)

  -- or else that path
  pub vain_behind : (path : Path) → missing_at finished c i d ≡ Some path
      → ReadsInVain finished c.local c.map (eager_at c i) d (call_reads finished c.local c.map d ++ inner_reads finished c.local c.map d.site.home path)
  vain_behind path is = go (called_macro finished c.local c.map d) refl is
    where
      go : (o : Option MacroId) → called_macro finished c.local c.map d ≡ o → missing_by finished c i d o ≡ Some path
          → ReadsInVain finished c.local c.map (eager_at c i) d (call_reads finished c.local c.map d ++ inner_reads finished c.local c.map d.site.home path)
      go None called e = absurd (let no : ⊥ = cc in no)
      go (Some makro) called e =
          let found = missing_among finished c.local c.map d.site.home (asked_before (eager_at c i) makro) path e in
          let by = asked_by (eager_at c i) makro path found.0 in
          vain.lacks_inner makro by.0 path called by.1 by.2 by.3 found.1 refl

  -- it lacks a macro where a path is missing
  pub lacks_missing : (makro : MacroId) → called_macro finished c.local c.map d ≡ Some makro
      → IsSome (first_missing finished c.local c.map d.site.home (asked_before (eager_at c i) makro)) → LacksMacro finished c i d
  lacks_missing makro called some = go (first_missing finished c.local c.map d.site.home (asked_before (eager_at c i) makro)) refl some
    where
      go : (o : Option Path) → first_missing finished c.local c.map d.site.home (asked_before (eager_at c i) makro) ≡ o → IsSome o → LacksMacro finished c i d
      go None e there = absurd (let no : ⊥ = cc in no)
      go (Some path) e there =
          let found = missing_among finished c.local c.map d.site.home (asked_before (eager_at c i) makro) path e in
          let by = asked_by (eager_at c i) makro path found.0 in calls.lacks_inner makro by.0 path called by.1 by.2 by.3 found.1

  -- no path is missing where none was seen
  pub none_seen : true ≡ (length (eager_at c i) == 0) → missing_at finished c i d ≡ None
  none_seen h = go (called_macro finished c.local c.map d)
    where
      zero_long : (n : ℕ) → (n == 0) ≡ true → n ≡ 0
      zero_long n e = grind (arith, nat_tests)

      go : (o : Option MacroId) → missing_by finished c i d o ≡ None
      go None = refl
      go (Some makro) =
          ap (λ (es : List EagerMacro). first_missing finished c.local c.map d.site.home (asked_before es makro))
          (nil_from_length (eager_at c i) (zero_long (length (eager_at c i)) (sym h)))
