-- What has changed since imports rested is gathered.
use Rattle.std.proofs.Common.{Result, Err, ◌≡◌, ◌⊎◌, inl, inr, ◌∙◌, ap, sym, refl, subst, ℕ, ◌+◌, ◌<◌, Bool, true, false, List, [], ◌++◌, length, slice_get}
use Rattle.std.proofs.Common.{Contains, Some, cond, append-nil, arith}
use Rattle.std.proofs.lemmas.List.Elements.{Contains-append_cases, Contains-append_left, Contains-append_right}
use Rattle.hir_collector_state.specs.HirIds.declared.ids.MapId.{MapId}
use Rattle.hir_collector_state.specs.HirDefMapRules.Overlay.{Maps}
use Rattle.hir_collector_state.specs.HirNameres.declared.nameres.path_resolution.slots.Slot.{Slot as PathSlot}
use Rattle.hir_collector_state.specs.HirDefMapLaws.ReadLaw.{BeginsOutside, KeepApart}
use Rattle.hir_collector_state.specs.HirImportGrowth.Growth.{GlobsLast, HaveGlobs}
use Rattle.hir_import_resolution.specs.Rounds.{Grew, IsResumable, IsUpToDate as AreUpToDate, is_apart, is_lasting}
use Rattle.hir_collector_state.specs.HirImportRules.Rest.{BroughtStands}
use Rattle.hir_collector_state.specs.HirImportRules.State.{ImportState}
use Rattle.hir_import_resolution.proofs.GlobsLasting.{globs_at_rest}
use Rattle.hir_import_resolution.specs.declared.import_queue.ImportQueue.{ImportQueue}
use Rattle.hir_collector_state.specs.HirImportRules.Changed.{ChangedValue, IsUntouched, everything, joined, nothing, with_slots}
use Rattle.hir_collector_state.specs.HirCollectorRules.CallMoves.{Rested, already, moved}
use Rattle.hir_collector_state.specs.HirCollectorRules.State.{Core, Run, at_rest, core_in, import_state}
use Rattle.hir_collector_imports.specs.Waiting.{IsBehind, IsGathered, IsOutgrown, KeepsApart}
use Rattle.hir_collector_state.specs.Waiting.{IsNotedBeside, KeepsModules, LeavesImports, NotesSlots}
use Rattle.hir_collector_state.proofs.CallReads.{agree_itself, agree_later}
use Rattle.hir_collector_state.proofs.HirCollectorRules.Lists.{get_inside, get_there}
use Rattle.hir_collector_state.proofs.Noted.{around_itself, grown_kept, have_globs, modules_kept_later, there_later}

-- ---- slots of two

module _ (g c : ChangedValue) where
  -- if not all slots count as changed of both together, they do of neither
  joined_some : (joined g c).all ≡ false → (c.all ≡ false) × (g.all ≡ false)
  joined_some e = of_second c.all refl e
    where
      of_first : (b : Bool) → g.all ≡ b → (cond b g (record g { slots = g.slots ++ c.slots })).all ≡ false → g.all ≡ false
      of_first true is e = e
      of_first false is e = is

      of_second : (b : Bool) → c.all ≡ b → (cond b everything (with_slots c.slots g)).all ≡ false → (c.all ≡ false) × (g.all ≡ false)
      of_second true is e = absurd (let no : ⊥ = cc in no)
      of_second false is e = (is, of_first g.all refl e)

  joined_is : c.all ≡ false → g.all ≡ false → joined g c ≡ record g { slots = g.slots ++ c.slots }
  joined_is second first =
      ap (λ (b : Bool). cond b everything (with_slots c.slots g)) second ∙ ap (λ (b : Bool). cond b g (record g { slots = g.slots ++ c.slots })) first

  joined_slots : c.all ≡ false → g.all ≡ false → (joined g c).slots ≡ g.slots ++ c.slots
  joined_slots second first = ap (λ (x : ChangedValue). x.slots) (joined_is second first)

-- nothing comes besides
joined_nothing : (g : ChangedValue) → joined g nothing ≡ g
joined_nothing g = go g.all
  where
    go : (b : Bool) → cond b g (record g { slots = g.slots ++ [] }) ≡ g
    go true = refl
    go false = λ i. record { all = g.all; slots = append-nil g.slots i; items = g.items }

-- ---- what has grown grows on

-- a place of a list is one of a list that has the same there
inside_later : {A : Type 0} (xs ys : List A) (i : ℕ) → i < length xs → slice_get ys i ≡ slice_get xs i → i < length ys
inside_later xs ys i low same = let there = get_there xs i low in get_inside ys i there.0 (same ∙ there.1)

module _ (before : ImportState) (a b : Run) (old new : List PathSlot) (grew : Grew before (import_state (at_rest (core_in a))) old)
    (paired : length before.taken ≡ length before.imports) (slots : NotesSlots a b)
    (left : LeavesImports a b) (some : b.changed.all ≡ false) (untouched : (slot : PathSlot) → ¬ Contains new slot → IsUntouched b.changed slot)
    (unread : (slot : PathSlot) → ¬ Contains new slot → ¬ Contains old slot) where
  grew_on : Grew before (import_state (at_rest (core_in b))) new
  unfolding core_in
  grew_on =
      let kept : KeepsModules before.map b.map = modules_kept_later before.map a.map b.map (grown_kept before.map a.map grew.grows grew.modules)
      (slots.keeps some) in
      record {
        grows = record {
          id = kept.id;
          holder = kept.holder;
          crate_data = kept.crate_data;
          prelude = kept.prelude;
          parents = kept.parents;
          enums = λ id variants e. left.enums id variants (grew.grows.enums id variants e);
        };
        modules = kept.count;
        others = λ slot absent there.
            agree_later before.map a.map b.map before.local a.local b.local slot (grew.others slot (unread slot absent) there)
            (slots.others slot (untouched slot absent) (there_later (length before.map.modules) (length a.map.modules) grew.modules slot there));
        imports = λ i low. left.reached i (inside_later before.imports a.reached i low (grew.imports i low)) ∙ grew.imports i low;
        taken = λ i low. left.taken i (inside_later before.taken a.taken i (omega (arith, low, paired)) (grew.taken i low)) ∙ grew.taken i low;
      }

-- what is gathered stays all that has changed, as long as the rest is noted
module _ (finished : Maps) (queue : ImportQueue) (g : ChangedValue) (a b : Run) (noted : IsNotedBeside finished a b) where
  outgrown_on : IsOutgrown finished queue a (joined g a.changed).slots → b.changed.all ≡ false → g.all ≡ false
      → IsOutgrown finished queue b (joined g b.changed).slots
  outgrown_on old some first = record {
    before = old.before;
    up_to_date = old.up_to_date;
    paired = old.paired;
    grew =
        grew_on old.before a b (joined g a.changed).slots (joined g b.changed).slots old.grew old.paired noted.slots (noted.imports some) some untouched unread;
    globs = noted.globs some old.globs;
    outside = old.outside;
  }
    where
      untouched : (slot : PathSlot) → ¬ Contains (joined g b.changed).slots slot → IsUntouched b.changed slot
      untouched slot absent = record {
        some = some;
        other =
            λ has. absent (subst (λ (xs : List PathSlot). Contains xs slot) (sym (joined_slots g b.changed some first))
            (Contains-append_right g.slots b.changed.slots slot has));
      }

      unread : (slot : PathSlot) → ¬ Contains (joined g b.changed).slots slot → ¬ Contains (joined g a.changed).slots slot
      unread slot absent has =
          go (Contains-append_cases g.slots a.changed.slots slot
          (subst (λ (xs : List PathSlot). Contains xs slot) (joined_slots g a.changed (noted.slots.some some) first) has))
        where
          go : Contains g.slots slot ⊎ Contains a.changed.slots slot → ⊥
          go (inl gathered) =
              absent (subst (λ (xs : List PathSlot). Contains xs slot) (sym (joined_slots g b.changed some first))
              (Contains-append_left g.slots b.changed.slots slot gathered))
          go (inr later) = (noted.slots.noted slot (untouched slot absent)).other later

  pub behind_later : IsBehind finished queue (joined g a.changed) a → IsBehind finished queue (joined g b.changed) b
  behind_later behind lasting all =
      let each = joined_some g b.changed all in
      let before : (joined g a.changed).all ≡ false = ap (λ (x : ChangedValue). x.all) (joined_is g a.changed (noted.slots.some each.0) each.1) ∙ each.1 in
      outgrown_on (behind lasting before) each.0 each.1

-- a run that has the same core and globs
same_outgrown : (finished : Maps) (queue : ImportQueue) (a b : Run) (slots : List PathSlot) → core_in b ≡ core_in a → b.globs ≡ a.globs
    → IsOutgrown finished queue a slots → IsOutgrown finished queue b slots
same_outgrown finished queue a b slots same globs old = record {
  before = old.before;
  up_to_date = old.up_to_date;
  paired = old.paired;
  grew = subst (λ (c : Core). Grew old.before (import_state (at_rest c)) slots) (sym same) old.grew;
  globs =
      subst (λ (c : Core). GlobsLast finished (import_state (at_rest c)) b.globs) (sym same)
      (subst (GlobsLast finished (import_state (at_rest (core_in a)))) (sym globs) old.globs);
  outside = old.outside;
}

-- what was noted is gathered, and then nothing is noted
pub behind_gathered : (finished : Maps) (queue : ImportQueue) (g h : ChangedValue) (a b : Run) → h ≡ joined g a.changed → core_in b ≡ core_in a → b.globs
    ≡ a.globs → b.changed ≡ nothing
    → IsBehind finished queue (joined g a.changed) a → IsBehind finished queue (joined h b.changed) b
behind_gathered finished queue g h a b gathered same globs none behind =
    let is : joined h b.changed ≡ joined g a.changed = ap (joined h) none ∙ joined_nothing h ∙ gathered in
    subst (λ (x : ChangedValue). IsBehind finished queue x b) (sym is) (λ lasting some. same_outgrown finished queue a b (joined g a.changed).slots same globs
    (behind lasting some))

-- where imports rest nothing has changed since, whatever is counted and which calls may be expanded
behind_with : (settled count : ℕ) (finished : Maps) (queue : ImportQueue) (changed : ChangedValue) (c d : Core) (now : Run)
    → AreUpToDate finished queue (import_state (at_rest c)) → BroughtStands finished (import_state (at_rest c))
    → (is_apart queue ≡ true → BeginsOutside c.map.id c.local) → d ≡ record c { settled = settled; count = count } → core_in now ≡ d → length d.taken
    ≡ length d.reached → IsBehind finished queue changed now
behind_with settled count finished queue changed c d now up stand outside is same paired lasting all = record {
  before = import_state (at_rest c);
  up_to_date = up;
  paired = ap (λ (x : Core). length x.taken) (sym is) ∙ paired ∙ ap (λ (x : Core). length x.reached) is;
  grew = subst (λ (x : Core). Grew (import_state (at_rest c)) (import_state (at_rest x)) changed.slots) (sym there) (record {
    grows = (around_itself c.map).grows;
    modules = omega arith;
    others = λ slot absent there. agree_itself c.map c.local slot;
    imports = λ i low. refl;
    taken = λ i low. refl;
  });
  globs = subst (λ (x : Core). GlobsLast finished (import_state (at_rest x)) now.globs) (sym there) globs;
  outside = outside;
}
  where
    there : core_in now ≡ record c { settled = settled; count = count }
    there = same ∙ is

    have : HaveGlobs (import_state (at_rest c)) now.globs
    have =
        let same : HaveGlobs (import_state (at_rest (record c { settled = settled; count = count }))) now.globs = subst
        (λ (x : Core). HaveGlobs (import_state (at_rest x)) now.globs) there (have_globs now) in
        record { edges = same.edges; brought = same.brought }

    -- another count and other calls are nothing to globs
    rested : GlobsLast finished (import_state (at_rest c)) now.globs
    rested = globs_at_rest finished queue (import_state (at_rest c)) now.globs up lasting stand have

    globs : GlobsLast finished (import_state (at_rest (record c { settled = settled; count = count }))) now.globs
    globs =
        record {
          kept = rested.kept;
          lasts = record {
            of_crate = rested.lasts.of_crate;
            ordered = rested.lasts.ordered;
            placed = rested.lasts.placed;
            enums = rested.lasts.enums;
          };
        }

-- so it is where calls may be expanded from now on
pub behind_settled : (finished : Maps) (queue : ImportQueue) (changed : ChangedValue) (c d : Core) (now : Run)
    → AreUpToDate finished queue (import_state (at_rest c)) → BroughtStands finished (import_state (at_rest c))
    → (is_apart queue ≡ true → BeginsOutside c.map.id c.local) → Rested c d → core_in now ≡ d → length d.taken ≡ length d.reached
    → IsBehind finished queue changed now
behind_settled finished queue changed c d now up stand outside (already all is) =
    behind_with c.settled c.count finished queue changed c d now up stand outside is
behind_settled finished queue changed c d now up stand outside (moved more is) =
    behind_with (length c.calls) (c.count + 1) finished queue changed c d now up stand outside is

-- imports that lie apart may be resumed
pub resumable_behind : (finished : Maps) (queue : ImportQueue) (changed : ChangedValue) (now : Run) (apart : Bool)
    → (is_lasting queue ≡ true → is_apart queue ≡ apart)
    → (apart ≡ true → KeepsApart finished (core_in now)) → IsBehind finished queue changed now → is_lasting queue ≡ true → changed.all ≡ false
    → IsResumable finished queue (import_state (at_rest (core_in now))) changed.slots
resumable_behind finished queue changed now apart same lies behind lasting some =
    let old : IsOutgrown finished queue now changed.slots = behind lasting some in
    let yes : is_apart queue ≡ true → apart ≡ true = λ e. sym (same lasting) ∙ e in
    record {
      before = old.before;
      up_to_date = old.up_to_date;
      grew = old.grew;
      apart = λ e. record { apart = subst (λ (own : MapId). KeepApart finished own) old.grew.grows.id (lies (yes e)).apart; outside = old.outside e };
      apart_now = λ e. lies (yes e);
    }

-- where nothing lasts, nothing is asked
pub behind_first : (finished : Maps) (queue : ImportQueue) (changed : ChangedValue) (now : Run) → is_lasting queue ≡ false → IsBehind finished queue changed now
behind_first finished queue changed now none lasting all = absurd (let no : ⊥ = cc in no)

-- where imports rested, calls were queued and tried, and what has changed was gathered
pub behind_tried : (finished : Maps) (queue : ImportQueue) (g h : ChangedValue) (rested : Core) (requeued tried : Run) → core_in requeued ≡ rested
    → ((changed : ChangedValue) (now : Run) → core_in now ≡ rested → IsBehind finished queue changed now) → IsGathered finished g requeued h tried
    → IsBehind finished queue (joined h tried.changed) tried
behind_tried finished queue g h rested requeued tried same behind gathered = gathered queue (behind (joined g requeued.changed) requeued same)

-- ---- what a run fails with

pub one_error : {T E : Type 0} (r : Result T E) (x y : E) → r ≡ Err x → r ≡ Err y → x ≡ y
one_error r x y e f = cc (e, f)
