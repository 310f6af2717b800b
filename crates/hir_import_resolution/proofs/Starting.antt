-- Where a resolver starts, and what it hands back.
use Rattle.std.proofs.Common.{◌≡◌, ◌∙◌, ap, sym, subst, ℕ, ◌≤◌, true, List, [], ◌++◌, None, length}
use Rattle.std.proofs.lemmas.Bool.{ltb-true}
use Rattle.hir_def_map_rules.specs.Overlay.{Maps}
use Rattle.hir_nameres.specs.declared.nameres.path_resolution.slots.Slot.{Slot as PathSlot}
use Rattle.hir_def_map_laws.specs.SlotChanges.{ScopesChangeAmong}
use Rattle.hir_glob_imports.proofs.OfKind.{nothing_along}
use Rattle.hir_glob_imports.specs.declared.step.TheConstants.{MAX_STEPS}
use Rattle.hir_import_resolution.specs.Types.{ImportQueue, Imports, Resolver}
use Rattle.hir_import_resolution.specs.Inner.Queue.{IsBegun, IsRunning, Reports}
use Rattle.hir_import_resolution.specs.Inner.State.{IsApart, IsKeptIn, finished_by, queue_by, state_by, state_in}
use Rattle.hir_import_rules.specs.Names.{view_of}
use Rattle.hir_import_rules.specs.Rest.{IsAtRest, IsRecorded, IsSpent}
use Rattle.hir_import_rules.specs.Lasting.{Lasts}
use Rattle.hir_import_resolution.specs.Rounds.{AreQueued, IsUpToDate, is_apart, is_lasting}
use Rattle.hir_import_rules.specs.Rules.{Steps}
use Rattle.hir_import_rules.specs.State.{ImportState, scopes_of}

pub queued_through : (f g : Maps) (queue other : ImportQueue) (s t : ImportState) → f ≡ g → queue ≡ other → s ≡ t → AreQueued f queue s → AreQueued g other t
queued_through f g queue other s t same queued state old =
    subst (λ (x : Maps). AreQueued x other t) same
    (subst (λ (x : ImportQueue). AreQueued f x t) queued (subst (λ (x : ImportState). AreQueued f queue x) state old))

pub lasts_through : (f g : Maps) (s t : ImportState) → f ≡ g → s ≡ t → Lasts f s → Lasts g t
lasts_through f g s t same state old = subst (λ (x : Maps). Lasts x t) same (subst (λ (x : ImportState). Lasts f x) state old)

-- where the imports are queued, they may be tried
pub begun_kept : (finished : Maps) (queue : ImportQueue) (given : Imports) (r : Resolver) → state_by r ≡ state_in given → finished_by r ≡ finished → queue_by r
    ≡ queue
    → r.changes.items ≡ [] → AreQueued finished queue (state_in given) → (is_lasting queue ≡ true → Lasts finished (state_in given))
    → (is_lasting queue ≡ true → is_apart queue ≡ true)
    → given.count ≤ MAX_STEPS → (is_apart queue ≡ true → IsApart finished given.map.id given.local)
    → IsKeptIn r → ((p : ℕ) → IsRecorded (state_in given) p) → IsBegun r None
begun_kept finished queue given r state same queued fresh are_queued lasts watches small keeps_apart kept recorded = record {
  settled = now.settled;
  unfinished = now.unfinished;
  count = now.count;
  there = now.there;
  apart = λ e.
      subst (λ (f : Maps). IsApart f r.scopes.map.id r.local) (sym same)
      (subst (λ (s : ImportState). IsApart finished s.map.id s.local) (sym state) (keeps_apart (sym (ap is_apart queued) ∙ e)));
  kept = kept;
  recorded = λ p. subst (λ (s : ImportState). IsRecorded s p) (sym state) (recorded p);
  lasts = λ e. lasts_through finished (finished_by r) (state_in given) (state_by r) (sym same) (sym state) (lasts (sym (ap is_lasting queued) ∙ e));
  watches = λ e. ap is_apart queued ∙ watches (sym (ap is_lasting queued) ∙ e);
  fresh = fresh;
  small = subst (λ (s : ImportState). s.count ≤ MAX_STEPS) (sym state) small;
}
  where
    now : AreQueued (finished_by r) (queue_by r) (state_by r)
    now = queued_through finished (finished_by r) queue (queue_by r) (state_in given) (state_by r) (sym same) (sym queued) (sym state) are_queued

-- where nothing is tried, and nothing is to be looked at along globs, the queue is up to date
pub up_to_date_after : (f : Maps) (queue : ImportQueue) (s : ImportState) (r : Resolver) → IsRunning r None → r.worklist.current ≡ [] → r.worklist.end ≡ 0
    → finished_by r ≡ f → queue ≡ queue_by r → s ≡ state_by r → IsUpToDate f queue s
up_to_date_after f queue s r running over outside same queued state =
    subst (λ (x : Maps). IsUpToDate x queue s) same
    (subst (λ (x : ImportQueue). IsUpToDate (finished_by r) x s) (sym queued)
    (subst (λ (x : ImportState). IsUpToDate (finished_by r) (queue_by r) x) (sym state) (record {
      queued =
          record {
            settled = running.begun.settled;
            count = running.begun.count;
            unfinished = running.begun.unfinished;
            there = running.begun.there;
            over = over;
            outside = outside;
          };
      still = nothing_along (view_of (scopes_of (finished_by r) (state_by r))) r.globs running.begun.kept running.waved;
      importers = λ j e is. ltb-true e.importer (length r.scopes.map.modules) (running.begun.kept.there j e is);
      lasts = running.begun.lasts;
      watches = running.begun.watches;
    })))

pub steps_through : (f g : Maps) (a b c d : ImportState) → f ≡ g → a ≡ c → d ≡ b → Steps f a b → Steps g c d
steps_through f g a b c d same first last steps =
    subst (λ (x : Maps). Steps x c d) same (subst (λ (s : ImportState). Steps f s d) first (subst (λ (s : ImportState). Steps f a s) (sym last) steps))

pub rests_through : (f g : Maps) (b d : ImportState) → f ≡ g → d ≡ b → IsAtRest f b → IsAtRest g d
rests_through f g b d same last rests = subst (λ (x : Maps). IsAtRest x d) same (subst (λ (s : ImportState). IsAtRest f s) (sym last) rests)

pub spent_through : (f g : Maps) (a c : ImportState) → f ≡ g → a ≡ c → IsSpent f a → IsSpent g c
spent_through f g a c same first spent = subst (λ (x : Maps). IsSpent x c) same (subst (λ (s : ImportState). IsSpent f s) first spent)

-- what was reported on the way from where imports stood to where they are left
pub changes_through : (given left : Imports) (r new : Resolver) (told : List PathSlot) → state_by r ≡ state_in given → state_in left ≡ state_by new → told
    ≡ new.reported.items → r.reported.items ≡ []
    → Reports r new → ScopesChangeAmong given.map left.map given.local told
changes_through given left r new told first last listed none reports =
    subst (λ (ss : List PathSlot). ScopesChangeAmong given.map left.map given.local ss)
    (sym (listed ∙ reports.listed ∙ ap (λ (xs : List PathSlot). xs ++ reports.more) none))
    (subst (λ (s : ImportState). ScopesChangeAmong s.map left.map s.local reports.more) first
    (subst (λ (s : ImportState). ScopesChangeAmong r.scopes.map s.map r.local reports.more) (sym last) reports.among))
