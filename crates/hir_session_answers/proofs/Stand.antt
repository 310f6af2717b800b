-- An answer that is given stands on what is kept.
use Rattle.std.proofs.Common.{◌≡◌, List, Option, Some, None, option_map, Result, Ok, refl, sym, ap, subst, ◌∙◌}
use Rattle.hir_session_state.specs.HirIds.declared.ids.Crate.{Crate}
use Rattle.hir_session_state.specs.HirIds.declared.ids.MapId.{MapId}
use Rattle.hir_session_state.specs.HirIds.declared.ids.ModuleId.{ModuleId}
use Rattle.hir_session_state.specs.HirBase.ModPath.{Path}
use Rattle.hir_session_state.specs.HirBase.Place.{PlaceValue}
use Rattle.hir_session_state.specs.HirDefMapRules.Closed.{PathsLeadToWhatIsThere}
use Rattle.hir_session_state.specs.HirDefMapRules.Scoping.{resolution_of}
use Rattle.hir_session_state.specs.HirDefMapRules.Sources.{PathsAnswerFromSources}
use Rattle.hir_session_state.specs.HirDefMapRules.Overlay.{Maps, overlay}
use Rattle.hir_session_state.specs.HirNameres.WorldParts.{among}
use Rattle.hir_session_state.specs.HirDefCollectorLaws.Sources.{RunsBindFromSources}
use Rattle.hir_session_state.specs.HirMessages.declared.answer.Answer.{Answer}
use Rattle.hir_session_state.specs.HirMessages.declared.command.MacroStyle.{MacroStyle}
use Rattle.hir_session_state.specs.HirMessages.declared.command.Shadow.{Shadow}
use Rattle.hir_session_state.specs.HirMessages.declared.reply.Status.{Status}
use Rattle.hir_session_state.specs.HirMessages.declared.reply.Status.TheVariants as status
use Rattle.hir_session_state.specs.SessionState.{SessionState, Resolution, kept_of, module_of, read_of, IsSound}
use Rattle.hir_session_state.specs.declared.error.QueryError.{QueryError}
use Rattle.hir_session_answers.specs.Status.{status_of}
use Rattle.hir_session_answers.specs.Answers.{answer_at, answer_by, answer_from, answer_in, answer_kept, answer_of, asking_of}
use Rattle.hir_session_answers.specs.AnswersStand.{AnswersStand, StandsAt}
use Rattle.hir_session_answers.specs.LeavesOut.{LeavesNothingOut}
use Rattle.hir_session_answers.proofs.Differ.{unmarked_behind}
use Rattle.hir_session_answers.proofs.LeftOut.{place_there, read_kept, whole}
use Rattle.hir_session_state.proofs.Standing.{kept_gives, unmarked}

pub on_option : {A X : Type 0} (o : Option X) → (o ≡ None → A) → ((x : X) → o ≡ Some x → A) → A
on_option None f g = f refl
on_option (Some x) f g = g x refl

-- where the status is current, the answer is the one over what is kept
pub answer_of-current : (s : SessionState) (place : PlaceValue) (path : Path) (shadow : Shadow) (style : Option MacroStyle) {r : Result Answer QueryError}
    → status.Current ≡ status_of s place → answer_kept s place path shadow style ≡ r → answer_of s place path shadow style ≡ r
answer_of-current s place path shadow style current over = ap (λ (now : Status). answer_by now (answer_kept s place path shadow style)) (sym current) ∙ over

-- what is answered over what is kept
pub given : (s : SessionState) (place : PlaceValue) (path : Path) (shadow : Shadow) (style : Option MacroStyle) (m : ModuleId) (found : Resolution)
    (maps : Maps) (a : Answer)
    → module_of s place ≡ Some m → kept_of s m.map ≡ Some found → maps ≡ overlay (read_of s m.map) found.map
    → a ≡ answer_in s.tables maps found.local m path shadow style → answer_kept s place path shadow style ≡ Ok a
given s place path shadow style m found maps a named kept over is =
    ap (λ (o : Option ModuleId). answer_at s o path shadow style) named
    ∙ ap (λ (o : Option Resolution). answer_from s.tables (read_of s m.map) o m path shadow style) kept
    ∙ ap (λ (x : Answer). Ok x) (sym (is ∙ ap (λ (ms : Maps). answer_in s.tables ms found.local m path shadow style) over))

-- what is there gives the same
pub constant : {A B : Type 0} {x y : B} (o : Option A) → Some x ≡ option_map (λ (_ : A). y) o → x ≡ y
constant None e = absurd (let wrong : ⊥ = cc in wrong)
constant (Some a) e = cc

-- the same maps are read
pub same_read : {xs ys : List Crate} {gs hs : List ModuleId} {f g : Maps} → xs ≡ ys → gs ≡ hs → f ≡ g → among xs gs f ≡ among ys hs g
same_read e k h = λ i. among (e i) (k i) (h i)

-- what is kept stands on the present sources, and on what stands behind it
pub stands_at : (s : SessionState) → IsSound s → (id : MapId) (r : Resolution) → kept_of s id ≡ Some r → StandsAt s id r
stands_at s sound id r is =
    let gives = kept_gives s sound id r is in
    record {
      kept = is;
      from = gives.from;
      begun = gives.begun;
      present = gives.resolved;
      behind = λ j b. sound.current j (unmarked_behind sound (unmarked s id r is) b);
    }

-- an answer that is given is the one over what is kept
given_over : (now : Status) (x : Result Answer QueryError) (a : Answer) → answer_by now x ≡ Ok a → x ≡ Ok a
given_over status.Current x a e = e
given_over status.Stale x a e = absurd (let wrong : ⊥ = cc in wrong)
given_over status.Unknown x a e = absurd (let wrong : ⊥ = cc in wrong)

same_answer : {a b : Answer} {x : Result Answer QueryError} → x ≡ Ok a → x ≡ Ok b → a ≡ b
same_answer {a} {b} e f = let both : Ok a ≡ Ok b = sym e ∙ f in cc

-- an answer that is given stands
pub stands : RunsBindFromSources → PathsAnswerFromSources → PathsLeadToWhatIsThere → (s : SessionState) (place : PlaceValue) (path : Path) (shadow : Shadow)
    (style : Option MacroStyle) (a : Answer) → IsSound s
    → answer_of s place path shadow style ≡ Ok a → AnswersStand s place path shadow style a
stands runs answers leads s place path shadow style a sound h =
    go (module_of s place) refl (given_over (status_of s place) (answer_kept s place path shadow style) a h)
  where
    go : (o : Option ModuleId) → module_of s place ≡ o → answer_at s o path shadow style ≡ Ok a → AnswersStand s place path shadow style a
    go None named e = absurd (let wrong : ⊥ = cc in wrong)
    go (Some m) named e =
        let there = place_there s sound place m named in
        let r : Resolution = there.found in
        let given : answer_in s.tables (overlay (read_of s m.map) r.map) r.local m path shadow style ≡ a =
        same_answer refl (sym (ap (λ (o : Option Resolution). answer_from s.tables (read_of s m.map) o m path shadow style) there.is) ∙ e) in
        let all : LeavesNothingOut (resolution_of (overlay (read_of s m.map) r.map) (asking_of r.local shadow style) m path).resolved_def
        (answer_in s.tables (overlay (read_of s m.map) r.map) r.local m path shadow style) =
        subst (λ (read : Maps). LeavesNothingOut (resolution_of (overlay read r.map) (asking_of r.local shadow style) m path).resolved_def
        (answer_in s.tables (overlay read r.map) r.local m path shadow style)) (sym (read_kept s m.map r there.is))
        (whole runs answers leads s sound m r there.is there.there path shadow style) in
        record {
          asked_from = m;
          named = named;
          found = r;
          stands = stands_at s sound m.map r there.is;
          whole = subst (LeavesNothingOut (resolution_of (overlay (read_of s m.map) r.map) (asking_of r.local shadow style) m path).resolved_def) given all;
          is = sym given;
        }
