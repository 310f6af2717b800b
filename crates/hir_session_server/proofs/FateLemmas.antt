-- A line that has ended, by what became of its bytes.
use Rattle.std.proofs.Common.{◌≡◌, ℕ, ◌≤◌, ◌<◌, List, Bool, length, true, false, refl, sym, subst, ◌∙◌, inl, inr, arith, nat_le}
use Rattle.std.proofs.lemmas.Bool.{le-leb}
use Rattle.std.proofs.lemmas.Bool.Decides.{leb_tells}
use Rattle.hir_session_machine.specs.HirBase.declared.limit.Limit.TheVariants as limit
use Rattle.hir_session_machine.specs.HirMessages.declared.reply.Reply.{Reply}
use Rattle.hir_session_machine.specs.HirMessages.declared.reply.Reply.TheVariants as reply
use Rattle.hir_session_machine.specs.HirLines.declared.open_line.TheConstants.{LINE_LIMIT}
use Rattle.hir_session_machine.specs.HirLines.declared.open_line.Fate.{Fate}
use Rattle.hir_session_machine.specs.HirLines.declared.open_line.Fate.TheVariants as fate
use Rattle.hir_session_machine.specs.HirLines.declared.open_line.OpenLine.{OpenLine}
use Rattle.hir_session_machine.specs.Machine.{MachineState, AnswersLine}
use Rattle.hir_session_machine.specs.AnsweredLines.{AnswersInput, AnswersWithin}
use Rattle.hir_session_machine.specs.HirLines.OpenLines.{Holds, HoldsPart}

within : (line : List ℕ) → length line ≤ LINE_LIMIT → nat_le (length line) LINE_LIMIT ≡ true
within line fits = le-leb (length line) LINE_LIMIT fits

above : (line : List ℕ) → LINE_LIMIT < length line → nat_le (length line) LINE_LIMIT ≡ false
above line long = elim (leb_tells (length line) LINE_LIMIT) [
  | inl fits ↦ absurd (omega (arith, fits.1, long))
  | inr apart ↦ apart.0
]

-- a kept line is what the machine was asked
pub answered_kept : (l : OpenLine) (line slice : List ℕ) (old new : MachineState) (answer : Reply) → l.fate ≡ fate.Kept → slice ≡ l.kept.items → Holds l line
    → AnswersLine old slice answer new → AnswersInput old line answer new
answered_kept l line slice old new answer is same held answered =
    let holds : HoldsPart fate.Kept l.kept.items l.length line = subst (λ (f : Fate). HoldsPart f l.kept.items l.length line) is held in
    let whole : slice ≡ line = same ∙ holds.0 in
    subst (λ (b : Bool). AnswersWithin b old line answer new) (sym (within line holds.2))
    (inl (subst (λ (s : List ℕ). AnswersLine old s answer new) whole answered))

-- a line that found no memory changes nothing
pub answered_refused : (l : OpenLine) (line : List ℕ) (old : MachineState) → l.fate ≡ fate.Refused → Holds l line → AnswersInput old line reply.Memory old
answered_refused l line old is held =
    let holds : HoldsPart fate.Refused l.kept.items l.length line = subst (λ (f : Fate). HoldsPart f l.kept.items l.length line) is held in
    subst (λ (b : Bool). AnswersWithin b old line reply.Memory old) (sym (within line holds.1)) (inr (refl, refl))

-- nor does one above the limit
pub answered_too_large : (l : OpenLine) (line : List ℕ) (old : MachineState) → l.fate ≡ fate.TooLarge → Holds l line
    → AnswersInput old line (reply.TooLarge limit.Line) old
answered_too_large l line old is held =
    let holds : HoldsPart fate.TooLarge l.kept.items l.length line = subst (λ (f : Fate). HoldsPart f l.kept.items l.length line) is held in
    subst (λ (b : Bool). AnswersWithin b old line (reply.TooLarge limit.Line) old) (sym (above line holds)) (refl, refl)
