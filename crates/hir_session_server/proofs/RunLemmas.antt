-- Runs over lines, one after another.
use Rattle.std.proofs.Common.{◌≡◌, ℕ, List, [], ◌∷◌, ◌++◌, true, false, inl, inr, Option, Result, Ok, Err, OnOk, IfErr, nat_lt, length, refl, sym, ap, ◌∙◌}
use Rattle.std.proofs.Common.{subst, append_assoc, append-nil, arith}
use Rattle.std.proofs.lemmas.Bool.Decides.{nat_tests}
use Rattle.std.specs.Io.KnownBytes.{Appends, IsAtEnd}
use Rattle.std.proofs.KnownBytes.{Appends-nil, Appends-trans}
use Rattle.hir_session_machine.specs.HirWire.Replies.{is_fixed}
use Rattle.hir_session_machine.specs.HirMessages.declared.reply.Reply.{Reply}
use Rattle.hir_session_machine.specs.HirMessages.declared.reply.Reply.TheVariants as reply
use Rattle.hir_session_machine.specs.HirLines.declared.output.Fault.{Fault}
use Rattle.hir_session_machine.specs.HirLines.declared.output.Fault.TheVariants as fault
use Rattle.hir_session_server.specs.declared.server.Server.{Server}
use Rattle.hir_session_machine.specs.Machine.{MachineState, first_state}
use Rattle.hir_session_machine.specs.HirLines.Output.{WritesPart, IsToldAs, reply_line}
use Rattle.hir_session_machine.specs.Headline.{RepliesHoldTheHeadline}
use Rattle.hir_session_machine.specs.HirLines.Lines.{with_last, ended_lines, lines_of, cut_from, HasNoEnd}
use Rattle.hir_session_machine.specs.AnsweredLines.{AnswersLines, AnswersInput}
use Rattle.hir_session_server.specs.Runs.{BrokenAt, BrokenOff, Answered, Ends, replies_text}
use Rattle.hir_session_server.specs.Serving.{Told, BreaksOff, Fed, Finished}
use Rattle.hir_session_machine.specs.HirLines.OpenLines.{Holds}
use Rattle.hir_session_machine.proofs.HirLines.CutLemmas.{cut_from-append, cut_from-ended, cut_from-plain, with_last-nil}
use Rattle.hir_session_machine.proofs.HirLines.PartLemmas.{WritesPart-after}

-- a run goes on by another
pub AnswersLines-append : (a : MachineState) (ls : List (List ℕ)) (rs : List Reply) (b : MachineState) (ms : List (List ℕ)) (qs : List Reply) (c : MachineState)
    → AnswersLines a ls rs b → AnswersLines b ms qs c → AnswersLines a (ls ++ ms) (rs ++ qs) c
AnswersLines-append a [] [] b ms qs c first second = subst (λ s. AnswersLines s ms qs c) first second
AnswersLines-append a (l ∷ ls) (r ∷ rs) b ms qs c first second = (first.0, first.1, AnswersLines-append first.0 ls rs b ms qs c first.2 second)
AnswersLines-append a [] (r ∷ rs) b ms qs c first second = absurd first
AnswersLines-append a (l ∷ ls) [] b ms qs c first second = absurd first

pub replies_text-append : (rs qs : List Reply) → replies_text (rs ++ qs) ≡ replies_text rs ++ replies_text qs
replies_text-append [] qs = refl
replies_text-append (r ∷ rs) qs =
    ap (λ t. reply_line r ++ t) (replies_text-append rs qs) ∙ sym (append_assoc (reply_line r) (replies_text rs) (replies_text qs))

-- a line that is answered so may be told so
pub told_of : (old : MachineState) (line : List ℕ) (answer told : Reply) (new : MachineState) → AnswersInput old line answer new
    → (is_fixed answer ≡ false → AnswersInput old line reply.Memory new) → IsToldAs answer told → AnswersInput old line told new
told_of old line answer told new step or_memory how = elim how [
  | inl same ↦ subst (λ r. AnswersInput old line r new) (sym same) step
  | inr lost ↦ subst (λ r. AnswersInput old line r new) (sym lost.1) (or_memory lost.0)
]

-- the line that a piece and a line end close was told
pub fed_one : (old now new : Server) (part piece : List ℕ) (before after : Option (List ℕ)) → HasNoEnd piece → now.machine ≡ old.machine
    → Told now (part ++ piece) new before after → Fed old part (piece ++ 10 ∷ []) new before after
fed_one old now new part piece before after plain same t =
    let cut = sym (cut_from-ended piece plain part) in
    record {
      answers = t.0 ∷ [];
      answered = subst (λ m. AnswersLines m (cut_from part (piece ++ 10 ∷ [])).0 (t.0 ∷ []) new.machine) same
          (subst (λ k. AnswersLines now.machine k.0 (t.0 ∷ []) new.machine) cut (new.machine, t.1, refl));
      written = subst (Appends before after) (sym (append-nil (reply_line t.0))) t.2;
      open_line = subst (λ k. Holds new.line k.1) cut t.3;
    }

pub broken_one : (old now : Server) (part piece : List ℕ) (before after : Option (List ℕ)) → HasNoEnd piece → now.machine ≡ old.machine
    → BreaksOff now (part ++ piece) before after → BrokenAt old.machine (cut_from part (piece ++ 10 ∷ [])).0 before after
broken_one old now part piece before after plain same t =
    let cut = sym (cut_from-ended piece plain part) in
    subst (λ m. BrokenAt m (cut_from part (piece ++ 10 ∷ [])).0 before after) same (subst (λ k. BrokenAt now.machine k.0 before after) cut (record {
      lines = (part ++ piece) ∷ [];
      more = [];
      answers = t.0 ∷ [];
      last = t.1;
      split = refl;
      answered = (t.1, t.2, refl);
      written = subst (WritesPart before after) (sym (append-nil (reply_line t.0))) t.3;
    }))

-- what follows the last line end opens a line
pub fed_rest : (old now : Server) (part piece : List ℕ) (known : Option (List ℕ)) → HasNoEnd piece → now.machine ≡ old.machine
    → Holds now.line (part ++ piece) → Fed old part piece now known known
fed_rest old now part piece known plain same held =
    let cut = sym (cut_from-plain piece plain part) in
    record {
      answers = [];
      answered = subst (λ k. AnswersLines old.machine k.0 [] now.machine) cut same;
      written = Appends-nil known;
      open_line = subst (λ k. Holds now.line k.1) cut held;
    }

pub Fed-append : (a b c : Server) (part xs ys : List ℕ) (w0 w1 w2 : Option (List ℕ)) → Fed a part xs b w0 w1 → Fed b (cut_from part xs).1 ys c w1 w2
    → Fed a part (xs ++ ys) c w0 w2
Fed-append a b c part xs ys w0 w1 w2 first second = record {
  answers = first.answers ++ second.answers;
  answered =
      subst (λ k. AnswersLines a.machine k.0 (first.answers ++ second.answers) c.machine) (sym (cut_from-append part xs ys))
      (AnswersLines-append _ _ _ _ _ _ _ first.answered second.answered);
  written = subst (Appends w0 w2) (sym (replies_text-append first.answers second.answers)) (Appends-trans w0 w1 w2 _ _ first.written second.written);
  open_line = subst (λ k. Holds c.line k.1) (sym (cut_from-append part xs ys)) second.open_line;
}

pub BrokenAt-after : (a b : Server) (part xs ys : List ℕ) (w0 w1 w2 : Option (List ℕ)) → Fed a part xs b w0 w1
    → BrokenAt b.machine (cut_from (cut_from part xs).1 ys).0 w1 w2 → BrokenAt a.machine (cut_from part (xs ++ ys)).0 w0 w2
BrokenAt-after a b part xs ys w0 w1 w2 first second = record {
  lines = (cut_from part xs).0 ++ second.lines;
  more = second.more;
  answers = first.answers ++ second.answers;
  last = second.last;
  split =
      ap (λ k. k.0) (cut_from-append part xs ys) ∙ ap (λ ls. (cut_from part xs).0 ++ ls) second.split ∙ sym
      (append_assoc (cut_from part xs).0 second.lines second.more);
  answered = AnswersLines-append _ _ _ _ _ _ _ first.answered second.answered;
  written = subst (WritesPart w0 w2) (sym (replies_text-append first.answers second.answers)) (WritesPart-after w0 w1 w2 _ _ first.written second.written);
}

pub BrokenAt-longer : (a : MachineState) (part xs ys : List ℕ) (w0 w1 : Option (List ℕ)) → BrokenAt a (cut_from part xs).0 w0 w1
    → BrokenAt a (cut_from part (xs ++ ys)).0 w0 w1
BrokenAt-longer a part xs ys w0 w1 first = record {
  lines = first.lines;
  more = first.more ++ (cut_from (cut_from part xs).1 ys).0;
  answers = first.answers;
  last = first.last;
  split =
      ap (λ k. k.0) (cut_from-append part xs ys) ∙ ap (λ ls. ls ++ (cut_from (cut_from part xs).1 ys).0) first.split ∙ append_assoc first.lines first.more
      (cut_from (cut_from part xs).1 ys).0;
  answered = first.answered;
  written = first.written;
}

-- a run of the ended lines, and then of the last
pub run_to_end : (a : MachineState) (input : List ℕ) (rs : List Reply) (b : MachineState) (qs : List Reply) (c : MachineState)
    → AnswersLines a (ended_lines input) rs b → AnswersLines b (with_last [] (cut_from [] input).1) qs c → AnswersLines a (lines_of input) (rs ++ qs) c
run_to_end a input rs b qs c first second =
    subst (λ ls. AnswersLines a ls (rs ++ qs) c) (sym (with_last-nil (ended_lines input) (cut_from [] input).1))
    (AnswersLines-append a _ rs b _ qs c first second)

pub told_last : (old new : Server) (part : List ℕ) (before after : Option (List ℕ)) → nat_lt 0 (length part) ≡ true → Told old part new before after
    → Finished old.machine part before after
told_last old new [] before after some t = absurd (cc)
told_last old new (b ∷ bs) before after some t = record {
  answers = t.0 ∷ [];
  last = new.machine;
  answered = (new.machine, t.1, refl);
  written = subst (Appends before after) (sym (append-nil (reply_line t.0))) t.2;
}

pub broken_last : (old : Server) (part : List ℕ) (before after : Option (List ℕ)) → nat_lt 0 (length part) ≡ true → BreaksOff old part before after
    → BrokenAt old.machine (with_last [] part) before after
broken_last old [] before after some t = absurd (cc)
broken_last old (b ∷ bs) before after some t = record {
  lines = (b ∷ bs) ∷ [];
  more = [];
  answers = t.0 ∷ [];
  last = t.1;
  split = refl;
  answered = (t.1, t.2, refl);
  written = subst (WritesPart before after) (sym (append-nil (reply_line t.0))) t.3;
}

pub none_last : (s : Server) (part : List ℕ) (known : Option (List ℕ)) → nat_lt 0 (length part) ≡ false → Finished s.machine part known known
none_last s [] known none = record { answers = []; last = s.machine; answered = refl; written = Appends-nil known }
none_last s (b ∷ bs) known none = absurd (grind (arith, nat_tests))

pub so_far : RepliesHoldTheHeadline → (first now : Server) (input : List ℕ) (w0 w1 : Option (List ℕ)) → first.machine ≡ first_state
    → Fed first [] input now w0 w1 → Answered (ended_lines input) w0 w1
so_far law first now input w0 w1 empty fed = let done = subst (λ a. AnswersLines a (ended_lines input) fed.answers now.machine) empty fed.answered in record {
  answers = fed.answers;
  last = now.machine;
  answered = done;
  headline = law (ended_lines input) fed.answers now.machine done;
  written = fed.written;
}

BrokenAt-tail : (first now : Server) (input : List ℕ) (w0 w1 w2 : Option (List ℕ)) → first.machine ≡ first_state → Fed first [] input now w0 w1
    → BrokenAt now.machine (with_last [] (cut_from [] input).1) w1 w2 → BrokenAt first_state (lines_of input) w0 w2
BrokenAt-tail first now input w0 w1 w2 empty fed broken = record {
  lines = ended_lines input ++ broken.lines;
  more = broken.more;
  answers = fed.answers ++ broken.answers;
  last = broken.last;
  split =
      with_last-nil (ended_lines input) (cut_from [] input).1 ∙ ap (λ ls. ended_lines input ++ ls) broken.split ∙ sym
      (append_assoc (ended_lines input) broken.lines broken.more);
  answered = AnswersLines-append _ _ _ _ _ _ _ (subst (λ a. AnswersLines a (ended_lines input) fed.answers now.machine) empty fed.answered) broken.answered;
  written = subst (WritesPart w0 w2) (sym (replies_text-append fed.answers broken.answers)) (WritesPart-after w0 w1 w2 _ _ fed.written broken.written);
}

-- the replies to the lines that were answered hold the headline
pub broken_off : {all : List (List ℕ)} {before after : Option (List ℕ)} → RepliesHoldTheHeadline → BrokenAt first_state all before after
    → BrokenOff all before after
broken_off law broken = record { broken = broken; headline = law broken.lines broken.answers broken.last broken.answered }

-- the last line was answered, or the write of its reply failed
pub ends_at : RepliesHoldTheHeadline → (r : Result (Unit {0}) Fault) (first now : Server) (input : List ℕ) (left w0 w1 w2 : Option (List ℕ)) → first.machine
    ≡ first_state → IsAtEnd left → Fed first [] input now w0 w1
    → OnOk r (Finished now.machine (cut_from [] input).1 w1 w2)
    → IfErr r (λ e. (e ≡ fault.WriteFault) × BrokenAt now.machine (with_last [] (cut_from [] input).1) w1 w2) → Ends r input left w0 w2
ends_at law (Ok done) first now input left w0 w1 w2 empty end fed ok err = (
  end,
  record {
    answers = fed.answers ++ ok.answers;
    last = ok.last;
    answered =
        run_to_end first_state input fed.answers now.machine ok.answers ok.last (subst (λ a. AnswersLines a (ended_lines input) fed.answers now.machine) empty
        fed.answered) ok.answered;
    headline = law (lines_of input) (fed.answers ++ ok.answers) ok.last
        (run_to_end first_state input fed.answers now.machine ok.answers ok.last (subst (λ a. AnswersLines a (ended_lines input) fed.answers now.machine) empty
        fed.answered) ok.answered);
    written = subst (Appends w0 w2) (sym (replies_text-append fed.answers ok.answers)) (Appends-trans w0 w1 w2 _ _ fed.written ok.written);
  },
)
ends_at law (Err fault.ReadFault) first now input left w0 w1 w2 empty end fed ok err = let never = err.0 in absurd (cc)
ends_at law (Err fault.WriteFault) first now input left w0 w1 w2 empty end fed ok err = broken_off law (BrokenAt-tail first now input w0 w1 w2 empty fed err.1)

-- the write of a reply failed before the input had ended
pub breaks_at : (first now : Server) (input bytes : List ℕ) (w0 w1 w2 : Option (List ℕ)) → first.machine ≡ first_state → Fed first [] input now w0 w1
    → BrokenAt now.machine (cut_from (cut_from [] input).1 bytes).0 w1 w2 → BrokenAt first_state (lines_of (input ++ bytes)) w0 w2
breaks_at first now input bytes w0 w1 w2 empty fed broken =
    let b = BrokenAt-after first now [] input bytes w0 w1 w2 fed broken in
    let tail = with_last [] (cut_from [] (input ++ bytes)).1 in
    record {
      lines = b.lines;
      more = b.more ++ tail;
      answers = b.answers;
      last = b.last;
      split = with_last-nil (ended_lines (input ++ bytes)) (cut_from [] (input ++ bytes)).1 ∙ ap (λ ls. ls ++ tail) b.split ∙ append_assoc b.lines b.more tail;
      answered = subst (λ a. AnswersLines a b.lines b.answers b.last) empty b.answered;
      written = b.written;
    }
