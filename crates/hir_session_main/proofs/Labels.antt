-- Where a label is found, and the word behind it is a number, that stands behind the label.
use Rattle.std.proofs.Common.{◌≡◌, ◌∙◌, ℕ, List, ◌++◌, Bor, Some, IfSome, Result, Ok, Err, ap, sym, drop}
use Rattle.std.specs.Result.{result_ok}
use Rattle.std.specs.Str.Iter.{split_whitespace_rest, split_whitespace_steps}
use Rattle.std.specs.Str.Parse.{ParsesUnsigned}
use Rattle.std.specs.Str.Pattern.{FindsText}
use Rattle.hir_session_main.specs.Labels.{StandsBehind}

pub found_behind : {E : Type 0} (label text : List ℕ) (i j : ℕ) → FindsText label text (Some (i, j))
    → (from : _) (to : _) (word : Bor (List ℕ)) → split_whitespace_rest from ≡ drop j text → split_whitespace_steps from (Some word) to
    → (parsed : Result ℕ E) → ParsesUnsigned 64 10 word.now parsed → IfSome (result_ok parsed) (StandsBehind label text)
found_behind label text i j finds from to word at steps (Ok number) parses = record {
  place = i;
  gap = steps.0;
  word = word.now;
  rest = split_whitespace_rest to;
  stands = finds.1.split ∙ ap (λ (bs : List ℕ). label ++ bs) (sym at ∙ steps.1);
  first = finds.0;
  white = steps.3;
  unbroken = steps.4;
  ends = steps.5;
  numeral = parses.0.0;
  value = sym parses.1;
}
found_behind label text i j finds from to word at steps (Err error) parses = tt
