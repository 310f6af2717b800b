-- `strip_prefix` takes off a dollar just where one stands first.
use Rattle.std.proofs.Common.{lit<}
use Rattle.std.proofs.lemmas.Str.Pattern.{strip_prefix_char}
use Rattle.hir_base.proofs.DigitLemmas.{dollar_stripped}
use Rattle.hir_base.proofs.parse_path.after_dollar.Goals as goal

pub returns : goal.returns
returns c = record {
  value = dollar_stripped c.args.part.now _ (strip_prefix_char 36 c.args.part.now _ c.strip_prefix.ensures.cases (lit< tt));
}
