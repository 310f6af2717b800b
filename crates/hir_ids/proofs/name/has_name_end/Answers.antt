-- `any` stops at the first character that ends a name, and there is none before.
use Rattle.std.proofs.Common.{rules}
use Rattle.std.proofs.lemmas.Iterator.{YieldsList-from_chars}
use Rattle.std.proofs.lemmas.Iterator.Search.{any_from_yields_List}
use borrow.Author.Tests.{tests}
use Rattle.hir_ids.specs.NameForm.{ends_name}
use Rattle.hir_ids.proofs.name.has_name_end.Goals as goal

pub returns : goal.returns
returns c = record {
  value =
      any_from_yields_List ends_name _ _ _ c.any.ensures.ran
      (YieldsList-from_chars c.args.text.now c.utf8.text c.chars.ensures.rest)
      (λ x b q k. search (rules, tests));
}
