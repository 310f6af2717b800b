-- Above the empty path is the empty path.
use Rattle.std.proofs.Common.{◌∙◌, ◌++◌, sym, ap, string_bytes}
use Rattle.std.proofs.lemmas.List.{append-nil}
use Rattle.hir_mod_dir.proofs.PathTextLemmas.{parent_of_none}
use Rattle.hir_mod_dir.proofs.path_text.push_parent_of.Goals as goal

pub returns-in-None : goal.returns-in-None
unfolding lib.Utf8.encode
returns-in-None c = record {
  ok =
      sym (append-nil (string_bytes c.args.to.now))
      ∙ ap (λ l. string_bytes c.args.to.now ++ l) (sym (parent_of_none c.args.path.now c.requires c.in-None.ensures.cases));
}
