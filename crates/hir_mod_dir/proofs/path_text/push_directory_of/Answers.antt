-- What stands before the last slash is written with that slash.
use Rattle.std.proofs.Common.{◌∙◌, ◌++◌, ◌∷◌, [], sym, ap, string_bytes}
use Rattle.std.proofs.lemmas.List.{append_assoc, append-nil}
use Rattle.hir_mod_dir.proofs.PathTextLemmas.{directory_of_none, directory_of_split}
use Rattle.hir_mod_dir.proofs.path_text.push_directory_of.Goals as goal

pub returns-in_ok-push : goal.returns-in_ok-push
unfolding lib.Utf8.encode
returns-in_ok-push c = record {
  ok =
      c.in_ok-push.ensures.bytes
      ∙ ap (λ l. l ++ 47 ∷ []) c.in_ok-push_str.ensures.bytes
      ∙ append_assoc (string_bytes c.args.to.now) c.in-Some.front.now (47 ∷ [])
      ∙ ap (λ l. string_bytes c.args.to.now ++ l) (sym (directory_of_split c.args.text.now c.in-Some.front.now _ c.in-Some.ensures.cases));
}

pub returns-in_default : goal.returns-in_default
returns-in_default c = record {
  ok =
      sym (append-nil (string_bytes c.args.to.now))
      ∙ ap (λ l. string_bytes c.args.to.now ++ l) (sym (directory_of_none c.args.text.now c.in_default.ensures.cases));
}
