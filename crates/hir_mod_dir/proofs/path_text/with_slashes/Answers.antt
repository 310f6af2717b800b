-- `replace` writes a slash for each backslash.
use Rattle.std.proofs.Common.{◌≡◌, ℕ, [], ◌∷◌, refl, map, string_bytes}
use Rattle.std.specs.Str.Pattern.{FindsChar}
use Rattle.std.specs.Str.Replace.{ReplacesMatches}
use Rattle.std.proofs.lemmas.Result.{IfOk-weaker}
use Rattle.hir_mod_dir.specs.PathText.{slash_for_backslash}
use Rattle.hir_mod_dir.proofs.PathTextLemmas.{replaced}
use Rattle.hir_mod_dir.proofs.path_text.with_slashes.Goals as goal

pub returns : goal.returns
returns c = record {
  ok = IfOk-weaker _
      (λ t. (n : ℕ) × ReplacesMatches FindsChar (λ p q. q ≡ p) (47 ∷ []) n 92 c.args.text.now (string_bytes t))
      (λ t. string_bytes t ≡ map slash_for_backslash c.args.text.now)
      (λ t h. replaced h.0 92 c.args.text.now (string_bytes t) refl h.1)
      c.replace.ensures.ok;
}
