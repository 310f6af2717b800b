-- A text of which a front was written.
use Rattle.std.proofs.Common.{◌≢◌, ℕ, List, [], ◌∷◌, ◌++◌, Option, refl, sym, ap, ◌∙◌, append_assoc}
use Rattle.std.specs.Io.KnownBytes.{Appends}
use Rattle.std.proofs.KnownBytes.{Appends-trans}
use Rattle.hir_lines.specs.Output.{WritesPart}

-- what is left stays some text with more behind it
some_longer : (rest more : List ℕ) → rest ≢ [] → rest ++ more ≢ []
some_longer [] more some = absurd (some refl)
some_longer (x ∷ xs) more some = λ none. cc

pub WritesPart-longer : (a b : Option (List ℕ)) (text more : List ℕ) → WritesPart a b text → WritesPart a b (text ++ more)
WritesPart-longer a b text more w = record {
  part = w.part;
  rest = w.rest ++ more;
  whole = ap (λ xs. xs ++ more) w.whole ∙ append_assoc w.part w.rest more;
  some_left = some_longer w.rest more w.some_left;
  written = w.written;
}

pub WritesPart-after : (a b c : Option (List ℕ)) (text more : List ℕ) → Appends a b text → WritesPart b c more → WritesPart a c (text ++ more)
WritesPart-after a b c text more first w = record {
  part = text ++ w.part;
  rest = w.rest;
  whole = ap (λ xs. text ++ xs) w.whole ∙ sym (append_assoc text w.part w.rest);
  some_left = w.some_left;
  written = Appends-trans a b c text w.part first w.written;
}
