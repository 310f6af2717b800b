use Rattle.std.proofs.Common.{◌≡◌, ◌≢◌, ℕ, List, [], ◌∷◌, ◌++◌, false, ◌==◌, length, take, drop, refl, sym, ap, ◌∙◌, subst, append_assoc, append-nil}
use Rattle.std.proofs.Common.{take-append-drop, drop_of_length-le, rules}
use Rattle.std.proofs.lemmas.List.{take_rest}
use Rattle.std.specs.Io.KnownBytes.{Appends}
use Rattle.std.proofs.KnownBytes.{Appends-trans, Appends-kept}
use Rattle.hir_lines.proofs.output.send.Goals as goal

moves_front : (all done rest : List ℕ) (n : ℕ) → all ≡ done ++ rest → all ≡ (done ++ take n rest) ++ drop n rest
moves_front all done rest n e = e ∙ ap (λ l. done ++ l) (sym (take-append-drop n rest)) ∙ sym (append_assoc done (take n rest) (drop n rest))

some_rest : (rest : List ℕ) → false ≡ (length rest == 0) → rest ≢ []
some_rest [] some = absurd (cc)
some_rest (x ∷ xs) some = λ none. cc

pub loop-rest-preserved : goal.loop-rest-preserved
loop-rest-preserved g c =
    let (done, split, appended) = c.loop-rest.invariant in
    let rest = c.loop-rest.rest.now in
    let n = c.in-Ok.n in (
      done ++ take n rest,
      moves_front _ done rest n split ∙ ap (λ l. (done ++ take n rest) ++ l) (sym (take_rest rest n)),
      Appends-trans _ _ _ _ _ appended
          c.in-Ok.ensures.bytes,
    )

pub returns-then-n-eq0-clause-err : goal.returns-then-n-eq0-clause-err
returns-then-n-eq0-clause-err g c =
    let (done, split, appended) = c.loop-rest.invariant in
    let rest = c.loop-rest.rest.now in
    let n = c.in-Ok.n in
    let some : rest ≢ [] = some_rest rest (sym c.loop-rest-test.true ∙ c.is_empty.ensures) in (
      refl,
      record {
        part = done ++ take n rest;
        rest = drop n rest;
        whole = moves_front _ done rest n split;
        some_left = subst (λ k. drop k rest ≢ [])
            (sym c.if-n-eq0.true) some;
        written = Appends-trans _ _ _ _ _ appended c.in-Ok.ensures.bytes;
      },
    )

pub returns-in-Err-clause-err : goal.returns-in-Err-clause-err
returns-in-Err-clause-err g c =
    let (done, split, appended) = c.loop-rest.invariant in (
      refl,
      record {
        part = done;
        rest = c.loop-rest.rest.now;
        whole = split;
        some_left = some_rest _ (sym c.loop-rest-test.true ∙ c.is_empty.ensures);
        written = Appends-kept _ _ _ _ appended c.in-Err.ensures.bytes;
      },
    )

pub returns-clause-ok : goal.returns-clause-ok
returns-clause-ok g c =
    let (done, split, appended) = c.loop-rest.invariant in
    let rest = c.loop-rest.rest.now in
    let empty : rest ≡ [] = drop_of_length-le rest {i = 0} (search rules) in
    subst (Appends _ _) (sym (split ∙ ap (λ l. done ++ l) empty ∙ append-nil done)) appended
