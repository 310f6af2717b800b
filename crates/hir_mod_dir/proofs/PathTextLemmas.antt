-- What cutting a text at a slash, and writing slashes into it, does.
use Rattle.std.proofs.Common.{◌≡◌, ◌≢◌, ◌≤◌, ◌<◌, ◌-◌, ◌+◌, ◌==◌, ℕ, zero, suc, Bool, true, false, not, List, [], ◌∷◌, ◌++◌, refl, ap, sym, subst, ◌∙◌, inl}
use Rattle.std.proofs.Common.{inr, length, take, drop, map, get_or, lit<, arith}
use Rattle.std.specs.List.{suffix_len}
use Rattle.std.specs.Str.{NoCharPasses}
use Rattle.std.specs.Str.Pattern.{FindsChar, RFindsChar, HasCharAt, SplitsAroundMatch}
use Rattle.std.specs.Str.Replace.{ReplacesMatches}
use Rattle.std.proofs.lemmas.List.{take-append-drop, map-append, take_all, take_more, get_or-drop, length-drop}
use Rattle.std.proofs.lemmas.List.Sums.{suffix_len_is}
use Rattle.std.proofs.lemmas.Bool.{eqb-true, or_cases}
use Rattle.std.proofs.lemmas.Bool.Decides.{nat_tests}
use Rattle.std.proofs.lemmas.Str.Pattern.{NoCharPasses-char, drop_at_char}
use Rattle.hir_mod_dir.specs.Directory.{is_directory_path}
use Rattle.hir_mod_dir.specs.PathText.{directory_of, parent_of, slash_for_backslash}

-- another byte than `\` stays
other_stays : (b : ℕ) → b ≢ 92 → slash_for_backslash b ≡ b
other_stays b h = grind (arith, nat_tests)

-- a text without `\` stays
pub unchanged : (s : List ℕ) → ((i : ℕ) → i < length s → get_or s i 0 ≢ 92) → map slash_for_backslash s ≡ s
unchanged [] h = refl
unchanged (b ∷ bs) h =
    ap (λ c. c ∷ map slash_for_backslash bs) (other_stays b (h 0 (omega arith)))
    ∙ ap (λ rest. b ∷ rest) (unchanged bs (λ i l. h (suc i) (omega arith)))

-- `replace` writes `/` for each `\`
pub replaced : (n c : ℕ) (s out : List ℕ) → c ≡ 92 → ReplacesMatches FindsChar (λ p q. q ≡ p) (47 ∷ []) n c s out → out ≡ map slash_for_backslash s
replaced zero c s out e h =
    let none : NoCharPasses (λ d. d == 92) s = subst (λ k. NoCharPasses (λ d. d == k) s) e h.0 in
    h.1 ∙ sym (unchanged s (λ i l. NoCharPasses-char 92 s i none (lit< tt) l))
replaced (suc n) c s out e h =
    let a = h.0 in
    let b = h.1 in
    let none : NoCharPasses (λ d. d == 92) (take a s) = subst (λ k. NoCharPasses (λ d. d == k) (take a s)) e h.4.0 in
    let at : HasCharAt 92 s a b = subst (λ k. HasCharAt k s a b) e h.4.1 in
    let parts : take a s ++ 92 ∷ drop b s ≡ s =
    ap (λ l. take a s ++ l) (sym (drop_at_char 92 s a b at (lit< tt))) ∙ take-append-drop a s in
    let rest : h.3 ≡ map slash_for_backslash (drop b s) =
    elim h.6 [ inl on ↦ replaced n h.2 (drop b s) h.3 (h.5 ∙ e) on.1 | inr same ↦ absurd (omega (arith, same.0, at.ends)) ] in
    h.7
    ∙ ap (λ l. take a s ++ 47 ∷ l) rest
    ∙ ap (λ l. l ++ 47 ∷ map slash_for_backslash (drop b s)) (sym (unchanged (take a s) (λ i l. NoCharPasses-char 92 (take a s) i none (lit< tt) l)))
    ∙ sym (map-append slash_for_backslash (take a s) (92 ∷ drop b s))
    ∙ ap (map slash_for_backslash) parts

-- each byte but a slash
abbrev no_slash : ℕ → Bool
no_slash b = not (b == 47)

other_is_no_slash : (b : ℕ) → b ≢ 47 → no_slash b ≡ true
other_is_no_slash b h = grind (arith, nat_tests)

slash_is_none : (b : ℕ) → b ≡ 47 → no_slash b ≡ false
slash_is_none b h = grind (arith, nat_tests)

-- a text without a slash stands in no directory
pub directory_of_none : (s : List ℕ) → NoCharPasses (λ d. d == 47) s → directory_of s ≡ []
directory_of_none s h =
    let all : suffix_len no_slash s ≡ length s - 0 = suffix_len_is no_slash s 0 0 (omega arith)
    (λ k low high. other_is_no_slash (get_or s k 0) (NoCharPasses-char 47 s k h (lit< tt) high)) (λ pos. absurd (omega arith)) in
    let none : length s - suffix_len no_slash s ≡ 0 = omega (arith, all) in
    ap (λ n. take n s) none

-- the directory is what stands before the last slash, and that slash
pub directory_of_split : (s front back : List ℕ) → SplitsAroundMatch (RFindsChar 47) s front back → directory_of s ≡ front ++ 47 ∷ []
directory_of_split s front back h =
    let i = h.0 in
    let j = h.1 in
    let at : HasCharAt 47 s i j = h.2.1 in
    let next : j ≡ i + 1 = at.ends in
    let fits : j ≤ length s = omega (arith, h.7) in
    let after : (k : ℕ) → j ≤ k → k < length s → no_slash (get_or s k 0) ≡ true = λ (k : ℕ) (low : j ≤ k) (high : k < length s).
    let within : k - j < length (drop j s) = omega (arith, length-drop j s) in
    let same : get_or (drop j s) (k - j) 0 ≡ get_or s k 0 = get_or-drop j s (k - j) 0 ∙ ap (λ m. get_or s m 0) (omega arith) in
    subst (λ b. no_slash b ≡ true) same (other_is_no_slash (get_or (drop j s) (k - j) 0) (NoCharPasses-char 47 (drop j s) (k - j) h.2.0 (lit< tt) within)) in
    let is : get_or s i 0 ≡ 47 = at.byte (lit< tt) in
    let before : 0 < j → no_slash (get_or s (j - 1) 0) ≡ false = λ (pos : 0 < j).
    slash_is_none (get_or s (j - 1) 0) (ap (λ m. get_or s m 0) (omega arith) ∙ is) in
    let left : suffix_len no_slash s ≡ length s - j = suffix_len_is no_slash s j 0 fits after before in
    let cut : length s - suffix_len no_slash s ≡ i + 1 = omega (arith, left, next, fits) in
    ap (λ n. take n s) cut ∙ take_more s i 0 (omega arith) ∙ ap (λ b. take i s ++ b ∷ []) is ∙ ap (λ l. l ++ 47 ∷ []) (sym h.3)

-- the last byte of a directory's path, unless it is empty, is a slash
last_is_slash : (path : List ℕ) → is_directory_path path ≡ true → 0 < length path → get_or path (length path - 1) 0 ≡ 47
last_is_slash path h some =
    elim (or_cases (length path == 0) (get_or path (length path - 1) 0 == 47) h) [
      | inl none ↦ absurd (omega (arith, eqb-true (length path) 0 none))
      | inr last ↦ eqb-true (get_or path (length path - 1) 0) 47 last
    ]

-- a list that isn't empty is its front and its last element
front_and_last : (path : List ℕ) → 0 < length path → path ≡ take (length path - 1) path ++ get_or path (length path - 1) 0 ∷ []
front_and_last path some =
    sym (take_all (length path - 1 + 1) path (omega arith)) ∙ take_more path (length path - 1) 0 (omega arith)

-- above the empty path is the empty path
pub parent_of_none : (path : List ℕ) → is_directory_path path ≡ true → ((front : List ℕ) → path ≢ front ++ 47 ∷ []) → parent_of path ≡ []
parent_of_none [] h none = refl
parent_of_none (x ∷ xs) h none =
    let some : 0 < length (x ∷ xs) = omega arith in
    absurd (none (take (length (x ∷ xs) - 1) (x ∷ xs))
    (front_and_last (x ∷ xs) some ∙ ap (λ b. take (length (x ∷ xs) - 1) (x ∷ xs) ++ b ∷ []) (last_is_slash (x ∷ xs) h some)))
