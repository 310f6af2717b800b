-- How do names print?
use Rattle.std.specs.Prelude.{ℕ, Bool, ◌||◌, List, [], ◌∷◌, ◌++◌, codes, Option, Some, None, if◌then◌else◌}
use Rattle.std.specs.List.{list_any, flat_map}
use Rattle.hir_ids.specs.declared.edition.Edition.{Edition}
use Rattle.hir_ids.specs.declared.edition.Edition.TheVariants.{Edition2015, Edition2018, Edition2021, Edition2024}
use Rattle.hir_ids.specs.NameForm.{same_text}

-- whether a text is one of these words
abbrev pub is_one_of : List (List ℕ) → List ℕ → Bool
is_one_of words text = list_any (same_text text) words

-- the words that are keywords in each edition
abbrev pub keywords : List (List ℕ)
keywords = codes "as" ∷ codes "break" ∷ codes "const" ∷ codes "continue" ∷ codes "else" ∷ codes "enum" ∷ codes "extern" ∷ codes "false"
    ∷ codes "fn" ∷ codes "for" ∷ codes "if" ∷ codes "impl" ∷ codes "in" ∷ codes "let" ∷ codes "loop" ∷ codes "match" ∷ codes "mod"
    ∷ codes "move" ∷ codes "mut" ∷ codes "pub" ∷ codes "ref" ∷ codes "return" ∷ codes "static" ∷ codes "struct" ∷ codes "trait"
    ∷ codes "true" ∷ codes "type" ∷ codes "unsafe" ∷ codes "use" ∷ codes "where" ∷ codes "while" ∷ []

-- the words that are kept free in each edition
abbrev pub kept_words : List (List ℕ)
kept_words = codes "abstract" ∷ codes "become" ∷ codes "box" ∷ codes "do" ∷ codes "final" ∷ codes "macro" ∷ codes "override" ∷ codes "priv"
    ∷ codes "typeof" ∷ codes "unsized" ∷ codes "virtual" ∷ codes "yield" ∷ []

-- the words that edition 2018 reserved
abbrev pub words_of_2018 : List (List ℕ)
words_of_2018 = codes "async" ∷ codes "await" ∷ codes "dyn" ∷ codes "try" ∷ []

-- the words that edition 2024 reserved
abbrev pub words_of_2024 : List (List ℕ)
words_of_2024 = codes "gen" ∷ []

-- whether an edition reserves a word that an earlier one left free
abbrev pub is_newly_reserved : Edition → List ℕ → Bool
is_newly_reserved Edition2015 text = is_one_of [] text
is_newly_reserved Edition2018 text = is_one_of words_of_2018 text
is_newly_reserved Edition2021 text = is_one_of words_of_2018 text
is_newly_reserved Edition2024 text = is_one_of words_of_2018 text || is_one_of words_of_2024 text

-- whether a word is reserved in an edition
abbrev pub is_reserved : Edition → List ℕ → Bool
is_reserved edition text = is_one_of keywords text || is_one_of kept_words text || is_newly_reserved edition text

-- a name as it is written in an edition, where a reserved word is raw; without one it prints as it is
abbrev pub shown : Option Edition → List ℕ → List ℕ
shown None name = name
shown (Some edition) name = if is_reserved edition name then codes "r#" ++ name else name

-- a name behind `::`
abbrev pub behind : Option Edition → List ℕ → List ℕ
behind edition name = codes "::" ++ shown edition name

-- names joined by `::`
abbrev pub joined : Option Edition → List (List ℕ) → List ℕ
joined edition [] = []
joined edition (name ∷ names) = shown edition name ++ flat_map (behind edition) names
