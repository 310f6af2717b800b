-- Printing one module after another gives all pages, and ends.
use Rattle.std.proofs.Common.{◌≡◌, ◌∙◌, ap, sym, refl, ℕ, zero, suc, ◌<◌, List, [], ◌∷◌, ◌++◌, reverse, length, Option, Some, None, arith}
use Rattle.std.specs.List.{flat_map}
use Rattle.std.proofs.lemmas.List.{append-nil, append_assoc, reverse-append, reverse-reverse}
use Rattle.std.proofs.lemmas.List.Concat.{flat_map-append}
use Rattle.std.proofs.lemmas.List.Folds.{flat_map-map}
use Rattle.std.proofs.lemmas.List.Sums.{fold-append}
use Rattle.hir_scope.specs.HirIds.declared.ids.ModuleId.{ModuleId}
use Rattle.hir_def_map_rules.specs.State.{Map, ModuleValue, module_at}
use Rattle.hir_def_map_rules.specs.Dump.{Page, next_page_text, pages_from, pages_within, path_below, text_of}
use Rattle.hir_def_map_rules.specs.Inner.Branches.{BranchValue, branch_below, branches_below, own_page, pages_in, pages_left, with_pages}

-- ---- texts

with_pages-next : (byte : ℕ) (bytes : List ℕ) (pages : List Page) → with_pages (byte ∷ bytes) pages ≡ (byte ∷ bytes) ++ flat_map next_page_text pages
with_pages-next byte bytes [] = sym (append-nil (byte ∷ bytes))
with_pages-next byte bytes (page ∷ pages) =
    with_pages-next byte (bytes ++ next_page_text page) pages
    ∙ append_assoc (byte ∷ bytes) (next_page_text page) (flat_map next_page_text pages)

-- pages written from the first on are the text of them
pub with_pages-text : (pages : List Page) → with_pages [] pages ≡ text_of pages
with_pages-text [] = refl
with_pages-text (page ∷ pages) = go page.0 _
  where
    go : (path lines : List ℕ) → with_pages (path ++ 10 ∷ lines) pages ≡ (path ++ 10 ∷ lines) ++ flat_map next_page_text pages
    go [] lines = with_pages-next 10 lines pages
    go (byte ∷ bytes) lines = with_pages-next byte (bytes ++ 10 ∷ lines) pages

-- ---- what is left

module _ (whole : Map) where
  abbrev below : BranchValue → List BranchValue
  below branch = branches_below branch.depth branch.path (module_at whole branch.at)

  -- what a module has of its own, and what those below it have
  module _ {X : Type 0} (all own : BranchValue → List X) (split : (branch : BranchValue) → all branch ≡ own branch ++ flat_map all (below branch)) where
    abbrev left : List BranchValue → List X
    left branches = flat_map all (reverse branches)

    left-pushed : (before : List BranchValue) (branch : BranchValue) → left (before ++ branch ∷ []) ≡ own branch ++ left (before ++ reverse (below branch))
    left-pushed before branch =
        let pushed : left (before ++ reverse (below branch)) ≡ flat_map all (below branch) ++ left before =
        ap (flat_map all) (reverse-append before (reverse (below branch)) ∙ ap (λ (bs : List BranchValue). bs ++ reverse before)
        (reverse-reverse (below branch)))
        ∙ flat_map-append all (below branch) (reverse before) in
        ap (flat_map all) (reverse-append before (branch ∷ []))
        ∙ ap (λ (xs : List X). xs ++ left before) (split branch)
        ∙ append_assoc (own branch) (flat_map all (below branch)) (left before)
        ∙ ap (λ (xs : List X). own branch ++ xs) (sym pushed)

  -- ---- pages

  abbrev page_of : BranchValue → List Page
  page_of branch = own_page branch.depth branch.path (module_at whole branch.at)

  pages-split : (depth : ℕ) (path : List ℕ) (at : ℕ)
      → pages_within whole depth path at
      ≡ own_page depth path (module_at whole at) ++ flat_map (pages_in whole) (branches_below depth path (module_at whole at))
  pages-split zero path at = refl
  pages-split (suc depth) path at = go (module_at whole at)
    where
      go : (o : Option ModuleValue)
          → pages_from (pages_within whole depth) path o ≡ own_page (suc depth) path o ++ flat_map (pages_in whole) (branches_below (suc depth) path o)
      go None = refl
      go (Some m) = ap (λ (ps : List Page). (path, m.scope) ∷ ps) (sym (flat_map-map (pages_in whole) (branch_below path depth) m.children))

  with_pages-pushed : (text : List ℕ) (before : List BranchValue) (branch : BranchValue)
      → with_pages text (pages_left whole (before ++ branch ∷ []))
      ≡ with_pages (with_pages text (page_of branch)) (pages_left whole (before ++ reverse (below branch)))
  with_pages-pushed text before branch =
      ap (with_pages text) (left-pushed (pages_in whole) page_of (λ (b : BranchValue). pages-split b.depth b.path b.at) before branch)
      ∙ fold-append _ text (page_of branch) (pages_left whole (before ++ reverse (below branch)))

  -- the text to come is the same before a module prints and after
  pub with_pages-kept : (before old new : List BranchValue) (branch : BranchValue) (text next : List ℕ)
      → old ≡ before ++ branch ∷ [] → new ≡ before ++ reverse (below branch) → next ≡ with_pages text (page_of branch)
      → with_pages text (pages_left whole old) ≡ with_pages next (pages_left whole new)
  with_pages-kept before old new branch text next was is grown =
      ap (λ (bs : List BranchValue). with_pages text (pages_left whole bs)) was
      ∙ with_pages-pushed text before branch
      ∙ sym (ap (λ (bytes : List ℕ). with_pages bytes (pages_left whole new)) grown ∙ ap
      (λ (bs : List BranchValue). with_pages (with_pages text (page_of branch)) (pages_left whole bs)) is)

  -- ---- all that will be taken from what is left

  abbrev taken_below : (List ℕ → ℕ → List BranchValue) → List ℕ → Option ModuleValue → List BranchValue
  taken_below taken path None = []
  taken_below taken path (Some m) = flat_map (λ (child : List ℕ × ModuleId). taken (path_below path child.0) child.1.index) m.children

  abbrev taken_within : ℕ → List ℕ → ℕ → List BranchValue
  taken_within zero path at = record { path = path; at = at; depth = 0 } ∷ []
  taken_within (suc depth) path at = record { path = path; at = at; depth = suc depth } ∷ taken_below (taken_within depth) path (module_at whole at)

  abbrev taken : BranchValue → List BranchValue
  taken branch = taken_within branch.depth branch.path branch.at

  -- how many steps are left
  abbrev pub steps_left : List BranchValue → ℕ
  steps_left branches = length (flat_map taken (reverse branches))

  taken-split : (depth : ℕ) (path : List ℕ) (at : ℕ)
      → taken_within depth path at
      ≡ record { path = path; at = at; depth = depth } ∷ flat_map taken (branches_below depth path (module_at whole at))
  taken-split zero path at = refl
  taken-split (suc depth) path at = go (module_at whole at)
    where
      go : (o : Option ModuleValue)
          → record { path = path; at = at; depth = suc depth } ∷ taken_below (taken_within depth) path o
          ≡ record { path = path; at = at; depth = suc depth } ∷ flat_map taken (branches_below (suc depth) path o)
      go None = refl
      go (Some m) =
          ap (λ (bs : List BranchValue). record { path = path; at = at; depth = suc depth } ∷ bs)
          (sym (flat_map-map taken (branch_below path depth) m.children))

  pub steps_left-falls : (before old new : List BranchValue) (branch : BranchValue)
      → old ≡ before ++ branch ∷ [] → new ≡ before ++ reverse (below branch) → steps_left new < steps_left old
  steps_left-falls before old new branch was is =
      let former : steps_left old ≡ steps_left (before ++ branch ∷ []) = ap steps_left was in
      let latter : steps_left new ≡ steps_left (before ++ reverse (below branch)) = ap steps_left is in
      let one_more : steps_left (before ++ branch ∷ []) ≡ suc (steps_left (before ++ reverse (below branch))) =
      ap length (left-pushed taken (λ (b : BranchValue). b ∷ []) (λ (b : BranchValue). taken-split b.depth b.path b.at) before branch) in
      omega arith
