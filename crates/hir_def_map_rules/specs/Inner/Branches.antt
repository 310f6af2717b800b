-- What is left to print of a map whose modules print one after another?
use Rattle.std.specs.Prelude.{ℕ, zero, suc, List, [], ◌∷◌, ◌++◌, map, reverse, Option, None, Some}
use Rattle.std.specs.List.{flat_map, fold}
use Rattle.hir_scope.specs.HirIds.declared.ids.ModuleId.{ModuleId}
use Rattle.hir_def_map_rules.specs.State.{Map, ModuleValue}
use Rattle.hir_def_map_rules.specs.Dump.{Page, page_text, next_page_text, pages_within, path_below}

-- a module by number, and all below it, on ways down of at most so many modules
pub record BranchValue : Type 0 where
  pub path : List ℕ
  pub at : ℕ
  pub depth : ℕ

abbrev pub pages_in : Map → BranchValue → List Page
pages_in map branch = pages_within map branch.depth branch.path branch.at

-- the pages of all that is left, the last first
abbrev pub pages_left : Map → List BranchValue → List Page
pages_left map branches = flat_map (pages_in map) (reverse branches)

-- the page of a module itself
abbrev pub own_page : ℕ → List ℕ → Option ModuleValue → List Page
own_page zero path m = []
own_page (suc depth) path None = []
own_page (suc depth) path (Some m) = (path, m.scope) ∷ []

abbrev pub branch_below : List ℕ → ℕ → List ℕ × ModuleId → BranchValue
branch_below path depth child = record { path = path_below path child.0; at = child.1.index; depth = depth }

-- what is below a module
abbrev pub branches_below : ℕ → List ℕ → Option ModuleValue → List BranchValue
branches_below zero path m = []
branches_below (suc depth) path None = []
branches_below (suc depth) path (Some m) = map (branch_below path depth) m.children

-- a text and one more page, behind an empty line unless it is the first
abbrev pub with_page : List ℕ → Page → List ℕ
with_page [] page = page_text page
with_page (byte ∷ bytes) page = (byte ∷ bytes) ++ next_page_text page

abbrev pub with_pages : List ℕ → List Page → List ℕ
with_pages text pages = fold with_page text pages
