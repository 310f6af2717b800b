-- How does a map print, with those that hold it?
use Rattle.std.specs.Prelude.{ℕ, zero, suc, List, [], ◌∷◌, ◌++◌, length, codes, cond, is_some, Option, None, Some}
use Rattle.std.specs.List.{flat_map}
use Rattle.hir_scope.specs.HirIds.declared.ids.MapId.{MapId}
use Rattle.hir_scope.specs.HirIds.declared.ids.ModuleId.{ModuleId}
use Rattle.hir_scope.specs.Dump.{line_name, dump_of as scope_text}
use Rattle.hir_scope.specs.Scope.{ScopeValue}
use Rattle.hir_def_map_rules.specs.State.{Map, ModuleValue, module_at, root_of}
use Rattle.hir_def_map_rules.specs.Overlay.{Maps, map_in}
use Rattle.hir_def_map_rules.specs.Ancestors.{holders_in}

-- a module's scope, and the path under which it prints
abbrev pub Page : Type 0
Page = List ℕ × ScopeValue

-- the line of the path, and the lines of the scope
abbrev pub page_text : Page → List ℕ
page_text page = page.0 ++ 10 ∷ scope_text page.1

-- an empty line, and a page
abbrev pub next_page_text : Page → List ℕ
next_page_text page = 10 ∷ page_text page

-- pages with an empty line between each and the next
abbrev pub text_of : List Page → List ℕ
text_of [] = []
text_of (page ∷ pages) = page_text page ++ flat_map next_page_text pages

-- the path of a module in another
abbrev pub path_below : List ℕ → List ℕ → List ℕ
path_below path name = path ++ codes "::" ++ line_name (Some name)

-- the page of a module, if it is there, and then those of its children by name
abbrev pub pages_from : (List ℕ → ℕ → List Page) → List ℕ → Option ModuleValue → List Page
pages_from pages path None = []
pages_from pages path (Some m) =
    (path, m.scope) ∷ flat_map (λ (child : List ℕ × ModuleId). pages (path_below path child.0) child.1.index) m.children

-- the pages of a module and of all below it, on ways down of at most so many modules
abbrev pub pages_within : Map → ℕ → List ℕ → ℕ → List Page
pages_within map zero path at = []
pages_within map (suc depth) path at = pages_from (pages_within map depth) path (module_at map at)

-- the path of a map's root
abbrev pub root_path : MapId → List ℕ
root_path id = cond (is_some id.block) (codes "(block scope)") (codes "crate")

-- the pages of a map, its root's first; a way down that meets no module twice has no more modules than the map
abbrev pub pages_of : Map → List Page
pages_of map = pages_within map (length map.modules) (root_path map.id) 0

-- the pages of a map, if it is there
abbrev pub pages_of_found : Option Map → List Page
pages_of_found None = []
pages_of_found (Some map) = pages_of map

-- the pages of a module's map
abbrev pub pages_around : Maps → ModuleId → List Page
pages_around maps at = pages_of_found (map_in maps at.map)

-- the pages of a module's map, then those of the map that holds its block, and so on outwards
abbrev pub pages_outwards : Maps → ModuleId → List Page
pages_outwards maps at = flat_map (pages_around maps) (at ∷ holders_in maps at)

abbrev pub dump_of : Maps → MapId → List ℕ
dump_of maps id = text_of (pages_outwards maps (root_of id))
