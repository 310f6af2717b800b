-- How does a table of rows hold a forest?
use Rattle.std.specs.Prelude.{◌≡◌, ℕ, List, [], ◌∷◌, ◌++◌, length, map, Option, Some, None}
use Rattle.std.specs.List.{slice_get}
use Rattle.hir_item_tree.specs.Collected.{collected_of}
use Rattle.hir_use_tree.specs.UseTree.{use_tree_view}
use Rattle.hir_item_tree.specs.KeptForest.{Head, Leaf, import, extern_crate, function, structure, union_structure, enumeration, constant, static_item}
use Rattle.hir_item_tree.specs.KeptForest.{trait_item, implementation, type_alias, outline_module, macro_call, macro_rules, macro_def, Holder, extern_block}
use Rattle.hir_item_tree.specs.KeptForest.{inline_module, KeptItem, leaf, holder, KeptForest, no_items, item}
use Rattle.hir_item_tree.specs.declared.rows.ModItemId.{ModItemId}
use Rattle.hir_item_tree.specs.declared.rows.Row.{Row}
use Rattle.hir_item_tree.specs.declared.rows.RowKind.{RowKind}
use Rattle.hir_item_tree.specs.declared.rows.RowKind.TheVariants as kinds

-- what a row is, its head aside: an item alone, or one with the numbers of those that it holds
pub data Content : Type 0 where
  alone : Leaf → Content
  with_items : Holder → List ℕ → Content

-- a row
pub record RowValue : Type 0 where
  pub head : Head
  pub content : Content

-- the numbers of items
abbrev pub numbers_of : List ModItemId → List ℕ
numbers_of ids = map (λ id. id.0) ids

-- the numbers of those that it holds
abbrev pub held_numbers : Content → List ℕ
held_numbers (alone l) = []
held_numbers (with_items k ns) = ns

-- the plain value of what a row is
abbrev pub content_of : RowKind → Content
content_of (kinds.Use tree) = alone (import (use_tree_view tree))
content_of (kinds.ExternCrate name alias) = alone (extern_crate name alias)
content_of (kinds.ExternBlock children) = with_items extern_block (numbers_of children.items)
content_of (kinds.Function name) = alone (function name)
content_of (kinds.Struct name shape fields) = alone (structure name shape fields.items)
content_of (kinds.Union name fields) = alone (union_structure name fields.items)
content_of (kinds.Enum name) = alone (enumeration name)
content_of (kinds.Const name) = alone (constant name)
content_of (kinds.Static name) = alone (static_item name)
content_of (kinds.Trait name) = alone (trait_item name)
content_of (kinds.Impl of_trait) = alone (implementation of_trait)
content_of (kinds.TypeAlias name) = alone (type_alias name)
content_of (kinds.Mod name items) = with_items (inline_module name) (numbers_of items.items)
content_of (kinds.OutlineMod name) = alone (outline_module name)
content_of (kinds.MacroCall path) = alone (macro_call path)
content_of (kinds.MacroRules name expander helpers) = alone (macro_rules name expander helpers.items)
content_of (kinds.Macro2 name expander helpers) = alone (macro_def name expander helpers.items)

-- the plain value of a row
abbrev pub row_view : Row → RowValue
row_view r = record { head = record { id = r.id; visibility = r.visibility; attributes = collected_of r.attrs }; content = content_of r.kind }

-- the plain value of rows
abbrev pub rows_view : List Row → List RowValue
rows_view rs = map row_view rs

-- ---- the layout: a row for each item, those that it holds before its own

-- rows, and the number of the last that was added
pub record Laid : Type 0 where
  pub rows : List RowValue
  pub number : ℕ

-- rows, and the numbers of those that were added for items that stand side by side
pub record LaidAll : Type 0 where
  pub rows : List RowValue
  pub numbers : List ℕ

-- one more row
abbrev pub lay_row : List RowValue → RowValue → Laid
lay_row rows r = record { rows = rows ++ r ∷ []; number = length rows }

-- one more row, of an item that holds those that were laid before
abbrev pub lay_holder : Head → Holder → LaidAll → Laid
lay_holder h k inside = lay_row inside.rows (record { head = h; content = with_items k inside.numbers })

-- an item's row, then those of others
abbrev pub and_all : Laid → (List RowValue → LaidAll) → LaidAll
and_all first rest = record { rows = (rest first.rows).rows; numbers = first.number ∷ (rest first.rows).numbers }

abbrev mutual
  -- the rows of an item, added to rows
  pub lay : KeptItem → List RowValue → Laid
  lay (leaf h l) rows = lay_row rows (record { head = h; content = alone l })
  lay (holder h k f) rows = lay_holder h k (lay_all f rows)

  -- the rows of items, added to rows
  pub lay_all : KeptForest → List RowValue → LaidAll
  lay_all no_items rows = record { rows = rows; numbers = [] }
  lay_all (item i is) rows = and_all (lay i rows) (lay_all is)

-- ---- the forest that rows stand for

-- an item before others, where there is one
abbrev pub and_found : Option KeptItem → KeptForest → KeptForest
and_found None f = f
and_found (Some i) f = item i f

-- those of these items that have the numbers
abbrev pub items_at : List KeptItem → List ℕ → KeptForest
items_at items [] = no_items
items_at items (n ∷ ns) = and_found (slice_get items n) (items_at items ns)

-- the item of a row, among these items
abbrev pub item_of : List KeptItem → Head → Content → KeptItem
item_of items h (alone l) = leaf h l
item_of items h (with_items k ns) = holder h k (items_at items ns)

-- the items of rows, behind those that are there
abbrev pub items_behind : List KeptItem → List RowValue → List KeptItem
items_behind done [] = done
items_behind done (r ∷ rs) = items_behind (done ++ item_of done r.head r.content ∷ []) rs

-- the forest of the items that have these numbers
abbrev pub forest_at : List RowValue → List ℕ → KeptForest
forest_at rows ns = items_at (items_behind [] rows) ns

-- the rows are the layout of the forest that they stand for
abbrev pub IsLaid : List RowValue → List ℕ → Type 0
IsLaid rows ns = lay_all (forest_at rows ns) [] ≡ record { rows = rows; numbers = ns }
