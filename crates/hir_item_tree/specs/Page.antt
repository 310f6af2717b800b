-- Which page does a tree print?
use Rattle.std.specs.Prelude.{ℕ, ◌+◌, ◌*◌, ◌-◌, ◌^◌, Bool, true, false, ◌||◌, if◌then◌else◌, List, [], ◌∷◌, ◌++◌, Option, Some, None, codes, decimal, replicate}
use Rattle.std.specs.Fmt.{digits, padded_integral, format_spec}
use Rattle.hir_ids.specs.Display.{shown}
use Rattle.hir_base.specs.Display.{path_shown}
use Rattle.hir_base.specs.ModPath.{Path}
use Rattle.hir_ids.specs.declared.edition.Edition.{Edition}
use Rattle.hir_ids.specs.declared.ast_id.SyntaxId.{SyntaxId}
use Rattle.hir_raw_visibility.specs.declared.raw_visibility.RawVisibility.{RawVisibility}
use Rattle.hir_raw_visibility.specs.declared.raw_visibility.RawVisibility.TheVariants as raw
use Rattle.hir_use_tree.specs.declared.imports.ImportAlias.{ImportAlias}
use Rattle.hir_use_tree.specs.declared.imports.ImportAlias.TheVariants as aliases
use Rattle.hir_base.specs.declared.shape.ExternCrateName.{ExternCrateName}
use Rattle.hir_base.specs.declared.shape.ExternCrateName.TheVariants as crates
use Rattle.hir_base.specs.Cfg.{Cfg, cfg_text}
use Rattle.hir_item_tree.specs.Attributes.{Tokens, paths, tokens, derive, Input, literal, parentheses, MetaValue}
use Rattle.hir_item_tree.specs.Collected.{Numbered, Collected}
use Rattle.hir_use_tree.specs.UseTree.{UseTree, single, glob, prefixed, UseTrees, no_trees, tree}
use Rattle.hir_item_tree.specs.KeptForest.{Head, Leaf, import, extern_crate, function, structure, union_structure, enumeration, constant, static_item}
use Rattle.hir_item_tree.specs.KeptForest.{trait_item, implementation, type_alias, outline_module, macro_call, macro_rules, macro_def, Holder, extern_block}
use Rattle.hir_item_tree.specs.KeptForest.{inline_module, KeptItem, leaf, holder, KeptForest, no_items, item}
use Rattle.hir_item_tree.specs.ItemTree.{Tree}

-- ---- words

-- a name as an edition writes it
unfoldable pub name_text : Edition → List ℕ → List ℕ
name_text e name = shown (Some e) name

-- a path as an edition writes it
unfoldable pub path_text : Edition → Path → List ℕ
path_text e p = path_shown (Some e) p

-- what stands between parts: a comma, unless nothing was before
abbrev pub comma : Bool → List ℕ
comma later = if later then codes ", " else []

-- names with commas between
abbrev pub names_text : Edition → List (List ℕ) → Bool → List ℕ
names_text e [] later = []
names_text e (n ∷ ns) later = comma later ++ (name_text e n ++ names_text e ns true)

-- paths with commas between
abbrev pub paths_text : Edition → List Path → Bool → List ℕ
paths_text e [] later = []
paths_text e (p ∷ ps) later = comma later ++ (path_text e p ++ paths_text e ps true)

-- a visibility
abbrev pub visibility_text : Edition → RawVisibility → List ℕ
visibility_text e (raw.Module p x) = codes "pub(in " ++ (path_text e p ++ codes ")")
visibility_text e (raw.PubSelf x) = codes "pub(self)"
visibility_text e raw.PubCrate = codes "pub(crate)"
visibility_text e raw.Public = codes "pub"

-- an alias
abbrev pub alias_text : Edition → ImportAlias → List ℕ
alias_text e aliases.Underscore = codes "_"
alias_text e (aliases.Alias n) = name_text e n

-- an alias behind what it renames, where there is one
abbrev pub renamed_text : Edition → Option ImportAlias → List ℕ
renamed_text e None = []
renamed_text e (Some a) = codes " as " ++ alias_text e a

-- the name of an extern crate
abbrev pub crate_text : Edition → ExternCrateName → List ℕ
crate_text e crates.SelfCrate = codes "self"
crate_text e (crates.Name n) = name_text e n

-- ---- use trees

-- a glob's or a list's path, with what joins it to the rest
abbrev pub prefix_text : Edition → Option Path → List ℕ
prefix_text e None = []
prefix_text e (Some p) = path_text e p ++ codes "::"

abbrev mutual
  -- a use tree
  pub use_text : Edition → UseTree → List ℕ
  use_text e (single p a) = path_text e p ++ renamed_text e a
  use_text e (glob p) = prefix_text e p ++ codes "*"
  use_text e (prefixed p ts) = prefix_text e p ++ (codes "{" ++ (uses_text e ts false ++ codes "}"))

  -- use trees with commas between
  pub uses_text : Edition → UseTrees → Bool → List ℕ
  uses_text e no_trees later = []
  uses_text e (tree t ts) later = comma later ++ (use_text e t ++ uses_text e ts true)

-- ---- attributes

-- names between two words
unfoldable pub names_between : Edition → List ℕ → List (List ℕ) → List ℕ → List ℕ
names_between e before ns after = before ++ (names_text e ns false ++ after)

-- a derive macro's helpers, behind its name
abbrev pub helpers_text : Edition → List (List ℕ) → List ℕ
helpers_text e [] = []
helpers_text e (n ∷ ns) = names_between e (codes ", attributes(") (n ∷ ns) (codes ")")

-- what stands in parentheses
abbrev pub tokens_text : Edition → Tokens → List ℕ
tokens_text e (paths ps) = paths_text e ps false
tokens_text e (tokens text) = text
tokens_text e (derive name helpers) = name_text e name ++ helpers_text e helpers

-- what stands behind an attribute's path
abbrev pub input_text : Edition → Option Input → List ℕ
input_text e None = []
input_text e (Some (literal text)) = codes " = \"" ++ (text ++ codes "\"")
input_text e (Some (parentheses ts)) = codes "(" ++ (tokens_text e ts ++ codes ")")

-- an attribute
unfoldable pub meta_text : Edition → MetaValue → List ℕ
meta_text e m = codes "[" ++ (path_text e m.path ++ (input_text e m.input ++ codes "]"))

-- four spaces for each level
unfoldable pub pad : ℕ → List ℕ
pad level = replicate (4 * level) 32

-- a line with an attribute behind a mark
unfoldable pub meta_line : Edition → ℕ → List ℕ → MetaValue → List ℕ
meta_line e level mark m = pad level ++ (mark ++ (meta_text e m ++ codes "\n"))

-- kept attributes, one a line
abbrev pub metas_text : Edition → ℕ → List ℕ → List Numbered → List ℕ
metas_text e level mark [] = []
metas_text e level mark (a ∷ rest) = meta_line e level mark a.meta ++ metas_text e level mark rest

-- a line with the condition that doesn't hold, where there is one
abbrev pub disabled_text : ℕ → List ℕ → Option Cfg → List ℕ
disabled_text level mark None = []
disabled_text level mark (Some c) = pad level ++ (mark ++ (codes "[cfg(" ++ (cfg_text c ++ codes ")]\n")))

-- what is left of attributes, one a line
abbrev pub attributes_text : Edition → ℕ → List ℕ → Collected → List ℕ
attributes_text e level mark c = metas_text e level mark c.attributes ++ disabled_text level mark c.disabled

-- ---- items

-- the kind of an item that holds no others, as its id's line has it
abbrev pub leaf_word : Leaf → List ℕ
leaf_word (import t) = codes "Use"
leaf_word (extern_crate name alias) = codes "ExternCrate"
leaf_word (function name) = codes "Fn"
leaf_word (structure name shape fields) = codes "Struct"
leaf_word (union_structure name fields) = codes "Union"
leaf_word (enumeration name) = codes "Enum"
leaf_word (constant name) = codes "Const"
leaf_word (static_item name) = codes "Static"
leaf_word (trait_item name) = codes "Trait"
leaf_word (implementation of_trait) = codes "Impl"
leaf_word (type_alias name) = codes "TypeAlias"
leaf_word (outline_module name) = codes "Module"
leaf_word (macro_call path) = codes "MacroCall"
leaf_word (macro_rules name expander helpers) = codes "MacroRules"
leaf_word (macro_def name expander helpers) = codes "MacroDef"

-- the kind of an item that holds others
abbrev pub holder_word : Holder → List ℕ
holder_word extern_block = codes "ExternBlock"
holder_word (inline_module name) = codes "Module"

-- four digits in base 16, in upper case
abbrev pub hex4 : ℕ → List ℕ
hex4 n = padded_integral (format_spec 32 0 4 4 (2 ^ 64 - 1)) false [] (digits 16 true n)

-- the line with the id
unfoldable pub id_line : ℕ → List ℕ → SyntaxId → List ℕ
id_line level kind id =
    pad level ++ (codes "// AstId: " ++ (kind ++ (codes "[" ++ (hex4 id.hash ++ (codes ", " ++ (decimal id.index ++ codes "]\n"))))))

-- a visibility, a word and a name
unfoldable pub named : Edition → RawVisibility → List ℕ → List ℕ → List ℕ → List ℕ
named e v word name end = visibility_text e v ++ (word ++ (name_text e name ++ end))

-- a constant's name, or what stands in its place
abbrev pub constant_text : Edition → Option (List ℕ) → List ℕ
constant_text e None = codes "_"
constant_text e (Some name) = name_text e name

-- a visibility and what is imported
unfoldable pub use_line : Edition → RawVisibility → UseTree → List ℕ
use_line e v t = visibility_text e v ++ (codes " use " ++ (use_text e t ++ codes ";\n"))

-- a visibility, a word, and an extern crate
unfoldable pub crate_line : Edition → RawVisibility → List ℕ → ExternCrateName → Option ImportAlias → List ℕ
crate_line e v word name alias = visibility_text e v ++ (word ++ (crate_text e name ++ (renamed_text e alias ++ codes ";\n")))

-- a visibility and a constant
unfoldable pub constant_line : Edition → RawVisibility → Option (List ℕ) → List ℕ
constant_line e v name = visibility_text e v ++ (codes " const " ++ (constant_text e name ++ codes ";\n"))

-- a macro call
unfoldable pub call_line : Edition → Path → List ℕ
call_line e p = path_text e p ++ codes "!(...);\n"

-- a macro by rules
unfoldable pub rules_line : Edition → List ℕ → List ℕ → List ℕ
rules_line e word name = word ++ (name_text e name ++ codes " { ... }\n")

-- the line of an item that holds no others
abbrev pub leaf_line : Edition → RawVisibility → Leaf → List ℕ
leaf_line e v (import t) = use_line e v t
leaf_line e v (extern_crate name alias) = crate_line e v (codes " extern crate ") name alias
leaf_line e v (function name) = named e v (codes " fn ") name (codes ";\n")
leaf_line e v (structure name shape fields) = named e v (codes " struct ") name (codes " { ... }\n")
leaf_line e v (union_structure name fields) = named e v (codes " union ") name (codes " { ... }\n")
leaf_line e v (enumeration name) = named e v (codes " enum ") name (codes " { ... }\n")
leaf_line e v (constant name) = constant_line e v name
leaf_line e v (static_item name) = named e v (codes " static ") name (codes ";\n")
leaf_line e v (trait_item name) = named e v (codes " trait ") name (codes " { ... }\n")
leaf_line e v (implementation of_trait) = codes "impl { ... }\n"
leaf_line e v (type_alias name) = named e v (codes " type ") name (codes ";\n")
leaf_line e v (outline_module name) = named e v (codes " mod ") name (codes ";\n")
leaf_line e v (macro_call path) = call_line e path
leaf_line e v (macro_rules name expander helpers) = rules_line e (codes "macro_rules! ") name
leaf_line e v (macro_def name expander helpers) = named e v (codes " macro ") name (codes " { ... }\n")

-- the line that opens an item that holds others
abbrev pub holder_line : Edition → RawVisibility → Holder → List ℕ
holder_line e v extern_block = codes "extern {\n"
holder_line e v (inline_module name) = named e v (codes " mod ") name (codes " {\n")

-- an item's attributes, its id, and the start of its own line
unfoldable pub head_text : Edition → ℕ → List ℕ → Head → List ℕ
head_text e level word h = attributes_text e level (codes "#") h.attributes ++ (id_line level word h.id ++ pad level)

-- the line that closes an item that holds others
unfoldable pub close_text : ℕ → List ℕ
close_text level = pad level ++ codes "}\n"

-- an empty line, unless nothing was before
abbrev pub gap : Bool → List ℕ
gap later = if later then 10 ∷ [] else []

abbrev mutual
  -- the block of an item
  pub item_text : Edition → KeptItem → ℕ → List ℕ
  item_text e (leaf h l) level = head_text e level (leaf_word l) h ++ leaf_line e h.visibility l
  item_text e (holder h k f) level =
      head_text e level (holder_word k) h ++ (holder_line e h.visibility k ++ (forest_text e f (level + 1) false ++ close_text level))

  -- the blocks of items, with an empty line between two
  pub forest_text : Edition → KeptForest → ℕ → Bool → List ℕ
  forest_text e no_items level later = []
  forest_text e (item i is) level later = gap later ++ (item_text e i level ++ forest_text e is level true)

-- whether a list has a member
abbrev pub has_some : {A : Type 0} → List A → Bool
has_some [] = false
has_some (x ∷ xs) = true

-- whether there is something
abbrev pub is_there : {A : Type 0} → Option A → Bool
is_there None = false
is_there (Some x) = true

-- whether anything is left of attributes
abbrev pub has_attributes : Collected → Bool
has_attributes c = has_some c.attributes || is_there c.disabled

-- a text, or a newline where it is empty
abbrev pub or_newline : List ℕ → List ℕ
or_newline [] = 10 ∷ []
or_newline (c ∷ cs) = c ∷ cs

-- the page of a tree: the attributes at its top, and the blocks of its items
abbrev pub page : Edition → Tree → List ℕ
page e t = or_newline (attributes_text e 0 (codes "#!") t.attributes ++ forest_text e t.items 0 (has_attributes t.attributes))
