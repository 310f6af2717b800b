-- What does a JSON value mean as syntax?
use Rattle.std.specs.Prelude.{ℕ, List, [], Option, Some, None, Ok, Err, if◌then◌else◌, codes}
use Rattle.std.specs.Ordering.{nat_cmp, match_ordering}
use Rattle.std.specs.Cmp.Lexicographic.{slice_cmp}
use Rattle.std.specs.Str.{bytes_eq}
use Rattle.serde_json.specs.Data.{Data, null, boolean, number, string, array, object, Items, no_items, item, Members, no_members, member}
use Rattle.hir_ids.specs.declared.ast_id.AstKind.{AstKind}
use Rattle.hir_ids.specs.declared.ast_id.AstKind.TheVariants as kind
use Rattle.hir_item_tree.specs.Attributes.{no_attributes}
use Rattle.hir_item_tree.specs.Source.{NodeHead, Item, plain, outline_module, holder, extern_block, trait_item, implementation, inline_module}
use Rattle.hir_item_tree.specs.Source.{items_of as forest, SourceValue, broken, unit}
use Rattle.hir_raw_visibility.specs.declared.raw_visibility.RawVisibility.TheVariants as vis
use Rattle.hir_ids.specs.declared.explicitness.VisibilityExplicitness.TheVariants.{Implicit}
use Rattle.hir_wire.specs.declared.read_error.ReadError.TheVariants.{Command}
use Rattle.hir_wire.specs.Attributes.{attributes_of}
use Rattle.hir_wire.specs.ItemParts.{use_in, extern_crate_in, function_in, constant_in, static_in, type_alias_in, macro_call_in}
use Rattle.hir_wire.specs.Structs.{struct_in, union_in, enum_in}
use Rattle.hir_wire.specs.Macros.{macro_rules_in, macro_def_in}
use Rattle.hir_wire.specs.Paths.{name_of, text_of, bool_of, id_meant}
use Rattle.hir_wire.specs.Reading.{Reading, made, paired, listed, required, optional, word_as, has_member}
use Rattle.hir_wire.specs.Visibility.{vis_of}

-- the kind of node that a word stands for
abbrev pub kind_of_word : List ℕ → Option AstKind
kind_of_word word =
    if bytes_eq word (codes "Use") then Some kind.Use else
    (if bytes_eq word (codes "ExternCrate") then Some kind.ExternCrate else
    (if bytes_eq word (codes "ExternBlock") then Some kind.ExternBlock else
    (if bytes_eq word (codes "Fn") then Some kind.Fn else
    (if bytes_eq word (codes "Struct") then Some kind.Struct else
    (if bytes_eq word (codes "Union") then Some kind.Union else
    (if bytes_eq word (codes "Enum") then Some kind.Enum else
    (if bytes_eq word (codes "Const") then Some kind.Const else
    (if bytes_eq word (codes "Static") then Some kind.Static else
    (if bytes_eq word (codes "Trait") then Some kind.Trait else
    (if bytes_eq word (codes "Impl") then Some kind.Impl else
    (if bytes_eq word (codes "TypeAlias") then Some kind.TypeAlias else
    (if bytes_eq word (codes "Module") then Some kind.Module else
    (if bytes_eq word (codes "MacroCall") then Some kind.MacroCall else
    (if bytes_eq word (codes "MacroRules") then Some kind.MacroRules else
    (if bytes_eq word (codes "MacroDef") then Some kind.MacroDef else None)))))))))))))))

-- what every node has
unfoldable pub head_in : Members → Reading NodeHead
head_in ms =
    made (λ p. record { id = p.0.0; attributes = p.1.0; visibility = p.0.1; input = p.1.1 })
    (paired (paired (required id_meant (codes "id") ms) (optional (vis.PubSelf Implicit) vis_of (codes "vis") ms))
    (paired (optional no_attributes attributes_of (codes "attrs") ms) (optional [] text_of (codes "input") ms)))

-- an extern block of these nodes
unfoldable pub extern_block_in : Reading (List Item) → Reading (NodeHead → Item)
extern_block_in nodes = made (λ is h. holder h extern_block (forest is)) nodes

-- a trait of these items: its name
unfoldable pub trait_in : Members → Reading (List Item) → Reading (NodeHead → Item)
trait_in ms items = made (λ p h. holder h (trait_item p.0) (forest p.1)) (paired (required name_of (codes "name") ms) items)

-- an impl of these items: whether it is of a trait
unfoldable pub impl_in : Members → Reading (List Item) → Reading (NodeHead → Item)
impl_in ms items = made (λ p h. holder h (implementation p.0) (forest p.1)) (paired (required bool_of (codes "trait") ms) items)

-- a module of these nodes: its name
unfoldable pub inline_module_in : Members → Reading (List Item) → Reading (NodeHead → Item)
inline_module_in ms nodes = made (λ p h. holder h (inline_module p.0) (forest p.1)) (paired (required name_of (codes "name") ms) nodes)

-- a module in a file of its own: its name
unfoldable pub outline_module_in : Members → Reading (NodeHead → Item)
outline_module_in ms = made (λ name h. plain h (outline_module name)) (required name_of (codes "name") ms)

-- a module, which is written where it is declared if it has nodes
abbrev pub module_in : Members → Reading (List Item) → Reading (NodeHead → Item)
module_in ms nodes = if has_member (codes "nodes") ms then inline_module_in ms nodes else outline_module_in ms

-- what a node of this kind has besides its head, once its nodes and its items are read
abbrev pub parts_in : AstKind → Members → (nodes items : Reading (List Item)) → Reading (NodeHead → Item)
parts_in kind.Use ms nodes items = use_in ms
parts_in kind.ExternCrate ms nodes items = extern_crate_in ms
parts_in kind.ExternBlock ms nodes items = extern_block_in nodes
parts_in kind.Fn ms nodes items = function_in ms
parts_in kind.Struct ms nodes items = struct_in ms
parts_in kind.Union ms nodes items = union_in ms
parts_in kind.Enum ms nodes items = enum_in ms
parts_in kind.Variant ms nodes items = Err Command
parts_in kind.Const ms nodes items = constant_in ms
parts_in kind.Static ms nodes items = static_in ms
parts_in kind.Trait ms nodes items = trait_in ms items
parts_in kind.Impl ms nodes items = impl_in ms items
parts_in kind.TypeAlias ms nodes items = type_alias_in ms
parts_in kind.Module ms nodes items = module_in ms nodes
parts_in kind.MacroCall ms nodes items = macro_call_in ms
parts_in kind.MacroRules ms nodes items = macro_rules_in ms
parts_in kind.MacroDef ms nodes items = macro_def_in ms

-- a node, once its kind is read
abbrev pub node_of_kind : Reading AstKind → Members → (nodes items : Reading (List Item)) → Reading Item
node_of_kind (Err e) ms nodes items = Err e
node_of_kind (Ok k) ms nodes items = made (λ p. p.1 p.0) (paired (head_in ms) (parts_in k ms nodes items))

-- a node, once the nodes inside are read
abbrev pub node_with : Members → (nodes items : Reading (List Item)) → Reading Item
node_with ms nodes items = node_of_kind (required (word_as kind_of_word) (codes "kind") ms) ms nodes items

abbrev mutual
  -- a value as a node
  pub node_of : Data → Reading Item
  node_of null = Err Command
  node_of (boolean b) = Err Command
  node_of (number n) = Err Command
  node_of (string s) = Err Command
  node_of (array ds) = Err Command
  node_of (object ms) = node_with ms (nodes_in (codes "nodes") ms) (nodes_in (codes "items") ms)

  -- the nodes in the member of this name, which has to be there
  pub nodes_in : List ℕ → Members → Reading (List Item)
  nodes_in name no_members = Err Command
  nodes_in name (member k d ms) = match_ordering (slice_cmp nat_cmp name k) (nodes_in name ms) (node_list_of d) (nodes_in name ms)

  -- a value as a list of nodes
  pub node_list_of : Data → Reading (List Item)
  node_list_of null = Err Command
  node_list_of (boolean b) = Err Command
  node_list_of (number n) = Err Command
  node_list_of (string s) = Err Command
  node_list_of (array ds) = nodes_of ds
  node_list_of (object ms) = Err Command

  -- each node of a list
  pub nodes_of : Items → Reading (List Item)
  nodes_of no_items = Ok []
  nodes_of (item d ds) = listed (node_of d) (nodes_of ds)

-- the source in a unit's members: the attributes at its top, and its nodes
unfoldable pub unit_in : Members → Reading SourceValue
unit_in ms = made (λ p. unit p.0 (forest p.1)) (paired (optional no_attributes attributes_of (codes "attrs") ms) (optional [] node_list_of (codes "nodes") ms))

-- a value as a source
abbrev pub source_of : Data → Reading SourceValue
source_of null = Err Command
source_of (boolean b) = Err Command
source_of (number n) = Err Command
source_of (string word) = if bytes_eq word (codes "broken") then Ok broken else Err Command
source_of (array ds) = Err Command
source_of (object ms) = unit_in ms
