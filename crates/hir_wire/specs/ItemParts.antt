-- What do imports, values, aliases and macro calls have besides their heads?
use Rattle.std.specs.Prelude.{ℕ, List, [], Ok, if◌then◌else◌, codes}
use Rattle.std.specs.Str.{bytes_eq}
use Rattle.serde_json.specs.Data.{Data, Members}
use Rattle.serde_json.specs.Find.{as_str}
use Rattle.hir_item_tree.specs.Source.{NodeHead, import, extern_crate, function, constant, static_item, type_alias, macro_call, Item, plain, kind_step}
use Rattle.hir_item_tree.specs.Source.{node_step}
use Rattle.hir_base.specs.declared.shape.ExternCrateName.{ExternCrateName}
use Rattle.hir_base.specs.declared.shape.ExternCrateName.TheVariants.{SelfCrate, Name}
use Rattle.hir_item_tree.specs.declared.source.NodeKind.{NodeKind, fold-NodeKind}
use Rattle.hir_wire.specs.Paths.{name_meant, name_of, path_of, text_as, text_of}
use Rattle.hir_wire.specs.Reading.{Reading, made, paired, required, optional, maybe}
use Rattle.hir_wire.specs.UseTrees.{alias_of, tree_of}

-- the plain value of what a node has besides its head
abbrev pub kind_view : NodeKind → NodeHead → Item
kind_view = fold-NodeKind (NodeHead → Item) Item kind_step node_step

-- a use item: its tree
unfoldable pub use_in : Members → Reading (NodeHead → Item)
use_in ms = made (λ tree h. plain h (import tree)) (required tree_of (codes "tree") ms)

-- a name, or `self`
abbrev pub crate_name_meant : List ℕ → Reading ExternCrateName
crate_name_meant text = if bytes_eq text (codes "self") then Ok SelfCrate else made Name (name_meant text)

-- a value as what an extern crate names
abbrev pub crate_name_of : Data → Reading ExternCrateName
crate_name_of d = text_as crate_name_meant (as_str d)

-- an extern crate: what it names, perhaps under another name
unfoldable pub extern_crate_in : Members → Reading (NodeHead → Item)
extern_crate_in ms = made (λ p h. plain h (extern_crate p.0 p.1)) (paired (required crate_name_of (codes "name") ms) (maybe alias_of (codes "as") ms))

-- a function: its name and its body
unfoldable pub function_in : Members → Reading (NodeHead → Item)
function_in ms = made (λ p h. plain h (function p.0 p.1)) (paired (required name_of (codes "name") ms) (optional [] text_of (codes "body") ms))

-- a static: its name and its body
unfoldable pub static_in : Members → Reading (NodeHead → Item)
static_in ms = made (λ p h. plain h (static_item p.0 p.1)) (paired (required name_of (codes "name") ms) (optional [] text_of (codes "body") ms))

-- a constant: its name, if it has one, and its body
unfoldable pub constant_in : Members → Reading (NodeHead → Item)
constant_in ms = made (λ p h. plain h (constant p.0 p.1)) (paired (maybe name_of (codes "name") ms) (optional [] text_of (codes "body") ms))

-- a type alias: its name
unfoldable pub type_alias_in : Members → Reading (NodeHead → Item)
type_alias_in ms = made (λ name h. plain h (type_alias name)) (required name_of (codes "name") ms)

-- a macro call: the path of its macro
unfoldable pub macro_call_in : Members → Reading (NodeHead → Item)
macro_call_in ms = made (λ path h. plain h (macro_call path)) (required path_of (codes "path") ms)
