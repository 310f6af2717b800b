-- What a run may ask for, and when two workspaces with their finished maps answer alike.
use Rattle.std.specs.Prelude.{◌≡◌, ℕ, ⊤, false, List, [], ◌∷◌, Option, None, Some, Contains, IsSome}
use Rattle.std.specs.Option.{option_and_then}
use Rattle.hir_nameres.specs.HirIds.declared.ast_id.AstId.{AstId}
use Rattle.hir_nameres.specs.HirIds.declared.ids.Crate.{Crate}
use Rattle.hir_nameres.specs.HirIds.declared.ast_id.EntryId.{EntryId}
use Rattle.hir_nameres.specs.HirIds.declared.ids.EnumId.{EnumId}
use Rattle.hir_nameres.specs.HirIds.declared.macro_kind.MacroId.{MacroId}
use Rattle.hir_nameres.specs.HirIds.declared.macro_kind.MacroLoc.{MacroLoc}
use Rattle.hir_nameres.specs.HirIds.declared.ast_id.AstKind.TheVariants.{MacroDef, MacroRules}
use Rattle.hir_nameres.specs.HirIds.declared.macro_kind.MacroId.TheVariants.{Macro2Id, MacroRulesId, ProcMacroId}
use Rattle.hir_item_tree.specs.declared.check.NodeId.{NodeId}
use Rattle.hir_nameres.specs.HirBase.declared.tree_id.TreeId.{TreeId}
use Rattle.hir_nameres.specs.HirBase.declared.tree_id.TreeKey.{TreeKey}
use Rattle.hir_item_tree.specs.declared.side_lists.VariantItem.{VariantItem}
use Rattle.hir_item_tree.specs.SideLists.{entry_input, entry_text}
use Rattle.hir_item_tree.specs.SyntaxIds.{node_id}
use Rattle.hir_item_tree.specs.ItemTree.{empty_tree}
use Rattle.hir_item_tree.specs.SourceTree.{SourceTreeValue, side_of, variants_of}
use Rattle.hir_tables.specs.SourcePlaces.{ExpansionValue, SourcePlaceValue}
use Rattle.hir_tables.specs.Tables.{TablesValue, entry_at, source_of}
use Rattle.hir_nameres.specs.HirDefMapRules.References.{crate_map}
use Rattle.hir_nameres.specs.HirDefMapRules.Overlay.{Maps, Placed}
use Rattle.hir_collector_rules.specs.declared.source_database.Key.{Key}
use Rattle.hir_collector_rules.specs.declared.source_database.Key.TheVariants.{Tree, Variants, Text, Input, Expansion, Map, Config}
use Rattle.hir_collector_rules.specs.Workspace.{ConfigValue, Workspace, EntryLook, TreeLook, seen_of}

-- a workspace, and what the numbers mean by which a run speaks of it
pub record Environment : Type 0 where
  pub tables : TablesValue
  pub workspace : Workspace

abbrev pub environment : TablesValue → Workspace → Environment
environment tables w = record { tables = tables; workspace = w }

-- ---- what is there

-- a source that isn't there
abbrev pub absent_source : SourceTreeValue
absent_source = record { present = false; tree = empty_tree; sides = [] }

-- what a source has under a crate; where a number means nothing, none is there
abbrev pub source_under : Workspace → Crate → Option SourcePlaceValue → SourceTreeValue
source_under w krate None = absent_source
source_under w krate (Some source) = w.tree krate source

abbrev pub source_in : TablesValue → Workspace → TreeKey → SourceTreeValue
source_in tables w key = source_under w key.krate (source_of tables key.id)

abbrev pub tree_at : TablesValue → Workspace → TreeKey → TreeLook
tree_at tables w key = seen_of (source_in tables w key)

-- the tree that writes an enum
abbrev pub enum_tree : EnumId → TreeId
enum_tree id = record { file = id.loc.file_id; block = id.loc.block }

abbrev pub enum_key : EnumId → TreeKey
enum_key id = record { krate = id.loc.container.map.krate; id = enum_tree id }

-- the variants of an enum, but for disabled ones
abbrev pub variants_at : TablesValue → Workspace → EnumId → Option (List VariantItem)
variants_at tables w id = variants_of (source_in tables w (enum_key id)) id.loc.id

-- the tree that writes a macro
abbrev pub macro_tree : MacroLoc → TreeId
macro_tree loc = record { file = loc.file_id; block = loc.block }

abbrev pub macro_key : MacroLoc → TreeKey
macro_key loc = record { krate = loc.container.map.krate; id = macro_tree loc }

-- the text of the macro that a node of a source defines
abbrev pub text_of : SourceTreeValue → NodeId → Option (List ℕ)
text_of t node = option_and_then entry_text (side_of t node)

-- the text of a macro; that of a procedural one is in no source
abbrev pub text_at : TablesValue → Workspace → MacroId → Option (List ℕ)
text_at tables w (Macro2Id id) = text_of (source_in tables w (macro_key id.loc)) (node_id MacroDef id.loc.id)
text_at tables w (MacroRulesId id) = text_of (source_in tables w (macro_key id.loc)) (node_id MacroRules id.loc.id)
text_at tables w (ProcMacroId id) = None

-- the tree that keeps a node
abbrev pub node_tree : AstId → TreeId
node_tree ast = record { file = ast.file_id; block = ast.block }

abbrev pub node_key : Crate → AstId → TreeKey
node_key krate ast = record { krate = krate; id = node_tree ast }

-- the input of the calls on a node of a source, if it isn't empty
abbrev pub input_of : SourceTreeValue → NodeId → Option (List ℕ)
input_of t node = option_and_then entry_input (side_of t node)

abbrev pub input_at : TablesValue → Workspace → Crate → AstId → Option (List ℕ)
input_at tables w krate ast = input_of (source_in tables w (node_key krate ast)) (node_id ast.kind ast.id)

-- an expansion that isn't there
abbrev pub absent_entry : EntryLook
absent_entry = record { present = false; error = None; inner = [] }

-- what an expansion has beside its items; where a number means nothing, none is there
abbrev pub entry_under : Workspace → Option ExpansionValue → EntryLook
entry_under w None = absent_entry
entry_under w (Some key) = w.entry key

abbrev pub entry_in : TablesValue → Workspace → EntryId → EntryLook
entry_in tables w id = entry_under w (entry_at tables id)

-- ---- keys

-- what is seen at a key
pub data Look : Type 0 where
  of_tree : TreeLook → Look
  of_variants : Option (List VariantItem) → Look
  of_text : Option (List ℕ) → Look
  of_input : Option (List ℕ) → Look
  of_entry : EntryLook → Look
  of_map : Option Placed → Look
  of_config : Option ConfigValue → Look

-- what is there at a key; that it is absent is an answer too
abbrev pub look : TablesValue → Workspace → Maps → Key → Look
look tables w finished (Tree key) = of_tree (tree_at tables w key)
look tables w finished (Variants id) = of_variants (variants_at tables w id)
look tables w finished (Text id) = of_text (text_at tables w id)
look tables w finished (Input krate ast) = of_input (input_at tables w krate ast)
look tables w finished (Expansion id) = of_entry (entry_in tables w id)
look tables w finished (Map id) = of_map (finished id)
look tables w finished (Config krate) = of_config (w.config krate)

-- the numbers in what defines a macro mean something
abbrev pub IsMeant : TablesValue → MacroId → Type 0
IsMeant tables (Macro2Id id) = IsSome (source_of tables (macro_tree id.loc))
IsMeant tables (MacroRulesId id) = IsSome (source_of tables (macro_tree id.loc))
IsMeant tables (ProcMacroId id) = ⊤

-- the numbers in a key mean something
abbrev pub HasMeaning : TablesValue → Key → Type 0
HasMeaning tables (Tree key) = IsSome (source_of tables key.id)
HasMeaning tables (Variants id) = IsSome (source_of tables (enum_tree id))
HasMeaning tables (Text id) = IsMeant tables id
HasMeaning tables (Input krate ast) = IsSome (source_of tables (node_tree ast))
HasMeaning tables (Expansion id) = IsSome (entry_at tables id)
HasMeaning tables (Map id) = ⊤
HasMeaning tables (Config krate) = ⊤

-- two workspaces have the same crates, and beside their finished maps the same at each of the keys
pub record AgreeOn (tables : TablesValue) (keys : List Key) (v : Workspace) (before : Maps) (w : Workspace) (finished : Maps) : Type 0 where
  pub crates : w.crates ≡ v.crates
  pub same : (key : Key) → Contains keys key → look tables w finished key ≡ look tables v before key

-- the key of a crate's map
abbrev pub map_key : Crate → Key
map_key krate = Map (crate_map krate)

-- the key of what a crate was handed in with
abbrev pub config_key : Crate → Key
config_key krate = Config krate

-- the keys of the maps of crates, each with that of what the crate was handed in with
abbrev pub dependency_keys : List Crate → List Key
dependency_keys [] = []
dependency_keys (c ∷ cs) = map_key c ∷ config_key c ∷ dependency_keys cs

-- the keys for which the run of a crate with these transitive dependencies asks, whatever its steps ask for
abbrev pub keys_behind : Crate → List Crate → List Key
keys_behind krate transitive = config_key krate ∷ dependency_keys transitive
