-- For which source does a key ask?
use Rattle.std.specs.Prelude.{Option, Some, None, option_map}
use Rattle.std.specs.Option.{option_and_then}
use Rattle.hir_collector_rules.specs.HirIds.declared.macro_kind.MacroId.{MacroId}
use Rattle.hir_collector_rules.specs.HirIds.declared.macro_kind.MacroId.TheVariants.{Macro2Id, MacroRulesId, ProcMacroId}
use Rattle.hir_collector_rules.specs.HirBase.declared.tree_id.TreeKey.{TreeKey}
use Rattle.hir_collector_rules.specs.HirTables.SourcePlaces.{SourcePlaceValue, expansion}
use Rattle.hir_collector_rules.specs.HirTables.Tables.{TablesValue, entry_at, source_of}
use Rattle.hir_collector_rules.specs.Keys.{enum_key, macro_key, node_key}
use Rattle.hir_collector_rules.specs.declared.source_database.Key.{Key}
use Rattle.hir_collector_rules.specs.declared.source_database.Key.TheVariants.{Tree, Variants, Text, Input, Expansion, Map, Config}

-- the tree that writes a macro which is no procedural one
abbrev pub macro_source : MacroId → Option TreeKey
macro_source (Macro2Id id) = Some (macro_key id.loc)
macro_source (MacroRulesId id) = Some (macro_key id.loc)
macro_source (ProcMacroId id) = None

-- the tree of the source of which a key asks for something
abbrev pub key_tree : Key → Option TreeKey
key_tree (Tree key) = Some key
key_tree (Variants id) = Some (enum_key id)
key_tree (Text id) = macro_source id
key_tree (Input krate ast) = Some (node_key krate ast)
key_tree (Expansion id) = None
key_tree (Map id) = None
key_tree (Config krate) = None

-- where the source of a tree stands
abbrev pub tree_place : TablesValue → Option TreeKey → Option SourcePlaceValue
tree_place tables tree = option_and_then (λ (key : TreeKey). source_of tables key.id) tree

-- where the source stands for which a key asks, if it asks for one
abbrev pub key_place : TablesValue → Key → Option SourcePlaceValue
key_place tables (Tree key) = tree_place tables (Some key)
key_place tables (Variants id) = tree_place tables (Some (enum_key id))
key_place tables (Text id) = tree_place tables (macro_source id)
key_place tables (Input krate ast) = tree_place tables (Some (node_key krate ast))
key_place tables (Expansion id) = option_map expansion (entry_at tables id)
key_place tables (Map id) = None
key_place tables (Config krate) = None
