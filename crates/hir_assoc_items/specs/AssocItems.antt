-- Which items does a trait or an impl have?
--
-- Its list is gone through in order. A function, a type alias or a constant with a name is listed. The items of its expansion stand in place of a macro call
-- whose path reaches a macro, with all that this asks to have resolved first. What a condition leaves out, and a call that reaches no macro, are told instead.
use Rattle.std.specs.Prelude.{◌≡◌, ◌<◌, ◌≤◌, ℕ, suc, ◌+◌, List, [], ◌∷◌, ◌++◌, map, Option, None, Some, option_map, unwrap_or}
use Rattle.std.specs.Option.{option_and_then}
use Rattle.hir_collector_rules.specs.HirBase.Cfg.{Cfg}
use Rattle.hir_collector_rules.specs.HirIds.Ids.{container_module, macro_module}
use Rattle.hir_collector_rules.specs.HirBase.ModPath.{Path}
use Rattle.hir_collector_rules.specs.HirIds.declared.ids.AssocItemId.{AssocItemId}
use Rattle.hir_collector_rules.specs.HirIds.declared.ast_id.AstId.{AstId}
use Rattle.hir_collector_rules.specs.HirIds.declared.ast_id.AstKind.{AstKind}
use Rattle.hir_collector_rules.specs.HirIds.declared.ids.Crate.{Crate}
use Rattle.hir_collector_rules.specs.HirIds.declared.ast_id.EntryId.{EntryId}
use Rattle.hir_collector_rules.specs.HirIds.declared.ids.ItemContainerId.{ItemContainerId}
use Rattle.hir_collector_rules.specs.HirIds.declared.ids.ItemLoc.{ItemLoc}
use Rattle.hir_collector_rules.specs.HirIds.declared.ast_id.MacroCallId.{MacroCallId}
use Rattle.hir_collector_rules.specs.HirBase.declared.macro_kind.MacroCallLoc.{MacroCallLoc}
use Rattle.hir_collector_rules.specs.HirBase.declared.macro_kind.MacroText.{MacroText}
use Rattle.hir_collector_rules.specs.HirIds.declared.macro_kind.MacroId.{MacroId}
use Rattle.hir_collector_rules.specs.HirIds.declared.ids.ModuleId.{ModuleId}
use Rattle.hir_collector_rules.specs.HirIds.declared.ids.AssocItemId.TheVariants as definitions
use Rattle.hir_collector_rules.specs.HirBase.declared.macro_kind.CallStyle.TheVariants as styles
use Rattle.hir_collector_rules.specs.HirBase.declared.macro_kind.MacroCallKind.TheVariants as calls
use Rattle.hir_collector_rules.specs.HirIds.declared.macro_kind.MacroId.TheVariants.{Macro2Id, MacroRulesId, ProcMacroId}
use Rattle.hir_collector_rules.specs.HirBase.declared.resolve_mode.MacroSubNs.TheVariants as sub_namespaces
use Rattle.hir_collector_rules.specs.HirItemTree.KeptForest.{KeptItem}
use Rattle.hir_collector_rules.specs.HirItemTree.SideLists.{entry_associated}
use Rattle.hir_collector_rules.specs.HirItemTree.SourceTree.{SourceTreeValue, side_of}
use Rattle.hir_collector_rules.specs.HirItemTree.SyntaxIds.{node_id}
use Rattle.hir_collector_rules.specs.HirItemTree.declared.check.NodeId.{NodeId}
use Rattle.hir_collector_rules.specs.HirBase.declared.tree_id.TreeId.{TreeId}
use Rattle.hir_collector_rules.specs.HirBase.declared.tree_id.TreeKey.{TreeKey}
use Rattle.hir_collector_rules.specs.HirTables.SourcePlaces.{ExpansionValue}
use Rattle.hir_collector_rules.specs.HirTables.Tables.{TablesValue, call_at, entry_at}
use Rattle.hir_collector_rules.specs.HirDefMapRules.Diagnostics.{DiagnosticValue, KindValue, UnconfiguredCode, UnresolvedMacroCall, MacroError, diagnostic_view}
use Rattle.hir_collector_rules.specs.HirDefMapRules.Macros.{macro_data_at}
use Rattle.hir_collector_rules.specs.HirDefMapRules.Overlay.{Maps, map_in}
use Rattle.hir_collector_rules.specs.HirDefMapRules.Scoping.{resolution_of}
use Rattle.hir_collector_rules.specs.HirDefMapRules.State.{Local, MacroDataValue, Map}
use Rattle.hir_collector_rules.specs.HirMapParts.declared.diagnostics.DefDiagnostic.{DefDiagnostic}
use Rattle.hir_collector_rules.specs.Calls.{asked_first, by_style, call_key, call_tree, error_of, expansion_of_call, macro_among, or_missing, text_by}
use Rattle.hir_collector_rules.specs.Keys.{Environment, IsMeant, input_at, source_in, text_at}
use Rattle.hir_collector_rules.specs.NumberedOut.{IsNumberedOut}
use Rattle.hir_collector_rules.specs.Workspace.{Workspace, options_of}
use Rattle.hir_collector_rules.specs.declared.start.TheConstants.{STEP_LIMIT}
use Rattle.hir_assoc_items.specs.Depth.{expansions_around}
use Rattle.hir_assoc_items.specs.Written.{WrittenValue, item_node, path_called, top_items, written}
use Rattle.hir_assoc_items.specs.declared.written.AssocKind.{AssocKind}
use Rattle.hir_assoc_items.specs.declared.written.AssocKind.TheVariants as kinds

-- ---- the list of a trait or an impl

-- the tree that writes a trait or an impl
abbrev pub loc_tree : ItemLoc ModuleId → TreeId
loc_tree loc = record { file = loc.file_id; block = loc.block }

abbrev pub loc_key : ItemLoc ModuleId → TreeKey
loc_key loc = record { krate = loc.container.map.krate; id = loc_tree loc }

-- what a source keeps for a trait or an impl, if it has that
abbrev pub kept_for : SourceTreeValue → NodeId → List KeptItem
kept_for t node = unwrap_or (option_and_then entry_associated (side_of t node)) []

-- the items of a trait or an impl as its source has them; none where the source or the node is gone
abbrev pub items_written : TablesValue → Workspace → ItemLoc ModuleId → AstKind → List WrittenValue
items_written tables w loc kind =
    written (loc_tree loc) (expansions_around tables loc.file_id loc.block) (kept_for (source_in tables w (loc_key loc)) (node_id kind loc.id))

-- ---- what a call reaches, and what it expands to

-- a trait or an impl, the maps in which the paths of its calls are looked up, and the crates that these may begin with
pub record ContainerValue : Type 0 where
  pub holder : ItemContainerId
  pub maps : Maps
  pub local : Local

abbrev pub container_of : Maps → Local → ItemContainerId → ContainerValue
container_of maps local id = record { holder = id; maps = maps; local = local }

-- the module in which it is
abbrev pub module_of : ContainerValue → ModuleId
module_of c = container_module c.holder

abbrev pub crate_of : ContainerValue → Crate
crate_of c = (module_of c).map.krate

-- how deep calls may be; where its map isn't there, no call is expanded
abbrev pub limit_of : ContainerValue → ℕ
limit_of c = unwrap_or (option_map (λ (m : Map). m.crate_data.recursion_limit) (map_in c.maps (module_of c).map)) 0

-- the macro that a path reaches there as that of a call
abbrev pub macro_called : ContainerValue → Path → Option MacroId
macro_called c path = macro_among (resolution_of c.maps (by_style sub_namespaces.Bang c.local) (module_of c) path).resolved_def

-- the name under which a procedural macro is exported
abbrev pub exported_name : Maps → MacroId → Option (List ℕ)
exported_name maps makro =
    option_map (λ (what : MacroDataValue). what.name) (option_and_then (λ (m : Map). macro_data_at m makro) (map_in maps (macro_module makro).map))

-- the text of a macro, of a procedural one its name
abbrev pub macro_text : Environment → Maps → MacroId → Option (List ℕ)
macro_text env maps (Macro2Id id) = text_at env.tables env.workspace (Macro2Id id)
macro_text env maps (MacroRulesId id) = text_at env.tables env.workspace (MacroRulesId id)
macro_text env maps (ProcMacroId id) = exported_name maps (ProcMacroId id)

-- what the expansion of a call depends on that is written at a node and reaches a macro, while no path is resolved
abbrev pub first_expansion : Environment → ContainerValue → AstId → MacroId → ExpansionValue
first_expansion env c node makro =
    expansion_of_call (crate_of c) styles.Bang makro (macro_text env c.maps makro) (input_at env.tables env.workspace (crate_of c) node)

-- the paths that the macro asks to have resolved first
abbrev pub inner_paths : Environment → ContainerValue → AstId → MacroId → List Path
inner_paths env c node makro = asked_first makro (env.workspace.entry (first_expansion env c node makro))

-- the first of some paths that reaches nothing
abbrev pub first_missing : ContainerValue → List Path → Option Path
first_missing c [] = None
first_missing c (path ∷ paths) = or_missing path (macro_called c path) (first_missing c paths)

-- the macros that paths reach, with their texts
abbrev pub with_reached : Environment → ContainerValue → Option MacroId → List MacroText → List MacroText
with_reached env c None texts = texts
with_reached env c (Some makro) texts = text_by (record { makro = makro; text = macro_text env c.maps makro }) ∷ texts

abbrev pub texts_reached : Environment → ContainerValue → List Path → List MacroText
texts_reached env c [] = []
texts_reached env c (path ∷ paths) = with_reached env c (macro_called c path) (texts_reached env c paths)

-- what the expansion depends on: the macros that these paths reach as well
abbrev pub expansion_by : Environment → ContainerValue → AstId → MacroId → ExpansionValue
expansion_by env c node makro =
    record (first_expansion env c node makro) { reached = texts_reached env c (inner_paths env c node makro) }

abbrev pub call_loc : AstId → EntryId → MacroCallLoc
call_loc node entry = record { kind = calls.FnLike node; entry = entry }

-- the call has this number
pub record IsNumberOfCall (env : Environment) (c : ContainerValue) (node : AstId) (makro : MacroId) (id : MacroCallId) : Type 0 where
  pub entry : EntryId
  pub depends : entry_at env.tables entry ≡ Some (expansion_by env c node makro)
  pub call : call_at env.tables id ≡ Some (call_loc node entry)

-- what it expands to
abbrev pub call_source : Environment → ContainerValue → MacroCallId → SourceTreeValue
call_source env c id = source_in env.tables env.workspace (call_key (crate_of c) id)

-- why it didn't expand, or not well
abbrev pub call_error : Environment → ContainerValue → AstId → MacroId → Option (List ℕ)
call_error env c node makro = error_of (env.workspace.entry (expansion_by env c node makro))

-- ---- what is answered

-- the items with their names, the calls that were expanded, and what went wrong
pub record ListingValue : Type 0 where
  pub items : List (List ℕ × AssocItemId)
  pub calls : List (AstId × MacroCallId)
  pub diagnostics : List DiagnosticValue

abbrev pub listing_of : List (List ℕ × AssocItemId) → List (AstId × MacroCallId) → List DefDiagnostic → ListingValue
listing_of items calls diagnostics = record { items = items; calls = calls; diagnostics = map diagnostic_view diagnostics }

abbrev pub nothing : ListingValue
nothing = record { items = []; calls = []; diagnostics = [] }

-- one after the other
abbrev pub followed_by : ListingValue → ListingValue → ListingValue
followed_by a b = record { items = a.items ++ b.items; calls = a.calls ++ b.calls; diagnostics = a.diagnostics ++ b.diagnostics }

abbrev pub listed_by : Option (List ℕ × AssocItemId) → ListingValue
listed_by None = nothing
listed_by (Some named) = record { items = named ∷ []; calls = []; diagnostics = [] }

abbrev pub one_diagnostic : ContainerValue → KindValue → ListingValue
one_diagnostic c kind = record { items = []; calls = []; diagnostics = record { in_module = module_of c; kind = kind } ∷ [] }

abbrev pub error_told : ContainerValue → AstId → Path → Option (List ℕ) → List DiagnosticValue
error_told c node path None = []
error_told c node path (Some error) = record { in_module = module_of c; kind = MacroError node path error } ∷ []

-- a call that was expanded, and what is wrong with its expansion
abbrev pub one_call : ContainerValue → AstId → MacroCallId → Path → Option (List ℕ) → ListingValue
one_call c node id path error = record { items = []; calls = (node, id) ∷ []; diagnostics = error_told c node path error }

abbrev pub item_loc : ContainerValue → WrittenValue → ItemLoc ItemContainerId
item_loc c i = record { container = c.holder; file_id = i.tree.file; block = i.tree.block; id = i.id }

-- the name and the definition of a function, a type alias or a constant with a name
abbrev pub definition_by : ItemLoc ItemContainerId → AssocKind → Option (List ℕ × AssocItemId)
definition_by loc (kinds.Function name) = Some (name, definitions.FunctionId (record { loc = loc }))
definition_by loc (kinds.Const None) = None
definition_by loc (kinds.Const (Some name)) = Some (name, definitions.ConstId (record { loc = loc }))
definition_by loc (kinds.TypeAlias name) = Some (name, definitions.TypeAliasId (record { loc = loc }))
definition_by loc (kinds.MacroCall path) = None

abbrev pub definition_of : ContainerValue → WrittenValue → Option (List ℕ × AssocItemId)
definition_of c i = definition_by (item_loc c i) i.kind

-- it is told with the options that are set in the crate
abbrev pub unconfigured : Environment → ContainerValue → WrittenValue → Cfg → ListingValue
unconfigured env c i condition = one_diagnostic c (UnconfiguredCode (item_node i) condition (options_of (env.workspace.config (crate_of c))))

abbrev pub unresolved : ContainerValue → WrittenValue → Path → ListingValue
unresolved c i path = one_diagnostic c (UnresolvedMacroCall (calls.FnLike (item_node i)) path)

-- ---- what becomes of an item

-- a call by this path that no condition leaves out
pub record IsCall (i : WrittenValue) (path : Path) : Type 0 where
  pub enabled : i.disabled ≡ None
  pub call : path_called i.kind ≡ Some path

-- what a call by this path adds to the listing, and the items that stand in its place
pub data CallBecomes (env : Environment) (c : ContainerValue) (i : WrittenValue) (path : Path) : ListingValue → List WrittenValue → Type 0 where
  -- one that is deeper than calls may be is dropped
  too_deep : limit_of c ≤ i.level → CallBecomes env c i path nothing []
  -- one that reaches no macro is told
  unreached : i.level < limit_of c → macro_called c path ≡ None → CallBecomes env c i path (unresolved c i path) []
  -- so is one whose macro asks for a path first that reaches none: for the first such path
  waits : (makro : MacroId) (inner : Path) → i.level < limit_of c → macro_called c path ≡ Some makro
      → first_missing c (inner_paths env c (item_node i) makro) ≡ Some inner → CallBecomes env c i path (unresolved c i inner) []
  -- the items of its expansion, one level deeper
  expanded : (makro : MacroId) (id : MacroCallId) → i.level < limit_of c → macro_called c path ≡ Some makro
      → first_missing c (inner_paths env c (item_node i) makro) ≡ None → IsNumberOfCall env c (item_node i) makro id
      → CallBecomes env c i path (one_call c (item_node i) id path (call_error env c (item_node i) makro))
      (written (call_tree id) (i.level + 1) (top_items (call_source env c id).tree.items))

-- so an item
pub data Becomes (env : Environment) (c : ContainerValue) (i : WrittenValue) : ListingValue → List WrittenValue → Type 0 where
  -- a condition leaves it out, which is told
  left_out : (condition : Cfg) → i.disabled ≡ Some condition → Becomes env c i (unconfigured env c i condition) []
  -- a function, a type alias or a constant is listed under its name, if it has one
  listed : i.disabled ≡ None → path_called i.kind ≡ None → Becomes env c i (listed_by (definition_of c i)) []
  call : (path : Path) (ahead : ListingValue) (inside : List WrittenValue) → IsCall i path → CallBecomes env c i path ahead inside
      → Becomes env c i ahead inside

-- what items come to, one after another
pub data FlattensTo (env : Environment) (c : ContainerValue) : List WrittenValue → ListingValue → Type 0 where
  none : FlattensTo env c [] nothing
  next : (i : WrittenValue) (rest : List WrittenValue) (ahead : ListingValue) (inside : List WrittenValue) (behind : ListingValue)
      → Becomes env c i ahead inside
      → FlattensTo env c (inside ++ rest) behind → FlattensTo env c (i ∷ rest) (followed_by ahead behind)

-- ---- why it is given up

-- the item that comes up after so many others
pub data ComesUp (env : Environment) (c : ContainerValue) : List WrittenValue → ℕ → WrittenValue → Type 0 where
  first : (i : WrittenValue) (rest : List WrittenValue) → ComesUp env c (i ∷ rest) 0 i
  later : (i : WrittenValue) (rest : List WrittenValue) (ahead : ListingValue) (inside : List WrittenValue) (n : ℕ) (j : WrittenValue)
      → Becomes env c i ahead inside
      → ComesUp env c (inside ++ rest) n j → ComesUp env c (i ∷ rest) (suc n) j

-- a call isn't too deep, and reaches this macro
pub record Reaches (c : ContainerValue) (i : WrittenValue) (path : Path) (makro : MacroId) : Type 0 where
  pub is : IsCall i path
  pub shallow : i.level < limit_of c
  pub reached : macro_called c path ≡ Some makro

-- an item that comes up is a call that reaches this macro
pub record Meets (env : Environment) (c : ContainerValue) (items : List WrittenValue) (i : WrittenValue) (makro : MacroId) : Type 0 where
  pub before : ℕ
  pub comes : ComesUp env c items before i
  pub path : Path
  pub reaches : Reaches c i path makro

-- all paths that its macro asks for first reach macros, and what the call depends on has no number and gets none; or it has one, and the call gets none
pub data HasNoNumber (env : Environment) (c : ContainerValue) (node : AstId) (makro : MacroId) : Type 0 where
  expansion_out : first_missing c (inner_paths env c node makro) ≡ None → IsNumberedOut env.tables.entries (expansion_by env c node makro)
      → HasNoNumber env c node makro
  call_out : first_missing c (inner_paths env c node makro) ≡ None → (entry : EntryId) → entry_at env.tables entry ≡ Some (expansion_by env c node makro)
      → IsNumberedOut env.tables.calls (call_loc node entry)
      → HasNoNumber env c node makro

-- no number is left for a call, or more items come up than are counted
pub data IsTooMany (env : Environment) (c : ContainerValue) (items : List WrittenValue) : Type 0 where
  numbered_out : (i : WrittenValue) (makro : MacroId) → Meets env c items i makro → HasNoNumber env c (item_node i) makro → IsTooMany env c items
  overlong : (i : WrittenValue) → ComesUp env c items STEP_LIMIT i → IsTooMany env c items

-- the source of a macro that a call reaches has no number, or that of one which a path reaches
pub data IsUnknown (tables : TablesValue) (c : ContainerValue) (makro : MacroId) : Type 0 where
  of_macro : ¬ IsMeant tables makro → IsUnknown tables c makro
  of_inner : (path : Path) (inner : MacroId) → macro_called c path ≡ Some inner → ¬ IsMeant tables inner → IsUnknown tables c makro

-- a call reaches such a macro
pub record ReachesUnknown (env : Environment) (c : ContainerValue) (items : List WrittenValue) : Type 0 where
  pub item : WrittenValue
  pub makro : MacroId
  pub meets : Meets env c items item makro
  pub unknown : IsUnknown env.tables c makro
