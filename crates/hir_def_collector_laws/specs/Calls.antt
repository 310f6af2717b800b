-- Where are the macro calls, paths of derives and attributes written that a run came upon?
use Rattle.std.specs.Prelude.{◌≡◌, ◌<◌, ℕ, true, false, List, Some, length, Contains, slice_get}
use Rattle.hir_collector_rules.specs.HirBase.ModPath.{Path}
use Rattle.hir_collector_rules.specs.HirIds.declared.ids.AdtId.{AdtId}
use Rattle.hir_collector_rules.specs.HirIds.declared.ast_id.AstId.{AstId}
use Rattle.hir_collector_rules.specs.HirIds.declared.ast_id.AttrId.{AttrId}
use Rattle.hir_collector_rules.specs.HirItemTree.Collected.{Numbered, is_enabled}
use Rattle.hir_collector_rules.specs.HirItemTree.KeptForest.{Head, KeptItem, leaf, macro_call}
use Rattle.hir_collector_rules.specs.HirItemTree.Kinds.{item_head}
use Rattle.hir_collector_rules.specs.HirBase.declared.tree_id.TreeKey.{TreeKey}
use Rattle.hir_collector_rules.specs.HirUseTree.UseTree.{count_of}
use Rattle.hir_collector_rules.specs.HirTables.Tables.{TablesValue}
use Rattle.hir_collector_rules.specs.HirDefMapRules.Overlay.{Maps}
use Rattle.hir_collector_rules.specs.declared.macro_directive.MacroDirective.{MacroDirective}
use Rattle.hir_collector_rules.specs.declared.macro_directive.MacroDirectiveKind.{MacroDirectiveKind}
use Rattle.hir_collector_rules.specs.declared.site.Site.{Site}
use Rattle.hir_collector_rules.specs.declared.macro_directive.WaitingItem.{WaitingItem}
use Rattle.hir_collector_rules.specs.declared.macro_directive.MacroDirectiveKind.TheVariants.{Attr, Derive, FnLike}
use Rattle.hir_collector_rules.specs.Attributes.{AreAlwaysPassed, adt_of, attr_id, is_always_passed, is_derive, item_node, paths_in}
use Rattle.hir_collector_rules.specs.Calls.{item_kept}
use Rattle.hir_collector_rules.specs.Derivation.{CollectedValue, Ends}
use Rattle.hir_collector_rules.specs.Start.{Beginning}
use Rattle.hir_collector_rules.specs.Steps.{call_at}
use Rattle.hir_collector_rules.specs.Workspace.{Workspace}
use Rattle.hir_def_collector_laws.specs.Written.{IsWritten, key_of}

-- a call is an enabled item, which is written in the tree of the call's site
pub record IsCallItem (tables : TablesValue) (w : Workspace) (answer : CollectedValue) (d : MacroDirective) : Type 0 where
  pub head : Head
  pub path : Path
  pub written : IsWritten tables w answer.asked (key_of answer d.site.tree) (leaf head (macro_call path))
  pub enabled : is_enabled head.attributes ≡ true
  pub is : d ≡ call_at d.site head path

-- an enabled item with an attribute of this number is written in the tree of a site, and this is its node; the attribute isn't one that is passed wherever it stands
pub record HasAttributeAt (tables : TablesValue) (w : Workspace) (answer : CollectedValue) (site : Site) (node : AstId) (id : AttrId) (item : KeptItem)
    (a : Numbered) : Type 0 where
  pub written : IsWritten tables w answer.asked (key_of answer site.tree) item
  pub enabled : is_enabled (item_head item).attributes ≡ true
  pub node_is : node ≡ item_node site item
  pub has : Contains (item_head item).attributes.attributes a
  pub number : id ≡ attr_id a
  pub unpassed : is_always_passed answer.map.crate_data.registered_tools a ≡ false

-- a path of a derive is one that a `derive` on a struct, enum or union lists at its place
pub record IsDerivePath (tables : TablesValue) (w : Workspace) (answer : CollectedValue) (d : MacroDirective) (path : Path) (id : AttrId) (index : ℕ)
    (adt : AdtId) : Type 0 where
  pub item : KeptItem
  pub attribute : Numbered
  pub at : HasAttributeAt tables w answer d.site d.ast_id id item attribute
  pub derives : is_derive attribute ≡ true
  pub target : adt_of answer.map d.site item ≡ Some adt
  pub paths : List Path
  pub lists : paths_in attribute.meta.input ≡ Some paths
  pub place : ℕ
  pub path_is : slice_get paths place ≡ Some path
  pub index_is : index ≡ count_of place

-- an attribute is one of the item that waits for it, and no `derive`
pub record IsAttribute (tables : TablesValue) (w : Workspace) (answer : CollectedValue) (d : MacroDirective) (path : Path) (id : AttrId)
    (k : WaitingItem) : Type 0 where
  pub item : KeptItem
  pub kept : item_kept k ≡ Some item
  pub attribute : Numbered
  pub at : HasAttributeAt tables w answer d.site d.ast_id id item attribute
  pub looked_up : is_derive attribute ≡ false
  pub path_is : attribute.meta.path ≡ path

abbrev pub IsCallBy : TablesValue → Workspace → CollectedValue → MacroDirective → MacroDirectiveKind → Type 0
IsCallBy tables w answer d (FnLike path) = IsCallItem tables w answer d
IsCallBy tables w answer d (Derive path attr index adt) = IsDerivePath tables w answer d path attr index adt
IsCallBy tables w answer d (Attr path attr k) = IsAttribute tables w answer d path attr k

-- what waits or waited for a macro is written so
pub record IsCall (tables : TablesValue) (w : Workspace) (answer : CollectedValue) (d : MacroDirective) : Type 0 where
  pub by : IsCallBy tables w answer d d.kind

-- so is each that a run came upon, and it stands in a module of the run's map
abbrev pub CallsAreWritten : Type 0
CallsAreWritten =
    (tables : TablesValue) (w : Workspace) (finished : Maps) (from : Beginning) (answer : CollectedValue) → (ends : Ends tables w finished from answer)
    → (d : MacroDirective) → Contains ends.last.core.calls d → IsCall tables w answer d × (d.site.home < length answer.map.modules)

-- nothing that waits for a macro is written in what a run asked for, disabled items aside: no call, no `derive` and no attribute for which something is looked up
pub record NoCallIsWritten (tables : TablesValue) (w : Workspace) (answer : CollectedValue) : Type 0 where
  pub no_call : (key : TreeKey) (head : Head) (path : Path) → IsWritten tables w answer.asked key (leaf head (macro_call path)) → is_enabled head.attributes
      ≡ false
  pub no_attribute : (key : TreeKey) (item : KeptItem) → IsWritten tables w answer.asked key item → is_enabled (item_head item).attributes ≡ true
      → AreAlwaysPassed answer.map.crate_data.registered_tools (item_head item).attributes.attributes
