-- What are the items of a trait or an impl that is asked for?
use Rattle.std.specs.Prelude.{◌≡◌, ℕ, cond, is_none, List, [], slice_get, Option, None, Some, option_map, Result, Ok, Err}
use Rattle.std.specs.List.{filter_map}
use Rattle.std.specs.Option.{option_and_then}
use Rattle.hir_session_state.specs.HirBase.ModPath.{Path}
use Rattle.hir_session_state.specs.HirBase.Place.{PlaceValue}
use Rattle.hir_session_state.specs.HirIds.declared.ids.AssocItemId.{AssocItemId}
use Rattle.hir_session_state.specs.HirIds.declared.ast_id.AstId.{AstId}
use Rattle.hir_session_state.specs.HirIds.declared.ast_id.AstKind.{AstKind}
use Rattle.hir_session_state.specs.HirIds.declared.ast_id.BlockId.{BlockId}
use Rattle.hir_session_state.specs.HirIds.declared.ast_id.HirFileId.{HirFileId}
use Rattle.hir_session_state.specs.HirIds.declared.ids.ImplId.{ImplId}
use Rattle.hir_session_state.specs.HirIds.declared.ids.ItemContainerId.{ItemContainerId}
use Rattle.hir_session_state.specs.HirIds.declared.ast_id.MacroCallId.{MacroCallId}
use Rattle.hir_session_state.specs.HirIds.declared.ids.MapId.{MapId}
use Rattle.hir_session_state.specs.HirIds.declared.ids.ModuleDefId.{ModuleDefId}
use Rattle.hir_session_state.specs.HirIds.declared.ids.ModuleId.{ModuleId}
use Rattle.hir_session_state.specs.HirIds.declared.ast_id.SyntaxId.{SyntaxId}
use Rattle.hir_session_state.specs.HirIds.declared.ids.TraitId.{TraitId}
use Rattle.hir_session_state.specs.HirIds.declared.ast_id.AstKind.TheVariants as kind
use Rattle.hir_session_state.specs.HirIds.declared.ids.AssocItemId.TheVariants as assoc
use Rattle.hir_session_state.specs.HirIds.declared.ids.ItemContainerId.TheVariants as container
use Rattle.hir_session_state.specs.HirIds.declared.ids.ModuleDefId.TheVariants as def
use Rattle.hir_session_state.specs.HirScope.Scope.{ScopeValue}
use Rattle.hir_session_state.specs.HirScope.Scope.Reads.{impls_of_kind}
use Rattle.hir_session_state.specs.HirScope.declared.item_scope.iter.impls.ImplKind.TheVariants.{Any}
use Rattle.hir_session_state.specs.HirTables.Tables.{TablesValue}
use Rattle.hir_session_state.specs.HirDefMapRules.Overlay.{Maps, overlay}
use Rattle.hir_session_state.specs.HirDefMapRules.Scoping.{resolution_of}
use Rattle.hir_session_state.specs.HirDefMapRules.State.{Map, scope_at}
use Rattle.hir_session_state.specs.HirDefMapRules.declared.path_result.ResolvePathResult.{ResolvePathResult}
use Rattle.hir_session_state.specs.HirCollectorRules.Keys.{environment}
use Rattle.hir_assoc_items.specs.AssocItems.{FlattensTo, IsTooMany, ListingValue, container_of, items_written}
use Rattle.hir_assoc_items.specs.Written.{WrittenValue}
use Rattle.hir_session_state.specs.HirMessages.declared.answer.SourceCallKind.TheVariants as call
use Rattle.hir_session_state.specs.HirMessages.declared.items.AssocItem.{AssocItem}
use Rattle.hir_session_state.specs.HirMessages.declared.diagnostic.CalledItem.{CalledItem}
use Rattle.hir_session_state.specs.HirMessages.declared.answer.ItemSource.{ItemSource}
use Rattle.hir_session_state.specs.HirMessages.declared.items.Items.{Items}
use Rattle.hir_session_state.specs.HirMessages.declared.answer.SourceItem.{SourceItem}
use Rattle.hir_session_state.specs.HirMessages.declared.reply.Status.{Status}
use Rattle.hir_session_state.specs.HirMessages.declared.answer.SourceKind.TheVariants as source
use Rattle.hir_session_state.specs.HirMessages.declared.command.Shadow.TheVariants as shadow
use Rattle.hir_session_state.specs.HirMessages.declared.reply.Status.TheVariants as status
use Rattle.hir_session_state.specs.declared.error.ImplItemsError.{ImplItemsError}
use Rattle.hir_session_state.specs.declared.error.TraitItemsError.{TraitItemsError}
use Rattle.hir_session_state.specs.declared.error.ImplItemsError.TheVariants as impl_error
use Rattle.hir_session_state.specs.declared.error.TraitItemsError.TheVariants as trait_error
use Rattle.hir_session_state.specs.Kept.{Resolutions, kept_in}
use Rattle.hir_session_state.specs.SessionState.{SessionState, Resolution, kept_of, module_of, read_of, workspace_of}
use Rattle.hir_session_answers.specs.Answers.{asking_of}
use Rattle.hir_session_answers.specs.Diagnostics.{diagnostic_source, node_source}
use Rattle.hir_session_answers.specs.SourceCalls.{source_of}
use Rattle.hir_session_answers.specs.Status.{status_of}

-- ---- the trait

-- a trait, where a definition is one
abbrev pub trait_of : ModuleDefId → Option TraitId
trait_of (def.ModuleId m) = None
trait_of (def.FunctionId i) = None
trait_of (def.AdtId i) = None
trait_of (def.EnumVariantId i) = None
trait_of (def.ConstId i) = None
trait_of (def.StaticId i) = None
trait_of (def.TraitId i) = Some i
trait_of (def.TypeAliasId i) = None
trait_of (def.BuiltinType b) = None
trait_of (def.MacroId i) = None

-- the trait that a path names as a type, where the path doesn't go on past it
abbrev pub trait_named : ResolvePathResult → Option TraitId
trait_named r = cond (is_none r.segment_index) (option_and_then (λ i. trait_of i.def) r.resolved_def.types) None

-- a trait in a map that is kept
abbrev pub trait_kept : Resolutions → Option TraitId → Result TraitId TraitItemsError
trait_kept kept None = Err trait_error.NotATrait
trait_kept kept (Some t) = cond (is_none (kept_in kept t.loc.container.map)) (Err trait_error.UnknownPlace) (Ok t)

-- the trait that a path names from a module of what is kept, beside the finished maps that it reads
abbrev pub trait_from : Resolutions → Maps → Option Resolution → ModuleId → Path → Result TraitId TraitItemsError
trait_from kept read None m path = Err trait_error.UnknownPlace
trait_from kept read (Some r) m path = trait_kept kept (trait_named (resolution_of (overlay read r.map) (asking_of r.local shadow.Other None) m path))

abbrev pub trait_asked : SessionState → Option ModuleId → Path → Result TraitId TraitItemsError
trait_asked s None path = Err trait_error.UnknownPlace
trait_asked s (Some m) path = trait_from s.kept (read_of s m.map) (kept_of s m.map) m path

-- where the place's answers stand so
abbrev pub trait_by : Status → Result TraitId TraitItemsError → Result TraitId TraitItemsError
trait_by status.Current found = found
trait_by status.Stale found = Err trait_error.StalePlace
trait_by status.Unknown found = Err trait_error.UnknownPlace

-- the trait whose items are asked for, or why none are listed
abbrev pub trait_at : SessionState → PlaceValue → Path → Result TraitId TraitItemsError
trait_at s place path = trait_by (status_of s place) (trait_asked s (module_of s place) path)

-- ---- the impl

abbrev pub impls_by : Option ScopeValue → List ImplId
impls_by None = []
impls_by (Some scope) = impls_of_kind Any scope.impls

-- the impls of a module of a map, in the order of their numbers
abbrev pub impls_of : Map → ℕ → List ImplId
impls_of map index = impls_by (scope_at map index)

-- an impl in a map that is kept
abbrev pub impl_kept : Resolutions → Option ImplId → Result ImplId ImplItemsError
impl_kept kept None = Err impl_error.NoSuchImpl
impl_kept kept (Some i) = cond (is_none (kept_in kept i.loc.container.map)) (Err impl_error.UnknownPlace) (Ok i)

-- the impl of a number in a module of what is kept
abbrev pub impl_from : Resolutions → Option Resolution → ModuleId → ℕ → Result ImplId ImplItemsError
impl_from kept None m number = Err impl_error.UnknownPlace
impl_from kept (Some r) m number = impl_kept kept (slice_get (impls_of r.map m.index) number)

abbrev pub impl_asked : SessionState → Option ModuleId → ℕ → Result ImplId ImplItemsError
impl_asked s None number = Err impl_error.UnknownPlace
impl_asked s (Some m) number = impl_from s.kept (kept_of s m.map) m number

-- where the place's answers stand so
abbrev pub impl_by : Status → Result ImplId ImplItemsError → Result ImplId ImplItemsError
impl_by status.Current found = found
impl_by status.Stale found = Err impl_error.StalePlace
impl_by status.Unknown found = Err impl_error.UnknownPlace

-- the impl whose items are asked for, or why none are listed
abbrev pub impl_at : SessionState → PlaceValue → ℕ → Result ImplId ImplItemsError
impl_at s place number = impl_by (status_of s place) (impl_asked s (module_of s place) number)

-- ---- the items

-- a node of this kind, in what holds it
abbrev pub source_item_in : AstKind → SyntaxId → ItemSource → SourceItem
source_item_in node id held = record { source = held; kind = source.Node node; id = id }

-- the source item of a node
abbrev pub source_item_of : TablesValue → AstKind → HirFileId → Option BlockId → SyntaxId → Option SourceItem
source_item_of tables node file block id = option_map (source_item_in node id) (source_of tables file block)

-- the source item of an item of a trait or an impl
abbrev pub assoc_source : TablesValue → AssocItemId → Option SourceItem
assoc_source tables (assoc.FunctionId i) = source_item_of tables kind.Fn i.loc.file_id i.loc.block i.loc.id
assoc_source tables (assoc.ConstId i) = source_item_of tables kind.Const i.loc.file_id i.loc.block i.loc.id
assoc_source tables (assoc.TypeAliasId i) = source_item_of tables kind.TypeAlias i.loc.file_id i.loc.block i.loc.id

-- the same by its name
abbrev pub named_source : TablesValue → List ℕ × AssocItemId → Option AssocItem
named_source tables named = option_map (λ item. record { name = named.0; def = item }) (assoc_source tables named.1)

-- a macro call in a trait or an impl
abbrev pub called_source : TablesValue → AstId × MacroCallId → Option CalledItem
called_source tables called = option_map (λ item. record { item = item; kind = call.FnLike }) (node_source tables called.0)

-- a list in source items, in its order
abbrev pub items_told : TablesValue → Maps → ListingValue → Items
items_told tables maps listing = record {
  items = filter_map (named_source tables) listing.items;
  calls = filter_map (called_source tables) listing.calls;
  diagnostics = filter_map (diagnostic_source tables maps) listing.diagnostics;
}

-- what the present sources write in a trait or an impl of a map that is kept comes to this: in place of each call, where its path reaches a macro, stands
-- what it expands to. The calls have numbers in the grown session.
pub record Flattens (s t : SessionState) (id : MapId) (holder : ItemContainerId) (written : List WrittenValue) (listing : ListingValue) : Type 0 where
  pub found : Resolution
  pub is : kept_of s id ≡ Some found
  pub flattens : FlattensTo (environment t.tables (workspace_of s)) (container_of (overlay (read_of s id) found.map) found.local holder) written listing

-- one of those calls gets no number, since none is left, or more items come up than are counted
pub record IsTooManyIn (s t : SessionState) (id : MapId) (holder : ItemContainerId) (written : List WrittenValue) : Type 0 where
  pub found : Resolution
  pub is : kept_of s id ≡ Some found
  pub too_many : IsTooMany (environment t.tables (workspace_of s)) (container_of (overlay (read_of s id) found.map) found.local holder) written

-- a list is told, beside the maps that are read in the map that is kept
pub record Tells (s : SessionState) (id : MapId) (listing : ListingValue) (told : Items) : Type 0 where
  pub found : Resolution
  pub is : kept_of s id ≡ Some found
  pub are : told ≡ items_told s.tables (overlay (read_of s id) found.map) listing

-- what a trait or an impl holds is told
pub record ListsItems (s t : SessionState) (id : MapId) (holder : ItemContainerId) (written : List WrittenValue) (told : Items) : Type 0 where
  pub listing : ListingValue
  pub flattened : Flattens s t id holder written listing
  pub tells : Tells t id listing told

abbrev pub ListsTrait : SessionState → TraitId → Items → SessionState → Type 0
ListsTrait s id told t = ListsItems s t id.loc.container.map (container.TraitId id) (items_written s.tables (workspace_of s) id.loc kind.Trait) told

abbrev pub ListsImpl : SessionState → ImplId → Items → SessionState → Type 0
ListsImpl s id told t = ListsItems s t id.loc.container.map (container.ImplId id) (items_written s.tables (workspace_of s) id.loc kind.Impl) told

-- the items of a trait aren't listed: memory ran out, or there were no numbers for its calls
pub data RefusesTrait (s : SessionState) (id : TraitId) (why : TraitItemsError) (t : SessionState) : Type 0 where
  for_memory : why ≡ trait_error.Memory → RefusesTrait s id why t
  for_numbers : why ≡ trait_error.TooMany
      → IsTooManyIn s t id.loc.container.map (container.TraitId id) (items_written s.tables (workspace_of s) id.loc kind.Trait) → RefusesTrait s id why t

-- nor are those of an impl
pub data RefusesImpl (s : SessionState) (id : ImplId) (why : ImplItemsError) (t : SessionState) : Type 0 where
  for_memory : why ≡ impl_error.Memory → RefusesImpl s id why t
  for_numbers : why ≡ impl_error.TooMany
      → IsTooManyIn s t id.loc.container.map (container.ImplId id) (items_written s.tables (workspace_of s) id.loc kind.Impl) → RefusesImpl s id why t
