-- Which macro does a call, a path of a derive or an attribute reach, and what does it expand to?
use Rattle.std.specs.Prelude.{◌≡◌, ◌<◌, IsSome, ℕ, ◌+◌, Bool, true, false, List, [], ◌∷◌, ◌++◌, Contains, codes, Option, None, Some, cond, map, not}
use Rattle.std.specs.Prelude.{option_map, unwrap_or}
use Rattle.std.specs.Prelude.{slice_get}
use Rattle.std.specs.List.{All}
use Rattle.std.specs.Option.{option_and_then}
use Rattle.either.specs.declared.Either.{Either}
use Rattle.hir_nameres.specs.HirIds.Ids.{macro_module}
use Rattle.hir_nameres.specs.HirIds.MacroKind.{contains_styles, derive_alone, styles_of}
use Rattle.hir_nameres.specs.HirBase.ModPath.{Path}
use Rattle.hir_nameres.specs.HirIds.declared.ast_id.AstId.{AstId}
use Rattle.hir_nameres.specs.HirIds.declared.ast_id.AttrId.{AttrId}
use Rattle.hir_nameres.specs.HirIds.declared.macro_kind.BuiltinDeriveImplId.{BuiltinDeriveImplId}
use Rattle.hir_nameres.specs.HirBase.declared.macro_kind.CallStyle.{CallStyle}
use Rattle.hir_nameres.specs.HirIds.declared.ids.Crate.{Crate}
use Rattle.hir_nameres.specs.HirIds.declared.ast_id.EntryId.{EntryId}
use Rattle.hir_nameres.specs.HirIds.declared.ast_id.MacroCallId.{MacroCallId}
use Rattle.hir_nameres.specs.HirBase.declared.macro_kind.MacroCallKind.{MacroCallKind}
use Rattle.hir_nameres.specs.HirBase.declared.macro_kind.MacroCallLoc.{MacroCallLoc}
use Rattle.hir_nameres.specs.HirIds.declared.macro_kind.MacroExpander.{MacroExpander}
use Rattle.hir_nameres.specs.HirIds.declared.macro_kind.MacroId.{MacroId}
use Rattle.hir_nameres.specs.HirIds.contracts.macro_kind.MacroIdPartialEq.TheImpl as macro_equality
use Rattle.hir_nameres.specs.HirBase.declared.macro_kind.MacroText.{MacroText}
use Rattle.hir_nameres.specs.HirBase.declared.resolve_mode.MacroSubNs.{MacroSubNs}
use Rattle.hir_nameres.specs.HirIds.declared.ast_id.HirFileId.TheVariants.{Macro}
use Rattle.hir_nameres.specs.HirBase.declared.macro_kind.CallStyle.TheVariants as styles
use Rattle.hir_nameres.specs.HirIds.declared.macro_kind.MacroExpander.TheVariants as expanders
use Rattle.hir_nameres.specs.HirBase.declared.macro_kind.MacroCallKind.TheVariants as call_kinds
use Rattle.hir_nameres.specs.HirIds.declared.macro_kind.MacroId.TheVariants.{Macro2Id, MacroRulesId, ProcMacroId}
use Rattle.hir_nameres.specs.HirBase.declared.resolve_mode.BuiltinShadowMode.TheVariants as shadow_modes
use Rattle.hir_nameres.specs.HirBase.declared.resolve_mode.MacroSubNs.TheVariants as sub_namespaces
use Rattle.hir_nameres.specs.HirDefMapRules.declared.path_result.ResolveMode.TheVariants as modes
use Rattle.hir_nameres.specs.HirBase.declared.tree_id.TreeId.{TreeId}
use Rattle.hir_nameres.specs.HirBase.declared.tree_id.TreeKey.{TreeKey}
use Rattle.hir_nameres.specs.HirPerNs.PerNs.{Item}
use Rattle.hir_nameres.specs.HirPerNs.declared.imports.ImportOrExternCrate.{ImportOrExternCrate}
use Rattle.hir_nameres.specs.HirPerNs.declared.per_ns.PerNs.{PerNs}
use Rattle.hir_tables.specs.SourcePlaces.{ExpansionValue}
use Rattle.hir_tables.specs.Tables.{TablesValue, call_at, entry_at, source_of}
use Rattle.hir_nameres.specs.HirDefMapRules.Diagnostics.{call_node}
use Rattle.hir_nameres.specs.HirDefMapRules.Macros.{macro_data_at}
use Rattle.hir_nameres.specs.HirDefMapRules.Overlay.{Maps, map_in, overlay}
use Rattle.hir_nameres.specs.HirDefMapRules.Scoping.{resolution_of}
use Rattle.hir_nameres.specs.HirDefMapRules.Scoping.Asking.{Asking}
use Rattle.hir_nameres.specs.HirDefMapRules.State.{Local, MacroDataValue, Map, numbered}
use Rattle.hir_nameres.specs.HirMapParts.declared.derive_helpers.DeriveHelper.{DeriveHelper}
use Rattle.hir_item_tree.specs.KeptForest.{KeptItem, all_items}
use Rattle.hir_collector_rules.specs.declared.macro_directive.EagerMacro.{EagerMacro}
use Rattle.hir_collector_rules.specs.declared.macro_directive.Fate.TheVariants as fates
use Rattle.hir_collector_rules.specs.declared.macro_directive.MacroDirective.{MacroDirective}
use Rattle.hir_collector_rules.specs.declared.macro_directive.MacroDirectiveKind.{MacroDirectiveKind}
use Rattle.hir_collector_rules.specs.declared.macro_directive.MacroDirectiveKind.TheVariants.{Attr, Derive, FnLike}
use Rattle.hir_collector_rules.specs.declared.macro_directive.WaitingItem.{WaitingItem}
use Rattle.hir_collector_rules.specs.declared.site.Site.{Site}
use Rattle.hir_collector_rules.specs.declared.source_database.Key.TheVariants as keys
use Rattle.hir_collector_rules.specs.Attributes.{is_helper}
use Rattle.hir_collector_rules.specs.Keys.{IsMeant, node_tree, of_entry, of_input, of_text, of_tree}
use Rattle.hir_collector_rules.specs.ModuleFiles.{IsFileMeant, Reading}
use Rattle.hir_collector_rules.specs.State.{Core, State, eager_at}
use Rattle.hir_collector_rules.specs.Workspace.{EntryLook, TreeLook}

-- ---- which macro

-- the path of what names a macro
abbrev pub path_by : MacroDirectiveKind → Path
path_by (FnLike path) = path
path_by (Derive path attr index adt) = path
path_by (Attr path attr item) = path

abbrev pub path_of_call : MacroDirective → Path
path_of_call d = path_by d.kind

-- how a path asks for a macro: that of a call for one that can be called, those of derives and attributes for one of theirs
abbrev pub style_of : MacroDirectiveKind → MacroSubNs
style_of (FnLike path) = sub_namespaces.Bang
style_of (Derive path attr index adt) = sub_namespaces.Attr
style_of (Attr path attr item) = sub_namespaces.Attr

abbrev pub by_style : MacroSubNs → Local → Asking
by_style style local = record { local = local; mode = modes.Other; shadow = shadow_modes.Module; sub_ns = Some style }

-- whether a macro that a path reaches will do: a path of a derive wants one that can be derived with
abbrev pub suits : MacroDirectiveKind → MacroId → Bool
suits (FnLike path) makro = true
suits (Derive path attr index adt) makro = contains_styles (styles_of makro) derive_alone
suits (Attr path attr item) makro = true

-- the macro among what a path reaches
abbrev pub macro_among : PerNs → Option MacroId
macro_among items = option_map (λ (i : Item MacroId ImportOrExternCrate). i.def) items.macros

abbrev pub suited : MacroDirectiveKind → Option MacroId → Option MacroId
suited kind found = option_and_then (λ makro. cond (suits kind makro) (Some makro) None) found

-- the macro that a call, a path of a derive or an attribute reaches, if it reaches one
abbrev pub called_macro : Maps → Local → Map → MacroDirective → Option MacroId
called_macro finished local m d =
    suited d.kind (macro_among (resolution_of (overlay finished m) (by_style (style_of d.kind) local) (numbered m.id d.site.home)
    (path_of_call d)).resolved_def)

-- whether it is an attribute, and is inert by now: a derive brought a helper of its name into scope on its item
abbrev pub is_inert_by : Map → AstId → MacroDirectiveKind → Bool
is_inert_by m node (FnLike path) = false
is_inert_by m node (Derive path attr index adt) = false
is_inert_by m node (Attr path attr item) = is_helper m node path

abbrev pub is_inert_now : Map → MacroDirective → Bool
is_inert_now m d = is_inert_by m d.ast_id d.kind

-- whether it is a call
abbrev pub is_call_kind : MacroDirectiveKind → Bool
is_call_kind (FnLike path) = true
is_call_kind (Derive path attr index adt) = false
is_call_kind (Attr path attr item) = false

abbrev pub is_call : MacroDirective → Bool
is_call d = is_call_kind d.kind

-- the item that waits, if it is an attribute
abbrev pub item_in : MacroDirectiveKind → Option WaitingItem
item_in (FnLike path) = None
item_in (Derive path attr index adt) = None
item_in (Attr path attr item) = Some item

abbrev pub waiting_item : MacroDirective → Option WaitingItem
waiting_item d = item_in d.kind

-- the item of a number in the tree that is kept with it
abbrev pub item_kept : WaitingItem → Option KeptItem
item_kept k = slice_get (all_items k.source.tree.items) k.id.0

-- ---- what a macro does

-- the builtin macros that are no calls: of a derive one that stands for an impl, of an attribute one that leaves the item
abbrev pub is_builtin_for : MacroDirectiveKind → MacroExpander → Bool
is_builtin_for (Derive path attr index adt) expanders.BuiltinDerive = true
is_builtin_for (Attr path attr item) expanders.BuiltinAttr = true
is_builtin_for _ _ = false

-- whether a macro has an expansion
abbrev pub expands_by : MacroDirectiveKind → MacroId → Bool
expands_by kind (Macro2Id id) = not (is_builtin_for kind id.loc.expander)
expands_by kind (MacroRulesId id) = not (is_builtin_for kind id.loc.expander)
expands_by kind (ProcMacroId id) = true

abbrev pub has_expansion : MacroDirective → MacroId → Bool
has_expansion d makro = expands_by d.kind makro

-- what is kept of a macro in its map, beside finished maps
abbrev pub kept_of : Maps → Map → MacroId → Option MacroDataValue
kept_of finished m makro = option_and_then (λ (own : Map). macro_data_at own makro) (map_in (overlay finished m) (macro_module makro).map)

-- the attributes that deriving with a macro brings
abbrev pub helpers_of : Option MacroDataValue → List (List ℕ)
helpers_of None = []
helpers_of (Some what) = what.helpers

-- what a path of a derive became: a call, or the impl of a builtin macro; nothing where it is too deep
abbrev pub DerivedCall : Type 0
DerivedCall = Option (Either MacroCallId BuiltinDeriveImplId)

abbrev pub helper_by : MacroId → DerivedCall → List ℕ → DeriveHelper
helper_by makro call name = record { name = name; makro = makro; call = call }

-- the helpers that come into scope with a macro that does what was asked: none but those of a derive
abbrev pub helpers_by : MacroDirectiveKind → List (List ℕ) → MacroId → DerivedCall → List DeriveHelper
helpers_by (FnLike path) names makro call = []
helpers_by (Derive path attr index adt) names makro call = map (helper_by makro call) names
helpers_by (Attr path attr item) names makro call = []

abbrev pub helpers_brought : Maps → Map → MacroDirective → MacroId → DerivedCall → List DeriveHelper
helpers_brought finished m d makro call = helpers_by d.kind (helpers_of (kept_of finished m makro)) makro call

-- the impl that a builtin derive macro stands for
abbrev pub builtin_impl : MacroId → MacroDirectiveKind → Option BuiltinDeriveImplId
builtin_impl makro (FnLike path) = None
builtin_impl makro (Derive path attr index adt) = Some (record { adt = adt; derive = makro; derive_attr_id = attr; derive_index = index })
builtin_impl makro (Attr path attr item) = None

-- the crate of a macro
abbrev pub macro_crate : MacroId → Crate
macro_crate makro = (macro_module makro).map.krate

-- ---- what is resolved first

-- whether a macro wants paths in the input of a call resolved before it expands the call
abbrev pub is_eager_by : MacroExpander → Bool
is_eager_by (expanders.Declarative styles) = false
is_eager_by expanders.Builtin = false
is_eager_by expanders.BuiltinEager = true
is_eager_by expanders.BuiltinAttr = false
is_eager_by expanders.BuiltinDerive = false
is_eager_by expanders.Unimplemented = false

abbrev pub is_eager : MacroId → Bool
is_eager (Macro2Id id) = is_eager_by id.loc.expander
is_eager (MacroRulesId id) = is_eager_by id.loc.expander
is_eager (ProcMacroId id) = false

-- the paths that it asks for, where this is its expansion
abbrev pub asked_first : MacroId → EntryLook → List Path
asked_first makro there = cond (is_eager makro) there.inner []

-- the macro that one of them reaches in a module: that of a call
abbrev pub inner_macro : Maps → Local → Map → ℕ → Path → Option MacroId
inner_macro finished local m home path =
    macro_among (resolution_of (overlay finished m) (by_style sub_namespaces.Bang local) (numbered m.id home) path).resolved_def

-- the first of them that reaches nothing
abbrev pub or_missing : Path → Option MacroId → Option Path → Option Path
or_missing path None later = Some path
or_missing path (Some makro) later = later

abbrev pub first_missing : Maps → Local → Map → ℕ → List Path → Option Path
first_missing finished local m home [] = None
first_missing finished local m home (path ∷ paths) =
    or_missing path (inner_macro finished local m home path) (first_missing finished local m home paths)

-- what a macro asked for where a call reached it, if one did
abbrev pub is_same_macro : MacroId → MacroId → Bool
is_same_macro = macro_equality.ghosts.eq

abbrev pub asked_before : List EagerMacro → MacroId → List Path
asked_before [] makro = []
asked_before (e ∷ es) makro = cond (is_same_macro e.makro makro) (e.inner ++ asked_before es makro) (asked_before es makro)

-- the path for which a call that is left over is told: the first that the macro which it reaches asks for and that reaches nothing, or else its own
abbrev pub told_by : Maps → Local → Map → MacroDirective → List EagerMacro → Option MacroId → Path
told_by finished local m d eager None = path_of_call d
told_by finished local m d eager (Some makro) = unwrap_or (first_missing finished local m d.site.home (asked_before eager makro)) (path_of_call d)

abbrev pub told_path : Maps → Local → Map → MacroDirective → List EagerMacro → Path
told_path finished local m d eager = told_by finished local m d eager (called_macro finished local m d)

-- ---- its number

-- what a call is
abbrev pub kind_by : AstId → MacroDirectiveKind → MacroCallKind
kind_by node (FnLike path) = call_kinds.FnLike node
kind_by node (Derive path attr index adt) = call_kinds.Derive node attr index
kind_by node (Attr path attr item) = call_kinds.Attr node attr

abbrev pub call_kind : MacroDirective → MacroCallKind
call_kind d = kind_by d.ast_id d.kind

-- how its expansion is asked for
abbrev pub style_by : MacroDirectiveKind → CallStyle
style_by (FnLike path) = styles.Bang
style_by (Derive path attr index adt) = styles.Derive
style_by (Attr path attr item) = styles.Attribute attr

abbrev pub call_style : MacroDirective → CallStyle
call_style d = style_by d.kind

-- what its expansion depends on, if these are the macro's text and the call's input
abbrev pub expansion_of_call : Crate → CallStyle → MacroId → Option (List ℕ) → Option (List ℕ) → ExpansionValue
expansion_of_call own style makro text input = record {
  caller = own;
  called = record { krate = macro_crate makro; text = unwrap_or text [] };
  call = style;
  input = unwrap_or input [];
  reached = [];
}

-- the call of a `derive` attribute depends on neither a macro's text nor an input: nothing is looked up or asked for, and it isn't expanded
abbrev pub derive_expansion : Crate → AttrId → ExpansionValue
derive_expansion own attr = record { caller = own; called = record { krate = own; text = [] }; call = styles.Attribute attr; input = []; reached = [] }

abbrev pub derive_loc : AstId → AttrId → EntryId → MacroCallLoc
derive_loc item attr entry = record { kind = call_kinds.Attr item attr; entry = entry }

-- the number of such a call means it
pub record IsNumberedDerive (tables : TablesValue) (own : Crate) (item : AstId) (attr : AttrId) (id : MacroCallId) : Type 0 where
  pub entry : EntryId
  pub expansion : entry_at tables entry ≡ Some (derive_expansion own attr)
  pub call : call_at tables id ≡ Some (derive_loc item attr entry)

-- the call as the value of its number
abbrev pub call_loc : MacroDirective → EntryId → MacroCallLoc
call_loc d entry = record { kind = call_kind d; entry = entry }

-- the tree of what a call expands to, and its key under a crate
abbrev pub call_tree : MacroCallId → TreeId
call_tree id = record { file = Macro id; block = None }

abbrev pub call_key : Crate → MacroCallId → TreeKey
call_key krate id = record { krate = krate; id = call_tree id }

-- where the items are written to which a call expands
abbrev pub call_site : MacroDirective → MacroCallId → Site
call_site d id = record {
  home = d.site.home;
  tree = call_tree id;
  file = d.site.file;
  extern_block = d.site.extern_block;
  dir = d.site.dir;
  level = d.site.level + 1;
}

-- ---- what it expands to

-- a macro that a path reaches, and its text
pub record InnerMacro : Type 0 where
  pub makro : MacroId
  pub text : Option (List ℕ)

abbrev pub text_by : InnerMacro → MacroText
text_by i = record { krate = macro_crate i.makro; text = unwrap_or i.text [] }

-- what is seen of a call whose macro asks for paths first: the number of the expansion while none is resolved, what that has, and the macros that
-- the paths reach, in their order
pub record Grown : Type 0 where
  pub entry : EntryId
  pub there : EntryLook
  pub macros : List InnerMacro

-- what its expansion depends on then
abbrev pub grown_by : List InnerMacro → ExpansionValue → ExpansionValue
grown_by macros key = record key { reached = map text_by macros }

abbrev pub grown_expansion : Option Grown → ExpansionValue → ExpansionValue
grown_expansion None key = key
grown_expansion (Some g) key = grown_by g.macros key

-- what is seen of a call that reaches a macro: the macro's text, the input, what was resolved first, and the expansion under its number
pub record Expanding : Type 0 where
  pub text : Option (List ℕ)
  pub input : Option (List ℕ)
  pub grown : Option Grown
  pub entry : EntryId
  pub id : MacroCallId
  pub there : EntryLook
  pub tree : TreeLook

-- what is seen of one where a path that its macro asks for reaches nothing
pub record EagerLook : Type 0 where
  pub text : Option (List ℕ)
  pub input : Option (List ℕ)
  pub entry : EntryId
  pub there : EntryLook

-- the numbers of what was resolved first mean what they are taken for
abbrev pub IsGrownFrom : TablesValue → ExpansionValue → Option Grown → Type 0
IsGrownFrom tables key None = Unit {0}
IsGrownFrom tables key (Some g) = (entry_at tables g.entry ≡ Some key) × All (λ (i : InnerMacro). IsMeant tables i.makro) g.macros

-- the numbers of the macro mean something, and those of the expansion and of the call what they are taken for
pub record IsNumberedCall (tables : TablesValue) (own : Crate) (d : MacroDirective) (makro : MacroId) (x : Expanding) : Type 0 where
  pub meant : IsMeant tables makro
  pub entry : entry_at tables x.entry ≡ Some (grown_expansion x.grown (expansion_of_call own (call_style d) makro x.text x.input))
  pub call : call_at tables x.id ≡ Some (call_loc d x.entry)
  pub first : IsGrownFrom tables (expansion_of_call own (call_style d) makro x.text x.input) x.grown

-- so do those of a call that waits for a path
pub record IsNumberedEager (tables : TablesValue) (own : Crate) (d : MacroDirective) (makro : MacroId) (x : EagerLook) : Type 0 where
  pub meant : IsMeant tables makro
  pub entry : entry_at tables x.entry ≡ Some (expansion_of_call own (call_style d) makro x.text x.input)

-- the text of a macro is read where a source writes it
abbrev pub text_readings : MacroId → Option (List ℕ) → List Reading
text_readings (Macro2Id id) text = record { key = keys.Text (Macro2Id id); there = of_text text } ∷ []
text_readings (MacroRulesId id) text = record { key = keys.Text (MacroRulesId id); there = of_text text } ∷ []
text_readings (ProcMacroId id) text = []

-- that of a procedural one is the name under which it is exported
abbrev pub IsTextOf : Maps → Map → MacroId → Option (List ℕ) → Type 0
IsTextOf finished m (Macro2Id id) text = Unit {0}
IsTextOf finished m (MacroRulesId id) text = Unit {0}
IsTextOf finished m (ProcMacroId id) text = text ≡ option_map (λ (what : MacroDataValue). what.name) (kept_of finished m (ProcMacroId id))

abbrev pub called_text : Maps → Map → MacroId → Option (List ℕ) → Option (List ℕ)
called_text finished m (Macro2Id id) found = found
called_text finished m (MacroRulesId id) found = found
called_text finished m (ProcMacroId id) found = option_map (λ (what : MacroDataValue). what.name) (kept_of finished m (ProcMacroId id))

-- what its macro asks for first, and the texts of the macros that these paths reach
abbrev pub inner_readings : List InnerMacro → List Reading
inner_readings [] = []
inner_readings (i ∷ is) = text_readings i.makro i.text ++ inner_readings is

abbrev pub grown_readings : Option Grown → List Reading
grown_readings None = []
grown_readings (Some g) = record { key = keys.Expansion g.entry; there = of_entry g.there } ∷ inner_readings g.macros

-- whether the expansion is there, and its items
abbrev pub entry_readings : Crate → Expanding → List Reading
entry_readings own x =
    record { key = keys.Expansion x.entry; there = of_entry x.there }
    ∷ record { key = keys.Tree (call_key own x.id); there = of_tree x.tree } ∷ []

-- the input, what is resolved first, and the expansion
abbrev pub expansion_readings : Crate → MacroDirective → Expanding → List Reading
expansion_readings own d x = record { key = keys.Input own d.ast_id; there = of_input x.input } ∷ (grown_readings x.grown ++ entry_readings own x)

-- the input, and the expansion while a path reaches nothing
abbrev pub eager_readings : Crate → MacroDirective → MacroId → EagerLook → List Reading
eager_readings own d makro x =
    text_readings makro x.text ++ record { key = keys.Input own d.ast_id; there = of_input x.input }
    ∷ record { key = keys.Expansion x.entry; there = of_entry x.there } ∷ []

-- the macros that paths reach in a module, and their texts
abbrev pub AreReached : Maps → Local → Map → ℕ → List Path → List InnerMacro → Type 0
AreReached finished local m home [] [] = Unit {0}
AreReached finished local m home [] (i ∷ is) = ⊥
AreReached finished local m home (path ∷ paths) [] = ⊥
AreReached finished local m home (path ∷ paths) (i ∷ is) =
    (inner_macro finished local m home path ≡ Some i.makro) × IsTextOf finished m i.makro i.text × AreReached finished local m home paths is

-- what a macro asks for first reaches macros, where it asks for something
abbrev pub IsGrown : Maps → Local → Map → ℕ → MacroId → EntryLook → Option Grown → Type 0
IsGrown finished local m home makro there None = asked_first makro there ≡ []
IsGrown finished local m home makro there (Some g) =
    (¬ (asked_first makro g.there ≡ [])) × AreReached finished local m home (asked_first makro g.there) g.macros

-- why a call didn't expand, or not well: its expansion is absent, or has an error beside it
abbrev pub error_of : EntryLook → Option (List ℕ)
error_of e = cond e.present e.error (Some (codes "absent"))

-- ---- what waits

-- the call at the place waits
pub record IsWaiting (s : State) (i : ℕ) (d : MacroDirective) : Type 0 where
  pub call : slice_get s.core.calls i ≡ Some d
  pub waits : slice_get s.core.fates i ≡ Some fates.Waits

-- it reaches no macro; or one that was seen to ask for a path first that reaches none
pub data LacksMacro (finished : Maps) (c : Core) (i : ℕ) (d : MacroDirective) : Type 0 where
  reaches_none : called_macro finished c.local c.map d ≡ None → LacksMacro finished c i d
  lacks_inner : (makro : MacroId) (seen : EagerMacro) (path : Path) → called_macro finished c.local c.map d ≡ Some makro → Contains (eager_at c i) seen
      → is_same_macro seen.makro makro ≡ true → Contains seen.inner path → inner_macro finished c.local c.map d.site.home path ≡ None
      → LacksMacro finished c i d

-- where it waits, it is no call that is deeper than calls may be, reaches no macro with all that this asks for first, and isn't inert
pub record LeadsNowhere (finished : Maps) (s : State) (i : ℕ) : Type 0 where
  pub shallow : (d : MacroDirective) → IsWaiting s i d → is_call d ≡ true → d.site.level < s.core.map.crate_data.recursion_limit
  pub nowhere : (d : MacroDirective) → IsWaiting s i d → LacksMacro finished s.core i d
  pub active : (d : MacroDirective) → IsWaiting s i d → is_inert_now s.core.map d ≡ false

-- ---- where calls are written

-- a node is written in a source that has a number, and where that is what a call expands to, the call has a smaller number
pub record IsPlacedBelow (tables : TablesValue) (n : ℕ) (node : AstId) : Type 0 where
  pub source : IsSome (source_of tables (node_tree node))
  pub earlier : (c : MacroCallId) → node.file_id ≡ Macro c → node.block ≡ None → c.0 < n

-- so is each call that has a number
pub record AreCallsPlaced (tables : TablesValue) : Type 0 where
  pub calls : (n : ℕ) (loc : MacroCallLoc) → slice_get tables.calls n ≡ Some loc → IsPlacedBelow tables n (call_node loc.kind)

-- the numbers of a site mean something
pub record IsMeantAt (tables : TablesValue) (site : Site) : Type 0 where
  pub tree : IsSome (source_of tables site.tree)
  pub file : IsFileMeant tables site.file

-- so do those of a call, and of the node on which it stands
pub record IsMeantCall (tables : TablesValue) (d : MacroDirective) : Type 0 where
  pub site : IsMeantAt tables d.site
  pub node : IsSome (source_of tables (node_tree d.ast_id))
  -- an item that waits is kept with it
  pub item : (k : WaitingItem) → waiting_item d ≡ Some k → IsSome (item_kept k)
