-- Which attributes of an item are looked up, which of them lists derives, and what does a function export?
use Rattle.std.specs.Prelude.{◌≡◌, ℕ, suc, ◌==◌, Contains, Bool, false, true, ◌||◌, ◌&&◌, is_none, List, [], ◌∷◌, drop, codes, Option, None, Some, cond}
use Rattle.std.specs.Prelude.{unwrap_or}
use Rattle.std.specs.Str.{bytes_eq}
use Rattle.hir_nameres.specs.HirBase.ModPath.{Path}
use Rattle.hir_nameres.specs.HirIds.declared.ids.AdtId.{AdtId}
use Rattle.hir_nameres.specs.HirIds.declared.ast_id.AstId.{AstId}
use Rattle.hir_nameres.specs.HirIds.declared.ast_id.AttrId.{AttrId}
use Rattle.hir_nameres.specs.HirBase.declared.mod_path.PathKind.{PathKind}
use Rattle.hir_nameres.specs.HirIds.declared.macro_kind.ProcMacroId.{ProcMacroId}
use Rattle.hir_nameres.specs.HirIds.declared.macro_kind.ProcMacroStyle.{ProcMacroStyle}
use Rattle.hir_nameres.specs.HirIds.declared.ast_id.SyntaxId.{SyntaxId}
use Rattle.hir_nameres.specs.HirIds.declared.ids.AdtId.TheVariants as adts
use Rattle.hir_nameres.specs.HirIds.declared.macro_kind.ProcMacroStyle.TheVariants.{FnLike, Attr, Derive}
use Rattle.hir_nameres.specs.HirBase.declared.mod_path.PathKind.TheVariants as roots
use Rattle.hir_item_tree.specs.Attributes.{Input, literal, parentheses, derive, paths, tokens}
use Rattle.hir_item_tree.specs.Collected.{Numbered}
use Rattle.hir_item_tree.specs.KeptForest.{Head, KeptItem, Leaf, enumeration, function, holder, leaf, structure, union_structure}
use Rattle.hir_item_tree.specs.Kinds.{item_head, item_kind}
use Rattle.hir_nameres.specs.HirDefMapRules.Macros.{helpers_at}
use Rattle.hir_nameres.specs.HirDefMapRules.State.{Map}
use Rattle.hir_nameres.specs.HirMapParts.declared.derive_helpers.DeriveHelper.{DeriveHelper}
use Rattle.hir_collector_rules.specs.declared.exported.Export.{Export}
use Rattle.hir_collector_rules.specs.declared.site.Site.{Site}
use Rattle.hir_collector_rules.specs.BuiltinAttributes.{is_inert}
use Rattle.hir_collector_rules.specs.CrateTop.{is_keyed, says}
use Rattle.hir_collector_rules.specs.ItemIds.{enum_id, module_id, node_of, struct_id, union_id}

-- ---- which attributes are looked up

-- whether a name is one of these
abbrev pub is_among : List (List ℕ) → List ℕ → Bool
is_among [] name = false
is_among (other ∷ others) name = bytes_eq other name || is_among others name

-- whether a path is that of a tool's attribute: of several segments, of which the first is a registered tool
abbrev pub is_tool : List (List ℕ) → PathKind → List (List ℕ) → Bool
is_tool tools roots.Plain (tool ∷ (next ∷ rest)) = is_among tools tool
is_tool tools roots.Plain [] = false
is_tool tools roots.Plain (name ∷ []) = false
is_tool tools (roots.Super levels) segments = false
is_tool tools roots.Crate segments = false
is_tool tools roots.Abs segments = false
is_tool tools (roots.DollarCrate krate) segments = false

-- whether a name is that of one of these helpers
abbrev pub is_named_by : List DeriveHelper → List ℕ → Bool
is_named_by [] name = false
is_named_by (h ∷ hs) name = bytes_eq h.name name || is_named_by hs name

-- whether a path is such a name alone
abbrev pub is_helper_among : List DeriveHelper → PathKind → List (List ℕ) → Bool
is_helper_among helpers roots.Plain (name ∷ []) = is_named_by helpers name
is_helper_among helpers roots.Plain [] = false
is_helper_among helpers roots.Plain (name ∷ (next ∷ rest)) = false
is_helper_among helpers (roots.Super levels) segments = false
is_helper_among helpers roots.Crate segments = false
is_helper_among helpers roots.Abs segments = false
is_helper_among helpers (roots.DollarCrate krate) segments = false

-- whether it is that of a helper which a derive brought into scope on a node
abbrev pub is_helper : Map → AstId → Path → Bool
is_helper m node path = is_helper_among (unwrap_or (helpers_at m node) []) path.kind path.segments

-- whether nothing is looked up for an attribute on a node: it is builtin and inert, a tool's, or a helper
abbrev pub is_passed : Map → AstId → Numbered → Bool
is_passed m node a =
    is_inert a.meta.path.kind a.meta.path.segments
    || is_tool m.crate_data.registered_tools a.meta.path.kind a.meta.path.segments || is_helper m node a.meta.path

-- whether it is so on each node, whatever derives bring: it is builtin and inert, or a tool's
abbrev pub is_always_passed : List (List ℕ) → Numbered → Bool
is_always_passed tools a = is_inert a.meta.path.kind a.meta.path.segments || is_tool tools a.meta.path.kind a.meta.path.segments

abbrev pub AreAlwaysPassed : List (List ℕ) → List Numbered → Type 0
AreAlwaysPassed tools attributes = (a : Numbered) → Contains attributes a → is_always_passed tools a ≡ true

-- the first attribute for which something is looked up, and its place, where the first of all has this place
abbrev pub first_looked_up : Map → AstId → ℕ → List Numbered → Option (ℕ × Numbered)
first_looked_up m node at [] = None
first_looked_up m node at (a ∷ rest) = cond (is_passed m node a) (first_looked_up m node (suc at) rest) (Some (at, a))

-- the first of those behind the first so many
abbrev pub next_among : Map → AstId → ℕ → List Numbered → Option (ℕ × Numbered)
next_among m node done attributes = first_looked_up m node done (drop done attributes)

-- the node of an item of a site
abbrev pub item_node : Site → KeptItem → AstId
item_node site item = node_of site.tree (item_kind item) (item_head item).id

-- the next attribute of an item for which something is looked up, where so many are done with
abbrev pub next_attribute : Map → Site → KeptItem → ℕ → Option (ℕ × Numbered)
next_attribute m site item done = next_among m (item_node site item) done (item_head item).attributes.attributes

-- the number of an attribute
abbrev pub attr_id : Numbered → AttrId
attr_id a = record { 0 = a.id }

-- ---- derives

-- whether an attribute is `derive`, which lists paths of macros
abbrev pub is_derive : Numbered → Bool
is_derive a = is_keyed (codes "derive") a

-- the struct, union or enum that an item of a site is, if it is one
abbrev pub adt_by : Map → Site → Head → Leaf → Option AdtId
adt_by m s h (structure name shape fields) = Some (adts.StructId (struct_id m s h.id))
adt_by m s h (union_structure name fields) = Some (adts.UnionId (union_id m s h.id))
adt_by m s h (enumeration name) = Some (adts.EnumId (enum_id m s h.id))
adt_by m s h _ = None

abbrev pub adt_of : Map → Site → KeptItem → Option AdtId
adt_of m s (leaf head l) = adt_by m s head l
adt_of m s (holder head k items) = None

-- the paths that an attribute lists, if it lists paths
abbrev pub paths_in : Option Input → Option (List Path)
paths_in None = None
paths_in (Some (literal text)) = None
paths_in (Some (parentheses (paths ps))) = Some ps
paths_in (Some (parentheses (tokens text))) = None
paths_in (Some (parentheses (derive name helpers))) = None

-- ---- what functions of a procedural-macro crate export

-- a derive macro, with its own name and its helpers
abbrev pub derive_export : Option Input → Option Export
derive_export None = None
derive_export (Some (literal text)) = None
derive_export (Some (parentheses (paths ps))) = None
derive_export (Some (parentheses (tokens text))) = None
derive_export (Some (parentheses (derive name helpers))) = Some (record { style = Derive; what = record { name = name; helpers = helpers } })

abbrev pub or_later : Option Export → Option Export → Option Export
or_later None later = later
or_later (Some e) later = Some e

-- that of the first `proc_macro_derive` that names one
abbrev pub first_derive : List Numbered → Option Export
first_derive [] = None
first_derive (a ∷ rest) = or_later (cond (is_keyed (codes "proc_macro_derive") a) (derive_export a.meta.input) None) (first_derive rest)

-- what the attributes of a function of this name export: a macro under its name, or a derive macro
abbrev pub export_of : List ℕ → List Numbered → Option Export
export_of name attributes =
    cond (says (codes "proc_macro") attributes) (Some (record { style = FnLike; what = record { name = name; helpers = [] } }))
    (cond (says (codes "proc_macro_attribute") attributes) (Some (record { style = Attr; what = record { name = name; helpers = [] } }))
    (first_derive attributes))

-- whether functions of a module are exported: those of the root of a crate that is a procedural macro's
abbrev pub exports_from : Bool → Map → ℕ → Bool
exports_from is_proc_macro m home = is_proc_macro && (is_none m.id.block && (home == 0))

abbrev pub export_by : Bool → Map → Site → Head → Leaf → Option Export
export_by is_proc_macro m s h (function name) = cond (exports_from is_proc_macro m s.home) (export_of name h.attributes.attributes) None
export_by is_proc_macro m s h _ = None

-- what an item of a site exports
abbrev pub export_at : Bool → Map → Site → KeptItem → Option Export
export_at is_proc_macro m s (leaf head l) = export_by is_proc_macro m s head l
export_at is_proc_macro m s (holder head k items) = None

-- the macro that a function of a site exports, by the function's node
abbrev pub proc_macro_id : Map → Site → SyntaxId → ProcMacroStyle → ProcMacroId
proc_macro_id m s id style = record { loc = record { container = module_id m s.home; file_id = s.tree.file; block = s.tree.block; id = id; style = style } }
