-- What is kept beside a tree? Variants, associated items, texts of macros and inputs, by node.
use Rattle.std.specs.Prelude.{ℕ, Bool, true, false, List, [], ◌∷◌, ◌++◌, map, unwrap_or, Option, Some, None, if◌then◌else◌, length, not, ◌==◌, ◌||◌}
use Rattle.hir_item_tree.specs.declared.check.NodeId.{NodeId}
use Rattle.hir_item_tree.specs.contracts.check.NodeIdPartialEq.TheImpl.{ghosts}
use Rattle.hir_item_tree.specs.declared.rows.Row.{Row}
use Rattle.hir_item_tree.specs.declared.side_lists.VariantItem.{VariantItem}
use Rattle.hir_item_tree.specs.declared.side_lists.Side.{Side as KeptSide}
use Rattle.hir_item_tree.specs.declared.side_lists.Side.TheVariants as sides
use Rattle.hir_item_tree.specs.declared.side_lists.SideEntry.{SideEntry as KeptEntry}
use Rattle.hir_base.specs.declared.cfg.CfgAtom.{CfgAtom}
use Rattle.hir_item_tree.specs.Collected.{is_enabled}
use Rattle.hir_item_tree.specs.Source.{VariantValue, Plain, import, extern_crate, function, structure, union_structure, enumeration, constant, static_item}
use Rattle.hir_item_tree.specs.Source.{type_alias, outline_module, macro_call, macro_rules, macro_def, Holder, extern_block, trait_item, implementation}
use Rattle.hir_item_tree.specs.Source.{inline_module, Item, plain, holder, Items, no_items, item, SourceValue}
use Rattle.hir_item_tree.specs.KeptForest.{KeptItem, kept_attributes, kept_item}
use Rattle.hir_item_tree.specs.Rows.{row_view, item_of}
use Rattle.hir_item_tree.specs.SyntaxIds.{node_id, plain_kind, holder_kind}
use Rattle.hir_item_tree.specs.Check.{handed_in}

-- what is kept beside the item of a node
pub data Side : Type 0 where
  nothing : Side
  -- of an enum its variants
  variants : List VariantItem → Side
  -- of a trait or an impl its items
  associated : List KeptItem → Side
  -- of a macro its text
  macro_text : List ℕ → Side

-- a node with the input of calls on it, empty if there is none, and what is kept beside its item
pub record SideEntry : Type 0 where
  pub node : NodeId
  pub input : List ℕ
  pub side : Side

-- a variant without its attributes
abbrev pub variant_item : VariantValue → VariantItem
variant_item v = record { id = v.id; name = v.name; shape = v.shape }

-- a variant before others, if it is kept
abbrev pub and_variant : Bool → VariantItem → List VariantItem → List VariantItem
and_variant kept v vs = if kept then v ∷ vs else vs

-- the variants that no condition disables
abbrev pub enabled_variants : (CfgAtom → Bool) → List VariantValue → List VariantItem
enabled_variants set [] = []
enabled_variants set (v ∷ vs) = and_variant (is_enabled (kept_attributes set v.attributes)) (variant_item v) (enabled_variants set vs)

-- whether a trait or an impl keeps a node of this kind
abbrev pub is_associated_kind : Plain → Bool
is_associated_kind (function name body) = true
is_associated_kind (constant name body) = true
is_associated_kind (type_alias name) = true
is_associated_kind (macro_call path) = true
is_associated_kind _ = false

-- whether a trait or an impl keeps a node
abbrev pub is_associated : Item → Bool
is_associated (plain h p) = is_associated_kind p
is_associated (holder h k is) = false

-- an item before others, if it is kept
abbrev pub and_associated : Bool → KeptItem → List KeptItem → List KeptItem
and_associated kept i is = if kept then i ∷ is else is

-- what a trait or an impl keeps of its nodes, in their order
abbrev pub kept_associated : (CfgAtom → Bool) → Items → List KeptItem
kept_associated set no_items = []
kept_associated set (item i is) = and_associated (is_associated i) (kept_item set i) (kept_associated set is)

-- what is kept beside the item of a kind without nodes inside
abbrev pub plain_side : (CfgAtom → Bool) → Plain → Side
plain_side set (enumeration name vs) = variants (enabled_variants set vs)
plain_side set (macro_rules name definition) = macro_text definition.text
plain_side set (macro_def name definition) = macro_text definition.text
plain_side set _ = nothing

-- what is kept beside the item of a kind with nodes inside
abbrev pub holder_side : (CfgAtom → Bool) → Holder → Items → Side
holder_side set extern_block is = nothing
holder_side set (trait_item name) is = associated (kept_associated set is)
holder_side set (implementation of_trait) is = associated (kept_associated set is)
holder_side set (inline_module name) is = nothing

-- whether something is kept beside an item
abbrev pub is_something : Side → Bool
is_something nothing = false
is_something _ = true

-- whether an entry says more than its node
abbrev pub says_something : SideEntry → Bool
says_something e = not (length e.input == 0) || is_something e.side

-- the entry, if it says something
abbrev pub entry_list : SideEntry → List SideEntry
entry_list e = if says_something e then e ∷ [] else []

abbrev mutual
  -- the entries of a node and of those inside, in preorder
  pub item_entries : (CfgAtom → Bool) → Item → List SideEntry
  item_entries set (plain h p) = entry_list (record { node = node_id (plain_kind p) h.id; input = h.input; side = plain_side set p })
  item_entries set (holder h k is) = entry_list (record { node = node_id (holder_kind k) h.id; input = h.input; side = holder_side set k is }) ++ entries set is

  -- the entries of nodes and of those inside, in preorder
  pub entries : (CfgAtom → Bool) → Items → List SideEntry
  entries set no_items = []
  entries set (item i is) = item_entries set i ++ entries set is

-- the entries of a source
abbrev pub side_lists : (CfgAtom → Bool) → SourceValue → List SideEntry
side_lists set s = entries set (handed_in s)

-- the item of a row that holds no others
abbrev pub row_item : Row → KeptItem
row_item r = item_of [] (row_view r).head (row_view r).content

-- the plain value of what is kept beside an item
abbrev pub side_view : KeptSide → Side
side_view sides.Nothing = nothing
side_view (sides.Variants vs) = variants vs.items
side_view (sides.Associated rows) = associated (map row_item rows.items)
side_view (sides.Text text) = macro_text text

-- the plain value of an entry
abbrev pub entry_view : KeptEntry → SideEntry
entry_view e = record { node = e.node; input = unwrap_or e.input []; side = side_view e.side }

-- the plain value of entries
abbrev pub entries_view : List KeptEntry → List SideEntry
entries_view es = map entry_view es

-- the first entry of a node, where there is one
abbrev pub entry_of : NodeId → List SideEntry → Option SideEntry
entry_of n [] = None
entry_of n (e ∷ es) = if ghosts.eq e.node n then Some e else entry_of n es

-- the variants of an entry, if it is an enum's
abbrev pub variants_in : Side → Option (List VariantItem)
variants_in (variants vs) = Some vs
variants_in _ = None

-- the associated items of an entry, if it is a trait's or an impl's
abbrev pub associated_in : Side → Option (List KeptItem)
associated_in (associated is) = Some is
associated_in _ = None

-- the text of an entry, if it is a macro's
abbrev pub text_in : Side → Option (List ℕ)
text_in (macro_text text) = Some text
text_in _ = None

abbrev pub entry_variants : SideEntry → Option (List VariantItem)
entry_variants e = variants_in e.side

abbrev pub entry_associated : SideEntry → Option (List KeptItem)
entry_associated e = associated_in e.side

abbrev pub entry_text : SideEntry → Option (List ℕ)
entry_text e = text_in e.side

-- the input of calls on the node of an entry, if there is one
abbrev pub entry_input : SideEntry → Option (List ℕ)
entry_input e = if length e.input == 0 then None else Some e.input
