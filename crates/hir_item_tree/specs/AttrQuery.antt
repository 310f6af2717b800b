-- Which attributes have a key, and what do they say?
use Rattle.std.specs.Prelude.{ℕ, Bool, true, false, nat_eq, List, [], ◌∷◌, filter, string_bytes, Option, Some, None, if◌then◌else◌}
use Rattle.std.specs.List.{list_any, filter_map}
use Rattle.std.specs.Str.{bytes_eq}
use Rattle.hir_ids.specs.declared.ast_id.AttrId.{AttrId}
use Rattle.hir_base.specs.declared.mod_path.PathKind.{PathKind}
use Rattle.hir_base.specs.declared.mod_path.PathKind.TheVariants as roots
use Rattle.hir_item_tree.specs.declared.raw_attr.AttrInput.{AttrInput}
use Rattle.hir_item_tree.specs.declared.raw_attr.AttrInput.TheVariants as inputs
use Rattle.hir_item_tree.specs.declared.raw_attr.TokenTree.{TokenTree}
use Rattle.hir_item_tree.specs.declared.attrs.Attr.{Attr}
use Rattle.hir_item_tree.specs.declared.attr_query.Attrs.{Attrs}
use Rattle.hir_item_tree.specs.declared.attr_query.AttrIter.{AttrIter}
use Rattle.hir_item_tree.specs.declared.attr_query.AttrQuery.{AttrQuery}
use Rattle.hir_item_tree.specs.declared.attr_query.KeyedAttrs.{KeyedAttrs}
use Rattle.hir_item_tree.specs.declared.attr_query.TokenTrees.{TokenTrees}

-- the attributes that are lent
abbrev pub attrs_in : Attrs → List Attr
attrs_in attrs = attrs.attrs.now

-- the attributes that are still to come
abbrev pub attrs_left : AttrIter → List Attr
attrs_left walk = walk.left.now

-- whether an attribute has a number
abbrev pub is_numbered : AttrId → Attr → Bool
is_numbered id a = nat_eq a.id.0 id.0

-- whether an attribute has the number, where one is asked for
abbrev pub has_attr : Option AttrId → List Attr → Bool
has_attr None attrs = true
has_attr (Some id) attrs = list_any (is_numbered id) attrs

-- the attributes behind the one with a number
abbrev pub attrs_behind : AttrId → List Attr → List Attr
attrs_behind id [] = []
attrs_behind id (a ∷ rest) = if is_numbered id a then rest else attrs_behind id rest

-- the attributes behind the one with a number; all where none is asked for
abbrev pub attrs_after : Option AttrId → List Attr → List Attr
attrs_after None attrs = attrs
attrs_after (Some id) attrs = attrs_behind id attrs

-- whether a path is this name alone
abbrev pub is_ident : PathKind → List (List ℕ) → List ℕ → Bool
is_ident roots.Plain (name ∷ []) key = bytes_eq name key
is_ident roots.Plain [] key = false
is_ident roots.Plain (name ∷ (next ∷ rest)) key = false
is_ident (roots.Super levels) segments key = false
is_ident roots.Crate segments key = false
is_ident roots.Abs segments key = false
is_ident (roots.DollarCrate krate) segments key = false

-- whether an attribute's path is the key alone
abbrev pub has_key : List ℕ → Attr → Bool
has_key key a = is_ident a.meta.path.kind a.meta.path.segments key

-- the attributes of a key
abbrev pub keyed : AttrQuery → List Attr
keyed query = filter (has_key query.key.now) query.attrs.now

-- the attributes of a key that are still to come
abbrev pub keyed_left : KeyedAttrs → List Attr
keyed_left walk = filter (has_key walk.key.now) walk.left.now

-- whether there is one
abbrev pub is_some_attr : List Attr → Bool
is_some_attr [] = false
is_some_attr (a ∷ rest) = true

-- the literal that an attribute gives
abbrev pub literal_in : Option AttrInput → Option (List ℕ)
literal_in (Some (inputs.Literal text)) = Some (string_bytes text)
literal_in (Some (inputs.TokenTree tree)) = None
literal_in None = None

-- the first that gives a literal
abbrev pub first_literal_or : Option (List ℕ) → Option (List ℕ) → Option (List ℕ)
first_literal_or (Some text) later = Some text
first_literal_or None later = later

-- the first literal that an attribute gives
abbrev pub first_literal : List Attr → Option (List ℕ)
first_literal [] = None
first_literal (a ∷ rest) = first_literal_or (literal_in a.meta.input) (first_literal rest)

-- what an attribute has in parentheses
abbrev pub tokens_in : Option AttrInput → Option TokenTree
tokens_in (Some (inputs.TokenTree tree)) = Some tree
tokens_in (Some (inputs.Literal text)) = None
tokens_in None = None

-- what the attributes of a list have in parentheses
abbrev pub token_trees : List Attr → List TokenTree
token_trees attrs = filter_map (λ (a : Attr). tokens_in a.meta.input) attrs

-- what is still to come
abbrev pub trees_left : TokenTrees → List TokenTree
trees_left walk = token_trees (keyed_left walk.attrs)
