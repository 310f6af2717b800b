-- What becomes of macro calls, attributes and derives?
use Rattle.std.specs.Prelude.{ℕ, nat_eq, Bool, false, List, [], ◌∷◌, ◌++◌, Option, None, Some, slice_get, slice_set, length, nat_lt, position}
use Rattle.std.specs.Cmp.Lexicographic.{pointwise}
use Rattle.std.specs.Map.{lookup, set_value}
use Rattle.indexmap.specs.IndexMap.{insert_entry}
use Rattle.hir_ids.specs.declared.ast_id.AstId.{AstId}
use Rattle.hir_ids.specs.declared.ast_id.AttrId.{AttrId}
use Rattle.hir_ids.specs.declared.ast_id.MacroCallId.{MacroCallId}
use Rattle.hir_ids.specs.declared.macro_kind.MacroId.{MacroId}
use Rattle.hir_ids.specs.contracts.ast_id.AstIdPartialEq.TheImpl as ast_id
use Rattle.hir_ids.specs.contracts.ast_id.AttrIdPartialEq.TheImpl as attr_id
use Rattle.hir_scope.specs.Scope.{DeriveCall, DeriveCalls}

-- a list of lists by key, with one more item in a key's list, if that is there
abbrev pub with_item_behind : {K A : Type 0} → (K → K → Bool) → List (K × List A) → K → A → Option (List A) → List (K × List A)
with_item_behind same lists key item None = lists
with_item_behind same lists key item (Some items) = set_value (same key) lists (items ++ item ∷ [])

-- a list of lists by key, with one more item in a key's list; a new key comes last
abbrev pub with_item_in : {K A : Type 0} → (K → K → Bool) → List (K × List A) → K → A → Option (List A) → List (K × List A)
with_item_in same lists key item None = insert_entry same lists key (item ∷ [])
with_item_in same lists key item (Some items) = set_value (same key) lists (items ++ item ∷ [])

-- the calls by node with one more; a node that is there takes the call
abbrev pub with_call : List (AstId × MacroCallId) → AstId → MacroCallId → List (AstId × MacroCallId)
with_call calls node call = insert_entry ast_id.ghosts.eq calls node call

-- the `derive` attributes by item with one more, the last of its item
abbrev pub with_derive_attribute : List (AstId × List DeriveCalls) → AstId → DeriveCalls → List (AstId × List DeriveCalls)
with_derive_attribute derives adt attribute = with_item_in ast_id.ghosts.eq derives adt attribute (lookup (ast_id.ghosts.eq adt) derives)

-- whether an attribute has this number
abbrev pub is_attribute : AttrId → DeriveCalls → Bool
is_attribute id attribute = attr_id.ghosts.eq attribute.attr_id id

-- whether an attribute has a slot for this path
abbrev pub has_path : ℕ → Option DeriveCalls → Bool
has_path idx None = false
has_path idx (Some attribute) = nat_lt idx (length attribute.derive_call_ids)

-- an attribute, once one of its paths became a call
abbrev pub with_path_call : DeriveCalls → ℕ → DeriveCall → DeriveCalls
with_path_call attribute idx call = record attribute { derive_call_ids = slice_set attribute.derive_call_ids idx (Some call) }

-- the attributes, once a path of the one at this position became a call
abbrev pub with_call_of : List DeriveCalls → ℕ → Option DeriveCalls → ℕ → DeriveCall → List DeriveCalls
with_call_of attributes i None idx call = attributes
with_call_of attributes i (Some attribute) idx call = slice_set attributes i (with_path_call attribute idx call)

-- the attributes, once a path of the one at this position became a call, if there is one
abbrev pub with_call_in : List DeriveCalls → Option ℕ → ℕ → DeriveCall → List DeriveCalls
with_call_in attributes None idx call = attributes
with_call_in attributes (Some i) idx call = with_call_of attributes i (slice_get attributes i) idx call

-- the attributes of an item, once a path of the first one of this number became a call
abbrev pub with_derive_call : List DeriveCalls → AttrId → ℕ → DeriveCall → List DeriveCalls
with_derive_call attributes id idx call = with_call_in attributes (position (is_attribute id) attributes) idx call

-- the list, or an empty one
abbrev pub or_empty : {A : Type 0} → Option (List A) → List A
or_empty None = []
or_empty (Some xs) = xs

-- the attribute at a position, if there is one
abbrev pub attribute_at : List DeriveCalls → Option ℕ → Option DeriveCalls
attribute_at attributes None = None
attribute_at attributes (Some i) = slice_get attributes i

-- whether the first attribute of this number has a slot for this path
abbrev pub has_slot : List DeriveCalls → AttrId → ℕ → Bool
has_slot attributes id idx = has_path idx (attribute_at attributes (position (is_attribute id) attributes))

-- whether an item's first attribute of this number has a slot for this path
abbrev pub has_derive_slot : List (AstId × List DeriveCalls) → AstId → AttrId → ℕ → Bool
has_derive_slot derives adt id idx = has_slot (or_empty (lookup (ast_id.ghosts.eq adt) derives)) id idx

-- the attributes by item, once a path of one that is there became a call
abbrev pub with_derive_in : List (AstId × List DeriveCalls) → AstId → AttrId → ℕ → DeriveCall → Option (List DeriveCalls) → List (AstId × List DeriveCalls)
with_derive_in derives adt id idx call None = derives
with_derive_in derives adt id idx call (Some attributes) = set_value (ast_id.ghosts.eq adt) derives (with_derive_call attributes id idx call)

-- the attributes by item, once a path became a call
abbrev pub with_derive : List (AstId × List DeriveCalls) → AstId → AttrId → ℕ → DeriveCall → List (AstId × List DeriveCalls)
with_derive derives adt id idx call = with_derive_in derives adt id idx call (lookup (ast_id.ghosts.eq adt) derives)
