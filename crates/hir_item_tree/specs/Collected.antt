-- What is left of attributes under options?
use Rattle.std.specs.Prelude.{ℕ, ◌+◌, Bool, true, false, if◌then◌else◌, List, [], ◌∷◌, ◌++◌, map, Option, Some, None, option_map, unwrap_or}
use Rattle.hir_base.specs.Cfg.{Cfg, cfg_view}
use Rattle.hir_base.specs.CfgOptions.{check}
use Rattle.hir_base.specs.declared.cfg.CfgAtom.{CfgAtom}
use Rattle.hir_use_tree.specs.UseTree.{count_of}
use Rattle.hir_item_tree.specs.Attributes.{MetaValue, meta_view, Attribute, meta, cfg, cfg_attr, Attributes, no_attributes, attribute, attribute_size}
use Rattle.hir_item_tree.specs.declared.attrs.Attr.{Attr}
use Rattle.hir_item_tree.specs.declared.attrs.AttrsOrCfg.{AttrsOrCfg}

-- an attribute that is kept, with its number in the preorder of the handed-in list
pub record Numbered : Type 0 where
  pub id : ℕ
  pub meta : MetaValue

-- the attributes that are kept, and the first condition that doesn't hold, where there is one
pub record Collected : Type 0 where
  pub attributes : List Numbered
  pub disabled : Option Cfg

-- the plain value of a kept attribute
abbrev pub numbered : Attr → Numbered
numbered a = record { id = a.id.0; meta = meta_view a.meta }

-- the plain value of kept attributes
abbrev pub collected_of : AttrsOrCfg → Collected
collected_of a = record { attributes = map numbered a.attrs.items; disabled = option_map cfg_view a.disabled }

-- no attribute
abbrev pub empty : Collected
empty = record { attributes = []; disabled = None }

-- whether nothing was found that doesn't hold
abbrev pub is_enabled_by : Option Cfg → Bool
is_enabled_by None = true
is_enabled_by (Some c) = false

-- whether all conditions hold
abbrev pub is_enabled : Collected → Bool
is_enabled c = is_enabled_by c.disabled

abbrev pub merged : List Numbered → Option Cfg → Collected → Collected
merged front None y = record { attributes = front ++ y.attributes; disabled = y.disabled }
merged front (Some c) y = record { attributes = front; disabled = Some c }

-- the first where a condition of it doesn't hold, else the attributes of both
abbrev pub merge : Collected → Collected → Collected
merge x y = merged x.attributes x.disabled y

-- whether a condition counts as holding: one that can't be read does
abbrev pub holds : (CfgAtom → Bool) → Cfg → Bool
holds set c = unwrap_or (check set c) true

abbrev mutual
  -- what an attribute with this number leaves: a `cfg` that holds nothing, a `cfg_attr` that holds what it holds
  pub collect : (CfgAtom → Bool) → Attribute → ℕ → Collected
  collect set (meta m) id = record { attributes = record { id = id; meta = m } ∷ []; disabled = None }
  collect set (cfg c) id = if holds set c then empty else record { attributes = []; disabled = Some c }
  collect set (cfg_attr c inner) id = if holds set c then collect_all set inner (count_of (id + 1)) else empty

  -- what attributes leave, of which the first has this number
  pub collect_all : (CfgAtom → Bool) → Attributes → ℕ → Collected
  collect_all set no_attributes id = empty
  collect_all set (attribute a rest) id = merge (collect set a id) (collect_all set rest (count_of (id + attribute_size a)))

-- what handed-in attributes leave
abbrev pub collected : (CfgAtom → Bool) → Attributes → Collected
collected set attributes = collect_all set attributes 0
