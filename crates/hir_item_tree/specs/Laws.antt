-- What holds of all attributes?
use Rattle.std.specs.Prelude.{◌≡◌, Bool, List, map, Option}
use Rattle.hir_base.specs.Cfg.{Cfg}
use Rattle.hir_base.specs.declared.cfg.CfgAtom.{CfgAtom}
use Rattle.hir_item_tree.specs.Attributes.{MetaValue, Attributes, no_attributes, attribute}
use Rattle.hir_item_tree.specs.Collected.{Numbered, Collected, merge, empty, collect_all}

-- it doesn't matter which of two mergings comes first
abbrev pub MergeIsAssociative : Type 0
MergeIsAssociative = (x y z : Collected) → merge (merge x y) z ≡ merge x (merge y z)

-- nothing in front changes nothing
abbrev pub EmptyIsNeutralInFront : Type 0
EmptyIsNeutralInFront = (x : Collected) → merge empty x ≡ x

-- nothing behind changes nothing
abbrev pub EmptyIsNeutralBehind : Type 0
EmptyIsNeutralBehind = (x : Collected) → merge x empty ≡ x

-- one list of attributes after another
abbrev pub joined_attributes : Attributes → Attributes → Attributes
joined_attributes no_attributes more = more
joined_attributes (attribute a rest) more = attribute a (joined_attributes rest more)

-- what is collected, the numbers aside
pub record Unnumbered : Type 0 where
  pub metas : List MetaValue
  pub disabled : Option Cfg

abbrev pub unnumbered : Collected → Unnumbered
unnumbered c = record { metas = map (λ (n : Numbered). n.meta) c.attributes; disabled = c.disabled }

-- the numbers aside, two lists joined leave what both leave, merged
abbrev pub JoinedListsCollectAsMerged : Type 0
JoinedListsCollectAsMerged =
    (set : CfgAtom → Bool) (front back : Attributes)
    → unnumbered (collect_all set (joined_attributes front back) 0) ≡ unnumbered (merge (collect_all set front 0) (collect_all set back 0))
