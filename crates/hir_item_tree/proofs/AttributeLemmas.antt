-- What attributes leave, the numbers aside.
use Rattle.std.proofs.Common.{◌≡◌, ℕ, ◌+◌, Bool, true, false, if◌then◌else◌, List, ◌++◌, map, Option, Some, None, refl, ap, ap₂, sym, ◌∙◌, append-nil}
use Rattle.std.proofs.lemmas.List.{map-append, append_assoc}
use Rattle.hir_base.specs.Cfg.{Cfg}
use Rattle.hir_base.specs.declared.cfg.CfgAtom.{CfgAtom}
use Rattle.hir_use_tree.specs.UseTree.{count_of}
use Rattle.hir_item_tree.specs.Attributes.{MetaValue, Attribute, meta, cfg, cfg_attr, Attributes, no_attributes, attribute, attribute_size}
use Rattle.hir_item_tree.specs.Collected.{Numbered, Collected, merge, merged, empty, holds, collect, collect_all}
use Rattle.hir_item_tree.specs.Laws.{MergeIsAssociative, EmptyIsNeutralBehind, Unnumbered, unnumbered, joined_attributes, JoinedListsCollectAsMerged}

-- merging, the numbers aside
abbrev merged_metas : List MetaValue → Option Cfg → Unnumbered → Unnumbered
merged_metas front None y = record { metas = front ++ y.metas; disabled = y.disabled }
merged_metas front (Some c) y = record { metas = front; disabled = Some c }

abbrev merge_metas : Unnumbered → Unnumbered → Unnumbered
merge_metas x y = merged_metas x.metas x.disabled y

merged_twice : (front more : List Numbered) (off : Option Cfg) (z : Collected)
    → merged (front ++ more) off z ≡ record { attributes = front ++ (merged more off z).attributes; disabled = (merged more off z).disabled }
merged_twice front more (Some c) z = refl
merged_twice front more None z = ap (λ all. record { attributes = all; disabled = z.disabled }) (append_assoc front more z.attributes)

merged_associative : (front : List Numbered) (off : Option Cfg) (y z : Collected) → merge (merged front off y) z ≡ merged front off (merge y z)
merged_associative front (Some c) y z = refl
merged_associative front None y z = merged_twice front y.attributes y.disabled z

pub merge_associative : MergeIsAssociative
merge_associative x y z = merged_associative x.attributes x.disabled y z

merged_empty : (front : List Numbered) (off : Option Cfg) → merged front off empty ≡ record { attributes = front; disabled = off }
merged_empty front (Some c) = refl
merged_empty front None = ap (λ all. record { attributes = all; disabled = None }) (append-nil front)

pub empty_behind : EmptyIsNeutralBehind
empty_behind x = merged_empty x.attributes x.disabled

merged_metas_twice : (front more : List MetaValue) (off : Option Cfg) (z : Unnumbered)
    → merged_metas (front ++ more) off z ≡ record { metas = front ++ (merged_metas more off z).metas; disabled = (merged_metas more off z).disabled }
merged_metas_twice front more (Some c) z = refl
merged_metas_twice front more None z = ap (λ all. record { metas = all; disabled = z.disabled }) (append_assoc front more z.metas)

merge_metas_associative : (front : List MetaValue) (off : Option Cfg) (y z : Unnumbered)
    → merge_metas (merged_metas front off y) z ≡ merged_metas front off (merge_metas y z)
merge_metas_associative front (Some c) y z = refl
merge_metas_associative front None y z = merged_metas_twice front y.metas y.disabled z

unnumbered-merged : (front : List Numbered) (off : Option Cfg) (y : Collected)
    → unnumbered (merged front off y) ≡ merged_metas (map (λ (n : Numbered). n.meta) front) off (unnumbered y)
unnumbered-merged front (Some c) y = refl
unnumbered-merged front None y = ap (λ all. record { metas = all; disabled = y.disabled }) (map-append (λ (n : Numbered). n.meta) front y.attributes)

-- merging doesn't read numbers
unnumbered-merge : (x y : Collected) → unnumbered (merge x y) ≡ merge_metas (unnumbered x) (unnumbered y)
unnumbered-merge x y = unnumbered-merged x.attributes x.disabled y

either_way : (b : Bool) (x y z : Collected) → unnumbered x ≡ unnumbered y → unnumbered (if b then x else z) ≡ unnumbered (if b then y else z)
either_way true x y z e = e
either_way false x y z e = refl

module _ (set : CfgAtom → Bool) where
  mutual
    -- what an attribute leaves doesn't hang on its number
    renumbered : (a : Attribute) (i j : ℕ) → unnumbered (collect set a i) ≡ unnumbered (collect set a j)
    renumbered (meta m) i j = refl
    renumbered (cfg c) i j = refl
    renumbered (cfg_attr c inner) i j =
        either_way (holds set c) (collect_all set inner (count_of (i + 1))) (collect_all set inner (count_of (j + 1))) empty
        (all_renumbered inner (count_of (i + 1)) (count_of (j + 1)))

    all_renumbered : (attrs : Attributes) (i j : ℕ) → unnumbered (collect_all set attrs i) ≡ unnumbered (collect_all set attrs j)
    all_renumbered no_attributes i j = refl
    all_renumbered (attribute a rest) i j =
        let k = count_of (i + attribute_size a) in
        let l = count_of (j + attribute_size a) in
        unnumbered-merge (collect set a i) (collect_all set rest k)
        ∙ (ap₂ merge_metas (renumbered a i j) (all_renumbered rest k l) ∙ sym (unnumbered-merge (collect set a j) (collect_all set rest l)))

  joined : (front back : Attributes) (i j k : ℕ)
      → unnumbered (collect_all set (joined_attributes front back) i) ≡ merge_metas (unnumbered (collect_all set front j)) (unnumbered (collect_all set back k))
  joined no_attributes back i j k = all_renumbered back i k
  joined (attribute a rest) back i j k =
      let after_i = count_of (i + attribute_size a) in
      let after_j = count_of (j + attribute_size a) in
      let here = unnumbered (collect set a j) in
      let there = unnumbered (collect_all set rest after_j) in
      let behind = unnumbered (collect_all set back k) in
      unnumbered-merge (collect set a i) (collect_all set (joined_attributes rest back) after_i)
      ∙ (ap₂ merge_metas (renumbered a i j) (joined rest back after_i after_j k)
      ∙ (sym (merge_metas_associative here.metas here.disabled there behind)
      ∙ ap (λ front. merge_metas front behind) (sym (unnumbered-merge (collect set a j) (collect_all set rest after_j)))))

pub joined_as_merged : JoinedListsCollectAsMerged
joined_as_merged set front back =
    joined set front back 0 0 0 ∙ sym (unnumbered-merge (collect_all set front 0) (collect_all set back 0))
