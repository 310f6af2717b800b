-- What is without bodies and without sides is without sides, and what is without bodies has the same sides.
use Rattle.std.proofs.Common.{◌≡◌, ◌++◌, refl, sym, ap, ap₂, ◌∙◌, Bool, List}
use Rattle.hir_ids.specs.declared.ast_id.AstKind.{AstKind}
use Rattle.hir_base.specs.declared.cfg.CfgAtom.{CfgAtom}
use Rattle.hir_item_tree.specs.Source as written
use Rattle.hir_item_tree.specs.Source.{NodeHead, Plain, Holder, Item, Items, SourceValue}
use Rattle.hir_item_tree.specs.KeptForest.{kept_item}
use Rattle.hir_item_tree.specs.SideLists.{Side, SideEntry, associated, is_associated, is_associated_kind, and_associated, kept_associated, plain_side}
use Rattle.hir_item_tree.specs.SideLists.{holder_side, entry_list, item_entries, entries, side_lists}
use Rattle.hir_item_tree.specs.SyntaxIds.{node_id, plain_kind, holder_kind}
use Rattle.hir_item_tree.specs.BodyTexts.{plain_without_body, without_body, without_bodies, source_without_bodies, BodyTextsLeaveTheTree}
use Rattle.hir_item_tree.specs.BodyTexts.{BodyTextsLeaveTheSides}
use Rattle.hir_item_tree.specs.WithoutSides.{head_without_input, plain_without_sides, held_without_sides, item_without_sides, items_without_sides}
use Rattle.hir_item_tree.specs.WithoutSides.{source_without_sides}
use Rattle.hir_item_tree.proofs.Sides.{kept_without_sides, side_lists_leave_the_tree}

plain_twice : (p : Plain) → plain_without_sides (plain_without_body p) ≡ plain_without_sides p
plain_twice (written.import t) = refl
plain_twice _ = refl

mutual
  item_twice : (i : Item) → item_without_sides (without_body i) ≡ item_without_sides i
  item_twice (written.plain h p) = ap (written.plain (head_without_input h)) (plain_twice p)
  item_twice (written.holder h k is) = ap (λ js. written.holder (head_without_input h) k (held_without_sides k js)) (items_twice is)

  items_twice : (is : Items) → items_without_sides (without_bodies is) ≡ items_without_sides is
  items_twice written.no_items = refl
  items_twice (written.item i is) = ap₂ written.item (item_twice i) (items_twice is)

source_twice : (s : SourceValue) → source_without_sides (source_without_bodies s) ≡ source_without_sides s
source_twice written.broken = refl
source_twice (written.unit top items) = ap (written.unit top) (items_twice items)

pub body_texts_leave_the_tree : BodyTextsLeaveTheTree
body_texts_leave_the_tree set front a b e =
    side_lists_leave_the_tree set front a b (sym (source_twice a) ∙ (ap source_without_sides e ∙ source_twice b))

-- ---- what is kept beside a tree

kind_stays : (p : Plain) → plain_kind (plain_without_body p) ≡ plain_kind p
kind_stays (written.import t) = refl
kind_stays _ = refl

associated_kind_stays : (p : Plain) → is_associated_kind (plain_without_body p) ≡ is_associated_kind p
associated_kind_stays (written.import t) = refl
associated_kind_stays _ = refl

associated_stays : (i : Item) → is_associated (without_body i) ≡ is_associated i
associated_stays (written.plain h p) = associated_kind_stays p
associated_stays (written.holder h k is) = refl

module _ (set : CfgAtom → Bool) where
  item_stays : (i : Item) → kept_item set (without_body i) ≡ kept_item set i
  item_stays i = sym (kept_without_sides set (without_body i)) ∙ (ap (kept_item set) (item_twice i) ∙ kept_without_sides set i)

  associated_items_stay : (is : Items) → kept_associated set (without_bodies is) ≡ kept_associated set is
  associated_items_stay written.no_items = refl
  associated_items_stay (written.item i is) =
      ap (λ (b : Bool). and_associated b (kept_item set (without_body i)) (kept_associated set (without_bodies is))) (associated_stays i)
      ∙ ap₂ (and_associated (is_associated i)) (item_stays i) (associated_items_stay is)

  plain_side_stays : (p : Plain) → plain_side set (plain_without_body p) ≡ plain_side set p
  plain_side_stays (written.import t) = refl
  plain_side_stays _ = refl

  holder_side_stays : (k : Holder) (is : Items) → holder_side set k (without_bodies is) ≡ holder_side set k is
  holder_side_stays written.extern_block is = refl
  holder_side_stays (written.trait_item name) is = ap associated (associated_items_stay is)
  holder_side_stays (written.implementation of_trait) is = ap associated (associated_items_stay is)
  holder_side_stays (written.inline_module name) is = refl

  abbrev entry_of_node : NodeHead → AstKind → Side → List SideEntry
  entry_of_node h kind side = entry_list (record { node = node_id kind h.id; input = h.input; side = side })

  mutual
    item_entries_stay : (i : Item) → item_entries set (without_body i) ≡ item_entries set i
    item_entries_stay (written.plain h p) = ap₂ (entry_of_node h) (kind_stays p) (plain_side_stays p)
    item_entries_stay (written.holder h k is) =
        ap₂ (λ (side : Side) (es : List SideEntry). entry_of_node h (holder_kind k) side ++ es) (holder_side_stays k is) (entries_stay is)

    entries_stay : (is : Items) → entries set (without_bodies is) ≡ entries set is
    entries_stay written.no_items = refl
    entries_stay (written.item i is) = ap₂ (λ (xs ys : List SideEntry). xs ++ ys) (item_entries_stay i) (entries_stay is)

  sides_stay : (s : SourceValue) → side_lists set (source_without_bodies s) ≡ side_lists set s
  sides_stay written.broken = refl
  sides_stay (written.unit top items) = entries_stay items

pub body_texts_leave_the_sides : BodyTextsLeaveTheSides
body_texts_leave_the_sides set a b e = sym (sides_stay set a) ∙ (ap (side_lists set) e ∙ sides_stay set b)
