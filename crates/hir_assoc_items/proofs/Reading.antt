-- Items are read one after another.
use Rattle.std.proofs.Common.{◌≡◌, ◌∙◌, ℕ, ◌+◌, ◌<◌, ◌≤◌, inl, inr, List, ◌∷◌, ◌++◌, length, Option, None, Some, drop, get_or, refl, sym, ap, subst, slice_get}
use Rattle.std.proofs.Common.{append_assoc, add-one, arith}
use Rattle.std.proofs.Math.Seq.{drop-cons}
use Rattle.std.proofs.lemmas.Option.{slice_get_cases}
use Rattle.std.specs.Prelude.{IfSome}
use Rattle.hir_collector_rules.specs.HirItemTree.Collected.{Collected}
use Rattle.hir_collector_rules.specs.HirBase.Cfg.{Cfg}
use Rattle.hir_collector_rules.specs.HirIds.declared.ast_id.SyntaxId.{SyntaxId}
use Rattle.hir_collector_rules.specs.HirItemTree.KeptForest.{KeptItem}
use Rattle.hir_collector_rules.specs.HirItemTree.Kinds.{item_head}
use Rattle.hir_collector_rules.specs.HirItemTree.Rows.{Content, alone, with_items, item_of, items_at, numbers_of}
use Rattle.hir_collector_rules.specs.HirItemTree.declared.rows.ModItemId.{ModItemId}
use Rattle.hir_collector_rules.specs.HirBase.declared.tree_id.TreeId.{TreeId}
use Rattle.hir_assoc_items.specs.Written.{WrittenValue, top_items, written, written_content, written_found, written_item}

-- an item that is put together of its head and what it is
pub item_written : (tree : TreeId) (level : ℕ) (all : List KeptItem) (i : KeptItem) (content : Content) (id : SyntaxId) (disabled : Option Cfg)
    → item_of all (item_head i) content ≡ i
    → id ≡ (item_head i).id → disabled ≡ (item_head i).attributes.disabled → written_content tree level id disabled content ≡ written_item tree level i
item_written tree level all i (alone l) id disabled is node cfg =
    ap (λ (n : SyntaxId). written_content tree level n disabled (alone l)) node
    ∙ ap (λ (d : Option Cfg). written_content tree level (item_head i).id d (alone l)) cfg
    ∙ ap (λ (j : KeptItem). written_item tree level j) is
item_written tree level all i (with_items k ns) id disabled is node cfg = ap (λ (j : KeptItem). written_item tree level j) is

-- so with the item of a number
pub found_written : (tree : TreeId) (level : ℕ) (all : List KeptItem) (n : ℕ) (content : Content) (id : SyntaxId) (attributes : Collected) → n < length all
    → IfSome (slice_get all n) (λ i. item_of all (item_head i) content ≡ i) → IfSome (slice_get all n) (λ i. id ≡ (item_head i).id)
    → IfSome (slice_get all n) (λ i. attributes ≡ (item_head i).attributes)
    → written_content tree level id attributes.disabled content ≡ written_found tree level (slice_get all n)
found_written tree level all n content id attributes there is node has = elim (slice_get_cases all n).1 [
  | inl p ↦ (
      let e : slice_get all n ≡ Some p.0 = p.2 in
      item_written tree level all p.0 content id attributes.disabled (subst (λ (o : Option KeptItem). IfSome o (λ i. item_of all (item_head i) content ≡ i)) e
      is)
      (subst (λ (o : Option KeptItem). IfSome o (λ i. id ≡ (item_head i).id)) e node)
      (ap (λ (a : Collected). a.disabled) (subst (λ (o : Option KeptItem). IfSome o (λ i. attributes ≡ (item_head i).attributes)) e has))
      ∙ ap (λ (o : Option KeptItem). written_found tree level o) (sym e))
  | inr q ↦ absurd (let past : length all ≤ n = q.0 in omega arith)
]

module _ (tree : TreeId) (level : ℕ) (all : List KeptItem) where
  abbrev listed : List ℕ → List WrittenValue
  listed ns = written tree level (top_items (items_at all ns))

  found_first : (n : ℕ) (ns : List ℕ) (o : Option KeptItem) → slice_get all n ≡ o → listed (n ∷ ns) ≡ written_found tree level o ++ listed ns
  found_first n ns None e = rw e refl
  found_first n ns (Some i) e = rw e refl

  -- once one more is read, it isn't among those that are left
  pub written_next : (ids : List ModItemId) (i : ℕ) (d : ModItemId) (before after whole : List WrittenValue) → i < length ids
      → before ++ listed (numbers_of (drop i ids)) ≡ whole → after ≡ before ++ written_found tree level (slice_get all (get_or ids i d).0)
      → after ++ listed (numbers_of (drop (i + 1) ids)) ≡ whole
  written_next ids i d before after whole inside so_far more =
      let n : ℕ = (get_or ids i d).0 in
      let rest : List ℕ = numbers_of (drop (i + 1) ids) in
      let split : drop i ids ≡ get_or ids i d ∷ drop (i + 1) ids = rw add-one (drop-cons ids i d inside) in
      ap (λ (ws : List WrittenValue). ws ++ listed rest) more
      ∙ append_assoc before (written_found tree level (slice_get all n)) (listed rest)
      ∙ ap (λ (ws : List WrittenValue). before ++ ws) (sym (found_first n rest (slice_get all n) refl))
      ∙ ap (λ (is : List ModItemId). before ++ listed (numbers_of is)) (sym split)
      ∙ so_far
