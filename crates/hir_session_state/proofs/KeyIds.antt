-- Keys that compare as equal are one.
use Rattle.std.proofs.Common.{◌≡◌, ◌∙◌, ap, sym, refl, nat_eq, ℕ, true, ◌&&◌, Option, Some, None, rules, true≢false}
use Rattle.std.specs.BTreeMap.{is_at}
use Rattle.std.specs.Cmp.{unsigned_Decides, first_so, second_so, tied_itself}
use Rattle.std.specs.Option.{option_eq}
use Rattle.std.specs.Ordering.{is_eq}
use denote.Enum.Bare.{same_true, sameb}
use Rattle.hir_collector_rules.specs.HirIds.contracts.ast_id.AstIdPartialEq.TheImpl as ast_eq
use Rattle.hir_collector_rules.specs.HirIds.contracts.ast_id.AstKind.{the_type as ast_kinds}
use Rattle.hir_collector_rules.specs.HirIds.contracts.ast_id.BlockIdPartialEq.TheImpl as block_eq
use Rattle.hir_collector_rules.specs.HirIds.contracts.ast_id.HirFileIdPartialEq.TheImpl as file_eq
use Rattle.hir_collector_rules.specs.HirIds.contracts.ast_id.SyntaxIdPartialEq.TheImpl as syntax_eq
use Rattle.hir_collector_rules.specs.HirIds.contracts.edition.Edition.{the_type as editions}
use Rattle.hir_collector_rules.specs.HirIds.contracts.macro_kind.MacroIdPartialEq.TheImpl as macro_eq
use Rattle.hir_collector_rules.specs.HirIds.declared.ast_id.AstId.{AstId}
use Rattle.hir_collector_rules.specs.HirIds.declared.ast_id.BlockId.{BlockId}
use Rattle.hir_collector_rules.specs.HirIds.declared.ast_id.HirFileId.{HirFileId}
use Rattle.hir_collector_rules.specs.HirIds.declared.ast_id.HirFileId.TheVariants as files
use Rattle.hir_collector_rules.specs.HirIds.declared.ast_id.SyntaxId.{SyntaxId}
use Rattle.hir_collector_rules.specs.HirIds.declared.macro_kind.MacroId.{MacroId}
use Rattle.hir_collector_rules.specs.HirBase.contracts.tree_id.TreeIdPartialEq.TheImpl as tree_eq
use Rattle.hir_collector_rules.specs.HirBase.contracts.tree_id.TreeKeyPartialEq.TheImpl as tree_key_eq
use Rattle.hir_collector_rules.specs.HirBase.declared.tree_id.TreeKey.{TreeKey}
use Rattle.hir_collector_rules.specs.HirPerNs.declared.item_in_ns.ItemInNs.TheVariants as in_ns
use Rattle.hir_collector_rules.proofs.HirDefMapRules.EnumIds.{exact_enum}
use Rattle.hir_collector_rules.specs.HirDefMapRules.Inner.OverlayLaws.{exact_map}
use Rattle.hir_def_collector_laws.proofs.Exact.{exact_item}
use Rattle.hir_collector_rules.specs.declared.source_database.Key.{Key}
use Rattle.hir_collector_rules.specs.declared.source_database.Key.TheVariants as keys
use Rattle.hir_collector_rules.specs.contracts.source_database.KeyPartialEq.TheImpl as key_eq
use Rattle.hir_collector_rules.specs.contracts.source_database.KeyOrd.TheImpl as key_order
use Rattle.hir_collector_rules.specs.contracts.source_database.KeyOrd.TheImpl.Laws.{total-law as keys_total, matches_eq-law as keys_tie}

same_nat : (m n : ℕ) → nat_eq m n ≡ true → m ≡ n
same_nat m n e = (unsigned_Decides m n).0 e

exact_syntax : (a b : SyntaxId) → syntax_eq.ghosts.eq a b ≡ true → a ≡ b
exact_syntax a b e = λ i. record {
  hash = same_nat a.hash b.hash (first_so _ _ e) i;
  index = same_nat a.index b.index (second_so (nat_eq a.hash b.hash) (nat_eq a.index b.index) e) i;
}

exact_file : (a b : HirFileId) → file_eq.ghosts.eq a b ≡ true → a ≡ b
exact_file (files.File a) (files.File b) e = λ i. files.File (record {
  file_id = record { 0 = same_nat a.file_id.0 b.file_id.0 (first_so _ _ e) i };
  edition = same_true editions (search rules) a.edition b.edition (second_so _ _ e) i;
})
exact_file (files.File a) (files.Macro b) e = absurd (true≢false (sym e))
exact_file (files.Macro a) (files.File b) e = absurd (true≢false (sym e))
exact_file (files.Macro a) (files.Macro b) e = λ i. files.Macro (record { 0 = same_nat a.0 b.0 e i })

exact_block : (a b : Option BlockId) → option_eq block_eq.ghosts.eq a b ≡ true → a ≡ b
exact_block None None e = refl
exact_block None (Some b) e = absurd (true≢false (sym e))
exact_block (Some a) None e = absurd (true≢false (sym e))
exact_block (Some a) (Some b) e = λ i. Some (record { 0 = same_nat a.0 b.0 e i })

exact_tree : (a b : TreeKey) → tree_key_eq.ghosts.eq a b ≡ true → a ≡ b
exact_tree a b e =
    let same_file = file_eq.ghosts.eq a.id.file b.id.file in
    let same_block = option_eq block_eq.ghosts.eq a.id.block b.id.block in
    let same_id : (same_file && same_block) ≡ true = second_so (nat_eq a.krate.0 b.krate.0) (tree_eq.ghosts.eq a.id b.id) e in
    λ i. record {
      krate = record { 0 = same_nat a.krate.0 b.krate.0 (first_so (nat_eq a.krate.0 b.krate.0) (tree_eq.ghosts.eq a.id b.id) e) i };
      id = record {
        file = exact_file a.id.file b.id.file (first_so same_file same_block same_id) i;
        block = exact_block a.id.block b.id.block (second_so same_file same_block same_id) i;
      };
    }

exact_ast : (a b : AstId) → ast_eq.ghosts.eq a b ≡ true → a ≡ b
exact_ast a b e =
    let same_file = file_eq.ghosts.eq a.file_id b.file_id in
    let same_block = option_eq block_eq.ghosts.eq a.block b.block in
    let same_kind = sameb ast_kinds a.kind b.kind in
    let same_id = syntax_eq.ghosts.eq a.id b.id in
    let behind = second_so same_file (same_block && (same_kind && same_id)) e in
    let last = second_so same_block (same_kind && same_id) behind in
    λ i. record {
      file_id = exact_file a.file_id b.file_id (first_so same_file (same_block && (same_kind && same_id)) e) i;
      block = exact_block a.block b.block (first_so same_block (same_kind && same_id) behind) i;
      kind = same_true ast_kinds (search rules) a.kind b.kind (first_so same_kind same_id last) i;
      id = exact_syntax a.id b.id (second_so same_kind same_id last) i;
    }

exact_macro : (a b : MacroId) → macro_eq.ghosts.eq a b ≡ true → a ≡ b
exact_macro a b e = one_macro (exact_item (in_ns.Macros a) (in_ns.Macros b) e)
  where
    one_macro : in_ns.Macros a ≡ in_ns.Macros b → a ≡ b
    one_macro e = cc

exact_key : (a b : Key) → key_eq.ghosts.eq a b ≡ true → a ≡ b
exact_key (keys.Tree a) (keys.Tree b) e = ap keys.Tree (exact_tree a b e)
exact_key (keys.Variants a) (keys.Variants b) e = ap keys.Variants (exact_enum a b e)
exact_key (keys.Text a) (keys.Text b) e = ap keys.Text (exact_macro a b e)
exact_key (keys.Input c a) (keys.Input d b) e =
    λ i. keys.Input (record { 0 = same_nat c.0 d.0 (first_so (nat_eq c.0 d.0) (ast_eq.ghosts.eq a b) e) i })
    (exact_ast a b (second_so (nat_eq c.0 d.0) (ast_eq.ghosts.eq a b) e) i)
exact_key (keys.Expansion a) (keys.Expansion b) e = λ i. keys.Expansion (record { 0 = same_nat a.0 b.0 e i })
exact_key (keys.Map a) (keys.Map b) e = ap keys.Map (exact_map a b e)
exact_key (keys.Config a) (keys.Config b) e = λ i. keys.Config (record { 0 = same_nat a.0 b.0 e i })
exact_key a b e = absurd (true≢false (sym e))

-- ---- one key among others

pub own_key : (a : Key) → is_at (key_order.ghosts.cmp a) a ≡ true
own_key a = ap is_eq (tied_itself keys_total a)

pub equal_key : (a b : Key) → is_at (key_order.ghosts.cmp a) b ≡ true → a ≡ b
equal_key a b e = exact_key a b (keys_tie a b ∙ e)
