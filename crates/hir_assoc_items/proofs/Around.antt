-- What is around syntax is counted outwards.
use Rattle.std.proofs.Common.{◌≡◌, ◌∙◌, ℕ, zero, suc, ◌+◌, ◌-◌, ◌<◌, Option, None, Some, refl, ap, arith}
use Rattle.std.specs.Prelude.{option_map}
use Rattle.hir_collector_rules.specs.HirIds.declared.ast_id.AstId.{AstId}
use Rattle.hir_collector_rules.specs.HirIds.declared.ast_id.BlockId.{BlockId}
use Rattle.hir_collector_rules.specs.HirIds.declared.ast_id.HirFileId.{HirFileId}
use Rattle.hir_collector_rules.specs.HirTables.Tables.{TablesValue}
use Rattle.hir_assoc_items.specs.Depth.{and_expansion, call_around, expansions_within}

-- nothing is around what no expansion writes
pub none_around : (n : ℕ) (t : TablesValue) (file : HirFileId) (block : Option BlockId) → call_around t file block ≡ None → expansions_within n t file block ≡ 0
none_around zero t file block e = refl
none_around (suc n) t file block e = ap (λ (o : Option AstId). and_expansion (option_map (λ (node : AstId). expansions_within n t node.file_id node.block) o)) e

one_less : (n m : ℕ) → n ≡ suc m → n - 1 ≡ m
one_less n m e = omega arith

-- and one more than around the call around what an expansion writes
pub one_around : (n : ℕ) (t : TablesValue) (file : HirFileId) (block : Option BlockId) (node : AstId) → 0 < n → call_around t file block ≡ Some node
    → expansions_within n t file block ≡ expansions_within (n - 1) t node.file_id node.block + 1
one_around zero t file block node some e = absurd (omega arith)
one_around (suc n) t file block node some e =
    ap (λ (o : Option AstId). and_expansion (option_map (λ (at : AstId). expansions_within n t at.file_id at.block) o)) e
    ∙ ap (λ (m : ℕ). expansions_within m t node.file_id node.block + 1) (let same : n ≡ suc n - 1 = omega arith in same)
