-- Enums whose ids are equal are one.
use Rattle.std.proofs.Common.{◌≡◌, nat_eq, ℕ, Bool, true, ◌&&◌, Option, Some, None, sym, refl, rules, true≢false}
use Rattle.std.specs.Cmp.{unsigned_Decides, first_so, second_so}
use Rattle.std.specs.Option.{option_eq}
use denote.Enum.Bare.{same_true}
use Rattle.hir_scope.specs.HirIds.contracts.ast_id.BlockIdPartialEq.TheImpl as block_id
use Rattle.hir_scope.specs.HirIds.contracts.ast_id.HirFileIdPartialEq.TheImpl as hir_file
use Rattle.hir_scope.specs.HirIds.contracts.ast_id.SyntaxIdPartialEq.TheImpl as syntax
use Rattle.hir_scope.specs.HirIds.contracts.edition.Edition.{the_type as editions}
use Rattle.hir_scope.specs.HirIds.contracts.ids.EnumIdPartialEq.TheImpl as enum_id
use Rattle.hir_scope.specs.HirIds.contracts.ids.MapIdPartialEq.TheImpl as map_id
use Rattle.hir_scope.specs.HirIds.contracts.ids.ModuleIdPartialEq.TheImpl as module_id
use Rattle.hir_scope.specs.HirIds.declared.ast_id.BlockId.{BlockId}
use Rattle.hir_scope.specs.HirIds.declared.ids.EnumId.{EnumId}
use Rattle.hir_scope.specs.HirIds.declared.ast_id.HirFileId.{HirFileId}
use Rattle.hir_scope.specs.HirIds.declared.ids.ModuleId.{ModuleId}
use Rattle.hir_scope.specs.HirIds.declared.ast_id.SyntaxId.{SyntaxId}
use Rattle.hir_scope.specs.HirIds.declared.ast_id.HirFileId.TheVariants as files
use Rattle.hir_def_map_rules.specs.Inner.OverlayLaws.{exact_map}

same_nat : (m n : ℕ) → nat_eq m n ≡ true → m ≡ n
same_nat m n e = (unsigned_Decides m n).0 e

exact_module : (a b : ModuleId) → module_id.ghosts.eq a b ≡ true → a ≡ b
exact_module a b e = λ i. record {
  map = exact_map a.map b.map (first_so _ _ e) i;
  index = same_nat a.index b.index (second_so (map_id.ghosts.eq a.map b.map) _ e) i;
}

exact_syntax : (a b : SyntaxId) → syntax.ghosts.eq a b ≡ true → a ≡ b
exact_syntax a b e = λ i. record {
  hash = same_nat a.hash b.hash (first_so _ _ e) i;
  index = same_nat a.index b.index (second_so (nat_eq a.hash b.hash) (nat_eq a.index b.index) e) i;
}

exact_file : (a b : HirFileId) → hir_file.ghosts.eq a b ≡ true → a ≡ b
exact_file (files.File a) (files.File b) e = λ i. files.File (record {
  file_id = record { 0 = same_nat a.file_id.0 b.file_id.0 (first_so _ _ e) i };
  edition = same_true editions (search rules) a.edition b.edition (second_so _ _ e) i;
})
exact_file (files.File a) (files.Macro b) e = absurd (true≢false (sym e))
exact_file (files.Macro a) (files.File b) e = absurd (true≢false (sym e))
exact_file (files.Macro a) (files.Macro b) e = λ i. files.Macro (record { 0 = same_nat a.0 b.0 e i })

exact_block : (a b : Option BlockId) → option_eq block_id.ghosts.eq a b ≡ true → a ≡ b
exact_block None None e = refl
exact_block None (Some b) e = absurd (true≢false (sym e))
exact_block (Some a) None e = absurd (true≢false (sym e))
exact_block (Some a) (Some b) e = λ i. Some (record { 0 = same_nat a.0 b.0 e i })

pub exact_enum : (a b : EnumId) → enum_id.ghosts.eq a b ≡ true → a ≡ b
exact_enum a b e =
    let in_module = module_id.ghosts.eq a.loc.container b.loc.container in
    let in_file = hir_file.ghosts.eq a.loc.file_id b.loc.file_id in
    let in_block = option_eq block_id.ghosts.eq a.loc.block b.loc.block in
    let node = syntax.ghosts.eq a.loc.id b.loc.id in
    let past_module = second_so in_module (in_file && (in_block && node)) e in
    let past_file = second_so in_file (in_block && node) past_module in
    λ i. record {
      loc = record {
        container = exact_module a.loc.container b.loc.container (first_so in_module (in_file && (in_block && node)) e) i;
        file_id = exact_file a.loc.file_id b.loc.file_id (first_so in_file (in_block && node) past_module) i;
        block = exact_block a.loc.block b.loc.block (first_so in_block node past_file) i;
        id = exact_syntax a.loc.id b.loc.id (second_so in_block node past_file) i;
      };
    }
