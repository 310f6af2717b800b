-- Slots that compare as equal are one.
use Rattle.std.proofs.Common.{◌≡◌, ap, sym, refl, ℕ, ◌<◌, true, List, Option, None, Some}
use mathlib.Core.Bool.{true≢false}
use Rattle.std.specs.declared.cmp.Ordering.{Ordering}
use Rattle.std.specs.declared.cmp.Ordering.TheVariants.{Less, Equal, Greater}
use Rattle.std.specs.Ordering.{MatchOrdering, nat_cmp, is_eq, ordering_then}
use Rattle.std.specs.Option.{option_cmp}
use Rattle.std.specs.Cmp.Lexicographic.{slice_cmp}
use Rattle.std.proofs.lemmas.Cmp.{ranked}
use Rattle.std.proofs.lemmas.Map.Lookups.{exact_bytes}
use Rattle.hir_scope.specs.HirIds.declared.ast_id.BlockId.{BlockId}
use Rattle.hir_scope.specs.HirIds.declared.edition.Edition.{Edition}
use Rattle.hir_scope.specs.HirIds.declared.ast_id.HirFileId.{HirFileId}
use Rattle.hir_scope.specs.HirIds.declared.ids.MapId.{MapId}
use Rattle.hir_scope.specs.HirIds.declared.ids.ModuleId.{ModuleId}
use Rattle.hir_scope.specs.HirIds.declared.ast_id.SyntaxId.{SyntaxId}
use Rattle.hir_scope.specs.HirIds.declared.ids.TraitId.{TraitId}
use Rattle.hir_scope.specs.HirIds.declared.ast_id.HirFileId.TheVariants as file
use Rattle.hir_scope.specs.HirIds.declared.edition.Edition.TheVariants.{Edition2015, Edition2018, Edition2021, Edition2024}
use Rattle.hir_scope.specs.HirIds.contracts.ast_id.BlockIdOrd.TheImpl as block_order
use Rattle.hir_scope.specs.HirIds.contracts.ast_id.HirFileIdOrd.TheImpl as file_order
use Rattle.hir_scope.specs.HirIds.contracts.ast_id.SyntaxIdOrd.TheImpl as syntax_order
use Rattle.hir_scope.specs.HirIds.contracts.edition.EditionOrd.TheImpl as edition_order
use Rattle.hir_scope.specs.HirIds.contracts.ids.MapIdOrd.TheImpl as map_order
use Rattle.hir_scope.specs.HirIds.contracts.ids.ModuleIdOrd.TheImpl as module_order
use Rattle.hir_scope.specs.HirIds.contracts.ids.TraitIdOrd.TheImpl as trait_order
use Rattle.hir_glob_imports.specs.Types.{Key, Slot}
use Rattle.hir_glob_imports.specs.declared.edge.Key.TheVariants.{Types, Values, Macros, Unnamed}
use Rattle.hir_glob_imports.specs.contracts.edge.KeyOrd.TheImpl as key_order
use Rattle.hir_glob_imports.specs.Keys.{same_slot}

pub first_tied : (o p : Ordering) → is_eq (ordering_then o p) ≡ true → is_eq o ≡ true
first_tied Less p e = e
first_tied Equal p e = refl
first_tied Greater p e = e

pub second_tied : (o p : Ordering) → is_eq (ordering_then o p) ≡ true → is_eq p ≡ true
second_tied Less p e = absurd (true≢false (sym e))
second_tied Equal p e = e
second_tied Greater p e = absurd (true≢false (sym e))

is_equal : (o : Ordering) → is_eq o ≡ true → o ≡ Equal
is_equal Less e = absurd (true≢false (sym e))
is_equal Equal e = refl
is_equal Greater e = absurd (true≢false (sym e))

pub exact_nat : (x y : ℕ) → is_eq (nat_cmp x y) ≡ true → x ≡ y
exact_nat x y e = go (nat_cmp x y) (ranked x y (nat_cmp x y) refl) e
  where
    go : (o : Ordering) → MatchOrdering o (x < y) (x ≡ y) (y < x) → is_eq o ≡ true → x ≡ y
    go Less m e = absurd (true≢false (sym e))
    go Equal m e = m
    go Greater m e = absurd (true≢false (sym e))

pub exact_in_block : (a b : Option BlockId) → is_eq (option_cmp block_order.ghosts.cmp a b) ≡ true → a ≡ b
exact_in_block None None e = refl
exact_in_block None (Some b) e = absurd (true≢false (sym e))
exact_in_block (Some a) None e = absurd (true≢false (sym e))
exact_in_block (Some a) (Some b) e = λ i. Some (record { 0 = exact_nat a.0 b.0 e i })

exact_map : (a b : MapId) → is_eq (map_order.ghosts.cmp a b) ≡ true → a ≡ b
exact_map a b e = λ i. record {
  krate = record { 0 = exact_nat a.krate.0 b.krate.0 (first_tied _ _ e) i };
  block = exact_in_block a.block b.block (second_tied (nat_cmp a.krate.0 b.krate.0) _ e) i;
}

pub exact_module : (a b : ModuleId) → is_eq (module_order.ghosts.cmp a b) ≡ true → a ≡ b
exact_module a b e = λ i. record {
  map = exact_map a.map b.map (first_tied _ _ e) i;
  index = exact_nat a.index b.index (second_tied (map_order.ghosts.cmp a.map b.map) _ e) i;
}

pub exact_syntax : (a b : SyntaxId) → is_eq (syntax_order.ghosts.cmp a b) ≡ true → a ≡ b
exact_syntax a b e = λ i. record {
  hash = exact_nat a.hash b.hash (first_tied _ _ e) i;
  index = exact_nat a.index b.index (second_tied (nat_cmp a.hash b.hash) _ e) i;
}

pub exact_edition : (a b : Edition) → is_eq (edition_order.ghosts.cmp a b) ≡ true → a ≡ b
exact_edition Edition2015 Edition2015 e = refl
exact_edition Edition2018 Edition2018 e = refl
exact_edition Edition2021 Edition2021 e = refl
exact_edition Edition2024 Edition2024 e = refl
exact_edition a b e = absurd (true≢false (sym e))

pub exact_file : (a b : HirFileId) → is_eq (file_order.ghosts.cmp a b) ≡ true → a ≡ b
exact_file (file.File a) (file.File b) e = λ i. file.File (record {
  file_id = record { 0 = exact_nat a.file_id.0 b.file_id.0 (first_tied _ _ e) i };
  edition = exact_edition a.edition b.edition (second_tied (nat_cmp a.file_id.0 b.file_id.0) _ e) i;
})
exact_file (file.File a) (file.Macro b) e = absurd (true≢false (sym e))
exact_file (file.Macro a) (file.File b) e = absurd (true≢false (sym e))
exact_file (file.Macro a) (file.Macro b) e = λ i. file.Macro (record { 0 = exact_nat a.0 b.0 e i })

pub exact_trait : (a b : TraitId) → is_eq (trait_order.ghosts.cmp a b) ≡ true → a ≡ b
exact_trait a b e =
    let container = module_order.ghosts.cmp a.loc.container b.loc.container in
    let in_file = file_order.ghosts.cmp a.loc.file_id b.loc.file_id in
    let in_block = option_cmp block_order.ghosts.cmp a.loc.block b.loc.block in
    let id = syntax_order.ghosts.cmp a.loc.id b.loc.id in
    let from_file = second_tied container (ordering_then in_file (ordering_then in_block id)) e in
    let from_block = second_tied in_file (ordering_then in_block id) from_file in
    λ i. record {
      loc = record {
        container = exact_module a.loc.container b.loc.container (first_tied container (ordering_then in_file (ordering_then in_block id)) e) i;
        file_id = exact_file a.loc.file_id b.loc.file_id (first_tied in_file (ordering_then in_block id) from_file) i;
        block = exact_in_block a.loc.block b.loc.block (first_tied in_block id from_block) i;
        id = exact_syntax a.loc.id b.loc.id (second_tied in_block id from_block) i;
      };
    }

exact_name : (a b : List ℕ) → is_eq (slice_cmp nat_cmp a b) ≡ true → a ≡ b
exact_name a b e = exact_bytes a b (is_equal (slice_cmp nat_cmp a b) e)

exact_key : (a b : Key) → is_eq (key_order.ghosts.cmp a b) ≡ true → a ≡ b
exact_key (Types a) (Types b) e = ap Types (exact_name a b e)
exact_key (Values a) (Values b) e = ap Values (exact_name a b e)
exact_key (Macros a) (Macros b) e = ap Macros (exact_name a b e)
exact_key (Unnamed a) (Unnamed b) e = ap Unnamed (exact_trait a b e)
exact_key a b e = absurd (true≢false (sym e))

pub exact_slot : (a b : Slot) → same_slot a b ≡ true → a ≡ b
exact_slot a b e = λ i. record {
  at = exact_nat a.at b.at (first_tied _ _ e) i;
  key = exact_key a.key b.key (second_tied (nat_cmp a.at b.at) _ e) i;
}
