-- Equality of files, blocks, expansions and macro calls is that of plain values.
use Rattle.std.proofs.Common.{◌≡◌, nat_eq, ℕ, Bool, true, ◌&&◌, List, [], ◌∷◌, Option, Some, None, refl, sym, ap, ap₂, subst, rules, Decides}
use Rattle.std.specs.Cmp.{IsEquivalence, unsigned_Decides, first_so, second_so}
use Rattle.std.specs.Cmp.Derive.{both_true}
use Rattle.std.specs.Cmp.Lexicographic.{pointwise, pointwise_decides, bytes_decides}
use Rattle.std.specs.Option.{option_eq}
use denote.Enum.Bare.{sameb, same_true}
use mathlib.Core.Bool.{true≢false}
use Rattle.hir_base.specs.Place.{PlaceValue}
use Rattle.hir_ids.specs.contracts.ast_id.AstKind.{the_type as ast_kinds}
use Rattle.hir_ids.specs.contracts.ast_id.AstIdPartialEq.TheImpl as ast_eq
use Rattle.hir_ids.specs.contracts.ast_id.BlockIdPartialEq.TheImpl as block_id_eq
use Rattle.hir_ids.specs.contracts.ast_id.HirFileIdPartialEq.TheImpl as hir_file_eq
use Rattle.hir_ids.specs.contracts.ast_id.SyntaxIdPartialEq.TheImpl as syntax_eq
use Rattle.hir_ids.specs.contracts.edition.Edition.{the_type as editions}
use Rattle.hir_base.specs.contracts.macro_kind.CallStylePartialEq.TheImpl as style_eq
use Rattle.hir_base.specs.contracts.macro_kind.ExpansionKeyPartialEq.TheImpl as key_eq
use Rattle.hir_base.specs.contracts.macro_kind.MacroCallKindPartialEq.TheImpl as kind_eq
use Rattle.hir_base.specs.contracts.macro_kind.MacroCallLocPartialEq.TheImpl as call_eq
use Rattle.hir_base.specs.contracts.macro_kind.MacroTextPartialEq.TheImpl as macro_eq
use Rattle.hir_base.specs.contracts.macro_kind.CallStyleEq.TheImpl.Laws.{laws-law as style_laws}
use Rattle.hir_base.specs.contracts.macro_kind.MacroCallLocEq.TheImpl.Laws.{laws-law as call_laws}
use Rattle.hir_base.specs.contracts.macro_kind.MacroTextEq.TheImpl.Laws.{laws-law as macro_laws}
use Rattle.hir_base.specs.contracts.place.BlockPlaceEq.TheImpl.Laws.{laws-law as block_laws}
use Rattle.hir_base.specs.contracts.place.BlockPlacePartialEq.TheImpl as block_eq
use Rattle.hir_base.specs.contracts.place.PlaceElementPartialEq.TheImpl as element_eq
use Rattle.hir_base.specs.contracts.place.PlacePartialEq.TheImpl as place_eq
use Rattle.hir_ids.specs.declared.ast_id.AstId.{AstId}
use Rattle.hir_ids.specs.declared.ast_id.BlockId.{BlockId}
use Rattle.hir_base.specs.declared.place.BlockPlace.{BlockPlace}
use Rattle.hir_base.specs.declared.macro_kind.CallStyle.{CallStyle}
use Rattle.hir_base.specs.declared.macro_kind.ExpansionKey.{ExpansionKey}
use Rattle.hir_ids.specs.declared.ast_id.HirFileId.{HirFileId}
use Rattle.hir_base.specs.declared.macro_kind.MacroCallKind.{MacroCallKind}
use Rattle.hir_base.specs.declared.macro_kind.MacroCallLoc.{MacroCallLoc}
use Rattle.hir_base.specs.declared.macro_kind.MacroText.{MacroText}
use Rattle.hir_base.specs.declared.place.PlaceElement.{PlaceElement}
use Rattle.hir_ids.specs.declared.ast_id.SyntaxId.{SyntaxId}
use Rattle.hir_ids.specs.declared.ast_id.HirFileId.TheVariants as hir_file
use Rattle.hir_base.specs.declared.macro_kind.CallStyle.TheVariants as style
use Rattle.hir_base.specs.declared.macro_kind.MacroCallKind.TheVariants as kind
use Rattle.hir_base.specs.declared.place.PlaceElement.TheVariants as element
use Rattle.hir_tables.specs.SourcePlaces.{ExpansionValue, expansion_value}

same_nat : (m n : ℕ) → nat_eq m n ≡ true → m ≡ n
same_nat m n e = (unsigned_Decides m n).0 e

exact_syntax : (a b : SyntaxId) → syntax_eq.ghosts.eq a b ≡ true → a ≡ b
exact_syntax a b e = λ i. record {
  hash = same_nat a.hash b.hash (first_so _ _ e) i;
  index = same_nat a.index b.index (second_so (nat_eq a.hash b.hash) (nat_eq a.index b.index) e) i;
}

exact_element : (a b : PlaceElement) → element_eq.ghosts.eq a b ≡ true → a ≡ b
exact_element (element.Module m) (element.Module n) e = ap element.Module ((bytes_decides m n).0 e)
exact_element (element.Module m) (element.Block n) e = absurd (true≢false (sym e))
exact_element (element.Block m) (element.Module n) e = absurd (true≢false (sym e))
exact_element (element.Block m) (element.Block n) e = ap element.Block (exact_syntax m n e)

-- where equality of items is exact, that of lists is
exact_list : {A : Type 0} (eq : A → A → Bool) → ((a b : A) → eq a b ≡ true → a ≡ b) → (xs ys : List A) → pointwise eq xs ys ≡ true → xs ≡ ys
exact_list eq exact [] [] e = refl
exact_list eq exact [] (y ∷ ys) e = absurd (true≢false (sym e))
exact_list eq exact (x ∷ xs) [] e = absurd (true≢false (sym e))
exact_list eq exact (x ∷ xs) (y ∷ ys) e =
    ap₂ ◌∷◌ (exact x y (first_so (eq x y) (pointwise eq xs ys) e)) (exact_list eq exact xs ys (second_so (eq x y) (pointwise eq xs ys) e))

exact_place : (a b : PlaceValue) → place_eq.ghosts.eq a b ≡ true → a ≡ b
exact_place a b e = λ i. record {
  krate = record { 0 = same_nat a.krate.0 b.krate.0 (first_so _ _ e) i };
  elements = exact_list element_eq.ghosts.eq exact_element a.elements b.elements (second_so _ _ e) i;
}

pub exact_block : (a b : BlockPlace) → block_eq.ghosts.eq a b ≡ true → a ≡ b
exact_block a b e = λ i. record {
  holder = exact_place a.holder b.holder (first_so _ _ e) i;
  id = exact_syntax a.id b.id (second_so _ _ e) i;
}

exact_file : (a b : HirFileId) → hir_file_eq.ghosts.eq a b ≡ true → a ≡ b
exact_file (hir_file.File a) (hir_file.File b) e = λ i. hir_file.File (record {
  file_id = record { 0 = same_nat a.file_id.0 b.file_id.0 (first_so _ _ e) i };
  edition = same_true editions (search rules) a.edition b.edition (second_so _ _ e) i;
})
exact_file (hir_file.File a) (hir_file.Macro b) e = absurd (true≢false (sym e))
exact_file (hir_file.Macro a) (hir_file.File b) e = absurd (true≢false (sym e))
exact_file (hir_file.Macro a) (hir_file.Macro b) e = λ i. hir_file.Macro (record { 0 = same_nat a.0 b.0 e i })

exact_in_block : (a b : Option BlockId) → option_eq block_id_eq.ghosts.eq a b ≡ true → a ≡ b
exact_in_block None None e = refl
exact_in_block None (Some b) e = absurd (true≢false (sym e))
exact_in_block (Some a) None e = absurd (true≢false (sym e))
exact_in_block (Some a) (Some b) e = λ i. Some (record { 0 = same_nat a.0 b.0 e i })

exact_ast : (a b : AstId) → ast_eq.ghosts.eq a b ≡ true → a ≡ b
exact_ast a b e =
    let same_file = hir_file_eq.ghosts.eq a.file_id b.file_id in
    let same_block = option_eq block_id_eq.ghosts.eq a.block b.block in
    let same_kind = sameb ast_kinds a.kind b.kind in
    let same_id = syntax_eq.ghosts.eq a.id b.id in
    let behind = second_so same_file (same_block && (same_kind && same_id)) e in
    let last = second_so same_block (same_kind && same_id) behind in
    λ i. record {
      file_id = exact_file a.file_id b.file_id (first_so same_file (same_block && (same_kind && same_id)) e) i;
      block = exact_in_block a.block b.block (first_so same_block (same_kind && same_id) behind) i;
      kind = same_true ast_kinds (search rules) a.kind b.kind (first_so same_kind same_id last) i;
      id = exact_syntax a.id b.id (second_so same_kind same_id last) i;
    }

exact_kind : (a b : MacroCallKind) → kind_eq.ghosts.eq a b ≡ true → a ≡ b
exact_kind (kind.FnLike a) (kind.FnLike b) e = ap kind.FnLike (exact_ast a b e)
exact_kind (kind.Derive a m i) (kind.Derive b n j) e =
    let same_attr = nat_eq m.0 n.0 in
    let behind = second_so (ast_eq.ghosts.eq a b) (same_attr && nat_eq i j) e in
    λ k. kind.Derive (exact_ast a b (first_so (ast_eq.ghosts.eq a b) (same_attr && nat_eq i j) e) k)
    (record { 0 = same_nat m.0 n.0 (first_so same_attr (nat_eq i j) behind) k })
    (same_nat i j (second_so same_attr (nat_eq i j) behind) k)
exact_kind (kind.Attr a m) (kind.Attr b n) e = λ k. kind.Attr (exact_ast a b (first_so _ _ e) k) (record { 0 = same_nat m.0 n.0 (second_so _ _ e) k })
exact_kind a b e = absurd (true≢false (sym e))

pub exact_call : (a b : MacroCallLoc) → call_eq.ghosts.eq a b ≡ true → a ≡ b
exact_call a b e = λ i. record {
  kind = exact_kind a.kind b.kind (first_so _ _ e) i;
  entry = record { 0 = same_nat a.entry.0 b.entry.0 (second_so _ _ e) i };
}

exact_style : (a b : CallStyle) → style_eq.ghosts.eq a b ≡ true → a ≡ b
exact_style style.Bang style.Bang e = refl
exact_style style.Derive style.Derive e = refl
exact_style (style.Attribute a) (style.Attribute b) e = λ i. style.Attribute (record { 0 = same_nat a.0 b.0 e i })
exact_style a b e = absurd (true≢false (sym e))

exact_macro : (a b : MacroText) → macro_eq.ghosts.eq a b ≡ true → a ≡ b
exact_macro a b e = λ i. record {
  krate = record { 0 = same_nat a.krate.0 b.krate.0 (first_so _ _ e) i };
  text = (bytes_decides a.text b.text).0 (second_so _ _ e) i;
}

exact_key : (a b : ExpansionKey) → key_eq.ghosts.eq a b ≡ true → expansion_value a ≡ expansion_value b
exact_key a b e =
    let input = pointwise nat_eq a.input b.input in
    let call = style_eq.ghosts.eq a.call b.call in
    let called = macro_eq.ghosts.eq a.called b.called in
    let reached = pointwise macro_eq.ghosts.eq a.reached.items b.reached.items in
    let from_input = second_so (nat_eq a.caller.0 b.caller.0) (input && (call && (called && reached))) e in
    let from_call = second_so input (call && (called && reached)) from_input in
    let from_called = second_so call (called && reached) from_call in
    λ i. record {
      caller = record { 0 = same_nat a.caller.0 b.caller.0 (first_so (nat_eq a.caller.0 b.caller.0) (input && (call && (called && reached))) e) i };
      called = exact_macro a.called b.called (first_so called reached from_called) i;
      call = exact_style a.call b.call (first_so call (called && reached) from_call) i;
      input = (bytes_decides a.input b.input).0 (first_so input (call && (called && reached)) from_input) i;
      reached = exact_list macro_eq.ghosts.eq exact_macro a.reached.items b.reached.items (second_so called reached from_called) i;
    }

-- ---- in both directions

decided : {A : Type 0} (eq : A → A → Bool) → IsEquivalence eq → ((a b : A) → eq a b ≡ true → a ≡ b) → (a b : A) → Decides (eq a b) (a ≡ b)
decided {A} eq laws exact a b = (exact a b, λ e. subst (λ (x : A). eq a x ≡ true) e (laws.refl a))

pub decides_file : (a b : List ℕ) → Decides (pointwise nat_eq a b) (a ≡ b)
decides_file = bytes_decides

pub decides_block : (a b : BlockPlace) → Decides (block_eq.ghosts.eq a b) (a ≡ b)
decides_block = decided block_eq.ghosts.eq block_laws exact_block

pub decides_call : (a b : MacroCallLoc) → Decides (call_eq.ghosts.eq a b) (a ≡ b)
decides_call = decided call_eq.ghosts.eq call_laws exact_call

pub decides_key : (a b : ExpansionKey) → Decides (key_eq.ghosts.eq a b) (expansion_value a ≡ expansion_value b)
decides_key a b = (
  exact_key a b,
  λ e.
      both_true ((unsigned_Decides a.caller.0 b.caller.0).1 (ap (λ (v : ExpansionValue). v.caller.0) e))
      (both_true ((bytes_decides a.input b.input).1 (ap (λ (v : ExpansionValue). v.input) e))
      (both_true ((decided style_eq.ghosts.eq style_laws exact_style a.call b.call).1 (ap (λ (v : ExpansionValue). v.call) e))
      (both_true ((decided macro_eq.ghosts.eq macro_laws exact_macro a.called b.called).1 (ap (λ (v : ExpansionValue). v.called) e))
      ((pointwise_decides (decided macro_eq.ghosts.eq macro_laws exact_macro) a.reached.items b.reached.items).1 (ap (λ (v : ExpansionValue). v.reached) e))))),
)
