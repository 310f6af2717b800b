-- Calls stay where numbers lead, as calls get numbers.
use Rattle.std.proofs.Common.{◌≡◌, ◌∙◌, ◌⊎◌, ◌<◌, ℕ, zero, suc, length, inl, inr, ◌++◌, List, [], ◌∷◌, Option, Some, None, refl, sym, ap, subst, slice_get}
use Rattle.std.proofs.Common.{option_and_then, option_map}
use Rattle.std.specs.Prelude.{IsSome}
use Rattle.hir_collector_rules.specs.HirIds.declared.ast_id.AstId.{AstId}
use Rattle.hir_collector_rules.specs.HirIds.declared.ast_id.BlockId.{BlockId}
use Rattle.hir_collector_rules.specs.HirIds.declared.ast_id.EntryId.{EntryId}
use Rattle.hir_collector_rules.specs.HirIds.declared.ast_id.HirFileId.{HirFileId}
use Rattle.hir_collector_rules.specs.HirIds.declared.ast_id.MacroCallId.{MacroCallId}
use Rattle.hir_collector_rules.specs.HirBase.declared.macro_kind.MacroCallLoc.{MacroCallLoc}
use Rattle.hir_collector_rules.specs.HirIds.declared.ast_id.HirFileId.TheVariants.{Macro}
use Rattle.hir_collector_rules.specs.HirTables.Interning.{Interns, gets_next, had_number}
use Rattle.hir_collector_rules.specs.HirTables.SourcePlaces.{SourcePlaceValue, expansion}
use Rattle.hir_collector_rules.specs.HirTables.Tables.{KeepsTables, TablesValue, call_at, entry_at, source_of, source_under as source_under_file}
use Rattle.hir_collector_rules.specs.HirDefMapRules.Diagnostics.{call_node}
use Rattle.hir_collector_rules.specs.Calls.{AreCallsPlaced, IsPlacedBelow}
use Rattle.hir_collector_rules.specs.Keys.{node_tree}
use Rattle.hir_collector_rules.proofs.Lists.{get_inside}
use Rattle.hir_assoc_items.specs.AssocItems.{call_loc}
use Rattle.hir_assoc_items.proofs.Growth.{there_still}

-- no call gets a number
pub placed_still : (tables grown : TablesValue) → KeepsTables tables grown → grown.calls ≡ tables.calls → AreCallsPlaced tables → AreCallsPlaced grown
placed_still tables grown kept calls placed = record {
  calls = λ n loc e.
      let at = placed.calls n loc (ap (λ (cs : List MacroCallLoc). slice_get cs n) (sym calls) ∙ e) in
      record { source = there_still tables grown kept (node_tree (call_node loc.kind)) at.source; earlier = at.earlier };
}

-- what is found in a list with one value more is the last, or was there
found_behind : {A : Type 0} (xs : List A) (x : A) (n : ℕ) (y : A) → slice_get (xs ++ x ∷ []) n ≡ Some y → ((length xs ≡ n) × (x ≡ y))
    ⊎ (slice_get xs n ≡ Some y)
found_behind [] x zero y e = inl (refl, cc)
found_behind [] x (suc n) y e = absurd (let no : ⊥ = cc in no)
found_behind (z ∷ zs) x zero y e = inr e
found_behind (z ∷ zs) x (suc n) y e = elim (found_behind zs x n y e) [
  | inl p ↦ inl (ap suc p.0, p.1)
  | inr old ↦ inr old
]

no_call : (c : MacroCallId) (o : Option MacroCallLoc) (tables : TablesValue) → call_at tables c ≡ o
    → IsSome (option_map expansion (option_and_then (λ (l : MacroCallLoc). entry_at tables l.entry) o)) → c.0 < length tables.calls
no_call c None tables e there = absurd (let no : ⊥ = cc in no)
no_call c (Some loc) tables e there = get_inside tables.calls c.0 loc e

-- a source that a call expands to, where it has a number, is of a call that has one
within_calls : (tables : TablesValue) (node : AstId) (c : MacroCallId) → IsSome (source_of tables (node_tree node)) → node.file_id ≡ Macro c → node.block ≡ None
    → c.0 < length tables.calls
within_calls tables node c there file block =
    no_call c (call_at tables c) tables refl
    (subst (λ (o : Option SourcePlaceValue). IsSome o) (ap (λ (id : HirFileId). source_under_file tables id node.block) file ∙ ap
    (λ (b : Option BlockId). source_under_file tables (Macro c) b) block) there)

-- a call in a source that has a number gets one
pub placed_call : (second tables : TablesValue) (node : AstId) (entry : EntryId) → KeepsTables second tables → Interns second.calls tables.calls
    (call_loc node entry)
    → IsSome (source_of second (node_tree node)) → AreCallsPlaced second → AreCallsPlaced tables
placed_call second tables node entry after interns known placed = record { calls = go interns }
  where
    here : (n : ℕ) → length second.calls ≡ n → IsPlacedBelow tables n node
    here n last = record {
      source = there_still second tables after (node_tree node) known;
      earlier = λ c file block. subst (λ (k : ℕ). c.0 < k) last (within_calls second node c known file block);
    }

    earlier : (n : ℕ) (loc : MacroCallLoc) → slice_get second.calls n ≡ Some loc → IsPlacedBelow tables n (call_node loc.kind)
    earlier n loc e =
        let at = placed.calls n loc e in record { source = there_still second tables after (node_tree (call_node loc.kind)) at.source; earlier = at.earlier }

    go : Interns second.calls tables.calls (call_loc node entry) → (n : ℕ) (loc : MacroCallLoc) → slice_get tables.calls n ≡ Some loc
        → IsPlacedBelow tables n (call_node loc.kind)
    go (had_number known same) n loc e = earlier n loc (ap (λ (ls : List MacroCallLoc). slice_get ls n) (sym same) ∙ e)
    go (gets_next fresh same) n loc e =
        elim (found_behind second.calls (call_loc node entry) n loc (ap (λ (ls : List MacroCallLoc). slice_get ls n) (sym same) ∙ e)) [
          | inl p ↦ subst (λ (l : MacroCallLoc). IsPlacedBelow tables n (call_node l.kind)) p.1 (here n p.0)
          | inr old ↦ earlier n loc old
        ]
