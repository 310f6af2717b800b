-- Calls that have numbers stay where numbers lead, as tables grow.
use Rattle.std.proofs.Common.{◌≡◌, ◌∙◌, ◌⊎◌, ◌<◌, ◌++◌, ℕ, zero, suc, inl, inr, List, [], ◌∷◌, length, Option, Some, None, option_and_then, option_map}
use Rattle.std.proofs.Common.{slice_get, refl, sym, ap, subst}
use Rattle.std.specs.Prelude.{IsSome}
use Rattle.hir_collector_rules.specs.HirIds.declared.ast_id.AstId.{AstId}
use Rattle.hir_collector_rules.specs.HirIds.declared.ast_id.BlockId.{BlockId}
use Rattle.hir_collector_rules.specs.HirIds.declared.ast_id.HirFileId.{HirFileId}
use Rattle.hir_collector_rules.specs.HirIds.declared.ast_id.MacroCallId.{MacroCallId}
use Rattle.hir_collector_rules.specs.HirBase.declared.macro_kind.MacroCallLoc.{MacroCallLoc}
use Rattle.hir_collector_rules.specs.HirIds.declared.ast_id.HirFileId.TheVariants.{Macro}
use Rattle.hir_collector_rules.specs.HirTables.Interning.{Interns, gets_next, had_number}
use Rattle.hir_collector_rules.specs.HirTables.SourcePlaces.{SourcePlaceValue, expansion}
use Rattle.hir_collector_rules.specs.HirTables.Tables.{KeepsTables, TablesValue, call_at, entry_at, source_of, source_under as source_under_file}
use Rattle.hir_collector_rules.specs.HirDefMapRules.Diagnostics.{call_node}
use Rattle.hir_collector_rules.specs.Calls.{AreCallsPlaced, IsPlacedBelow}
use Rattle.hir_collector_rules.specs.Keys.{node_tree}
use Rattle.hir_collector_rules.proofs.Lists.{get_inside}
use Rattle.hir_collector_start.proofs.Rootless.{root_there}

pub placed_grown : (tables grown : TablesValue) → KeepsTables tables grown → grown.calls ≡ tables.calls → AreCallsPlaced tables → AreCallsPlaced grown
placed_grown tables grown kept calls placed = record {
  calls = λ n loc e.
      let at = placed.calls n loc (ap (λ (cs : List MacroCallLoc). slice_get cs n) (sym calls) ∙ e) in
      record { source = root_there tables grown (node_tree (call_node loc.kind)) kept at.source; earlier = at.earlier };
}

-- so where a file gets a number
pub placed_file : (tables grown : TablesValue) → KeepsTables tables grown → grown ≡ record tables { files = grown.files } → AreCallsPlaced tables
    → AreCallsPlaced grown
placed_file tables grown kept others placed = placed_grown tables grown kept (ap (λ (t : TablesValue). t.calls) others) placed

-- ---- a call that gets a number

-- what is found in a list with one value more is the last, or was there
found_behind : {A : Type 0} (xs : List A) (x : A) (n : ℕ) (y : A) → slice_get (xs ++ x ∷ []) n ≡ Some y → ((length xs ≡ n) × (x ≡ y))
    ⊎ (slice_get xs n ≡ Some y)
found_behind [] x zero y e = inl (refl, cc)
found_behind [] x (suc n) y e = absurd (let no : ⊥ = cc in no)
found_behind (z ∷ zs) x zero y e = inr e
found_behind (z ∷ zs) x (suc n) y e = elim (found_behind zs x n y e) [
  | inl p ↦ inl (ap suc p.0, p.1)
  | inr old ↦ inr old
]

no_call : (c : MacroCallId) (o : Option MacroCallLoc) (tables : TablesValue) → call_at tables c ≡ o
    → IsSome (option_map expansion (option_and_then (λ (l : MacroCallLoc). entry_at tables l.entry) o)) → c.0 < length tables.calls
no_call c None tables e there = absurd (let no : ⊥ = cc in no)
no_call c (Some loc) tables e there = get_inside tables.calls c.0 loc e

-- a source that a call expands to, where it has a number, is of a call that has one
within_calls : (tables : TablesValue) (node : AstId) (c : MacroCallId) → IsSome (source_of tables (node_tree node)) → node.file_id ≡ Macro c → node.block ≡ None
    → c.0 < length tables.calls
within_calls tables node c there file block =
    no_call c (call_at tables c) tables refl
    (subst (λ (o : Option SourcePlaceValue). IsSome o) (ap (λ (id : HirFileId). source_under_file tables id node.block) file ∙ ap
    (λ (b : Option BlockId). source_under_file tables (Macro c) b) block) there)

-- where an expansion gets a number, and then a call in a source that has one, each call is placed still
pub placed_loc : (first second tables : TablesValue) (loc : MacroCallLoc) → KeepsTables first second → KeepsTables second tables → second
    ≡ record first { entries = second.entries }
    → Interns second.calls tables.calls loc → IsSome (source_of first (node_tree (call_node loc.kind))) → AreCallsPlaced first → AreCallsPlaced tables
placed_loc first second tables loc before after entries interns there placed = record { calls = go interns }
  where
    middle : AreCallsPlaced second
    middle = placed_grown first second before (ap (λ (t : TablesValue). t.calls) entries) placed

    here : (n : ℕ) → length second.calls ≡ n → IsPlacedBelow tables n (call_node loc.kind)
    here n last =
        let known : IsSome (source_of second (node_tree (call_node loc.kind))) = root_there first second (node_tree (call_node loc.kind)) before there in
        record {
          source = root_there second tables (node_tree (call_node loc.kind)) after known;
          earlier = λ c file block. subst (λ (k : ℕ). c.0 < k) last (within_calls second (call_node loc.kind) c known file block);
        }

    earlier : (n : ℕ) (old : MacroCallLoc) → slice_get second.calls n ≡ Some old → IsPlacedBelow tables n (call_node old.kind)
    earlier n old e =
        let at = middle.calls n old e in record { source = root_there second tables (node_tree (call_node old.kind)) after at.source; earlier = at.earlier }

    go : Interns second.calls tables.calls loc → (n : ℕ) (found : MacroCallLoc) → slice_get tables.calls n ≡ Some found
        → IsPlacedBelow tables n (call_node found.kind)
    go (had_number known same) n found e = earlier n found (ap (λ (ls : List MacroCallLoc). slice_get ls n) (sym same) ∙ e)
    go (gets_next fresh same) n found e = elim (found_behind second.calls loc n found (ap (λ (ls : List MacroCallLoc). slice_get ls n) (sym same) ∙ e)) [
      | inl p ↦ subst (λ (l : MacroCallLoc). IsPlacedBelow tables n (call_node l.kind)) p.1 (here n p.0)
      | inr old ↦ earlier n found old
    ]
