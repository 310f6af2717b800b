-- A call and what it depends on get numbers, and its expansion is looked up.
use Rattle.std.proofs.Common.{◌≡◌, ◌∙◌, Some, ap, subst, sym, inl, inr}
use Rattle.hir_collector_rules.specs.HirBase.declared.tree_id.TreeId.{TreeId}
use Rattle.hir_collector_rules.specs.HirTables.Interning.{IsFull}
use Rattle.hir_collector_rules.specs.HirTables.SourcePlaces.{expansion_value}
use Rattle.hir_collector_rules.specs.HirTables.Tables.{TablesValue, entry_at}
use Rattle.hir_collector_rules.proofs.HirTables.Growth.{KeepsTables-trans}
use Rattle.hir_collector_rules.specs.Calls.{AreCallsPlaced, error_of}
use Rattle.hir_collector_rules.specs.Keys.{source_in}
use Rattle.hir_assoc_items.specs.AssocItems.{call_loc}
use Rattle.hir_assoc_items.proofs.Expanding.{others_both, others_first, refused_full, refused_known}
use Rattle.hir_assoc_items.proofs.Placed.{placed_call, placed_still}
use Rattle.hir_assoc_items.proofs.Growth.{there_still}
use Rattle.hir_assoc_items.proofs.expansions.look_up.Goals as goal

pub returns-in_err-id-clause-placed : goal.returns-in_err-id-clause-placed
returns-in_err-id-clause-placed g c =
    subst (λ (t : TablesValue). AreCallsPlaced c.args.locations.now → AreCallsPlaced t) (sym c.in_err-id.ensures.err)
    (placed_still c.args.locations.now c.intern_entry.new.self c.intern_entry.ensures.kept (ap (λ (t : TablesValue). t.calls) c.intern_entry.ensures.others))

pub returns-in_err-id-clause-others : goal.returns-in_err-id-clause-others
returns-in_err-id-clause-others g c =
    subst (λ (t : TablesValue). t ≡ record c.args.locations.now { entries = t.entries; calls = t.calls }) (sym c.in_err-id.ensures.err)
    (others_first c.args.locations.now c.intern_entry.new.self c.intern_entry.ensures.others)

pub returns-in_err-source-clause-kept : goal.returns-in_err-source-clause-kept
returns-in_err-source-clause-kept g c =
    KeepsTables-trans c.args.locations.now c.intern_entry.new.self c.intern_call.new.self c.intern_entry.ensures.kept c.intern_call.ensures.kept

pub returns-in_err-source-clause-others : goal.returns-in_err-source-clause-others
returns-in_err-source-clause-others g c =
    others_both c.args.locations.now c.intern_entry.new.self c.intern_call.new.self c.intern_entry.ensures.others c.intern_call.ensures.others

pub returns-in_err-source-clause-placed : goal.returns-in_err-source-clause-placed
returns-in_err-source-clause-placed g c = λ placed.
    placed_call c.intern_entry.new.self c.intern_call.new.self c.args.node c.in_ok-entry.entry c.intern_call.ensures.kept c.in_ok-id.ensures.grown
    (there_still c.args.locations.now c.intern_entry.new.self c.intern_entry.ensures.kept _ c.requires.meant)
    (placed_still c.args.locations.now c.intern_entry.new.self c.intern_entry.ensures.kept (ap (λ (t : TablesValue). t.calls) c.intern_entry.ensures.others)
    placed)

pub returns-clause-kept : goal.returns-clause-kept
returns-clause-kept g c =
    KeepsTables-trans c.args.locations.now c.intern_entry.new.self c.intern_call.new.self c.intern_entry.ensures.kept c.intern_call.ensures.kept

pub returns-clause-others : goal.returns-clause-others
returns-clause-others g c =
    others_both c.args.locations.now c.intern_entry.new.self c.intern_call.new.self c.intern_entry.ensures.others c.intern_call.ensures.others

pub returns-clause-placed : goal.returns-clause-placed
returns-clause-placed g c = λ placed.
    placed_call c.intern_entry.new.self c.intern_call.new.self c.args.node c.in_ok-entry.entry c.intern_call.ensures.kept c.in_ok-id.ensures.grown
    (there_still c.args.locations.now c.intern_entry.new.self c.intern_entry.ensures.kept _ c.requires.meant)
    (placed_still c.args.locations.now c.intern_entry.new.self c.intern_entry.ensures.kept (ap (λ (t : TablesValue). t.calls) c.intern_entry.ensures.others)
    placed)

pub returns-clause-ok : goal.returns-clause-ok
returns-clause-ok g c =
    let w = g.D.SourceDatabase.workspace c.args.db.now in (
      c.in_ok-entry.entry,
      c.intern_call.ensures.kept.entries c.in_ok-entry.entry.0 (expansion_value c.args.key) c.in_ok-entry.ensures.found,
      c.in_ok-id.ensures.found,
      c.in_ok-error.ensures.value ∙ ap error_of c.expansion.ensures.value,
      c.in_ok-source.ensures.value ∙ ap (λ (t : TreeId). source_in c.intern_call.new.self w (record { krate = c.args.krate; id = t })) c.call_tree.ensures.value,
    )

-- ---- no number is left

pub returns-in_err-entry-clause-unknown : goal.returns-in_err-entry-clause-unknown
returns-in_err-entry-clause-unknown g c = λ h. refused_known _ _ c.from_residual-in_err-entry.ensures.1 h

pub returns-in_err-id-clause-unknown : goal.returns-in_err-id-clause-unknown
returns-in_err-id-clause-unknown g c = λ h. refused_known _ _ c.from_residual-in_err-id.ensures.1 h

pub returns-in_err-entry-clause-many : goal.returns-in_err-entry-clause-many
returns-in_err-entry-clause-many g c = λ h.
    let full : IsFull c.args.locations.now.entries (expansion_value c.args.key) =
    c.intern_entry.ensures.too_many.0 (refused_full _ _ _ c.in_err-entry.was c.from_residual-in_err-entry.ensures.1 h) in
    inl (subst (λ (t : TablesValue). IsFull t.entries (expansion_value c.args.key)) (sym c.in_err-entry.ensures.err) full)

pub returns-in_err-id-clause-many : goal.returns-in_err-id-clause-many
returns-in_err-id-clause-many g c = λ h.
    let full : IsFull c.intern_entry.new.self.calls (call_loc c.args.node c.in_ok-entry.entry) = c.intern_call.ensures.too_many.0
    (refused_full _ _ _ c.in_err-id.was c.from_residual-in_err-id.ensures.1 h) in
    inr (
      c.in_ok-entry.entry,
      subst (λ (t : TablesValue). entry_at t c.in_ok-entry.entry ≡ Some (expansion_value c.args.key)) (sym c.in_err-id.ensures.err) c.in_ok-entry.ensures.found,
      subst (λ (t : TablesValue). IsFull t.calls (call_loc c.args.node c.in_ok-entry.entry)) (sym c.in_err-id.ensures.err) full,
    )
