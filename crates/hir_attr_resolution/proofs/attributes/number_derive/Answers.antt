-- The expansion gets a number, and then the call.
use Rattle.std.proofs.Common.{◌≡◌, ◌∙◌, Some, ap, subst, sym}
use Rattle.hir_collector_state.specs.HirIds.declared.ids.MapId.{MapId}
use Rattle.hir_collector_state.specs.HirBase.declared.macro_kind.MacroCallKind.TheVariants.{Attr}
use Rattle.hir_collector_state.specs.HirTables.Interning.{IsFull}
use Rattle.hir_collector_state.specs.HirTables.SourcePlaces.{ExpansionValue, expansion_value}
use Rattle.hir_collector_state.specs.HirTables.Tables.{TablesValue}
use Rattle.hir_collector_state.proofs.HirTables.Growth.{KeepsTables-trans}
use Rattle.hir_collector_state.specs.HirDefMapRules.State.{Map}
use Rattle.hir_collector_state.specs.HirCollectorRules.Calls.{AreCallsPlaced, derive_expansion, derive_loc}
use Rattle.hir_collector_state.specs.HirCollectorRules.NumberedOut.{IsCallNumberedOut, IsDeriveNumberedOut, call_out, expansion_out}
use Rattle.hir_collector_state.specs.HirCollectorRules.State.{core_in}
use Rattle.hir_collector_state.proofs.HirCollectorRules.Numbers.{full_out, refused_full}
use Rattle.hir_collector_state.proofs.HirCollectorStart.CallPlaces.{placed_grown, placed_loc}
use Rattle.hir_attr_resolution.proofs.attributes.number_derive.Goals as goal

pub returns-in_err-id-clause-placed : goal.returns-in_err-id-clause-placed
returns-in_err-id-clause-placed c =
    subst (λ (t : TablesValue). AreCallsPlaced c.args.locations.now → AreCallsPlaced t) (sym c.in_err-id.ensures.err)
    (placed_grown c.args.locations.now c.intern_entry.new.self c.intern_entry.ensures.kept (ap (λ (t : TablesValue). t.calls) c.intern_entry.ensures.others))

pub returns-clause-kept : goal.returns-clause-kept
returns-clause-kept c =
    KeepsTables-trans c.args.locations.now c.intern_entry.new.self c.intern_call.new.self c.intern_entry.ensures.kept c.intern_call.ensures.kept

pub returns-clause-placed : goal.returns-clause-placed
returns-clause-placed c =
    placed_loc c.args.locations.now c.intern_entry.new.self c.intern_call.new.self (derive_loc c.args.node c.args.attr c.in_ok-entry.entry)
    c.intern_entry.ensures.kept c.intern_call.ensures.kept
    c.intern_entry.ensures.others c.in_ok-id.ensures.grown c.requires.meant

pub returns-clause-ok : goal.returns-clause-ok
returns-clause-ok c =
    let own : c.id.result ≡ (core_in c.args.run.now).map.id = c.id.ensures.value ∙ ap (λ (m : Map). m.id) c.map.ensures.value in
    let is : expansion_value c.in_ok-key.key ≡ derive_expansion (core_in c.args.run.now).map.id.krate c.args.attr =
    c.in_ok-key.ensures.value ∙ ap (λ (i : MapId). derive_expansion i.krate c.args.attr) own in
    record {
      entry = c.in_ok-entry.entry;
      expansion =
          c.intern_call.ensures.kept.entries c.in_ok-entry.entry.0 _ (c.in_ok-entry.ensures.found ∙ ap (λ (k : ExpansionValue). Some k) is);
      call = c.in_ok-id.ensures.found;
    }

-- ---- no number is left

pub returns-in_err-entry-clause-many : goal.returns-in_err-entry-clause-many
returns-in_err-entry-clause-many c = λ h.
    let tables = c.args.locations.now in
    let own : c.id.result ≡ (core_in c.args.run.now).map.id = c.id.ensures.value ∙ ap (λ (m : Map). m.id) c.map.ensures.value in
    let key : ExpansionValue = expansion_value c.in_ok-key.key in
    let is : key ≡ derive_expansion (core_in c.args.run.now).map.id.krate c.args.attr =
    c.in_ok-key.ensures.value ∙ ap (λ (i : MapId). derive_expansion i.krate c.args.attr) own in
    let full : IsFull tables.entries key = c.intern_entry.ensures.too_many.0 (refused_full _ _ _ c.in_err-entry.was c.from_residual-in_err-entry.ensures.1 h) in
    subst (λ (t : TablesValue). IsDeriveNumberedOut t (core_in c.args.run.now).map.id.krate c.args.node c.args.attr) (sym c.in_err-entry.ensures.err)
    (subst (λ (k : ExpansionValue). IsCallNumberedOut tables (Attr c.args.node c.args.attr) k) is (expansion_out (full_out tables.entries key full)))

pub returns-in_err-id-clause-many : goal.returns-in_err-id-clause-many
returns-in_err-id-clause-many c = λ h.
    let middle = c.intern_entry.new.self in
    let own : c.id.result ≡ (core_in c.args.run.now).map.id = c.id.ensures.value ∙ ap (λ (m : Map). m.id) c.map.ensures.value in
    let key : ExpansionValue = expansion_value c.in_ok-key.key in
    let is : key ≡ derive_expansion (core_in c.args.run.now).map.id.krate c.args.attr =
    c.in_ok-key.ensures.value ∙ ap (λ (i : MapId). derive_expansion i.krate c.args.attr) own in
    let loc = derive_loc c.args.node c.args.attr c.in_ok-entry.entry in
    let full : IsFull middle.calls loc = c.intern_call.ensures.too_many.0 (refused_full _ _ _ c.in_err-id.was c.from_residual-in_err-id.ensures.1 h) in
    subst (λ (t : TablesValue). IsDeriveNumberedOut t (core_in c.args.run.now).map.id.krate c.args.node c.args.attr) (sym c.in_err-id.ensures.err)
    (subst (λ (k : ExpansionValue). IsCallNumberedOut middle (Attr c.args.node c.args.attr) k) is
    (call_out c.in_ok-entry.entry c.in_ok-entry.ensures.found (full_out middle.calls loc full)))
