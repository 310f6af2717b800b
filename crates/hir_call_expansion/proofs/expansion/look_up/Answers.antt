-- An expansion and its call get numbers, and the expansion is asked for.
use Rattle.std.proofs.Common.{◌≡◌, ◌∙◌, Some, ap, subst, sym}
use Rattle.hir_collector_state.specs.HirBase.declared.macro_kind.MacroCallKind.{MacroCallKind}
use Rattle.hir_collector_state.specs.HirIds.declared.ids.MapId.{MapId}
use Rattle.hir_collector_state.specs.HirTables.Interning.{Interns, IsFull}
use Rattle.hir_collector_state.specs.HirTables.SourcePlaces.{ExpansionValue, expansion_value}
use Rattle.hir_collector_state.specs.HirTables.Tables.{TablesValue}
use Rattle.hir_collector_state.proofs.HirTables.Growth.{KeepsTables-trans}
use Rattle.hir_collector_state.specs.HirDefMapRules.State.{Map}
use Rattle.hir_collector_state.specs.HirCollectorRules.declared.source_database.Key.TheVariants as keys
use Rattle.hir_collector_state.specs.HirCollectorRules.Calls.{AreCallsPlaced, call_key, call_kind, call_loc, error_of}
use Rattle.hir_collector_state.specs.HirCollectorRules.Keys.{source_in}
use Rattle.hir_collector_state.specs.HirCollectorRules.Moves.{OnceGrown}
use Rattle.hir_collector_state.specs.HirCollectorRules.NumberedOut.{IsCallNumberedOut}
use Rattle.hir_collector_state.specs.HirCollectorRules.State.{Core, core_in, with_asked}
use Rattle.hir_collector_state.proofs.HirCollectorStart.CallPlaces.{placed_grown}
use Rattle.hir_collector_state.proofs.HirCollectorRules.Numbers.{refused_full}
use Rattle.hir_call_expansion.proofs.Looking.{call_numbered_out, entry_numbered_out, placed_call}
use Rattle.hir_collector_state.proofs.Noted.{noted_follow}
use Rattle.hir_call_expansion.proofs.expansion.look_up.Goals as goal

pub returns-in_err-id-clause-placed : goal.returns-in_err-id-clause-placed
returns-in_err-id-clause-placed g c =
    subst (λ (t : TablesValue). AreCallsPlaced c.args.locations.now → AreCallsPlaced t) (sym c.in_err-id.ensures.err)
    (placed_grown c.args.locations.now c.intern_entry.new.self c.intern_entry.ensures.kept (ap (λ (t : TablesValue). t.calls) c.intern_entry.ensures.others))

pub returns-in_err-source-clause-kept : goal.returns-in_err-source-clause-kept
returns-in_err-source-clause-kept g c =
    KeepsTables-trans c.args.locations.now c.intern_entry.new.self c.intern_call.new.self c.intern_entry.ensures.kept c.intern_call.ensures.kept

pub returns-in_err-source-clause-placed : goal.returns-in_err-source-clause-placed
returns-in_err-source-clause-placed g c =
    placed_call c.args.locations.now c.intern_entry.new.self c.intern_call.new.self c.args.call.now c.in_ok-entry.entry c.intern_entry.ensures.kept
    c.intern_call.ensures.kept c.intern_entry.ensures.others
    (subst (λ (k : MacroCallKind). Interns c.intern_entry.new.self.calls c.intern_call.new.self.calls (record { kind = k; entry = c.in_ok-entry.entry }))
    c.call_kind.ensures.value c.in_ok-id.ensures.grown) c.requires.meant.node

pub returns-in_err-ask-clause-kept : goal.returns-in_err-ask-clause-kept
returns-in_err-ask-clause-kept g c =
    KeepsTables-trans c.args.locations.now c.intern_entry.new.self c.intern_call.new.self c.intern_entry.ensures.kept c.intern_call.ensures.kept

pub returns-in_err-ask-clause-placed : goal.returns-in_err-ask-clause-placed
returns-in_err-ask-clause-placed g c =
    placed_call c.args.locations.now c.intern_entry.new.self c.intern_call.new.self c.args.call.now c.in_ok-entry.entry c.intern_entry.ensures.kept
    c.intern_call.ensures.kept c.intern_entry.ensures.others
    (subst (λ (k : MacroCallKind). Interns c.intern_entry.new.self.calls c.intern_call.new.self.calls (record { kind = k; entry = c.in_ok-entry.entry }))
    c.call_kind.ensures.value c.in_ok-id.ensures.grown) c.requires.meant.node

pub returns-in_err-ask-2-clause-kept : goal.returns-in_err-ask-2-clause-kept
returns-in_err-ask-2-clause-kept g c =
    KeepsTables-trans c.args.locations.now c.intern_entry.new.self c.intern_call.new.self c.intern_entry.ensures.kept c.intern_call.ensures.kept

pub returns-in_err-ask-2-clause-placed : goal.returns-in_err-ask-2-clause-placed
returns-in_err-ask-2-clause-placed g c =
    placed_call c.args.locations.now c.intern_entry.new.self c.intern_call.new.self c.args.call.now c.in_ok-entry.entry c.intern_entry.ensures.kept
    c.intern_call.ensures.kept c.intern_entry.ensures.others
    (subst (λ (k : MacroCallKind). Interns c.intern_entry.new.self.calls c.intern_call.new.self.calls (record { kind = k; entry = c.in_ok-entry.entry }))
    c.call_kind.ensures.value c.in_ok-id.ensures.grown) c.requires.meant.node

pub returns-clause-kept : goal.returns-clause-kept
returns-clause-kept g c =
    KeepsTables-trans c.args.locations.now c.intern_entry.new.self c.intern_call.new.self c.intern_entry.ensures.kept c.intern_call.ensures.kept

pub returns-clause-placed : goal.returns-clause-placed
returns-clause-placed g c =
    placed_call c.args.locations.now c.intern_entry.new.self c.intern_call.new.self c.args.call.now c.in_ok-entry.entry c.intern_entry.ensures.kept
    c.intern_call.ensures.kept c.intern_entry.ensures.others
    (subst (λ (k : MacroCallKind). Interns c.intern_entry.new.self.calls c.intern_call.new.self.calls (record { kind = k; entry = c.in_ok-entry.entry }))
    c.call_kind.ensures.value c.in_ok-id.ensures.grown) c.requires.meant.node

pub returns-clause-ok : goal.returns-clause-ok
returns-clause-ok g c =
    let w = g.D.SourceDatabase.workspace c.args.db.now in
    let old : Core = core_in c.args.run.now in
    let id = c.in_ok-id.id in
    let own : c.id.result ≡ old.map.id = c.id.ensures.value ∙ ap (λ (m : Map). m.id) c.map.ensures.value in (
      c.in_ok-entry.entry,
      c.intern_call.ensures.kept.entries c.in_ok-entry.entry.0 (expansion_value c.args.key) c.in_ok-entry.ensures.found,
      c.in_ok-id.ensures.found ∙ ap (λ (k : MacroCallKind). Some (record { kind = k; entry = c.in_ok-entry.entry })) c.call_kind.ensures.value,
      c.in_ok-error.ensures.value ∙ ap error_of c.expansion.ensures.value,
      c.in_ok-source.ensures.value ∙ ap (λ (i : MapId). source_in c.intern_call.new.self w (call_key i.krate id)) own,
      c.in_ok-ask-2.ensures.ok ∙ ap (λ (i : MapId). with_asked (core_in c.ask.new.self) (keys.Tree (call_key i.krate id))) own
          ∙ ap (λ (e : Core). with_asked e (keys.Tree (call_key old.map.id.krate id))) c.in_ok-ask.ensures.ok,
    )

pub returns-clause-noted : goal.returns-clause-noted
returns-clause-noted g c = noted_follow c.in_ok-ask.ensures.noted c.in_ok-ask-2.ensures.noted

-- ---- the expansion, or the call, can't get a number

pub returns-in_err-entry-clause-many : goal.returns-in_err-entry-clause-many
returns-in_err-entry-clause-many g c = λ h.
    let w = g.D.SourceDatabase.workspace c.args.db.now in
    let call = c.args.call.now in
    let key : ExpansionValue = expansion_value c.args.key in
    let full : IsFull c.args.locations.now.entries key =
    c.intern_entry.ensures.too_many.0 (refused_full _ _ _ c.in_err-entry.was c.from_residual-in_err-entry.ensures.1 h) in
    subst (λ (t : TablesValue). OnceGrown t w (λ env. IsCallNumberedOut env.tables (call_kind call) key)) (sym c.in_err-entry.ensures.err)
    (entry_numbered_out c.args.locations.now w call key full)

pub returns-in_err-id-clause-many : goal.returns-in_err-id-clause-many
returns-in_err-id-clause-many g c = λ h.
    let w = g.D.SourceDatabase.workspace c.args.db.now in
    let call = c.args.call.now in
    let key : ExpansionValue = expansion_value c.args.key in
    let middle = c.intern_entry.new.self in
    let entry = c.in_ok-entry.entry in
    let full : IsFull middle.calls (call_loc call entry) =
    subst (λ (k : MacroCallKind). IsFull middle.calls (record { kind = k; entry = entry })) c.call_kind.ensures.value
    (c.intern_call.ensures.too_many.0 (refused_full _ _ _ c.in_err-id.was c.from_residual-in_err-id.ensures.1 h)) in
    subst (λ (t : TablesValue). OnceGrown t w (λ env. IsCallNumberedOut env.tables (call_kind call) key)) (sym c.in_err-id.ensures.err)
    (call_numbered_out middle w call key entry c.in_ok-entry.ensures.found full)
