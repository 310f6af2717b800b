-- Calls stay placed where a file gets a number.
use Rattle.std.proofs.Common.{◌∙◌, subst, sym}
use Rattle.hir_collector_state.specs.HirTables.Interning.{IsFull}
use Rattle.hir_collector_state.specs.HirTables.Tables.{TablesValue}
use Rattle.hir_collector_state.specs.HirCollectorRules.NumberedOut.{IsNumberedOut}
use Rattle.hir_collector_state.proofs.HirCollectorRules.Numbers.{full_out, refused_full}
use Rattle.hir_collector_state.proofs.HirCollectorStart.CallPlaces.{placed_file}
use Rattle.hir_collector_state.proofs.Noted.{noted_itself}
use Rattle.hir_mod_resolution.proofs.mod_resolution.look_at.Goals as goal

pub returns-in_err-source-clause-placed : goal.returns-in_err-source-clause-placed
returns-in_err-source-clause-placed g c = placed_file c.args.locations.now c.intern_file.new.self c.intern_file.ensures.kept c.intern_file.ensures.others

pub returns-in_err-ask-clause-placed : goal.returns-in_err-ask-clause-placed
returns-in_err-ask-clause-placed g c = placed_file c.args.locations.now c.intern_file.new.self c.intern_file.ensures.kept c.intern_file.ensures.others

pub returns-clause-placed : goal.returns-clause-placed
returns-clause-placed g c = placed_file c.args.locations.now c.intern_file.new.self c.intern_file.ensures.kept c.intern_file.ensures.others

pub returns-in_default-clause-noted : goal.returns-in_default-clause-noted
returns-in_default-clause-noted g c = noted_itself c.args.run.now

pub returns-in_err-id-clause-many : goal.returns-in_err-id-clause-many
returns-in_err-id-clause-many g c = λ h.
    let files = c.args.locations.now.files in
    let path = c.in-Some.path in
    let full : IsFull files path = c.intern_file.ensures.too_many.0 (refused_full _ _ _ c.in_err-id.was c.from_residual-in_err-id.ensures.1 h) in (
      path,
      sym c.in_ok-path.ensures.value ∙ c.in-Some.is,
      subst (λ (t : TablesValue). IsNumberedOut t.files path) (sym c.in_err-id.ensures.err) (full_out files path full),
    )
