-- What isn't refused names only crates that come before it, and the crate is handed in with what was made of it.
use Rattle.std.proofs.Common.{◌≡◌, List, Ok, subst, sym}
use Rattle.hir_session_state.specs.HirItemTree.Attributes.{attributes_view}
use Rattle.hir_session_state.specs.HirCollectorRules.Workspace.{config_view}
use Rattle.hir_session_state.specs.HirMessages.Edits.{CrateDataValue}
use Rattle.hir_session_state.specs.HirMessages.declared.command.Dependency.{Dependency}
use Rattle.hir_session_state.specs.Beginning.{IsConfigOf}
use Rattle.hir_session_state.specs.Refusals.{verdict_of_data}
use Rattle.hir_session_core.proofs.CrateEdits.{early_of, set_so}
use Rattle.hir_session_core.proofs.session.Session.set_crate.Goals as goal

pub keep_config-requires-clause-early : goal.keep_config-requires-clause-early
keep_config-requires-clause-early c =
    let attributes = attributes_view c.args.attrs.items in
    let given : CrateDataValue = record { edition = c.args.edition; attributes = attributes; options = c.args.cfg.items; deps = c.args.deps } in
    let made : IsConfigOf given (config_view c.in_ok-config.config) =
    subst (λ (ds : List Dependency). IsConfigOf (record { edition = c.args.edition; attributes = attributes; options = c.args.cfg.items; deps = ds })
    (config_view c.in_ok-config.config)) c.as_slice-2.ensures.value c.in_ok-config.ensures.config in
    let fits : verdict_of_data c.args.krate attributes c.args.deps ≡ Ok tt =
    sym (subst (λ (ds : List Dependency). Ok tt ≡ verdict_of_data c.args.krate attributes ds) c.as_slice.ensures.value c.in_ok-check_data.ensures.value) in
    early_of c.args.krate given (config_view c.in_ok-config.config) made fits

pub returns-clause-ok : goal.returns-clause-ok
returns-clause-ok c =
    let attributes = attributes_view c.args.attrs.items in
    let given : CrateDataValue = record { edition = c.args.edition; attributes = attributes; options = c.args.cfg.items; deps = c.args.deps } in
    let made : IsConfigOf given (config_view c.in_ok-config.config) =
    subst (λ (ds : List Dependency). IsConfigOf (record { edition = c.args.edition; attributes = attributes; options = c.args.cfg.items; deps = ds })
    (config_view c.in_ok-config.config)) c.as_slice-2.ensures.value c.in_ok-config.ensures.config in
    set_so c.args.self.now c.keep_config.new.self c.args.krate given (config_view c.in_ok-config.config) made c.in_ok-keep_config.ensures.ok
