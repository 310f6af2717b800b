-- Each module of what is kept is written in a file that has a number, or in what a call there expands to.
use Rattle.std.proofs.Common.{◌∙◌, ap, sym, subst, refl, Option}
use Rattle.std.specs.Option.{IsSome}
use Rattle.hir_session_state.specs.HirIds.declared.ast_id.EditionedFileId.{EditionedFileId}
use Rattle.hir_session_state.specs.SessionState.{SessionState, IsSound}
use Rattle.hir_session_state.specs.Standing.{definition_file}
use Rattle.hir_session_state.proofs.Truth.{one_value}
use Rattle.hir_session_state.specs.HirTables.Tables.{file_at}
use Rattle.hir_session_answers.proofs.Defined.{defined_there}
use Rattle.hir_session_core.proofs.session.Session.file_of.Goals as goal

pub unwrap-requires : goal.unwrap-requires
unwrap-requires c =
    let d = defined_there c.args.self.now (subst (λ (s : SessionState). IsSound s) c.self.view_is c.self.invariant.0) c.args.m c.requires.there.found
    c.requires.there.is c.requires.there.there in
    subst (λ (o : Option EditionedFileId). IsSome o)
    (sym (c.definition_file_at.ensures.value ∙ ap (λ (s : SessionState). definition_file s.tables s.kept c.args.m) c.self.view_is ∙ d.is)) refl

pub returns : goal.returns
returns c =
    let d = defined_there c.args.self.now (subst (λ (s : SessionState). IsSound s) c.self.view_is c.self.invariant.0) c.args.m c.requires.there.found
    c.requires.there.is c.requires.there.there in
    let is = sym (c.definition_file_at.ensures.value ∙ ap (λ (s : SessionState). definition_file s.tables s.kept c.args.m) c.self.view_is) ∙ c.unwrap.ensures in
    record {
      is = is;
      numbered = subst (λ (f : EditionedFileId). IsSome (file_at c.args.self.now.tables f.file_id)) (one_value (sym d.is ∙ is)) d.means;
    }
