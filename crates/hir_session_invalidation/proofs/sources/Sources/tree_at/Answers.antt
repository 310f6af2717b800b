-- What was made is what the source has; where no room is found for it, what is kept is as it was.
use Rattle.std.proofs.Common.{◌≡◌, ◌∙◌, ap, Option}
use Rattle.hir_session_state.specs.HirItemTree.Source.{SourceValue}
use Rattle.hir_session_state.specs.HirTables.SourcePlaces.{SourcePlaceValue, source_value}
use Rattle.hir_session_state.specs.HirCollectorRules.Workspace.{Workspace}
use Rattle.hir_session_state.specs.SourceTable.{tree_under, workspace_in}
use Rattle.hir_session_invalidation.proofs.Current.{same_current, set_current}
use Rattle.hir_session_state.proofs.Truth.{on_either}
use Rattle.hir_session_invalidation.proofs.sources.Sources.tree_at.Goals as goal

pub invariant_of-self-2 : goal.invariant_of-self-2
invariant_of-self-2 c =
    let w : Workspace = workspace_in c.args.self.now.crates.now c.args.self.now.table.now in
    let place : SourcePlaceValue = source_value c.args.place in
    let right : c.in_ok-clone-2.field-0.value ≡ w.tree c.args.krate place =
    c.in_ok-clone-2.ensures.cases ∙ c.in_ok-tree.ensures.value
    ∙ ap (λ (o : Option SourceValue). tree_under c.args.self.now.crates.now c.args.krate.0 place o) c.in_ok-source.ensures.value in
    record {
      current = on_either c.set.result c.set.ensures.ok c.set.ensures.err
          (λ becomes. set_current w c.args.self.now.trees c.set.new.self place c.args.krate c.in_ok-clone-2.field-0.value right c.args.self.now.current becomes)
          (λ same. same_current w c.args.self.now.trees c.set.new.self c.args.self.now.current same);
    }
