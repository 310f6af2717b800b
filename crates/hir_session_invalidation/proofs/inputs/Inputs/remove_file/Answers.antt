-- What is kept of the other sources stays; of this one it is what the file then has.
use Rattle.std.proofs.Common.{ap, sym, subst, None}
use Rattle.hir_session_state.specs.HirTables.SourcePlaces.{file}
use Rattle.hir_session_state.specs.Inputs.{InputsValue}
use Rattle.hir_session_state.specs.SourceEdits.{of_file}
use Rattle.hir_session_state.specs.SourceTable.{workspace_in}
use Rattle.hir_session_sources.specs.SourceTrees.{AreTreesOf}
use Rattle.hir_session_invalidation.proofs.Current.{current_over, replaced_current}
use Rattle.hir_session_invalidation.proofs.inputs.Inputs.remove_file.Goals as goal

pub invariant_of-self : goal.invariant_of-self
invariant_of-self c =
    current_over _ _ c.replace.new.self (ap (workspace_in c.self.inside.crates) (sym c.remove_file.ensures.value))
    (replaced_current c.self.inside.crates c.self.inside.sources (of_file c.args.path.now None) c.self.inside.trees c.replace.new.self c.args.trees
    c.self.invariant
    (subst (λ (i : InputsValue). AreTreesOf i.crates (file c.args.path.now) None c.args.trees) (sym c.self.view_is) c.requires.trees)
    c.replace.ensures.here c.replace.ensures.others)
