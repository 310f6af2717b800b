-- What is kept of the other sources stays; of this one it is what the file then has.
use Rattle.std.proofs.Common.{◌≡◌, ◌∙◌, ap, sym, subst, List, ℕ, Some}
use Rattle.hir_session_state.specs.HirItemTree.Source.{source_view}
use Rattle.hir_session_state.specs.HirTables.SourcePlaces.{file}
use Rattle.hir_session_state.specs.Inputs.{InputsValue}
use Rattle.hir_session_state.specs.SourceEdits.{edited, of_file}
use Rattle.hir_session_state.specs.SourceTable.{workspace_in}
use Rattle.hir_session_sources.specs.SourceTrees.{AreTreesOf}
use Rattle.hir_session_invalidation.proofs.Current.{current_over, replaced_current}
use Rattle.hir_session_invalidation.proofs.inputs.Inputs.set_file.Goals as goal

pub invariant_of-self-2 : goal.invariant_of-self-2
invariant_of-self-2 c =
    let becomes : c.set_file.new.self ≡ edited c.self.inside.sources (of_file c.in_ok-at.at (Some (source_view c.args.source))) =
    c.in_ok-set_file.ensures.ok ∙ ap (λ (p : List ℕ). edited c.self.inside.sources (of_file p (Some (source_view c.args.source))))
    (sym c.in_ok-at.ensures.value) in
    current_over _ _ c.replace.new.self (ap (workspace_in c.self.inside.crates) (sym becomes))
    (replaced_current c.self.inside.crates c.self.inside.sources (of_file c.in_ok-at.at (Some (source_view c.args.source))) c.self.inside.trees
    c.replace.new.self c.args.trees c.self.invariant
    (subst (λ (p : List ℕ). AreTreesOf c.self.inside.crates (file p) (Some (source_view c.args.source)) c.args.trees) (sym c.in_ok-at.ensures.value)
    (subst (λ (i : InputsValue). AreTreesOf i.crates (file c.args.path) (Some (source_view c.args.source)) c.args.trees) (sym c.self.view_is) c.requires.trees))
    c.replace.ensures.here c.replace.ensures.others)
