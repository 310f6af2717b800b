-- It is taken only where all that it names comes before it.
use Rattle.std.proofs.Common.{◌∙◌, List, ap, map}
use Rattle.hir_session_state.specs.HirCollectorRules.declared.source_database.Dependency.{Dependency}
use Rattle.hir_session_sources.proofs.Transitive.{added_by}
use Rattle.hir_session_sources.proofs.crates.add_transitive.Goals as goal

pub returns-clause-added : goal.returns-clause-added
returns-clause-added c =
    let is = c.as_slice-2.ensures.value ∙ c.in_ok-named.ensures.value ∙ ap (λ (ds : List Dependency). map (λ (d : Dependency). d.krate) ds) c.as_slice.ensures.value in
    rw is at (added_by _ _ _ _ c.push.ensures.added c.push.ensures.transitive)
