-- What is kept of a file is kept under a crate that lists it, and all else is stored under the crate.
use Rattle.std.proofs.Common.{◌≡◌, ◌++◌, ◌∙◌, ap, sym, List, map, subst, Contains}
use Rattle.hir_session_state.specs.HirTables.SourcePlaces.{SourcePlaceValue, block, expansion, expansion_value, file, source_value}
use Rattle.hir_session_sources.specs.ByCrate.{keys_under}
use Rattle.hir_session_sources.proofs.Lowering.{all_places, place_among}
use Rattle.hir_session_sources.proofs.source_trees.SourceTrees.places.Goals as goal

pub returns : goal.returns
returns c =
    let trees = c.args.self.now in
    let krate = c.args.krate in
    let files : List SourcePlaceValue = map file (keys_under trees.paths krate) in
    let blocks : List SourcePlaceValue = map block (keys_under trees.by_block krate) in
    let expansions : List SourcePlaceValue = map (λ key. expansion (expansion_value key)) (keys_under trees.by_key krate) in
    let are : map source_value c.add_expansions.new.places.items ≡ all_places trees krate =
    c.in_ok-add_expansions.ensures.ok
    ∙ ap (λ (ps : List SourcePlaceValue). ps ++ expansions)
    (c.in_ok-add_blocks.ensures.ok
    ∙ ap (λ (ps : List SourcePlaceValue). ps ++ blocks)
    (c.in_ok-add_files.ensures.ok ∙ ap (λ ps. map source_value ps ++ files) c.new-places.ensures.items)) in
    record { all = λ p there. subst (λ (ps : List SourcePlaceValue). Contains ps p) (sym are) (place_among trees krate p there) }
