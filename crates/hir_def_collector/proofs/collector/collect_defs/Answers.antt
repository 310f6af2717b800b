-- The walk's steps lead on to where imports and calls rest.
use Rattle.std.proofs.Common.{rules, ◌≡◌, ◌∙◌, false, List, None, option_map, ap, sym, subst}
use Rattle.std.specs.Prelude.{IsSome}
use Rattle.hir_mod_collector.specs.HirIds.declared.ids.Crate.{Crate}
use Rattle.hir_mod_collector.specs.HirTables.SourcePlaces.{source_value}
use Rattle.hir_mod_collector.specs.HirTables.Tables.{source_of}
use Rattle.hir_mod_collector.proofs.HirTables.Growth.{KeepsTables-trans}
use Rattle.hir_mod_collector.specs.HirNameres.WorldParts.{among, part_of}
use Rattle.hir_mod_collector.specs.HirDefMapRules.Overlay.{map_in}
use Rattle.hir_mod_collector.specs.HirMapParts.declared.diagnostics.DefDiagnostic.{DefDiagnostic}
use Rattle.hir_mod_collector.specs.HirNameres.World.{finished_in}
use Rattle.hir_mod_collector.specs.HirCollectorRules.CallMoves.{ComesToRest}
use Rattle.hir_mod_collector.specs.HirCollectorRules.Derivation.{IsSpent, collected_view, told_run}
use Rattle.hir_mod_collector.specs.HirCollectorRules.Keys.{environment}
use Rattle.hir_mod_collector.specs.HirCollectorRules.ModuleFiles.{file_of_tree, is_file_meant}
use Rattle.hir_mod_collector.specs.HirCollectorRules.Moves.{OnceGrown}
use Rattle.hir_mod_collector.specs.HirCollectorRules.Start.{beginning, holders_by, id_of, krate_of}
use Rattle.hir_mod_collector.specs.HirCollectorRules.State.{at_rest, core_in}
use Rattle.hir_mod_collector.specs.HirCollectorRules.Steps.{Steps, none}
use Rattle.hir_mod_collector.specs.HirCollectorRules.UnknownSources.{LeadsToUnknownSource, of_file, of_macro}
use Rattle.hir_mod_collector.specs.HirCollectorRules.Workspace.{Workspace, transitive_dependencies_in}
use Rattle.hir_mod_collector.specs.HirCollectorImports.Outside.{begins_outside}
use Rattle.hir_collector_begin.proofs.Begun.{none_there, some_there}
use Rattle.hir_mod_collector.proofs.HirCollectorRules.Changes.{id-Steps}
use Rattle.hir_mod_collector.proofs.HirCollectorRules.Derived.{begun, depends_on, ends_from}
use Rattle.hir_mod_collector.proofs.HirCollectorRules.Moves.{spent_after, unknown_after}
use Rattle.hir_mod_collector.proofs.HirCollectorRules.Numbers.{known_step, refused_step, tables_stay}
use Rattle.hir_def_collector.proofs.Resolved.{apart, lacking, meant_by, no_map, none_and, not_lacking, unmeant_by}
use Rattle.hir_def_collector.proofs.collector.collect_defs.Goals as goal

pub returns-in_err-run-clause-many : goal.returns-in_err-run-clause-many
returns-in_err-run-clause-many g c = λ h.
    let tables = c.begin.new.locations in
    let w = g.D.SourceDatabase.workspace c.args.db.now in
    let all = finished_in c.args.world.now.maps in
    let from = beginning c.args.start c.args.tree (option_map (λ l. l.now) c.args._local) in
    let depends : c.in_ok-transitive.transitive.value ≡ transitive_dependencies_in w (krate_of c.args.start) =
    c.in_ok-transitive.ensures.value ∙ depends_on w c.krate.result _ c.transitive_dependencies.ensures.value ∙ ap (transitive_dependencies_in w)
    c.krate.ensures.value in
    let holders = c.as_slice-holders.result.now in
    let reads : part_of c.among-part.result ≡ among c.in_ok-transitive.transitive.value holders all =
    c.among-part.ensures.value ∙ ap (λ (crates : List Crate). among crates holders all) c.deref.ensures in
    let held : holders ≡ holders_by all c.args.start = c.as_slice-holders.ensures.value ∙ c.in_ok-held_by.ensures.value in
    begun tables w all from (part_of c.among-part.result) c.in_ok-transitive.transitive.value holders reads depends held
    (λ maps s. IsSpent (environment tables w) maps s)
    (c.in_err-run.ensures.many (sym c.in_err-run.was ∙ refused_step _ _ _ c.in_err-run.was c.from_residual-in_err-run.ensures.1 h))

-- the walk meets no unknown source
pub returns-in_err-run-clause-unknown : goal.returns-in_err-run-clause-unknown
returns-in_err-run-clause-unknown g c = λ h. absurd (known_step _ _ c.from_residual-in_err-run.ensures.1 h)

-- ---- no number leads to the tree: nothing is written in it

pub returns-then-is_unknown-clause-ends : goal.returns-then-is_unknown-clause-ends
returns-then-is_unknown-clause-ends g c = λ v finished agrees.
    let tables = c.begin.new.locations in
    let w = g.D.SourceDatabase.workspace c.args.db.now in
    let all = finished_in c.args.world.now.maps in
    let from = beginning c.args.start c.args.tree (option_map (λ l. l.now) c.args._local) in
    let depends : c.in_ok-transitive.transitive.value ≡ transitive_dependencies_in w (krate_of c.args.start) =
    c.in_ok-transitive.ensures.value ∙ depends_on w c.krate.result _ c.transitive_dependencies.ensures.value ∙ ap (transitive_dependencies_in w)
    c.krate.ensures.value in
    let holders = c.as_slice-holders.result.now in
    let reads : part_of c.among-part.result ≡ among c.in_ok-transitive.transitive.value holders all =
    c.among-part.ensures.value ∙ ap (λ (crates : List Crate). among crates holders all) c.deref.ensures in
    let held : holders ≡ holders_by all c.args.start = c.as_slice-holders.ensures.value ∙ c.in_ok-held_by.ensures.value in
    let gone : source_of c.args.locations.now c.args.tree ≡ None =
    none_there source_value c.source_of.result (source_of c.args.locations.now c.args.tree) c.is_none-is_unknown.result c.source_of.ensures.value
    c.is_none-is_unknown.ensures c.if-is_unknown.true in
    let run = core_in c.in_ok-run.run' in
    ends_from tables w all from (part_of c.among-part.result) c.in_ok-transitive.transitive.value holders reads depends held run run false
    (collected_view c.in_ok-finish.field-0)
    c.in_ok-run.ensures.ok none (c.in_ok-run.ensures.idle gone (environment tables w))
    (c.in_ok-finish.ensures.value
    ∙ ap (λ (told : List DefDiagnostic). told_run run told false c.in_ok-transitive.transitive.value) c.in_ok-told.ensures.value)
    v finished agrees

-- ---- rounds follow the walk

-- the run's own map isn't finished, and paths begin outside of it
pub resolve_rounds-requires-clause-apart : goal.resolve_rounds-requires-clause-apart
resolve_rounds-requires-clause-apart g c = λ yes.
    let all = finished_in c.args.world.now.maps in
    let run = core_in c.in_ok-run.run' in
    let holders = c.as_slice-holders.result.now in
    let reads : part_of c.among-part.result ≡ among c.in_ok-transitive.transitive.value holders all =
    c.among-part.ensures.value ∙ ap (λ (crates : List Crate). among crates holders all) c.deref.ensures in
    let own : run.map.id ≡ id_of c.args.start = id-Steps c.in_ok-run.ensures.ok in
    let tested = none_and (map_in all (id_of c.args.start)) (begins_outside run.map.id run.local) (sym c.is_apart-apart.ensures.value ∙ yes) in
    apart c.args.world.now.maps c.in_ok-transitive.transitive.value holders (part_of c.among-part.result) run.map.id run.local c.args.world.now.checked reads
    (ap all own ∙ no_map (all (id_of c.args.start)) tested.0) tested.1

pub returns-then-lacks_its_file-clause-kept : goal.returns-then-lacks_its_file-clause-kept
returns-then-lacks_its_file-clause-kept g c = tables_stay c.args.locations.now

-- the file in which a block is written has none
pub returns-then-lacks_its_file-clause-unknown : goal.returns-then-lacks_its_file-clause-unknown
returns-then-lacks_its_file-clause-unknown g c = λ h.
    let tables = c.args.locations.now in
    let file = file_of_tree c.args.tree in
    let lacks = lacking (source_of tables c.args.tree) (is_file_meant tables file) (sym c.lacks_its_file.ensures.value ∙ c.if-lacks_its_file.true) in
    of_file lacks.0 (unmeant_by tables file lacks.1)

-- or it has one
pub begin-requires : goal.begin-requires
begin-requires g c = record {
  file = λ there.
      let tables = c.args.locations.now in
      let file = file_of_tree c.args.tree in
      meant_by tables file
      (not_lacking (source_of tables c.args.tree) (is_file_meant tables file) (sym c.lacks_its_file.ensures.value ∙ c.if-lacks_its_file.false) there);
}

pub returns-in_err-run-2-clause-kept : goal.returns-in_err-run-2-clause-kept
returns-in_err-run-2-clause-kept g c =
    KeepsTables-trans c.args.locations.now c.begin.new.locations c.resolve_rounds.new.locations c.in_ok-run.ensures.kept c.in_err-run-2.ensures.kept

pub returns-in_err-run-2-clause-many : goal.returns-in_err-run-2-clause-many
returns-in_err-run-2-clause-many g c = λ h.
    let later = c.resolve_rounds.new.locations in
    let w = g.D.SourceDatabase.workspace c.args.db.now in
    let all = finished_in c.args.world.now.maps in
    let from = beginning c.args.start c.args.tree (option_map (λ l. l.now) c.args._local) in
    let part = part_of c.among-part.result in
    let run = core_in c.in_ok-run.run' in
    let depends : c.in_ok-transitive.transitive.value ≡ transitive_dependencies_in w (krate_of c.args.start) =
    c.in_ok-transitive.ensures.value ∙ depends_on w c.krate.result _ c.transitive_dependencies.ensures.value ∙ ap (transitive_dependencies_in w)
    c.krate.ensures.value in
    let holders = c.as_slice-holders.result.now in
    let reads : part ≡ among c.in_ok-transitive.transitive.value holders all =
    c.among-part.ensures.value ∙ ap (λ (crates : List Crate). among crates holders all) c.deref.ensures in
    let held : holders ≡ holders_by all c.args.start = c.as_slice-holders.ensures.value ∙ c.in_ok-held_by.ensures.value in
    let there : IsSome (source_of c.args.locations.now c.args.tree) =
    some_there source_value c.source_of.result (source_of c.args.locations.now c.args.tree) c.is_none-is_unknown.result c.source_of.ensures.value
    c.is_none-is_unknown.ensures c.if-is_unknown.false in
    let far : OnceGrown later w (λ env. IsSpent env part (at_rest run)) =
    subst (λ (v : Workspace). OnceGrown later v (λ env. IsSpent env part (at_rest run))) c.in_ok-run.ensures.same (c.in_err-run-2.ensures.many (search rules))
    in
    begun later w all from part c.in_ok-transitive.transitive.value holders reads depends held
    (λ maps s. IsSpent (environment later w) maps s)
    (spent_after (c.in_ok-run.ensures.grown there later c.in_err-run-2.ensures.kept) (far later (tables_stay later)))

pub returns-in_err-run-2-clause-unknown : goal.returns-in_err-run-2-clause-unknown
returns-in_err-run-2-clause-unknown g c = λ h.
    let later = c.resolve_rounds.new.locations in
    let w = g.D.SourceDatabase.workspace c.args.db.now in
    let all = finished_in c.args.world.now.maps in
    let from = beginning c.args.start c.args.tree (option_map (λ l. l.now) c.args._local) in
    let part = part_of c.among-part.result in
    let run = core_in c.in_ok-run.run' in
    let depends : c.in_ok-transitive.transitive.value ≡ transitive_dependencies_in w (krate_of c.args.start) =
    c.in_ok-transitive.ensures.value ∙ depends_on w c.krate.result _ c.transitive_dependencies.ensures.value ∙ ap (transitive_dependencies_in w)
    c.krate.ensures.value in
    let holders = c.as_slice-holders.result.now in
    let reads : part ≡ among c.in_ok-transitive.transitive.value holders all =
    c.among-part.ensures.value ∙ ap (λ (crates : List Crate). among crates holders all) c.deref.ensures in
    let held : holders ≡ holders_by all c.args.start = c.as_slice-holders.ensures.value ∙ c.in_ok-held_by.ensures.value in
    let there : IsSome (source_of c.args.locations.now c.args.tree) =
    some_there source_value c.source_of.result (source_of c.args.locations.now c.args.tree) c.is_none-is_unknown.result c.source_of.ensures.value
    c.is_none-is_unknown.ensures c.if-is_unknown.false in
    let leads : LeadsToUnknownSource (environment later w) part (at_rest run) =
    subst (λ (v : Workspace). LeadsToUnknownSource (environment later v) part (at_rest run)) c.in_ok-run.ensures.same
    (c.in_err-run-2.ensures.unknown (search rules)) in
    of_macro (begun later w all from part c.in_ok-transitive.transitive.value holders reads depends held
    (λ maps s. LeadsToUnknownSource (environment later w) maps s)
    (unknown_after (c.in_ok-run.ensures.grown there later c.in_err-run-2.ensures.kept) leads))

pub returns-in_err-told-2-clause-kept : goal.returns-in_err-told-2-clause-kept
returns-in_err-told-2-clause-kept g c =
    KeepsTables-trans c.args.locations.now c.begin.new.locations c.resolve_rounds.new.locations c.in_ok-run.ensures.kept c.in_ok-run-2.ensures.kept

pub returns-in_err-finish-2-clause-kept : goal.returns-in_err-finish-2-clause-kept
returns-in_err-finish-2-clause-kept g c =
    KeepsTables-trans c.args.locations.now c.begin.new.locations c.resolve_rounds.new.locations c.in_ok-run.ensures.kept c.in_ok-run-2.ensures.kept

pub returns-clause-kept : goal.returns-clause-kept
returns-clause-kept g c =
    KeepsTables-trans c.args.locations.now c.begin.new.locations c.resolve_rounds.new.locations c.in_ok-run.ensures.kept c.in_ok-run-2.ensures.kept

pub returns-clause-ends : goal.returns-clause-ends
returns-clause-ends g c = λ v finished agrees.
    let later = c.resolve_rounds.new.locations in
    let w = g.D.SourceDatabase.workspace c.args.db.now in
    let all = finished_in c.args.world.now.maps in
    let from = beginning c.args.start c.args.tree (option_map (λ l. l.now) c.args._local) in
    let part = part_of c.among-part.result in
    let run = core_in c.in_ok-run.run' in
    let last = core_in c.in_ok-run-2.run' in
    let depends : c.in_ok-transitive.transitive.value ≡ transitive_dependencies_in w (krate_of c.args.start) =
    c.in_ok-transitive.ensures.value ∙ depends_on w c.krate.result _ c.transitive_dependencies.ensures.value ∙ ap (transitive_dependencies_in w)
    c.krate.ensures.value in
    let holders = c.as_slice-holders.result.now in
    let reads : part ≡ among c.in_ok-transitive.transitive.value holders all =
    c.among-part.ensures.value ∙ ap (λ (crates : List Crate). among crates holders all) c.deref.ensures in
    let held : holders ≡ holders_by all c.args.start = c.as_slice-holders.ensures.value ∙ c.in_ok-held_by.ensures.value in
    let there : IsSome (source_of c.args.locations.now c.args.tree) =
    some_there source_value c.source_of.result (source_of c.args.locations.now c.args.tree) c.is_none-is_unknown.result c.source_of.ensures.value
    c.is_none-is_unknown.ensures c.if-is_unknown.false in
    let same = c.in_ok-run.ensures.same in
    let after : OnceGrown later w (λ env. Steps env part (at_rest run) (at_rest last)) =
    subst (λ (v : Workspace). OnceGrown later v (λ env. Steps env part (at_rest run) (at_rest last))) same c.in_ok-run-2.ensures.ok in
    let comes : OnceGrown later w (λ env. ComesToRest env part run last c.in_ok-run-2.round_limit_met) =
    subst (λ (v : Workspace). OnceGrown later v (λ env. ComesToRest env part run last c.in_ok-run-2.round_limit_met)) same c.in_ok-run-2.ensures.rests in
    ends_from later w all from part c.in_ok-transitive.transitive.value holders reads depends held run last c.in_ok-run-2.round_limit_met
    (collected_view c.in_ok-finish-2.field-0)
    (c.in_ok-run.ensures.grown there later c.in_ok-run-2.ensures.kept) (after later (tables_stay later)) (comes later (tables_stay later))
    (c.in_ok-finish-2.ensures.value
    ∙ ap (λ (told : List DefDiagnostic). told_run last told c.in_ok-run-2.round_limit_met c.in_ok-transitive.transitive.value) c.in_ok-told-2.ensures.value)
    v finished agrees

pub returns-clause-placed : goal.returns-clause-placed
returns-clause-placed g c = λ placed. c.in_ok-run-2.ensures.placed (c.in_ok-run.ensures.placed placed)
