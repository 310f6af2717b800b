use Rattle.std.proofs.Common.{rules, ◌≡◌, ◌∙◌, Bool, Option, None, refl, sym, ap, subst}
use Rattle.std.specs.Prelude.{IsSome, option_map}
use Rattle.hir_mod_collector.specs.HirIds.declared.ids.Crate.{Crate}
use Rattle.hir_mod_collector.specs.HirItemTree.ItemTree.{Tree}
use Rattle.hir_mod_collector.specs.HirItemTree.SourceTree.{SourceTreeValue}
use Rattle.hir_mod_collector.specs.HirTables.SourcePlaces.{source_value}
use Rattle.hir_mod_collector.specs.HirTables.Tables.{source_of}
use Rattle.hir_mod_collector.proofs.HirTables.Growth.{KeepsTables-trans}
use Rattle.hir_mod_collector.specs.HirDefMapRules.State.{IsInOrder, new_module}
use Rattle.hir_nameres.specs.WorldParts.{part_of}
use Rattle.hir_mod_collector.specs.HirCollectorRules.Workspace.{ConfigValue, Workspace, config_view, crate_in}
use Rattle.hir_mod_collector.specs.HirCollectorRules.Calls.{IsMeantAt}
use Rattle.hir_mod_collector.specs.HirCollectorRules.Keys.{environment, source_in}
use Rattle.hir_mod_collector.specs.HirCollectorRules.Start.{core_of, exports_macros, krate_of, origin_of, root_site, tree_key, tree_visits, root_visibility}
use Rattle.hir_mod_collector.specs.HirCollectorRules.State.{Core, State, at_rest, core_in, joined}
use Rattle.hir_mod_collector.specs.HirCollectorRules.Steps.{Steps, none}
use Rattle.hir_mod_collector.specs.HirCollectorRules.Derivation.{IsSpent}
use Rattle.hir_mod_collector.proofs.HirCollectorState.InOrder.{root_in_order}
use Rattle.hir_collector_begin.proofs.Begun.{begun_absent, begun_grown, none_there, nothing_there, some_there}
use Rattle.hir_mod_collector.proofs.HirCollectorRules.ModuleFiles.{site_kept}
use Rattle.hir_mod_collector.proofs.HirCollectorRules.Numbers.{tables_stay}
use Rattle.hir_mod_collector.proofs.HirCollectorImports.Ready.{ready_start}
use Rattle.hir_mod_collector.proofs.HirCollectorStart.Rootless.{ready_empty, rests_empty}
use Rattle.hir_collector_begin.proofs.begin.begin.Goals as goal

pub returns-then-is_none-clause-ok : goal.returns-then-is_none-clause-ok
returns-then-is_none-clause-ok g c =
    let tables = c.args.locations.now in
    let w = g.D.SourceDatabase.workspace c.args.db.now in
    let part = part_of c.args.world in
    let transitive = c.args.transitive.now.value in
    let holders = c.args.holders.now in
    let source = c.in_ok-source.source.value in
    let seen : source ≡ source_in tables w (tree_key c.args.start c.args.id) =
    c.in_ok-source.ensures.value ∙ ap (λ (krate : Crate). source_in tables w (record { krate = krate; id = c.args.id })) c.krate-krate.ensures.value in
    let config : option_map (λ c. config_view c.now) c.config.result ≡ w.config (krate_of c.args.start) =
    c.config.ensures.value ∙ ap (λ (v : Workspace). v.config c.krate-krate.result) c.in_ok-source.ensures.same ∙ ap w.config c.krate-krate.ensures.value in
    let tree : c.tree-tree.result.now ≡ source.tree = c.tree-tree.ensures.value ∙ ap (λ (s : SourceTreeValue). s.tree) c.deref.ensures in
    let exports : c.exports_macros-is_proc_macro.result ≡ exports_macros c.args.start (crate_in w (krate_of c.args.start)) =
    c.exports_macros-is_proc_macro.ensures.value ∙ ap (exports_macros c.args.start)
    (c.krate.ensures.value ∙ ap (λ (v : Workspace). crate_in v c.krate-krate.result) c.in_ok-source.ensures.same ∙ ap (crate_in w) c.krate-krate.ensures.value)
    in
    let is : (core_in c.in_ok-run.run') ≡ core_of part source.tree (exports_macros c.args.start (crate_in w (krate_of c.args.start)))
    (w.config (krate_of c.args.start)) transitive holders c.args.start c.args.id =
    c.in_ok-run.ensures.value ∙ ap (λ (o : Option ConfigValue). core_of part c.tree-tree.result.now c.exports_macros-is_proc_macro.result o transitive holders
    c.args.start c.args.id) config
    ∙ ap (λ (b : Bool). core_of part c.tree-tree.result.now b (w.config (krate_of c.args.start)) transitive holders c.args.start c.args.id) exports
    ∙ ap (λ (t : Tree). core_of part t (exports_macros c.args.start (crate_in w (krate_of c.args.start))) (w.config (krate_of c.args.start)) transitive holders
    c.args.start c.args.id) tree in
    subst (λ (s : State). Steps (environment tables w) part s (at_rest (core_in c.in_ok-run.run')))
    (begun_absent tables w part transitive holders c.args.start c.args.id (core_in c.in_ok-run.run') source seen is
    (none_there source_value c.source_of.result (source_of tables c.args.id) c.is_none.result c.source_of.ensures.value c.is_none.ensures c.if-is_none.true))
    none

pub returns-then-is_none-clause-ready : goal.returns-then-is_none-clause-ready
returns-then-is_none-clause-ready g c =
    let tables = c.args.locations.now in
    let w = g.D.SourceDatabase.workspace c.args.db.now in
    let part = part_of c.args.world in
    let transitive = c.args.transitive.now.value in
    let holders = c.args.holders.now in
    let source = c.in_ok-source.source.value in
    let config : option_map (λ c. config_view c.now) c.config.result ≡ w.config (krate_of c.args.start) =
    c.config.ensures.value ∙ ap (λ (v : Workspace). v.config c.krate-krate.result) c.in_ok-source.ensures.same ∙ ap w.config c.krate-krate.ensures.value in
    let tree : c.tree-tree.result.now ≡ source.tree = c.tree-tree.ensures.value ∙ ap (λ (s : SourceTreeValue). s.tree) c.deref.ensures in
    let exports : c.exports_macros-is_proc_macro.result ≡ exports_macros c.args.start (crate_in w (krate_of c.args.start)) =
    c.exports_macros-is_proc_macro.ensures.value ∙ ap (exports_macros c.args.start)
    (c.krate.ensures.value ∙ ap (λ (v : Workspace). crate_in v c.krate-krate.result) c.in_ok-source.ensures.same ∙ ap (crate_in w) c.krate-krate.ensures.value)
    in
    let is : (core_in c.in_ok-run.run') ≡ core_of part source.tree (exports_macros c.args.start (crate_in w (krate_of c.args.start)))
    (w.config (krate_of c.args.start)) transitive holders c.args.start c.args.id =
    c.in_ok-run.ensures.value ∙ ap (λ (o : Option ConfigValue). core_of part c.tree-tree.result.now c.exports_macros-is_proc_macro.result o transitive holders
    c.args.start c.args.id) config
    ∙ ap (λ (b : Bool). core_of part c.tree-tree.result.now b (w.config (krate_of c.args.start)) transitive holders c.args.start c.args.id) exports
    ∙ ap (λ (t : Tree). core_of part t (exports_macros c.args.start (crate_in w (krate_of c.args.start))) (w.config (krate_of c.args.start)) transitive holders
    c.args.start c.args.id) tree in
    ready_empty tables part (core_in c.in_ok-run.run') (ap (λ (r : Core). r.globs) is) (ap (λ (r : Core). r.reached) is) (ap (λ (r : Core). r.taken) is)
    (ap (λ (r : Core). r.calls) is) (ap (λ (r : Core). r.fates) is) (ap (λ (r : Core). r.eager) is)
    (subst (λ (r : Core). IsInOrder r.map) (sym is)
    (root_in_order (core_of part source.tree (exports_macros c.args.start (crate_in w (krate_of c.args.start))) (w.config (krate_of c.args.start)) transitive
    holders c.args.start c.args.id).map (new_module (origin_of c.args.start) (root_visibility c.args.start) None) refl refl))

pub returns-then-is_none-clause-idle : goal.returns-then-is_none-clause-idle
returns-then-is_none-clause-idle g c = λ gone env.
    let tables = c.args.locations.now in
    let w = g.D.SourceDatabase.workspace c.args.db.now in
    let part = part_of c.args.world in
    let transitive = c.args.transitive.now.value in
    let holders = c.args.holders.now in
    let source = c.in_ok-source.source.value in
    let config : option_map (λ c. config_view c.now) c.config.result ≡ w.config (krate_of c.args.start) =
    c.config.ensures.value ∙ ap (λ (v : Workspace). v.config c.krate-krate.result) c.in_ok-source.ensures.same ∙ ap w.config c.krate-krate.ensures.value in
    let tree : c.tree-tree.result.now ≡ source.tree = c.tree-tree.ensures.value ∙ ap (λ (s : SourceTreeValue). s.tree) c.deref.ensures in
    let exports : c.exports_macros-is_proc_macro.result ≡ exports_macros c.args.start (crate_in w (krate_of c.args.start)) =
    c.exports_macros-is_proc_macro.ensures.value ∙ ap (exports_macros c.args.start)
    (c.krate.ensures.value ∙ ap (λ (v : Workspace). crate_in v c.krate-krate.result) c.in_ok-source.ensures.same ∙ ap (crate_in w) c.krate-krate.ensures.value)
    in
    let is : (core_in c.in_ok-run.run') ≡ core_of part source.tree (exports_macros c.args.start (crate_in w (krate_of c.args.start)))
    (w.config (krate_of c.args.start)) transitive holders c.args.start c.args.id =
    c.in_ok-run.ensures.value ∙ ap (λ (o : Option ConfigValue). core_of part c.tree-tree.result.now c.exports_macros-is_proc_macro.result o transitive holders
    c.args.start c.args.id) config
    ∙ ap (λ (b : Bool). core_of part c.tree-tree.result.now b (w.config (krate_of c.args.start)) transitive holders c.args.start c.args.id) exports
    ∙ ap (λ (t : Tree). core_of part t (exports_macros c.args.start (crate_in w (krate_of c.args.start))) (w.config (krate_of c.args.start)) transitive holders
    c.args.start c.args.id) tree in
    rests_empty env part (core_in c.in_ok-run.run') (ap (λ (r : Core). r.globs) is) (ap (λ (r : Core). r.reached) is) (ap (λ (r : Core). r.calls) is)

pub returns-then-is_none-clause-grown : goal.returns-then-is_none-clause-grown
returns-then-is_none-clause-grown g c = λ there.
    let gone : source_of c.args.locations.now c.args.id ≡ None =
    none_there source_value c.source_of.result (source_of c.args.locations.now c.args.id) c.is_none.result c.source_of.ensures.value c.is_none.ensures
    c.if-is_none.true in
    absurd (nothing_there (source_of c.args.locations.now c.args.id) gone there)

pub walk_root-requires-clause-meant : goal.walk_root-requires-clause-meant
walk_root-requires-clause-meant g c =
    let there : IsSome (source_of c.args.locations.now c.args.id) =
    some_there source_value c.source_of.result (source_of c.args.locations.now c.args.id) c.is_none.result c.source_of.ensures.value c.is_none.ensures
    c.if-is_none.false in
    record { tree = there; file = c.requires.file there }

pub returns-in_err-walk_root-clause-many : goal.returns-in_err-walk_root-clause-many
returns-in_err-walk_root-clause-many g c = λ far.
    let tables = c.args.locations.now in
    let w = g.D.SourceDatabase.workspace c.args.db.now in
    let part = part_of c.args.world in
    let transitive = c.args.transitive.now.value in
    let holders = c.args.holders.now in
    let source = c.in_ok-source.source.value in
    let seen : source ≡ source_in tables w (tree_key c.args.start c.args.id) =
    c.in_ok-source.ensures.value ∙ ap (λ (krate : Crate). source_in tables w (record { krate = krate; id = c.args.id })) c.krate-krate.ensures.value in
    let config : option_map (λ c. config_view c.now) c.config.result ≡ w.config (krate_of c.args.start) =
    c.config.ensures.value ∙ ap (λ (v : Workspace). v.config c.krate-krate.result) c.in_ok-source.ensures.same ∙ ap w.config c.krate-krate.ensures.value in
    let tree : c.tree-tree.result.now ≡ source.tree = c.tree-tree.ensures.value ∙ ap (λ (s : SourceTreeValue). s.tree) c.deref.ensures in
    let exports : c.exports_macros-is_proc_macro.result ≡ exports_macros c.args.start (crate_in w (krate_of c.args.start)) =
    c.exports_macros-is_proc_macro.ensures.value ∙ ap (exports_macros c.args.start)
    (c.krate.ensures.value ∙ ap (λ (v : Workspace). crate_in v c.krate-krate.result) c.in_ok-source.ensures.same ∙ ap (crate_in w) c.krate-krate.ensures.value)
    in
    let is : (core_in c.in_ok-run.run') ≡ core_of part source.tree (exports_macros c.args.start (crate_in w (krate_of c.args.start)))
    (w.config (krate_of c.args.start)) transitive holders c.args.start c.args.id =
    c.in_ok-run.ensures.value ∙ ap (λ (o : Option ConfigValue). core_of part c.tree-tree.result.now c.exports_macros-is_proc_macro.result o transitive holders
    c.args.start c.args.id) config
    ∙ ap (λ (b : Bool). core_of part c.tree-tree.result.now b (w.config (krate_of c.args.start)) transitive holders c.args.start c.args.id) exports
    ∙ ap (λ (t : Tree). core_of part t (exports_macros c.args.start (crate_in w (krate_of c.args.start))) (w.config (krate_of c.args.start)) transitive holders
    c.args.start c.args.id) tree in
    let there : IsSome (source_of tables c.args.id) = some_there source_value c.source_of.result (source_of tables c.args.id) c.is_none.result
    c.source_of.ensures.value c.is_none.ensures c.if-is_none.false in
    subst (λ (s : State). IsSpent (environment c.walk_root.new.locations w) part s)
    (begun_grown tables w part transitive holders c.args.start c.args.id (core_in c.in_ok-run.run') source seen is c.walk_root.new.locations
    c.in_err-walk_root.ensures.kept there)
    (subst (λ (v : Workspace). IsSpent (environment c.walk_root.new.locations v) part
    (joined (core_in c.in_ok-run.run') (tree_visits (root_site c.args.id) source.tree))) c.in_ok-source.ensures.same
    (c.in_err-walk_root.ensures.many (search rules)))

pub returns-clause-ok : goal.returns-clause-ok
returns-clause-ok g c =
    let tables = c.args.locations.now in
    let w = g.D.SourceDatabase.workspace c.args.db.now in
    let part = part_of c.args.world in
    let transitive = c.args.transitive.now.value in
    let holders = c.args.holders.now in
    let source = c.in_ok-source.source.value in
    let seen : source ≡ source_in tables w (tree_key c.args.start c.args.id) =
    c.in_ok-source.ensures.value ∙ ap (λ (krate : Crate). source_in tables w (record { krate = krate; id = c.args.id })) c.krate-krate.ensures.value in
    let config : option_map (λ c. config_view c.now) c.config.result ≡ w.config (krate_of c.args.start) =
    c.config.ensures.value ∙ ap (λ (v : Workspace). v.config c.krate-krate.result) c.in_ok-source.ensures.same ∙ ap w.config c.krate-krate.ensures.value in
    let tree : c.tree-tree.result.now ≡ source.tree = c.tree-tree.ensures.value ∙ ap (λ (s : SourceTreeValue). s.tree) c.deref.ensures in
    let exports : c.exports_macros-is_proc_macro.result ≡ exports_macros c.args.start (crate_in w (krate_of c.args.start)) =
    c.exports_macros-is_proc_macro.ensures.value ∙ ap (exports_macros c.args.start)
    (c.krate.ensures.value ∙ ap (λ (v : Workspace). crate_in v c.krate-krate.result) c.in_ok-source.ensures.same ∙ ap (crate_in w) c.krate-krate.ensures.value)
    in
    let is : (core_in c.in_ok-run.run') ≡ core_of part source.tree (exports_macros c.args.start (crate_in w (krate_of c.args.start)))
    (w.config (krate_of c.args.start)) transitive holders c.args.start c.args.id =
    c.in_ok-run.ensures.value ∙ ap (λ (o : Option ConfigValue). core_of part c.tree-tree.result.now c.exports_macros-is_proc_macro.result o transitive holders
    c.args.start c.args.id) config
    ∙ ap (λ (b : Bool). core_of part c.tree-tree.result.now b (w.config (krate_of c.args.start)) transitive holders c.args.start c.args.id) exports
    ∙ ap (λ (t : Tree). core_of part t (exports_macros c.args.start (crate_in w (krate_of c.args.start))) (w.config (krate_of c.args.start)) transitive holders
    c.args.start c.args.id) tree in
    let there : IsSome (source_of tables c.args.id) = some_there source_value c.source_of.result (source_of tables c.args.id) c.is_none.result
    c.source_of.ensures.value c.is_none.ensures c.if-is_none.false in
    subst (λ (s : State). Steps (environment c.walk_root.new.locations w) part s (at_rest (core_in c.walk_root.new.run)))
    (begun_grown tables w part transitive holders c.args.start c.args.id (core_in c.in_ok-run.run') source seen is c.walk_root.new.locations
    c.in_ok-walk_root.ensures.kept there)
    (subst (λ (v : Workspace). Steps (environment c.walk_root.new.locations v) part
    (joined (core_in c.in_ok-run.run') (tree_visits (root_site c.args.id) source.tree)) (at_rest (core_in c.walk_root.new.run))) c.in_ok-source.ensures.same
    (c.in_ok-walk_root.ensures.ok c.walk_root.new.locations (tables_stay c.walk_root.new.locations)))

pub returns-clause-grown : goal.returns-clause-grown
returns-clause-grown g c = λ there grown k.
    let tables = c.args.locations.now in
    let w = g.D.SourceDatabase.workspace c.args.db.now in
    let part = part_of c.args.world in
    let transitive = c.args.transitive.now.value in
    let holders = c.args.holders.now in
    let source = c.in_ok-source.source.value in
    let seen : source ≡ source_in tables w (tree_key c.args.start c.args.id) =
    c.in_ok-source.ensures.value ∙ ap (λ (krate : Crate). source_in tables w (record { krate = krate; id = c.args.id })) c.krate-krate.ensures.value in
    let config : option_map (λ c. config_view c.now) c.config.result ≡ w.config (krate_of c.args.start) =
    c.config.ensures.value ∙ ap (λ (v : Workspace). v.config c.krate-krate.result) c.in_ok-source.ensures.same ∙ ap w.config c.krate-krate.ensures.value in
    let tree : c.tree-tree.result.now ≡ source.tree = c.tree-tree.ensures.value ∙ ap (λ (s : SourceTreeValue). s.tree) c.deref.ensures in
    let exports : c.exports_macros-is_proc_macro.result ≡ exports_macros c.args.start (crate_in w (krate_of c.args.start)) =
    c.exports_macros-is_proc_macro.ensures.value ∙ ap (exports_macros c.args.start)
    (c.krate.ensures.value ∙ ap (λ (v : Workspace). crate_in v c.krate-krate.result) c.in_ok-source.ensures.same ∙ ap (crate_in w) c.krate-krate.ensures.value)
    in
    let is : (core_in c.in_ok-run.run') ≡ core_of part source.tree (exports_macros c.args.start (crate_in w (krate_of c.args.start)))
    (w.config (krate_of c.args.start)) transitive holders c.args.start c.args.id =
    c.in_ok-run.ensures.value ∙ ap (λ (o : Option ConfigValue). core_of part c.tree-tree.result.now c.exports_macros-is_proc_macro.result o transitive holders
    c.args.start c.args.id) config
    ∙ ap (λ (b : Bool). core_of part c.tree-tree.result.now b (w.config (krate_of c.args.start)) transitive holders c.args.start c.args.id) exports
    ∙ ap (λ (t : Tree). core_of part t (exports_macros c.args.start (crate_in w (krate_of c.args.start))) (w.config (krate_of c.args.start)) transitive holders
    c.args.start c.args.id) tree in
    subst (λ (s : State). Steps (environment grown w) part s (at_rest (core_in c.walk_root.new.run)))
    (begun_grown tables w part transitive holders c.args.start c.args.id (core_in c.in_ok-run.run') source seen is grown
    (KeepsTables-trans tables c.walk_root.new.locations grown c.in_ok-walk_root.ensures.kept k) there)
    (subst (λ (v : Workspace). Steps (environment grown v) part (joined (core_in c.in_ok-run.run') (tree_visits (root_site c.args.id) source.tree))
    (at_rest (core_in c.walk_root.new.run))) c.in_ok-source.ensures.same
    (c.in_ok-walk_root.ensures.ok grown k))

pub returns-clause-ready : goal.returns-clause-ready
returns-clause-ready g c =
    let tables = c.args.locations.now in
    let grown = c.walk_root.new.locations in
    let w = g.D.SourceDatabase.workspace c.args.db.now in
    let there : IsSome (source_of tables c.args.id) = some_there source_value c.source_of.result (source_of tables c.args.id) c.is_none.result
    c.source_of.ensures.value c.is_none.ensures c.if-is_none.false in
    let meant : IsMeantAt grown (root_site c.args.id) = site_kept tables grown c.in_ok-walk_root.ensures.kept (root_site c.args.id)
    (record { tree = there; file = c.requires.file there }) in
    ready_start grown w (part_of c.args.world) c.args.transitive.now.value c.args.holders.now c.args.start c.args.id (core_in c.walk_root.new.run) meant
    (returns-clause-ok g c)

pub returns-clause-idle : goal.returns-clause-idle
returns-clause-idle g c = λ gone.
    let there : IsSome (source_of c.args.locations.now c.args.id) =
    some_there source_value c.source_of.result (source_of c.args.locations.now c.args.id) c.is_none.result c.source_of.ensures.value c.is_none.ensures
    c.if-is_none.false in
    absurd (nothing_there (source_of c.args.locations.now c.args.id) gone there)
