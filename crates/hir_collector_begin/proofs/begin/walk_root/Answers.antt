use Rattle.std.proofs.Common.{rules, ◌≡◌, ◌∙◌, ◌<◌, true, false, None, Option, length, sym, ap, subst}
use Rattle.std.proofs.lemmas.List.Elements.{All-map}
use Rattle.std.specs.List.{All}
use Rattle.hir_mod_collector.specs.HirIds.declared.ast_id.FileId.{FileId}
use Rattle.hir_mod_collector.specs.HirItemTree.ItemTree.{Tree}
use Rattle.hir_mod_collector.specs.HirItemTree.SourceTree.{SourceTreeValue}
use Rattle.hir_mod_collector.specs.HirItemTree.KeptForest.{all_items}
use Rattle.hir_mod_collector.specs.HirItemTree.Rows.{items_at, numbers_of}
use Rattle.hir_mod_collector.specs.HirItemTree.declared.rows.ModItemId.{ModItemId}
use Rattle.hir_mod_collector.specs.HirModDir.Directory.{Directory}
use Rattle.hir_nameres.specs.WorldParts.{part_of}
use Rattle.hir_mod_collector.specs.HirCollectorRules.Keys.{environment}
use Rattle.hir_mod_collector.specs.HirCollectorRules.ModuleFiles.{IsFileMeant, file_of_tree}
use Rattle.hir_mod_collector.specs.HirCollectorRules.Moves.{Walks, WalksTooFar}
use Rattle.hir_mod_collector.specs.HirCollectorRules.Start.{is_declared, root_site}
use Rattle.hir_mod_collector.specs.HirCollectorRules.TreeReads.{visits_at}
use Rattle.hir_mod_collector.proofs.HirCollectorRules.Numbers.{tables_stay}
use Rattle.hir_mod_collector.proofs.Walked.{spent_present, walks_disabled, walks_present}
use Rattle.hir_collector_begin.proofs.begin.walk_root.Goals as goal
use Rattle.hir_mod_collector.specs.HirCollectorRules.State.{core_in}

pub returns-then-not-is_declared-clause-kept : goal.returns-then-not-is_declared-clause-kept
returns-then-not-is_declared-clause-kept g c = tables_stay c.args.locations.now

pub walk_all-requires-clause-meant : goal.walk_all-requires-clause-meant
walk_all-requires-clause-meant g c =
    let tables = c.args.locations.now in
    record { tree = c.requires.meant.tree; file = subst (λ (f : Option FileId). IsFileMeant tables f) (sym c.file_of_tree.ensures.value) c.requires.meant.file }

pub returns-then-not-is_declared-clause-ok : goal.returns-then-not-is_declared-clause-ok
returns-then-not-is_declared-clause-ok g c = λ grown k.
    let off : is_declared c.args.id c.args.source.now.value.tree ≡ false =
    ap (is_declared c.args.id) (sym (c.tree.ensures.value ∙ ap (λ (s : SourceTreeValue). s.tree) c.deref.ensures)) ∙ sym c.is_declared.ensures.value ∙
    c.if-not-is_declared.true in
    walks_disabled (environment grown (g.D.SourceDatabase.workspace c.args.db.now)) (part_of c.args.world) (root_site c.args.id) c.args.source.now.value.tree
    (core_in c.args.run.now) off

pub walk_all-requires-clause-there : goal.walk_all-requires-clause-there
walk_all-requires-clause-there g c =
    All-map (λ n. n < length (all_items c.args.source.now.value.tree.items)) (λ (id : ModItemId). id.0) c.top_level_items-ids.result.now
    (subst (λ (t : Tree). All (λ (id : ModItemId). id.0 < length (all_items t.items)) c.top_level_items-ids.result.now)
    (c.tree-2.ensures.value ∙ ap (λ (s : SourceTreeValue). s.tree) c.deref-2.ensures) c.top_level_items-ids.ensures.there)

pub returns-clause-ok : goal.returns-clause-ok
returns-clause-ok g c = λ grown k.
    let env = environment grown (g.D.SourceDatabase.workspace c.args.db.now) in
    let part = part_of c.args.world in
    let tree = c.args.source.now.value.tree in
    let ids = c.top_level_items-ids.result.now in
    let on : is_declared c.args.id tree ≡ true =
    ap (is_declared c.args.id) (sym (c.tree.ensures.value ∙ ap (λ (s : SourceTreeValue). s.tree) c.deref.ensures)) ∙ sym c.is_declared.ensures.value ∙
    c.if-not-is_declared.false in
    let all : items_at (all_items tree.items) (numbers_of ids) ≡ tree.items =
    subst (λ (t : Tree). items_at (all_items t.items) (numbers_of ids) ≡ t.items) (c.tree-2.ensures.value ∙ ap (λ (s : SourceTreeValue). s.tree)
    c.deref-2.ensures) c.top_level_items-ids.ensures.value in
    let walks : Walks env part (core_in c.args.run.now) (core_in c.walk_all.new.run) (visits_at tree (root_site c.args.id) (numbers_of ids)) =
    subst (λ (d : Directory). Walks env part (core_in c.args.run.now) (core_in c.walk_all.new.run)
    (visits_at tree (record { home = 0; tree = c.args.id; file = file_of_tree c.args.id; extern_block = None; dir = d; level = 0 }) (numbers_of ids)))
    c.root.ensures.value
    (subst (λ (f : Option FileId). Walks env part (core_in c.args.run.now) (core_in c.walk_all.new.run)
    (visits_at tree (record { home = 0; tree = c.args.id; file = f; extern_block = None; dir = c.root.result; level = 0 }) (numbers_of ids)))
    c.file_of_tree.ensures.value
    (c.in_ok-walk_all.ensures.ok grown k)) in
    walks_present env part (root_site c.args.id) tree (core_in c.args.run.now) ids on all (core_in c.walk_all.new.run) walks

pub returns-in_err-walk_all-clause-many : goal.returns-in_err-walk_all-clause-many
returns-in_err-walk_all-clause-many g c = λ h.
    let env = environment c.walk_all.new.locations (g.D.SourceDatabase.workspace c.args.db.now) in
    let part = part_of c.args.world in
    let tree = c.args.source.now.value.tree in
    let ids = c.top_level_items-ids.result.now in
    let on : is_declared c.args.id tree ≡ true =
    ap (is_declared c.args.id) (sym (c.tree.ensures.value ∙ ap (λ (s : SourceTreeValue). s.tree) c.deref.ensures)) ∙ sym c.is_declared.ensures.value ∙
    c.if-not-is_declared.false in
    let all : items_at (all_items tree.items) (numbers_of ids) ≡ tree.items =
    subst (λ (t : Tree). items_at (all_items t.items) (numbers_of ids) ≡ t.items) (c.tree-2.ensures.value ∙ ap (λ (s : SourceTreeValue). s.tree)
    c.deref-2.ensures) c.top_level_items-ids.ensures.value in
    let far : WalksTooFar env part (core_in c.args.run.now) (visits_at tree (root_site c.args.id) (numbers_of ids)) =
    subst (λ (d : Directory). WalksTooFar env part (core_in c.args.run.now)
    (visits_at tree (record { home = 0; tree = c.args.id; file = file_of_tree c.args.id; extern_block = None; dir = d; level = 0 }) (numbers_of ids)))
    c.root.ensures.value
    (subst (λ (f : Option FileId). WalksTooFar env part (core_in c.args.run.now)
    (visits_at tree (record { home = 0; tree = c.args.id; file = f; extern_block = None; dir = c.root.result; level = 0 }) (numbers_of ids)))
    c.file_of_tree.ensures.value
    (c.in_err-walk_all.ensures.many (search rules) c.walk_all.new.locations (tables_stay c.walk_all.new.locations))) in
    spent_present env part (root_site c.args.id) tree (core_in c.args.run.now) ids on all far
