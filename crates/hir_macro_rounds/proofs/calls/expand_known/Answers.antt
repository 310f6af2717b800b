-- What waits is expanded in one step, and then its items are handled.
use Rattle.std.proofs.Common.{rules, ◌≡◌, ◌∙◌, ◌<◌, ℕ, List, length, ap, subst, sym}
use Rattle.std.proofs.lemmas.List.Elements.{All-map}
use Rattle.std.specs.List.{All}
use Rattle.hir_mod_collector.specs.HirBase.ModPath.{Path}
use Rattle.hir_mod_collector.specs.HirItemTree.ItemTree.{Tree}
use Rattle.hir_mod_collector.specs.HirItemTree.KeptForest.{all_items}
use Rattle.hir_mod_collector.specs.HirItemTree.Rows.{items_at, numbers_of}
use Rattle.hir_mod_collector.specs.HirItemTree.SourceTree.{SourceTreeValue}
use Rattle.hir_mod_collector.specs.HirItemTree.declared.rows.ModItemId.{ModItemId}
use Rattle.hir_mod_collector.proofs.HirTables.Growth.{KeepsTables-trans}
use Rattle.hir_mod_collector.specs.HirNameres.WorldParts.{part_of}
use Rattle.hir_mod_collector.specs.HirCollectorRules.Moves.{OnceGrown, Walks, WalksTooFar}
use Rattle.hir_mod_collector.specs.HirCollectorRules.CallMoves.{handled}
use Rattle.hir_mod_collector.specs.HirCollectorRules.State.{Core, core_in, counted, with_eager}
use Rattle.hir_mod_collector.specs.HirCollectorRules.UnknownSources.{of_inner}
use Rattle.hir_mod_collector.specs.HirCollectorRules.TreeReads.{visits_at}
use Rattle.hir_collector_derives.proofs.CallSteps.{expanded_and_walked, expanded_too_far, handled_at_last, past_reported, site_inside, site_meant}
use Rattle.hir_collector_derives.proofs.CallSteps.{spent_by_numbers}
use Rattle.hir_mod_collector.proofs.HirCollectorRules.Lists.{get_inside}
use Rattle.hir_mod_collector.proofs.HirCollectorRules.Numbers.{known_step, refused_step}
use Rattle.hir_call_expansion.specs.Looks.{IsLook}
use Rattle.hir_macro_rounds.proofs.Meets.{meets_left, meets_steps, meets_too_far}
use Rattle.hir_mod_collector.proofs.HirCollectorState.Noted.{beside_follow, noted_beside, noted_follow}
use Rattle.hir_macro_rounds.proofs.calls.expand_known.Goals as goal

pub look_at_call-requires : goal.look_at_call-requires
look_at_call-requires g c = record { meant = c.requires.ready.meant c.args.i c.args.call.now c.requires.called.due.waiting.call; known = c.requires.known }

-- the module of the call is there
pub note_call-requires : goal.note_call-requires
note_call-requires g c =
    let seen = subst (IsLook c.look_at_call.new.locations (g.D.SourceDatabase.workspace c.args.db.now) (part_of c.args.world) c.args.call.now c.args.makro
    (core_in c.args.run.now) (core_in c.look_at_call.new.run)) c.in-Expands.is c.in_ok-look.ensures.ok in
    let home = c.args.call.now.site.home in
    record {
      in_range = subst (λ (e : Core). home < length e.map.modules) (sym c.end_call.ensures.value)
          (subst (λ (a : Core). home < length a.map.modules) (sym seen.1.asked)
          (c.requires.ready.calls c.args.i c.args.call.now c.requires.called.due.waiting.call));
    }

pub returns-in_err-look-clause-many : goal.returns-in_err-look-clause-many
returns-in_err-look-clause-many g c = λ h.
    spent_by_numbers c.look_at_call.new.locations (g.D.SourceDatabase.workspace c.args.db.now) (part_of c.args.world) (core_in c.args.run.now) c.args.i
    c.args.call.now c.args.makro c.requires.called
    c.requires.shallow (c.in_err-look.ensures.many (search rules))

pub returns-in_err-tick-clause-many : goal.returns-in_err-tick-clause-many
returns-in_err-tick-clause-many g c = λ h.
    let tables = c.look_at_call.new.locations in
    let w = g.D.SourceDatabase.workspace c.args.db.now in
    let part = part_of c.args.world in
    let old = core_in c.args.run.now in
    let asked = core_in c.look_at_call.new.run in
    let ended = core_in c.end_call.new.self in
    let noted = core_in c.note_call.new.self in
    let brought = core_in c.bring_helpers.new.run in
    let reported = core_in c.report_failed.new.run in
    let seen = subst (IsLook tables w part c.args.call.now c.args.makro old asked) c.in-Expands.is c.in_ok-look.ensures.ok in
    let source : SourceTreeValue = c.in-Expands.expansion.source.value in
    past_reported tables w part old asked c.args.i c.args.call.now c.args.makro seen.0 source seen.1 c.requires.called c.requires.shallow ended noted brought
    reported c.in-Expands.expansion.id c.in-Expands.expansion.error c.end_call.ensures.value seen.2 seen.3 c.in_ok-note_call.ensures.ok c.in_ok-bring_helpers.ensures.ok
    c.in_ok-report_failed.ensures.ok
    (c.in_err-tick.ensures.many (sym c.in_err-tick.was ∙ refused_step _ _ _ c.in_err-tick.was c.from_residual-in_err-tick.ensures.1 h))

-- a source has no number
pub returns-in_err-look-clause-unknown : goal.returns-in_err-look-clause-unknown
returns-in_err-look-clause-unknown g c = λ h.
    let unknown = c.in_err-look.ensures.unknown (search rules) in
    record {
      place = c.args.i;
      call = c.args.call.now;
      makro = c.args.makro;
      called = c.requires.called;
      shallow = c.requires.shallow;
      unknown = of_inner unknown.0 unknown.1 unknown.2 unknown.3;
    }

pub returns-in_err-tick-clause-unknown : goal.returns-in_err-tick-clause-unknown
returns-in_err-tick-clause-unknown g c = λ h. absurd (known_step _ _ c.from_residual-in_err-tick.ensures.1 h)

pub returns-in_err-walk_all-clause-unknown : goal.returns-in_err-walk_all-clause-unknown
returns-in_err-walk_all-clause-unknown g c = λ h. absurd (known_step _ _ c.from_residual-in_err-walk_all.ensures.1 h)

-- ---- a path that its macro asks for first reaches nothing

pub returns-in-Waits-clause-ok : goal.returns-in-Waits-clause-ok
returns-in-Waits-clause-ok g c =
    let tables = c.look_at_call.new.locations in
    let w = g.D.SourceDatabase.workspace c.args.db.now in
    let part = part_of c.args.world in
    let old = core_in c.args.run.now in
    let asked = core_in c.look_at_call.new.run in
    let seen = subst (IsLook tables w part c.args.call.now c.args.makro old asked) c.in-Waits.is c.in_ok-look.ensures.ok in
    meets_steps tables w part old asked c.args.i c.args.call.now c.args.makro seen.0 seen.1 c.requires.called c.requires.shallow
    (core_in c.wait_for_paths.new.run) (subst (λ (ps : List Path). core_in c.wait_for_paths.new.run
    ≡ counted (with_eager asked c.args.i (record { makro = c.args.makro; inner = ps }))) seen.2 c.in_ok-wait_for_paths-in-Waits.ensures.ok)

pub returns-in-Waits-clause-tried : goal.returns-in-Waits-clause-tried
returns-in-Waits-clause-tried g c =
    let tables = c.look_at_call.new.locations in
    let w = g.D.SourceDatabase.workspace c.args.db.now in
    let part = part_of c.args.world in
    let old = core_in c.args.run.now in
    let asked = core_in c.look_at_call.new.run in
    let seen = subst (IsLook tables w part c.args.call.now c.args.makro old asked) c.in-Waits.is c.in_ok-look.ensures.ok in
    let below = get_inside old.calls c.args.i c.args.call.now c.requires.called.due.waiting.call in
    let inside : c.args.i < length old.eager = subst (λ (n : ℕ). c.args.i < n) (sym c.requires.ready.listed) below in
    meets_left tables w part old asked c.args.i c.args.call.now c.args.makro seen.0 seen.1 c.requires.called c.requires.shallow
    (core_in c.wait_for_paths.new.run) (subst (λ (ps : List Path). core_in c.wait_for_paths.new.run
    ≡ counted (with_eager asked c.args.i (record { makro = c.args.makro; inner = ps }))) seen.2 c.in_ok-wait_for_paths-in-Waits.ensures.ok) inside

pub returns-in-Waits-clause-noted : goal.returns-in-Waits-clause-noted
returns-in-Waits-clause-noted g c = noted_beside (noted_follow c.in_ok-look.ensures.noted c.in_ok-wait_for_paths-in-Waits.ensures.noted)

pub returns-in_err-wait_for_paths-in-Waits-clause-many : goal.returns-in_err-wait_for_paths-in-Waits-clause-many
returns-in_err-wait_for_paths-in-Waits-clause-many g c = λ h.
    let tables = c.look_at_call.new.locations in
    let w = g.D.SourceDatabase.workspace c.args.db.now in
    let part = part_of c.args.world in
    let old = core_in c.args.run.now in
    let asked = core_in c.look_at_call.new.run in
    let seen = subst (IsLook tables w part c.args.call.now c.args.makro old asked) c.in-Waits.is c.in_ok-look.ensures.ok in
    meets_too_far tables w part old asked c.args.i c.args.call.now c.args.makro seen.0 seen.1 c.requires.called c.requires.shallow
    (c.in_err-wait_for_paths-in-Waits.ensures.many (sym c.in_err-wait_for_paths-in-Waits.was ∙ refused_step _ _ _ c.in_err-wait_for_paths-in-Waits.was
    c.from_residual-in_err-wait_for_paths-in-Waits.ensures.1 h))

pub returns-in_err-wait_for_paths-in-Waits-clause-unknown : goal.returns-in_err-wait_for_paths-in-Waits-clause-unknown
returns-in_err-wait_for_paths-in-Waits-clause-unknown g c = λ h. absurd (known_step _ _ c.from_residual-in_err-wait_for_paths-in-Waits.ensures.1 h)

-- ---- the items of its expansion

pub walk_all-requires-clause-in_range : goal.walk_all-requires-clause-in_range
walk_all-requires-clause-in_range g c =
    let tables = c.look_at_call.new.locations in
    let w = g.D.SourceDatabase.workspace c.args.db.now in
    let part = part_of c.args.world in
    let old = core_in c.args.run.now in
    let asked = core_in c.look_at_call.new.run in
    let ended = core_in c.end_call.new.self in
    let noted = core_in c.note_call.new.self in
    let brought = core_in c.bring_helpers.new.run in
    let reported = core_in c.report_failed.new.run in
    let seen = subst (IsLook tables w part c.args.call.now c.args.makro old asked) c.in-Expands.is c.in_ok-look.ensures.ok in
    let source : SourceTreeValue = c.in-Expands.expansion.source.value in
    let new = core_in c.tick.new.self in
    let ids = c.top_level_items-ids.result.now in
    let all : items_at (all_items source.tree.items) (numbers_of ids) ≡ source.tree.items =
    subst (λ (t : Tree). items_at (all_items t.items) (numbers_of ids) ≡ t.items) (c.tree.ensures.value ∙ ap (λ (s : SourceTreeValue). s.tree) c.deref.ensures)
    c.top_level_items-ids.ensures.value in
    site_inside tables w part old asked c.args.i c.args.call.now c.args.makro seen.0 source seen.1 c.requires.called c.requires.shallow ended noted brought
    reported c.in-Expands.expansion.id c.in-Expands.expansion.error c.end_call.ensures.value seen.2 seen.3 c.in_ok-note_call.ensures.ok c.in_ok-bring_helpers.ensures.ok
    c.in_ok-report_failed.ensures.ok
    new c.in_ok-tick.ensures.ok c.in_ok-site.site ids c.in_ok-site.ensures.value all
    (c.requires.ready.calls c.args.i c.args.call.now c.requires.called.due.waiting.call)

pub walk_all-requires-clause-meant : goal.walk_all-requires-clause-meant
walk_all-requires-clause-meant g c =
    let tables = c.look_at_call.new.locations in
    let w = g.D.SourceDatabase.workspace c.args.db.now in
    let part = part_of c.args.world in
    let old = core_in c.args.run.now in
    let asked = core_in c.look_at_call.new.run in
    let ended = core_in c.end_call.new.self in
    let noted = core_in c.note_call.new.self in
    let brought = core_in c.bring_helpers.new.run in
    let reported = core_in c.report_failed.new.run in
    let seen = subst (IsLook tables w part c.args.call.now c.args.makro old asked) c.in-Expands.is c.in_ok-look.ensures.ok in
    let source : SourceTreeValue = c.in-Expands.expansion.source.value in
    let new = core_in c.tick.new.self in
    let ids = c.top_level_items-ids.result.now in
    let all : items_at (all_items source.tree.items) (numbers_of ids) ≡ source.tree.items =
    subst (λ (t : Tree). items_at (all_items t.items) (numbers_of ids) ≡ t.items) (c.tree.ensures.value ∙ ap (λ (s : SourceTreeValue). s.tree) c.deref.ensures)
    c.top_level_items-ids.ensures.value in
    site_meant tables w part old asked c.args.i c.args.call.now c.args.makro seen.0 source seen.1 c.requires.called c.requires.shallow ended noted brought
    reported c.in-Expands.expansion.id c.in-Expands.expansion.error c.end_call.ensures.value seen.2 seen.3 c.in_ok-note_call.ensures.ok c.in_ok-bring_helpers.ensures.ok
    c.in_ok-report_failed.ensures.ok
    new c.in_ok-tick.ensures.ok c.in_ok-site.site ids c.in_ok-site.ensures.value all

pub walk_all-requires-clause-there : goal.walk_all-requires-clause-there
walk_all-requires-clause-there g c =
    let source : SourceTreeValue = c.in-Expands.expansion.source.value in
    let ids = c.top_level_items-ids.result.now in
    All-map (λ n. n < length (all_items source.tree.items)) (λ (id : ModItemId). id.0) ids
    (subst (λ (t : Tree). All (λ (id : ModItemId). id.0 < length (all_items t.items)) ids) (c.tree.ensures.value ∙ ap (λ (s : SourceTreeValue). s.tree)
    c.deref.ensures) c.top_level_items-ids.ensures.there)

pub returns-in_err-walk_all-clause-kept : goal.returns-in_err-walk_all-clause-kept
returns-in_err-walk_all-clause-kept g c =
    KeepsTables-trans c.args.locations.now c.look_at_call.new.locations c.walk_all.new.locations c.in_ok-look.ensures.kept c.in_err-walk_all.ensures.kept

pub returns-in_err-walk_all-clause-many : goal.returns-in_err-walk_all-clause-many
returns-in_err-walk_all-clause-many g c = λ h.
    let tables = c.look_at_call.new.locations in
    let w = g.D.SourceDatabase.workspace c.args.db.now in
    let part = part_of c.args.world in
    let old = core_in c.args.run.now in
    let asked = core_in c.look_at_call.new.run in
    let ended = core_in c.end_call.new.self in
    let noted = core_in c.note_call.new.self in
    let brought = core_in c.bring_helpers.new.run in
    let reported = core_in c.report_failed.new.run in
    let seen = subst (IsLook tables w part c.args.call.now c.args.makro old asked) c.in-Expands.is c.in_ok-look.ensures.ok in
    let source : SourceTreeValue = c.in-Expands.expansion.source.value in
    let new = core_in c.tick.new.self in
    let ids = c.top_level_items-ids.result.now in
    let all : items_at (all_items source.tree.items) (numbers_of ids) ≡ source.tree.items =
    subst (λ (t : Tree). items_at (all_items t.items) (numbers_of ids) ≡ t.items) (c.tree.ensures.value ∙ ap (λ (s : SourceTreeValue). s.tree) c.deref.ensures)
    c.top_level_items-ids.ensures.value in
    let later = c.walk_all.new.locations in
    let v = g.D.SourceDatabase.workspace c.look_at_call.new.db in
    let far : OnceGrown later v (λ env. WalksTooFar env part new (visits_at source.tree c.in_ok-site.site (numbers_of ids))) = c.in_err-walk_all.ensures.many
    (sym c.in_err-walk_all.was ∙ refused_step _ _ _ c.in_err-walk_all.was c.from_residual-in_err-walk_all.ensures.1 h) in
    expanded_too_far tables w part old asked c.args.i c.args.call.now c.args.makro seen.0 source seen.1 c.requires.called c.requires.shallow ended noted brought
    reported c.in-Expands.expansion.id c.in-Expands.expansion.error c.end_call.ensures.value seen.2 seen.3 c.in_ok-note_call.ensures.ok c.in_ok-bring_helpers.ensures.ok
    c.in_ok-report_failed.ensures.ok
    new c.in_ok-tick.ensures.ok c.in_ok-site.site ids c.in_ok-site.ensures.value all
    later c.in_err-walk_all.ensures.kept v c.in_ok-look.ensures.same far

pub returns-clause-kept : goal.returns-clause-kept
returns-clause-kept g c =
    KeepsTables-trans c.args.locations.now c.look_at_call.new.locations c.walk_all.new.locations c.in_ok-look.ensures.kept c.in_ok-walk_all.ensures.kept

pub returns-clause-ok : goal.returns-clause-ok
returns-clause-ok g c =
    let tables = c.look_at_call.new.locations in
    let w = g.D.SourceDatabase.workspace c.args.db.now in
    let part = part_of c.args.world in
    let old = core_in c.args.run.now in
    let asked = core_in c.look_at_call.new.run in
    let ended = core_in c.end_call.new.self in
    let noted = core_in c.note_call.new.self in
    let brought = core_in c.bring_helpers.new.run in
    let reported = core_in c.report_failed.new.run in
    let seen = subst (IsLook tables w part c.args.call.now c.args.makro old asked) c.in-Expands.is c.in_ok-look.ensures.ok in
    let source : SourceTreeValue = c.in-Expands.expansion.source.value in
    let new = core_in c.tick.new.self in
    let ids = c.top_level_items-ids.result.now in
    let all : items_at (all_items source.tree.items) (numbers_of ids) ≡ source.tree.items =
    subst (λ (t : Tree). items_at (all_items t.items) (numbers_of ids) ≡ t.items) (c.tree.ensures.value ∙ ap (λ (s : SourceTreeValue). s.tree) c.deref.ensures)
    c.top_level_items-ids.ensures.value in
    let later = c.walk_all.new.locations in
    let v = g.D.SourceDatabase.workspace c.look_at_call.new.db in
    let last = core_in c.walk_all.new.run in
    let walks : OnceGrown later v (λ env. Walks env part new last (visits_at source.tree c.in_ok-site.site (numbers_of ids))) = c.in_ok-walk_all.ensures.ok in
    expanded_and_walked tables w part old asked c.args.i c.args.call.now c.args.makro seen.0 source seen.1 c.requires.called c.requires.shallow ended noted
    brought reported c.in-Expands.expansion.id c.in-Expands.expansion.error c.end_call.ensures.value seen.2 seen.3 c.in_ok-note_call.ensures.ok
    c.in_ok-bring_helpers.ensures.ok c.in_ok-report_failed.ensures.ok
    new c.in_ok-tick.ensures.ok c.in_ok-site.site ids c.in_ok-site.ensures.value all
    later c.in_ok-walk_all.ensures.kept v c.in_ok-look.ensures.same last walks

pub returns-clause-tried : goal.returns-clause-tried
returns-clause-tried g c =
    let tables = c.look_at_call.new.locations in
    let w = g.D.SourceDatabase.workspace c.args.db.now in
    let part = part_of c.args.world in
    let old = core_in c.args.run.now in
    let asked = core_in c.look_at_call.new.run in
    let ended = core_in c.end_call.new.self in
    let noted = core_in c.note_call.new.self in
    let brought = core_in c.bring_helpers.new.run in
    let reported = core_in c.report_failed.new.run in
    let seen = subst (IsLook tables w part c.args.call.now c.args.makro old asked) c.in-Expands.is c.in_ok-look.ensures.ok in
    let source : SourceTreeValue = c.in-Expands.expansion.source.value in
    let new = core_in c.tick.new.self in
    let ids = c.top_level_items-ids.result.now in
    let all : items_at (all_items source.tree.items) (numbers_of ids) ≡ source.tree.items =
    subst (λ (t : Tree). items_at (all_items t.items) (numbers_of ids) ≡ t.items) (c.tree.ensures.value ∙ ap (λ (s : SourceTreeValue). s.tree) c.deref.ensures)
    c.top_level_items-ids.ensures.value in
    let later = c.walk_all.new.locations in
    let v = g.D.SourceDatabase.workspace c.look_at_call.new.db in
    let last = core_in c.walk_all.new.run in
    let walks : OnceGrown later v (λ env. Walks env part new last (visits_at source.tree c.in_ok-site.site (numbers_of ids))) = c.in_ok-walk_all.ensures.ok in
    handled c.args.call.now c.requires.called.due.waiting
    (handled_at_last tables w part old asked c.args.i c.args.call.now c.args.makro seen.0 source seen.1 c.requires.called c.requires.shallow ended noted brought
    reported c.in-Expands.expansion.id c.in-Expands.expansion.error c.end_call.ensures.value seen.2 seen.3 c.in_ok-note_call.ensures.ok c.in_ok-bring_helpers.ensures.ok
    c.in_ok-report_failed.ensures.ok
    new c.in_ok-tick.ensures.ok c.in_ok-site.site ids c.in_ok-site.ensures.value all
    later c.in_ok-walk_all.ensures.kept v c.in_ok-look.ensures.same last walks)

pub returns-clause-noted : goal.returns-clause-noted
returns-clause-noted g c =
    beside_follow (noted_beside (noted_follow c.in_ok-look.ensures.noted (noted_follow c.end_call.ensures.noted (noted_follow c.in_ok-note_call.ensures.noted
    (noted_follow c.in_ok-bring_helpers.ensures.noted (noted_follow c.in_ok-report_failed.ensures.noted c.in_ok-tick.ensures.noted))))))
    c.in_ok-walk_all.ensures.noted
