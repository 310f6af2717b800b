use Rattle.std.proofs.Common.{List, ℕ, rules, sym, subst, ◌∙◌}
use Rattle.std.specs.List.{All}
use Rattle.hir_def_map_rules.specs.Reaches.{by_import}
use Rattle.hir_nameres.specs.declared.nameres.path_resolution.slots.Slot.{Slot}
use Rattle.hir_worklist.specs.Settling.{WatchesEach}
use Rattle.hir_import_resolution.specs.Inner.Queue.{reads_at, slot_cmp}
use Rattle.hir_import_rules.specs.Lasting.{IsThere}
use Rattle.hir_import_resolution.specs.Inner.State.{finished_by, state_by}
use Rattle.hir_import_resolution.proofs.PathReads.{found_at, reads_use, slots_same}
use Rattle.hir_import_resolution.proofs.resolver.Resolver.watch.Goals as goal

pub returns-clause-there : goal.returns-clause-there
returns-clause-there c = λ e.
    let import = c.in-Some.import.now in
    let read = slots_same _ _ _ _ _ _ (by_import c.args.self.now.local) c.in_ok-path.path import.path _ c.path_slots-slots.ensures.value c.maps.ensures.value
    c.maps.ensures.own c.module_id.ensures.value c.in_ok-path.ensures.value in
    let all = reads_use c.args.self.now.apart (finished_by c.args.self.now) (state_by c.args.self.now) c.args.i import c.in-Use.id c.in-Use.kind
    (search (rules, c.if-not-self.false)) (found_at c.args.self.now.imports.items c.deref.result.now c.args.i import c.deref.ensures.value
    c.in-Some.ensures.lookup.3.0 c.in-Some.ensures.lookup.1) c.in-Use.is in
    subst (λ (n : ℕ). All (IsThere n) (reads_at c.args.self.now.apart (finished_by c.args.self.now) (state_by c.args.self.now) c.args.i)) (search rules)
    (subst (λ (slots : List Slot). All (IsThere c.module_count.result) slots) (read ∙ sym all) (c.in_ok-there.ensures.there (search (rules, e))))

pub returns-clause-each : goal.returns-clause-each
returns-clause-each c =
    let import = c.in-Some.import.now in
    let read = slots_same _ _ _ _ _ _ (by_import c.args.self.now.local) c.in_ok-path.path import.path _ c.path_slots-slots.ensures.value c.maps.ensures.value
    c.maps.ensures.own c.module_id.ensures.value c.in_ok-path.ensures.value in
    let all = reads_use c.args.self.now.apart (finished_by c.args.self.now) (state_by c.args.self.now) c.args.i import c.in-Use.id c.in-Use.kind
    (search (rules, c.if-not-self.false)) (found_at c.args.self.now.imports.items c.deref.result.now c.args.i import c.deref.ensures.value
    c.in-Some.ensures.lookup.3.0 c.in-Some.ensures.lookup.1) c.in-Use.is in
    subst (λ (slots : List Slot). WatchesEach slot_cmp c.watch_each.new.watchers c.args.i slots) (read ∙ sym all) c.in_ok-there.ensures.each
