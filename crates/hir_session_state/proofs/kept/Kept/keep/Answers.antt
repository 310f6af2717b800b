-- What was found is complete and names only what is kept, so it joins the maps, and stands where nothing was kept.
use Rattle.std.proofs.Common.{◌≡◌, ◌∙◌, ap, cond, sym, subst, Bool, Option, Some, None, false}
use Rattle.std.specs.BTreeMap.{is_at}
use Rattle.hir_collector_rules.specs.HirIds.declared.ids.MapId.{MapId}
use Rattle.hir_collector_rules.specs.HirIds.contracts.ids.MapIdOrd.TheImpl as map_order
use Rattle.hir_collector_rules.specs.declared.source_database.Key.{Key}
use Rattle.hir_collector_rules.specs.Derivation.{collected_view}
use Rattle.hir_collector_rules.specs.HirDefMapRules.Overlay.{Maps, holders_under}
use Rattle.hir_collector_rules.proofs.HirScope.Rewrites.{on_err}
use Rattle.hir_session_state.specs.Askers.{Enters, HoldsExactly, Leaves, is_asker}
use Rattle.hir_session_state.specs.Kept.{Resolutions, asked_of, finished_by, held, kept_in, resolutions_in}
use Rattle.hir_session_state.specs.Types.{KeptRun, SourceNumber}
use Rattle.hir_session_state.proofs.Asking.{held_kept, held_same, not_entered}
use Rattle.hir_session_state.proofs.Entering.{entered_part, rolled_back}
use Rattle.hir_session_state.proofs.KeptLemmas.{Runs, absent, kept_else, kept_here, may_join_there, run_aside, run_in, same_resolutions, same_runs, told}
use Rattle.hir_session_state.proofs.kept.Kept.keep.Goals as goal

-- the run stands under the id of the map, and each other where it stood
here : (runs : Runs) (run : KeptRun) (id own : MapId) → id ≡ own → run_in runs id ≡ Some run → run_in runs own ≡ Some run
here runs run id own is stands = subst (λ (j : MapId). run_in runs j ≡ Some run) is stands

others : (old new : Runs) (id own : MapId) → id ≡ own
    → ((j : MapId) → is_at (map_order.ghosts.cmp id) j ≡ false → run_in new j ≡ run_in old j)
    → (j : MapId) → is_at (map_order.ghosts.cmp own) j ≡ false → run_in new j ≡ run_in old j
others old new id own is stand =
    subst (λ (x : MapId). (j : MapId) → is_at (map_order.ghosts.cmp x) j ≡ false → run_in new j ≡ run_in old j) is stand

-- once it is dropped again, each other stands where it stood
dropped : (old mid new : Runs) (id own : MapId) → id ≡ own
    → ((j : MapId) → is_at (map_order.ghosts.cmp id) j ≡ false → run_in mid j ≡ run_in old j)
    → ((j : MapId) → run_in new j ≡ cond (is_at (map_order.ghosts.cmp id) j) None (run_in mid j))
    → (j : MapId) → is_at (map_order.ghosts.cmp own) j ≡ false → run_in new j ≡ run_in old j
dropped old mid new id own is stand gone =
    others old new id own is (λ j off. gone j ∙ ap (λ (b : Bool). cond b None (run_in mid j)) off ∙ stand j off)

pub put_run-requires : goal.put_run-requires
put_run-requires c = record {
  fresh = subst (λ (j : MapId). (n : SourceNumber) (k : Key) → is_asker c.args.askers.now n k j ≡ false) (sym c.id-id.ensures.value)
      (not_entered c.args.tables.now c.args.self.now c.args.askers.now c.requires.exact c.args.found.map.id c.requires.free);
}

pub join-requires : goal.join-requires
join-requires c = record {
  may = may_join_there c.self.inside.world.maps c.self.inside.runs.by_place c.args.self.now c.self.view_is c.args.found.map c.args.found.local
      c.requires.free c.requires.complete;
}

pub returns-in_err-put_run-clause-exact : goal.returns-in_err-put_run-clause-exact
returns-in_err-put_run-clause-exact c =
    subst (λ (kept : Resolutions). HoldsExactly c.args.tables.now kept c.put_run.new.askers)
    (sym (same_runs c.self.inside.world.maps c.self.inside.runs.by_place c.put_run.new.runs.by_place c.in_err-put_run.ensures.err ∙ c.self.view_is))
    (held_same c.args.tables.now c.args.self.now c.args.askers.now c.requires.exact c.put_run.new.askers c.in_err-put_run.ensures.same)

pub returns-in_err-put_run-clause-err : goal.returns-in_err-put_run-clause-err
returns-in_err-put_run-clause-err c =
    on_err c.from_residual-in_err-put_run.result
    (same_runs c.self.inside.world.maps c.self.inside.runs.by_place c.put_run.new.runs.by_place c.in_err-put_run.ensures.err ∙ c.self.view_is)

-- ---- the map joined

pub returns-in-Ok-clause-here : goal.returns-in-Ok-clause-here
returns-in-Ok-clause-here c =
    kept_here c.self.inside.world.maps c.join.new.world.maps c.self.inside.runs.by_place c.put_run.new.runs.by_place c.args.found.map c.args.found.local
    (record { leftover = c.args.found.leftover; round_limit_met = c.args.found.round_limit_met; asked = c.args.found.asked })
    c.in-Ok.ensures.maps
    (here c.put_run.new.runs.by_place _ c.id-id.result c.args.found.map.id c.id-id.ensures.value c.in_ok-put_run.ensures.here)
    (others c.self.inside.runs.by_place c.put_run.new.runs.by_place c.id-id.result c.args.found.map.id c.id-id.ensures.value c.in_ok-put_run.ensures.others)
    (absent c.self.inside.world.maps c.self.inside.runs.by_place c.args.self.now c.self.view_is c.args.found.map.id c.requires.free)
    ∙ ap (λ (finished : Maps). Some (held (collected_view c.args.found) (holders_under finished c.args.found.map.id c.args.found.map.holder)))
    (told c.self.inside.world.maps c.self.inside.runs.by_place ∙ ap finished_by c.self.view_is)

pub returns-in-Ok-clause-others : goal.returns-in-Ok-clause-others
returns-in-Ok-clause-others c id ne =
    kept_else c.self.inside.world.maps c.join.new.world.maps c.self.inside.runs.by_place c.put_run.new.runs.by_place c.args.found.map c.args.found.local
    (record { leftover = c.args.found.leftover; round_limit_met = c.args.found.round_limit_met; asked = c.args.found.asked })
    c.in-Ok.ensures.maps
    (here c.put_run.new.runs.by_place _ c.id-id.result c.args.found.map.id c.id-id.ensures.value c.in_ok-put_run.ensures.here)
    (others c.self.inside.runs.by_place c.put_run.new.runs.by_place c.id-id.result c.args.found.map.id c.id-id.ensures.value c.in_ok-put_run.ensures.others)
    (absent c.self.inside.world.maps c.self.inside.runs.by_place c.args.self.now c.self.view_is c.args.found.map.id c.requires.free)
    id ne
    ∙ ap (λ (kept : Resolutions). kept_in kept id) c.self.view_is

pub returns-in-Ok-clause-exact : goal.returns-in-Ok-clause-exact
returns-in-Ok-clause-exact c =
    held_kept c.args.tables.now c.args.self.now c.args.askers.now c.requires.exact c.put_run.new.askers
    (resolutions_in c.join.new.world.maps c.put_run.new.runs.by_place) c.args.found.map.id
    (held (collected_view c.args.found) (holders_under (finished_by c.args.self.now) c.args.found.map.id c.args.found.map.holder)) c.requires.free
    (returns-in-Ok-clause-here c) (returns-in-Ok-clause-others c)
    (subst (λ (j : MapId). Enters c.args.tables.now c.args.askers.now c.put_run.new.askers c.args.found.asked j) c.id-id.ensures.value
    c.in_ok-put_run.ensures.entered)

-- ---- it did not

pub returns-in-Err-clause-err : goal.returns-in-Err-clause-err
returns-in-Err-clause-err c =
    same_resolutions c.self.inside.world.maps c.join.new.world.maps c.drop_run.new.runs.by_place c.in-Err.ensures.err
    ∙ run_aside c.self.inside.world.maps c.self.inside.runs.by_place c.drop_run.new.runs.by_place c.args.found.map.id
    (dropped c.self.inside.runs.by_place c.put_run.new.runs.by_place c.drop_run.new.runs.by_place c.id-id.result c.args.found.map.id c.id-id.ensures.value
    c.in_ok-put_run.ensures.others c.drop_run.ensures.runs.0)
    (absent c.self.inside.world.maps c.self.inside.runs.by_place c.args.self.now c.self.view_is c.args.found.map.id c.requires.free)
    ∙ c.self.view_is

pub returns-in-Err-clause-exact : goal.returns-in-Err-clause-exact
returns-in-Err-clause-exact c =
    subst (λ (kept : Resolutions). HoldsExactly c.args.tables.now kept c.drop_run.new.askers) (sym (returns-in-Err-clause-err c))
    (held_same c.args.tables.now c.args.self.now c.args.askers.now c.requires.exact c.drop_run.new.askers
    (rolled_back c.args.tables.now c.args.askers.now c.put_run.new.askers c.drop_run.new.askers c.args.found.asked c.id-id.result
    (subst (λ (j : MapId). (n : SourceNumber) (k : Key) → is_asker c.args.askers.now n k j ≡ false) (sym c.id-id.ensures.value)
    (not_entered c.args.tables.now c.args.self.now c.args.askers.now c.requires.exact c.args.found.map.id c.requires.free))
    (entered_part c.args.tables.now c.args.askers.now c.put_run.new.askers c.args.found.asked c.id-id.result c.in_ok-put_run.ensures.entered)
    (subst (λ (o : Option KeptRun). Leaves c.args.tables.now c.put_run.new.askers c.drop_run.new.askers (asked_of o) c.id-id.result)
    c.in_ok-put_run.ensures.here c.drop_run.ensures.left)))
