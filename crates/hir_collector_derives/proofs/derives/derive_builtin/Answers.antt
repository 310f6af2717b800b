-- A path of a derive that reaches a builtin macro is handled: an impl is listed, and its helpers are brought.
use Rattle.std.proofs.Common.{rules, ◌≡◌, ◌∙◌, ◌<◌, ◌≤◌, ℕ, List, Some, ap, length, map, subst, sym}
use Rattle.either.specs.declared.Either.TheVariants as either
use Rattle.hir_collector_state.specs.HirNameres.WorldParts.{part_of}
use Rattle.hir_collector_state.proofs.HirDefMapRules.Grown.{length-changed}
use Rattle.hir_collector_state.specs.HirDefMapRules.State.{with_module_scope}
use Rattle.hir_collector_state.specs.HirMapParts.declared.derive_helpers.DeriveHelper.{DeriveHelper}
use Rattle.hir_collector_state.specs.HirCollectorRules.declared.start.TheConstants.{STEP_LIMIT}
use Rattle.hir_collector_state.specs.HirCollectorRules.declared.macro_directive.MacroDirective.{MacroDirective}
use Rattle.hir_collector_state.specs.HirCollectorRules.Calls.{DerivedCall, helper_by, helpers_brought}
use Rattle.hir_collector_state.specs.HirCollectorRules.Changes.{with_builtin_derive}
use Rattle.hir_collector_state.specs.HirCollectorRules.Moves.{Makes}
use Rattle.hir_collector_state.specs.HirCollectorRules.State.{Core, core_in}
use Rattle.hir_collector_state.specs.HirCollectorRules.Steps.{bringing, derives_builtin}
use Rattle.hir_collector_derives.proofs.CallSteps.{derived, fate_helped, past_rule}
use Rattle.hir_collector_state.proofs.Made.{count_kept}
use Rattle.hir_collector_state.proofs.Noted.{noted_follow}
use Rattle.hir_collector_derives.proofs.derives.derive_builtin.Goals as goal

pub list_derived-requires : goal.list_derived-requires
list_derived-requires c =
    record { in_range = subst (λ (e : Core). c.args.call.now.site.home < length e.map.modules) (sym c.end_call.ensures.value) c.requires.in_range }

pub note_impl-requires : goal.note_impl-requires
note_impl-requires c = record {
  in_range =
      let home : ℕ = c.args.call.now.site.home in
      let ended : Core = core_in c.end_call.new.self in
      let inside : home < length ended.map.modules = subst (λ (e : Core). home < length e.map.modules) (sym c.end_call.ensures.value) c.requires.in_range in
      subst (λ (l : Core). home < length l.map.modules) (sym c.in_ok-list_derived.ensures.ok)
      (subst (λ (n : ℕ). home < n) (sym (length-changed ended.map.modules home (with_module_scope (with_builtin_derive c.args.imp)))) inside);
}

pub returns-clause-ok : goal.returns-clause-ok
returns-clause-ok c = λ env.
    let part = part_of c.args.world in
    let old : Core = core_in c.args.run.now in
    let d : MacroDirective = c.args.call.now in
    let became : DerivedCall = Some (either.Right c.args.imp) in
    let noted : Core = core_in c.note_impl.new.self in
    let helped : Core = core_in c.help_all.new.run in
    let are : map (helper_by c.args.makro became) c.as_slice.result.now ≡ helpers_brought part old.map d c.args.makro became =
    ap (λ names. map (helper_by c.args.makro became) names) c.as_slice.ensures.value ∙ c.in_ok-names.ensures.value became in
    let brings : Makes (bringing d.ast_id (helpers_brought part old.map d c.args.makro became)) noted helped =
    subst (λ (hs : List DeriveHelper). Makes (bringing d.ast_id hs) noted helped) are c.in_ok-help_all.ensures.ok in
    derived env part old c.args.i d c.args.makro c.args.imp (core_in c.end_call.new.self) (core_in c.list_derived.new.self) noted helped
    (core_in c.tick.new.self) c.requires.builtin c.end_call.ensures.value
    c.in_ok-list_derived.ensures.ok c.note_impl.ensures.value brings c.in_ok-tick.ensures.ok

pub returns-clause-handled : goal.returns-clause-handled
returns-clause-handled c =
    let noted : Core = core_in c.note_impl.new.self in
    fate_helped (core_in c.args.run.now) noted (core_in c.help_all.new.run) (core_in c.tick.new.self) c.args.i c.args.call.now.ast_id
    (map (helper_by c.args.makro (Some (either.Right c.args.imp))) c.as_slice.result.now) c.requires.builtin.due.waiting.waits
    (ap (λ (n : Core). n.fates) c.note_impl.ensures.value ∙ ap (λ (l : Core). l.fates) c.in_ok-list_derived.ensures.ok ∙ ap (λ (e : Core). e.fates)
    c.end_call.ensures.value) c.in_ok-help_all.ensures.ok c.in_ok-tick.ensures.ok

pub returns-in_err-tick-clause-many : goal.returns-in_err-tick-clause-many
returns-in_err-tick-clause-many c = λ h env.
    let old : Core = core_in c.args.run.now in
    let noted : Core = core_in c.note_impl.new.self in
    let helped : Core = core_in c.help_all.new.run in
    let d : MacroDirective = c.args.call.now in
    let names : List DeriveHelper = map (helper_by c.args.makro (Some (either.Right c.args.imp))) c.as_slice.result.now in
    let same : helped.count ≡ old.count =
    count_kept (bringing d.ast_id names) noted helped c.in_ok-help_all.ensures.ok ∙ ap (λ (n : Core). n.count) c.note_impl.ensures.value ∙ ap
    (λ (l : Core). l.count) c.in_ok-list_derived.ensures.ok
    ∙ ap (λ (e : Core). e.count) c.end_call.ensures.value in
    past_rule env (part_of c.args.world) old (derives_builtin c.args.i d c.args.makro c.args.imp) c.requires.builtin tt tt
    (subst (λ n. STEP_LIMIT ≤ n) same (c.in_err-tick.ensures.many (search rules)))

pub returns-clause-noted : goal.returns-clause-noted
returns-clause-noted c =
    noted_follow c.end_call.ensures.noted (noted_follow c.in_ok-list_derived.ensures.noted
    (noted_follow c.note_impl.ensures.noted (noted_follow c.in_ok-help_all.ensures.noted c.in_ok-tick.ensures.noted)))
