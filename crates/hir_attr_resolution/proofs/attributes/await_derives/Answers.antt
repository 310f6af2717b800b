-- Each path is listed, one after another.
use Rattle.std.proofs.Common.{rules, ◌≡◌, ◌∙◌, ◌∷◌, ◌+◌, ◌≤◌, ℕ, List, ap, drop, get_or, length, refl, subst, sym}
use Rattle.std.proofs.lemmas.List.{drop_all, drop_more}
use Rattle.hir_collector_state.specs.HirBase.ModPath.{Path}
use Rattle.hir_collector_state.specs.HirUseTree.UseTree.{count_of}
use Rattle.hir_collector_state.specs.HirCollectorRules.declared.macro_directive.MacroDirective.{MacroDirective}
use Rattle.hir_collector_state.specs.HirCollectorRules.State.{Core, core_in, with_calls}
use Rattle.hir_collector_state.specs.HirCollectorRules.Steps.{derive_at, derives_from}
use Rattle.hir_attr_resolution.proofs.Deriving.{no_more_calls, one_more_call}
use Rattle.hir_collector_state.proofs.Noted.{noted_follow, noted_itself}
use Rattle.hir_attr_resolution.proofs.attributes.await_derives.Goals as goal

pub loop-path-init : goal.loop-path-init
loop-path-init c = record { all = refl; noted = noted_itself c.args.run.now }

pub loop-path-preserved : goal.loop-path-preserved
loop-path-preserved c =
    let now : Core = core_in c.loop-path.run in
    let paths : List Path = c.args.paths.now in
    let left : List Path = drop (c.loop-path.path-index + 1) paths in
    let path : Path = c.path-item.result in
    let from : ℕ → List Path → List MacroDirective = derives_from c.args.site.now c.args.node c.args.attr c.args.adt in
    let here : MacroDirective = derive_at c.args.site.now c.args.node c.args.attr c.args.adt c.loop-path.index path in
    let at : get_or paths c.loop-path.path-index path ≡ path = search (rules, c.path-item.is) in
    let split : drop c.loop-path.path-index paths ≡ path ∷ left = drop_more paths c.loop-path.path-index path c.loop-path-test.true ∙ ap
    (λ (p : Path). p ∷ left) at in
    record {
      all =
          ap (λ (n : ℕ). with_calls (core_in c.await_derive.new.run) (from n left)) c.place_after-index.ensures.value
          ∙ ap (λ (core : Core). with_calls core (from (count_of (c.loop-path.index + 1)) left)) c.in_ok-await_derive.ensures.ok ∙ one_more_call now here
          (from (count_of (c.loop-path.index + 1)) left)
          ∙ ap (λ (ps : List Path). with_calls now (from c.loop-path.index ps)) (sym split) ∙ c.loop-path.invariant.all;
      noted = noted_follow c.loop-path.invariant.noted c.in_ok-await_derive.ensures.noted;
    }

pub returns-clause-ok : goal.returns-clause-ok
returns-clause-ok c =
    let from : ℕ → List Path → List MacroDirective = derives_from c.args.site.now c.args.node c.args.attr c.args.adt in
    let over : length c.args.paths.now ≤ c.loop-path.path-index = c.loop-path-test.false in
    sym (no_more_calls (core_in c.loop-path.run))
    ∙ subst (λ (paths : List Path). with_calls (core_in c.loop-path.run) (from c.loop-path.index paths) ≡ with_calls (core_in c.args.run.now)
    (from 0 c.args.paths.now)) (drop_all c.loop-path.path-index c.args.paths.now over)
    c.loop-path.invariant.all

pub returns-clause-noted : goal.returns-clause-noted
returns-clause-noted c = c.loop-path.invariant.noted
