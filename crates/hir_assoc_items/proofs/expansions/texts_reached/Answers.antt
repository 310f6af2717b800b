-- One more path reaches a macro in each turn.
use Rattle.std.proofs.Common.{rules, ◌≡◌, ◌∙◌, ◌∷◌, ◌++◌, ◌+◌, List, Some, ap, drop, get_or, subst, sym}
use Rattle.std.proofs.lemmas.List.{drop_more}
use Rattle.hir_collector_rules.specs.HirBase.ModPath.{Path}
use Rattle.hir_collector_rules.specs.HirBase.declared.macro_kind.MacroText.{MacroText}
use Rattle.hir_collector_rules.specs.Calls.{text_by}
use Rattle.hir_collector_rules.specs.Keys.{environment}
use Rattle.hir_collector_rules.specs.Workspace.{Workspace}
use Rattle.hir_assoc_items.specs.AssocItems.{first_missing, macro_called, macro_text, texts_reached}
use Rattle.hir_assoc_items.specs.Steps.{container_view}
use Rattle.hir_assoc_items.proofs.Growth.{AreKnown, known_more, missing_more, texts_more}
use Rattle.hir_assoc_items.proofs.expansions.texts_reached.Goals as goal

pub loop-path-preserved : goal.loop-path-preserved
loop-path-preserved g c =
    let w = g.D.SourceDatabase.workspace c.args.db.now in
    let tables = c.args.locations.now in
    let of = container_view c.args.container.now in
    let env = environment tables w in
    let paths : List Path = c.args.paths.now in
    let path : Path = c.path-item.result in
    let left : List Path = drop (c.loop-path.path-index + 1) paths in
    let makro = c.in-Some.makro in
    let at : get_or paths c.loop-path.path-index path ≡ path = search (rules, c.path-item.is) in
    let split : drop c.loop-path.path-index paths ≡ path ∷ left = drop_more paths c.loop-path.path-index path c.loop-path-test.true ∙ ap
    (λ (p : Path). p ∷ left) at in
    let reach : macro_called of path ≡ Some makro = sym c.called_macro.ensures.value ∙ c.in-Some.is in
    let meant = c.is_meant.ensures.meant.0 c.if-not-is_meant.false in
    let told : c.in_ok-told.told ≡ text_by (record { makro = makro; text = macro_text env of.maps makro }) =
    c.in_ok-told.ensures.value
    ∙ ap (λ (v : Workspace). text_by (record { makro = makro; text = macro_text (environment tables v) of.maps makro })) c.loop-path.invariant.same in
    record {
      same = c.in_ok-told.ensures.same ∙ c.loop-path.invariant.same;
      missing = missing_more of path left makro reach (first_missing of paths) (ap (first_missing of) (sym split) ∙ c.loop-path.invariant.missing);
      texts = ap (λ (ts : List MacroText). ts ++ texts_reached env of left) c.in_ok-push.ensures.items
          ∙ texts_more of path left makro reach env c.loop-path.texts.items (texts_reached env of paths) c.in_ok-told.told told
          (ap (λ (ps : List Path). c.loop-path.texts.items ++ texts_reached env of ps) (sym split) ∙ c.loop-path.invariant.texts);
      known = λ known.
          c.loop-path.invariant.known (subst (AreKnown tables of) (sym split) (known_more of path left makro reach tables meant known));
    }
