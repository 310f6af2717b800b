-- What was found is what was made before; what is made now joins it.
use Rattle.std.proofs.Common.{◌≡◌, ◌∙◌, ap, sym, subst, Option, option_map}
use Rattle.std.specs.declared.alloc.Global.{Global}
use Rattle.std.specs.declared.rc.Rc.{Rc}
use Rattle.hir_session_state.specs.HirItemTree.Source.{SourceValue, source_view}
use Rattle.hir_session_state.specs.HirItemTree.SourceTree.{SourceTreeValue}
use Rattle.hir_session_state.specs.HirTables.SourcePlaces.{SourcePlaceValue}
use Rattle.hir_session_state.specs.Inputs.{InputsValue}
use Rattle.hir_session_invalidation.specs.Invalidated.{AreChanges}
use Rattle.hir_session_state.specs.SourceEdits.{SourceEditValue, place_of, source_by}
use Rattle.hir_session_sources.specs.EditValues.{edit_value}
use Rattle.hir_session_state.specs.SourceTable.{source_at, tree_under}
use Rattle.hir_session_invalidation.specs.declared.invalidate.Changes.{Changes}
use Rattle.hir_session_sources.proofs.Changing.{one_more_tree}
use Rattle.hir_session_invalidation.proofs.invalidate.change_under.Goals as goal
use Rattle.hir_session_invalidation.proofs.invalidate.change_under.Goals.{in-Some+in-None-1, in-None-1}

abbrev tree_of : Rc SourceTreeValue Global → SourceTreeValue
tree_of t = t.value

pub returns-in-Some-Some-clause-change : goal.returns-in-Some-Some-clause-change
returns-in-Some-Some-clause-change c = record {
  before =
      c.in_ok-clone.ensures.cases ∙ c.requires.changes.before.each c.args.krate c.in-Some-Some.before.now.value
      (sym (ap (option_map tree_of) c.in-Some-Some.ensures.value));
  after =
      c.in_ok-clone-2.ensures.cases ∙ c.requires.changes.after.each c.args.krate c.in-Some-Some.after.now.value
      (sym (ap (option_map tree_of) c.in-Some-Some.ensures'.value));
}

pub returns-clause-changes : goal.returns-clause-changes
returns-clause-changes c =
    let i : InputsValue = c.args.source.now.inputs.now in
    let e : SourceEditValue = edit_value c.args.source.now.edit in
    let held : AreChanges i e c.match-get.changes = elim c.match-get.branch [
      | in-Some+in-None-1 w ↦ subst (λ (x : Changes). AreChanges i e x) (sym w.changes-is) c.requires.changes
      | in-None-1 w ↦ subst (λ (x : Changes). AreChanges i e x) (sym w.changes-is) c.requires.changes
    ] in
    let before : c.in_ok-before.before.value ≡ tree_under i.crates c.args.krate.0 (place_of e) (source_at i.sources (place_of e)) =
    subst (λ (p : SourcePlaceValue). c.in_ok-before.before.value ≡ tree_under i.crates c.args.krate.0 p (source_at i.sources p)) c.place.ensures.value
    c.in_ok-before.ensures.value in
    let after : c.in_ok-after.after.value ≡ tree_under i.crates c.args.krate.0 (place_of e) (source_by e) =
    subst (λ (o : Option SourceValue). c.in_ok-after.after.value ≡ tree_under i.crates c.args.krate.0 (place_of e) o) c.source.ensures.value
    (subst (λ (p : SourcePlaceValue). c.in_ok-after.after.value ≡ tree_under i.crates c.args.krate.0 p (option_map (λ s. source_view s.now) c.source.result))
    c.place-2.ensures.value c.in_ok-after.ensures.value) in
    record {
      before =
          one_more_tree i.crates (place_of e) (source_at i.sources (place_of e)) c.match-get.changes.before c.insert.new.self c.args.krate
          c.in_ok-clone-3.field-0
          (c.in_ok-clone-3.ensures.cases ∙ before) held.before c.in_ok-insert.ensures.updates.0;
      after = one_more_tree i.crates (place_of e) (source_by e) c.match-get.changes.after c.insert-2.new.self c.args.krate c.in_ok-clone-4.field-0
          (c.in_ok-clone-4.ensures.cases ∙ after) held.after c.in_ok-insert-2.ensures.updates.0;
    }
