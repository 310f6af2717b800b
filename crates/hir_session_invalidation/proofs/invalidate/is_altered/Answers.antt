-- A key that doesn't ask for the source sees what it saw; one that does sees what the source has under its crate, or what
-- stands beside the items of the expansion.
use Rattle.std.proofs.Common.{◌≡◌, ◌∙◌, sym, refl, Bool, not, true, false}
use Rattle.hir_session_state.specs.SourceEdits.{place_of}
use Rattle.hir_session_sources.specs.EditValues.{edit_value}
use Rattle.hir_session_state.proofs.NumberLemmas.{asked-place, unasked-place}
use Rattle.hir_session_sources.proofs.SourceLemmas.{look-apart, look-differs, look-same, treeless-differs, treeless-same}
use Rattle.hir_session_state.proofs.Truth.{clash}
use Rattle.hir_session_invalidation.proofs.invalidate.is_altered.Goals as goal

not_false : (b : Bool) → not b ≡ false → b ≡ true
not_false true e = refl
not_false false e = clash refl e

not_true : (b : Bool) → not b ≡ true → b ≡ false
not_true true e = clash e refl
not_true false e = refl

pub returns-then-not-asks-clause-same : goal.returns-then-not-asks-clause-same
returns-then-not-asks-clause-same c = λ _.
    look-apart c.args.source.now.inputs.now.crates c.args.source.now.tables.now c.args.source.now.inputs.now.sources (edit_value c.args.source.now.edit)
    c.args.key
    (unasked-place c.args.source.now.tables.now (place_of (edit_value c.args.source.now.edit)) c.args.source.now.number c.args.source.now.numbered c.args.key
    (sym c.asks.ensures.value ∙ c.if-not-asks.true))

pub returns-in_default-clause-same : goal.returns-in_default-clause-same
returns-in_default-clause-same c = λ same.
    treeless-same c.args.source.now.inputs.now.crates c.args.source.now.tables.now c.args.source.now.inputs.now.sources (edit_value c.args.source.now.edit)
    c.args.key
    (sym c.key_tree.ensures.value ∙ c.in_default.is)
    (asked-place c.args.source.now.tables.now (place_of (edit_value c.args.source.now.edit)) c.args.source.now.number c.args.source.now.numbered c.args.key
    (sym c.asks.ensures.value ∙ c.if-not-asks.false))
    (c.leaves_beside.ensures.exact.0 (not_false c.leaves_beside.result same))

pub returns-in_default-clause-other : goal.returns-in_default-clause-other
returns-in_default-clause-other c = λ other.
    treeless-differs c.args.source.now.inputs.now.crates c.args.source.now.tables.now c.args.source.now.inputs.now.sources (edit_value c.args.source.now.edit)
    c.args.key
    (sym c.key_tree.ensures.value ∙ c.in_default.is)
    (asked-place c.args.source.now.tables.now (place_of (edit_value c.args.source.now.edit)) c.args.source.now.number c.args.source.now.numbered c.args.key
    (sym c.asks.ensures.value ∙ c.if-not-asks.false))
    (λ alike. clash (c.leaves_beside.ensures.exact.1 alike) (not_true c.leaves_beside.result other))

pub returns-clause-same : goal.returns-clause-same
returns-clause-same c = λ same.
    look-same c.args.source.now.inputs.now.crates c.args.source.now.tables.now c.args.source.now.inputs.now.sources (edit_value c.args.source.now.edit)
    c.args.key
    c.in-Some.tree (sym c.in-Some.ensures.value)
    (asked-place c.args.source.now.tables.now (place_of (edit_value c.args.source.now.edit)) c.args.source.now.number c.args.source.now.numbered c.args.key
    (sym c.asks.ensures.value ∙ c.if-not-asks.false))
    c.in_ok-change.change.before.value c.in_ok-change.change.after.value c.in_ok-change.ensures.change.before c.in_ok-change.ensures.change.after
    (c.sees_another.ensures.same same)

pub returns-clause-other : goal.returns-clause-other
returns-clause-other c = λ other.
    look-differs c.args.source.now.inputs.now.crates c.args.source.now.tables.now c.args.source.now.inputs.now.sources (edit_value c.args.source.now.edit)
    c.args.key
    c.in-Some.tree (sym c.in-Some.ensures.value)
    (asked-place c.args.source.now.tables.now (place_of (edit_value c.args.source.now.edit)) c.args.source.now.number c.args.source.now.numbered c.args.key
    (sym c.asks.ensures.value ∙ c.if-not-asks.false))
    c.in_ok-change.change.before.value c.in_ok-change.change.after.value c.in_ok-change.ensures.change.before c.in_ok-change.ensures.change.after
    (c.sees_another.ensures.other other)
