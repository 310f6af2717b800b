-- What is due is done about what waits.
use Rattle.std.proofs.Common.{rules, ◌≡◌, ◌∙◌, Some, None, ap, refl, slice_get, subst, sym}
use Rattle.hir_mod_collector.specs.HirNameres.WorldParts.{part_of}
use Rattle.hir_macro_calls.specs.declared.due.Due.TheVariants.{Derives, Drops, Nothing, Reaches, Skips, TooDeep}
use Rattle.hir_mod_collector.specs.HirCollectorRules.declared.macro_directive.Fate.TheVariants.{Handled, Waits}
use Rattle.hir_mod_collector.specs.HirCollectorRules.CallMoves.{handled, left}
use Rattle.hir_macro_calls.specs.Due.{IsDueOf}
use Rattle.hir_mod_collector.specs.HirCollectorRules.Calls.{waiting_item}
use Rattle.hir_mod_collector.specs.HirCollectorRules.Keys.{environment}
use Rattle.hir_mod_collector.specs.HirCollectorRules.State.{Core, at_rest, core_in}
use Rattle.hir_mod_collector.specs.HirCollectorRules.Steps.{IsDeep, drops_call, none}
use Rattle.hir_collector_derives.proofs.CallSteps.{dropped, past_rule}
use Rattle.hir_mod_collector.proofs.HirCollectorRules.Lists.{get_inside, get_set_same}
use Rattle.hir_mod_collector.proofs.HirCollectorRules.Numbers.{known_step, refused_step}
use Rattle.hir_macro_calls.proofs.GivingUp.{has_impl, nothing_due}
use Rattle.hir_macro_calls.proofs.Meeting.{meets_none}
use Rattle.hir_mod_collector.proofs.HirCollectorState.Noted.{noted_beside, noted_itself}
use Rattle.hir_macro_rounds.proofs.calls.do_due.Goals as goal

-- nothing is
pub returns-in-Nothing-clause-ok : goal.returns-in-Nothing-clause-ok
returns-in-Nothing-clause-ok g c = λ grown k. none

pub returns-in-Nothing-clause-noted : goal.returns-in-Nothing-clause-noted
returns-in-Nothing-clause-noted g c = noted_beside (noted_itself c.args.run.now)

pub returns-in-Nothing-clause-tried : goal.returns-in-Nothing-clause-tried
returns-in-Nothing-clause-tried g c =
    let part = part_of c.args.world in
    let due : IsDueOf part (core_in c.args.run.now) c.args.i c.args.call.now Nothing = subst (IsDueOf part (core_in c.args.run.now) c.args.i c.args.call.now) c.in-Nothing.is
    c.requires.due in
    left (meets_none _ _ refl) (nothing_due part (core_in c.args.run.now) c.args.i c.args.call.now c.requires.waits.waiting due)

-- a call that is too deep is dropped
pub returns-in_err-drop_call-in-TooDeep-clause-many : goal.returns-in_err-drop_call-in-TooDeep-clause-many
returns-in_err-drop_call-in-TooDeep-clause-many g c = λ h grown k.
    let part = part_of c.args.world in
    let due : IsDueOf part (core_in c.args.run.now) c.args.i c.args.call.now TooDeep = subst (IsDueOf part (core_in c.args.run.now) c.args.i c.args.call.now) c.in-TooDeep.is
    c.requires.due in
    let deep : IsDeep (at_rest (core_in c.args.run.now)) c.args.i c.args.call.now = record { due = c.requires.waits; is_call = due.0; deep = due.1 } in
    past_rule (environment grown (g.D.SourceDatabase.workspace c.args.db.now)) part (core_in c.args.run.now) (drops_call c.args.i c.args.call.now) deep tt tt
    (c.in_err-drop_call-in-TooDeep.ensures.many (sym c.in_err-drop_call-in-TooDeep.was ∙ refused_step _ _ _ c.in_err-drop_call-in-TooDeep.was
    c.from_residual.ensures.1 h))

pub returns-in_ok-drop_call-in-TooDeep-clause-ok : goal.returns-in_ok-drop_call-in-TooDeep-clause-ok
returns-in_ok-drop_call-in-TooDeep-clause-ok g c = λ grown k.
    let part = part_of c.args.world in
    let due : IsDueOf part (core_in c.args.run.now) c.args.i c.args.call.now TooDeep = subst (IsDueOf part (core_in c.args.run.now) c.args.i c.args.call.now) c.in-TooDeep.is
    c.requires.due in
    let deep : IsDeep (at_rest (core_in c.args.run.now)) c.args.i c.args.call.now = record { due = c.requires.waits; is_call = due.0; deep = due.1 } in
    dropped (environment grown (g.D.SourceDatabase.workspace c.args.db.now)) part (core_in c.args.run.now) c.args.i c.args.call.now
    (core_in c.drop_call.new.run) deep
    c.in_ok-drop_call-in-TooDeep.ensures.ok

pub returns-in_ok-drop_call-in-TooDeep-clause-tried : goal.returns-in_ok-drop_call-in-TooDeep-clause-tried
returns-in_ok-drop_call-in-TooDeep-clause-tried g c =
    let old : Core = core_in c.args.run.now in
    handled c.args.call.now c.requires.waits.waiting
    (ap (λ (x : Core). slice_get x.fates c.args.i) c.in_ok-drop_call-in-TooDeep.ensures.ok ∙ get_set_same old.fates c.args.i Handled
    (get_inside old.fates c.args.i Waits c.requires.waits.waiting.waits))

-- the item of an attribute for which nothing is looked up goes on
pub returns-in_default-clause-ok : goal.returns-in_default-clause-ok
returns-in_default-clause-ok g c = λ grown k. none

pub returns-in_default-clause-noted : goal.returns-in_default-clause-noted
returns-in_default-clause-noted g c = noted_beside (noted_itself c.args.run.now)

-- it has an item
pub returns-in_default-clause-tried : goal.returns-in_default-clause-tried
returns-in_default-clause-tried g c =
    let part = part_of c.args.world in
    let due : IsDueOf part (core_in c.args.run.now) c.args.i c.args.call.now Skips = subst (IsDueOf part (core_in c.args.run.now) c.args.i c.args.call.now) c.in-Skips.is
    c.requires.due in
    let missing : waiting_item c.args.call.now ≡ None = sym c.in_default.ensures.value in
    let there : waiting_item c.args.call.now ≡ Some due.0 = due.1 in
    absurd (let no : ⊥ = cc in no)

pub skip-requires-clause-of : goal.skip-requires-clause-of
skip-requires-clause-of g c = sym c.in-Some.ensures.value

pub skip-requires-clause-passed : goal.skip-requires-clause-passed
skip-requires-clause-passed g c =
    let part = part_of c.args.world in
    let due : IsDueOf part (core_in c.args.run.now) c.args.i c.args.call.now Skips = subst (IsDueOf part (core_in c.args.run.now) c.args.i c.args.call.now) c.in-Skips.is
    c.requires.due in
    due.2

pub returns-in_ok-skip-in-Skips-clause-tried : goal.returns-in_ok-skip-in-Skips-clause-tried
returns-in_ok-skip-in-Skips-clause-tried g c = handled c.args.call.now c.requires.waits.waiting c.in_ok-skip-in-Skips.ensures.handled

-- a path of a derive that reaches a builtin macro stands for an impl
pub returns-in_default-builtin_impl-clause-ok : goal.returns-in_default-builtin_impl-clause-ok
returns-in_default-builtin_impl-clause-ok g c = λ grown k. none

pub returns-in_default-builtin_impl-clause-noted : goal.returns-in_default-builtin_impl-clause-noted
returns-in_default-builtin_impl-clause-noted g c = noted_beside (noted_itself c.args.run.now)

-- it is a path of a derive
pub returns-in_default-builtin_impl-clause-tried : goal.returns-in_default-builtin_impl-clause-tried
returns-in_default-builtin_impl-clause-tried g c =
    let part = part_of c.args.world in
    let due : IsDueOf part (core_in c.args.run.now) c.args.i c.args.call.now (Derives c.in-Derives.makro) =
    subst (IsDueOf part (core_in c.args.run.now) c.args.i c.args.call.now) c.in-Derives.is c.requires.due in
    absurd (has_impl c.in-Derives.makro c.args.call.now.kind due.0.builtin due.1 (sym c.in_default-builtin_impl.ensures.value))

pub derive_builtin-requires-clause-in_range : goal.derive_builtin-requires-clause-in_range
derive_builtin-requires-clause-in_range g c = c.requires.ready.calls c.args.i c.args.call.now c.requires.waits.waiting.call

pub derive_builtin-requires-clause-builtin : goal.derive_builtin-requires-clause-builtin
derive_builtin-requires-clause-builtin g c =
    let part = part_of c.args.world in
    let due : IsDueOf part (core_in c.args.run.now) c.args.i c.args.call.now (Derives c.in-Derives.makro) =
    subst (IsDueOf part (core_in c.args.run.now) c.args.i c.args.call.now) c.in-Derives.is c.requires.due in
    record { due = c.requires.waits; reaches = due.0.reaches; builtin = due.0.builtin; is = sym c.in-Some-builtin_impl.ensures.value }

pub returns-in_err-derive_builtin-in-Derives-clause-many : goal.returns-in_err-derive_builtin-in-Derives-clause-many
returns-in_err-derive_builtin-in-Derives-clause-many g c = λ h grown k.
    c.in_err-derive_builtin-in-Derives.ensures.many
    (sym c.in_err-derive_builtin-in-Derives.was ∙ refused_step _ _ _ c.in_err-derive_builtin-in-Derives.was
    c.from_residual-in_err-derive_builtin-in-Derives.ensures.1 h)
    (environment grown (g.D.SourceDatabase.workspace c.args.db.now))

pub returns-in_ok-derive_builtin-in-Derives-clause-ok : goal.returns-in_ok-derive_builtin-in-Derives-clause-ok
returns-in_ok-derive_builtin-in-Derives-clause-ok g c =
    λ grown k. c.in_ok-derive_builtin-in-Derives.ensures.ok (environment grown (g.D.SourceDatabase.workspace c.args.db.now))

pub returns-in_ok-derive_builtin-in-Derives-clause-tried : goal.returns-in_ok-derive_builtin-in-Derives-clause-tried
returns-in_ok-derive_builtin-in-Derives-clause-tried g c = handled c.args.call.now c.requires.waits.waiting c.in_ok-derive_builtin-in-Derives.ensures.handled

-- what reaches another macro and is too deep brings its helpers
pub drop_reached-requires : goal.drop_reached-requires
drop_reached-requires g c =
    let part = part_of c.args.world in
    let due : IsDueOf part (core_in c.args.run.now) c.args.i c.args.call.now (Drops c.in-Drops.makro) =
    subst (IsDueOf part (core_in c.args.run.now) c.args.i c.args.call.now) c.in-Drops.is c.requires.due in
    record {
      deep = record {
        called = record { due = c.requires.waits; active = due.0.active; reaches = due.0.reaches; expands = due.0.expands };
        no_call = due.1;
        deep = due.2;
      };
    }

pub returns-in_err-drop_reached-in-Drops-clause-many : goal.returns-in_err-drop_reached-in-Drops-clause-many
returns-in_err-drop_reached-in-Drops-clause-many g c = λ h grown k.
    c.in_err-drop_reached-in-Drops.ensures.many (sym c.in_err-drop_reached-in-Drops.was ∙ refused_step _ _ _ c.in_err-drop_reached-in-Drops.was
    c.from_residual-in_err-drop_reached-in-Drops.ensures.1 h)
    (environment grown (g.D.SourceDatabase.workspace c.args.db.now))

pub returns-in_ok-drop_reached-in-Drops-clause-ok : goal.returns-in_ok-drop_reached-in-Drops-clause-ok
returns-in_ok-drop_reached-in-Drops-clause-ok g c =
    λ grown k. c.in_ok-drop_reached-in-Drops.ensures.ok (environment grown (g.D.SourceDatabase.workspace c.args.db.now))

pub returns-in_ok-drop_reached-in-Drops-clause-tried : goal.returns-in_ok-drop_reached-in-Drops-clause-tried
returns-in_ok-drop_reached-in-Drops-clause-tried g c = handled c.args.call.now c.requires.waits.waiting c.in_ok-drop_reached-in-Drops.ensures.handled

-- and what isn't is expanded
pub expand-requires-clause-called : goal.expand-requires-clause-called
expand-requires-clause-called g c =
    let part = part_of c.args.world in
    let due : IsDueOf part (core_in c.args.run.now) c.args.i c.args.call.now (Reaches c.in-Reaches.makro) =
    subst (IsDueOf part (core_in c.args.run.now) c.args.i c.args.call.now) c.in-Reaches.is c.requires.due in
    record { due = c.requires.waits; active = due.0.active; reaches = due.0.reaches; expands = due.0.expands }

pub expand-requires-clause-shallow : goal.expand-requires-clause-shallow
expand-requires-clause-shallow g c =
    let part = part_of c.args.world in
    let due : IsDueOf part (core_in c.args.run.now) c.args.i c.args.call.now (Reaches c.in-Reaches.makro) =
    subst (IsDueOf part (core_in c.args.run.now) c.args.i c.args.call.now) c.in-Reaches.is c.requires.due in
    due.1

pub expand-requires-clause-below : goal.expand-requires-clause-below
expand-requires-clause-below g c = c.requires.below c.in-Reaches.makro c.in-Reaches.is

-- what is dropped or derived is noted whatever maps are finished
pub returns-in_ok-drop_call-in-TooDeep-clause-noted : goal.returns-in_ok-drop_call-in-TooDeep-clause-noted
returns-in_ok-drop_call-in-TooDeep-clause-noted g c = noted_beside c.in_ok-drop_call-in-TooDeep.ensures.noted

pub returns-in_ok-derive_builtin-in-Derives-clause-noted : goal.returns-in_ok-derive_builtin-in-Derives-clause-noted
returns-in_ok-derive_builtin-in-Derives-clause-noted g c = noted_beside c.in_ok-derive_builtin-in-Derives.ensures.noted

pub returns-in_ok-drop_reached-in-Drops-clause-noted : goal.returns-in_ok-drop_reached-in-Drops-clause-noted
returns-in_ok-drop_reached-in-Drops-clause-noted g c = noted_beside c.in_ok-drop_reached-in-Drops.ensures.noted

-- ---- no step meets an unknown source, and what is expanded may

pub returns-in_err-drop_call-in-TooDeep-clause-unknown : goal.returns-in_err-drop_call-in-TooDeep-clause-unknown
returns-in_err-drop_call-in-TooDeep-clause-unknown g c = λ h. absurd (known_step _ _ c.from_residual.ensures.1 h)

pub returns-in_err-skip-in-Skips-clause-many : goal.returns-in_err-skip-in-Skips-clause-many
returns-in_err-skip-in-Skips-clause-many g c =
    λ h. c.in_err-skip-in-Skips.ensures.many (sym c.in_err-skip-in-Skips.was ∙ refused_step _ _ _ c.in_err-skip-in-Skips.was
    c.from_residual-in_err-skip-in-Skips.ensures.1 h)

pub returns-in_err-skip-in-Skips-clause-unknown : goal.returns-in_err-skip-in-Skips-clause-unknown
returns-in_err-skip-in-Skips-clause-unknown g c = λ h. absurd (known_step _ _ c.from_residual-in_err-skip-in-Skips.ensures.1 h)

pub returns-in_err-derive_builtin-in-Derives-clause-unknown : goal.returns-in_err-derive_builtin-in-Derives-clause-unknown
returns-in_err-derive_builtin-in-Derives-clause-unknown g c = λ h. absurd (known_step _ _ c.from_residual-in_err-derive_builtin-in-Derives.ensures.1 h)

pub returns-in_err-drop_reached-in-Drops-clause-unknown : goal.returns-in_err-drop_reached-in-Drops-clause-unknown
returns-in_err-drop_reached-in-Drops-clause-unknown g c = λ h. absurd (known_step _ _ c.from_residual-in_err-drop_reached-in-Drops.ensures.1 h)

pub returns-in-Reaches-clause-unknown : goal.returns-in-Reaches-clause-unknown
returns-in-Reaches-clause-unknown g c = λ h. record { at = at_rest (core_in c.args.run.now); steps = none; reaches = c.expand.ensures.unknown h }
