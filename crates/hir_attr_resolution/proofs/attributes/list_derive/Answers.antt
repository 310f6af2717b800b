-- The call of a `derive` gets a number, its paths wait, and it is noted.
use Rattle.std.proofs.Common.{rules, ◌∙◌, ◌<◌, ap, length, subst, sym}
use Rattle.hir_collector_state.specs.HirCollectorRules.Invocations.{derive_met, with_noted}
use Rattle.hir_collector_state.specs.HirCollectorRules.State.{Core, with_map}
use Rattle.hir_collector_state.proofs.Noted.{noted_follow}
use Rattle.hir_attr_resolution.proofs.attributes.list_derive.Goals as goal

pub note_derive-requires : goal.note_derive-requires
note_derive-requires c = record {
  in_range = subst (λ (m : Core). c.args.site.now.home < length m.map.modules) (sym c.in_ok-await_derives.ensures.ok) c.requires.in_range;
}

pub returns-clause-ok : goal.returns-clause-ok
returns-clause-ok c = record {
  call = c.in_ok-call.call;
  numbered = c.in_ok-call.ensures.ok;
  is = c.in_ok-note_derive.ensures.ok
      ∙ ap (λ (m : Core). with_map m (with_noted m.map c.args.site.now.home (derive_met c.args.node c.args.attr c.in_ok-call.call c.args.paths.now)))
      c.in_ok-await_derives.ensures.ok;
}

pub returns-clause-noted : goal.returns-clause-noted
returns-clause-noted c = noted_follow c.in_ok-await_derives.ensures.noted c.in_ok-note_derive.ensures.noted

-- no number is left
pub returns-in_err-call-clause-many : goal.returns-in_err-call-clause-many
returns-in_err-call-clause-many c = λ h. c.in_err-call.ensures.many (search rules)
