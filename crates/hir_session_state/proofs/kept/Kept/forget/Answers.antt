-- One more place is gone.
use Rattle.std.proofs.Common.{◌∙◌, ap, sym, subst, ◌<◌, List, length, get_or, None}
use Rattle.hir_collector_rules.specs.HirIds.declared.ids.MapId.{MapId}
use Rattle.hir_session_state.proofs.KeptLemmas.{either, forgetting-more, forgetting-start, listed}
use Rattle.hir_session_state.proofs.Listing.{listing-more, listing-start}
use Rattle.hir_session_state.proofs.kept.Kept.forget.Goals as goal

-- what stands where there is no element
abbrev no_place : MapId
no_place = record { krate = record { 0 = 0 }; block = None }

pub loop-id-init : goal.loop-id-init
loop-id-init c = record {
  forgetting = forgetting-start c.args.self.now c.args.ids.now.items;
  exact = c.requires.exact;
  listed = listing-start c.args.self.now c.args.fell.now;
}

pub loop-id-preserved : goal.loop-id-preserved
loop-id-preserved c =
    let ids : List MapId = c.args.ids.now.items in
    let at = c.loop-id.id-index in
    let within : at < length ids = subst (λ (xs : List MapId). at < length xs) c.deref-id-items.ensures.value c.loop-id-test.true in
    record {
      forgetting =
          forgetting-more c.args.self.now c.loop-id.self c.forget_one.new.self ids at _ within c.loop-id.invariant.forgetting
          (λ d. listed ids at no_place d within ∙ ap (λ (xs : List MapId). get_or xs at no_place) (sym c.deref-id-items.ensures.value))
          c.forget_one.ensures.gone c.forget_one.ensures.stay;
      exact = c.forget_one.ensures.exact;
      listed = listing-more c.args.self.now c.loop-id.self c.forget_one.new.self c.args.fell.now c.loop-id.fell c.forget_one.new.fell
          c.loop-id.invariant.forgetting.fewer
          (either c.args.self.now c.loop-id.self c.forget_one.new.self ids at _ within c.loop-id.invariant.forgetting
          (λ d. listed ids at no_place d within ∙ ap (λ (xs : List MapId). get_or xs at no_place) (sym c.deref-id-items.ensures.value))
          c.forget_one.ensures.gone c.forget_one.ensures.stay)
          c.loop-id.invariant.listed c.forget_one.ensures.listed;
    }
