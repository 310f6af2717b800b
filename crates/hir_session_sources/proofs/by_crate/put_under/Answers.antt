-- The map of the crate has it in place of what was there; a crate without a map has none.
use Rattle.std.proofs.Common.{◌∙◌, ap, refl, sym, is_some}
use Rattle.std.specs.BTreeMap.{get, is_at}
use Rattle.std.specs.Map.{set_value}
use Rattle.hir_session_state.specs.HirIds.contracts.ids.CrateOrd.TheImpl as crate_order
use Rattle.hir_session_sources.specs.ByCrate.{entries_of}
use Rattle.hir_session_sources.proofs.CrateEntries.{entries_become, none_become}
use Rattle.hir_session_sources.proofs.by_crate.put_under.Goals as goal

pub returns-in-Some : goal.returns-in-Some
returns-in-Some g c = record {
  value = entries_become c.args.krate (get crate_order.ghosts.cmp c.args.stored.now)
      (get crate_order.ghosts.cmp (c.get_mut.follows.lender c.put_at.new.own)) c.put_at.new.own
      (λ es. set_value (is_at (g.K.Ord.cmp c.args.key.now)) es c.args.value)
      ((c.get_mut.follows.holds c.put_at.new.own).3 (ap is_some (sym c.in-Some.ensures.value))).0
      (c.put_at.ensures.value ∙ ap (λ o. set_value (is_at (g.K.Ord.cmp c.args.key.now)) (entries_of o) c.args.value) c.in-Some.ensures.value);
}

pub returns-in-None : goal.returns-in-None
returns-in-None g c = record {
  value = λ q. ap (λ m. entries_of (get crate_order.ghosts.cmp m q)) c.get_mut.follows.holds-at-none
      ∙ none_become c.args.krate (get crate_order.ghosts.cmp c.args.stored.now) (λ es. set_value (is_at (g.K.Ord.cmp c.args.key.now)) es c.args.value) refl
      c.in-None.ensures.value q;
}
