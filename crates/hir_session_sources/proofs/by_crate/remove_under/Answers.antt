-- After the call no entry of the crate has the key, so the one that went was the only one.
use Rattle.std.proofs.Common.{◌∙◌, ap, sym, is_some, not, filter}
use Rattle.std.specs.BTreeMap.{get, is_at}
use Rattle.hir_session_state.specs.HirIds.contracts.ids.CrateOrd.TheImpl as crate_order
use Rattle.hir_session_sources.specs.ByCrate.{entries_of}
use Rattle.hir_session_sources.proofs.CrateEntries.{entries_become, none_left_out}
use Rattle.hir_session_sources.proofs.EntryLemmas.{remove_entry-filter}
use Rattle.hir_session_sources.proofs.by_crate.remove_under.Goals as goal

pub returns-in-Some : goal.returns-in-Some
returns-in-Some g c =
    let left = c.remove.ensures.updates.1 in
    record {
      value = entries_become c.args.krate (get crate_order.ghosts.cmp c.args.stored.now)
          (get crate_order.ghosts.cmp (c.get_mut.follows.lender c.remove.new.self)) c.remove.new.self
          (λ es. filter (λ e. not (is_at (g.K.Ord.cmp c.args.key.now) e.0)) es)
          ((c.get_mut.follows.holds c.remove.new.self).3 (ap is_some (sym c.in-Some.ensures.value))).0
          (c.remove.ensures.entries ∙ remove_entry-filter (is_at (g.K.Ord.cmp c.args.key.now)) c.in-Some.own.now.entries
          (rw c.remove.ensures.entries at left)
          ∙ ap (λ o. filter (λ e. not (is_at (g.K.Ord.cmp c.args.key.now) e.0)) (entries_of o)) c.in-Some.ensures.value);
    }

pub returns-in-None : goal.returns-in-None
returns-in-None g c = record {
  value = λ q. ap (λ m. entries_of (get crate_order.ghosts.cmp m q)) c.get_mut.follows.holds-at-none
      ∙ none_left_out c.args.krate (get crate_order.ghosts.cmp c.args.stored.now) (λ e. not (is_at (g.K.Ord.cmp c.args.key.now) e.0)) c.in-None.ensures.value q;
}
