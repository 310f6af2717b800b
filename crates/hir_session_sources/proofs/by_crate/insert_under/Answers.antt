-- The map of the crate gets one more, or is the first; one that refused it is as it was.
use Rattle.std.proofs.Common.{◌∙◌, ap, sym, is_some, cond, Some}
use Rattle.std.specs.BTreeMap.{get, insert_entry, is_at}
use Rattle.hir_session_state.specs.HirIds.contracts.ids.CrateOrd.TheImpl as crate_order
use Rattle.hir_session_state.proofs.HirMapParts.Rewrites.{on_err}
use Rattle.hir_session_sources.specs.ByCrate.{entries_of}
use Rattle.hir_session_sources.proofs.CrateEntries.{entries_become, entries_stay}
use Rattle.hir_session_sources.proofs.by_crate.insert_under.Goals as goal

pub returns-in_ok-insert-in-Some-clause-ok : goal.returns-in_ok-insert-in-Some-clause-ok
returns-in_ok-insert-in-Some-clause-ok g c =
    entries_become c.args.krate (get crate_order.ghosts.cmp c.args.stored.now)
    (get crate_order.ghosts.cmp (c.get_mut.follows.lender c.insert.new.self)) c.insert.new.self
    (λ es. insert_entry g.K.Ord.cmp es c.args.key c.args.value)
    ((c.get_mut.follows.holds c.insert.new.self).3 (ap is_some (sym c.in-Some.ensures.value))).0
    (c.in_ok-insert-in-Some.ensures.entries ∙ ap (λ o. insert_entry g.K.Ord.cmp (entries_of o) c.args.key c.args.value) c.in-Some.ensures.value)

pub returns-in_ok-insert-in-None-2-clause-ok : goal.returns-in_ok-insert-in-None-2-clause-ok
returns-in_ok-insert-in-None-2-clause-ok g c =
    entries_become c.args.krate (get crate_order.ghosts.cmp c.args.stored.now)
    (get crate_order.ghosts.cmp c.insert-in-None-2.new.self) c.insert-in-None.new.self
    (λ es. insert_entry g.K.Ord.cmp es c.args.key c.args.value)
    (λ q. c.in_ok-insert-in-None-2.ensures.updates.0 q
    ∙ ap (λ m. cond (is_at (crate_order.ghosts.cmp c.args.krate) q) (Some c.insert-in-None.new.self) (get crate_order.ghosts.cmp m q))
    c.get_mut.follows.holds-at-none)
    (c.in_ok-insert-in-None.ensures.entries
    ∙ ap (λ es. insert_entry g.K.Ord.cmp es c.args.key c.args.value) (c.new-own.ensures.empty ∙ ap entries_of c.in-None.ensures.value))

pub returns-in_err-insert-in-Some-clause-err : goal.returns-in_err-insert-in-Some-clause-err
returns-in_err-insert-in-Some-clause-err g c = on_err c.from_residual.result
    (entries_stay c.args.krate (get crate_order.ghosts.cmp c.args.stored.now)
    (get crate_order.ghosts.cmp (c.get_mut.follows.lender c.insert.new.self)) c.insert.new.self
    ((c.get_mut.follows.holds c.insert.new.self).3 (ap is_some (sym c.in-Some.ensures.value))).0
    (c.in_err-insert-in-Some.ensures.err ∙ ap entries_of c.in-Some.ensures.value))
