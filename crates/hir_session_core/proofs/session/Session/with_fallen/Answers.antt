-- The block of each map that fell is put among those that wait where it does.
use Rattle.std.proofs.Common.{◌≡◌, List, [], ◌∷◌, ◌++◌, length, arith, rules, subst}
use Rattle.hir_session_state.specs.HirIds.declared.ids.MapId.{MapId}
use Rattle.hir_session_core.specs.Progress.{ArePendingBut}
use Rattle.hir_session_core.proofs.Awaiting.{fallen_end, fallen_more}
use Rattle.hir_session_core.proofs.session.Session.with_fallen.Goals as goal

pub next-init : goal.next-init
next-init c = c.requires.but

pub next-preserved : goal.next-preserved
next-preserved c =
    let popped : c.next.fell.items ≡ c.pop.new.self.items ++ c.in-Some.id ∷ [] = search (rules, c.in-Some.ensures.items) in
    fallen_more c.args.self.now c.next.all.keys c.sift_at.new.left.keys c.in-Some.id c.pop.new.self.items
    (subst (λ (ids : List MapId). ArePendingBut c.args.self.now c.next.all.keys ids) popped c.next.invariant) c.in_ok-sift_at.ensures.ok

pub returns : goal.returns
returns c =
    let none : length c.next.fell.items ≡ 0 = omega (arith, c.in_default.ensures.cases) in
    record { pending = fallen_end c.args.self.now c.next.all.keys c.next.fell.items none c.next.invariant }
