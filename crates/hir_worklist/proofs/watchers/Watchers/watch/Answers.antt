use Rattle.std.proofs.Common.{◌≡◌, [], subst, arith, ℕ}
use Rattle.std.specs.declared.alloc.Global.{Global}
use Rattle.std.specs.declared.vec.Vec.{Vec}
use Rattle.std.specs.BTreeMap.{get}
use Rattle.std.specs.Option.{UnwrapsOrElse}
use Rattle.std.specs.Vec.{vec_len}
use Rattle.std.proofs.lemmas.Grind.{common_steps}
use Rattle.hir_worklist.specs.Queue.{is_among}
use Rattle.hir_worklist.specs.Watching.{is_watching}
use Rattle.hir_worklist.proofs.Watched.{watches-pushed, watchers-found}
use Rattle.hir_worklist.proofs.watchers.Watchers.watch.Goals as goal

-- the thing goes behind those that watch the slot, and the other slots keep theirs
pub returns-clause-ok : goal.returns-clause-ok
returns-clause-ok g c =
    let cmp = g.K.Ord.cmp in
    let before = c.or_default-positions.result.now in
    let found : (p : ℕ) → is_among p before.items ≡ is_watching cmp c.args.self.now c.args.slot p =
    watchers-found (get cmp c.args.self.now.positions c.args.slot) before
    (subst (λ o. UnwrapsOrElse o (λ (made : Vec ℕ Global). (made.items ≡ []) × (vec_len made ≡ 0)) before) c.in_ok-self.ensures.value
    c.or_default-positions.ensures.value) in
    λ other p. watches-pushed cmp g.met.K.Ord.total c.args.self.now c.args.slot c.args.position before c.push.new.self found c.in_ok-push.ensures.items other p
    _
    (grind (arith, common_steps))
