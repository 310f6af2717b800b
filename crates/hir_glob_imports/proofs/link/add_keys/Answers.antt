-- The last key that is left is made pending, until none is left.
use Rattle.std.proofs.Common.{◌≡◌, ◌++◌, ◌∷◌, [], length, arith, rules}
use Rattle.hir_glob_imports.proofs.Spreading.{each_left, each_taken, pushed_kept}
use Rattle.hir_glob_imports.proofs.link.add_keys.Goals as goal

pub next-preserved : goal.next-preserved
next-preserved c =
    let popped : c.next.left.items ≡ c.pop.new.self.items ++ c.in-Some.key ∷ [] = search (rules, c.in-Some.ensures.items) in
    record {
      kept = λ j other h. pushed_kept c.next.pending.items c.push.new.self.items _ c.in_ok-push.ensures.items (j, other) (c.next.invariant.kept j other h);
      each = λ key h.
          each_left c.next.pending.items c.push.new.self.items c.args.edge c.next.left.items c.pop.new.self.items c.in-Some.key
          popped c.in_ok-push.ensures.items key (c.next.invariant.each key h);
    }

pub returns-clause-each : goal.returns-clause-each
returns-clause-each c = λ key h.
    let none : length c.next.left.items ≡ 0 = omega (arith, c.in_default.ensures.cases) in
    each_taken c.next.pending.items c.args.edge c.next.left.items none key (c.next.invariant.each key h)
