-- The module had no edges, and gets a list of one.
use Rattle.std.proofs.Common.{subst, ℕ, List, [], arith}
use Rattle.std.specs.Prelude.{Contains}
use Rattle.hir_glob_imports.proofs.EdgeLists.{listed_still}
use Rattle.hir_glob_imports.proofs.index.EdgesByModule.add_first.Goals as goal

pub returns-clause-kept : goal.returns-clause-kept
returns-clause-kept c =
    listed_still c.args.self.now (record { lists = c.insert.new.self; alloc = c.args.self.now.alloc }) c.args.at c.push.new.self
    c.in_ok-insert.ensures.updates.0
    (λ x h. let none : Contains [] x = subst (λ (xs : List ℕ). Contains xs x) c.requires.absent h in absurd (omega arith))
