use Rattle.std.proofs.Common.{◌≡◌, ◌++◌}
use Rattle.hir_session_invalidation.proofs.invalidate.hit_each.Given as goal

-- the places that are left come behind those that are hit
abbrev pub invariant-loop-id : goal.invariant-loop-id
invariant-loop-id l = l.hits.items ++ l.id-iterator ≡ l.fn.hits.items ++ l.fn.ids.keys
