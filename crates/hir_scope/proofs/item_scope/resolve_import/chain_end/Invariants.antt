use Rattle.std.proofs.Common.{◌≡◌}
use Rattle.hir_scope.specs.ImportChains.{chain_end}
use Rattle.hir_scope.proofs.item_scope.resolve_import.chain_end.Given as goal

abbrev pub invariant-chain : goal.invariant-chain
invariant-chain g l =
    chain_end (g.S.Scopes.scope_of l.scopes) l.namespace 4096 l.fn.first l.fn.import ≡ chain_end (g.S.Scopes.scope_of l.scopes) l.namespace l.left l.scope
    l.import

abbrev pub decreases-chain : goal.decreases-chain
decreases-chain g l = l.left
