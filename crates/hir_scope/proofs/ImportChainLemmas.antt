-- A chain of records is one record and the chain from there.
use Rattle.std.proofs.Common.{◌≡◌, ℕ, zero, suc, ◌-◌, ◌<◌, refl, ap, arith, Option, None}
use Rattle.hir_ids.specs.declared.ids.ModuleId.{ModuleId}
use Rattle.hir_scope.specs.Types.{ImportId, Namespace}
use Rattle.hir_scope.specs.Scope.{ScopeValue}
use Rattle.hir_scope.specs.ImportChains.{record_of, goes_on, chain_end}

pub chain_end-none : (scope_of : ModuleId → Option ScopeValue) (namespace : Namespace) (left : ℕ) (scope : ScopeValue) (import : ImportId)
    → left ≡ 0 → chain_end scope_of namespace left scope import ≡ None
unfolding chain_end
chain_end-none scope_of namespace zero scope import e = refl
chain_end-none scope_of namespace (suc left) scope import e = absurd (omega (arith, e))

pub chain_end-some : (scope_of : ModuleId → Option ScopeValue) (namespace : Namespace) (left : ℕ) (scope : ScopeValue) (import : ImportId)
    → 0 < left → chain_end scope_of namespace left scope import ≡ goes_on scope_of (chain_end scope_of namespace (left - 1)) (record_of namespace scope import)
unfolding chain_end
chain_end-some scope_of namespace zero scope import e = absurd (omega (arith, e))
chain_end-some scope_of namespace (suc left) scope import e =
    let less : left ≡ suc left - 1 = omega arith in
    ap (λ n. goes_on scope_of (chain_end scope_of namespace n) (record_of namespace scope import)) less

pub ruleset chains = (chain_end-none, chain_end-some)
