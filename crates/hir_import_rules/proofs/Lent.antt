-- What becomes of a map of which one scope is lent.
use Rattle.std.proofs.Common.{◌≡◌, ap, sym, refl, ℕ, zero, suc, ◌≤◌, List, [], ◌∷◌, length, Some}
use Rattle.std.specs.Option.{option_map}
use Rattle.std.specs.Prelude.{slice_get}
use Rattle.hir_nameres.specs.HirScope.Scope.{ScopeValue}
use Rattle.hir_nameres.specs.HirDefMapRules.State.{Map, ModuleValue, changed_at, scope_at, with_module_scope, with_scope}
use Rattle.hir_nameres.proofs.HirDefMapRules.Modules.{changed_at-past}

-- what is left behind the scope is in its place
left_in : (ms : List ModuleValue) (at : ℕ) (scope : ScopeValue) (change : ScopeValue → ScopeValue) → Some scope ≡ option_map (λ (m : ModuleValue). m.scope)
    (slice_get ms at)
    → changed_at ms at (with_module_scope (λ _. change scope)) ≡ changed_at ms at (with_module_scope change)
left_in [] at scope change e = refl
left_in (m ∷ ms) zero scope change e =
    let same : scope ≡ m.scope = cc in
    ap (λ (s : ScopeValue). record m { scope = change s } ∷ ms) same
left_in (m ∷ ms) (suc at) scope change e = ap (λ (xs : List ModuleValue). m ∷ xs) (left_in ms at scope change e)

pub scope_left : (map : Map) (at : ℕ) (scope : ScopeValue) (change : ScopeValue → ScopeValue) → Some scope ≡ scope_at map at
    → with_scope map at (λ _. change scope) ≡ with_scope map at change
scope_left map at scope change e = ap (λ (ms : List ModuleValue). record map { modules = ms }) (left_in map.modules at scope change e)

-- a module that isn't there isn't changed
pub scope_past : (map : Map) (at : ℕ) (change : ScopeValue → ScopeValue) → length map.modules ≤ at → map ≡ with_scope map at change
scope_past map at change low = ap (λ (ms : List ModuleValue). record map { modules = ms }) (sym (changed_at-past map.modules at (with_module_scope change) low))
