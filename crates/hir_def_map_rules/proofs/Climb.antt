-- Climbing, one level at a time.
use Rattle.std.proofs.Common.{◌≡◌, ℕ, zero, suc, ◌<◌, ◌-◌, ap, sym, arith, Some, None}
use Rattle.std.specs.Option.{option_and_then}
use Rattle.hir_scope.specs.HirIds.declared.ids.ModuleId.{ModuleId}
use Rattle.hir_def_map_rules.specs.Overlay.{Maps, parent_in}
use Rattle.hir_def_map_rules.specs.Scoping.Segments.{nearest_non_block_module}
use Rattle.hir_def_map_rules.specs.Scoping.Start.{climb}

climb-more : (maps : Maps) (n : ℕ) (m : ModuleId) → 0 < n → climb maps n m ≡ option_and_then (λ p. climb maps (n - 1) (nearest_non_block_module maps p))
    (parent_in maps m)
climb-more maps zero m h = absurd (omega arith)
climb-more maps (suc n) m h = go (suc n - 1) (omega arith)
  where
    go : (k : ℕ) → k ≡ n → climb maps (suc n) m ≡ option_and_then (λ p. climb maps k (nearest_non_block_module maps p)) (parent_in maps m)
    go k e = ap (λ (j : ℕ). option_and_then (λ p. climb maps j (nearest_non_block_module maps p)) (parent_in maps m)) (sym e)

pub climb-none : (maps : Maps) (n : ℕ) (m : ModuleId) → 0 < n → parent_in maps m ≡ None → climb maps n m ≡ None
climb-none maps n m h e = rw (climb-more maps n m h, e)

pub climb-some : (maps : Maps) (n : ℕ) (m p : ModuleId) → 0 < n → parent_in maps m ≡ Some p → climb maps n m
    ≡ climb maps (n - 1) (nearest_non_block_module maps p)
climb-some maps n m p h e = rw (climb-more maps n m h, e)

pub ruleset climbs = (climb-none, climb-some)
