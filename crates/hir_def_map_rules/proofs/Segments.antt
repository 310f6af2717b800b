-- Further segments are looked up in a type.
use Rattle.std.specs.Prelude.{◌≡◌, ℕ, ◌+◌, ◌≤◌, List, [], ◌∷◌, Option, length}
use Rattle.std.proofs.Common.{ap, arith}
use Rattle.hir_scope.specs.HirIds.declared.ids.ModuleDefId.{ModuleDefId}
use Rattle.hir_scope.specs.HirIds.declared.ids.ModuleId.{ModuleId}
use Rattle.hir_scope.specs.HirPerNs.declared.imports.ImportOrExternCrate.{ImportOrExternCrate}
use Rattle.hir_scope.specs.HirPerNs.declared.per_ns.PerNs.{PerNs}
use Rattle.hir_scope.specs.HirPerNs.PerNs.{Item}
use Rattle.hir_def_map_rules.specs.Overlay.{Maps}
use Rattle.hir_def_map_rules.specs.Scoping.Segments.{rest, through_type}

pub rest-types : (maps : Maps) (from : ModuleId) (segments : List (List ℕ)) (i : ℕ) (one other : PerNs) → 1 ≤ length segments → one.types ≡ other.types
    → rest maps from segments i one ≡ rest maps from segments i other
rest-types maps from [] i one other some e = absurd (omega (arith, some))
rest-types maps from (s ∷ ss) i one other some e =
    ap (λ (types : Option (Item ModuleDefId ImportOrExternCrate)). through_type (λ next_from next. rest maps next_from ss (i + 1) next) maps from ss i s types)
    e
