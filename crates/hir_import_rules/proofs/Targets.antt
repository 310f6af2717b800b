-- Targets that are equal are one.
use Rattle.std.proofs.Common.{◌≡◌, ap, sym, subst, refl, ◌==◌, Bool, true, false, ◌&&◌}
use mathlib.Core.Bool.{true≢false}
use Rattle.std.specs.Bool.{Decides}
use Rattle.std.specs.Cmp.{unsigned_Decides}
use Rattle.hir_nameres.specs.HirIds.contracts.ids.EnumIdPartialEq.TheImpl as enum_id
use Rattle.hir_nameres.specs.HirIds.contracts.ids.MapIdPartialEq.TheImpl as map_id
use Rattle.hir_nameres.specs.HirIds.contracts.ids.ModuleIdPartialEq.TheImpl as module_id
use Rattle.hir_nameres.specs.HirIds.declared.ids.EnumId.{EnumId}
use Rattle.hir_nameres.specs.HirIds.declared.ids.ModuleId.{ModuleId}
use Rattle.hir_nameres.specs.HirIds.declared.ids.TraitId.{TraitId}
use Rattle.hir_nameres.specs.HirDefMapRules.Inner.OverlayLaws.{exact_map}
use Rattle.hir_glob_imports.specs.contracts.edge.TargetEq.TheImpl.Laws.{laws-law as target_laws}
use Rattle.hir_glob_imports.specs.contracts.edge.TargetPartialEq.TheImpl as target
use Rattle.hir_glob_imports.specs.declared.edge.Target.{Target}
use Rattle.hir_glob_imports.specs.declared.edge.Target.TheVariants.{Own, Module, Enum}
use Rattle.hir_import_rules.specs.ScopeLaws.{same_trait}

both : (a b : Bool) → (a && b) ≡ true → (a ≡ true) × (b ≡ true)
both true b e = (refl, e)
both false b e = absurd (true≢false (sym e))

exact_module : (a b : ModuleId) → module_id.ghosts.eq a b ≡ true → a ≡ b
exact_module a b e =
    let parts = both (map_id.ghosts.eq a.map b.map) (a.index == b.index) e in
    λ i. record { map = exact_map a.map b.map parts.0 i; index = (unsigned_Decides a.index b.index).0 parts.1 i }

-- an enum is named by its place alone, as a trait is
exact_enum : (a b : EnumId) → enum_id.ghosts.eq a b ≡ true → a ≡ b
exact_enum a b e = ap (λ (t : TraitId). record { loc = t.loc }) (same_trait (record { loc = a.loc }) (record { loc = b.loc }) e)

exact_target : (a b : Target) → target.ghosts.eq a b ≡ true → a ≡ b
exact_target (Own m) (Own n) e = ap Own ((unsigned_Decides m n).0 e)
exact_target (Own m) (Module b) e = absurd (true≢false (sym e))
exact_target (Own m) (Enum b) e = absurd (true≢false (sym e))
exact_target (Module a) (Own n) e = absurd (true≢false (sym e))
exact_target (Module a) (Module b) e = ap Module (exact_module a b e)
exact_target (Module a) (Enum b) e = absurd (true≢false (sym e))
exact_target (Enum a) (Own n) e = absurd (true≢false (sym e))
exact_target (Enum a) (Module b) e = absurd (true≢false (sym e))
exact_target (Enum a) (Enum b) e = ap Enum (exact_enum a b e)

pub targets_decide : (a b : Target) → Decides (target.ghosts.eq a b) (a ≡ b)
targets_decide a b = (exact_target a b, λ e. subst (λ (x : Target). target.ghosts.eq a x ≡ true) e (target_laws.refl a))
