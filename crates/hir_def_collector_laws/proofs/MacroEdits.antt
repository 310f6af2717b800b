-- Macros that are used one after another.
use Rattle.std.proofs.Common.{◌≡◌, ℕ, List, [], ◌∷◌, ◌++◌, Option, refl, ap}
use Rattle.hir_collector_rules.specs.HirIds.declared.ids.ExternCrateId.{ExternCrateId}
use Rattle.hir_collector_rules.specs.HirIds.declared.macro_kind.MacroId.{MacroId}
use Rattle.hir_collector_rules.specs.HirDefMapRules.State.{Map, with_name}
use Rattle.hir_collector_rules.specs.Macros.{with_macros_used, with_used}

used_joined : (prelude : List (List ℕ × (MacroId × Option ExternCrateId))) (macros others : List (List ℕ × MacroId)) (by : Option ExternCrateId)
    → with_used prelude (macros ++ others) by ≡ with_used (with_used prelude macros by) others by
used_joined prelude [] others by = refl
used_joined prelude (e ∷ es) others by = used_joined (with_name prelude e.0 (e.1, by)) es others by

pub used_append : (m : Map) (macros others : List (List ℕ × MacroId)) (by : Option ExternCrateId)
    → with_macros_used m (macros ++ others) by ≡ with_macros_used (with_macros_used m macros by) others by
used_append m macros others by = ap (λ (prelude : List (List ℕ × (MacroId × Option ExternCrateId))). record m { macro_use_prelude = prelude })
    (used_joined m.macro_use_prelude macros others by)
