-- An `extern crate` without `macro_use` brings no macros.
use Rattle.std.specs.Prelude.{◌≡◌, Bool, true, false, ◌&&◌, ◌||◌, not, is_none, List, [], ◌∷◌, ◌++◌, codes, Option, None, Some, cond, if◌then◌else◌}
use Rattle.std.specs.List.{list_any}
use Rattle.std.proofs.Common.{◌∙◌, ap, refl}
use Rattle.hir_collector_rules.specs.HirIds.declared.macro_kind.MacroId.{MacroId}
use Rattle.hir_collector_rules.specs.HirItemTree.Collected.{Numbered}
use Rattle.hir_collector_rules.specs.HirItemTree.KeptForest.{Head}
use Rattle.hir_collector_rules.specs.HirBase.declared.shape.ExternCrateName.{ExternCrateName}
use Rattle.hir_collector_rules.specs.HirScope.Scope.{ScopeValue}
use Rattle.hir_collector_rules.specs.HirDefMapRules.Overlay.{Maps}
use Rattle.hir_collector_rules.specs.HirDefMapRules.State.{Map}
use Rattle.hir_collector_rules.specs.CrateTop.{is_keyed, listed_under, names_in, says}
use Rattle.hir_collector_rules.specs.Macros.{lists_names, macros_brought, other_scope, public_among, public_at, wanted_in, wants_all}
use Rattle.hir_collector_rules.specs.declared.source_database.Dependency.{Dependency}

-- where no attribute has the key, none lists anything under it
none_listed : (attrs : List Numbered) → says (codes "macro_use") attrs ≡ false → (wants_all attrs ≡ false) × (listed_under (codes "macro_use") attrs ≡ [])
none_listed [] none = (refl, refl)
none_listed (a ∷ attrs) none = go (is_keyed (codes "macro_use") a) none (none_listed attrs)
  where
    go : (b : Bool) → (b || says (codes "macro_use") attrs) ≡ false → (says (codes "macro_use") attrs ≡ false → (wants_all attrs ≡ false)
        × (listed_under (codes "macro_use") attrs ≡ []))
        → (((b && not (lists_names a.meta.input)) || wants_all attrs) ≡ false)
        × ((if b then names_in a.meta.input else []) ++ listed_under (codes "macro_use") attrs ≡ [])
    go true wrong rest = absurd (let no : ⊥ = cc in no)
    go false none rest = rest none

none_wanted : (attrs : List Numbered) (scope : Option ScopeValue) → says (codes "macro_use") attrs ≡ false → wanted_in attrs scope ≡ []
none_wanted attrs None none = refl
none_wanted attrs (Some s) none =
    let both = none_listed attrs none in
    ap (λ (b : Bool). cond b (public_among s.macros) (public_at s.macros (listed_under (codes "macro_use") attrs))) both.0 ∙ ap (public_at s.macros) both.1

pub none_brought : (finished : Maps) (m : Map) (dependencies : List Dependency) (head : Head) (name : ExternCrateName)
    → says (codes "macro_use") head.attributes.attributes ≡ false
    → macros_brought finished m dependencies head name ≡ []
none_brought finished m dependencies head name none = go (is_none m.id.block)
  where
    go : (b : Bool) → cond b (wanted_in head.attributes.attributes (other_scope finished dependencies name)) [] ≡ []
    go true = none_wanted head.attributes.attributes (other_scope finished dependencies name) none
    go false = refl
