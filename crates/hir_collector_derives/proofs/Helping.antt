-- Helpers that are brought one after another.
use Rattle.std.proofs.Common.{◌≡◌, ◌∙◌, ◌<◌, ◌+◌, ℕ, zero, suc, List, [], ◌∷◌, drop, length, map, refl, sym, ap, arith}
use Rattle.hir_collector_state.specs.HirIds.declared.ast_id.AstId.{AstId}
use Rattle.hir_collector_state.specs.HirDefMapRules.Macros.{with_derive_helper}
use Rattle.hir_collector_state.specs.HirMapParts.declared.derive_helpers.DeriveHelper.{DeriveHelper}
use Rattle.hir_collector_state.specs.HirCollectorRules.Changes.{act, helps, perform}
use Rattle.hir_collector_state.specs.HirCollectorRules.Moves.{Makes}
use Rattle.hir_collector_state.specs.HirCollectorRules.State.{Core, State, Task, joined, with_map}
use Rattle.hir_collector_state.specs.HirCollectorRules.Steps.{bringing}

-- bringing those that are left from here comes to what bringing all from there does
pub record MakesWithLeft (node : AstId) (left all : List DeriveHelper) (old now : Core) : Type 0 where
  pub is : (rest : List Task) → perform (joined now rest) (bringing node left) ≡ perform (joined old rest) (bringing node all)

pub none_brought : (node : AstId) (all : List DeriveHelper) (c : Core) → MakesWithLeft node all all c c
none_brought node all c = record { is = λ rest. refl }

-- one more
pub one_brought : (node : AstId) (helper : DeriveHelper) (left all : List DeriveHelper) (old now new : Core) → new
    ≡ with_map now (with_derive_helper now.map node helper)
    → MakesWithLeft node (helper ∷ left) all old now → MakesWithLeft node left all old new
one_brought node helper left all old now new is before = record {
  is = λ rest. ap (λ (n : Core). perform (joined n rest) (bringing node left)) is ∙ before.is rest;
}

-- and where none is left, all were brought
pub all_brought : (node : AstId) (all : List DeriveHelper) (old new : Core) → MakesWithLeft node [] all old new → Makes (bringing node all) old new
all_brought node all old new before = record { is = before.is }
