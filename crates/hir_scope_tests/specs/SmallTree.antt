-- Which modules lie above one another where module 3 is a child of module 1, which holds all blocks, and each other module is a child of its root?
use Rattle.std.specs.Prelude.{◌≡◌, ◌==◌, ℕ, true, false, Option, None, Some, List, [], ◌∷◌, cond, refl, All}
use Rattle.std.proofs.lemmas.List.Elements.{All-cons, All-nil}
use Rattle.hir_ids.specs.declared.ast_id.BlockId.{BlockId}
use Rattle.hir_ids.specs.declared.ids.Crate.{Crate}
use Rattle.hir_ids.specs.declared.ids.ModuleId.{ModuleId}
use Rattle.hir_scope.specs.Bindings.{first_of}
use Rattle.hir_per_ns.specs.ModuleTree.{chain_from}

-- a module by its crate, block and number
abbrev pub module_at : Crate → Option BlockId → ℕ → ModuleId
module_at krate block index = record { map = record { krate = krate; block = block }; index = index }

-- the parent: of a root none, of module 3 module 1, of each other the root
abbrev pub parent_at : Crate → Option BlockId → ℕ → Option ModuleId
parent_at krate block index = cond (index == 0) None (cond (index == 3) (Some (module_at krate block 1)) (Some (module_at krate block 0)))

-- the holder of a block: module 1 of its crate
abbrev pub holder_at : Crate → Option BlockId → Option ModuleId
holder_at krate None = None
holder_at krate (Some block) = Some (module_at krate None 1)

-- the holder of a map and what lies above it
abbrev pub from_holder : Crate → Option BlockId → List ModuleId
from_holder krate None = []
from_holder krate (Some block) = module_at krate None 1 ∷ module_at krate None 0 ∷ []

-- what lies above a module
abbrev pub above_at : Crate → Option BlockId → ℕ → List ModuleId
above_at krate block index =
    cond (index == 0) (from_holder krate block)
    (cond (index == 3) (module_at krate block 1 ∷ module_at krate block 0 ∷ from_holder krate block) (module_at krate block 0 ∷ from_holder krate block))

abbrev pub above : ModuleId → List ModuleId
above m = above_at m.map.krate m.map.block m.index

-- the holder of a module's map
abbrev pub holders_at : Crate → Option BlockId → List ModuleId
holders_at krate None = []
holders_at krate (Some block) = module_at krate None 1 ∷ []

abbrev pub holders : ModuleId → List ModuleId
holders m = holders_at m.map.krate m.map.block

pub above_unfolds : (krate : Crate) (block : Option BlockId) (index : ℕ)
    → above_at krate block index ≡ chain_from above (first_of (parent_at krate block index) (holder_at krate block))
above_unfolds krate None index =
    elim (index == 0) as (λ b. cond b [] (cond (index == 3) (module_at krate None 1 ∷ module_at krate None 0 ∷ []) (module_at krate None 0 ∷ []))
    ≡ chain_from above (first_of (cond b None (cond (index == 3) (Some (module_at krate None 1)) (Some (module_at krate None 0)))) None)) [
      | true ↦ refl
      | false ↦ elim (index == 3) as (λ c. cond c (module_at krate None 1 ∷ module_at krate None 0 ∷ []) (module_at krate None 0 ∷ [])
          ≡ chain_from above (first_of (cond c (Some (module_at krate None 1)) (Some (module_at krate None 0))) None)) [ true ↦ refl | false ↦ refl ]
    ]
above_unfolds krate (Some block) index =
    elim (index == 0) as (λ b. cond b (from_holder krate (Some block))
    (cond (index == 3) (module_at krate (Some block) 1 ∷ module_at krate (Some block) 0 ∷ from_holder krate (Some block))
    (module_at krate (Some block) 0 ∷ from_holder krate (Some block)))
    ≡ chain_from above (first_of (cond b None (cond (index == 3) (Some (module_at krate (Some block) 1)) (Some (module_at krate (Some block) 0))))
    (Some (module_at krate None 1)))) [
      | true ↦ refl
      | false ↦ elim (index == 3) as (λ c. cond c (module_at krate (Some block) 1 ∷ module_at krate (Some block) 0 ∷ from_holder krate (Some block))
          (module_at krate (Some block) 0 ∷ from_holder krate (Some block))
          ≡ chain_from above (first_of (cond c (Some (module_at krate (Some block) 1)) (Some (module_at krate (Some block) 0)))
          (Some (module_at krate None 1)))) [ true ↦ refl | false ↦ refl ]
    ]

pub holders_unfold : (krate : Crate) (block : Option BlockId) → holders_at krate block ≡ chain_from holders (holder_at krate block)
holders_unfold krate None = refl
holders_unfold krate (Some block) = refl

module _ (krate : Crate) where
  from_holder_in : (block : Option BlockId) → All (λ (m : ModuleId). m.map.krate ≡ krate) (from_holder krate block)
  from_holder_in None = All-nil (λ (m : ModuleId). m.map.krate ≡ krate)
  from_holder_in (Some block) =
      All-cons (λ (m : ModuleId). m.map.krate ≡ krate) (module_at krate None 1) (module_at krate None 0 ∷ []) refl
      (All-cons (λ (m : ModuleId). m.map.krate ≡ krate) (module_at krate None 0) [] refl (All-nil (λ (m : ModuleId). m.map.krate ≡ krate)))

  from_root_in : (block : Option BlockId) → All (λ (m : ModuleId). m.map.krate ≡ krate) (module_at krate block 0 ∷ from_holder krate block)
  from_root_in block = All-cons (λ (m : ModuleId). m.map.krate ≡ krate) (module_at krate block 0) (from_holder krate block) refl (from_holder_in block)

  pub all_in_crate : (block : Option BlockId) (index : ℕ) → All (λ (m : ModuleId). m.map.krate ≡ krate) (above_at krate block index)
  all_in_crate block index =
      elim (index == 0) as (λ b. All (λ (m : ModuleId). m.map.krate ≡ krate) (cond b (from_holder krate block)
      (cond (index == 3) (module_at krate block 1 ∷ module_at krate block 0 ∷ from_holder krate block) (module_at krate block 0 ∷ from_holder krate block)))) [
        | true ↦ from_holder_in block
        | false ↦ elim (index == 3) as (λ c. All (λ (m : ModuleId). m.map.krate ≡ krate)
            (cond c (module_at krate block 1 ∷ module_at krate block 0 ∷ from_holder krate block) (module_at krate block 0 ∷ from_holder krate block))) [
              | true ↦ All-cons (λ (m : ModuleId). m.map.krate ≡ krate) (module_at krate block 1) (module_at krate block 0 ∷ from_holder krate block) refl
                  (from_root_in block)
              | false ↦ from_root_in block
            ]
      ]
