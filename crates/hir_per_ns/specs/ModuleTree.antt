-- Which modules lie above one another, by parents and by the holders of blocks.
use Rattle.std.specs.Prelude.{◌≡◌, ◌==◌, Bool, true, false, ◌&&◌, Option, None, Some, List, [], ◌∷◌, All}
use Rattle.std.specs.List.{list_any}
use Rattle.hir_ids.specs.declared.ast_id.BlockId.{BlockId}
use Rattle.hir_ids.specs.declared.ids.Crate.{Crate}
use Rattle.hir_ids.specs.declared.ids.MapId.{MapId}
use Rattle.hir_ids.specs.declared.ids.ModuleId.{ModuleId}
use Rattle.hir_scope_item.specs.Bindings.{first_of}

abbrev pub same_crate : Crate → Crate → Bool
same_crate a b = a.0 == b.0

abbrev pub same_block : Option BlockId → Option BlockId → Bool
same_block None None = true
same_block None (Some b) = false
same_block (Some a) None = false
same_block (Some a) (Some b) = a.0 == b.0

-- the def maps of one crate, or of one block
abbrev pub same_map : MapId → MapId → Bool
same_map a b = same_crate a.krate b.krate && same_block a.block b.block

abbrev pub same_module : ModuleId → ModuleId → Bool
same_module a b = same_map a.map b.map && (a.index == b.index)

-- one step up: to the parent, or from a root to the block's holder
abbrev pub up_of : (ModuleId → Option ModuleId) → (ModuleId → Option ModuleId) → ModuleId → Option ModuleId
up_of parent holder m = first_of (parent m) (holder m)

-- the modules of a chain, from the one where it begins
abbrev pub chain_from : (ModuleId → List ModuleId) → Option ModuleId → List ModuleId
chain_from above None = []
chain_from above (Some m) = m ∷ above m

-- each of the modules lies in the crate of the first
abbrev pub IsInOneCrate : ModuleId → List ModuleId → Type 0
IsInOneCrate m ms = All (λ (n : ModuleId). n.map.krate ≡ m.map.krate) ms

-- whether one module is the other, or lies above it
abbrev pub is_at_or_above : (ModuleId → List ModuleId) → ModuleId → ModuleId → Bool
is_at_or_above above high low = list_any (same_module high) (low ∷ above low)

-- the chains of a tree unfold one step at a time, and the modules of one map have one holder
pub record IsTree (above holders : ModuleId → List ModuleId) (up holder : ModuleId → Option ModuleId) : Type 0 where
  pub above_step : (m : ModuleId) → above m ≡ chain_from above (up m)
  pub holders_step : (m : ModuleId) → holders m ≡ chain_from holders (holder m)
  pub same_holder : (m n : ModuleId) → m.map ≡ n.map → holder m ≡ holder n
