-- Which modules may see an item.
use Rattle.std.specs.Prelude.{◌≡◌, Bool, true, ◌&&◌, ◌||◌, not, is_some, Option, None, Some, List, [], ◌∷◌, cond}
use Rattle.hir_ids.specs.declared.ids.MapId.{MapId}
use Rattle.hir_ids.specs.declared.ids.ModuleId.{ModuleId}
use Rattle.hir_ids.specs.declared.explicitness.VisibilityExplicitness.{VisibilityExplicitness}
use Rattle.hir_ids.specs.declared.explicitness.VisibilityExplicitness.TheVariants.{Explicit, Implicit}
use Rattle.hir_per_ns.specs.declared.visibility.Visibility.{Visibility}
use Rattle.hir_per_ns.specs.declared.visibility.Visibility.TheVariants.{Module, PubCrate, Public}
use Rattle.hir_per_ns.specs.ModuleTree.{same_crate, same_block, same_map, same_module, is_at_or_above}

-- a module lies in a block, and not in the one that looks
abbrev pub is_in_other_block : ModuleId → ModuleId → Bool
is_in_other_block from m = is_some m.map.block && not (same_block m.map.block from.map.block)

-- the module that one stands for: its holder, and that one's, as long as it lies in a block other than the one that looks
abbrev pub stands_for : ModuleId → ModuleId → List ModuleId → ModuleId
stands_for from m [] = m
stands_for from m (h ∷ hs) = cond (is_in_other_block from m) (stands_for from h hs) m

-- whether a module may see: each may see what is public, a crate's modules what is its own, and the modules at and below one what that one shows
abbrev pub is_visible : (ModuleId → List ModuleId) → (ModuleId → List ModuleId) → Visibility → ModuleId → Bool
is_visible above holders (Module m e) from = same_crate from.map.krate m.map.krate && is_at_or_above above (stands_for from m (holders m)) from
is_visible above holders (PubCrate c) from = same_crate from.map.krate c
is_visible above holders Public from = true

-- whether the visibility was written, at one of two places
abbrev pub either_written : VisibilityExplicitness → VisibilityExplicitness → VisibilityExplicitness
either_written Explicit e = Explicit
either_written Implicit e = e

-- two modules that both lie in a map
abbrev pub both_in : MapId → ModuleId → ModuleId → Bool
both_in map m n = same_map m.map map && same_map n.map map

-- of two modules of a map, the one that lies above the other
abbrev pub upper_of : (ModuleId → List ModuleId) → MapId → ModuleId → VisibilityExplicitness → ModuleId → VisibilityExplicitness → Option Visibility
upper_of above map m d n e =
    cond (same_module m n) (Some (Module m (either_written d e)))
    (cond (both_in map m n) (cond (is_at_or_above above n m) (Some (Module n e)) (cond (is_at_or_above above m n) (Some (Module m d)) None)) None)

-- of two modules of a map, the one that lies below the other
abbrev pub lower_of : (ModuleId → List ModuleId) → MapId → ModuleId → VisibilityExplicitness → ModuleId → VisibilityExplicitness → Option Visibility
lower_of above map m d n e =
    cond (same_module m n) (Some (Module m (either_written d e)))
    (cond (both_in map m n) (cond (is_at_or_above above n m) (Some (Module m d)) (cond (is_at_or_above above m n) (Some (Module n e)) None)) None)

-- the greater of two visibilities, where one is; two modules are compared in a map
abbrev pub greater_of : (ModuleId → List ModuleId) → MapId → Visibility → Visibility → Option Visibility
greater_of above map Public b = Some Public
greater_of above map (PubCrate c) Public = Some Public
greater_of above map (PubCrate c) (PubCrate d) = cond (same_crate c d) (Some (PubCrate c)) None
greater_of above map (PubCrate c) (Module m e) = cond (same_crate m.map.krate c) (Some (PubCrate c)) None
greater_of above map (Module m e) Public = Some Public
greater_of above map (Module m e) (PubCrate c) = cond (same_crate m.map.krate c) (Some (PubCrate c)) None
greater_of above map (Module m d) (Module n e) = upper_of above map m d n e

-- the lesser of two visibilities, where one is; two modules are compared in a map
abbrev pub lesser_of : (ModuleId → List ModuleId) → MapId → Visibility → Visibility → Option Visibility
lesser_of above map Public b = Some b
lesser_of above map (PubCrate c) Public = Some (PubCrate c)
lesser_of above map (PubCrate c) (PubCrate d) = cond (same_crate c d) (Some (PubCrate c)) None
lesser_of above map (PubCrate c) (Module m e) = cond (same_crate m.map.krate c) (Some (Module m e)) None
lesser_of above map (Module m e) Public = Some (Module m e)
lesser_of above map (Module m e) (PubCrate c) = cond (same_crate m.map.krate c) (Some (Module m e)) None
lesser_of above map (Module m d) (Module n e) = lower_of above map m d n e

-- the set of modules that one visibility names is that of either of two
abbrev pub IsUnion : (Visibility → ModuleId → Bool) → Visibility → Visibility → Visibility → Type 0
IsUnion seen w v u = (from : ModuleId) → seen w from ≡ (seen v from || seen u from)

-- the set of modules that one visibility names is that of both of two
abbrev pub IsMeet : (Visibility → ModuleId → Bool) → Visibility → Visibility → Visibility → Type 0
IsMeet seen w v u = (from : ModuleId) → seen w from ≡ (seen v from && seen u from)
