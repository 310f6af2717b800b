-- What a segment takes from a module.
use Rattle.std.proofs.Common.{◌≡◌, ap, refl, ℕ, List, Bool, true, false, cond, Option, None, Some}
use Rattle.hir_nameres.specs.HirIds.declared.ids.ModuleId.{ModuleId}
use Rattle.hir_nameres.specs.HirPerNs.PerNs.{Item, keep_item, keep_of}
use Rattle.hir_nameres.specs.HirPerNs.declared.per_ns.PerNs.{PerNs}
use Rattle.hir_nameres.specs.HirPerNs.declared.visibility.Visibility.{Visibility}
use Rattle.hir_nameres.specs.HirPerNs.ModuleTree.{same_crate}
use Rattle.hir_nameres.specs.HirDefMapRules.Overlay.{Maps, entry_in}
use Rattle.hir_nameres.specs.HirDefMapRules.Scoping.Segments.{crossing, nearest_non_block_module, seen}
use Rattle.hir_nameres.specs.HirDefMapRules.declared.path_result.ResolvePathResult.{ResolvePathResult}
use Rattle.hir_def_map_laws.specs.Paths.{may_see, AreKept, IsKept, TakesHere, TakesThere}

IsKept-keep_item : {D I : Type 0} (test : Visibility → Bool) (o : Option (Item D I)) → IsKept test o (keep_item test o)
IsKept-keep_item test None = tt
IsKept-keep_item test (Some i) = go (test i.vis) refl
  where
    go : (b : Bool) → test i.vis ≡ b → IsKept test (Some i) (cond b (Some i) None)
    go true e = (refl, e)
    go false e = e

-- a test keeps what passes it, as it is
pub AreKept-keep_of : (test : Visibility → Bool) (p : PerNs) → AreKept test p (keep_of test p)
AreKept-keep_of test p = record {
  types = IsKept-keep_item test p.types;
  values = IsKept-keep_item test p.values;
  macros = IsKept-keep_item test p.macros;
}

module _ (maps : Maps) (from m : ModuleId) (s : List ℕ) where
  abbrev on : (ModuleId → PerNs → ResolvePathResult) → Bool → ResolvePathResult
  on further b =
      cond b (further from (seen maps from m s))
      (crossing (further (nearest_non_block_module maps m) (seen maps (nearest_non_block_module maps m) (nearest_non_block_module maps m) s)))

  pub takes_here : same_crate m.map.krate from.map.krate ≡ true → TakesHere maps from m s
  takes_here e = (seen maps from m s, AreKept-keep_of (may_see maps from) (entry_in maps m s), λ further. ap (on further) e)

  pub takes_there : same_crate m.map.krate from.map.krate ≡ false → TakesThere maps from m s
  takes_there e = (
    seen maps (nearest_non_block_module maps m) (nearest_non_block_module maps m) s,
    AreKept-keep_of (may_see maps (nearest_non_block_module maps m)) (entry_in maps (nearest_non_block_module maps m) s),
    λ further. ap (on further) e,
  )
