-- Where a walk outwards ends.
use Rattle.std.proofs.Common.{◌≡◌, refl, ℕ, false, List, [], ◌∷◌}
use Rattle.hir_scope.specs.HirIds.declared.ids.ModuleId.{ModuleId}
use Rattle.hir_base.specs.declared.mod_path.PathKind.{PathKind}
use Rattle.hir_def_map_rules.specs.Overlay.{Maps}
use Rattle.hir_def_map_rules.specs.Scoping.Asking.{Asking}
use Rattle.hir_def_map_rules.specs.Scoping.Blocks.{inherited, with_preludes}
use Rattle.hir_def_map_rules.specs.Scoping.FirstSegment.{is_block_root}
use Rattle.hir_def_map_rules.specs.Scoping.Segments.{nearest_non_block_among}
use Rattle.hir_def_map_rules.specs.Types.{ResolvePathResult}

pub nearest_non_block_among-stop : (m : ModuleId) (hs : List ModuleId) → is_block_root m ≡ false → nearest_non_block_among m hs ≡ m
nearest_non_block_among-stop m [] e = refl
nearest_non_block_among-stop m (h ∷ hs) e = rw e refl

pub inherited-stop : (maps : Maps) (asking : Asking) (kind : PathKind) (segs : List (List ℕ)) (r : ResolvePathResult) (m : ModuleId) (hs : List ModuleId)
    → is_block_root m ≡ false → inherited maps asking kind segs r m hs ≡ with_preludes maps asking kind segs r m
inherited-stop maps asking kind segs r m [] e = refl
inherited-stop maps asking kind segs r m (h ∷ hs) e = rw e refl

pub ruleset stops = (nearest_non_block_among-stop, inherited-stop)
