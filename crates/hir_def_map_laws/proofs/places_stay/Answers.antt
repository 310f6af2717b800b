-- What lies above a module hangs on frames alone.
use Rattle.std.proofs.Common.{◌≡◌}
use Rattle.hir_nameres.specs.HirIds.declared.ids.MapId.{MapId}
use Rattle.hir_nameres.specs.HirDefMapRules.Overlay.{Maps}
use Rattle.hir_nameres.specs.HirDefMapRules.Ancestors.{above_by, above_in, frames_of, holders_by}
use Rattle.hir_nameres.proofs.HirDefMapRules.Grown.{frames_of-pushed}
use Rattle.hir_nameres.proofs.HirDefMapRules.Listed.{frames_of-listed}
use Rattle.hir_def_map_laws.specs.Building.{KeepsPlaces}
use Rattle.hir_def_map_laws.proofs.places_stay.Goals as goal

same_places : (old new : Maps) → ((id : MapId) → frames_of new id ≡ frames_of old id) → KeepsPlaces old new
unfolding above_in
same_places old new same = record {
  above = λ m i. above_by (λ id. same id i) m;
  holders = λ m i. holders_by (λ id. same id i) m;
}

pub returns : goal.returns
returns c = record {
  pushed = λ finished map globs at name items import. same_places _ _ (frames_of-pushed finished map globs at name items import);
  listed = λ finished map at d. same_places _ _ (frames_of-listed finished map at d);
}
