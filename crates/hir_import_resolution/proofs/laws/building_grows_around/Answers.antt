use Rattle.hir_import_growth.proofs.GrowingAround.{enums_around, lists_around, macro_uses_around, modules_around, scopes_around}
use Rattle.hir_import_resolution.proofs.laws.building_grows_around.Goals as goal

pub returns : goal.returns
returns c = record { made = modules_around; listed = lists_around; enums = enums_around; scopes = scopes_around; macro_uses = macro_uses_around }
