-- A path is followed in both maps at once.
use Rattle.hir_def_map_laws.proofs.InScopes.{changed_modules, crate_maps_outside, crates_outside}
use Rattle.hir_def_map_laws.proofs.ReadLaw.{scopes_read}
use Rattle.hir_def_map_laws.proofs.scopes_read_alike.Goals as goal

pub returns : goal.returns
returns c = record { paths = scopes_read; changed = changed_modules; crates = crate_maps_outside; begins = crates_outside }
