-- Each field so far has what its own visibility means.
use Rattle.std.proofs.Common.{◌≡◌, false, map, option_copied, take}
use Rattle.hir_nameres.specs.DefMaps.{maps_of}
use Rattle.hir_def_map_rules.specs.Scoping.Asking.{local_of}
use Rattle.hir_def_map_rules.specs.Visibilities.{written_visibility}
use Rattle.hir_nameres.proofs.def_maps.DefMaps.field_visibilities.Given as goal

abbrev pub invariant-loop-raw : goal.invariant-loop-raw
invariant-loop-raw l = l.fields.items ≡ map (written_visibility (maps_of l.self) (local_of (option_copied l.local)) l.at false) (take l.raw-index l.raws)
