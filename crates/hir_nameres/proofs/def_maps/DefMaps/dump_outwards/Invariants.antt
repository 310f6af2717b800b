-- What is written and what is further out give the whole text.
use Rattle.std.proofs.Common.{◌≡◌, length}
use Rattle.std.specs.List.{flat_map}
use Rattle.std.specs.String.{string_bytes}
use Rattle.hir_def_map_rules.specs.HirPerNs.ModuleTree.{chain_from}
use Rattle.hir_def_map_rules.specs.Ancestors.{holders_in}
use Rattle.hir_nameres.specs.DefMaps.{maps_of}
use Rattle.hir_def_map_rules.specs.Dump.{pages_around, pages_outwards}
use Rattle.hir_def_map_rules.specs.Inner.Branches.{with_pages}
use Rattle.hir_nameres.proofs.def_maps.DefMaps.dump_outwards.Given as goal

abbrev pub invariant-out : goal.invariant-out
invariant-out l =
    with_pages (string_bytes l.initial.buf) (pages_outwards (maps_of l.self) l.fn.at)
    ≡ with_pages (string_bytes l.buf) (flat_map (pages_around (maps_of l.self)) (chain_from (holders_in (maps_of l.self)) l.next))

abbrev pub decreases-out : goal.decreases-out
decreases-out l = length (chain_from (holders_in (maps_of l.self)) l.next)
