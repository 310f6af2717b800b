-- What has been found, and what is further out, give the whole answer.
use Rattle.std.proofs.Common.{◌≡◌, length}
use Rattle.hir_def_map_rules.specs.Ancestors.{holders_in}
use Rattle.hir_nameres.specs.DefMaps.{maps_of}
use Rattle.hir_nameres.specs.Scoping.Query.{asking_of}
use Rattle.hir_def_map_rules.specs.Scoping.Blocks.{from_blocks, inherited}
use Rattle.hir_nameres.proofs.nameres.path_resolution.query.Query.resolve.Given as goal

abbrev pub invariant-out : goal.invariant-out
invariant-out l =
    from_blocks (maps_of l.self.maps) (asking_of l.self) l.fn.from l.fn.kind l.fn.segments
    ≡ inherited (maps_of l.self.maps) (asking_of l.self) l.kind l.segments l.found l.at (holders_in (maps_of l.self.maps) l.at)

abbrev pub decreases-out : goal.decreases-out
decreases-out l = length (holders_in (maps_of l.self.maps) l.at)
