-- What is left to be asked about decides.
use Rattle.std.proofs.Common.{◌∷◌, length}
use Rattle.hir_def_map_rules.specs.HirPerNs.ModuleTree.{chain_from}
use Rattle.hir_def_map_rules.specs.AskMaps.{AsksMaps, with_maps}
use Rattle.hir_def_map_rules.specs.Ancestors.{holders_in}
use Rattle.hir_nameres.specs.DefMaps.{maps_of}
use Rattle.hir_nameres.proofs.def_maps.DefMaps.with_ancestor_maps.Given as goal

abbrev pub invariant-out : goal.invariant-out
invariant-out g l =
    goal.F-IsAlwaysCallable g l.f
    × ((outcome : _) → AsksMaps (goal.F-step g) l.f (with_maps (maps_of l.self) (chain_from (holders_in (maps_of l.self)) l.next)) outcome
    → AsksMaps (goal.F-step g) l.fn.f (with_maps (maps_of l.self) (l.fn.at ∷ holders_in (maps_of l.self) l.fn.at)) outcome)

abbrev pub decreases-out : goal.decreases-out
decreases-out g l = length (chain_from (holders_in (maps_of l.self)) l.next)
