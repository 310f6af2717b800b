-- What is left decides.
use Rattle.std.proofs.Common.{◌≡◌, length}
use Rattle.hir_map_parts.specs.References.{are_variants_of}
use Rattle.hir_map_parts.proofs.enum_variants.EnumVariants.are_of.Given as goal

abbrev pub invariant-each : goal.invariant-each
invariant-each l = are_variants_of l.id l.self ≡ are_variants_of l.id l.left

abbrev pub decreases-each : goal.decreases-each
decreases-each l = length l.left
