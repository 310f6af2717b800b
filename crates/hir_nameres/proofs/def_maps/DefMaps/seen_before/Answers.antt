-- Before a further segment the types alone count.
use Rattle.std.proofs.Common.{rules}
use Rattle.hir_def_map_rules.proofs.Segments.{rest-types}
use Rattle.hir_nameres.specs.DefMaps.{maps_of}
use Rattle.hir_nameres.proofs.def_maps.DefMaps.seen_before.Goals as goal

pub returns-in-len1-up : goal.returns-in-len1-up
returns-in-len1-up c = record { value = λ onward i. rest-types (maps_of c.args.self.now) onward c.args.others.now i _ _ (search rules) (search rules) }
