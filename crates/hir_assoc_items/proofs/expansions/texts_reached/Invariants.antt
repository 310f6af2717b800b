use Rattle.std.proofs.Common.{◌≡◌, ◌++◌, drop}
use Rattle.hir_collector_rules.specs.Keys.{environment}
use Rattle.hir_assoc_items.specs.AssocItems.{first_missing, texts_reached}
use Rattle.hir_assoc_items.specs.Steps.{container_view}
use Rattle.hir_assoc_items.proofs.Growth.{AreKnown}
use Rattle.hir_assoc_items.proofs.expansions.texts_reached.Given as goal

-- those before the ones that are left reach macros, with these texts
abbrev pub invariant-loop-path : goal.invariant-loop-path
invariant-loop-path g l =
    let w = g.D.SourceDatabase.workspace l.initial.db in
    record {
      same : g.D.SourceDatabase.workspace l.db ≡ w;
      missing : first_missing (container_view l.container) (drop l.path-index l.paths) ≡ first_missing (container_view l.container) l.paths;
      texts : l.texts.items ++ texts_reached (environment l.locations w) (container_view l.container) (drop l.path-index l.paths)
          ≡ texts_reached (environment l.locations w) (container_view l.container) l.paths;
      known : AreKnown l.locations (container_view l.container) (drop l.path-index l.paths) → AreKnown l.locations (container_view l.container) l.paths;
    }
