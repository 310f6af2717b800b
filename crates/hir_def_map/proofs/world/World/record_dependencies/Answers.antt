-- One crate after another, the last first, is recorded or covered.
use Rattle.std.proofs.Common.{rules}
use Rattle.std.specs.List.{list_any}
use Rattle.hir_nameres.specs.HirIds.declared.ids.MapId.{MapId}
use Rattle.hir_def_map_rules.specs.References.{lies_in, test_crate}
use Rattle.hir_def_map.proofs.Recorded.{fewer_before, gains-none, last-gained, last-less}
use Rattle.hir_def_map.proofs.world.World.record_dependencies.Goals as goal

pub next-init : goal.next-init
next-init c = (gains-none c.args.recorded.now c.args.own (λ (id : MapId). list_any (test_crate (lies_in id)) c.iter-left.result), c.requires.covered, λ id e. e)

pub next-smaller : goal.next-smaller
next-smaller c = fewer_before c.next.left c.next_back.new.self c.in-Some.krate (search rules)

pub next-preserved : goal.next-preserved
next-preserved c = (
  last-gained c.iter-left.result c.next.left c.next_back.new.self c.in-Some.krate (search rules) c.next.invariant.2 c.args.recorded.now c.next.recorded
      c.record_uncovered.new.recorded c.args.own
      c.next.invariant.0 c.in_ok-record_uncovered.ensures.gains,
  c.in_ok-record_uncovered.ensures.covered,
  last-less c.iter-left.result c.next.left c.next_back.new.self c.in-Some.krate (search rules) c.next.invariant.2,
)
