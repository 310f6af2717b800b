-- The next name is none of those that were copied.
use Rattle.std.proofs.Common.{rules, nat_eq}
use Rattle.std.specs.Cmp.Lexicographic.{nat_list_eq_equiv, pointwise}
use Rattle.hir_map_parts.proofs.Copies.{last_copied}
use Rattle.hir_map_parts.proofs.local_def_map.copied.Goals as goal

pub next-preserved : goal.next-preserved
next-preserved c = (
  c.next.invariant.0,
  last_copied (pointwise nat_eq) nat_list_eq_equiv c.args.entries.now.entries c.next.copy.entries c.next.left c.next-in-next.new.self c.insert.new.self.entries
      c.in-Some.name.now c.in-Some.entry.now c.next.invariant.0 c.next.invariant.1 (search rules) (search rules),
)
