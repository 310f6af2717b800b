use Rattle.std.proofs.Common.{◌≡◌, ◌++◌, string_bytes}
use Rattle.hir_item_tree.specs.Page.{pad}
use Rattle.hir_item_tree.proofs.put_attrs.put_pad.Given as goal

-- the levels so far have their spaces
abbrev pub invariant-loop : goal.invariant-loop
invariant-loop l = string_bytes l.out ≡ string_bytes l.initial.out ++ pad l.counter
