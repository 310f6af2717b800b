use Rattle.std.proofs.Common.{◌≡◌, false, take}
use Rattle.std.specs.Fmt.{HasWritten, IsPlainFormatter}
use Rattle.hir_base.specs.Cfg.{cfgs_view, parts_text}
use Rattle.hir_base.proofs.CfgLemmas.{is_any}
use Rattle.hir_base.proofs.cfg.+print.Given as goal

abbrev pub invariant-print_all-loop-part : goal.invariant-print_all-loop-part
invariant-print_all-loop-part g l =
    (IsPlainFormatter l.initial.f → HasWritten g.W.Write.write_str_gives l.initial.f (parts_text false (cfgs_view (take l.part-index l.part-items))) l.f)
    × (l.later ≡ is_any (take l.part-index l.part-items))
