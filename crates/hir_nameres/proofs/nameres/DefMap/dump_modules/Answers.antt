-- A module that is taken leaves its children behind, and its page in the text.
use Rattle.std.proofs.Common.{◌∙◌}
use Rattle.hir_def_map_rules.proofs.Branches.{steps_left-falls, with_pages-kept}
use Rattle.hir_nameres.proofs.nameres.DefMap.dump_modules.Goals as goal

pub modules-smaller : goal.modules-smaller
modules-smaller c = steps_left-falls c.args.self.now c.pop.new.self.items _ _ c.in-Some.branch c.in-Some.ensures.items c.in_ok-dump_branch.ensures.left

pub modules-preserved : goal.modules-preserved
modules-preserved c =
    c.modules.invariant
    ∙ with_pages-kept c.args.self.now c.pop.new.self.items _ _ c.in-Some.branch _ _ c.in-Some.ensures.items c.in_ok-dump_branch.ensures.left
    c.in_ok-dump_branch.ensures.page
