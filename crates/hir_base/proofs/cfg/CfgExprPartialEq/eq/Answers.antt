-- `same` answers whether the two are equal, and so does the test.
use Rattle.std.specs.Bool.{one_answer}
use Rattle.hir_base.specs.Cfg.{cfg_view}
use Rattle.hir_base.specs.SameCfg.{same_cfg, same_cfg_Decides}
use Rattle.hir_base.proofs.cfg.CfgExprPartialEq.eq.Goals as goal

pub returns : goal.returns
returns c =
    one_answer c.same.result (same_cfg (cfg_view c.args.self.now) (cfg_view c.args.other.now)) c.same.ensures.value
    (same_cfg_Decides (cfg_view c.args.self.now) (cfg_view c.args.other.now))
