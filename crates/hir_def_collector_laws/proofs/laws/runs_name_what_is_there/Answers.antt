-- It begins with what is there, and each step leaves it so.
use Rattle.std.proofs.Common.{refl}
use Rattle.hir_collector_rules.specs.Start.{read_by}
use Rattle.hir_def_collector_laws.proofs.Whole.{ends_whole}
use Rattle.hir_def_collector_laws.proofs.laws.runs_name_what_is_there.Goals as goal

pub returns : goal.returns
returns c =
    record {
      there = λ tables w finished from answer whole stands e. ends_whole c.paths_lead_to_what_is_there.ensures.there (read_by w finished from.start)
          whole tables w finished from answer refl stands e;
    }
