-- Each by itself.
use Rattle.hir_def_map_laws.proofs.Apart.{parts_apart, some_apart, worlds_apart}
use Rattle.hir_def_map_laws.proofs.Whole.{KeepApart-whole}
use Rattle.hir_def_map_laws.proofs.finished_maps_keep_apart.Goals as goal

pub returns : goal.returns
returns c =
    record { whole = λ finished own whole absent. KeepApart-whole finished own absent whole; worlds = worlds_apart; among = some_apart; parts = parts_apart }
