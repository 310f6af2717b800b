-- What is still to be visited declares what is still to be listed, and in the end nothing is.
use Rattle.hir_def_collector_laws.proofs.Modules.{modules_list_their_items, modules_list_their_items_alone}
use Rattle.hir_def_collector_laws.proofs.modules_list_their_items.Goals as goal

pub returns : goal.returns
returns c = record { modules = modules_list_their_items; alone = modules_list_their_items_alone }
