use Rattle.hir_nameres.proofs.HirScope.WalkLemmas.{gives_its_list}
use Rattle.hir_def_map_laws.proofs.walks_give_their_list.Goals as goal

-- the walk gives the first of what is left at each step
pub returns : goal.returns
returns c = record { modules = gives_its_list (λ id. id) (λ left. left) }
