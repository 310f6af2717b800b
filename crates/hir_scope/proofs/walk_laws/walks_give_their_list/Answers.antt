use Rattle.std.specs.Map.Iter.{deref_pair}
use Rattle.std.specs.Option.{option_copied}
use Rattle.hir_per_ns.specs.PerNs.{items_left}
use Rattle.hir_scope.proofs.WalkLemmas.{gives_its_list}
use Rattle.hir_scope.proofs.walk_laws.walks_give_their_list.Goals as goal

-- each walk gives the first of what is left at each step
pub returns : goal.returns
returns c = record {
  items = gives_its_list (λ item. item) items_left;
  impls = gives_its_list (λ id. id) (λ left. left);
  modules = gives_its_list (λ found. found) (λ left. left);
  traits = gives_its_list (λ id. id) (λ left. left);
  calls = gives_its_list (λ id. id) (λ left. left);
  imports = gives_its_list (λ id. id) (λ left. left);
  entries = gives_its_list (λ entry. (entry.0.now, entry.1)) (λ left. left);
  resolutions = gives_its_list (λ entry. (option_copied entry.0, entry.1)) (λ left. left);
  types = gives_its_list deref_pair (λ left. left);
  values = gives_its_list deref_pair (λ left. left);
  macros = gives_its_list deref_pair (λ left. left);
  legacy_macros = gives_its_list (λ m. m.now) (λ left. left);
  macro_invocs = gives_its_list deref_pair (λ left. left);
  derive_macro_invocs = gives_its_list deref_pair (λ left. left);
}
