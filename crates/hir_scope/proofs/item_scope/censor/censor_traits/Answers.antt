use Rattle.std.proofs.Common.{rules}
use Rattle.std.proofs.lemmas.Map.Made.{map_same_pairs}
use Rattle.hir_scope.specs.Scope.Updates.{censored_item}
use Rattle.hir_scope.proofs.item_scope.censor.censor_traits.Goals as goal

pub returns : goal.returns
returns c = record { value = map_same_pairs _ (censored_item c.args.krate) _ (λ k v b w f' t. search rules) _ _ c.retain.ensures.filtered }
