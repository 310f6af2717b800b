use Rattle.hir_assoc_items.proofs.Unique.{unique}
use Rattle.hir_assoc_items.proofs.laws.listing_is_unique.Goals as goal

pub returns : goal.returns
returns c = record { unique = unique }
