use Rattle.std.proofs.Common.{◌≡◌, drop}
use Rattle.std.specs.Prelude.{fold}
use Rattle.hir_collector_state.specs.HirCollectorRules.Enums.{variants_by_name, with_variant}
use Rattle.hir_collector_items.proofs.enums.by_name.Given as goal

abbrev pub invariant-loop-item : goal.invariant-loop-item
invariant-loop-item l = variants_by_name l.id l.items ≡ fold (with_variant l.id) l.variants (drop l.item-index l.items)
