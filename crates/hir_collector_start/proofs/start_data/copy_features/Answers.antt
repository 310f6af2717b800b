-- The next feature comes after all that were copied, and nothing else changes.
use Rattle.std.proofs.Common.{rules, ◌≡◌, ◌∙◌, List, ℕ, sym, ap}
use Rattle.std.proofs.lemmas.Cmp.{nat_list_cmp_total}
use Rattle.std.specs.Cmp.Lexicographic.{slice_cmp}
use Rattle.std.specs.Ordering.{nat_cmp}
use Rattle.hir_collector_rules.specs.HirDefMapRules.State.{CrateData}
use Rattle.hir_collector_rules.proofs.HirMapParts.Copies.{key_copied}
use Rattle.hir_collector_start.proofs.start_data.copy_features.Goals as goal

-- data that differ from those at first in the features alone still do where the features change
features_alone : (first before next : CrateData) (features : List (List ℕ)) → before ≡ record first { features = before.features } → next
    ≡ record before { features = features }
    → next ≡ record first { features = next.features }
features_alone first before next features alone changed =
    changed ∙ ap (λ (d : CrateData). record d { features = features }) alone ∙ ap (λ (d : CrateData). record first { features = d.features }) (sym changed)

pub next-preserved : goal.next-preserved
next-preserved c = (
  c.next.invariant.0,
  key_copied (slice_cmp nat_cmp) nat_list_cmp_total c.args.features.now.keys c.next.crate_data.features c.next.left c.next-in-next.new.self
      c.add_feature.new.self.features c.in-Some.name.now
      c.next.invariant.0 c.next.invariant.1 (search rules) (search rules),
  features_alone c.args.crate_data.now c.next.crate_data c.add_feature.new.self _ c.next.invariant.2 c.in_ok-add_feature.ensures.ok,
)
