-- Where nothing is at the key all stays.
use Rattle.std.proofs.Common.{◌∙◌, ap, sym}
use Rattle.std.specs.BTreeMap.{is_at}
use Rattle.hir_session_sources.proofs.Lookups.{set_value-none}
use Rattle.hir_session_sources.proofs.by_crate.put_at.Goals as goal

pub returns-in-None : goal.returns-in-None
returns-in-None g c = record {
  value = ap (λ m. m.entries) c.get_mut.follows.holds-at-none
      ∙ sym (set_value-none (is_at (g.K.Ord.cmp c.args.key.now)) c.args.own.now.entries c.args.value (sym c.in-None.ensures.value));
}
