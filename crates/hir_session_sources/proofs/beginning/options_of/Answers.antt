-- The option that is set was the first of those that were still to be.
use Rattle.std.proofs.Common.{◌≡◌, ◌<◌, ◌∙◌, length, get_or}
use Rattle.hir_session_sources.proofs.OptionLemmas.{set_one_more}
use Rattle.hir_session_sources.proofs.beginning.options_of.Goals as goal

pub loop-atom-preserved : goal.loop-atom-preserved
loop-atom-preserved c a =
    let atoms = c.args.atoms.now.items in
    let within : c.loop-atom.atom-index < length atoms = rw c.deref-atom-items.ensures.value at c.loop-atom-test.true in
    let is : c.atom-item.result ≡ get_or atoms c.loop-atom.atom-index c.atom-item.result = rw c.deref-atom-items.ensures.value at c.atom-item.is in
    set_one_more _ _ atoms _ _ c.atom-item.result within (c.in_ok-clone.ensures.cases ∙ is) c.in_ok-insert.ensures.ok a (c.loop-atom.invariant a)
