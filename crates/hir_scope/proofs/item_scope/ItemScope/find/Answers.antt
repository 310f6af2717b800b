use Rattle.std.proofs.Common.{◌≤◌, ◌∙◌, ap, length, subst, sym}
use Rattle.std.specs.Cmp.Lexicographic.{slice_cmp}
use Rattle.std.specs.Ordering.{nat_cmp}
use Rattle.std.proofs.lemmas.Map.Entries.{length-keys_of}
use Rattle.hir_scope.specs.Probe.{binary_digits, position_of}
use Rattle.hir_scope_table.proofs.Names.{names_of_entries}
use Rattle.hir_scope.proofs.item_scope.ItemScope.find.Goals as goal

-- the names of the entries
pub returns : goal.returns
returns c =
    let es = c.self.inside.names in
    let names = names_of_entries es (record { ascends = c.is_kept.ensures.ascends; says = c.is_kept.ensures.says }) in
    record {
      position = rw (← c.self.view_is) (c.find.ensures.position ∙ ap (λ ks. position_of (slice_cmp nat_cmp) ks c.args.name.now) (sym names));
      count = rw (← c.self.view_is) (subst (λ n. c.find.result.1 ≤ binary_digits n) (sym (ap length names ∙ length-keys_of es)) c.find.ensures.count);
    }
