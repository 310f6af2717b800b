-- The id is the number that the table of its kind gives, and the other tables stay.
use Rattle.std.proofs.Common.{◌≡◌, map, sym, ap, ◌∙◌}
use Rattle.hir_base.specs.declared.locations.LocationsError.TheVariants.{TooMany}
use Rattle.hir_tables.specs.SourcePlaces.{expansion_value}
use Rattle.hir_tables.proofs.PlainLemmas.{IsOnce-distinct, KeepsNumbers-interned, as_id, id_means, id_again, id_grown, id_too_many}
use Rattle.hir_tables.proofs.TableLemmas.{of_files, file_id, file_ids}
use Rattle.hir_tables.proofs.tables.Tables.intern_file.Goals as goal
use Rattle.hir_tables.proofs.tables.Tables.intern_file.Goals.{in-Ok, in-Err}

result-is : (c : goal.Joined-intern) → c.match-intern.result ≡ as_id file_id c.intern.result
result-is c =
    elim c.match-intern.branch [
      | in-Ok w ↦ w.result-is ∙ ap (as_id file_id) (sym w.in-Ok.is)
      | in-Err w ↦ w.result-is ∙ ap (as_id file_id) (sym w.in-Err.is)
    ]

pub invariant_of-self : goal.invariant_of-self
invariant_of-self c = record {
  files = IsOnce-distinct of_files c.intern.new.self c.intern.ensures.distinct;
  blocks = c.self.invariant.blocks;
  entries = c.self.invariant.entries;
  calls = c.self.invariant.calls;
}

pub returns-clause-found : goal.returns-clause-found
returns-clause-found c = rw (result-is c) (id_means of_files file_ids c.intern.new.self c.args.path c.intern.result c.intern.ensures.found)

pub returns-clause-again : goal.returns-clause-again
returns-clause-again c = rw (← c.self.view_is) (λ id at.
    let both = id_again of_files file_ids c.self.inside.files c.intern.new.self c.args.path c.intern.result c.intern.ensures.again id at in (
      result-is c ∙ both.0,
      λ i. record {
        files = both.1 i;
        blocks = c.self.inside.blocks;
        entries = map expansion_value c.self.inside.entries;
        calls = c.self.inside.calls;
      },
    ))

pub returns-clause-grown : goal.returns-clause-grown
returns-clause-grown c =
    rw (← c.self.view_is, result-is c) (id_grown of_files file_ids c.self.inside.files c.intern.new.self c.args.path c.intern.result c.intern.ensures.ok)

pub returns-clause-kept : goal.returns-clause-kept
returns-clause-kept c = rw (← c.self.view_is) (record {
  files = KeepsNumbers-interned of_files c.self.inside.files c.intern.new.self c.args.path c.intern.result c.intern.ensures.ok c.intern.ensures.err;
  blocks = λ n v at. at;
  entries = λ n v at. at;
  calls = λ n v at. at;
})

pub returns-clause-too_many : goal.returns-clause-too_many
returns-clause-too_many c =
    rw (← c.self.view_is, result-is c) (id_too_many of_files file_ids c.self.inside.files c.args.path c.intern.result TooMany c.intern.ensures.too_many)
