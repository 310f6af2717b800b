-- A source that keeps the items has a number, so that their tree has one.
use Rattle.std.proofs.Common.{◌≡◌, ◌∙◌, Some, ap, map, sym}
use Rattle.std.specs.Prelude.{IsSome}
use Rattle.std.specs.Option.{option_and_then}
use Rattle.hir_collector_rules.specs.HirItemTree.SideLists.{entry_associated, row_item}
use Rattle.hir_collector_rules.specs.HirItemTree.SourceTree.{SourceTreeValue, side_of}
use Rattle.hir_collector_rules.specs.HirItemTree.SyntaxIds.{node_id}
use Rattle.hir_collector_rules.specs.HirTables.Tables.{source_of}
use Rattle.hir_collector_rules.specs.Keys.{source_in}
use Rattle.hir_assoc_items.specs.AssocItems.{loc_key, loc_tree}
use Rattle.hir_assoc_items.specs.Written.{written, written_view}
use Rattle.hir_assoc_items.proofs.Kept.{there_where_kept}
use Rattle.hir_assoc_items.proofs.Taking.{meant_once, written_meant}
use Rattle.hir_assoc_items.proofs.query.written_items.Goals as goal

pub returns-in-Some-clause-meant : goal.returns-in-Some-clause-meant
returns-in-Some-clause-meant g c =
    let w = g.D.SourceDatabase.workspace c.args.db.now in
    let tables = c.args.locations.now in
    let loc = c.args.loc in
    let node = node_id c.args.kind loc.id in
    let items = map row_item c.in-Some.rows.now in
    let kept : option_and_then entry_associated (side_of (source_in tables w (loc_key loc)) node) ≡ Some items =
    sym (c.in-Some.ensures.value ∙ ap (λ (s : SourceTreeValue). option_and_then entry_associated (side_of s node))
    (c.deref.ensures ∙ c.in_ok-source.ensures.value)) in
    let there : IsSome (source_of tables (loc_tree loc)) = there_where_kept tables w (loc_key loc) node items kept in
    let level = c.expansions_around-level.result in
    meant_once tables (written (loc_tree loc) level items) c.of_rows.result (λ found. map written_view found.items) c.of_rows.ensures.value
    (written_meant tables (loc_tree loc) there level items)
