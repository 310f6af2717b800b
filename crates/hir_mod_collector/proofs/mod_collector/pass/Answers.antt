use Rattle.std.proofs.Common.{◌≡◌, ◌∙◌, List, map, slice_get, ap, subst}
use Rattle.std.specs.Option.{IfSome}
use Rattle.std.proofs.lemmas.Result.{IfOk-weaker}
use Rattle.hir_collector_state.specs.HirItemTree.Collected.{numbered}
use Rattle.hir_collector_state.specs.HirItemTree.ItemTree.{Tree}
use Rattle.hir_collector_state.specs.HirItemTree.KeptForest.{KeptItem, all_items}
use Rattle.hir_collector_state.specs.HirItemTree.Kinds.{item_head, kind_content, kind_of}
use Rattle.hir_collector_state.specs.HirItemTree.Rows.{item_of}
use Rattle.hir_collector_state.specs.HirItemTree.SourceTree.{SourceTreeValue}
use Rattle.hir_collector_state.specs.HirItemTree.declared.attrs.Attr.{Attr}
use Rattle.hir_collector_state.specs.HirIds.declared.ast_id.AstKind.{AstKind}
use Rattle.hir_collector_state.specs.HirCollectorRules.ItemIds.{node_of}
use Rattle.hir_collector_state.specs.HirCollectorRules.Moves.{Passes, PassesTooFar}
use Rattle.hir_attr_resolution.specs.Visiting.{IsVisited}
use Rattle.hir_collector_state.specs.HirCollectorRules.State.{core_in}
use Rattle.hir_collector_state.specs.HirCollectorRules.Steps.{visit}
use Rattle.hir_collector_state.specs.HirCollectorRules.TreeReads.{head_of}
use Rattle.hir_attr_resolution.specs.declared.attributes.Visited.{Visited}
use Rattle.hir_mod_collector.proofs.Walked.{holds_at_one, visited_one}
use Rattle.hir_mod_collector.proofs.mod_collector.pass.Goals as goal

pub returns-clause-ok : goal.returns-clause-ok
returns-clause-ok c =
    let n = c.args.id.0 in
    let site = c.args.site.now in
    let tree = c.args.source.now.value.tree in
    let h = head_of c.head_at-head.result in
    let item = c.index-item.result in
    let old = core_in c.args.run.now in
    let new = core_in c.pass_attributes.new.run in
    let seen : Visited = record {
      site = c.args.site;
      source = c.args.source;
      id = c.args.id;
      node = node_of site.tree c.kind_of.result
          c.head_at-head.result.id;
      attrs = c.as_slice.result;
      adt = c.adt_of.result;
    } in
    let heads : IfSome (slice_get (all_items tree.items) n) (λ i. h ≡ item_head i) =
    subst (λ (t : Tree). IfSome (slice_get (all_items t.items) n) (λ i. h ≡ item_head i)) (c.tree.ensures.value ∙ ap (λ (s : SourceTreeValue). s.tree)
    c.deref.ensures) c.head_at-head.ensures.value in
    let contents : IfSome (slice_get (all_items tree.items) n) (λ i. item_of (all_items tree.items) (item_head i) (kind_content item) ≡ i) =
    subst (λ (t : Tree). IfSome (slice_get (all_items t.items) n) (λ i. item_of (all_items t.items) (item_head i) (kind_content item) ≡ i))
    (c.tree-2.ensures.value ∙ ap (λ (s : SourceTreeValue). s.tree) c.deref-2.ensures) c.index-item.ensures.value in
    let is : IsVisited old.map seen (item_of (all_items tree.items) h (kind_content item)) =
    visited_one old.map seen h item c.requires.there heads contents c.requires.enabled (ap (λ (k : AstKind). node_of site.tree k c.head_at-head.result.id)
    c.kind_of.ensures.value)
    (ap (λ (attrs : List Attr). map numbered attrs) c.as_slice.ensures.value) (c.adt_of.ensures.value (all_items tree.items)) in
    IfOk-weaker c.pass_attributes.result _ _
    (λ passed goes env finished keeps. holds_at_one old.map seen h item c.requires.there heads contents
    (λ (i : KeptItem). Passes env finished old new (visit site i) c.args.done passed) (goes env finished _ keeps is)) c.pass_attributes.ensures.ok

pub returns-clause-many : goal.returns-clause-many
returns-clause-many c = λ far env finished keeps.
    let n = c.args.id.0 in
    let site = c.args.site.now in
    let tree = c.args.source.now.value.tree in
    let h = head_of c.head_at-head.result in
    let item = c.index-item.result in
    let old = core_in c.args.run.now in
    let seen : Visited = record {
      site = c.args.site;
      source = c.args.source;
      id = c.args.id;
      node = node_of site.tree c.kind_of.result
          c.head_at-head.result.id;
      attrs = c.as_slice.result;
      adt = c.adt_of.result;
    } in
    let heads : IfSome (slice_get (all_items tree.items) n) (λ i. h ≡ item_head i) =
    subst (λ (t : Tree). IfSome (slice_get (all_items t.items) n) (λ i. h ≡ item_head i)) (c.tree.ensures.value ∙ ap (λ (s : SourceTreeValue). s.tree)
    c.deref.ensures) c.head_at-head.ensures.value in
    let contents : IfSome (slice_get (all_items tree.items) n) (λ i. item_of (all_items tree.items) (item_head i) (kind_content item) ≡ i) =
    subst (λ (t : Tree). IfSome (slice_get (all_items t.items) n) (λ i. item_of (all_items t.items) (item_head i) (kind_content item) ≡ i))
    (c.tree-2.ensures.value ∙ ap (λ (s : SourceTreeValue). s.tree) c.deref-2.ensures) c.index-item.ensures.value in
    let is : IsVisited old.map seen (item_of (all_items tree.items) h (kind_content item)) =
    visited_one old.map seen h item c.requires.there heads contents c.requires.enabled (ap (λ (k : AstKind). node_of site.tree k c.head_at-head.result.id)
    c.kind_of.ensures.value)
    (ap (λ (attrs : List Attr). map numbered attrs) c.as_slice.ensures.value) (c.adt_of.ensures.value (all_items tree.items)) in
    holds_at_one old.map seen h item c.requires.there heads contents (λ (i : KeptItem). PassesTooFar env finished old (visit site i) c.args.done)
    (c.pass_attributes.ensures.many far env finished _ keeps is)

-- the node of the item lies in the tree of its site
pub pass_attributes-requires-clause-meant : goal.pass_attributes-requires-clause-meant
pass_attributes-requires-clause-meant c = c.requires.meant.tree
