-- The items of an expansion stand in the call's place.
use Rattle.std.proofs.Common.{rules, ◌≡◌, ◌∙◌, ◌+◌, ◌++◌, List, ap, map, subst, sym}
use Rattle.std.specs.Prelude.{IsSome}
use Rattle.hir_collector_rules.specs.HirBase.ModPath.{Path}
use Rattle.hir_collector_rules.specs.HirIds.declared.ast_id.AstId.{AstId}
use Rattle.hir_collector_rules.specs.HirItemTree.ItemTree.{Tree}
use Rattle.hir_collector_rules.specs.HirItemTree.SourceTree.{SourceTreeValue}
use Rattle.hir_collector_rules.specs.HirBase.declared.tree_id.TreeId.{TreeId}
use Rattle.hir_collector_rules.specs.HirTables.Tables.{source_of}
use Rattle.hir_collector_rules.specs.Calls.{call_tree}
use Rattle.hir_collector_rules.specs.Keys.{environment, node_tree}
use Rattle.hir_collector_rules.specs.Moves.{OnceGrown}
use Rattle.hir_assoc_items.specs.AssocItems.{HasNoNumber, first_missing, followed_by, inner_paths, one_call}
use Rattle.hir_assoc_items.specs.Steps.{IsLook, SeesCall, container_view, left_of, listing_view}
use Rattle.hir_assoc_items.specs.Written.{WrittenValue, item_node, top_items, written, written_view}
use Rattle.hir_assoc_items.specs.declared.written.Written.{Written}
use Rattle.hir_assoc_items.proofs.OnItsWay.{left_pushed}
use Rattle.hir_assoc_items.proofs.Taking.{some_of, taken_expanded, taken_waiting}
use Rattle.hir_assoc_items.proofs.flatten.expand.Goals as goal

pub look_at_call-requires : goal.look_at_call-requires
look_at_call-requires g c =
    record { meant = subst (λ (n : AstId). IsSome (source_of c.args.locations.now (node_tree n))) (sym c.node-node.ensures.value) c.requires.meant }

pub returns-in_err-look-clause-many : goal.returns-in_err-look-clause-many
returns-in_err-look-clause-many g c = λ h.
    let w = g.D.SourceDatabase.workspace c.args.db.now in
    subst (λ (n : AstId). HasNoNumber (environment c.look_at_call.new.locations w) (container_view c.args.container.now) n c.args.makro)
    c.node-node.ensures.value (c.in_err-look.ensures.many (search rules))

pub returns-in_err-look-clause-unknown : goal.returns-in_err-look-clause-unknown
returns-in_err-look-clause-unknown g c = λ h. c.in_err-look.ensures.unknown (search rules)

-- one whose macro asks for a path that reaches nothing is told
pub tell_missing-requires : goal.tell_missing-requires
tell_missing-requires g c =
    let w = g.D.SourceDatabase.workspace c.args.db.now in
    let of = container_view c.args.container.now in
    let seen = subst (IsLook c.look_at_call.new.locations w of c.node-node.result c.args.makro) c.in-Waits.is c.in_ok-look.ensures.sees in
    record { missing = subst (λ (ps : List Path). IsSome (first_missing of ps)) (sym c.as_slice.ensures.value) seen.1 }

pub returns-in-Waits-clause-ok : goal.returns-in-Waits-clause-ok
returns-in-Waits-clause-ok g c =
    let w = g.D.SourceDatabase.workspace c.args.db.now in
    let tables = c.look_at_call.new.locations in
    let of = container_view c.args.container.now in
    let i : WrittenValue = written_view c.args.item.now in
    let makro = c.args.makro in
    let paths : List Path = c.in-Waits.inner in
    let seen = subst (IsLook tables w of c.node-node.result makro) c.in-Waits.is c.in_ok-look.ensures.sees in
    let lacking = some_of (first_missing of paths) seen.1 in
    taken_waiting tables w of i c.args.path.now makro paths lacking.0 (left_of c.args.left.now.items) (listing_view c.args.found.now)
    (listing_view c.tell_missing.new.found) c.requires.reaches
    (subst (λ (n : AstId). OnceGrown tables w (λ env. paths ≡ inner_paths env of n makro)) c.node-node.ensures.value seen.0) lacking.1
    (c.in_ok-tell_missing-in-Waits.ensures.ok lacking.0 (ap (first_missing of) c.as_slice.ensures.value ∙ lacking.1))

pub returns-clause-ok : goal.returns-clause-ok
returns-clause-ok g c =
    let w = g.D.SourceDatabase.workspace c.args.db.now in
    let tables = c.look_at_call.new.locations in
    let of = container_view c.args.container.now in
    let i : WrittenValue = written_view c.args.item.now in
    let makro = c.args.makro in
    let id = c.in-Expands.expansion.id in
    let error = c.in-Expands.expansion.error in
    let source : SourceTreeValue = c.in-Expands.expansion.source.value in
    let before : List Written = c.args.left.now.items in
    let inside : List Written = c.in_ok-inside.inside.items in
    let is_node : c.node-node.result ≡ item_node i = c.node-node.ensures.value in
    let seen = subst (IsLook tables w of c.node-node.result makro) c.in-Expands.is c.in_ok-look.ensures.sees in
    let tree : c.tree.result.now ≡ source.tree = c.tree.ensures.value ∙ ap (λ (s : SourceTreeValue). s.tree) c.deref.ensures in
    let items : map written_view inside ≡ written (call_tree id) (i.level + 1) (top_items source.tree.items) =
    c.in_ok-inside.ensures.value ∙ ap (λ (t : TreeId). written t (i.level + 1) (top_items (c.tree.result.now).items)) c.call_tree.ensures.value
    ∙ ap (λ (t : Tree). written (call_tree id) (i.level + 1) (top_items t.items)) tree in
    taken_expanded tables w of i c.args.path.now makro id error source (left_of before) (left_of c.append.new.self.items) (listing_view c.args.found.now)
    (listing_view c.enter.new.found) c.requires.reaches
    (subst (λ (n : AstId). SeesCall tables w of n makro id error source) is_node seen)
    (ap left_of (c.in_ok-append.ensures.items ∙ ap (λ (is : List Written). before ++ is) c.reverse.ensures.items) ∙ left_pushed before inside ∙ ap
    (λ (ws : List WrittenValue). ws ++ left_of before) items)
    (c.in_ok-enter.ensures.ok ∙ ap (λ (n : AstId). followed_by (listing_view c.args.found.now) (one_call of n id c.args.path.now error)) is_node)
