-- What becomes of an item that is taken.
use Rattle.std.proofs.Common.{◌≡◌, ℕ, ◌+◌, List, [], ◌∷◌, ◌++◌, Option, None, Some, Result, Ok, Err, refl, sym, subst}
use Rattle.std.specs.Prelude.{IfOk, IsSome}
use Rattle.hir_collector_rules.specs.HirBase.ModPath.{Path}
use Rattle.hir_collector_rules.specs.HirBase.Cfg.{Cfg}
use Rattle.hir_collector_rules.specs.HirIds.declared.ast_id.MacroCallId.{MacroCallId}
use Rattle.hir_collector_rules.specs.HirIds.declared.macro_kind.MacroId.{MacroId}
use Rattle.hir_collector_rules.specs.HirIds.declared.ast_id.SyntaxId.{SyntaxId}
use Rattle.hir_collector_rules.specs.HirItemTree.KeptForest.{KeptItem, leaf, holder}
use Rattle.hir_collector_rules.specs.HirItemTree.SourceTree.{SourceTreeValue}
use Rattle.hir_collector_rules.specs.HirBase.declared.tree_id.TreeId.{TreeId}
use Rattle.hir_collector_rules.specs.HirTables.Tables.{TablesValue, source_of}
use Rattle.hir_collector_rules.specs.Calls.{call_tree}
use Rattle.hir_collector_rules.specs.Keys.{environment}
use Rattle.hir_collector_rules.specs.Moves.{OnceGrown}
use Rattle.hir_collector_rules.specs.Workspace.{Workspace}
use Rattle.hir_assoc_items.specs.AssocItems.{Becomes, ContainerValue, ListingValue, Reaches, call, call_error, call_source, expanded, first_missing, followed_by}
use Rattle.hir_assoc_items.specs.AssocItems.{inner_paths, one_call, unresolved, waits}
use Rattle.hir_assoc_items.specs.Steps.{AreMeant, SeesCall, Takes}
use Rattle.hir_assoc_items.specs.Written.{WrittenValue, assoc_kind, item_node, top_items, written, written_as, written_item}
use Rattle.hir_assoc_items.specs.declared.written.AssocKind.{AssocKind}

-- nothing stands in its place
pub taken_alone : (tables : TablesValue) (w : Workspace) (c : ContainerValue) (i : WrittenValue) (left : List WrittenValue) (old new ahead : ListingValue)
    → OnceGrown tables w (λ env. Becomes env c i ahead []) → new ≡ followed_by old ahead → Takes tables w c i left left old new
taken_alone tables w c i left old new ahead becomes found = record { ahead = ahead; inside = []; becomes = becomes; left = refl; found = found; meant = tt }

pub meant_both : (tables : TablesValue) (xs ys : List WrittenValue) → AreMeant tables xs → AreMeant tables ys → AreMeant tables (xs ++ ys)
meant_both tables [] ys p q = q
meant_both tables (x ∷ xs) ys p q = (p.0, meant_both tables xs ys p.1 q)

module _ (tables : TablesValue) (tree : TreeId) (there : IsSome (source_of tables tree)) (level : ℕ) where
  as_meant : (id : SyntaxId) (disabled : Option Cfg) (kind : Option AssocKind) → AreMeant tables (written_as tree level id disabled kind)
  as_meant id disabled None = tt
  as_meant id disabled (Some kind) = (there, tt)

  item_meant : (i : KeptItem) → AreMeant tables (written_item tree level i)
  item_meant (leaf h l) = as_meant h.id h.attributes.disabled (assoc_kind l)
  item_meant (holder h k f) = tt

  -- the items of a tree that has a number
  pub written_meant : (is : List KeptItem) → AreMeant tables (written tree level is)
  written_meant [] = tt
  written_meant (i ∷ is) = meant_both tables (written_item tree level i) (written tree level is) (item_meant i) (written_meant is)

-- the items of its expansion do
pub taken_expanded : (tables : TablesValue) (w : Workspace) (c : ContainerValue) (i : WrittenValue) (path : Path) (makro : MacroId) (id : MacroCallId)
    (error : Option (List ℕ)) (source : SourceTreeValue)
    (before after : List WrittenValue) (old new : ListingValue) → Reaches c i path makro → SeesCall tables w c (item_node i) makro id error source
    → after ≡ written (call_tree id) (i.level + 1) (top_items source.tree.items) ++ before → new ≡ followed_by old (one_call c (item_node i) id path error)
    → Takes tables w c i before after old new
taken_expanded tables w c i path makro id error source before after old new reaches sees left found = record {
  ahead = one_call c (item_node i) id path error;
  inside = written (call_tree id) (i.level + 1) (top_items source.tree.items);
  becomes = λ grown k.
      let env = environment grown w in
      subst (λ (e : Option (List ℕ)). Becomes env c i (one_call c (item_node i) id path e) (written (call_tree id) (i.level + 1) (top_items source.tree.items)))
      (sym (sees.told grown k))
      (subst (λ (s : SourceTreeValue). Becomes env c i (one_call c (item_node i) id path (call_error env c (item_node i) makro))
      (written (call_tree id) (i.level + 1) (top_items s.tree.items)))
      (sym (sees.brought grown k)) (call path (one_call c (item_node i) id path (call_error env c (item_node i) makro))
      (written (call_tree id) (i.level + 1) (top_items (call_source env c id).tree.items)) reaches.is
      (expanded makro id reaches.shallow reaches.reached (sees.first grown k) (sees.numbered grown k))));
  left = left;
  found = found;
  meant = written_meant tables (call_tree id) sees.meant (i.level + 1) (top_items source.tree.items);
}

-- the value of which it is said that there is one
pub some_of : {A : Type 0} (o : Option A) → IsSome o → (a : A) × (o ≡ Some a)
some_of None there = absurd (let no : ⊥ = cc in no)
some_of (Some a) there = (a, refl)

-- a call whose macro asks for a path first that reaches nothing is told for it
pub taken_waiting : (tables : TablesValue) (w : Workspace) (c : ContainerValue) (i : WrittenValue) (path : Path) (makro : MacroId) (paths : List Path)
    (lacking : Path) (left : List WrittenValue) (old new : ListingValue) → Reaches c i path makro
    → OnceGrown tables w (λ env. paths ≡ inner_paths env c (item_node i) makro) → first_missing c paths ≡ Some lacking
    → new ≡ followed_by old (unresolved c i lacking)
    → Takes tables w c i left left old new
taken_waiting tables w c i path makro paths lacking left old new reaches are missing found =
    taken_alone tables w c i left old new (unresolved c i lacking)
    (λ grown k. call path (unresolved c i lacking) [] reaches.is (waits makro lacking reaches.shallow reaches.reached
    (subst (λ (ps : List Path). first_missing c ps ≡ Some lacking) (are grown k) missing))) found

pub meant_once : {T E : Type 0} (tables : TablesValue) (items : List WrittenValue) (r : Result T E) (view : T → List WrittenValue)
    → IfOk r (λ t. view t ≡ items) → AreMeant tables items
    → IfOk r (λ t. AreMeant tables (view t))
meant_once tables items (Ok t) view same meant = subst (λ (is : List WrittenValue). AreMeant tables is) (sym same) meant
meant_once tables items (Err e) view same meant = tt
