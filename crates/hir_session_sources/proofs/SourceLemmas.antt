-- What an edit leaves of each source, and of what is seen at each key.
use Rattle.std.proofs.Common.{◌≡◌, ◌≢◌, ℕ, Bool, true, false, cond, List, Option, Some, None, option_map, refl, sym, ap, ◌∙◌, subst}
use Rattle.std.specs.Ordering.{nat_cmp}
use Rattle.std.specs.Cmp.Lexicographic.{slice_cmp, bytes_decides}
use Rattle.std.specs.BTreeMap.{is_at}
use Rattle.std.proofs.lemmas.Map.Text.{is_eq-slice_cmp}
use Rattle.hir_session_state.specs.HirIds.declared.ast_id.AstKind.TheVariants.{MacroDef, MacroRules}
use Rattle.hir_session_state.specs.HirBase.contracts.place.BlockPlaceOrd.TheImpl as block_order
use Rattle.hir_session_state.specs.HirBase.declared.place.BlockPlace.{BlockPlace}
use Rattle.hir_session_state.specs.HirIds.declared.ast_id.EntryId.{EntryId}
use Rattle.hir_session_state.specs.HirIds.declared.macro_kind.MacroId.TheVariants as macros
use Rattle.hir_session_state.specs.HirItemTree.Source.{SourceValue}
use Rattle.hir_session_state.specs.HirItemTree.SourceTree.{SourceTreeValue, variants_of}
use Rattle.hir_session_state.specs.HirItemTree.SyntaxIds.{node_id}
use Rattle.hir_session_state.specs.HirBase.declared.tree_id.TreeKey.{TreeKey}
use Rattle.hir_session_state.specs.HirTables.SourcePlaces.{ExpansionValue, SourcePlaceValue, block, expansion, file}
use Rattle.hir_session_state.specs.HirTables.Tables as numbers
use Rattle.hir_session_state.specs.HirTables.Tables.{TablesValue, source_of}
use Rattle.hir_session_state.specs.HirDefMapRules.Overlay.{no_maps}
use Rattle.hir_session_state.specs.HirCollectorRules.Workspace.{EntryLook, Workspace, seen_of}
use Rattle.hir_session_state.specs.HirCollectorRules.Keys.{entry_under, input_of, look, of_entry, of_input, of_text}
use Rattle.hir_session_state.specs.HirCollectorRules.Keys.{of_tree, of_variants, source_in, source_under, text_of}
use Rattle.hir_session_state.specs.HirCollectorRules.declared.source_database.Key.{Key}
use Rattle.hir_session_state.specs.HirCollectorRules.declared.source_database.Key.TheVariants as keys
use Rattle.hir_session_state.specs.HirMessages.Edits.{EntryValue}
use Rattle.hir_session_state.specs.Blocks.{Blocks, block_in, blocks_with, place_of_block}
use Rattle.hir_session_state.specs.Crates.{CrateValue}
use Rattle.hir_session_state.specs.Entries.{Entries, entries_with, entry_at, expansion_cmp, look_of, source_of as source_in_entry}
use Rattle.hir_session_state.specs.Files.{Files, edited_at, file_at}
use Rattle.hir_session_state.specs.KeySources.{key_place, key_tree, tree_place}
use Rattle.hir_session_state.specs.SourceEdits.{SourceEditValue, IsSeenAlike, edited, of_block, of_expansion, of_file, place_of, source_by}
use Rattle.hir_session_state.specs.SourceTable.{SourceTable, source_at, tree_under, workspace_in}
use Rattle.hir_session_sources.specs.SourceTrees.{is_place}
use Rattle.hir_session_state.specs.EditedSources.{seen_at}
use Rattle.hir_session_sources.proofs.BlockLemmas.{block_in-edited, exact_blocks, root-block}
use Rattle.hir_session_sources.proofs.Expansions.{exact_expansions}
use Rattle.hir_session_sources.proofs.Lookups.{IsExact, at_same, lookup-insert_entry, lookup-without}
use Rattle.hir_session_state.proofs.Truth.{clash, on_bool, no_value, one_value}

-- ---- files, blocks and expansions

-- the test at a path says that two paths are the same
pub exact_paths : IsExact (slice_cmp nat_cmp)
exact_paths = record {
  same = λ p q h. (bytes_decides p q).0 (sym (is_eq-slice_cmp p q) ∙ h);
  own = λ p. is_eq-slice_cmp p p ∙ (bytes_decides p p).1 refl;
}

-- the file of an edit is as the edit says, and each other is as it was
file_at-edited_at : (files : Files) (path : List ℕ) (there : Option SourceValue) (q : List ℕ)
    → file_at (edited_at files path there) q ≡ cond (is_at (slice_cmp nat_cmp path) q) there (file_at files q)
file_at-edited_at files path (Some source) q = lookup-insert_entry (slice_cmp nat_cmp) exact_paths files path source q
file_at-edited_at files path None q = lookup-without (slice_cmp nat_cmp) exact_paths files path q

-- and so is the expansion of one
entry_at-entries_with : (entries : Entries) (key : ExpansionValue) (there : Option EntryValue) (q : ExpansionValue)
    → entry_at (entries_with entries key there) q ≡ cond (is_at (expansion_cmp key) q) there (entry_at entries q)
entry_at-entries_with entries key (Some entry) q = lookup-insert_entry expansion_cmp exact_expansions entries key entry q
entry_at-entries_with entries key None q = lookup-without expansion_cmp exact_expansions entries key q

-- and so is the block of one
block_at-edited : (blocks : Blocks) (place : BlockPlace) (there : Option SourceValue) (q : BlockPlace)
    → block_in (blocks_with blocks (place_of_block place) there) (place_of_block q) ≡ cond (is_at (block_order.ghosts.cmp place) q) there
    (block_in blocks (place_of_block q))
block_at-edited blocks place there q =
    block_in-edited blocks (place_of_block place) there (place_of_block q) ∙ ap (λ (b : Bool). cond b there (block_in blocks (place_of_block q)))
    (root-block place q)

-- ---- places

pub place_same : (p q : SourcePlaceValue) → is_place p q ≡ true → p ≡ q
place_same (file p) (file q) on = ap file (exact_paths.same p q on)
place_same (block p) (block q) on = ap block (exact_blocks.same p q on)
place_same (expansion p) (expansion q) on = ap expansion (exact_expansions.same p q on)
place_same p q on = clash on refl

-- that of an edit is the same as itself
pub same_place : (edit : SourceEditValue) (q : SourcePlaceValue) → place_of edit ≡ q → is_place (place_of edit) q ≡ true
same_place edit q same = subst (λ (p : SourcePlaceValue). is_place (place_of edit) p ≡ true) same (go edit)
  where
    go : (e : SourceEditValue) → is_place (place_of e) (place_of e) ≡ true
    go (of_file path new) = exact_paths.own path
    go (of_block place new) = exact_blocks.own place
    go (of_expansion key new) = exact_expansions.own key

of_cond : (b : Bool) (x y : Option EntryValue) → source_in_entry (cond b x y) ≡ cond b (source_in_entry x) (source_in_entry y)
of_cond true x y = refl
of_cond false x y = refl

-- what is edited is as the edit says, and each other source is as it was
pub source_at-edited : (t : SourceTable) (edit : SourceEditValue) (q : SourcePlaceValue)
    → source_at (edited t edit) q ≡ cond (is_place (place_of edit) q) (source_by edit) (source_at t q)
source_at-edited t (of_file path new) (file q) = file_at-edited_at t.files path new q
source_at-edited t (of_file path new) (block q) = refl
source_at-edited t (of_file path new) (expansion q) = refl
source_at-edited t (of_block place new) (file q) = refl
source_at-edited t (of_block place new) (block q) = block_at-edited t.blocks place new q
source_at-edited t (of_block place new) (expansion q) = refl
source_at-edited t (of_expansion key new) (file q) = refl
source_at-edited t (of_expansion key new) (block q) = refl
source_at-edited t (of_expansion key new) (expansion q) =
    ap source_in_entry (entry_at-entries_with t.entries key new q) ∙ of_cond (is_at (expansion_cmp key) q) new (entry_at t.entries q)

module _ (t : SourceTable) (edit : SourceEditValue) where
  pub source-there : (q : SourcePlaceValue) → place_of edit ≡ q → source_at (edited t edit) q ≡ source_by edit
  source-there q same = source_at-edited t edit q ∙ ap (λ (b : Bool). cond b (source_by edit) (source_at t q)) (same_place edit q same)

  pub source-other : (q : SourcePlaceValue) → is_place (place_of edit) q ≡ false → source_at (edited t edit) q ≡ source_at t q
  source-other q off = source_at-edited t edit q ∙ ap (λ (b : Bool). cond b (source_by edit) (source_at t q)) off

  other_place : (q : SourcePlaceValue) → place_of edit ≢ q → is_place (place_of edit) q ≡ false
  other_place q ne = on_bool (is_place (place_of edit) q) (λ on. absurd (ne (place_same (place_of edit) q on))) (λ off. off)

-- ---- what is seen at a key

-- at one that asks for something of a source's is seen what the source has
pub look-tree : (tables : TablesValue) (w : Workspace) (key : Key) (tree : TreeKey) → key_tree key ≡ Some tree → look tables w no_maps key
    ≡ seen_at (source_in tables w tree) key
look-tree tables w (keys.Tree key) tree e = ap (λ (k : TreeKey). of_tree (seen_of (source_in tables w k))) (one_value e)
look-tree tables w (keys.Variants id) tree e = ap (λ (k : TreeKey). of_variants (variants_of (source_in tables w k) id.loc.id)) (one_value e)
look-tree tables w (keys.Text (macros.Macro2Id id)) tree e =
    ap (λ (k : TreeKey). of_text (text_of (source_in tables w k) (node_id MacroDef id.loc.id))) (one_value e)
look-tree tables w (keys.Text (macros.MacroRulesId id)) tree e =
    ap (λ (k : TreeKey). of_text (text_of (source_in tables w k) (node_id MacroRules id.loc.id))) (one_value e)
look-tree tables w (keys.Text (macros.ProcMacroId id)) tree e = no_value e
look-tree tables w (keys.Input krate ast) tree e = ap (λ (k : TreeKey). of_input (input_of (source_in tables w k) (node_id ast.kind ast.id))) (one_value e)
look-tree tables w (keys.Expansion id) tree e = no_value e
look-tree tables w (keys.Map id) tree e = no_value e
look-tree tables w (keys.Config krate) tree e = no_value e

-- the source for which it asks is that of the tree
pub place-tree : (tables : TablesValue) (key : Key) (tree : TreeKey) → key_tree key ≡ Some tree → key_place tables key ≡ source_of tables tree.id
place-tree tables (keys.Tree key) tree e = ap (λ (k : TreeKey). source_of tables k.id) (one_value e)
place-tree tables (keys.Variants id) tree e = ap (λ (k : TreeKey). source_of tables k.id) (one_value e)
place-tree tables (keys.Text id) tree e = ap (λ (o : Option TreeKey). tree_place tables o) e
place-tree tables (keys.Input krate ast) tree e = ap (λ (k : TreeKey). source_of tables k.id) (one_value e)
place-tree tables (keys.Expansion id) tree e = no_value e
place-tree tables (keys.Map id) tree e = no_value e
place-tree tables (keys.Config krate) tree e = no_value e

module _ (crates : List CrateValue) (tables : TablesValue) (t : SourceTable) (edit : SourceEditValue) where
  abbrev now : Workspace
  now = workspace_in crates t

  abbrev after : Workspace
  after = workspace_in crates (edited t edit)

  -- the key sees what it saw
  abbrev pub IsSame : Key → Type 0
  IsSame key = look tables after no_maps key ≡ look tables now no_maps key

  -- ---- trees

  -- a source that isn't edited has what it had
  tree-other : (key : TreeKey) → source_of tables key.id ≢ Some (place_of edit) → source_in tables after key ≡ source_in tables now key
  tree-other key apart = go (source_of tables key.id) apart
    where
      go : (o : Option SourcePlaceValue) → o ≢ Some (place_of edit) → source_under after key.krate o ≡ source_under now key.krate o
      go None ne = refl
      go (Some q) ne =
          ap (λ (x : Option SourceValue). tree_under crates key.krate.0 q x)
          (source-other t edit q (other_place t edit q (λ same. ne (ap (λ (p : SourcePlaceValue). Some p) (sym same)))))

  -- that which is has what it has with its source
  tree-was : (key : TreeKey) → source_of tables key.id ≡ Some (place_of edit) → source_in tables now key ≡ tree_under crates key.krate.0 (place_of edit)
      (source_at t (place_of edit))
  tree-was key at = ap (λ (o : Option SourcePlaceValue). source_under now key.krate o) at

  -- and after the edit with the one that it gets
  tree-there : (key : TreeKey) → source_of tables key.id ≡ Some (place_of edit) → source_in tables after key ≡ tree_under crates key.krate.0 (place_of edit)
      (source_by edit)
  tree-there key at =
      ap (λ (o : Option SourcePlaceValue). source_under after key.krate o) at
      ∙ ap (λ (x : Option SourceValue). tree_under crates key.krate.0 (place_of edit) x) (source-there t edit (place_of edit) refl)

  -- ---- expansions

  -- what stands beside the items of an expansion that isn't edited
  entry-other : (e : SourceEditValue) (key : ExpansionValue) → expansion key ≢ place_of e → entry_at (edited t e).entries key ≡ entry_at t.entries key
  entry-other (of_file path new) key ne = refl
  entry-other (of_block place new) key ne = refl
  entry-other (of_expansion k new) key ne =
      entry_at-entries_with t.entries k new key
      ∙ ap (λ (b : Bool). cond b new (entry_at t.entries key))
      (on_bool (is_at (expansion_cmp k) key) (λ on. absurd (ne (ap expansion (sym (exact_expansions.same k key on))))) (λ off. off))

  beside-other : (o : Option ExpansionValue) → option_map expansion o ≢ Some (place_of edit) → entry_under after o ≡ entry_under now o
  beside-other None ne = refl
  beside-other (Some key) ne = ap look_of (entry-other edit key (λ same. ne (ap (λ (p : SourcePlaceValue). Some p) same)))

  -- and of one that is
  entry-edited : (e : SourceEditValue) (key : ExpansionValue) → expansion key ≡ place_of e
      → (now_is : EntryLook) → now_is ≡ look_of (entry_at t.entries key) → (after_is : EntryLook) → after_is ≡ look_of (entry_at (edited t e).entries key)
      → (IsSeenAlike t e → after_is ≡ now_is) × (after_is ≡ now_is → IsSeenAlike t e)
  entry-edited (of_file path new) key same n n_is a a_is = absurd (let wrong : ⊥ = cc in wrong)
  entry-edited (of_block place new) key same n n_is a a_is = absurd (let wrong : ⊥ = cc in wrong)
  entry-edited (of_expansion k new) key same n n_is a a_is =
      let is : key ≡ k = cc in
      let there : a ≡ look_of new =
      a_is ∙ ap look_of (entry_at-entries_with t.entries k new key ∙ ap (λ (b : Bool). cond b new (entry_at t.entries key))
      (at_same expansion_cmp exact_expansions k key (sym is))) in
      let was : n ≡ look_of (entry_at t.entries k) = n_is ∙ ap (λ (x : ExpansionValue). look_of (entry_at t.entries x)) is in
      ((λ alike. there ∙ sym alike ∙ sym was), (λ e. sym was ∙ sym e ∙ there))

  -- ---- keys

  -- a key that doesn't ask for what is edited sees what it saw
  pub look-apart : (key : Key) → key_place tables key ≢ Some (place_of edit) → IsSame key
  look-apart key ne = go (key_tree key) refl
    where
      without : (k : Key) → key_tree k ≡ None → key_place tables k ≢ Some (place_of edit) → IsSame k
      without (keys.Tree k) e apart = no_value (sym e)
      without (keys.Variants id) e apart = no_value (sym e)
      without (keys.Text (macros.Macro2Id id)) e apart = no_value (sym e)
      without (keys.Text (macros.MacroRulesId id)) e apart = no_value (sym e)
      without (keys.Text (macros.ProcMacroId id)) e apart = refl
      without (keys.Input krate ast) e apart = no_value (sym e)
      without (keys.Expansion id) e apart = ap (λ (l : EntryLook). of_entry l) (beside-other (numbers.entry_at tables id) apart)
      without (keys.Map id) e apart = refl
      without (keys.Config krate) e apart = refl

      go : (o : Option TreeKey) → key_tree key ≡ o → IsSame key
      go None e = without key e ne
      go (Some tree) e =
          look-tree tables after key tree e
          ∙ ap (λ (s : SourceTreeValue). seen_at s key) (tree-other tree (λ at. ne (place-tree tables key tree e ∙ at)))
          ∙ sym (look-tree tables now key tree e)

  module _ (key : Key) (tree : TreeKey) (of_tree_is : key_tree key ≡ Some tree) (asks : key_place tables key ≡ Some (place_of edit)) where
    tree_at : source_of tables tree.id ≡ Some (place_of edit)
    tree_at = sym (place-tree tables key tree of_tree_is) ∙ asks

    -- at one that asks for something of what is edited is seen what that has
    look-was : look tables now no_maps key ≡ seen_at (tree_under crates tree.krate.0 (place_of edit) (source_at t (place_of edit))) key
    look-was = look-tree tables now key tree of_tree_is ∙ ap (λ (s : SourceTreeValue). seen_at s key) (tree-was tree tree_at)

    look-there : look tables after no_maps key ≡ seen_at (tree_under crates tree.krate.0 (place_of edit) (source_by edit)) key
    look-there = look-tree tables after key tree of_tree_is ∙ ap (λ (s : SourceTreeValue). seen_at s key) (tree-there tree tree_at)

    -- so it stays exactly where that has the same for it
    pub look-same : (was is : SourceTreeValue) → was ≡ tree_under crates tree.krate.0 (place_of edit) (source_at t (place_of edit)) → is
        ≡ tree_under crates tree.krate.0 (place_of edit) (source_by edit)
        → seen_at is key ≡ seen_at was key → IsSame key
    look-same was is was_is is_is same =
        look-there ∙ ap (λ (s : SourceTreeValue). seen_at s key) (sym is_is) ∙ same ∙ ap (λ (s : SourceTreeValue). seen_at s key) was_is ∙ sym look-was

    pub look-differs : (was is : SourceTreeValue) → was ≡ tree_under crates tree.krate.0 (place_of edit) (source_at t (place_of edit)) → is
        ≡ tree_under crates tree.krate.0 (place_of edit) (source_by edit)
        → seen_at is key ≢ seen_at was key → look tables after no_maps key ≢ look tables now no_maps key
    look-differs was is was_is is_is other e = other (
        ap (λ (s : SourceTreeValue). seen_at s key) is_is ∙ sym look-there ∙ e ∙ look-was ∙ ap (λ (s : SourceTreeValue). seen_at s key) (sym was_is))

  -- one that asks for what stands beside the items of an expansion
  module _ (id : EntryId) (asks : key_place tables (keys.Expansion id) ≡ Some (place_of edit)) where
    key_in : (o : Option ExpansionValue) → option_map expansion o ≡ Some (place_of edit)
        → (IsSeenAlike t edit → entry_under after o ≡ entry_under now o) × (entry_under after o ≡ entry_under now o → IsSeenAlike t edit)
    key_in None e = no_value e
    key_in (Some key) e = entry-edited edit key (one_value e) (entry_under now (Some key)) refl (entry_under after (Some key)) refl

    pub beside-same : IsSeenAlike t edit → IsSame (keys.Expansion id)
    beside-same alike = ap (λ (l : EntryLook). of_entry l) ((key_in (numbers.entry_at tables id) asks).0 alike)

    pub beside-differs : ¬ IsSeenAlike t edit → look tables after no_maps (keys.Expansion id) ≢ look tables now no_maps (keys.Expansion id)
    beside-differs ne e =
        ne ((key_in (numbers.entry_at tables id) asks).1 (let same : entry_under after (numbers.entry_at tables id)
        ≡ entry_under now (numbers.entry_at tables id) = cc in same))

  -- a key that asks for what is edited, and for nothing of a tree's, asks for what stands beside the items of an expansion
  pub treeless : {A : Type 0} (key : Key) → key_tree key ≡ None → key_place tables key ≡ Some (place_of edit) → ((id : EntryId) → key ≡ keys.Expansion id → A)
      → A
  treeless (keys.Tree k) e asks f = no_value (sym e)
  treeless (keys.Variants id) e asks f = no_value (sym e)
  treeless (keys.Text (macros.Macro2Id id)) e asks f = no_value (sym e)
  treeless (keys.Text (macros.MacroRulesId id)) e asks f = no_value (sym e)
  treeless (keys.Text (macros.ProcMacroId id)) e asks f = no_value asks
  treeless (keys.Input krate ast) e asks f = no_value (sym e)
  treeless (keys.Expansion id) e asks f = f id refl
  treeless (keys.Map id) e asks f = no_value asks
  treeless (keys.Config krate) e asks f = no_value asks

  pub treeless-same : (key : Key) → key_tree key ≡ None → key_place tables key ≡ Some (place_of edit) → IsSeenAlike t edit → IsSame key
  treeless-same key e asks alike = treeless key e asks (λ id is.
      subst (λ (k : Key). IsSame k) (sym is) (beside-same id (subst (λ (k : Key). key_place tables k ≡ Some (place_of edit)) is asks) alike))

  pub treeless-differs : (key : Key) → key_tree key ≡ None → key_place tables key ≡ Some (place_of edit) → ¬ IsSeenAlike t edit → look tables after no_maps key
      ≢ look tables now no_maps key
  treeless-differs key e asks ne = treeless key e asks (λ id is.
      subst (λ (k : Key). look tables after no_maps k ≢ look tables now no_maps k) (sym is)
      (beside-differs id (subst (λ (k : Key). key_place tables k ≡ Some (place_of edit)) is asks) ne))
