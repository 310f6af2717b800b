-- A tree that is put in place of what is kept of a source under a crate.
use Rattle.std.proofs.Common.{◌≡◌, ◌∙◌, nat_eq, Bool, true, false, ◌&&◌, cond, if◌then◌else◌, List, ℕ, Option, Some, None, option_map, refl, sym, ap}
use Rattle.std.specs.BTreeMap.{get, is_at}
use Rattle.std.specs.Cmp.Lexicographic.{slice_cmp}
use Rattle.std.specs.Map.{lookup, set_value}
use Rattle.std.specs.Option.{option_and_then}
use Rattle.std.specs.Ordering.{nat_cmp}
use Rattle.std.specs.declared.alloc.Global.{Global}
use Rattle.std.specs.declared.rc.Rc.{Rc}
use Rattle.hir_session_state.specs.HirIds.contracts.ids.CrateOrd.TheImpl as crate_order
use Rattle.hir_session_state.specs.HirBase.contracts.macro_kind.ExpansionKeyOrd.TheImpl as key_order
use Rattle.hir_session_state.specs.HirBase.contracts.place.BlockPlaceOrd.TheImpl as block_order
use Rattle.hir_session_state.specs.HirBase.declared.place.BlockPlace.{BlockPlace}
use Rattle.hir_session_state.specs.HirBase.declared.macro_kind.ExpansionKey.{ExpansionKey}
use Rattle.hir_session_state.specs.HirIds.declared.ids.Crate.{Crate}
use Rattle.hir_session_state.specs.HirItemTree.SourceTree.{SourceTreeValue}
use Rattle.hir_session_state.specs.HirTables.SourcePlaces.{SourcePlaceValue, expansion_value, block, expansion, file}
use Rattle.hir_session_state.specs.Entries.{by_value, expansion_cmp}
use Rattle.hir_session_sources.specs.ByCrate.{entries_under}
use Rattle.hir_session_sources.specs.SourceTrees.{CrateTrees, file_tree, is_kept_at, is_listed, is_place, tree_by, tree_in}
use Rattle.hir_session_sources.specs.declared.source_trees.SourceTrees.{SourceTrees}
use Rattle.hir_session_sources.proofs.BlockLemmas.{exact_blocks, exact_crates}
use Rattle.hir_session_sources.proofs.CrateEntries.{crate_test, else_of, then_of}
use Rattle.hir_session_sources.proofs.Expansions.{compared_alike, exact_expansions}
use Rattle.hir_session_sources.proofs.Lookups.{lookup-put, renamed-put}
use Rattle.hir_session_sources.proofs.SourceLemmas.{exact_paths}
use Rattle.hir_session_sources.proofs.TreeLemmas.{BlocksStay, BlockTrees, ExpansionsStay, FilesStay, Trees, listed_tree, of_blocks, of_expansions}
use Rattle.hir_session_state.proofs.Truth.{on_bool}

abbrev Kept : Type 0
Kept = Rc SourceTreeValue Global

-- the value of what is kept
abbrev value_of : Option Kept → Option SourceTreeValue
value_of o = option_map (λ (t : Kept). t.value) o

-- this in place of what is there, where something is
abbrev pub in_place : {A B : Type 0} → A → Option B → Option A
in_place x o = option_map (λ _. x) o

module _ (tree : Kept) where
  value_in_place : (b : Bool) (o : Option Kept) → value_of (cond b (in_place tree o) o) ≡ cond b (in_place tree.value (value_of o)) (value_of o)
  value_in_place true None = refl
  value_in_place true (Some t) = refl
  value_in_place false o = refl

  -- where it is found under a crate alone
  found_in_place : (own at : Bool) (o : Option Kept) → (if own then value_of (cond at (in_place tree o) o) else None)
      ≡ (if at then in_place tree.value (if own then value_of o else None) else (if own then value_of o else None))
  found_in_place true at o = value_in_place at o
  found_in_place false true o = refl
  found_in_place false false o = refl

-- ---- files

-- what a file has under a crate, where it has something
abbrev kept_under : Option CrateTrees → Crate → Option SourceTreeValue
kept_under o c = option_and_then (λ kept. tree_by kept c) o

module _ (path : List ℕ) (krate : Crate) (tree : Kept) where
  -- the file has it under the crate, and all else is as it was
  pub file_put : (old new : List ℕ → Option CrateTrees) (was is : CrateTrees) → Some was ≡ old path
      → ((j : List ℕ) → new j ≡ cond (is_at (slice_cmp nat_cmp path) j) (Some is) (old j))
      → is.entries ≡ set_value (is_at (crate_order.ghosts.cmp krate)) was.entries tree
      → (j : List ℕ) (c : Crate) → kept_under (new j) c
      ≡ (if is_kept_at (file path) krate (file j) c then in_place tree.value (kept_under (old j) c) else kept_under (old j) c)
  file_put old new was is before outer inner j c = on_bool (is_at (slice_cmp nat_cmp path) j)
      (λ on.
      let was_kept : kept_under (old j) c ≡ tree_by was c =
      ap (λ (p : List ℕ). kept_under (old p) c) (sym (exact_paths.same path j on)) ∙ ap (λ (o : Option CrateTrees). kept_under o c) (sym before) in
      let under : Bool = is_at (crate_order.ghosts.cmp krate) c in
      ap (λ (o : Option CrateTrees). kept_under o c) (outer j ∙ ap (λ (b : Bool). cond b (Some is) (old j)) on)
      ∙ ap (λ (es : List (Crate × Kept)). value_of (lookup (is_at (crate_order.ghosts.cmp c)) es)) inner
      ∙ ap value_of (lookup-put crate_order.ghosts.cmp exact_crates was.entries krate tree c)
      ∙ value_in_place tree under (get crate_order.ghosts.cmp was c)
      ∙ ap (λ (o : Option SourceTreeValue). cond under (in_place tree.value o) o) (sym was_kept)
      ∙ sym (ap (λ (b : Bool). if b && under then in_place tree.value (kept_under (old j) c) else kept_under (old j) c) on))
      (λ off.
      ap (λ (o : Option CrateTrees). kept_under o c) (outer j ∙ ap (λ (b : Bool). cond b (Some is) (old j)) off)
      ∙ sym (ap (λ (b : Bool). if b && is_at (crate_order.ghosts.cmp krate) c then in_place tree.value (kept_under (old j) c) else kept_under (old j) c) off))

  -- a file that has nothing has nothing then
  pub no_file_put : (old : List ℕ → Option CrateTrees) → None ≡ old path
      → (j : List ℕ) (c : Crate) → kept_under (old j) c
      ≡ (if is_kept_at (file path) krate (file j) c then in_place tree.value (kept_under (old j) c) else kept_under (old j) c)
  no_file_put old none j c = on_bool (is_at (slice_cmp nat_cmp path) j)
      (λ on.
      let nothing : kept_under (old j) c ≡ None =
      ap (λ (p : List ℕ). kept_under (old p) c) (sym (exact_paths.same path j on)) ∙ ap (λ (o : Option CrateTrees). kept_under o c) (sym none) in
      nothing ∙ left (is_kept_at (file path) krate (file j) c)
      ∙ ap (λ (o : Option SourceTreeValue). if is_kept_at (file path) krate (file j) c then in_place tree.value o else o) (sym nothing))
      (λ off.
      sym (ap (λ (b : Bool). if b && is_at (crate_order.ghosts.cmp krate) c then in_place tree.value (kept_under (old j) c) else kept_under (old j) c) off))
    where
      left : (b : Bool) → ◌≡◌ {A = Option SourceTreeValue} None (if b then in_place {B = SourceTreeValue} tree.value None else None)
      left true = refl
      left false = refl

-- ---- a change of one of them

module _ (old new : SourceTrees) (krate : Crate) (tree : Kept) where
  -- it is put in place of what is kept of the source at this place
  abbrev pub IsPut : SourcePlaceValue → Type 0
  IsPut place = (p : SourcePlaceValue) (c : Crate) → tree_in new p c
      ≡ (if is_place place p && nat_eq krate.0 c.0 then in_place tree.value (tree_in old p c) else tree_in old p c)

  listed_put : (listed at : Bool) (o : Option SourceTreeValue) → listed_tree listed (if at then in_place tree.value o else o)
      ≡ (if at then in_place tree.value (listed_tree listed o) else listed_tree listed o)
  listed_put true at o = refl
  listed_put false true o = refl
  listed_put false false o = refl

  pub file_is_put : (path : List ℕ) → new.paths ≡ old.paths → BlocksStay old new → ExpansionsStay old new
      → ((j : List ℕ) (c : Crate) → file_tree new.by_path j c
      ≡ (if is_kept_at (file path) krate (file j) c then in_place tree.value (file_tree old.by_path j c) else file_tree old.by_path j c))
      → IsPut (file path)
  file_is_put path paths blocks expansions becomes (file j) c =
      ap (λ ps. listed_tree (is_listed ps j c) (file_tree new.by_path j c)) paths
      ∙ ap (listed_tree (is_listed old.paths j c)) (becomes j c)
      ∙ listed_put (is_listed old.paths j c) (is_kept_at (file path) krate (file j) c) (file_tree old.by_path j c)
      ∙ ap (λ (b : Bool). if is_at (slice_cmp nat_cmp path) j && b then in_place tree.value (tree_in old (file j) c) else tree_in old (file j) c)
      (sym (crate_test krate c))
  file_is_put path paths blocks expansions becomes (block q) c = of_blocks old new blocks q c
  file_is_put path paths blocks expansions becomes (expansion q) c = of_expansions old new expansions q c

  -- what is found under a crate, where it was put there or is what it was
  found_put : (own at here : Bool) (was is : Option Kept) → (here ≡ true → is ≡ cond at (in_place tree was) was) → (here ≡ false → is ≡ was)
      → (if own then value_of is else None)
      ≡ (if at && here then in_place tree.value (if own then value_of was else None) else (if own then value_of was else None))
  found_put own at true was is put stays =
      ap (λ (o : Option Kept). if own then value_of o else None) (put refl) ∙ found_in_place tree own at was ∙ at_true at
    where
      at_true : (b : Bool) → (if b then in_place tree.value (if own then value_of was else None) else (if own then value_of was else None))
          ≡ (if b && true then in_place tree.value (if own then value_of was else None) else (if own then value_of was else None))
      at_true true = refl
      at_true false = refl
  found_put own at false was is put stays = ap (λ (o : Option Kept). if own then value_of o else None) (stays refl) ∙ at_false at
    where
      at_false : (b : Bool) → (if own then value_of was else None)
          ≡ (if b && false then in_place tree.value (if own then value_of was else None) else (if own then value_of was else None))
      at_false true = refl
      at_false false = refl

  pub block_is_put : (place : BlockPlace) → FilesStay old new → ExpansionsStay old new
      → ((c : Crate) → entries_under new.by_block c ≡ (if is_at (crate_order.ghosts.cmp krate) c
      then set_value (is_at (block_order.ghosts.cmp place)) (entries_under old.by_block c) tree else entries_under old.by_block c))
      → IsPut (block place)
  block_is_put place files expansions becomes (file j) c = files j c
  block_is_put place files expansions becomes (block q) c =
      let was : BlockTrees = entries_under old.by_block c in
      let put : BlockTrees = set_value (is_at (block_order.ghosts.cmp place)) was tree in
      let under : Bool = is_at (crate_order.ghosts.cmp krate) c in
      found_put (nat_eq q.holder.krate.0 c.0) (is_at (block_order.ghosts.cmp place) q) (nat_eq krate.0 c.0)
      (lookup (is_at (block_order.ghosts.cmp q)) was) (lookup (is_at (block_order.ghosts.cmp q)) (entries_under new.by_block c))
      (λ on. ap (lookup (is_at (block_order.ghosts.cmp q)))
      (then_of (entries_under new.by_block c) put was under (becomes c) (sym (crate_test krate c) ∙ on))
      ∙ lookup-put block_order.ghosts.cmp exact_blocks was place tree q)
      (λ off. ap (lookup (is_at (block_order.ghosts.cmp q)))
      (else_of (entries_under new.by_block c) put was under (becomes c) (sym (crate_test krate c) ∙ off)))
  block_is_put place files expansions becomes (expansion q) c = of_expansions old new expansions q c

  pub expansion_is_put : (key : ExpansionKey) → FilesStay old new → BlocksStay old new
      → ((c : Crate) → entries_under new.by_key c ≡ (if is_at (crate_order.ghosts.cmp krate) c
      then set_value (is_at (key_order.ghosts.cmp key)) (entries_under old.by_key c) tree else entries_under old.by_key c))
      → IsPut (expansion (expansion_value key))
  expansion_is_put key files blocks becomes (file j) c = files j c
  expansion_is_put key files blocks becomes (block q) c = of_blocks old new blocks q c
  expansion_is_put key files blocks becomes (expansion q) c =
      let was : Trees = entries_under old.by_key c in
      let put : Trees = set_value (is_at (key_order.ghosts.cmp key)) was tree in
      let under : Bool = is_at (crate_order.ghosts.cmp krate) c in
      found_put (nat_eq q.caller.0 c.0) (is_at (expansion_cmp (expansion_value key)) q) (nat_eq krate.0 c.0)
      (lookup (is_at (expansion_cmp q)) (by_value was)) (lookup (is_at (expansion_cmp q)) (by_value (entries_under new.by_key c)))
      (λ on. ap (λ (es : Trees). lookup (is_at (expansion_cmp q)) (by_value es))
      (then_of (entries_under new.by_key c) put was under (becomes c) (sym (crate_test krate c) ∙ on))
      ∙ ap (lookup (is_at (expansion_cmp q))) (renamed-put expansion_value key_order.ghosts.cmp expansion_cmp compared_alike key was tree)
      ∙ lookup-put expansion_cmp exact_expansions (by_value was) (expansion_value key) tree q)
      (λ off. ap (λ (es : Trees). lookup (is_at (expansion_cmp q)) (by_value es))
      (else_of (entries_under new.by_key c) put was under (becomes c) (sym (crate_test krate c) ∙ off)))
