-- What is kept of sources under crates, by place, before a change and after it.
use Rattle.std.proofs.Common.{◌≡◌, nat_eq, Bool, true, false, ◌&&◌, cond, not, filter, if◌then◌else◌, List, ℕ, Option, Some, None, option_map, refl, sym, ap}
use Rattle.std.proofs.Common.{◌∙◌, is_some}
use Rattle.std.specs.Cmp.{first_so, second_so}
use Rattle.std.specs.BTreeMap.{is_at, insert_entry}
use Rattle.std.specs.Map.{lookup}
use Rattle.std.proofs.lemmas.Bool.{eqb-true}
use Rattle.std.specs.Cmp.Lexicographic.{slice_cmp}
use Rattle.std.specs.Ordering.{nat_cmp}
use Rattle.std.specs.declared.alloc.Global.{Global}
use Rattle.std.specs.declared.rc.Rc.{Rc}
use Rattle.hir_session_state.specs.HirIds.contracts.ids.CrateOrd.TheImpl as crate_order
use Rattle.hir_session_state.specs.HirBase.contracts.macro_kind.ExpansionKeyOrd.TheImpl as key_order
use Rattle.hir_session_state.specs.HirBase.contracts.place.BlockPlaceOrd.TheImpl as block_order
use Rattle.hir_session_state.specs.HirBase.declared.place.BlockPlace.{BlockPlace}
use Rattle.hir_session_state.specs.HirIds.declared.ids.Crate.{Crate}
use Rattle.hir_session_state.specs.HirBase.declared.macro_kind.ExpansionKey.{ExpansionKey}
use Rattle.hir_session_state.specs.HirItemTree.SourceTree.{SourceTreeValue}
use Rattle.hir_session_state.specs.HirTables.SourcePlaces.{ExpansionValue, SourcePlaceValue, expansion_value, block, expansion, file}
use Rattle.hir_session_state.specs.Entries.{by_value, expansion_cmp}
use Rattle.hir_session_sources.specs.SourceTrees.{file_tree, is_kept_at, is_listed, is_place, tree_in}
use Rattle.hir_session_sources.specs.ByCrate.{ByCrate, entries_under}
use Rattle.hir_session_sources.specs.declared.source_trees.SourceTrees.{SourceTrees}
use Rattle.hir_session_sources.proofs.BlockLemmas.{exact_blocks}
use Rattle.hir_session_sources.proofs.Changing.{equal_crate}
use Rattle.hir_session_sources.proofs.CrateEntries.{crate_test, else_of, then_of}
use Rattle.hir_session_sources.proofs.SourceLemmas.{exact_paths}
use Rattle.hir_session_sources.proofs.Expansions.{compared_alike, exact_expansions}
use Rattle.hir_session_sources.proofs.Lookups.{lookup-insert_entry, lookup-renamed, lookup-without, renamed-insert_entry, renamed-without}
use Rattle.hir_session_state.proofs.Truth.{no_value, on_bool}

-- what is kept by keys
abbrev pub ByKey : Type 0 → Type 0
ByKey V = List (ExpansionKey × V)

module _ {V : Type 0} where
  -- it is found by what its key says
  pub found_by_value : (key : ExpansionKey) (es : ByKey V) → lookup (is_at (key_order.ghosts.cmp key)) es ≡ lookup (is_at (expansion_cmp (expansion_value key)))
      (by_value es)
  found_by_value key es = lookup-renamed expansion_value key_order.ghosts.cmp expansion_cmp compared_alike key es

  pub set_by_value : (es : ByKey V) (key : ExpansionKey) (v : V) → by_value (insert_entry key_order.ghosts.cmp es key v)
      ≡ insert_entry expansion_cmp (by_value es) (expansion_value key) v
  set_by_value es key v = renamed-insert_entry expansion_value key_order.ghosts.cmp expansion_cmp compared_alike es key v

  pub without_by_value : (key : ExpansionKey) (es : ByKey V)
      → by_value (filter (λ (e : ExpansionKey × V). not (is_at (key_order.ghosts.cmp key) e.0)) es)
      ≡ filter (λ (e : ExpansionValue × V). not (is_at (expansion_cmp (expansion_value key)) e.0)) (by_value es)
  without_by_value key es = renamed-without expansion_value key_order.ghosts.cmp expansion_cmp compared_alike key es

  pub found-set : (es : ByKey V) (key : ExpansionKey) (v : V) (q : ExpansionValue)
      → lookup (is_at (expansion_cmp q)) (by_value (insert_entry key_order.ghosts.cmp es key v)) ≡ cond (is_at (expansion_cmp (expansion_value key)) q) (Some v)
      (lookup (is_at (expansion_cmp q)) (by_value es))
  found-set es key v q =
      ap (lookup (is_at (expansion_cmp q))) (set_by_value es key v) ∙ lookup-insert_entry expansion_cmp exact_expansions (by_value es) (expansion_value key) v q

  pub found-without : (es : ByKey V) (key : ExpansionKey) (q : ExpansionValue)
      → lookup (is_at (expansion_cmp q)) (by_value (filter (λ (e : ExpansionKey × V). not (is_at (key_order.ghosts.cmp key) e.0)) es))
      ≡ cond (is_at (expansion_cmp (expansion_value key)) q) None (lookup (is_at (expansion_cmp q)) (by_value es))
  found-without es key q =
      ap (lookup (is_at (expansion_cmp q))) (without_by_value key es) ∙ lookup-without expansion_cmp exact_expansions (by_value es) (expansion_value key) q

-- under another crate than this one
elsewhere : (own at here : Bool) (tree old : Option SourceTreeValue) → here ≡ false → old ≡ (if own && (at && here) then tree else old)
elsewhere true true here tree old off = sym (ap (λ (b : Bool). if b then tree else old) off)
elsewhere true false here tree old off = refl
elsewhere false at here tree old off = refl

-- ---- trees

abbrev pub Trees : Type 0
Trees = ByKey (Rc SourceTreeValue Global)

-- what is kept of an expansion under a crate
abbrev pub expansion_tree : Trees → ExpansionValue → Crate → Option SourceTreeValue
expansion_tree es q c = if nat_eq q.caller.0 c.0 then option_map (λ t. t.value) (lookup (is_at (expansion_cmp q)) (by_value es)) else None

-- one more is kept of an expansion, under the crate that calls
pub expansion_kept : (old new : Trees) (key copy : ExpansionKey) (krate : Crate) (tree : Rc SourceTreeValue Global) → expansion_value copy ≡ expansion_value key
    → new ≡ insert_entry key_order.ghosts.cmp old copy tree → nat_eq key.caller.0 krate.0 ≡ true
    → (q : ExpansionValue) (c : Crate)
    → expansion_tree new q c ≡ (if is_kept_at (expansion (expansion_value key)) krate (expansion q) c then Some tree.value else expansion_tree old q c)
expansion_kept old new key copy krate tree copied becomes calls q c =
    ap (λ (es : Trees). expansion_tree es q c) becomes
    ∙ ap (λ (o : Option (Rc SourceTreeValue Global)). if nat_eq q.caller.0 c.0 then option_map (λ t. t.value) o else None)
    (found-set old copy tree q ∙ ap (λ (k : ExpansionValue). cond (is_at (expansion_cmp k) q) (Some tree) (lookup (is_at (expansion_cmp q)) (by_value old)))
    copied)
    ∙ on_bool (is_at (expansion_cmp (expansion_value key)) q)
    (λ on.
    let same : expansion_value key ≡ q = exact_expansions.same (expansion_value key) q on in
    let by : nat_eq q.caller.0 c.0 ≡ nat_eq krate.0 c.0 =
    ap (λ (k : ExpansionValue). nat_eq k.caller.0 c.0) (sym same) ∙ ap (λ (n : ℕ). nat_eq n c.0) (eqb-true key.caller.0 krate.0 calls) in
    on_bool (nat_eq krate.0 c.0)
    (λ there. let here = by ∙ there in rw (on, here, calls, there) refl)
    (λ other. let there = by ∙ other in rw (on, there, calls, other) refl))
    (λ off. rw (off, calls) refl)

-- ---- trees of blocks

abbrev pub BlockTrees : Type 0
BlockTrees = List (BlockPlace × Rc SourceTreeValue Global)

-- what is kept of a block under a crate
abbrev pub block_tree : BlockTrees → BlockPlace → Crate → Option SourceTreeValue
block_tree es q c = if nat_eq q.holder.krate.0 c.0 then option_map (λ t. t.value) (lookup (is_at (block_order.ghosts.cmp q)) es) else None

-- one more is kept of a block, under its crate
pub block_kept : (old new : BlockTrees) (place : BlockPlace) (krate : Crate) (tree : Rc SourceTreeValue Global)
    → new ≡ insert_entry block_order.ghosts.cmp old place tree → nat_eq place.holder.krate.0 krate.0 ≡ true
    → (q : BlockPlace) (c : Crate) → block_tree new q c ≡ (if is_kept_at (block place) krate (block q) c then Some tree.value else block_tree old q c)
block_kept old new place krate tree becomes own q c =
    ap (λ (es : BlockTrees). block_tree es q c) becomes
    ∙ ap (λ (o : Option (Rc SourceTreeValue Global)). if nat_eq q.holder.krate.0 c.0 then option_map (λ t. t.value) o else None)
    (lookup-insert_entry block_order.ghosts.cmp exact_blocks old place tree q)
    ∙ on_bool (is_at (block_order.ghosts.cmp place) q)
    (λ on.
    let by : nat_eq q.holder.krate.0 c.0 ≡ nat_eq krate.0 c.0 =
    ap (λ (k : BlockPlace). nat_eq k.holder.krate.0 c.0) (sym (exact_blocks.same place q on)) ∙ ap (λ (n : ℕ). nat_eq n c.0)
    (eqb-true place.holder.krate.0 krate.0 own) in
    on_bool (nat_eq krate.0 c.0)
    (λ there. let here = by ∙ there in rw (on, here, own, there) refl)
    (λ other. let there = by ∙ other in rw (on, there, own, other) refl))
    (λ off. rw (off, own) refl)

-- what is dropped of a block is gone, and of each other one all is as it was
module _ (old new : BlockTrees) (place : BlockPlace)
    (becomes : new ≡ filter (λ (e : BlockPlace × Rc SourceTreeValue Global). not (is_at (block_order.ghosts.cmp place) e.0)) old) where
  block_left : (c : Crate) → block_tree new place c ≡ None
  block_left c =
      ap (λ (es : BlockTrees). block_tree es place c) becomes
      ∙ ap (λ (o : Option (Rc SourceTreeValue Global)). if nat_eq place.holder.krate.0 c.0 then option_map (λ t. t.value) o else None)
      (lookup-without block_order.ghosts.cmp exact_blocks old place place
      ∙ ap (λ (b : Bool). cond b None (lookup (is_at (block_order.ghosts.cmp place)) old)) (exact_blocks.own place))
      ∙ on_bool (nat_eq place.holder.krate.0 c.0) (λ on. rw on refl) (λ off. rw off refl)

  other_block : (q : BlockPlace) (c : Crate) → is_at (block_order.ghosts.cmp place) q ≡ false → block_tree new q c ≡ block_tree old q c
  other_block q c off =
      ap (λ (es : BlockTrees). block_tree es q c) becomes
      ∙ ap (λ (o : Option (Rc SourceTreeValue Global)). if nat_eq q.holder.krate.0 c.0 then option_map (λ t. t.value) o else None)
      (lookup-without block_order.ghosts.cmp exact_blocks old place q
      ∙ ap (λ (b : Bool). cond b None (lookup (is_at (block_order.ghosts.cmp q)) old)) off)

-- and so of an expansion
module _ (old new : Trees) (key : ExpansionKey)
    (becomes : new ≡ filter (λ (e : ExpansionKey × Rc SourceTreeValue Global). not (is_at (key_order.ghosts.cmp key) e.0)) old) where
  expansion_left : (c : Crate) → expansion_tree new (expansion_value key) c ≡ None
  expansion_left c =
      ap (λ (es : Trees). expansion_tree es (expansion_value key) c) becomes
      ∙ ap (λ (o : Option (Rc SourceTreeValue Global)). if nat_eq key.caller.0 c.0 then option_map (λ t. t.value) o else None)
      (found-without old key (expansion_value key)
      ∙ ap (λ (b : Bool). cond b None (lookup (is_at (expansion_cmp (expansion_value key))) (by_value old))) (exact_expansions.own (expansion_value key)))
      ∙ on_bool (nat_eq key.caller.0 c.0) (λ on. rw on refl) (λ off. rw off refl)

  other_expansion : (q : ExpansionValue) (c : Crate) → is_at (expansion_cmp (expansion_value key)) q ≡ false → expansion_tree new q c ≡ expansion_tree old q c
  other_expansion q c off =
      ap (λ (es : Trees). expansion_tree es q c) becomes
      ∙ ap (λ (o : Option (Rc SourceTreeValue Global)). if nat_eq q.caller.0 c.0 then option_map (λ t. t.value) o else None)
      (found-without old key q ∙ ap (λ (b : Bool). cond b None (lookup (is_at (expansion_cmp q)) (by_value old))) off)

-- ---- trees of files

-- what a crate that lists the file has under it
abbrev pub listed_tree : Bool → Option SourceTreeValue → Option SourceTreeValue
listed_tree listed tree = if listed then tree else None

-- which is what the file has
pub in_listed : (listed : Bool) (tree : Option SourceTreeValue) (t : SourceTreeValue) → listed_tree listed tree ≡ Some t → tree ≡ Some t
in_listed true tree t is = is
in_listed false tree t is = no_value is

-- a file that is listed has a tree
listed_becomes : (here listed : Bool) (tree old : Option SourceTreeValue) → (here ≡ true → listed ≡ true)
    → listed_tree listed (if here then tree else old) ≡ (if here then tree else listed_tree listed old)
listed_becomes true listed tree old there = ap (λ (b : Bool). listed_tree b tree) (there refl)
listed_becomes false listed tree old there = refl

-- a file that has a tree is listed
becomes_listed : (here listed : Bool) (tree old : Option SourceTreeValue)
    → listed_tree (if here then true else listed) (if here then tree else old) ≡ (if here then tree else listed_tree listed old)
becomes_listed true listed tree old = refl
becomes_listed false listed tree old = refl

-- a file that has a tree isn't listed yet
not_listed : (here listed : Bool) (tree old : Option SourceTreeValue) → (here ≡ true → listed ≡ false)
    → listed_tree listed (if here then tree else old) ≡ listed_tree listed old
not_listed true listed tree old off = ap (λ (b : Bool). listed_tree b tree) (off refl) ∙ sym (ap (λ (b : Bool). listed_tree b old) (off refl))
not_listed false listed tree old off = refl

-- one more file is listed under a crate
module _ {V : Type 0} (path : List ℕ) (krate : Crate) (v : V) where
  found_listed : (b : Bool) (o : Option V) → is_some (cond b (Some v) o) ≡ (if b then true else is_some o)
  found_listed true o = refl
  found_listed false o = refl

  pub is_listed-become : (old new : ByCrate (List ℕ) V)
      → ((c : Crate) → entries_under new c ≡ (if is_at (crate_order.ghosts.cmp krate) c then insert_entry (slice_cmp nat_cmp) (entries_under old c) path v
      else entries_under old c))
      → (j : List ℕ) (c : Crate) → is_listed new j c ≡ (if is_kept_at (file path) krate (file j) c then true else is_listed old j c)
  is_listed-become old new becomes j c = on_bool (is_at (crate_order.ghosts.cmp krate) c)
      (λ there.
      ap (λ (es : List (List ℕ × V)). is_some (lookup (is_at (slice_cmp nat_cmp j)) es))
      (then_of (entries_under new c) (insert_entry (slice_cmp nat_cmp) (entries_under old c) path v) (entries_under old c)
      (is_at (crate_order.ghosts.cmp krate) c) (becomes c) there)
      ∙ ap is_some (lookup-insert_entry (slice_cmp nat_cmp) exact_paths (entries_under old c) path v j)
      ∙ found_listed (is_at (slice_cmp nat_cmp path) j) (lookup (is_at (slice_cmp nat_cmp j)) (entries_under old c))
      ∙ sym (both (is_at (slice_cmp nat_cmp path) j) (is_at (crate_order.ghosts.cmp krate) c) (is_listed old j c) there))
      (λ other.
      ap (λ (es : List (List ℕ × V)). is_some (lookup (is_at (slice_cmp nat_cmp j)) es))
      (else_of (entries_under new c) (insert_entry (slice_cmp nat_cmp) (entries_under old c) path v) (entries_under old c)
      (is_at (crate_order.ghosts.cmp krate) c) (becomes c) other)
      ∙ sym (neither (is_at (slice_cmp nat_cmp path) j) (is_at (crate_order.ghosts.cmp krate) c) (is_listed old j c) other))
    where
      both : (a b l : Bool) → b ≡ true → (if a && b then true else l) ≡ (if a then true else l)
      both true b l on = ap (λ (x : Bool). if x then true else l) on
      both false b l on = refl

      neither : (a b l : Bool) → b ≡ false → (if a && b then true else l) ≡ l
      neither true b l off = ap (λ (x : Bool). if x then true else l) off
      neither false b l off = refl

-- ---- a change of one of them

-- what is kept of blocks is as it was
abbrev pub BlocksStay : SourceTrees → SourceTrees → Type 0
BlocksStay old new = (c : Crate) → entries_under new.by_block c ≡ entries_under old.by_block c

-- what is kept of expansions is
abbrev pub ExpansionsStay : SourceTrees → SourceTrees → Type 0
ExpansionsStay old new = (c : Crate) → entries_under new.by_key c ≡ entries_under old.by_key c

-- what is kept of files is
abbrev pub FilesStay : SourceTrees → SourceTrees → Type 0
FilesStay old new = (j : List ℕ) (c : Crate) → tree_in new (file j) c ≡ tree_in old (file j) c

module _ (old new : SourceTrees) where
  pub of_blocks : BlocksStay old new → (q : BlockPlace) (c : Crate) → tree_in new (block q) c ≡ tree_in old (block q) c
  of_blocks stay q c = ap (λ (es : BlockTrees). block_tree es q c) (stay c)

  pub of_expansions : ExpansionsStay old new → (q : ExpansionValue) (c : Crate) → tree_in new (expansion q) c ≡ tree_in old (expansion q) c
  of_expansions stay q c = ap (λ (es : Trees). expansion_tree es q c) (stay c)

  pub files_stay : BlocksStay old new → ExpansionsStay old new → FilesStay old new → (p : SourcePlaceValue) (c : Crate) → tree_in new p c ≡ tree_in old p c
  files_stay blocks expansions same (file j) c = same j c
  files_stay blocks expansions same (block q) c = of_blocks blocks q c
  files_stay blocks expansions same (expansion q) c = of_expansions expansions q c

  -- what is kept of files becomes so, and all else is as it was
  files_become : (path : List ℕ) (krate : Crate) (tree : SourceTreeValue) → BlocksStay old new → ExpansionsStay old new
      → ((j : List ℕ) (k : Crate) → tree_in new (file j) k ≡ (if is_kept_at (file path) krate (file j) k then Some tree else tree_in old (file j) k))
      → (p : SourcePlaceValue) (c : Crate) → tree_in new p c ≡ (if is_kept_at (file path) krate p c then Some tree else tree_in old p c)
  files_become path krate tree blocks expansions becomes (file j) c = becomes j c
  files_become path krate tree blocks expansions becomes (block q) c = of_blocks blocks q c
  files_become path krate tree blocks expansions becomes (expansion q) c = of_expansions expansions q c

  module _ (path : List ℕ) (krate : Crate) (tree : SourceTreeValue)
      (trees : (j : List ℕ) (c : Crate) → file_tree new.by_path j c
      ≡ (if is_kept_at (file path) krate (file j) c then Some tree else file_tree old.by_path j c)) where
    -- where the path and the crate are these
    same_listed : (b : Bool) (j : List ℕ) (c : Crate) → is_listed old.paths path krate ≡ b → is_kept_at (file path) krate (file j) c ≡ true
        → is_listed old.paths j c ≡ b
    same_listed b j c is here =
        sym (ap (λ (p : List ℕ). is_listed old.paths p c) (exact_paths.same path j (first_so (is_at (slice_cmp nat_cmp path) j)
        (is_at (crate_order.ghosts.cmp krate) c) here)))
        ∙ sym (ap (λ (k : Crate). is_listed old.paths path k) (equal_crate krate c (second_so (is_at (slice_cmp nat_cmp path) j)
        (is_at (crate_order.ghosts.cmp krate) c) here)))
        ∙ is

    -- the crate lists the file
    pub listed_file : BlocksStay old new → ExpansionsStay old new → new.paths ≡ old.paths → is_listed old.paths path krate ≡ true
        → (p : SourcePlaceValue) (c : Crate) → tree_in new p c ≡ (if is_kept_at (file path) krate p c then Some tree else tree_in old p c)
    listed_file blocks expansions paths is = files_become path krate tree blocks expansions (λ j c.
        ap (λ ps. listed_tree (is_listed ps j c) (file_tree new.by_path j c)) paths
        ∙ ap (listed_tree (is_listed old.paths j c)) (trees j c)
        ∙ listed_becomes (is_kept_at (file path) krate (file j) c) (is_listed old.paths j c) (Some tree) (file_tree old.by_path j c) (same_listed true j c is))

    -- then it does
    pub file_listed : BlocksStay old new → ExpansionsStay old new
        → ((j : List ℕ) (c : Crate) → is_listed new.paths j c ≡ (if is_kept_at (file path) krate (file j) c then true else is_listed old.paths j c))
        → (p : SourcePlaceValue) (c : Crate) → tree_in new p c ≡ (if is_kept_at (file path) krate p c then Some tree else tree_in old p c)
    file_listed blocks expansions lists = files_become path krate tree blocks expansions (λ j c.
        ap (λ (b : Bool). listed_tree b (file_tree new.by_path j c)) (lists j c)
        ∙ ap (listed_tree (if is_kept_at (file path) krate (file j) c then true else is_listed old.paths j c)) (trees j c)
        ∙ becomes_listed (is_kept_at (file path) krate (file j) c) (is_listed old.paths j c) (Some tree) (file_tree old.by_path j c))

    -- it doesn't
    pub file_not_listed : BlocksStay old new → ExpansionsStay old new
        → ((j : List ℕ) (c : Crate) → is_listed new.paths j c ≡ is_listed old.paths j c) → is_listed old.paths path krate ≡ false
        → (p : SourcePlaceValue) (c : Crate) → tree_in new p c ≡ tree_in old p c
    file_not_listed blocks expansions lists is = files_stay blocks expansions (λ j c.
        ap (λ (b : Bool). listed_tree b (file_tree new.by_path j c)) (lists j c)
        ∙ ap (listed_tree (is_listed old.paths j c)) (trees j c)
        ∙ not_listed (is_kept_at (file path) krate (file j) c) (is_listed old.paths j c) (Some tree) (file_tree old.by_path j c) (same_listed false j c is))

  -- what other files have is as it was
  pub others_stay : (path : List ℕ) → BlocksStay old new → ExpansionsStay old new → new.paths ≡ old.paths
      → ((j : List ℕ) (k : Crate) → is_at (slice_cmp nat_cmp path) j ≡ false → file_tree new.by_path j k ≡ file_tree old.by_path j k)
      → (p : SourcePlaceValue) (c : Crate) → is_place (file path) p ≡ false → tree_in new p c ≡ tree_in old p c
  others_stay path blocks expansions paths same (file j) c off =
      ap (λ ps. listed_tree (is_listed ps j c) (file_tree new.by_path j c)) paths
      ∙ ap (listed_tree (is_listed old.paths j c)) (same j c off)
  others_stay path blocks expansions paths same (block q) c off = of_blocks blocks q c
  others_stay path blocks expansions paths same (expansion q) c off = of_expansions expansions q c

  -- so what is kept of blocks
  pub blocks_become : (place : BlockPlace) (krate : Crate) (tree : Rc SourceTreeValue Global) → FilesStay old new → ExpansionsStay old new
      → ((c : Crate) → entries_under new.by_block c ≡ (if is_at (crate_order.ghosts.cmp krate) c
      then insert_entry block_order.ghosts.cmp (entries_under old.by_block c) place tree else entries_under old.by_block c))
      → nat_eq place.holder.krate.0 krate.0 ≡ true
      → (p : SourcePlaceValue) (c : Crate) → tree_in new p c ≡ (if is_kept_at (block place) krate p c then Some tree.value else tree_in old p c)
  blocks_become place krate tree files expansions becomes own (file j) c = files j c
  blocks_become place krate tree files expansions becomes own (block q) c = on_bool (is_at (crate_order.ghosts.cmp krate) c)
      (λ there. block_kept (entries_under old.by_block c) (entries_under new.by_block c) place krate tree
      (then_of (entries_under new.by_block c) (insert_entry block_order.ghosts.cmp (entries_under old.by_block c) place tree) (entries_under old.by_block c)
      (is_at (crate_order.ghosts.cmp krate) c) (becomes c) there) own q c)
      (λ other.
      ap (λ (es : BlockTrees). block_tree es q c)
      (else_of (entries_under new.by_block c) (insert_entry block_order.ghosts.cmp (entries_under old.by_block c) place tree) (entries_under old.by_block c)
      (is_at (crate_order.ghosts.cmp krate) c) (becomes c) other)
      ∙ elsewhere (nat_eq place.holder.krate.0 krate.0) (is_at (block_order.ghosts.cmp place) q) (nat_eq krate.0 c.0) (Some tree.value)
      (tree_in old (block q) c) (crate_test krate c ∙ other))
  blocks_become place krate tree files expansions becomes own (expansion q) c = of_expansions expansions q c

  -- what is dropped of a block is gone, and all else is as it was
  module _ (place : BlockPlace) (krate : Crate) (own : krate ≡ place.holder.krate)
      (becomes : (c : Crate) → entries_under new.by_block c ≡ (if is_at (crate_order.ghosts.cmp krate) c
      then filter (λ (e : BlockPlace × Rc SourceTreeValue Global). not (is_at (block_order.ghosts.cmp place) e.0)) (entries_under old.by_block c)
      else entries_under old.by_block c)) where
    there_block : (c : Crate) → is_at (crate_order.ghosts.cmp krate) c ≡ true → entries_under new.by_block c
        ≡ filter (λ (e : BlockPlace × Rc SourceTreeValue Global). not (is_at (block_order.ghosts.cmp place) e.0)) (entries_under old.by_block c)
    there_block c there = then_of (entries_under new.by_block c)
        (filter (λ (e : BlockPlace × Rc SourceTreeValue Global). not (is_at (block_order.ghosts.cmp place) e.0)) (entries_under old.by_block c))
        (entries_under old.by_block c) (is_at (crate_order.ghosts.cmp krate) c) (becomes c) there

    pub block_gone : (c : Crate) → tree_in new (block place) c ≡ None
    block_gone c = on_bool (is_at (crate_order.ghosts.cmp krate) c)
        (λ there. block_left (entries_under old.by_block c) (entries_under new.by_block c) place (there_block c there) c)
        (λ other. ap (λ (b : Bool). if b then option_map (λ (t : Rc SourceTreeValue Global). t.value)
        (lookup (is_at (block_order.ghosts.cmp place)) (entries_under new.by_block c)) else None)
        (ap (λ (k : Crate). nat_eq k.0 c.0) (sym own) ∙ crate_test krate c ∙ other))

    pub other_blocks : FilesStay old new → ExpansionsStay old new
        → (p : SourcePlaceValue) (c : Crate) → is_place (block place) p ≡ false → tree_in new p c ≡ tree_in old p c
    other_blocks files expansions (file j) c off = files j c
    other_blocks files expansions (block q) c off = on_bool (is_at (crate_order.ghosts.cmp krate) c)
        (λ there. other_block (entries_under old.by_block c) (entries_under new.by_block c) place (there_block c there) q c off)
        (λ other. ap (λ (es : BlockTrees). block_tree es q c) (else_of (entries_under new.by_block c)
        (filter (λ (e : BlockPlace × Rc SourceTreeValue Global). not (is_at (block_order.ghosts.cmp place) e.0)) (entries_under old.by_block c))
        (entries_under old.by_block c) (is_at (crate_order.ghosts.cmp krate) c) (becomes c) other))
    other_blocks files expansions (expansion q) c off = of_expansions expansions q c

  -- and so what is kept of expansions
  pub expansions_become : (key copy : ExpansionKey) (krate : Crate) (tree : Rc SourceTreeValue Global) → FilesStay old new → BlocksStay old new
      → expansion_value copy ≡ expansion_value key
      → ((c : Crate) → entries_under new.by_key c ≡ (if is_at (crate_order.ghosts.cmp krate) c
      then insert_entry key_order.ghosts.cmp (entries_under old.by_key c) copy tree else entries_under old.by_key c))
      → nat_eq key.caller.0 krate.0 ≡ true
      → (p : SourcePlaceValue) (c : Crate) → tree_in new p c ≡ (if is_kept_at (expansion (expansion_value key)) krate p c then Some tree.value
      else tree_in old p c)
  expansions_become key copy krate tree files blocks copied becomes calls (file j) c = files j c
  expansions_become key copy krate tree files blocks copied becomes calls (block q) c = of_blocks blocks q c
  expansions_become key copy krate tree files blocks copied becomes calls (expansion q) c = on_bool (is_at (crate_order.ghosts.cmp krate) c)
      (λ there. expansion_kept (entries_under old.by_key c) (entries_under new.by_key c) key copy krate tree copied
      (then_of (entries_under new.by_key c) (insert_entry key_order.ghosts.cmp (entries_under old.by_key c) copy tree) (entries_under old.by_key c)
      (is_at (crate_order.ghosts.cmp krate) c) (becomes c) there) calls q c)
      (λ other.
      ap (λ (es : Trees). expansion_tree es q c)
      (else_of (entries_under new.by_key c) (insert_entry key_order.ghosts.cmp (entries_under old.by_key c) copy tree) (entries_under old.by_key c)
      (is_at (crate_order.ghosts.cmp krate) c) (becomes c) other)
      ∙ elsewhere (nat_eq key.caller.0 krate.0) (is_at (expansion_cmp (expansion_value key)) q) (nat_eq krate.0 c.0) (Some tree.value)
      (tree_in old (expansion q) c) (crate_test krate c ∙ other))

  -- what is dropped of an expansion is gone, and all else is as it was
  module _ (key : ExpansionKey)
      (becomes : (c : Crate) → entries_under new.by_key c ≡ (if is_at (crate_order.ghosts.cmp key.caller) c
      then filter (λ (e : ExpansionKey × Rc SourceTreeValue Global). not (is_at (key_order.ghosts.cmp key) e.0)) (entries_under old.by_key c)
      else entries_under old.by_key c)) where
    there_key : (c : Crate) → is_at (crate_order.ghosts.cmp key.caller) c ≡ true → entries_under new.by_key c
        ≡ filter (λ (e : ExpansionKey × Rc SourceTreeValue Global). not (is_at (key_order.ghosts.cmp key) e.0)) (entries_under old.by_key c)
    there_key c there = then_of (entries_under new.by_key c)
        (filter (λ (e : ExpansionKey × Rc SourceTreeValue Global). not (is_at (key_order.ghosts.cmp key) e.0)) (entries_under old.by_key c))
        (entries_under old.by_key c) (is_at (crate_order.ghosts.cmp key.caller) c) (becomes c) there

    pub expansion_gone : (c : Crate) → tree_in new (expansion (expansion_value key)) c ≡ None
    expansion_gone c = on_bool (is_at (crate_order.ghosts.cmp key.caller) c)
        (λ there. expansion_left (entries_under old.by_key c) (entries_under new.by_key c) key (there_key c there) c)
        (λ other. ap (λ (b : Bool). if b then option_map (λ (t : Rc SourceTreeValue Global). t.value)
        (lookup (is_at (expansion_cmp (expansion_value key))) (by_value (entries_under new.by_key c))) else None) (crate_test key.caller c ∙ other))

    pub other_expansions : FilesStay old new → BlocksStay old new
        → (p : SourcePlaceValue) (c : Crate) → is_place (expansion (expansion_value key)) p ≡ false → tree_in new p c ≡ tree_in old p c
    other_expansions files blocks (file j) c off = files j c
    other_expansions files blocks (block q) c off = of_blocks blocks q c
    other_expansions files blocks (expansion q) c off = on_bool (is_at (crate_order.ghosts.cmp key.caller) c)
        (λ there. other_expansion (entries_under old.by_key c) (entries_under new.by_key c) key (there_key c there) q c off)
        (λ other. ap (λ (es : Trees). expansion_tree es q c) (else_of (entries_under new.by_key c)
        (filter (λ (e : ExpansionKey × Rc SourceTreeValue Global). not (is_at (key_order.ghosts.cmp key) e.0)) (entries_under old.by_key c))
        (entries_under old.by_key c) (is_at (crate_order.ghosts.cmp key.caller) c) (becomes c) other))

-- under another crate nothing is kept of it
pub not_kept : (old : SourceTrees) (key : ExpansionKey) (krate : Crate) (tree : Option SourceTreeValue) → nat_eq key.caller.0 krate.0 ≡ false
    → (p : SourcePlaceValue) (c : Crate) → tree_in old p c ≡ (if is_kept_at (expansion (expansion_value key)) krate p c then tree else tree_in old p c)
not_kept old key krate tree off (file j) c = refl
not_kept old key krate tree off (block b) c = refl
not_kept old key krate tree off (expansion q) c = rw off refl

pub not_kept_of_block : (old : SourceTrees) (place : BlockPlace) (krate : Crate) (tree : Option SourceTreeValue) → nat_eq place.holder.krate.0 krate.0 ≡ false
    → (p : SourcePlaceValue) (c : Crate) → tree_in old p c ≡ (if is_kept_at (block place) krate p c then tree else tree_in old p c)
not_kept_of_block old place krate tree off (file j) c = refl
not_kept_of_block old place krate tree off (block q) c = rw off refl
not_kept_of_block old place krate tree off (expansion q) c = refl
