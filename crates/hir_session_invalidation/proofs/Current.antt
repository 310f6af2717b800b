-- What is kept of sources stays what they have.
use Rattle.std.proofs.Common.{◌≡◌, ◌∙◌, ℕ, ap, sym, subst, refl, nat_eq, Bool, true, false, ◌&&◌, if◌then◌else◌, List, Option, Some, None}
use Rattle.std.proofs.Common.{option_map, Result, Ok, Err, OnOk, OnErr}
use Rattle.std.proofs.lemmas.Bool.{eqb-true}
use Rattle.std.specs.BTreeMap.{is_at}
use Rattle.std.specs.Cmp.Lexicographic.{slice_cmp}
use Rattle.std.specs.Cmp.{first_so, second_so}
use Rattle.std.specs.Ordering.{nat_cmp}
use Rattle.hir_session_state.specs.HirIds.contracts.ids.CrateOrd.TheImpl as crate_order
use Rattle.hir_session_state.specs.HirBase.contracts.place.BlockPlaceOrd.TheImpl as block_order
use Rattle.hir_session_state.specs.HirIds.declared.ids.Crate.{Crate}
use Rattle.hir_session_state.specs.HirItemTree.Source.{SourceValue}
use Rattle.hir_session_state.specs.HirBase.CfgOptions.{is_set}
use Rattle.hir_session_state.specs.HirItemTree.SourceTree.{SourceTreeValue, source_tree_of}
use Rattle.hir_session_state.specs.HirTables.SourcePlaces.{SourcePlaceValue, block, expansion, file}
use Rattle.hir_session_state.specs.HirCollectorRules.Workspace.{ConfigValue, Workspace}
use Rattle.hir_session_sources.specs.declared.source_trees.SourceTrees.{SourceTrees}
use Rattle.hir_session_state.specs.Crates.{CrateValue, crate_in, with_config}
use Rattle.hir_session_state.specs.Entries.{expansion_cmp}
use Rattle.hir_session_state.specs.SourceEdits.{SourceEditValue, edited, place_of, source_by}
use Rattle.hir_session_state.specs.SourceTable.{SourceTable, front_in, source_at, tree_under, workspace_in}
use Rattle.hir_session_sources.specs.LoweredTrees.{AreLoweredAnew, tree_for}
use Rattle.hir_session_sources.specs.SourceTrees.{CrateTrees, AreCurrent, AreTreesOf, is_kept_at, is_place, tree_by, tree_in}
use Rattle.hir_session_sources.proofs.BlockLemmas.{exact_blocks}
use Rattle.hir_session_sources.proofs.Changing.{equal_crate, same_crate}
use Rattle.hir_session_sources.proofs.Expansions.{exact_expansions}
use Rattle.hir_session_sources.proofs.SourceLemmas.{exact_paths, place_same, source-other, source-there}
use Rattle.hir_session_state.proofs.Renewed.{other_crate}
use Rattle.hir_session_state.proofs.Truth.{clash, on_bool, on_same}

none_some : {A B : Type 0} (o : Option A) (x : A) → o ≡ None → o ≡ Some x → B
none_some o x none some = let both : None ≡ Some x = sym none ∙ some in absurd (let wrong : ⊥ = cc in wrong)

one_value : {A : Type 0} {x y : A} → Some x ≡ Some y → x ≡ y
one_value e = cc

-- where nothing is kept
pub none_current : (w : Workspace) (trees : SourceTrees) → ((place : SourcePlaceValue) (krate : Crate) → tree_in trees place krate ≡ None) → AreCurrent w trees
none_current w trees none = record { each = λ place krate t is. none_some (tree_in trees place krate) t (none place krate) is }

-- where the same is kept
pub same_current : (w : Workspace) (old new : SourceTrees) → AreCurrent w old → ((place : SourcePlaceValue) (krate : Crate) → tree_in new place krate
    ≡ tree_in old place krate) → AreCurrent w new
same_current w old new are same = record { each = λ place krate t is. are.each place krate t (sym (same place krate) ∙ is) }

-- where the workspace is the same
pub current_over : (v w : Workspace) (trees : SourceTrees) → v ≡ w → AreCurrent v trees → AreCurrent w trees
current_over v w trees same are = subst (λ (x : Workspace). AreCurrent x trees) same are

-- what is found at a place under a crate is kept of it under the crate
kept_here : (place : SourcePlaceValue) (krate : Crate) (p : SourcePlaceValue) (c : Crate) → is_kept_at place krate p c ≡ true → (place ≡ p) × (krate ≡ c)
kept_here (file path) krate (file at) c on =
    let here = is_at (slice_cmp nat_cmp path) at in
    let under = is_at (crate_order.ghosts.cmp krate) c in
    (ap file (exact_paths.same path at (first_so here under on)), equal_crate krate c (second_so here under on))
kept_here (block place) krate (block at) c on =
    let here = is_at (block_order.ghosts.cmp place) at in
    let under = nat_eq krate.0 c.0 in
    let both = second_so (nat_eq place.holder.krate.0 krate.0) (here && under) on in
    (ap block (exact_blocks.same place at (first_so here under both)), same_crate krate c (second_so here under both))
kept_here (expansion key) krate (expansion at) c on =
    let here = is_at (expansion_cmp key) at in
    let under = nat_eq krate.0 c.0 in
    let both = second_so (nat_eq key.caller.0 krate.0) (here && under) on in
    (ap expansion (exact_expansions.same key at (first_so here under both)), same_crate krate c (second_so here under both))
kept_here place krate p c on = clash on refl

-- one more that is what the source has
pub set_current : (w : Workspace) (old new : SourceTrees) (place : SourcePlaceValue) (krate : Crate) (tree : SourceTreeValue) → tree ≡ w.tree krate place
    → AreCurrent w old
    → ((p : SourcePlaceValue) (c : Crate) → tree_in new p c ≡ (if is_kept_at place krate p c then Some tree else tree_in old p c)) → AreCurrent w new
set_current w old new place krate tree right are becomes = record { each = λ p c t is. go p c t (is_kept_at place krate p c) refl (sym (becomes p c) ∙ is) }
  where
    go : (p : SourcePlaceValue) (c : Crate) (t : SourceTreeValue) (b : Bool) → is_kept_at place krate p c ≡ b
        → (if is_kept_at place krate p c then Some tree else tree_in old p c) ≡ Some t → t ≡ w.tree c p
    go p c t true on is =
        let now : Some tree ≡ Some t = rw on at is in
        let here = kept_here place krate p c on in
        sym (one_value now) ∙ right ∙ ap (λ (k : Crate). w.tree k place) here.1 ∙ ap (λ (q : SourcePlaceValue). w.tree c q) here.0
    go p c t false off is = are.each p c t (rw off at is)

-- those of an edited source, which are what it has after the edit
pub replaced_current : (crates : List CrateValue) (table : SourceTable) (edit : SourceEditValue) (old new : SourceTrees) (trees : CrateTrees)
    → AreCurrent (workspace_in crates table) old → AreTreesOf crates (place_of edit) (source_by edit) trees
    → ((c : Crate) (t : SourceTreeValue) → tree_in new (place_of edit) c ≡ Some t → tree_by trees c ≡ Some t)
    → ((p : SourcePlaceValue) (c : Crate) → is_place (place_of edit) p ≡ false → tree_in new p c ≡ tree_in old p c)
    → AreCurrent (workspace_in crates (edited table edit)) new
replaced_current crates table edit old new trees are fresh here others = record {
  each = λ p c t is. on_bool (is_place (place_of edit) p)
      (λ on.
      let same : place_of edit ≡ p = place_same (place_of edit) p on in
      fresh.each c t (here c t (ap (λ (q : SourcePlaceValue). tree_in new q c) same ∙ is))
      ∙ ap (λ (q : SourcePlaceValue). tree_under crates c.0 q (source_by edit)) same
      ∙ ap (λ (o : Option SourceValue). tree_under crates c.0 p o) (sym (source-there table edit p same)))
      (λ off. are.each p c t (sym (others p c off) ∙ is) ∙ ap (λ (o : Option SourceValue). tree_under crates c.0 p o) (sym (source-other table edit p off)));
}

-- nothing is kept of it
pub dropped_current : (crates : List CrateValue) (table : SourceTable) (edit : SourceEditValue) (old new : SourceTrees)
    → AreCurrent (workspace_in crates table) old
    → ((c : Crate) → tree_in new (place_of edit) c ≡ None)
    → ((p : SourcePlaceValue) (c : Crate) → is_place (place_of edit) p ≡ false → tree_in new p c ≡ tree_in old p c)
    → AreCurrent (workspace_in crates (edited table edit)) new
dropped_current crates table edit old new are gone others = record {
  each = λ p c t is. on_bool (is_place (place_of edit) p)
      (λ on. none_some (tree_in new p c) t (ap (λ (q : SourcePlaceValue). tree_in new q c) (sym (place_same (place_of edit) p on)) ∙ gone c) is)
      (λ off. are.each p c t (sym (others p c off) ∙ is) ∙ ap (λ (o : Option SourceValue). tree_under crates c.0 p o) (sym (source-other table edit p off)));
}

-- and all else is as it was
pub dropped_same : (w : Workspace) (at : SourcePlaceValue) (old new : SourceTrees) → AreCurrent w old
    → ((c : Crate) → tree_in new at c ≡ None)
    → ((p : SourcePlaceValue) (c : Crate) → is_place at p ≡ false → tree_in new p c ≡ tree_in old p c) → AreCurrent w new
dropped_same w at old new are gone others = record {
  each = λ p c t is. on_bool (is_place at p)
      (λ on. none_some (tree_in new p c) t (ap (λ (q : SourcePlaceValue). tree_in new q c) (sym (place_same at p on)) ∙ gone c) is)
      (λ off. are.each p c t (sym (others p c off) ∙ is));
}

anew_is : {A B : Type 0} (x y : A) (o : Option B) → option_map (λ _. x) o ≡ Some y → y ≡ x
anew_is x y None is = none_some None y refl is
anew_is x y (Some z) is = sym (one_value is)

-- what is kept under a crate that is handed in with other data is lowered anew
pub lowered_current : (crates : List CrateValue) (k : ℕ) (config : ConfigValue) (table : SourceTable) (old new : SourceTrees)
    → AreCurrent (workspace_in crates table) old → AreLoweredAnew (crate_in (with_config crates k config) k) table (record { 0 = k }) old new
    → AreCurrent (workspace_in (with_config crates k config) table) new
lowered_current crates k config table old new are anew = record {
  each = λ place krate t is. on_same krate.0 k
      (λ own. let it : krate ≡ record { 0 = k } = λ i. record { 0 = own i } in
      anew_is (tree_for (crate_in (with_config crates k config) k) table place) t (tree_in old place (record { 0 = k }))
      (sym (anew.own place) ∙ ap (λ (c : Crate). tree_in new place c) (sym it) ∙ is)
      ∙ ap (λ (n : ℕ). tree_under (with_config crates k config) n place (source_at table place)) (sym own))
      (λ other.
      let apart : nat_eq k krate.0 ≡ false = on_bool (nat_eq k krate.0) (λ on. absurd (other (sym (eqb-true k krate.0 on)))) (λ off. off) in
      are.each place krate t (sym (anew.others place krate apart) ∙ is)
      ∙ ap (λ (c : CrateValue). source_tree_of (is_set c.config.options) (front_in c place) (source_at table place))
      (sym (other_crate crates k config krate.0 other)));
}

-- two facts of each answer
on_both : {A B C D X T E : Type 0} (r : Result T E) → OnOk r A → OnOk r B → OnErr r C → OnErr r D → (A → B → X) → (C → D → X) → X
on_both (Ok x) a b c d f g = f a b
on_both (Err e) a b c d f g = g c d

-- a crate was handed in, or all is as it was
pub handed_current : {T E : Type 0} (r : Result T E) (old new : List CrateValue) (k : Crate) (config : ConfigValue) (table : SourceTable) (was is : SourceTrees)
    → AreCurrent (workspace_in old table) was → OnOk r (new ≡ with_config old k.0 config) → OnOk r (AreLoweredAnew (crate_in new k.0) table k was is)
    → OnErr r (new ≡ old) → OnErr r (is ≡ was) → AreCurrent (workspace_in new table) is
handed_current r old new k config table was is are handed anew same kept = on_both r handed anew same kept
    (λ there lowered. current_over (workspace_in (with_config old k.0 config) table) (workspace_in new table) is
    (ap (λ (crates : List CrateValue). workspace_in crates table) (sym there))
    (lowered_current old k.0 config table was is are
    (subst (λ (crates : List CrateValue). AreLoweredAnew (crate_in crates k.0) table k was is) there lowered)))
    (λ there trees. subst (λ (ts : SourceTrees). AreCurrent (workspace_in new table) ts) (sym trees)
    (current_over (workspace_in old table) (workspace_in new table) was (ap (λ (crates : List CrateValue). workspace_in crates table) (sym there)) are))
