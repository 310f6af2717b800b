-- A run begins over the tables as they are, and as it leaves them.
use Rattle.std.proofs.Common.{◌≡◌, ◌∙◌, if◌then◌else◌, Bool, true, false, List, [], Option, Some, None, refl, sym, ap, subst}
use Rattle.std.specs.Prelude.{IsSome, is_some, not, option_map}
use Rattle.hir_mod_collector.specs.HirIds.declared.ids.Crate.{Crate}
use Rattle.hir_mod_collector.specs.HirIds.declared.ids.ModuleId.{ModuleId}
use Rattle.hir_mod_collector.specs.HirItemTree.ItemTree.{empty_tree}
use Rattle.hir_mod_collector.specs.HirItemTree.SourceTree.{SourceTreeValue}
use Rattle.hir_mod_collector.specs.HirBase.declared.tree_id.TreeId.{TreeId}
use Rattle.hir_mod_collector.specs.HirTables.SourcePlaces.{SourcePlaceValue}
use Rattle.hir_mod_collector.specs.HirTables.Tables.{KeepsTables, TablesValue, source_of}
use Rattle.hir_mod_collector.specs.HirDefMapRules.Overlay.{Maps}
use Rattle.hir_mod_collector.specs.HirCollectorRules.declared.start.Start.{Start}
use Rattle.hir_mod_collector.specs.HirCollectorRules.Workspace.{Workspace, crate_in}
use Rattle.hir_mod_collector.specs.HirCollectorRules.Keys.{source_in, source_under}
use Rattle.hir_mod_collector.specs.HirCollectorRules.Start.{began, core_of, exports_macros, is_declared, krate_of, root_site, start_by, tree_key, tree_visits}
use Rattle.hir_mod_collector.specs.HirCollectorRules.State.{Core, Task, at_rest, joined}
use Rattle.hir_mod_collector.specs.HirCollectorRules.Moves.{IsHeld}
use Rattle.hir_mod_collector.proofs.HirModResolution.Outline.{held_grown, held_source}

-- whether something is there, as it is asked
pub none_there : {A B : Type 0} (f : A → B) (o : Option A) (s : Option B) (b : Bool) → option_map f o ≡ s → is_some o ≡ not b → b ≡ true → s ≡ None
none_there f None s b e h t = sym e
none_there f (Some x) s true e h t = absurd (let no : ⊥ = cc in no)
none_there f (Some x) s false e h t = absurd (let no : ⊥ = cc in no)

pub some_there : {A B : Type 0} (f : A → B) (o : Option A) (s : Option B) (b : Bool) → option_map f o ≡ s → is_some o ≡ not b → b ≡ false → IsSome s
some_there f None s true e h t = absurd (let no : ⊥ = cc in no)
some_there f None s false e h t = absurd (let no : ⊥ = cc in no)
some_there f (Some x) s b e h t = subst (λ (o : Option _). IsSome o) e refl

pub nothing_there : {A : Type 0} (o : Option A) → o ≡ None → IsSome o → ⊥
nothing_there None e h = let no : ⊥ = cc in no
nothing_there (Some x) e h = let no : ⊥ = cc in no

abbrev no_tasks : List Task
no_tasks = []

-- of no items none is visited, whether they are declared or not
none_visited : (b : Bool) → (if b then no_tasks else no_tasks) ≡ no_tasks
none_visited true = refl
none_visited false = refl

module _ (tables : TablesValue) (w : Workspace) (finished : Maps) (transitive : List Crate) (holders : List ModuleId) (start : Start) (id : TreeId)
    (run : Core) (source : SourceTreeValue)
    (found : source ≡ source_in tables w (tree_key start id)) (is : run ≡ core_of finished source.tree (exports_macros start (crate_in w (krate_of start)))
    (w.config (krate_of start)) transitive holders start id) where
  -- where its number means something, its source is held
  pub held_root : IsSome (source_of tables id) → IsHeld tables w run.map.id.krate id source
  held_root there = go (source_of tables id) refl there
    where
      go : (o : Option SourcePlaceValue) → source_of tables id ≡ o → IsSome o → IsHeld tables w run.map.id.krate id source
      go None e h = absurd (let no : ⊥ = cc in no)
      go (Some place) e h =
          let seen : source ≡ w.tree (krate_of start) place = found ∙ ap (λ (o : Option SourcePlaceValue). source_under w (krate_of start) o) e in
          let own : run.map.id.krate ≡ krate_of start = ap (λ (c : Core). c.map.id.krate) is in
          subst (λ (krate : Crate). IsHeld tables w krate id source) (sym own) (record { place = place; at = e; is = sym seen })

  begun_as : (grown : TablesValue) → source ≡ source_in grown w (tree_key start id) → joined run (tree_visits (root_site id) source.tree)
      ≡ began grown w finished transitive holders start id
  begun_as grown same =
      ap (λ (c : Core). joined c (tree_visits (root_site id) source.tree)) is
      ∙ ap (λ (s : SourceTreeValue). start_by finished s.tree (exports_macros start (crate_in w (krate_of start))) (w.config (krate_of start)) transitive
      holders start id) same

  -- the start is the same over tables that have grown
  pub begun_grown : (grown : TablesValue) → KeepsTables tables grown → IsSome (source_of tables id) → joined run (tree_visits (root_site id) source.tree)
      ≡ began grown w finished transitive holders start id
  begun_grown grown kept there =
      let own : krate_of start ≡ run.map.id.krate = sym (ap (λ (c : Core). c.map.id.krate) is) in
      let held : IsHeld tables w (krate_of start) id source = subst (λ (krate : Crate). IsHeld tables w krate id source) (sym own) (held_root there) in
      begun_as grown (sym (held_source grown w (krate_of start) id source (held_grown tables grown w (krate_of start) id source kept held)))

  -- where it means nothing, there is nothing to be visited
  pub begun_absent : source_of tables id ≡ None → at_rest run ≡ began tables w finished transitive holders start id
  begun_absent gone =
      let absent : source ≡ source_under w (krate_of start) None = found ∙ ap (λ (o : Option SourcePlaceValue). source_under w (krate_of start) o) gone in
      let nothing : tree_visits (root_site id) source.tree ≡ [] =
      ap (λ (s : SourceTreeValue). tree_visits (root_site id) s.tree) absent ∙ none_visited (is_declared id empty_tree) in
      ap (λ (vs : List _). joined run vs) (sym nothing) ∙ begun_as tables found
