-- Each write of a glob changes what stands in its slot, and nothing else.
use Rattle.std.proofs.Common.{◌≡◌, ◌∙◌, ap, sym, subst, refl, ℕ, zero, suc, ◌<◌, List, [], ◌∷◌, length, Option, None, Some, arith}
use Rattle.std.proofs.lemmas.Bool.{ltb-true}
use Rattle.std.specs.Prelude.{slice_get}
use Rattle.hir_nameres.specs.HirIds.declared.macro_kind.MacroId.{MacroId}
use Rattle.hir_nameres.specs.HirIds.declared.ids.ModuleDefId.{ModuleDefId}
use Rattle.hir_nameres.specs.HirIds.declared.ids.TraitId.{TraitId}
use Rattle.hir_nameres.specs.HirIds.declared.ids.ModuleDefId.TheVariants as definitions
use Rattle.hir_nameres.specs.HirScope.Entries.{item_at}
use Rattle.hir_nameres.specs.HirScope.Globs.{GlobNames}
use Rattle.hir_nameres.specs.HirPerNs.PerNs.{Item}
use Rattle.hir_nameres.specs.HirScope.Scope.{ScopeValue}
use Rattle.hir_nameres.specs.HirPerNs.declared.imports.GlobId.{GlobId}
use Rattle.hir_nameres.specs.HirPerNs.declared.imports.ImportOrExternCrate.{ImportOrExternCrate}
use Rattle.hir_nameres.specs.HirPerNs.declared.imports.ImportOrGlob.{ImportOrGlob}
use Rattle.hir_nameres.specs.HirPerNs.declared.item_in_ns.ItemInNs.{ItemInNs}
use Rattle.hir_nameres.specs.HirPerNs.declared.visibility.Visibility.{Visibility}
use Rattle.hir_nameres.specs.HirPerNs.declared.item_in_ns.ItemInNs.TheVariants as in_ns
use Rattle.hir_def_map_rules.specs.State.{ModuleValue, module_at, place_at, with_scope}
use Rattle.hir_glob_imports.specs.Keys.{slot_at}
use Rattle.hir_glob_imports.specs.View.{Binds, IsNameTable, with_vis}
use Rattle.hir_glob_imports.specs.declared.edge.Bound.{Bound}
use Rattle.hir_glob_imports.specs.declared.edge.Key.{Key}
use Rattle.hir_glob_imports.specs.declared.edge.Target.{Target}
use Rattle.hir_glob_imports.specs.declared.edge.Key.TheVariants.{Types, Values, Macros, Unnamed}
use Rattle.hir_glob_imports.specs.declared.edge.Target.TheVariants as targets
use Rattle.hir_import_rules.specs.Names.{ScopesValue, bound_of, copied_to, copied_where, entries_of, followed_to, followed_where, redefined_at, revised}
use Rattle.hir_import_rules.specs.Names.{scope_table, traits_of, view_of, with_macro, with_trait, with_type, with_value}
use Rattle.hir_import_growth.specs.ViewLaws.{bound_inside, changed_here, changed_once, changes_in_slot, inside_own, inside_scope}
use Rattle.hir_import_rules.specs.ScopeLaws.{IsItem, Keeps, bound_scope, item, item_of, keeps-pushed_macro, keeps-pushed_type, keeps-pushed_value}
use Rattle.hir_import_rules.specs.ScopeLaws.{keeps-redefined_macro, keeps-redefined_type, keeps-redefined_value, keeps-revised, keeps-trait}
use Rattle.hir_import_rules.specs.ScopeLaws.{pushed_def, pushed_macro_here, pushed_type_here, pushed_value_here, redefined_macro_here}
use Rattle.hir_import_rules.specs.ScopeLaws.{redefined_type_here, redefined_value_here, revised_here, trait_def, trait_here, vacant_of}

there_below : {A : Type 0} (xs : List A) (k : ℕ) → k < length xs → (x : A) × (slice_get xs k ≡ Some x)
there_below [] k low = absurd (omega arith)
there_below (x ∷ xs) zero low = (x, refl)
there_below (x ∷ xs) (suc k) low = there_below xs k (omega arith)

-- where something is bound, there is a module
there_bound : (o : Option ModuleValue) (key : Key) (b : Bound) → bound_inside key o ≡ Some b → (m : ModuleValue) × (o ≡ Some m)
there_bound None (Types name) b e = absurd cc
there_bound None (Values name) b e = absurd cc
there_bound None (Macros name) b e = absurd cc
there_bound None (Unnamed id) b e = absurd cc
there_bound (Some m) key b e = (m, refl)

-- ---- a scope of the map changes

-- the slot of a module that is there takes what the change binds
binds : (n : ScopesValue) (at : ℕ) (key : Key) (change : ScopeValue → ScopeValue) (globs : GlobNames) → Keeps key change
    → (m : ModuleValue) → module_at n.map at ≡ Some m → (b : Bound) → bound_scope (change m.scope) key ≡ Some b
    → Binds (slot_at at key) b (view_of n) (view_of (changed_once n at change globs))
binds n at key change globs keeps m there b is = record {
  changes = changes_in_slot n at change globs key keeps;
  bound = changed_here n at change globs m there key ∙ is;
}

-- ---- what stands at a key of a target

types_at : (n : ScopesValue) (of : Target) (name : List ℕ) (b : Bound) → bound_of n of (Types name) ≡ Some b → (d : ModuleDefId) × (b.def ≡ in_ns.Types d)
types_at n of name b e = go (item_of in_ns.Types (entries_of n of name).types b e)
  where
    go : IsItem in_ns.Types (entries_of n of name).types b → (d : ModuleDefId) × (b.def ≡ in_ns.Types d)
    go (item i is same) = (i.def, ap (λ (x : Bound). x.def) same)

values_at : (n : ScopesValue) (of : Target) (name : List ℕ) (b : Bound) → bound_of n of (Values name) ≡ Some b → (d : ModuleDefId) × (b.def ≡ in_ns.Values d)
values_at n of name b e = go (item_of in_ns.Values (entries_of n of name).values b e)
  where
    go : IsItem in_ns.Values (entries_of n of name).values b → (d : ModuleDefId) × (b.def ≡ in_ns.Values d)
    go (item i is same) = (i.def, ap (λ (x : Bound). x.def) same)

macros_at : (n : ScopesValue) (of : Target) (name : List ℕ) (b : Bound) → bound_of n of (Macros name) ≡ Some b → (d : MacroId) × (b.def ≡ in_ns.Macros d)
macros_at n of name b e = go (item_of in_ns.Macros (entries_of n of name).macros b e)
  where
    go : IsItem in_ns.Macros (entries_of n of name).macros b → (d : MacroId) × (b.def ≡ in_ns.Macros d)
    go (item i is same) = (i.def, ap (λ (x : Bound). x.def) same)

trait_at : (n : ScopesValue) (of : Target) (id : TraitId) (b : Bound) → bound_of n of (Unnamed id) ≡ Some b → in_ns.Types (definitions.TraitId id) ≡ b.def
trait_at n of id b e = trait_def id (traits_of n of id) b e

-- ---- the writes

module _ (n : ScopesValue) (at : ℕ) (m : ModuleValue) (there : module_at n.map at ≡ Some m) (b : Bound) (vis : Visibility) where
  -- what a write of a trait leaves
  trait_binds : (id : TraitId) → in_ns.Types (definitions.TraitId id) ≡ b.def
      → Binds (slot_at at (Unnamed id)) (with_vis b vis) (view_of n) (view_of (record n { map = with_scope n.map at (with_trait id vis None) }))
  trait_binds id is =
      binds n at (Unnamed id) (with_trait id vis None) n.globs (keeps-trait id vis None) m there (with_vis b vis)
      (trait_here id vis None m.scope ∙ ap (λ (d : ItemInNs). Some (record { def = d; vis = vis })) is)

  module _ (by : GlobId) where
    copy_type : (name : List ℕ) (d : ModuleDefId) → b.def ≡ in_ns.Types d → item_at m.scope.types name ≡ None
        → Binds (slot_at at (Types name)) (with_vis b vis) (view_of n) (view_of (copied_to n at (Types name) vis by b))
    copy_type name d is vacant =
        subst (λ (def : ItemInNs). Binds (slot_at at (Types name)) (record { def = def; vis = vis }) (view_of n)
        (view_of (copied_to n at (Types name) vis by (record { def = def; vis = b.vis })))) (sym is)
        (binds n at (Types name) (pushed_def n.globs (place_at n.map.id at name) by vis (in_ns.Types d))
        (copied_to n at (Types name) vis by (record { def = in_ns.Types d; vis = b.vis })).globs
        (keeps-pushed_type n.globs (place_at n.map.id at name) by vis d) m there (record { def = in_ns.Types d; vis = vis })
        (pushed_type_here n.globs (place_at n.map.id at name) by vis d m.scope vacant))

    copy_value : (name : List ℕ) (d : ModuleDefId) → b.def ≡ in_ns.Values d → item_at m.scope.values name ≡ None
        → Binds (slot_at at (Values name)) (with_vis b vis) (view_of n) (view_of (copied_to n at (Values name) vis by b))
    copy_value name d is vacant =
        subst (λ (def : ItemInNs). Binds (slot_at at (Values name)) (record { def = def; vis = vis }) (view_of n)
        (view_of (copied_to n at (Values name) vis by (record { def = def; vis = b.vis })))) (sym is)
        (binds n at (Values name) (pushed_def n.globs (place_at n.map.id at name) by vis (in_ns.Values d))
        (copied_to n at (Values name) vis by (record { def = in_ns.Values d; vis = b.vis })).globs
        (keeps-pushed_value n.globs (place_at n.map.id at name) by vis d) m there (record { def = in_ns.Values d; vis = vis })
        (pushed_value_here n.globs (place_at n.map.id at name) by vis d m.scope vacant))

    copy_macro : (name : List ℕ) (d : MacroId) → b.def ≡ in_ns.Macros d → item_at m.scope.macros name ≡ None
        → Binds (slot_at at (Macros name)) (with_vis b vis) (view_of n) (view_of (copied_to n at (Macros name) vis by b))
    copy_macro name d is vacant =
        subst (λ (def : ItemInNs). Binds (slot_at at (Macros name)) (record { def = def; vis = vis }) (view_of n)
        (view_of (copied_to n at (Macros name) vis by (record { def = def; vis = b.vis })))) (sym is)
        (binds n at (Macros name) (pushed_def n.globs (place_at n.map.id at name) by vis (in_ns.Macros d))
        (copied_to n at (Macros name) vis by (record { def = in_ns.Macros d; vis = b.vis })).globs
        (keeps-pushed_macro n.globs (place_at n.map.id at name) by vis d) m there (record { def = in_ns.Macros d; vis = vis })
        (pushed_macro_here n.globs (place_at n.map.id at name) by vis d m.scope vacant))

    copy_binds : (key : Key) (of : Target) → bound_of n (targets.Own at) key ≡ None → bound_of n of key ≡ Some b
        → Binds (slot_at at key) (with_vis b vis) (view_of n) (view_of (copied_to n at key vis by b))
    copy_binds (Types name) of vacant is =
        let found = types_at n of name b is in
        copy_type name found.0 found.1 (vacant_of in_ns.Types (item_at m.scope.types name) (sym (ap (bound_inside (Types name)) there) ∙ vacant))
    copy_binds (Values name) of vacant is =
        let found = values_at n of name b is in
        copy_value name found.0 found.1 (vacant_of in_ns.Values (item_at m.scope.values name) (sym (ap (bound_inside (Values name)) there) ∙ vacant))
    copy_binds (Macros name) of vacant is =
        let found = macros_at n of name b is in
        copy_macro name found.0 found.1 (vacant_of in_ns.Macros (item_at m.scope.macros name) (sym (ap (bound_inside (Macros name)) there) ∙ vacant))
    copy_binds (Unnamed id) of vacant is = trait_binds id (trait_at n of id b is)

  follow_type : (name : List ℕ) (d : ModuleDefId) (i : Item ModuleDefId ImportOrExternCrate) → b.def ≡ in_ns.Types d → item_at m.scope.types name ≡ Some i
      → Binds (slot_at at (Types name)) (with_vis b vis) (view_of n) (view_of (followed_to n at (Types name) vis b))
  follow_type name d i is had =
      subst (λ (def : ItemInNs). Binds (slot_at at (Types name)) (record { def = def; vis = vis }) (view_of n) (view_of (redefined_at n at name def vis)))
      (sym is)
      (binds n at (Types name) (with_type name d vis) n.globs (keeps-redefined_type name d vis) m there (record { def = in_ns.Types d; vis = vis })
      (redefined_type_here name d vis m.scope i had))

  follow_value : (name : List ℕ) (d : ModuleDefId) (i : Item ModuleDefId ImportOrGlob) → b.def ≡ in_ns.Values d → item_at m.scope.values name ≡ Some i
      → Binds (slot_at at (Values name)) (with_vis b vis) (view_of n) (view_of (followed_to n at (Values name) vis b))
  follow_value name d i is had =
      subst (λ (def : ItemInNs). Binds (slot_at at (Values name)) (record { def = def; vis = vis }) (view_of n) (view_of (redefined_at n at name def vis)))
      (sym is)
      (binds n at (Values name) (with_value name d vis) n.globs (keeps-redefined_value name d vis) m there (record { def = in_ns.Values d; vis = vis })
      (redefined_value_here name d vis m.scope i had))

  follow_macro : (name : List ℕ) (d : MacroId) (i : Item MacroId ImportOrExternCrate) → b.def ≡ in_ns.Macros d → item_at m.scope.macros name ≡ Some i
      → Binds (slot_at at (Macros name)) (with_vis b vis) (view_of n) (view_of (followed_to n at (Macros name) vis b))
  follow_macro name d i is had =
      subst (λ (def : ItemInNs). Binds (slot_at at (Macros name)) (record { def = def; vis = vis }) (view_of n) (view_of (redefined_at n at name def vis)))
      (sym is)
      (binds n at (Macros name) (with_macro name d vis) n.globs (keeps-redefined_macro name d vis) m there (record { def = in_ns.Macros d; vis = vis })
      (redefined_macro_here name d vis m.scope i had))

  follow_binds : (key : Key) (of : Target) (c : Bound) → bound_of n (targets.Own at) key ≡ Some c → bound_of n of key ≡ Some b
      → Binds (slot_at at key) (with_vis b vis) (view_of n) (view_of (followed_to n at key vis b))
  follow_binds (Types name) of c had is =
      let found = types_at n of name b is in
      go found.0 found.1 (item_of in_ns.Types (item_at m.scope.types name) c (sym (ap (bound_inside (Types name)) there) ∙ had))
    where
      go : (d : ModuleDefId) → b.def ≡ in_ns.Types d → IsItem in_ns.Types (item_at m.scope.types name) c
          → Binds (slot_at at (Types name)) (with_vis b vis) (view_of n) (view_of (followed_to n at (Types name) vis b))
      go d same (item i had_there was) = follow_type name d i same had_there
  follow_binds (Values name) of c had is =
      let found = values_at n of name b is in
      go found.0 found.1 (item_of in_ns.Values (item_at m.scope.values name) c (sym (ap (bound_inside (Values name)) there) ∙ had))
    where
      go : (d : ModuleDefId) → b.def ≡ in_ns.Values d → IsItem in_ns.Values (item_at m.scope.values name) c
          → Binds (slot_at at (Values name)) (with_vis b vis) (view_of n) (view_of (followed_to n at (Values name) vis b))
      go d same (item i had_there was) = follow_value name d i same had_there
  follow_binds (Macros name) of c had is =
      let found = macros_at n of name b is in
      go found.0 found.1 (item_of in_ns.Macros (item_at m.scope.macros name) c (sym (ap (bound_inside (Macros name)) there) ∙ had))
    where
      go : (d : MacroId) → b.def ≡ in_ns.Macros d → IsItem in_ns.Macros (item_at m.scope.macros name) c
          → Binds (slot_at at (Macros name)) (with_vis b vis) (view_of n) (view_of (followed_to n at (Macros name) vis b))
      go d same (item i had_there was) = follow_macro name d i same had_there
  follow_binds (Unnamed id) of c had is = trait_binds id (trait_at n of id b is)

raise_binds : (n : ScopesValue) (at : ℕ) (key : Key) (c : Bound) (vis : Visibility) → bound_of n (targets.Own at) key ≡ Some c
    → Binds (slot_at at key) (with_vis c vis) (view_of n) (view_of (record n { map = with_scope n.map at (revised key vis) }))
raise_binds n at key c vis had =
    let inside : bound_inside key (module_at n.map at) ≡ Some c = sym (inside_own n at key) ∙ had in
    let there = there_bound (module_at n.map at) key c inside in
    binds n at key (revised key vis) n.globs (keeps-revised key vis) there.0 there.1 (with_vis c vis)
    (revised_here key vis there.0.scope c (sym (inside_scope there.0 key) ∙ sym (ap (bound_inside key) there.1) ∙ inside))

pub is_name_table : IsNameTable scope_table
is_name_table = record {
  copies = λ n s of b vis by has vacant is.
      let there = there_below n.map.modules s.at (ltb-true s.at (length n.map.modules) has) in
      subst (λ (o : Option Bound). Binds s (with_vis b vis) (view_of n) (view_of (copied_where n s vis by o))) (sym is)
      (copy_binds n s.at there.0 there.1 b vis by s.key of vacant is);
  follows = λ n s of b c vis had is.
      let there = there_bound (module_at n.map s.at) s.key c (sym (inside_own n s.at s.key) ∙ had) in
      subst (λ (o : Option Bound). Binds s (with_vis b vis) (view_of n) (view_of (followed_where n s vis o))) (sym is)
      (follow_binds n s.at there.0 there.1 b vis s.key of c had is);
  raises = λ n s c vis had. raise_binds n s.at s.key c vis had;
}
