-- What stands in a resolver once an import has bound something.
use Rattle.std.proofs.Common.{◌≡◌, ◌∙◌, ap, sym, subst, ℕ, List, Option, None, Some, Result, Ok, Err, OnOk}
use Rattle.hir_nameres.specs.HirIds.declared.ids.TraitId.{TraitId}
use Rattle.hir_nameres.specs.HirPerNs.declared.imports.ImportId.{ImportId}
use Rattle.hir_nameres.specs.HirPerNs.declared.imports.ImportOrExternCrate.{ImportOrExternCrate}
use Rattle.hir_nameres.specs.HirPerNs.declared.per_ns.PerNs.{PerNs}
use Rattle.hir_nameres.specs.HirPerNs.declared.visibility.Visibility.{Visibility}
use Rattle.hir_def_map_rules.specs.State.{globs_after, module_at, pushed, with_scope}
use Rattle.hir_glob_imports.specs.Keys.{slot_at}
use Rattle.hir_glob_imports.specs.Rules.{with_brought}
use Rattle.hir_glob_imports.specs.Waves.{GlobsValue, IsExplicit, brought_of}
use Rattle.hir_glob_imports.specs.declared.edge.Key.TheVariants.{Unnamed}
use Rattle.hir_import_rules.specs.Changes.{bound_in, forgotten, kept_vis, with_kept}
use Rattle.hir_import_rules.specs.Directives.{way_of}
use Rattle.hir_import_resolution.specs.Inner.State.{finished_by, state_by}
use Rattle.hir_import_growth.specs.Binding.{IsBound}
use Rattle.hir_import_rules.specs.Names.{trait_vis, view_of, with_trait}
use Rattle.hir_import_resolution.specs.Scopes.{value_of}
use Rattle.hir_import_resolution.specs.Types.{OpenScopes, Resolver}
use Rattle.hir_import_rules.specs.declared.directive.ImportSource.{ImportSource}
use Rattle.hir_import_growth.proofs.Binding.{keep_binds, push_binds}

-- two facts of the state after a call that may fail
pub on_both : {T E : Type 0} (r : Result T E) (P Q R : Type 0) → (P → Q → R) → OnOk r P → OnOk r Q → OnOk r R
on_both (Ok x) P Q R f p q = f p q
on_both (Err e) P Q R f p q = p

-- ---- a push

-- the scopes once items are pushed
abbrev pub pushed_to : OpenScopes → ℕ → List ℕ → PerNs → ImportOrExternCrate → OpenScopes
pushed_to s home name items way =
    record s { map = pushed s.map s.globs home name items (Some way); globs = globs_after s.map s.globs home name items (Some way) }

module _ (r : Resolver) (o : OpenScopes) (g : GlobsValue) (home : ℕ) (name n1 : List ℕ) (items : PerNs) (source : ImportSource) (way : ImportOrExternCrate)
    (named : n1 ≡ name) (by : way ≡ way_of source) (is : o ≡ pushed_to r.scopes home n1 items way) where
  pub pushed_is : o ≡ pushed_to r.scopes home name items (way_of source)
  pushed_is = is ∙ (λ i. pushed_to r.scopes home (named i) items (by i))

  pub pushed_state : g.edges ≡ r.globs.edges → brought_of g ≡ forgotten home name items (brought_of r.globs)
      → state_by (record r { scopes = o; globs = g }) ≡ bound_in (state_by r) home name items (Some source)
  pushed_state edges brought = λ i. record {
    map = (ap (λ (s : OpenScopes). s.map) pushed_is) i;
    local = r.local;
    globs = (ap (λ (s : OpenScopes). s.globs) pushed_is) i;
    imports = r.imports.items;
    taken = r.taken.items;
    edges = edges i;
    brought = brought i;
    count = r.count;
  }

  pub pushed_views : IsBound home name items (view_of (value_of r.scopes)) (view_of (value_of o))
  pushed_views = subst (λ (s : OpenScopes). IsBound home name items (view_of (value_of r.scopes)) (view_of (value_of s))) (sym pushed_is)
      (push_binds (value_of r.scopes) home name items (Some (way_of source)))

-- ---- a trait without a name

-- the scopes once a module keeps it
abbrev pub kept_to : OpenScopes → ℕ → TraitId → Visibility → Option ImportId → OpenScopes
kept_to s home id vis leaf = record s {
  map = with_scope s.map home (with_trait id (kept_vis (value_of s).finished s.map vis (trait_vis (module_at s.map home) id)) leaf);
}

module _ (r : Resolver) (o : OpenScopes) (g : GlobsValue) (home : ℕ) (kept : Option TraitId) (id : TraitId) (vis : Visibility) (leaf : Option ImportId)
    (is_kept : kept ≡ Some id) (is : o ≡ kept_to r.scopes home id vis leaf) where
  pub kept_state : g.edges ≡ r.globs.edges → brought_of g ≡ with_brought (brought_of r.globs) (slot_at home (Unnamed id)) None
      → state_by (record r { scopes = o; globs = g }) ≡ with_kept (finished_by r) (state_by r) home kept vis leaf
  kept_state edges brought = bound ∙ ap (λ (k : Option TraitId). with_kept (finished_by r) (state_by r) home k vis leaf) (sym is_kept)
    where
      bound : state_by (record r { scopes = o; globs = g }) ≡ with_kept (finished_by r) (state_by r) home (Some id) vis leaf
      bound = λ i. record {
        map = (ap (λ (s : OpenScopes). s.map) is) i;
        local = r.local;
        globs = (ap (λ (s : OpenScopes). s.globs) is) i;
        imports = r.imports.items;
        taken = r.taken.items;
        edges = edges i;
        brought = brought i;
        count = r.count;
      }

  pub kept_views : IsExplicit (slot_at home (Unnamed id)) (view_of (value_of r.scopes)) (view_of (value_of o))
  kept_views = subst (λ (s : OpenScopes). IsExplicit (slot_at home (Unnamed id)) (view_of (value_of r.scopes)) (view_of (value_of s))) (sym is)
      (keep_binds (value_of r.scopes) home id (kept_vis (value_of r.scopes).finished r.scopes.map vis (trait_vis (module_at r.scopes.map home) id)) leaf)
