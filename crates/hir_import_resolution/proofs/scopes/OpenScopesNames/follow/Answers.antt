-- A name takes the definition that the target has there.
use Rattle.std.proofs.Common.{◌≡◌, ◌∙◌, ap, sym, ℕ, List, Some, ◌⊎◌, inl, inr}
use Rattle.hir_nameres.specs.HirPerNs.declared.visibility.Visibility.{Visibility}
use Rattle.hir_def_map_rules.specs.State.{Map, with_scope}
use Rattle.hir_glob_imports.specs.declared.edge.Bound.{Bound}
use Rattle.hir_glob_imports.specs.declared.edge.Key.{Key}
use Rattle.hir_glob_imports.specs.declared.edge.Slot.{Slot}
use Rattle.hir_glob_imports.specs.declared.edge.Target.{Target}
use Rattle.hir_glob_imports.specs.declared.edge.Key.TheVariants.{Macros, Types, Values}
use Rattle.hir_import_rules.specs.Names.{bound_of, followed, followed_to, followed_where, redefined, redefined_at}
use Rattle.hir_import_resolution.specs.Scopes.{value_of, with_value}
use Rattle.hir_import_resolution.specs.Types.{OpenScopes}
use Rattle.hir_import_resolution.proofs.scopes.OpenScopesNames.follow.Goals as goal

module _ (o : OpenScopes) (s : Slot) (of : Target) (vis : Visibility) (b : Bound) (name : List ℕ) (map : Map) where
  named : (s.key ≡ Types name) ⊎ ((s.key ≡ Values name) ⊎ (s.key ≡ Macros name)) → followed_to (value_of o) s.at s.key vis b ≡ redefined_at (value_of o) s.at
      name b.def vis
  named (inl is) = ap (λ (key : Key). followed_to (value_of o) s.at key vis b) is
  named (inr (inl is)) = ap (λ (key : Key). followed_to (value_of o) s.at key vis b) is
  named (inr (inr is)) = ap (λ (key : Key). followed_to (value_of o) s.at key vis b) is

  follows_named : bound_of (value_of o) of s.key ≡ Some b → (s.key ≡ Types name) ⊎ ((s.key ≡ Values name) ⊎ (s.key ≡ Macros name))
      → map ≡ with_scope o.map s.at (redefined name b.def vis) → record { world = o.world; map = map; globs = o.globs }
      ≡ with_value o (followed (value_of o) s of vis)
  follows_named found is changed =
      ap (λ (m : Map). record { world = o.world; map = m; globs = o.globs }) changed
      ∙ sym (ap (with_value o) (ap (followed_where (value_of o) s vis) found ∙ named is))

pub returns-in-Types : goal.returns-in-Types
returns-in-Types c = record {
  ok =
      follows_named c.args.self.now c.args.slot.now c.args._of c.args.vis c.args.shown c.in-Types.name c.redefine_at.new.map
      c.requires c.in-Types.is c.redefine_at.ensures.value;
}
