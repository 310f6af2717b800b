-- What changes of imports leave: of the map, one scope is another, and what else they leave alone.
use Rattle.std.proofs.Common.{◌≡◌, ℕ, List, Option, None, Some, refl}
use Rattle.hir_nameres.specs.HirIds.declared.ids.ModuleId.{ModuleId}
use Rattle.hir_nameres.specs.HirIds.declared.ids.TraitId.{TraitId}
use Rattle.hir_nameres.specs.HirScope.Globs.{GlobNames}
use Rattle.hir_nameres.specs.HirScope.Scope.{ScopeValue}
use Rattle.hir_nameres.specs.HirScope.Scope.Push.{pushed_scope}
use Rattle.hir_nameres.specs.HirPerNs.declared.imports.GlobId.{GlobId}
use Rattle.hir_nameres.specs.HirPerNs.declared.imports.ImportId.{ImportId}
use Rattle.hir_nameres.specs.HirPerNs.declared.imports.ImportOrExternCrate.{ImportOrExternCrate}
use Rattle.hir_nameres.specs.HirPerNs.declared.item_in_ns.ItemInNs.{ItemInNs}
use Rattle.hir_nameres.specs.HirPerNs.declared.per_ns.PerNs.{PerNs}
use Rattle.hir_nameres.specs.HirPerNs.declared.visibility.Visibility.{Visibility}
use Rattle.hir_nameres.specs.HirPerNs.declared.imports.ImportOrExternCrate.TheVariants as ways
use Rattle.hir_nameres.specs.HirDefMapRules.State.{Map, module_at, numbered, with_scope}
use Rattle.hir_nameres.specs.HirDefMapRules.Overlay.{Maps}
use Rattle.hir_glob_imports.specs.Rules.{Act, copies, brings, follows, raises}
use Rattle.hir_glob_imports.specs.declared.edge.Bound.{Bound}
use Rattle.hir_glob_imports.specs.declared.edge.Key.{Key}
use Rattle.hir_glob_imports.specs.declared.edge.Slot.{Slot}
use Rattle.hir_glob_imports.specs.declared.edge.Key.TheVariants.{Types, Values, Macros, Unnamed}
use Rattle.hir_import_rules.specs.Changes.{Change as ImportChange, act as act_on_imports, along, kept_vis, keeps_trait, pushes, pushing, records, takes}
use Rattle.hir_import_rules.specs.Names.{bound_of, copied_where, followed_where, items_by, redefined, revised, trait_vis, with_trait}
use Rattle.hir_import_rules.specs.State.{ImportState, scopes_of}

-- a change of one scope
pub data Edit : Type 0 where
  -- items are pushed to a name
  pushes_to : (globs : GlobNames) (name : List ℕ) (items : PerNs) (import : Option ImportOrExternCrate) → Edit
  -- a trait is kept without a name
  keeps_unnamed : (id : TraitId) (vis : Visibility) (import : Option ImportId) → Edit
  -- a name stands for another definition
  redefines : (name : List ℕ) (def : ItemInNs) (vis : Visibility) → Edit
  -- others may see what stands at a key
  revises : (key : Key) (vis : Visibility) → Edit

abbrev pub edit : ModuleId → Edit → ScopeValue → ScopeValue
edit m (pushes_to globs name items import) = pushed_scope globs (m, name) items import
edit m (keeps_unnamed id vis import) = with_trait id vis import
edit m (redefines name def vis) = redefined name def vis
edit m (revises key vis) = revised key vis

-- the map with the scope of a module changed, if one is
abbrev pub edited : Map → Option (ℕ × Edit) → Map
edited m None = m
edited m (Some e) = with_scope m e.0 (edit (numbered m.id e.0) e.1)

-- ---- which edit a change makes

module _ (s : ImportState) where
  -- what a target has is copied to a slot by a glob
  abbrev pub copy_at : Key → Visibility → GlobId → Bound → Edit
  copy_at (Types name) vis by b = pushes_to s.globs name (items_by b.def vis) (Some (ways.Glob by))
  copy_at (Values name) vis by b = pushes_to s.globs name (items_by b.def vis) (Some (ways.Glob by))
  copy_at (Macros name) vis by b = pushes_to s.globs name (items_by b.def vis) (Some (ways.Glob by))
  copy_at (Unnamed id) vis by b = keeps_unnamed id vis None

  abbrev pub copy_where : Slot → Visibility → GlobId → Option Bound → Option (ℕ × Edit)
  copy_where slot vis by None = None
  copy_where slot vis by (Some b) = Some (slot.at, copy_at slot.key vis by b)

  -- a slot takes the definition that a target has
  abbrev pub follow_at : Key → Visibility → Bound → Edit
  follow_at (Types name) vis b = redefines name b.def vis
  follow_at (Values name) vis b = redefines name b.def vis
  follow_at (Macros name) vis b = redefines name b.def vis
  follow_at (Unnamed id) vis b = keeps_unnamed id vis None

  abbrev pub follow_where : Slot → Visibility → Option Bound → Option (ℕ × Edit)
  follow_where slot vis None = None
  follow_where slot vis (Some b) = Some (slot.at, follow_at slot.key vis b)

  abbrev pub edit_along : Maps → Act → Option (ℕ × Edit)
  edit_along finished (copies slot of vis by) = copy_where slot vis by (bound_of (scopes_of finished s) of slot.key)
  edit_along finished (brings slot by) = None
  edit_along finished (follows slot of vis) = follow_where slot vis (bound_of (scopes_of finished s) of slot.key)
  edit_along finished (raises slot vis) = Some (slot.at, revises slot.key vis)

  abbrev pub edit_of : ImportChange → Option (ℕ × Edit)
  edit_of (pushes home None items source) = None
  edit_of (pushes home (Some name) items source) = Some (home, pushes_to s.globs name items (pushing source))
  edit_of (keeps_trait finished home None vis import) = None
  edit_of (keeps_trait finished home (Some id) vis import) =
      Some (home, keeps_unnamed id (kept_vis finished s.map vis (trait_vis (module_at s.map home) id)) import)
  edit_of (takes i t) = None
  edit_of (records edges) = None
  edit_of (along finished a) = edit_along finished a

-- ---- that is what it makes of the map

module _ (s : ImportState) where
  copied_map : (finished : Maps) (slot : Slot) (vis : Visibility) (by : GlobId) (o : Option Bound) → (copied_where (scopes_of finished s) slot vis by o).map
      ≡ edited s.map (copy_where s slot vis by o)
  copied_map finished slot vis by None = refl
  copied_map finished slot vis by (Some b) = go slot.key
    where
      go : (key : Key) → (copied_where (scopes_of finished s) (record { at = slot.at; key = key }) vis by (Some b)).map
          ≡ edited s.map (copy_where s (record { at = slot.at; key = key }) vis by (Some b))
      go (Types name) = refl
      go other = refl

  followed_map : (finished : Maps) (slot : Slot) (vis : Visibility) (o : Option Bound) → (followed_where (scopes_of finished s) slot vis o).map
      ≡ edited s.map (follow_where s slot vis o)
  followed_map finished slot vis None = refl
  followed_map finished slot vis (Some b) = go slot.key
    where
      go : (key : Key) → (followed_where (scopes_of finished s) (record { at = slot.at; key = key }) vis (Some b)).map
          ≡ edited s.map (follow_where s (record { at = slot.at; key = key }) vis (Some b))
      go (Types name) = refl
      go other = refl

  pub map_after : (c : ImportChange) → (act_on_imports s c).map ≡ edited s.map (edit_of s c)
  map_after (pushes home None items source) = refl
  map_after (pushes home (Some name) items source) = refl
  map_after (keeps_trait finished home None vis import) = refl
  map_after (keeps_trait finished home (Some id) vis import) = refl
  map_after (takes i t) = refl
  map_after (records edges) = refl
  map_after (along finished (copies slot of vis by)) = copied_map finished slot vis by (bound_of (scopes_of finished s) of slot.key)
  map_after (along finished (brings slot by)) = refl
  map_after (along finished (follows slot of vis)) = followed_map finished slot vis (bound_of (scopes_of finished s) of slot.key)
  map_after (along finished (raises slot vis)) = refl

  -- the map's id and the crate's data stay
  pub id_edited : (o : Option (ℕ × Edit)) → (edited s.map o).id ≡ s.map.id
  id_edited None = refl
  id_edited (Some e) = refl

  pub crate_data_edited : (o : Option (ℕ × Edit)) → (edited s.map o).crate_data ≡ s.map.crate_data
  crate_data_edited None = refl
  crate_data_edited (Some e) = refl

  -- ---- what it leaves alone

  pub local_after : (c : ImportChange) → (act_on_imports s c).local ≡ s.local
  local_after (pushes home None items source) = refl
  local_after (pushes home (Some name) items source) = refl
  local_after (keeps_trait finished home None vis import) = refl
  local_after (keeps_trait finished home (Some id) vis import) = refl
  local_after (takes i t) = refl
  local_after (records edges) = refl
  local_after (along finished a) = refl

  pub imports_after : (c : ImportChange) → (act_on_imports s c).imports ≡ s.imports
  imports_after (pushes home None items source) = refl
  imports_after (pushes home (Some name) items source) = refl
  imports_after (keeps_trait finished home None vis import) = refl
  imports_after (keeps_trait finished home (Some id) vis import) = refl
  imports_after (takes i t) = refl
  imports_after (records edges) = refl
  imports_after (along finished a) = refl

  pub count_after : (c : ImportChange) → (act_on_imports s c).count ≡ s.count
  count_after (pushes home None items source) = refl
  count_after (pushes home (Some name) items source) = refl
  count_after (keeps_trait finished home None vis import) = refl
  count_after (keeps_trait finished home (Some id) vis import) = refl
  count_after (takes i t) = refl
  count_after (records edges) = refl
  count_after (along finished (copies slot of vis by)) = refl
  count_after (along finished (brings slot by)) = refl
  count_after (along finished (follows slot of vis)) = refl
  count_after (along finished (raises slot vis)) = refl
