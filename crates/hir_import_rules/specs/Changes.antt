-- The changes that steps of imports are made of.
use Rattle.std.specs.Prelude.{ℕ, Bool, List, [], ◌∷◌, Option, None, Some, is_some, option_map, unwrap_or, cond}
use Rattle.hir_nameres.specs.HirIds.declared.ids.TraitId.{TraitId}
use Rattle.hir_nameres.specs.HirPerNs.declared.imports.ImportId.{ImportId}
use Rattle.hir_nameres.specs.HirPerNs.declared.imports.ImportOrExternCrate.{ImportOrExternCrate}
use Rattle.hir_nameres.specs.HirPerNs.declared.per_ns.PerNs.{PerNs}
use Rattle.hir_nameres.specs.HirPerNs.declared.visibility.Visibility.{Visibility}
use Rattle.hir_nameres.specs.HirDefMapRules.State.{Map, globs_after, module_at, pushed, with_scope}
use Rattle.hir_nameres.specs.HirDefMapRules.Overlay.{Maps}
use Rattle.hir_glob_imports.specs.Keys.{slot_at}
use Rattle.hir_glob_imports.specs.Rules.{Act, BroughtBy, with_brought, act as glob_act}
use Rattle.hir_glob_imports.specs.declared.edge.Edge.{Edge}
use Rattle.hir_glob_imports.specs.declared.edge.Key.{Key}
use Rattle.hir_glob_imports.specs.declared.edge.Key.TheVariants.{Types, Values, Macros, Unnamed}
use Rattle.hir_import_rules.specs.declared.directive.ImportSource.{ImportSource}
use Rattle.hir_import_rules.specs.Directives.{TakenValue, way_of}
use Rattle.hir_import_rules.specs.Names.{scope_table, trait_vis, with_trait}
use Rattle.hir_import_rules.specs.State.{ImportState, glob_state, with_glob_state, with_taken}
use Rattle.hir_import_rules.specs.Visibilities.{greater_in}

-- one change
pub data Change : Type 0 where
  -- items are bound in a module, by an import or by a declaration, under the name that there is
  pushes : (home : ℕ) → Option (List ℕ) → PerNs → Option ImportSource → Change
  -- a module keeps a trait without a name, if there is one, for those who may see it
  keeps_trait : (finished : Maps) → (home : ℕ) → Option TraitId → Visibility → Option ImportId → Change
  -- this is what the takings of an import have reached
  takes : (i : ℕ) → TakenValue → Change
  -- these are the globs that were recorded
  records : List Edge → Change
  -- a glob reads and writes names
  along : (finished : Maps) → Act → Change

-- what pushes: an import, or a declaration
abbrev pub pushing : Option ImportSource → Option ImportOrExternCrate
pushing source = option_map way_of source

-- no glob has brought what stands in a slot any more, where something is bound there explicitly
abbrev pub forgotten_in : ℕ → Key → Bool → BroughtBy → BroughtBy
forgotten_in home key binds brought = cond binds (with_brought brought (slot_at home key) None) brought

abbrev pub forgotten : ℕ → List ℕ → PerNs → BroughtBy → BroughtBy
forgotten home name items brought =
    forgotten_in home (Macros name) (is_some items.macros)
    (forgotten_in home (Values name) (is_some items.values) (forgotten_in home (Types name) (is_some items.types) brought))

-- the state once items were pushed to a name of a module
abbrev pub bound_in : ImportState → ℕ → List ℕ → PerNs → Option ImportSource → ImportState
bound_in s home name items source = record s {
  map = pushed s.map s.globs home name items (pushing source);
  globs = globs_after s.map s.globs home name items (pushing source);
  brought = forgotten home name items s.brought;
}

-- the same under a name that there may be
abbrev pub bound_as : ImportState → ℕ → Option (List ℕ) → PerNs → Option ImportSource → ImportState
bound_as s home None items source = s
bound_as s home (Some name) items source = bound_in s home name items source

-- of two visibilities of a trait without a name the greater, and the older where they are unrelated
abbrev pub kept_vis : Maps → Map → Visibility → Option Visibility → Visibility
kept_vis finished m vis None = vis
kept_vis finished m vis (Some old) = unwrap_or (greater_in finished m old vis) old

-- the state once a module keeps a trait without a name, if there is one; no glob is said to have brought it
abbrev pub with_kept : Maps → ImportState → ℕ → Option TraitId → Visibility → Option ImportId → ImportState
with_kept finished s home None vis import = s
with_kept finished s home (Some id) vis import = record s {
  map = with_scope s.map home (with_trait id (kept_vis finished s.map vis (trait_vis (module_at s.map home) id)) import);
  brought = with_brought s.brought (slot_at home (Unnamed id)) None;
}

-- what a change makes of a state
abbrev pub act : ImportState → Change → ImportState
act s (pushes home name items source) = bound_as s home name items source
act s (keeps_trait finished home id vis import) = with_kept finished s home id vis import
act s (takes i t) = with_taken s i t
act s (records edges) = record s { edges = edges }
act s (along finished a) = with_glob_state s (glob_act scope_table (glob_state finished s) a)

-- changes one after another
abbrev pub perform : ImportState → List Change → ImportState
perform s [] = s
perform s (c ∷ cs) = perform (act s c) cs
