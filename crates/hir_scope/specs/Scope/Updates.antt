-- What do updates and removals make of a scope, and what may other crates see of a procedural-macro crate?
pub use Rattle.hir_scope_table.specs.Table.{with_visibility, with_definition, is_definition, without_definition}
use Rattle.std.specs.Prelude.{ℕ, Bool, false, List, Option, None, Some, cond, map}
use Rattle.std.specs.Ordering.{nat_cmp}
use Rattle.std.specs.Cmp.Lexicographic.{slice_cmp}
use Rattle.std.specs.BTreeMap.{is_at}
use Rattle.std.specs.Map.{lookup, set_value, remove_entry}
use Rattle.indexmap.specs.IndexMap.{insert_entry}
use Rattle.hir_ids.specs.declared.ids.Crate.{Crate}
use Rattle.hir_ids.specs.declared.macro_kind.MacroId.{MacroId}
use Rattle.hir_ids.specs.declared.ids.ModuleDefId.{ModuleDefId}
use Rattle.hir_ids.specs.declared.ids.TraitId.{TraitId}
use Rattle.hir_ids.specs.contracts.ids.ModuleDefIdPartialEq.TheImpl as module_def
use Rattle.hir_ids.specs.contracts.ids.TraitIdPartialEq.TheImpl as trait_id
use Rattle.hir_per_ns.specs.declared.imports.ImportId.{ImportId}
use Rattle.hir_per_ns.specs.declared.imports.ImportOrGlob.{ImportOrGlob}
use Rattle.hir_per_ns.specs.PerNs.{Item}
use Rattle.hir_per_ns.specs.declared.visibility.Visibility.{Visibility}
use Rattle.hir_scope.specs.Entries.{item_at}
use Rattle.hir_scope.specs.Bindings.{with_item_visibility, with_item_definition}
use Rattle.hir_ids.specs.declared.macro_kind.MacroId.TheVariants as macros
use Rattle.hir_per_ns.specs.declared.imports.ImportOrExternCrate.{ImportOrExternCrate}
use Rattle.hir_per_ns.specs.declared.visibility.Visibility.TheVariants.{PubCrate}
use Rattle.hir_scope.specs.Scope.{ScopeValue}

-- the import of an unnamed trait: that of the first push stays
abbrev pub unnamed_import : Option (Item (Unit {0}) ImportId) → Option ImportId → Option ImportId
unnamed_import None import = import
unnamed_import (Some bound) import = bound.import

-- the unnamed traits with one more; one that is there takes the visibility, and keeps its import
abbrev pub with_unnamed_trait : List (TraitId × Item (Unit {0}) ImportId) → TraitId → Visibility → Option ImportId → List (TraitId × Item (Unit {0}) ImportId)
with_unnamed_trait traits tr vis import =
    insert_entry trait_id.ghosts.eq traits tr (record { def = tt; vis = vis; import = unnamed_import (lookup (trait_id.ghosts.eq tr) traits) import })

-- an item that the crate alone may see
abbrev pub censored_item : {D I : Type 0} → Crate → Item D I → Item D I
censored_item krate item = record item { vis = PubCrate krate }

-- items of which the crate alone may see each
abbrev pub censored : {K D I : Type 0} → Crate → List (K × Item D I) → List (K × Item D I)
censored krate items = map (λ e. (e.0, censored_item krate e.1)) items

-- who may see a macro: of a procedural macro that is bound without import who might before, else the crate alone
abbrev pub censored_vis : Crate → MacroId → Option ImportOrExternCrate → Visibility → Visibility
censored_vis krate (macros.ProcMacroId id) None vis = vis
censored_vis krate (macros.ProcMacroId id) (Some import) vis = PubCrate krate
censored_vis krate (macros.Macro2Id id) import vis = PubCrate krate
censored_vis krate (macros.MacroRulesId id) import vis = PubCrate krate

abbrev pub censored_macro : Crate → Item MacroId ImportOrExternCrate → Item MacroId ImportOrExternCrate
censored_macro krate item = record item { vis = censored_vis krate item.def item.import item.vis }

abbrev pub censored_macros : {K : Type 0} → Crate → List (K × Item MacroId ImportOrExternCrate) → List (K × Item MacroId ImportOrExternCrate)
censored_macros krate items = map (λ e. (e.0, censored_macro krate e.1)) items

-- a scope of which other crates may see the procedural macros that it binds itself, and nothing else
abbrev pub censored_scope : Crate → ScopeValue → ScopeValue
censored_scope krate scope = record scope {
  types = censored krate scope.types;
  values = censored krate scope.values;
  macros = censored_macros krate scope.macros;
  unnamed_traits = censored krate scope.unnamed_traits;
}
