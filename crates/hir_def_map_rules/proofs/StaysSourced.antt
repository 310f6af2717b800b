-- What is built of what a test of sources doesn't hold of is none of which it holds.
use Rattle.std.specs.Prelude.{◌≡◌, ℕ, ◌||◌, Bool, true, false, List, Option, None, Some, cond}
use Rattle.std.specs.List.{list_any}
use Rattle.std.specs.Ordering.{nat_cmp}
use Rattle.std.specs.Cmp.Lexicographic.{slice_cmp}
use Rattle.std.proofs.Common.{refl, subst}
use Rattle.hir_scope.specs.HirIds.contracts.ids.EnumIdOrd.TheImpl as enum_order
use Rattle.hir_scope.specs.HirIds.contracts.ids.MapIdPartialEq.TheImpl as map_id
use Rattle.hir_scope.specs.HirIds.contracts.ids.ModuleDefIdPartialEq.TheImpl as module_def
use Rattle.hir_scope.specs.HirIds.contracts.macro_kind.MacroIdPartialEq.TheImpl as makro
use Rattle.hir_scope.specs.HirIds.declared.ids.EnumId.{EnumId}
use Rattle.hir_scope.specs.HirIds.declared.macro_kind.MacroId.{MacroId}
use Rattle.hir_scope.specs.HirIds.declared.ids.ModuleDefId.{ModuleDefId}
use Rattle.hir_scope.specs.HirIds.declared.ids.ModuleId.{ModuleId}
use Rattle.hir_scope.specs.HirIds.declared.ids.UseId.{UseId}
use Rattle.hir_scope.specs.HirTextualScope.declared.textual_scope.TextualMacro.{TextualMacro}
use Rattle.hir_scope.specs.HirPerNs.contracts.imports.ImportOrExternCratePartialEq.TheImpl as item_import
use Rattle.hir_scope.specs.HirPerNs.contracts.imports.ImportOrGlobPartialEq.TheImpl as glob_import
use Rattle.hir_scope.specs.HirPerNs.declared.imports.ImportOrExternCrate.{ImportOrExternCrate}
use Rattle.hir_scope.specs.HirPerNs.declared.imports.ImportOrGlob.{ImportOrGlob}
use Rattle.hir_scope.specs.HirPerNs.declared.per_ns.PerNs.{PerNs}
use Rattle.hir_scope.specs.HirPerNs.declared.visibility.Visibility.{Visibility}
use Rattle.hir_scope.specs.HirPerNs.declared.imports.ImportOrExternCrate.TheVariants as import
use Rattle.hir_scope.specs.HirPerNs.PerNs.{Item, is_nothing, value_import}
use Rattle.hir_scope.specs.Globs.{GlobNames, Place, has_place}
use Rattle.hir_scope.specs.ImportRecords.{is_glob}
use Rattle.hir_scope.specs.Scope.{ScopeValue}
use Rattle.hir_scope.specs.Entries.{item_at}
use Rattle.hir_scope.specs.Bindings.{macro_candidate, written_items, taken, type_candidate, value_candidate, takes}
use Rattle.hir_scope.specs.Scope.Push.{written_scope, pushed_scope, taken_candidates, with_unresolved}
use Rattle.hir_def_map_rules.specs.Types.{Declaration, ModuleOrigin}
use Rattle.hir_def_map_rules.specs.declared.declaration.Declaration.TheVariants as declaration
use Rattle.hir_def_map_rules.specs.Declaration.{listed}
use Rattle.hir_def_map_rules.proofs.NoneOf.{neither, none_changed, none_inserted, none_more, none_with_entry, not_first, not_second}
use Rattle.hir_def_map_rules.specs.Sources.{SourceTest, HoldsOfNone, HoldsNowhere, HoldsNowhereIn, on_def, on_import, on_legacy_in, on_macro, on_macro_item}
use Rattle.hir_def_map_rules.specs.Sources.{on_macros_in, on_origin, on_some, on_type, on_types_in, on_value, on_value_def, on_value_import, on_values}
use Rattle.hir_def_map_rules.specs.Sources.{on_values_in, on_variant, on_visibility}
use Rattle.hir_def_map_rules.specs.State.{Map, ModuleValue, Variants, changed_at, new_id, new_module, place_at, pushed, with_child, with_enum, with_module}
use Rattle.hir_def_map_rules.specs.State.{with_module_scope, with_prelude, with_scope}
use Rattle.hir_def_map_rules.specs.Overlay.{Maps, Placed, overlay, placed_in}

-- an item by another import
by_import : (d v i j : Bool) → (d || (v || i)) ≡ false → j ≡ false → (d || (v || j)) ≡ false
by_import d v i j f g = neither d (v || j) (not_first d (v || i) f) (neither v j (not_first v i (not_second d (v || i) f)) g)

module _ (t : SourceTest) where
  -- ---- a change of one scope

  abbrev on_legacy : ScopeValue → Bool
  on_legacy scope = list_any (λ (x : TextualMacro). on_macro t x.makro) scope.legacy_macros

  -- it leaves a scope that binds nothing of which the test holds
  pub record KeepsScope (change : ScopeValue → ScopeValue) : Type 0 where
    pub types : (scope : ScopeValue) → on_values (on_type t) scope.types ≡ false → on_values (on_type t) (change scope).types ≡ false
    pub values : (scope : ScopeValue) → on_values (on_value t) scope.values ≡ false → on_values (on_value t) (change scope).values ≡ false
    pub macros : (scope : ScopeValue) → on_values (on_macro_item t) scope.macros ≡ false → on_values (on_macro_item t) (change scope).macros ≡ false
    pub legacy : (scope : ScopeValue) → on_legacy scope ≡ false → on_legacy (change scope) ≡ false

  -- so it leaves such a map
  pub HoldsNowhereIn-scope : (map : Map) (at : ℕ) (change : ScopeValue → ScopeValue) → KeepsScope change → HoldsNowhereIn t map
      → HoldsNowhereIn t (with_scope map at change)
  HoldsNowhereIn-scope map at change keeps f = record {
    origins = none_changed (λ (m : ModuleValue). on_origin t m.origin) (with_module_scope change) (λ m g. g) map.modules at f.origins;
    types = none_changed (on_types_in t) (with_module_scope change) (λ m g. keeps.types m.scope g) map.modules at f.types;
    values = none_changed (on_values_in t) (with_module_scope change) (λ m g. keeps.values m.scope g) map.modules at f.values;
    macros = none_changed (on_macros_in t) (with_module_scope change) (λ m g. keeps.macros m.scope g) map.modules at f.macros;
    legacy = none_changed (on_legacy_in t) (with_module_scope change) (λ m g. keeps.legacy m.scope g) map.modules at f.legacy;
    enums = f.enums;
    macro_use = f.macro_use;
  }

  -- ---- pushes

  of_value_import : (by : Option ImportOrExternCrate) → on_some (on_import t) by ≡ false → on_some (on_value_import t) (value_import by) ≡ false
  of_value_import None f = refl
  of_value_import (Some (import.Glob g)) f = f
  of_value_import (Some (import.Import i)) f = f
  of_value_import (Some (import.ExternCrate i)) f = refl

  module _ (globs : GlobNames) (place : Place) (items : PerNs) (by : Option ImportOrExternCrate) (none : HoldsOfNone t items) (brought : on_some (on_import t) by ≡ false) where
    types_pushed : (scope : ScopeValue) → on_values (on_type t) scope.types ≡ false → on_values (on_type t) (pushed_scope globs place items by scope).types
        ≡ false
    types_pushed scope f = go (is_nothing items)
      where
        bound : (i : Item ModuleDefId ImportOrExternCrate) → on_type t i ≡ false → (b : Bool)
            → on_values (on_type t) (written_items place.1 (cond b (type_candidate (Some i) by) None) scope.types) ≡ false
        bound i g true = none_with_entry (on_type t) (slice_cmp nat_cmp) scope.types place.1 (record { def = i.def; vis = i.vis; import = by }) f
            (by_import (on_def t i.def) (on_visibility t i.vis) (on_some (on_import t) i.import) (on_some (on_import t) (by)) g brought)
        bound i g false = f

        offered : (o : Option (Item ModuleDefId ImportOrExternCrate)) → on_some (on_type t) o ≡ false
            → on_values (on_type t) (written_items place.1 (taken module_def.ghosts.eq item_import.ghosts.eq scope.types globs.types place
            (type_candidate o by)) scope.types) ≡ false
        offered None g = f
        offered (Some i) g = bound i g (takes module_def.ghosts.eq item_import.ghosts.eq (has_place globs.types place) (item_at scope.types place.1) (record {
          item = record { def = i.def; vis = i.vis; import = by };
          is_glob = is_glob by;
        }))

        go : (b : Bool) → on_values (on_type t) (cond b (with_unresolved scope place.1) (written_scope place.1 (taken_candidates scope globs place items by)
            scope)).types ≡ false
        go true = f
        go false = offered items.types none.types

    values_pushed : (scope : ScopeValue) → on_values (on_value t) scope.values ≡ false → on_values (on_value t) (pushed_scope globs place items by scope).values
        ≡ false
    values_pushed scope f = go (is_nothing items)
      where
        bound : (i : Item ModuleDefId ImportOrGlob) → on_value t i ≡ false → (b : Bool)
            → on_values (on_value t) (written_items place.1 (cond b (value_candidate (Some i) by) None) scope.values) ≡ false
        bound i g true = none_with_entry (on_value t) (slice_cmp nat_cmp) scope.values place.1 (record { def = i.def; vis = i.vis; import = value_import by }) f
            (by_import (on_value_def t i.def) (on_visibility t i.vis) (on_some (on_value_import t) i.import) (on_some (on_value_import t) (value_import by)) g
            (of_value_import by brought))
        bound i g false = f

        offered : (o : Option (Item ModuleDefId ImportOrGlob)) → on_some (on_value t) o ≡ false
            → on_values (on_value t) (written_items place.1 (taken module_def.ghosts.eq glob_import.ghosts.eq scope.values globs.values place
            (value_candidate o by)) scope.values) ≡ false
        offered None g = f
        offered (Some i) g = bound i g (takes module_def.ghosts.eq glob_import.ghosts.eq (has_place globs.values place) (item_at scope.values place.1) (record {
          item = record { def = i.def; vis = i.vis; import = value_import by };
          is_glob = is_glob by;
        }))

        go : (b : Bool) → on_values (on_value t)
            (cond b (with_unresolved scope place.1) (written_scope place.1 (taken_candidates scope globs place items by) scope)).values ≡ false
        go true = f
        go false = offered items.values none.values

    macros_pushed : (scope : ScopeValue) → on_values (on_macro_item t) scope.macros ≡ false
        → on_values (on_macro_item t) (pushed_scope globs place items by scope).macros ≡ false
    macros_pushed scope f = go (is_nothing items)
      where
        bound : (i : Item MacroId ImportOrExternCrate) → on_macro_item t i ≡ false → (b : Bool)
            → on_values (on_macro_item t) (written_items place.1 (cond b (macro_candidate (Some i) by) None) scope.macros) ≡ false
        bound i g true = none_with_entry (on_macro_item t) (slice_cmp nat_cmp) scope.macros place.1 (record { def = i.def; vis = i.vis; import = by }) f
            (by_import (on_macro t i.def) (on_visibility t i.vis) (on_some (on_import t) i.import) (on_some (on_import t) (by)) g brought)
        bound i g false = f

        offered : (o : Option (Item MacroId ImportOrExternCrate)) → on_some (on_macro_item t) o ≡ false
            → on_values (on_macro_item t) (written_items place.1 (taken makro.ghosts.eq item_import.ghosts.eq scope.macros globs.macros place
            (macro_candidate o by)) scope.macros) ≡ false
        offered None g = f
        offered (Some i) g = bound i g (takes makro.ghosts.eq item_import.ghosts.eq (has_place globs.macros place) (item_at scope.macros place.1) (record {
          item = record { def = i.def; vis = i.vis; import = by };
          is_glob = is_glob by;
        }))

        go : (b : Bool) → on_values (on_macro_item t)
            (cond b (with_unresolved scope place.1) (written_scope place.1 (taken_candidates scope globs place items by) scope)).macros ≡ false
        go true = f
        go false = offered items.macros none.macros

    legacy_pushed : (scope : ScopeValue) → on_legacy scope ≡ false → on_legacy (pushed_scope globs place items by scope) ≡ false
    legacy_pushed scope f = go (is_nothing items)
      where
        go : (b : Bool) → on_legacy (cond b (with_unresolved scope place.1) (written_scope place.1 (taken_candidates scope globs place items by) scope)) ≡ false
        go true = f
        go false = f

    keeps_pushed : KeepsScope (pushed_scope globs place items by)
    keeps_pushed = record { types = types_pushed; values = values_pushed; macros = macros_pushed; legacy = legacy_pushed }

  -- a push of what it holds of none of, by an import of which it doesn't hold
  pub HoldsNowhereIn-pushed : (map : Map) (globs : GlobNames) (at : ℕ) (name : List ℕ) (items : PerNs) (by : Option ImportOrExternCrate) → HoldsOfNone t items
      → on_some (on_import t) by ≡ false
      → HoldsNowhereIn t map → HoldsNowhereIn t (pushed map globs at name items by)
  HoldsNowhereIn-pushed map globs at name items by none brought =
      HoldsNowhereIn-scope map at (pushed_scope globs (place_at map.id at name) items by) (keeps_pushed globs (place_at map.id at name) items by none brought)

  -- ---- lists of declarations

  keeps_listed : (d : Declaration) → KeepsScope (listed d)
  keeps_listed (declaration.Def def) = record { types = λ s g. g; values = λ s g. g; macros = λ s g. g; legacy = λ s g. g }
  keeps_listed other = record { types = λ s g. g; values = λ s g. g; macros = λ s g. g; legacy = λ s g. g }

  -- a declaration that is listed
  pub HoldsNowhereIn-listed : (map : Map) (at : ℕ) (d : Declaration) → HoldsNowhereIn t map → HoldsNowhereIn t (with_scope map at (listed d))
  HoldsNowhereIn-listed map at d = HoldsNowhereIn-scope map at (listed d) (keeps_listed d)

  -- ---- modules, enums, preludes

  -- a module of which it doesn't hold
  pub HoldsNowhereIn-made : (map : Map) (at : ℕ) (name : List ℕ) (origin : ModuleOrigin) (visibility : Visibility) (parent : Option ModuleId)
      → on_origin t origin ≡ false
      → HoldsNowhereIn t map → HoldsNowhereIn t (with_module map at name (new_module origin visibility parent))
  HoldsNowhereIn-made map at name origin visibility parent written f =
      let change : ModuleValue → ModuleValue = with_child name (new_id map) in
      let new : ModuleValue = new_module origin visibility parent in
      let older : List ModuleValue = changed_at map.modules at change in
      let of_origin : ModuleValue → Bool = λ (m : ModuleValue). on_origin t m.origin in
      record {
        origins = none_more of_origin older new (none_changed of_origin change (λ m g. g) map.modules at f.origins) written;
        types = none_more (on_types_in t) older new (none_changed (on_types_in t) change (λ m g. g) map.modules at f.types) refl;
        values = none_more (on_values_in t) older new (none_changed (on_values_in t) change (λ m g. g) map.modules at f.values) refl;
        macros = none_more (on_macros_in t) older new (none_changed (on_macros_in t) change (λ m g. g) map.modules at f.macros) refl;
        legacy = none_more (on_legacy_in t) older new (none_changed (on_legacy_in t) change (λ m g. g) map.modules at f.legacy) refl;
        enums = f.enums;
        macro_use = f.macro_use;
      }

  -- an enum of whose variants it holds of none
  pub HoldsNowhereIn-enum : (map : Map) (id : EnumId) (variants : Variants) → on_values (on_variant t) variants ≡ false → HoldsNowhereIn t map
      → HoldsNowhereIn t (with_enum map id variants)
  HoldsNowhereIn-enum map id variants none f = record {
    origins = f.origins;
    types = f.types;
    values = f.values;
    macros = f.macros;
    legacy = f.legacy;
    enums = none_inserted (λ (vs : Variants). on_values (on_variant t) vs) enum_order.ghosts.cmp map.enums id variants f.enums none;
    macro_use = f.macro_use;
  }

  -- a prelude module
  pub HoldsNowhereIn-prelude : (map : Map) (prelude : Option (ModuleId × Option UseId)) → HoldsNowhereIn t map → HoldsNowhereIn t (with_prelude map prelude)
  HoldsNowhereIn-prelude map prelude f = record {
    origins = f.origins;
    types = f.types;
    values = f.values;
    macros = f.macros;
    legacy = f.legacy;
    enums = f.enums;
    macro_use = f.macro_use;
  }

  -- ---- beside finished maps

  pub HoldsNowhere-overlay : (finished : Maps) (map : Map) → HoldsNowhere t finished → HoldsNowhereIn t map → HoldsNowhere t (overlay finished map)
  HoldsNowhere-overlay finished map f g id placed e = go (map_id.ghosts.eq id map.id) e
    where
      go : (b : Bool) → cond b (Some (placed_in finished map)) (finished id) ≡ Some placed → HoldsNowhereIn t placed.map
      go true h = let same : placed_in finished map ≡ placed = cc in subst (λ (p : Placed). HoldsNowhereIn t p.map) same g
      go false h = f id placed h
