-- Changes of imports leave a map that binds only what is written where it and they do.
use Rattle.std.specs.Prelude.{◌≡◌, ◌||◌, ℕ, Bool, true, false, List, [], ◌∷◌, Option, None, Some, cond, if◌then◌else◌, option_and_then, slice_get, slice_set}
use Rattle.std.specs.Prelude.{zero, suc}
use Rattle.std.specs.BTreeMap.{is_at}
use Rattle.std.specs.Cmp.Lexicographic.{slice_cmp}
use Rattle.std.specs.List.{list_any}
use Rattle.std.specs.Map.{lookup}
use Rattle.std.specs.Ordering.{nat_cmp}
use Rattle.std.proofs.Common.{refl, subst, sym}
use Rattle.hir_collector_rules.specs.HirIds.contracts.ids.EnumIdOrd.TheImpl as enum_order
use Rattle.hir_collector_rules.specs.HirIds.declared.ids.EnumId.{EnumId}
use Rattle.hir_collector_rules.specs.HirIds.declared.macro_kind.MacroId.{MacroId}
use Rattle.hir_collector_rules.specs.HirIds.declared.ids.ModuleDefId.{ModuleDefId}
use Rattle.hir_collector_rules.specs.HirIds.declared.ids.ModuleId.{ModuleId}
use Rattle.hir_collector_rules.specs.HirIds.declared.ids.ModuleDefId.TheVariants as definitions
use Rattle.hir_collector_rules.specs.HirBase.Shape.{has_constructor}
use Rattle.hir_collector_rules.specs.HirIds.declared.explicitness.VisibilityExplicitness.{VisibilityExplicitness}
use Rattle.hir_collector_rules.specs.HirScope.Bindings.{with_item_definition, with_item_visibility}
use Rattle.hir_collector_rules.specs.HirPerNs.ModuleTree.{is_at_or_above, same_crate, same_module}
use Rattle.hir_collector_rules.specs.HirPerNs.PerNs.{Item, with_constructor}
use Rattle.hir_collector_rules.specs.HirPerNs.Visibility.{both_in, either_written, upper_of}
use Rattle.hir_collector_rules.specs.HirPerNs.declared.imports.ImportOrExternCrate.{ImportOrExternCrate}
use Rattle.hir_collector_rules.specs.HirPerNs.declared.imports.ImportOrGlob.{ImportOrGlob}
use Rattle.hir_collector_rules.specs.HirPerNs.declared.item_in_ns.ItemInNs.{ItemInNs}
use Rattle.hir_collector_rules.specs.HirPerNs.declared.per_ns.PerNs.{PerNs}
use Rattle.hir_collector_rules.specs.HirPerNs.declared.visibility.Visibility.{Visibility}
use Rattle.hir_collector_rules.specs.HirPerNs.declared.imports.ImportOrExternCrate.TheVariants as ways
use Rattle.hir_collector_rules.specs.HirPerNs.declared.item_in_ns.ItemInNs.TheVariants as in_ns
use Rattle.hir_collector_rules.specs.HirPerNs.declared.visibility.Visibility.TheVariants as visibilities
use Rattle.hir_collector_rules.proofs.HirDefMapRules.NoneOf.{neither, none_at, none_found, none_more, not_first, not_second}
use Rattle.hir_collector_rules.proofs.HirDefMapRules.StaysSourced.{HoldsNowhereIn-pushed, HoldsNowhereIn-scope, KeepsScope}
use Rattle.hir_collector_rules.specs.HirDefMapRules.Ancestors.{above_in}
use Rattle.hir_collector_rules.specs.HirDefMapRules.Overlay.{Maps, Placed, entry_in, overlay}
use Rattle.hir_collector_rules.specs.HirDefMapRules.Scoping.Segments.{variant_in}
use Rattle.hir_collector_rules.specs.HirDefMapRules.Sources.{HoldsNowhere, HoldsNowhereIn, HoldsOfNone, SourceTest, on_def}
use Rattle.hir_collector_rules.specs.HirDefMapRules.Sources.{on_import, on_macro, on_macro_item, on_macros_in}
use Rattle.hir_collector_rules.specs.HirDefMapRules.Sources.{on_some, on_type, on_types_in, on_value, on_value_def}
use Rattle.hir_collector_rules.specs.HirDefMapRules.Sources.{on_value_import, on_values, on_values_in, on_variant}
use Rattle.hir_collector_rules.specs.HirDefMapRules.Sources.{on_visibility}
use Rattle.hir_collector_rules.specs.HirDefMapRules.State.{Map, ModuleValue, Variants, at_name, entry_of, module_at, numbered, variants_at, with_scope}
use Rattle.hir_collector_rules.specs.HirMapParts.declared.enum_variants.EnumVariant.{EnumVariant}
use Rattle.hir_collector_rules.specs.HirGlobImports.Moves.{same_vis, seen_by}
use Rattle.hir_collector_rules.specs.HirGlobImports.View.{View}
use Rattle.hir_collector_rules.specs.HirGlobImports.Waves.{Records, adds, edge_with_vis, stays, widens, wider_of}
use Rattle.hir_collector_rules.specs.HirGlobImports.declared.edge.Bound.{Bound}
use Rattle.hir_collector_rules.specs.HirGlobImports.declared.edge.Edge.{Edge}
use Rattle.hir_collector_rules.specs.HirGlobImports.declared.edge.Key.{Key}
use Rattle.hir_collector_rules.specs.HirGlobImports.declared.edge.Key.TheVariants.{Types, Values, Macros, Unnamed}
use Rattle.hir_collector_rules.specs.HirImportRules.Names.{bound_at, bound_by, items_by, redefined, revised, variant_items}
use Rattle.hir_collector_rules.specs.HirImportRules.Visibilities.{greater_in}
use Rattle.hir_collector_rules.proofs.Entries.{none_rewritten}
use Rattle.hir_collector_rules.proofs.ImportEdits.{Edit, edit, edited, keeps_unnamed, pushes_to, redefines, revises}

module _ (t : SourceTest) where
  -- ---- what an edit brings is clear of the test

  -- whether the test holds of a definition in its namespace
  abbrev pub on_named : ItemInNs → Bool
  on_named (in_ns.Types def) = on_def t def
  on_named (in_ns.Values def) = on_value_def t def
  on_named (in_ns.Macros id) = on_macro t id

  -- who may see what stands at a key, by name
  abbrev pub IsSeenClear : Key → Visibility → Type 0
  IsSeenClear (Unnamed id) vis = Unit {0}
  IsSeenClear other vis = on_visibility t vis ≡ false

  -- what stands there
  abbrev pub IsBoundClear : Key → Bound → Type 0
  IsBoundClear (Unnamed id) b = Unit {0}
  IsBoundClear other b = (on_named b.def ≡ false) × (on_visibility t b.vis ≡ false)

  abbrev pub EditIsClear : Edit → Type 0
  EditIsClear (pushes_to globs name items import) = HoldsOfNone t items × (on_some (on_import t) import ≡ false)
  EditIsClear (keeps_unnamed id vis import) = Unit {0}
  EditIsClear (redefines name def vis) = (on_named def ≡ false) × (on_visibility t vis ≡ false)
  EditIsClear (revises key vis) = IsSeenClear key vis

  abbrev pub EditsAreClear : Option (ℕ × Edit) → Type 0
  EditsAreClear None = Unit {0}
  EditsAreClear (Some e) = EditIsClear e.1

  -- ---- a scope

  -- an item with another definition and another visibility, or with another visibility alone
  other_def : (d v i e w : Bool) → (d || (v || i)) ≡ false → e ≡ false → w ≡ false → (e || (w || i)) ≡ false
  other_def d v i e w f g h = neither e (w || i) g (neither w i h (not_second v i (not_second d (v || i) f)))

  other_vis : (d v i w : Bool) → (d || (v || i)) ≡ false → w ≡ false → (d || (w || i)) ≡ false
  other_vis d v i w f h = neither d (w || i) (not_first d (v || i) f) (neither w i h (not_second v i (not_second d (v || i) f)))

  keeps-redefined : (name : List ℕ) (def : ItemInNs) (vis : Visibility) → on_named def ≡ false → on_visibility t vis ≡ false
      → KeepsScope t (redefined name def vis)
  keeps-redefined name (in_ns.Types def) vis g h = record {
    types = λ scope f. none_rewritten (on_type t) (with_item_definition def vis) scope.types name
        (λ i e x. other_def (on_def t i.def) (on_visibility t i.vis) (on_some (on_import t) i.import) (on_def t def) (on_visibility t vis) x g h) f;
    values = λ scope f. f;
    macros = λ scope f. f;
    legacy = λ scope f. f;
  }
  keeps-redefined name (in_ns.Values def) vis g h = record {
    types = λ scope f. f;
    values = λ scope f. none_rewritten (on_value t) (with_item_definition def vis) scope.values name
        (λ i e x. other_def (on_value_def t i.def) (on_visibility t i.vis) (on_some (on_value_import t) i.import) (on_value_def t def) (on_visibility t vis) x g
        h) f;
    macros = λ scope f. f;
    legacy = λ scope f. f;
  }
  keeps-redefined name (in_ns.Macros id) vis g h = record {
    types = λ scope f. f;
    values = λ scope f. f;
    macros = λ scope f. none_rewritten (on_macro_item t) (with_item_definition id vis) scope.macros name
        (λ i e x. other_def (on_macro t i.def) (on_visibility t i.vis) (on_some (on_import t) i.import) (on_macro t id) (on_visibility t vis) x g h) f;
    legacy = λ scope f. f;
  }

  keeps-revised : (key : Key) (vis : Visibility) → IsSeenClear key vis → KeepsScope t (revised key vis)
  keeps-revised (Types name) vis h = record {
    types = λ scope f. none_rewritten (on_type t) (with_item_visibility vis) scope.types name
        (λ i e x. other_vis (on_def t i.def) (on_visibility t i.vis) (on_some (on_import t) i.import) (on_visibility t vis) x h) f;
    values = λ scope f. f;
    macros = λ scope f. f;
    legacy = λ scope f. f;
  }
  keeps-revised (Values name) vis h = record {
    types = λ scope f. f;
    values = λ scope f. none_rewritten (on_value t) (with_item_visibility vis) scope.values name
        (λ i e x. other_vis (on_value_def t i.def) (on_visibility t i.vis) (on_some (on_value_import t) i.import) (on_visibility t vis) x h) f;
    macros = λ scope f. f;
    legacy = λ scope f. f;
  }
  keeps-revised (Macros name) vis h = record {
    types = λ scope f. f;
    values = λ scope f. f;
    macros = λ scope f. none_rewritten (on_macro_item t) (with_item_visibility vis) scope.macros name
        (λ i e x. other_vis (on_macro t i.def) (on_visibility t i.vis) (on_some (on_import t) i.import) (on_visibility t vis) x h) f;
    legacy = λ scope f. f;
  }
  keeps-revised (Unnamed id) vis h = record { types = λ scope f. f; values = λ scope f. f; macros = λ scope f. f; legacy = λ scope f. f }

  -- ---- a map

  sourced-edit : (map : Map) (at : ℕ) (e : Edit) → EditIsClear e → HoldsNowhereIn t map → HoldsNowhereIn t (with_scope map at (edit (numbered map.id at) e))
  sourced-edit map at (pushes_to globs name items import) clear f = HoldsNowhereIn-pushed t map globs at name items import clear.0 clear.1 f
  sourced-edit map at (keeps_unnamed id vis import) clear f =
      HoldsNowhereIn-scope t map at (edit (numbered map.id at) (keeps_unnamed id vis import))
      (record { types = λ scope g. g; values = λ scope g. g; macros = λ scope g. g; legacy = λ scope g. g }) f
  sourced-edit map at (redefines name def vis) clear f = HoldsNowhereIn-scope t map at (redefined name def vis) (keeps-redefined name def vis clear.0 clear.1) f
  sourced-edit map at (revises key vis) clear f = HoldsNowhereIn-scope t map at (revised key vis) (keeps-revised key vis clear) f

  pub sourced-edited : (map : Map) (o : Option (ℕ × Edit)) → EditsAreClear o → HoldsNowhereIn t map → HoldsNowhereIn t (edited map o)
  sourced-edited map None clear f = f
  sourced-edited map (Some e) clear f = sourced-edit map e.0 e.1 clear f

  -- ---- what stands where

  found : {V : Type 0} (p : V → Bool) (test : List ℕ → Bool) (es : List (List ℕ × V)) → on_values p es ≡ false → on_some p (lookup test es) ≡ false
  found p test es f = go (lookup test es) refl
    where
      go : (o : Option _) → lookup test es ≡ o → on_some p o ≡ false
      go None e = refl
      go (Some v) e = none_found p test es v f e

  nothing_clear : HoldsOfNone t (record { types = None; values = None; macros = None })
  nothing_clear = record { types = refl; values = refl; macros = refl }

  -- in a module
  module_clear : (o : Option ModuleValue) (name : List ℕ) → on_some (on_types_in t) o ≡ false → on_some (on_values_in t) o ≡ false → on_some (on_macros_in t) o
      ≡ false → HoldsOfNone t (entry_of o name)
  module_clear None name f g h = nothing_clear
  module_clear (Some m) name f g h = record {
    types = found (on_type t) (is_at (slice_cmp nat_cmp name)) m.scope.types f;
    values = found (on_value t) (is_at (slice_cmp nat_cmp name)) m.scope.values g;
    macros = found (on_macro_item t) (is_at (slice_cmp nat_cmp name)) m.scope.macros h;
  }

  at_module : (p : ModuleValue → Bool) (ms : List ModuleValue) (at : ℕ) → list_any p ms ≡ false → on_some p (slice_get ms at) ≡ false
  at_module p ms at f = go (slice_get ms at) refl
    where
      go : (o : Option ModuleValue) → slice_get ms at ≡ o → on_some p o ≡ false
      go None e = refl
      go (Some m) e = none_at p ms f at m e

  pub own_clear : (map : Map) → HoldsNowhereIn t map → (at : ℕ) (name : List ℕ) → HoldsOfNone t (entry_of (module_at map at) name)
  own_clear map f at name =
      module_clear (module_at map at) name (at_module (on_types_in t) map.modules at f.types) (at_module (on_values_in t) map.modules at f.values)
      (at_module (on_macros_in t) map.modules at f.macros)

  module _ (maps : Maps) (nowhere : HoldsNowhere t maps) where
    pub entry_clear : (m : ModuleId) (name : List ℕ) → HoldsOfNone t (entry_in maps m name)
    entry_clear m name = go (maps m.map) refl
      where
        go : (o : Option Placed) → maps m.map ≡ o → HoldsOfNone t (entry_of (option_and_then (λ (placed : Placed). module_at placed.map m.index) o) name)
        go None e = nothing_clear
        go (Some placed) e = own_clear placed.map (nowhere m.map placed e) m.index name

    variant_clear : (id : EnumId) (name : List ℕ) → on_some (on_variant t) (variant_in maps id name) ≡ false
    variant_clear id name = go (maps id.loc.container.map) refl
      where
        named : (o : Option Variants) → on_some (λ (vs : Variants). on_values (on_variant t) vs) o ≡ false
            → on_some (on_variant t) (option_and_then (λ (vs : Variants). at_name vs name) o) ≡ false
        named None f = refl
        named (Some vs) f = found (on_variant t) (is_at (slice_cmp nat_cmp name)) vs f

        listed : (es : List (EnumId × Variants)) → on_values (λ (vs : Variants). on_values (on_variant t) vs) es ≡ false → (o : Option Variants)
            → lookup (is_at (enum_order.ghosts.cmp id)) es ≡ o
            → on_some (λ (vs : Variants). on_values (on_variant t) vs) o ≡ false
        listed es f None e = refl
        listed es f (Some vs) e = none_found (λ (vs : Variants). on_values (on_variant t) vs) (is_at (enum_order.ghosts.cmp id)) es vs f e

        go : (o : Option Placed) → maps id.loc.container.map ≡ o
            → on_some (on_variant t) (option_and_then (λ (vs : Variants). at_name vs name) (option_and_then (λ (placed : Placed). variants_at placed.map id) o))
            ≡ false
        go None e = refl
        go (Some placed) e =
            named (variants_at placed.map id) (listed placed.map.enums (nowhere id.loc.container.map placed e).enums (variants_at placed.map id) refl)

    items_of_variant : (o : Option EnumVariant) → on_some (on_variant t) o ≡ false → HoldsOfNone t (variant_items o)
    items_of_variant None f = nothing_clear
    items_of_variant (Some v) f = go (has_constructor v.shape)
      where
        bare : (on_def t (definitions.EnumVariantId v.id) || (false || false)) ≡ false
        bare = neither (on_def t (definitions.EnumVariantId v.id)) false f refl

        go : (b : Bool) → HoldsOfNone t (with_constructor (definitions.EnumVariantId v.id) visibilities.Public (cond b (Some visibilities.Public) None) None)
        go true = record { types = bare; values = bare; macros = refl }
        go false = record { types = bare; values = refl; macros = refl }

    pub variants_clear : (id : EnumId) (name : List ℕ) → HoldsOfNone t (variant_items (variant_in maps id name))
    variants_clear id name = items_of_variant (variant_in maps id name) (variant_clear id name)

  -- at a key
  def_vis : (d v i : Bool) → (d || (v || i)) ≡ false → (d ≡ false) × (v ≡ false)
  def_vis d v i f = (not_first d (v || i) f, not_first v i (not_second d (v || i) f))

  type_clear : (o : Option (Item ModuleDefId ImportOrExternCrate)) → on_some (on_type t) o ≡ false → (b : Bound) → bound_by in_ns.Types o ≡ Some b
      → (on_named b.def ≡ false) × (on_visibility t b.vis ≡ false)
  type_clear None f b e = absurd cc
  type_clear (Some i) f b e =
      let same : record { def = in_ns.Types i.def; vis = i.vis } ≡ b = cc in
      subst (λ (x : Bound). (on_named x.def ≡ false) × (on_visibility t x.vis ≡ false)) same
      (def_vis (on_def t i.def) (on_visibility t i.vis) (on_some (on_import t) i.import) f)

  value_clear : (o : Option (Item ModuleDefId ImportOrGlob)) → on_some (on_value t) o ≡ false → (b : Bound) → bound_by in_ns.Values o ≡ Some b
      → (on_named b.def ≡ false) × (on_visibility t b.vis ≡ false)
  value_clear None f b e = absurd cc
  value_clear (Some i) f b e =
      let same : record { def = in_ns.Values i.def; vis = i.vis } ≡ b = cc in
      subst (λ (x : Bound). (on_named x.def ≡ false) × (on_visibility t x.vis ≡ false)) same
      (def_vis (on_value_def t i.def) (on_visibility t i.vis) (on_some (on_value_import t) i.import) f)

  macro_clear : (o : Option (Item MacroId ImportOrExternCrate)) → on_some (on_macro_item t) o ≡ false → (b : Bound) → bound_by in_ns.Macros o ≡ Some b
      → (on_named b.def ≡ false) × (on_visibility t b.vis ≡ false)
  macro_clear None f b e = absurd cc
  macro_clear (Some i) f b e =
      let same : record { def = in_ns.Macros i.def; vis = i.vis } ≡ b = cc in
      subst (λ (x : Bound). (on_named x.def ≡ false) × (on_visibility t x.vis ≡ false)) same
      (def_vis (on_macro t i.def) (on_visibility t i.vis) (on_some (on_import t) i.import) f)

  pub key_clear : (entries : List ℕ → PerNs) (traits : _) → ((name : List ℕ) → HoldsOfNone t (entries name)) → (key : Key) (b : Bound)
      → bound_at entries traits key ≡ Some b → IsBoundClear key b
  key_clear entries traits each (Types name) b e = type_clear (entries name).types (each name).types b e
  key_clear entries traits each (Values name) b e = value_clear (entries name).values (each name).values b e
  key_clear entries traits each (Macros name) b e = macro_clear (entries name).macros (each name).macros b e
  key_clear entries traits each (Unnamed id) b e = tt

  -- a definition alone, as a glob brings it
  pub items_clear : (def : ItemInNs) (vis : Visibility) → on_named def ≡ false → on_visibility t vis ≡ false → HoldsOfNone t (items_by def vis)
  items_clear (in_ns.Types def) vis g h =
      record { types = neither (on_def t def) (on_visibility t vis || false) g (neither (on_visibility t vis) false h refl); values = refl; macros = refl }
  items_clear (in_ns.Values def) vis g h =
      record {
        types = refl;
        values = neither (on_value_def t def) (on_visibility t vis || false) g (neither (on_visibility t vis) false h refl);
        macros = refl;
      }
  items_clear (in_ns.Macros id) vis g h =
      record { types = refl; values = refl; macros = neither (on_macro t id) (on_visibility t vis || false) g (neither (on_visibility t vis) false h refl) }

  -- ---- recorded globs

  -- whether the test holds of a glob, or of who sees what it brings
  abbrev pub on_edge : Edge → Bool
  on_edge e = on_import t (ways.Glob e.id) || on_visibility t e.vis

  none_written : (p : Edge → Bool) (es : List Edge) (j : ℕ) (e : Edge) → list_any p es ≡ false → p e ≡ false → list_any p (slice_set es j e) ≡ false
  none_written p [] j e f g = f
  none_written p (x ∷ xs) zero e f g = neither (p e) (list_any p xs) g (not_second (p x) (list_any p xs) f)
  none_written p (x ∷ xs) (suc j) e f g =
      neither (p x) (list_any p (slice_set xs j e)) (not_first (p x) (list_any p xs) f) (none_written p xs j e (not_second (p x) (list_any p xs) f) g)

  wider_is : (vis : Visibility) (o : Option Visibility) (wide : Visibility) → on_some (on_visibility t) o ≡ false → wider_of vis o ≡ Some wide
      → on_visibility t wide ≡ false
  wider_is vis None wide f e = absurd cc
  wider_is vis (Some x) wide f e = go (same_vis x vis) e
    where
      go : (b : Bool) → (if b then None else Some x) ≡ Some wide → on_visibility t wide ≡ false
      go true h = absurd cc
      go false h = let same : x ≡ wide = cc in subst (λ (v : Visibility). on_visibility t v ≡ false) same f

  pub recorded_clear : (v : View) (old new : List Edge) (e : Edge) → ((a b : Visibility) → on_visibility t a ≡ false → on_visibility t b ≡ false
      → on_some (on_visibility t) (v.greater a b) ≡ false)
      → list_any on_edge old ≡ false → on_edge e ≡ false → Records v old new e → list_any on_edge new ≡ false
  recorded_clear v old new e greater f g (widens j d wide at ends w is) =
      let here : on_edge d ≡ false = none_at on_edge old f j d at in
      let seen : on_visibility t wide ≡ false =
      wider_is d.vis (v.greater d.vis e.vis) wide (greater d.vis e.vis (not_second (on_import t (ways.Glob d.id)) (on_visibility t d.vis) here)
      (not_second (on_import t (ways.Glob e.id)) (on_visibility t e.vis) g)) w in
      subst (λ (es : List Edge). list_any on_edge es ≡ false) (sym is)
      (none_written on_edge old j (edge_with_vis d wide) f (neither (on_import t (ways.Glob d.id)) (on_visibility t wide)
      (not_first (on_import t (ways.Glob d.id)) (on_visibility t d.vis) here) seen))
  recorded_clear v old new e greater f g (stays j d at ends w is) = subst (λ (es : List Edge). list_any on_edge es ≡ false) (sym is) f
  recorded_clear v old new e greater f g (adds none is) = subst (λ (es : List Edge). list_any on_edge es ≡ false) (sym is) (none_more on_edge old e f g)

  -- ---- visibilities

  upper : (above : ModuleId → List ModuleId) (m : _) (x : ModuleId) (d : VisibilityExplicitness) (y : ModuleId) (e : VisibilityExplicitness) → t.shown x ≡ false
      → t.shown y ≡ false
      → on_some (on_visibility t) (upper_of above m x d y e) ≡ false
  upper above m x d y e f g = go (same_module x y) (both_in m x y) (is_at_or_above above y x) (is_at_or_above above x y)
    where
      go : (a b c h : Bool) → on_some (on_visibility t) (cond a (Some (visibilities.Module x (either_written d e)))
          (cond b (cond c (Some (visibilities.Module y e)) (cond h (Some (visibilities.Module x d)) None)) None)) ≡ false
      go true b c h = f
      go false false c h = refl
      go false true true h = g
      go false true false true = f
      go false true false false = refl

  chosen : (b : Bool) (v : Visibility) → on_visibility t v ≡ false → on_some (on_visibility t) (cond b (Some v) None) ≡ false
  chosen true v f = f
  chosen false v f = refl

  pub greater_clear : (finished : Maps) (m : Map) (a b : Visibility) → on_visibility t a ≡ false → on_visibility t b ≡ false
      → on_some (on_visibility t) (greater_in finished m a b) ≡ false
  unfolding greater_in
  greater_clear finished m visibilities.Public b f g = refl
  greater_clear finished m (visibilities.PubCrate c) visibilities.Public f g = refl
  greater_clear finished m (visibilities.PubCrate c) (visibilities.PubCrate d) f g = chosen (same_crate c d) (visibilities.PubCrate c) refl
  greater_clear finished m (visibilities.PubCrate c) (visibilities.Module x e) f g = chosen (same_crate x.map.krate c) (visibilities.PubCrate c) refl
  greater_clear finished m (visibilities.Module x e) visibilities.Public f g = refl
  greater_clear finished m (visibilities.Module x e) (visibilities.PubCrate c) f g = chosen (same_crate x.map.krate c) (visibilities.PubCrate c) refl
  greater_clear finished m (visibilities.Module x d) (visibilities.Module y e) f g = upper (above_in (overlay finished m)) m.id x d y e f g

-- what a source shows stands there
pub shown_stands : (sees : Visibility → Bool) (o : Option Bound) (b : Bound) → seen_by sees o ≡ Some b → o ≡ Some b
shown_stands sees None b e = absurd cc
shown_stands sees (Some c) b e = go (sees c.vis) e
  where
    go : (x : Bool) → (if x then Some c else None) ≡ Some b → Some c ≡ Some b
    go true h = h
    go false h = absurd cc
