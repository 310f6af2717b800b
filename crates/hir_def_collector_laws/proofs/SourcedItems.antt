-- What items and imports bind is clear of a test of sources, where its parts are.
use Rattle.std.specs.Prelude.{◌≡◌, ◌&&◌, ◌||◌, ℕ, List, [], ◌∷◌, ◌++◌, Bool, true, false, Option, None, Some, cond, fold, map as list_map, option_and_then}
use Rattle.std.specs.Prelude.{option_map, unwrap_or}
use Rattle.std.specs.List.{list_any}
use Rattle.std.specs.Ordering.{nat_cmp}
use Rattle.std.specs.Cmp.Lexicographic.{slice_cmp}
use Rattle.std.proofs.Common.{refl, subst}
use Rattle.hir_collector_rules.specs.HirIds.declared.ids.EnumId.{EnumId}
use Rattle.hir_collector_rules.specs.HirIds.declared.macro_kind.MacroId.{MacroId}
use Rattle.hir_collector_rules.specs.HirIds.declared.ids.ModuleDefId.{ModuleDefId}
use Rattle.hir_collector_rules.specs.HirIds.declared.ids.ModuleId.{ModuleId}
use Rattle.hir_collector_rules.specs.HirItemTree.KeptForest.{Head, KeptForest, item, no_items}
use Rattle.hir_collector_rules.specs.HirUseTree.declared.imports.Import.{Import}
use Rattle.hir_collector_rules.specs.HirUseTree.declared.imports.ImportKind.{ImportKind}
use Rattle.hir_collector_rules.specs.HirBase.declared.shape.FieldsShape.{FieldsShape}
use Rattle.hir_collector_rules.specs.HirItemTree.declared.side_lists.VariantItem.{VariantItem}
use Rattle.hir_collector_rules.specs.HirIds.declared.explicitness.VisibilityExplicitness.{VisibilityExplicitness}
use Rattle.hir_collector_rules.specs.HirBase.declared.shape.FieldsShape.TheVariants.{Record, Tuple, Unit as UnitShape}
use Rattle.hir_collector_rules.specs.HirUseTree.declared.imports.ImportKind.TheVariants as import_kinds
use Rattle.hir_collector_rules.specs.HirPerNs.ModuleTree.{is_at_or_above, same_crate, same_module}
use Rattle.hir_collector_rules.specs.HirPerNs.PerNs.{keep_item, Item}
use Rattle.hir_collector_rules.specs.HirPerNs.Visibility.{both_in, either_written, lower_of}
use Rattle.hir_collector_rules.specs.HirPerNs.declared.imports.ImportOrExternCrate.{ImportOrExternCrate}
use Rattle.hir_collector_rules.specs.HirPerNs.declared.imports.ImportOrGlob.{ImportOrGlob}
use Rattle.hir_collector_rules.specs.HirPerNs.declared.per_ns.PerNs.{PerNs}
use Rattle.hir_collector_rules.specs.HirPerNs.declared.visibility.Visibility.{Visibility}
use Rattle.hir_collector_rules.specs.HirPerNs.declared.visibility.Visibility.TheVariants as visibilities
use Rattle.hir_collector_rules.specs.HirDefMapRules.Ancestors.{above_in}
use Rattle.hir_collector_rules.proofs.HirDefMapRules.NoneOf.{neither, none_inserted, not_first, not_second}
use Rattle.hir_collector_rules.specs.HirDefMapRules.Scoping.{Resolution}
use Rattle.hir_collector_rules.specs.HirDefMapRules.Sources.{HoldsOfNone, SourceTest, on_def, on_import, on_macro, on_macro_item}
use Rattle.hir_collector_rules.specs.HirDefMapRules.Sources.{on_some, on_type, on_value, on_value_def}
use Rattle.hir_collector_rules.specs.HirDefMapRules.Sources.{on_value_import, on_values, on_variant, on_visibility}
use Rattle.hir_collector_rules.specs.HirDefMapRules.State.{Map, Variants}
use Rattle.hir_collector_rules.specs.HirDefMapRules.Overlay.{Maps, overlay}
use Rattle.hir_collector_rules.specs.HirImportRules.declared.directive.ImportSource.{ImportSource}
use Rattle.hir_collector_rules.specs.HirImportRules.declared.directive.ImportSource.TheVariants as sources
use Rattle.hir_collector_rules.specs.declared.site.Site.{Site}
use Rattle.hir_collector_rules.specs.Enums.{variant_of, variants_of, with_variant}
use Rattle.hir_collector_rules.specs.HirImportRules.Directives.{answer_by_kind, answer_by_source, brought, brought_type}
use Rattle.hir_collector_rules.specs.HirImportRules.Directives.{imported, is_of_extern_crate, kept_by_kind}
use Rattle.hir_collector_rules.specs.HirImportRules.Directives.{open_items}
use Rattle.hir_collector_rules.specs.Imports.{reached_import}
use Rattle.hir_collector_rules.specs.HirImportRules.Visibilities.{is_public, lesser_in}
use Rattle.hir_collector_rules.specs.ItemIds.{use_id}
use Rattle.hir_collector_rules.specs.Items.{constructor_of, declared_struct, declared_type, meet_of}
use Rattle.hir_collector_rules.specs.State.{Task, Visit, visits, visits_over}
use Rattle.hir_collector_rules.specs.Steps.{closing}
use Rattle.hir_collector_rules.proofs.Lists.{none_joined}
use Rattle.hir_def_collector_laws.proofs.SourcedState.{on_site, on_reached}

-- ---- lists

module _ (t : SourceTest) where
  pub site_visits : (s : Site) → t.holder s.tree.file s.tree.block ≡ false → (is : KeptForest) → list_any (on_site t) (visits_over s is) ≡ false
  site_visits s f no_items = refl
  site_visits s f (item i is) = neither (t.holder s.tree.file s.tree.block) (list_any (on_site t) (visits_over s is)) f (site_visits s f is)

  pub next_visits : (ts : List Task) (v : Visit) (rest : List Task) → list_any (on_site t) ts ≡ false → ts ≡ visits v ∷ rest
      → (t.holder v.site.tree.file v.site.tree.block ≡ false) × (list_any (on_site t) rest ≡ false)
  next_visits ts v rest f e =
      let both : list_any (on_site t) (visits v ∷ rest) ≡ false = subst (λ (xs : List Task). list_any (on_site t) xs ≡ false) e f in
      (not_first (on_site t (visits v)) (list_any (on_site t) rest) both, not_second (on_site t (visits v)) (list_any (on_site t) rest) both)

  -- a module that is closed is written nowhere
  closing_none : (marked : Bool) (parent child : ℕ) → list_any (on_site t) (closing marked parent child) ≡ false
  closing_none true parent child = refl
  closing_none false parent child = refl

  pub closed_visits : (s : Site) → t.holder s.tree.file s.tree.block ≡ false → (is : KeptForest) (marked : Bool) (parent child : ℕ) (rest : List Task)
      → list_any (on_site t) rest ≡ false
      → list_any (on_site t) ((visits_over s is ++ closing marked parent child) ++ rest) ≡ false
  closed_visits s f is marked parent child rest clear =
      none_joined (on_site t) (visits_over s is ++ closing marked parent child) rest
      (none_joined (on_site t) (visits_over s is) (closing marked parent child) (site_visits s f is) (closing_none marked parent child)) clear

  pub use_imports : (m : Map) (s : Site) (head : Head) → t.holder s.tree.file s.tree.block ≡ false → (is : List Import)
      → list_any (on_reached t) (list_map (reached_import s.home (use_id m s head.id) head.visibility) is) ≡ false
  use_imports m s head f [] = refl
  use_imports m s head f (i ∷ is) = neither (t.holder s.tree.file s.tree.block)
      (list_any (on_reached t) (list_map (reached_import s.home (use_id m s head.id) head.visibility) is)) f (use_imports m s head f is)

  -- ---- bindings

  pub bare : (a v : Bool) → a ≡ false → v ≡ false → (a || (v || false)) ≡ false
  bare a v f g = neither a (v || false) f (neither v false g refl)

  pub type_of : (def : ModuleDefId) (vis : Visibility) → on_def t def ≡ false → on_visibility t vis ≡ false → HoldsOfNone t (declared_type def vis)
  type_of def vis f g = record { types = bare (on_def t def) (on_visibility t vis) f g; values = refl; macros = refl }

  pub value_of : (def : ModuleDefId) (vis : Visibility) → on_value_def t def ≡ false → on_visibility t vis ≡ false
      → HoldsOfNone t (record { types = None; values = Some (record { def = def; vis = vis; import = None }); macros = None })
  value_of def vis f g = record { types = refl; values = bare (on_value_def t def) (on_visibility t vis) f g; macros = refl }

  pub struct_of : (def : ModuleDefId) (vis : Visibility) (c : Option Visibility) → on_def t def ≡ false → on_value_def t def ≡ false → on_visibility t vis
      ≡ false → on_some (on_visibility t) c ≡ false → HoldsOfNone t (declared_struct def vis c)
  struct_of def vis None f v g h = type_of def vis f g
  struct_of def vis (Some c) f v g h =
      record { types = bare (on_def t def) (on_visibility t vis) f g; values = bare (on_value_def t def) (on_visibility t c) v h; macros = refl }

  kept_item : {D I : Type 0} (test : Item D I → Bool) (keep : Visibility → Bool) (o : Option (Item D I)) → on_some test o ≡ false
      → on_some test (keep_item keep o) ≡ false
  kept_item test keep None f = refl
  kept_item test keep (Some i) f = go (keep i.vis)
    where
      go : (b : Bool) → on_some test (cond b (Some i) None) ≡ false
      go true = f
      go false = refl

  pub open_of : (crossing : Bool) (items : PerNs) → HoldsOfNone t items → HoldsOfNone t (open_items crossing items)
  open_of true items f = record {
    types = kept_item (on_type t) is_public items.types f.types;
    values = kept_item (on_value t) is_public items.values f.values;
    macros = kept_item (on_macro_item t) is_public items.macros f.macros;
  }
  open_of false items f = f

  pub kept_of_kind : (kind : ImportKind) (items : PerNs) → HoldsOfNone t items → HoldsOfNone t (kept_by_kind kind items)
  kept_of_kind import_kinds.Plain items f = f
  kept_of_kind import_kinds.TypeOnly items f = record { types = f.types; values = refl; macros = refl }
  kept_of_kind import_kinds.Glob items f = f

  answer_of_kind : (kind : ImportKind) (answer : Resolution) → HoldsOfNone t answer.resolved_def → HoldsOfNone t (answer_by_kind kind answer).resolved_def
  answer_of_kind import_kinds.Plain answer f = f
  answer_of_kind import_kinds.TypeOnly answer f = f
  answer_of_kind import_kinds.Glob answer f = record { types = refl; values = refl; macros = refl }

  pub answer_of_source : (source : ImportSource) (answer : Resolution) → HoldsOfNone t answer.resolved_def
      → HoldsOfNone t (answer_by_source source answer).resolved_def
  answer_of_source (sources.Use id kind) answer f = answer_of_kind kind answer f
  answer_of_source (sources.ExternCrate id None) answer f = record { types = refl; values = refl; macros = refl }
  answer_of_source (sources.ExternCrate id (Some c)) answer f = record { types = refl; values = refl; macros = refl }

  -- ---- visibilities

  module _ (finished : Maps) (m : Map) where
    lower : (above : ModuleId → List ModuleId) (x : ModuleId) (d : VisibilityExplicitness) (y : ModuleId) (e : VisibilityExplicitness) → t.shown x ≡ false
        → t.shown y ≡ false
        → on_some (on_visibility t) (lower_of above m.id x d y e) ≡ false
    lower above x d y e f g = go (same_module x y) (both_in m.id x y) (is_at_or_above above y x) (is_at_or_above above x y)
      where
        go : (a b c h : Bool) → on_some (on_visibility t) (cond a (Some (visibilities.Module x (either_written d e)))
            (cond b (cond c (Some (visibilities.Module x d)) (cond h (Some (visibilities.Module y e)) None)) None)) ≡ false
        go true b c h = f
        go false false c h = refl
        go false true true h = f
        go false true false true = g
        go false true false false = refl

    lesser : (a b : Visibility) → on_visibility t a ≡ false → on_visibility t b ≡ false → on_some (on_visibility t) (lesser_in finished m a b) ≡ false
    unfolding lesser_in
    lesser visibilities.Public b f g = g
    lesser (visibilities.PubCrate c) visibilities.Public f g = refl
    lesser (visibilities.PubCrate c) (visibilities.PubCrate d) f g = go (same_crate c d)
      where
        go : (b : Bool) → on_some (on_visibility t) (cond b (Some (visibilities.PubCrate c)) None) ≡ false
        go true = refl
        go false = refl
    lesser (visibilities.PubCrate c) (visibilities.Module x e) f g = go (same_crate x.map.krate c)
      where
        go : (b : Bool) → on_some (on_visibility t) (cond b (Some (visibilities.Module x e)) None) ≡ false
        go true = g
        go false = refl
    lesser (visibilities.Module x e) visibilities.Public f g = f
    lesser (visibilities.Module x e) (visibilities.PubCrate c) f g = go (same_crate x.map.krate c)
      where
        go : (b : Bool) → on_some (on_visibility t) (cond b (Some (visibilities.Module x e)) None) ≡ false
        go true = f
        go false = refl
    lesser (visibilities.Module x d) (visibilities.Module y e) f g = lower (above_in (overlay finished m)) x d y e f g

    least_or : (o : Option Visibility) (own : Visibility) → on_some (on_visibility t) o ≡ false → on_visibility t own ≡ false
        → on_visibility t (unwrap_or o own) ≡ false
    least_or None own f g = g
    least_or (Some v) own f g = f

    meet : (least : Visibility) (vs : List Visibility) → on_visibility t least ≡ false → list_any (on_visibility t) vs ≡ false
        → on_some (on_visibility t) (meet_of finished m least vs) ≡ false
    meet least [] f g = f
    meet least (v ∷ vs) f g =
        go (λ next h. meet next vs h (not_second (on_visibility t v) (list_any (on_visibility t) vs) g))
        (lesser_in finished m least v) (lesser least v f (not_first (on_visibility t v) (list_any (on_visibility t) vs) g))
      where
        go : ((next : Visibility) → on_visibility t next ≡ false → on_some (on_visibility t) (meet_of finished m next vs) ≡ false)
            → (o : Option Visibility) → on_some (on_visibility t) o ≡ false → on_some (on_visibility t) (option_and_then (λ next. meet_of finished m next vs) o)
            ≡ false
        go below None h = refl
        go below (Some next) h = below next h

    pub shaped : (own : Visibility) (shape : FieldsShape) (vs : List Visibility) → on_visibility t own ≡ false → list_any (on_visibility t) vs ≡ false
        → on_some (on_visibility t) (constructor_of finished m own shape vs) ≡ false
    shaped own Record vs f g = refl
    shaped own Tuple vs f g = least_or (meet_of finished m own vs) own (meet own vs f g) f
    shaped own UnitShape vs f g = f

    pub lesser_or : (own vis : Visibility) → on_visibility t own ≡ false → on_visibility t vis ≡ false
        → on_visibility t (unwrap_or (lesser_in finished m own vis) own) ≡ false
    lesser_or own vis f g = least_or (lesser_in finished m own vis) own (lesser own vis f g) f

    -- an item under another visibility
    under : (d v i u : Bool) → (d || (v || i)) ≡ false → u ≡ false → (d || (u || i)) ≡ false
    under d v i u f g = neither d (u || i) (not_first d (v || i) f) (neither u i g (not_second v i (not_second d (v || i) f)))

    seen : (d v i : Bool) → (d || (v || i)) ≡ false → v ≡ false
    seen d v i f = not_first v i (not_second d (v || i) f)

    pub import_of : (own : Visibility) (alone : Bool) (items : PerNs) → on_visibility t own ≡ false → HoldsOfNone t items
        → HoldsOfNone t (imported finished m own alone items)
    import_of own alone items f g = record { types = types items.types g.types; values = values items.values g.values; macros = macros items.macros g.macros }
      where
        types : (o : Option (Item ModuleDefId ImportOrExternCrate)) → on_some (on_type t) o ≡ false
            → on_some (on_type t) (option_map (brought_type finished m own alone) o) ≡ false
        types None h = refl
        types (Some i) h = go (alone && is_of_extern_crate i.import)
          where
            go : (b : Bool) → on_type t (cond b (record i { vis = own }) (brought finished m own i)) ≡ false
            go true = under (on_def t i.def) (on_visibility t i.vis) (on_some (on_import t) i.import) (on_visibility t own) h f
            go false =
                under (on_def t i.def) (on_visibility t i.vis) (on_some (on_import t) i.import)
                (on_visibility t (unwrap_or (lesser_in finished m own i.vis) own)) h
                (lesser_or own i.vis f (seen (on_def t i.def) (on_visibility t i.vis) (on_some (on_import t) i.import) h))

        values : (o : Option (Item ModuleDefId ImportOrGlob)) → on_some (on_value t) o ≡ false → on_some (on_value t) (option_map (brought finished m own) o)
            ≡ false
        values None h = refl
        values (Some i) h =
            under (on_value_def t i.def) (on_visibility t i.vis) (on_some (on_value_import t) i.import)
            (on_visibility t (unwrap_or (lesser_in finished m own i.vis) own)) h
            (lesser_or own i.vis f (seen (on_value_def t i.def) (on_visibility t i.vis) (on_some (on_value_import t) i.import) h))

        macros : (o : Option (Item MacroId ImportOrExternCrate)) → on_some (on_macro_item t) o ≡ false
            → on_some (on_macro_item t) (option_map (brought finished m own) o) ≡ false
        macros None h = refl
        macros (Some i) h =
            under (on_macro t i.def) (on_visibility t i.vis) (on_some (on_import t) i.import) (on_visibility t (unwrap_or (lesser_in finished m own i.vis) own))
            h
            (lesser_or own i.vis f (seen (on_macro t i.def) (on_visibility t i.vis) (on_some (on_import t) i.import) h))

  -- ---- variants

  pub of_variants : (id : EnumId) → t.holder id.loc.file_id id.loc.block ≡ false → (o : Option (List VariantItem)) → on_values (on_variant t) (variants_of id o)
      ≡ false
  of_variants id f None = refl
  of_variants id f (Some items) = go [] items refl
    where
      go : (vs : Variants) (items : List VariantItem) → on_values (on_variant t) vs ≡ false → on_values (on_variant t) (fold (with_variant id) vs items) ≡ false
      go vs [] g = g
      go vs (i ∷ is) g = go (with_variant id vs i) is (none_inserted (on_variant t) (slice_cmp nat_cmp) vs i.name (variant_of id i) g f)
