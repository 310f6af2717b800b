-- What writes of globs leave of a scope.
use Rattle.std.proofs.Common.{◌≡◌, ◌≢◌, ◌∙◌, ap, sym, refl, ℕ, List, [], ◌∷◌, Bool, true, false, cond, Option, None, Some, is_some, if◌then◌else◌}
use Rattle.std.specs.Option.{option_map}
use Rattle.std.specs.BTreeMap.{insert_entry, is_at}
use Rattle.std.specs.Cmp.Lexicographic.{slice_cmp}
use Rattle.std.specs.Map.{lookup, set_value}
use Rattle.std.specs.Ordering.{nat_cmp}
use Rattle.indexmap.specs.IndexMap.{insert_entry as insert_last}
use Rattle.hir_nameres.specs.HirIds.contracts.ids.TraitIdEq.TheImpl.Laws.{laws-law as trait_laws}
use Rattle.hir_nameres.specs.HirIds.contracts.ids.TraitIdOrd.TheImpl.Laws.{matches_eq-law as trait_ties}
use Rattle.hir_nameres.specs.HirIds.contracts.ids.TraitIdPartialEq.TheImpl as trait_id
use Rattle.hir_nameres.specs.HirIds.declared.macro_kind.MacroId.{MacroId}
use Rattle.hir_nameres.specs.HirIds.declared.ids.ModuleDefId.{ModuleDefId}
use Rattle.hir_nameres.specs.HirIds.declared.ids.TraitId.{TraitId}
use Rattle.hir_nameres.specs.HirIds.declared.ids.ModuleDefId.TheVariants as definitions
use Rattle.hir_nameres.specs.HirScope.Bindings.{first_of, with_item_definition, with_item_visibility}
use Rattle.hir_nameres.specs.HirScope.Entries.{item_at, with_entry}
use Rattle.hir_nameres.specs.HirScope.Globs.{GlobNames, Place}
use Rattle.hir_nameres.specs.HirPerNs.PerNs.{Item}
use Rattle.hir_nameres.specs.HirScope.Scope.{ScopeValue, binding_of}
use Rattle.hir_nameres.specs.HirScope.Scope.Push.{pushed_scope}
use Rattle.hir_nameres.specs.HirScope.Scope.Reads.{unnamed_vis}
use Rattle.hir_nameres.specs.HirPerNs.declared.imports.GlobId.{GlobId}
use Rattle.hir_nameres.specs.HirPerNs.declared.imports.ImportId.{ImportId}
use Rattle.hir_nameres.specs.HirPerNs.declared.imports.ImportOrExternCrate.{ImportOrExternCrate}
use Rattle.hir_nameres.specs.HirPerNs.declared.imports.ImportOrGlob.{ImportOrGlob}
use Rattle.hir_nameres.specs.HirPerNs.declared.item_in_ns.ItemInNs.{ItemInNs}
use Rattle.hir_nameres.specs.HirPerNs.declared.per_ns.PerNs.{PerNs}
use Rattle.hir_nameres.specs.HirPerNs.declared.visibility.Visibility.{Visibility}
use Rattle.hir_nameres.specs.HirPerNs.declared.imports.ImportOrExternCrate.TheVariants as ways
use Rattle.hir_nameres.specs.HirPerNs.declared.imports.ImportOrGlob.TheVariants as value_ways
use Rattle.hir_nameres.specs.HirPerNs.declared.item_in_ns.ItemInNs.TheVariants as in_ns
use Rattle.hir_scope.proofs.AfterPush.{binding_of-pushed_by_glob, binding_of-pushed_other, item_at-with_entry, item_at-with_entry_other}
use Rattle.hir_glob_imports.specs.Keys.{slot_at}
use Rattle.hir_glob_imports.specs.declared.edge.Bound.{Bound}
use Rattle.hir_glob_imports.specs.declared.edge.Key.{Key}
use Rattle.hir_glob_imports.specs.declared.edge.Slot.{Slot}
use Rattle.hir_glob_imports.specs.declared.edge.Key.TheVariants.{Types, Values, Macros, Unnamed}
use Rattle.hir_glob_imports.proofs.Exact.{exact_slot}
use Rattle.hir_import_rules.specs.Names.{bound_at, bound_by, bound_trait, items_by, revised, with_macro, with_trait, with_type, with_value}

-- what stands at a key of a scope
abbrev pub bound_scope : ScopeValue → Key → Option Bound
bound_scope scope key = bound_at (binding_of scope) (unnamed_vis scope) key

-- a change of a scope leaves what stands at other keys
abbrev pub Keeps : Key → (ScopeValue → ScopeValue) → Type 0
Keeps key change = (scope : ScopeValue) (other : Key) → other ≢ key → bound_scope (change scope) other ≡ bound_scope scope other

-- ---- a list by names where one is written anew

module _ {X : Type 0} (new : X → X) (items : List (List ℕ × X)) (name : List ℕ) where
  abbrev anew : Option X → List (List ℕ × X)
  anew None = items
  anew (Some item) = set_value (is_at (slice_cmp nat_cmp name)) items (new item)

  set_is_entry : (item : X) → item_at items name ≡ Some item → anew (Some item) ≡ with_entry (slice_cmp nat_cmp) items name (new item)
  set_is_entry item e =
      sym (ap (λ (b : Bool). cond b (set_value (is_at (slice_cmp nat_cmp name)) items (new item)) (insert_entry (slice_cmp nat_cmp) items name (new item)))
      (ap is_some e))

  anew_here : (item : X) → item_at items name ≡ Some item → item_at (anew (item_at items name)) name ≡ Some (new item)
  anew_here item e =
      ap (λ (o : Option X). item_at (anew o) name) e ∙ ap (λ (es : List (List ℕ × X)). item_at es name) (set_is_entry item e) ∙ item_at-with_entry items name
      (new item)

  anew_other : (other : List ℕ) → other ≢ name → item_at (anew (item_at items name)) other ≡ item_at items other
  anew_other other ne = go (item_at items name) refl
    where
      go : (o : Option X) → item_at items name ≡ o → item_at (anew o) other ≡ item_at items other
      go None e = refl
      go (Some item) e = ap (λ (es : List (List ℕ × X)). item_at es other) (set_is_entry item e) ∙ item_at-with_entry_other items name (new item) other ne

-- ---- traits without a name

trait_itself : (id : TraitId) → trait_id.ghosts.eq id id ≡ true
trait_itself id = trait_laws.refl id

pub same_trait : (a b : TraitId) → trait_id.ghosts.eq a b ≡ true → a ≡ b
same_trait a b e =
    let same : slot_at 0 (Unnamed a) ≡ slot_at 0 (Unnamed b) = exact_slot (slot_at 0 (Unnamed a)) (slot_at 0 (Unnamed b)) (sym (trait_ties a b) ∙ e) in
    let keys : Unnamed a ≡ Unnamed b = ap (λ (s : Slot). s.key) same in
    cc

traits_apart : (a b : TraitId) → a ≢ b → trait_id.ghosts.eq a b ≡ false
traits_apart a b ne = go (trait_id.ghosts.eq a b) refl
  where
    go : (t : Bool) → trait_id.ghosts.eq a b ≡ t → t ≡ false
    go true e = absurd (ne (same_trait a b e))
    go false e = refl

module _ {V : Type 0} (id : TraitId) (v : V) where
  last_here : (es : List (TraitId × V)) → lookup (trait_id.ghosts.eq id) (insert_last trait_id.ghosts.eq es id v) ≡ Some v
  last_here [] = ap (λ (b : Bool). cond b (Some v) None) (trait_itself id)
  last_here (e ∷ es) = go (trait_id.ghosts.eq id e.0) refl (last_here es)
    where
      go : (b : Bool) → trait_id.ghosts.eq id e.0 ≡ b → lookup (trait_id.ghosts.eq id) (insert_last trait_id.ghosts.eq es id v) ≡ Some v
          → lookup (trait_id.ghosts.eq id) (if b then (e.0, v) ∷ es else e ∷ insert_last trait_id.ghosts.eq es id v) ≡ Some v
      go true s below = ap (λ (b : Bool). cond b (Some v) (lookup (trait_id.ghosts.eq id) es)) s
      go false s below = ap (λ (b : Bool). cond b (Some e.1) (lookup (trait_id.ghosts.eq id) (insert_last trait_id.ghosts.eq es id v))) s ∙ below

  last_other : (q : TraitId) → q ≢ id → (es : List (TraitId × V)) → lookup (trait_id.ghosts.eq q) (insert_last trait_id.ghosts.eq es id v)
      ≡ lookup (trait_id.ghosts.eq q) es
  last_other q ne [] = ap (λ (b : Bool). cond b (Some v) None) (traits_apart q id ne)
  last_other q ne (e ∷ es) = go (trait_id.ghosts.eq id e.0) refl (last_other q ne es)
    where
      go : (b : Bool) → trait_id.ghosts.eq id e.0 ≡ b → lookup (trait_id.ghosts.eq q) (insert_last trait_id.ghosts.eq es id v) ≡ lookup (trait_id.ghosts.eq q)
          es
          → lookup (trait_id.ghosts.eq q) (if b then (e.0, v) ∷ es else e ∷ insert_last trait_id.ghosts.eq es id v) ≡ lookup (trait_id.ghosts.eq q) (e ∷ es)
      go true s below =
          let away : trait_id.ghosts.eq q e.0 ≡ false = traits_apart q e.0 (λ f. ne (f ∙ sym (same_trait id e.0 s))) in
          ap (λ (b : Bool). cond b (Some v) (lookup (trait_id.ghosts.eq q) es)) away ∙ sym
          (ap (λ (b : Bool). cond b (Some e.1) (lookup (trait_id.ghosts.eq q) es)) away)
      go false s below = ap (cond (trait_id.ghosts.eq q e.0) (Some e.1)) below

pub keeps-trait : (id : TraitId) (vis : Visibility) (import : Option ImportId) → Keeps (Unnamed id) (with_trait id vis import)
keeps-trait id vis import scope (Types other) ne = refl
keeps-trait id vis import scope (Values other) ne = refl
keeps-trait id vis import scope (Macros other) ne = refl
keeps-trait id vis import scope (Unnamed other) ne =
    ap (λ (o : Option (Item (Unit {0}) ImportId)). bound_trait other (option_map (λ item. item.vis) o))
    (last_other id _ other (λ f. ne (ap Unnamed f)) scope.unnamed_traits)

pub trait_here : (id : TraitId) (vis : Visibility) (import : Option ImportId) (scope : ScopeValue)
    → bound_scope (with_trait id vis import scope) (Unnamed id) ≡ Some (record { def = in_ns.Types (definitions.TraitId id); vis = vis })
trait_here id vis import scope =
    ap (λ (o : Option (Item (Unit {0}) ImportId)). bound_trait id (option_map (λ item. item.vis) o)) (last_here id _ scope.unnamed_traits)

-- ---- definitions

pub keeps-redefined_type : (name : List ℕ) (def : ModuleDefId) (vis : Visibility) → Keeps (Types name) (with_type name def vis)
keeps-redefined_type name def vis scope (Types other) ne =
    ap (bound_by in_ns.Types) (anew_other (with_item_definition def vis) scope.types name other (λ f. ne (ap Types f)))
keeps-redefined_type name def vis scope (Values other) ne = refl
keeps-redefined_type name def vis scope (Macros other) ne = refl
keeps-redefined_type name def vis scope (Unnamed other) ne = refl

pub keeps-redefined_value : (name : List ℕ) (def : ModuleDefId) (vis : Visibility) → Keeps (Values name) (with_value name def vis)
keeps-redefined_value name def vis scope (Types other) ne = refl
keeps-redefined_value name def vis scope (Values other) ne =
    ap (bound_by in_ns.Values) (anew_other (with_item_definition def vis) scope.values name other (λ f. ne (ap Values f)))
keeps-redefined_value name def vis scope (Macros other) ne = refl
keeps-redefined_value name def vis scope (Unnamed other) ne = refl

pub keeps-redefined_macro : (name : List ℕ) (def : MacroId) (vis : Visibility) → Keeps (Macros name) (with_macro name def vis)
keeps-redefined_macro name def vis scope (Types other) ne = refl
keeps-redefined_macro name def vis scope (Values other) ne = refl
keeps-redefined_macro name def vis scope (Macros other) ne =
    ap (bound_by in_ns.Macros) (anew_other (with_item_definition def vis) scope.macros name other (λ f. ne (ap Macros f)))
keeps-redefined_macro name def vis scope (Unnamed other) ne = refl

-- ---- who may see

pub keeps-revised : (key : Key) (vis : Visibility) → Keeps key (revised key vis)
keeps-revised (Types name) vis scope (Types other) ne =
    ap (bound_by in_ns.Types) (anew_other (with_item_visibility vis) scope.types name other (λ f. ne (ap Types f)))
keeps-revised (Types name) vis scope (Values other) ne = refl
keeps-revised (Types name) vis scope (Macros other) ne = refl
keeps-revised (Types name) vis scope (Unnamed other) ne = refl
keeps-revised (Values name) vis scope (Types other) ne = refl
keeps-revised (Values name) vis scope (Values other) ne =
    ap (bound_by in_ns.Values) (anew_other (with_item_visibility vis) scope.values name other (λ f. ne (ap Values f)))
keeps-revised (Values name) vis scope (Macros other) ne = refl
keeps-revised (Values name) vis scope (Unnamed other) ne = refl
keeps-revised (Macros name) vis scope (Types other) ne = refl
keeps-revised (Macros name) vis scope (Values other) ne = refl
keeps-revised (Macros name) vis scope (Macros other) ne =
    ap (bound_by in_ns.Macros) (anew_other (with_item_visibility vis) scope.macros name other (λ f. ne (ap Macros f)))
keeps-revised (Macros name) vis scope (Unnamed other) ne = refl
keeps-revised (Unnamed id) vis scope other ne = keeps-trait id vis None scope other ne

-- ---- what is bound

-- where something is bound, there is an item of it
pub data IsItem {D I : Type 0} (in_namespace : D → ItemInNs) (o : Option (Item D I)) (b : Bound) : Type 0 where
  item : (i : Item D I) → o ≡ Some i → b ≡ record { def = in_namespace i.def; vis = i.vis } → IsItem in_namespace o b

pub item_of : {D I : Type 0} (in_namespace : D → ItemInNs) (o : Option (Item D I)) (b : Bound) → bound_by in_namespace o ≡ Some b → IsItem in_namespace o b
item_of in_namespace None b e = absurd cc
item_of in_namespace (Some i) b e = item i refl (let same : record { def = in_namespace i.def; vis = i.vis } ≡ b = cc in sym same)

pub vacant_of : {D I : Type 0} (in_namespace : D → ItemInNs) (o : Option (Item D I)) → bound_by in_namespace o ≡ None → o ≡ None
vacant_of in_namespace None e = refl
vacant_of in_namespace (Some i) e = absurd cc

-- a trait that is bound without a name is that
pub trait_def : (id : TraitId) (o : Option Visibility) (b : Bound) → bound_trait id o ≡ Some b → in_ns.Types (definitions.TraitId id) ≡ b.def
trait_def id None b e = absurd cc
trait_def id (Some vis) b e = let same : record { def = in_ns.Types (definitions.TraitId id); vis = vis } ≡ b = cc in ap (λ (x : Bound). x.def) same

pub redefined_type_here : (name : List ℕ) (def : ModuleDefId) (vis : Visibility) (scope : ScopeValue) (i : Item ModuleDefId ImportOrExternCrate)
    → item_at scope.types name ≡ Some i
    → bound_scope (with_type name def vis scope) (Types name) ≡ Some (record { def = in_ns.Types def; vis = vis })
redefined_type_here name def vis scope i e = ap (bound_by in_ns.Types) (anew_here (with_item_definition def vis) scope.types name i e)

pub redefined_value_here : (name : List ℕ) (def : ModuleDefId) (vis : Visibility) (scope : ScopeValue) (i : Item ModuleDefId ImportOrGlob)
    → item_at scope.values name ≡ Some i
    → bound_scope (with_value name def vis scope) (Values name) ≡ Some (record { def = in_ns.Values def; vis = vis })
redefined_value_here name def vis scope i e = ap (bound_by in_ns.Values) (anew_here (with_item_definition def vis) scope.values name i e)

pub redefined_macro_here : (name : List ℕ) (def : MacroId) (vis : Visibility) (scope : ScopeValue) (i : Item MacroId ImportOrExternCrate)
    → item_at scope.macros name ≡ Some i
    → bound_scope (with_macro name def vis scope) (Macros name) ≡ Some (record { def = in_ns.Macros def; vis = vis })
redefined_macro_here name def vis scope i e = ap (bound_by in_ns.Macros) (anew_here (with_item_definition def vis) scope.macros name i e)

pub revised_here : (key : Key) (vis : Visibility) (scope : ScopeValue) (b : Bound) → bound_scope scope key ≡ Some b
    → bound_scope (revised key vis scope) key ≡ Some (record { def = b.def; vis = vis })
revised_here (Types name) vis scope b e = go (item_of in_ns.Types (item_at scope.types name) b e)
  where
    go : IsItem in_ns.Types (item_at scope.types name) b → bound_scope (revised (Types name) vis scope) (Types name) ≡ Some (record { def = b.def; vis = vis })
    go (item i is same) =
        ap (bound_by in_ns.Types) (anew_here (with_item_visibility vis) scope.types name i is) ∙ ap (λ (x : Bound). Some (record { def = x.def; vis = vis }))
        (sym same)
revised_here (Values name) vis scope b e = go (item_of in_ns.Values (item_at scope.values name) b e)
  where
    go : IsItem in_ns.Values (item_at scope.values name) b → bound_scope (revised (Values name) vis scope) (Values name)
        ≡ Some (record { def = b.def; vis = vis })
    go (item i is same) =
        ap (bound_by in_ns.Values) (anew_here (with_item_visibility vis) scope.values name i is) ∙ ap (λ (x : Bound). Some (record { def = x.def; vis = vis }))
        (sym same)
revised_here (Macros name) vis scope b e = go (item_of in_ns.Macros (item_at scope.macros name) b e)
  where
    go : IsItem in_ns.Macros (item_at scope.macros name) b → bound_scope (revised (Macros name) vis scope) (Macros name)
        ≡ Some (record { def = b.def; vis = vis })
    go (item i is same) =
        ap (bound_by in_ns.Macros) (anew_here (with_item_visibility vis) scope.macros name i is) ∙ ap (λ (x : Bound). Some (record { def = x.def; vis = vis }))
        (sym same)
revised_here (Unnamed id) vis scope b e =
    trait_here id vis None scope ∙ ap (λ (d : ItemInNs). Some (record { def = d; vis = vis })) (trait_def id (unnamed_vis scope id) b e)

-- ---- pushes by a glob

module _ (globs : GlobNames) (place : Place) (by : GlobId) (vis : Visibility) where
  abbrev pub pushed_def : ItemInNs → ScopeValue → ScopeValue
  pushed_def def scope = pushed_scope globs place (items_by def vis) (Some (ways.Glob by)) scope

  pub keeps-pushed_type : (def : ModuleDefId) → Keeps (Types place.1) (pushed_def (in_ns.Types def))
  keeps-pushed_type def scope (Types other) ne =
      ap (λ (p : PerNs). bound_by in_ns.Types p.types) (binding_of-pushed_other globs place (items_by (in_ns.Types def) vis) (Some (ways.Glob by)) scope other
      (λ f. ne (ap Types f)))
  keeps-pushed_type def scope (Values other) ne = refl
  keeps-pushed_type def scope (Macros other) ne = refl
  keeps-pushed_type def scope (Unnamed other) ne = refl

  pub keeps-pushed_value : (def : ModuleDefId) → Keeps (Values place.1) (pushed_def (in_ns.Values def))
  keeps-pushed_value def scope (Types other) ne = refl
  keeps-pushed_value def scope (Values other) ne =
      ap (λ (p : PerNs). bound_by in_ns.Values p.values) (binding_of-pushed_other globs place (items_by (in_ns.Values def) vis) (Some (ways.Glob by)) scope
      other (λ f. ne (ap Values f)))
  keeps-pushed_value def scope (Macros other) ne = refl
  keeps-pushed_value def scope (Unnamed other) ne = refl

  pub keeps-pushed_macro : (def : MacroId) → Keeps (Macros place.1) (pushed_def (in_ns.Macros def))
  keeps-pushed_macro def scope (Types other) ne = refl
  keeps-pushed_macro def scope (Values other) ne = refl
  keeps-pushed_macro def scope (Macros other) ne =
      ap (λ (p : PerNs). bound_by in_ns.Macros p.macros) (binding_of-pushed_other globs place (items_by (in_ns.Macros def) vis) (Some (ways.Glob by)) scope
      other (λ f. ne (ap Macros f)))
  keeps-pushed_macro def scope (Unnamed other) ne = refl

  pub pushed_type_here : (def : ModuleDefId) (scope : ScopeValue) → item_at scope.types place.1 ≡ None
      → bound_scope (pushed_def (in_ns.Types def) scope) (Types place.1) ≡ Some (record { def = in_ns.Types def; vis = vis })
  pushed_type_here def scope vacant =
      ap (λ (p : PerNs). bound_by in_ns.Types p.types) (binding_of-pushed_by_glob globs place (Some (ways.Glob by)) scope (items_by (in_ns.Types def) vis) refl)
      ∙ ap (λ (o : Option (Item ModuleDefId ImportOrExternCrate)). bound_by in_ns.Types
      (first_of o (Some (record { def = def; vis = vis; import = Some (ways.Glob by) })))) vacant

  pub pushed_value_here : (def : ModuleDefId) (scope : ScopeValue) → item_at scope.values place.1 ≡ None
      → bound_scope (pushed_def (in_ns.Values def) scope) (Values place.1) ≡ Some (record { def = in_ns.Values def; vis = vis })
  pushed_value_here def scope vacant =
      ap (λ (p : PerNs). bound_by in_ns.Values p.values) (binding_of-pushed_by_glob globs place (Some (ways.Glob by)) scope (items_by (in_ns.Values def) vis)
      refl)
      ∙ ap (λ (o : Option (Item ModuleDefId ImportOrGlob)). bound_by in_ns.Values
      (first_of o (Some (record { def = def; vis = vis; import = Some (value_ways.Glob by) })))) vacant

  pub pushed_macro_here : (def : MacroId) (scope : ScopeValue) → item_at scope.macros place.1 ≡ None
      → bound_scope (pushed_def (in_ns.Macros def) scope) (Macros place.1) ≡ Some (record { def = in_ns.Macros def; vis = vis })
  pushed_macro_here def scope vacant =
      ap (λ (p : PerNs). bound_by in_ns.Macros p.macros) (binding_of-pushed_by_glob globs place (Some (ways.Glob by)) scope (items_by (in_ns.Macros def) vis)
      refl)
      ∙ ap (λ (o : Option (Item MacroId ImportOrExternCrate)). bound_by in_ns.Macros
      (first_of o (Some (record { def = def; vis = vis; import = Some (ways.Glob by) })))) vacant
