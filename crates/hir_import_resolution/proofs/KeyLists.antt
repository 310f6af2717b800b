-- Each key at which a target has something is listed.
use Rattle.std.proofs.Common.{◌≡◌, ◌∙◌, ap, sym, subst, refl, ℕ, List, [], ◌∷◌, ◌++◌, Bool, true, false, cond, Option, None, Some, is_some}
use mathlib.Core.Bool.{true≢false}
use Rattle.std.specs.BTreeMap.{is_at}
use Rattle.std.specs.Cmp.Lexicographic.{slice_cmp}
use Rattle.std.specs.Map.{lookup, values_of}
use Rattle.std.specs.Option.{option_and_then, option_map}
use Rattle.std.specs.Ordering.{is_eq, nat_cmp}
use Rattle.std.specs.Prelude.{Contains, IsSome, map}
use Rattle.std.specs.declared.cmp.Ordering.{Ordering}
use Rattle.std.specs.declared.cmp.Ordering.TheVariants.{Less, Equal, Greater}
use Rattle.std.proofs.lemmas.List.Elements.{Contains-append_left, Contains-append_right, Contains-push}
use Rattle.std.proofs.lemmas.Map.Lookups.{exact_bytes}
use Rattle.hir_nameres.specs.HirIds.contracts.ids.TraitIdPartialEq.TheImpl as trait_id
use Rattle.hir_nameres.specs.HirIds.declared.ids.ModuleDefId.TheVariants as definitions
use Rattle.hir_nameres.specs.HirIds.declared.ids.TraitId.{TraitId}
use Rattle.hir_nameres.specs.HirBase.Shape.{has_constructor}
use Rattle.hir_nameres.specs.HirScope.Entries.{item_at}
use Rattle.hir_nameres.specs.HirPerNs.PerNs.{Item, keep_item, with_constructor}
use Rattle.hir_nameres.specs.HirScope.Scope.{ScopeValue, binding_of}
use Rattle.hir_nameres.specs.HirScope.Scope.Reads.{traits_among, unnamed_vis}
use Rattle.hir_nameres.specs.HirPerNs.declared.imports.ImportId.{ImportId}
use Rattle.hir_nameres.specs.HirPerNs.declared.item_in_ns.ItemInNs.{ItemInNs}
use Rattle.hir_nameres.specs.HirPerNs.declared.per_ns.Namespace.{Namespace}
use Rattle.hir_nameres.specs.HirPerNs.declared.per_ns.PerNs.{PerNs}
use Rattle.hir_nameres.specs.HirPerNs.declared.visibility.Visibility.{Visibility}
use Rattle.hir_nameres.specs.HirPerNs.declared.item_in_ns.ItemInNs.TheVariants as in_ns
use Rattle.hir_nameres.specs.HirPerNs.declared.per_ns.Namespace.TheVariants as namespaces
use Rattle.hir_nameres.specs.HirPerNs.declared.visibility.Visibility.TheVariants.{Public}
use Rattle.hir_def_map_rules.specs.Overlay.{module_in, overlay, variants_in}
use Rattle.hir_def_map_rules.specs.State.{ModuleValue, Variants, at_name, entry_of, module_at}
use Rattle.hir_nameres.specs.HirMapParts.declared.enum_variants.EnumVariant.{EnumVariant}
use Rattle.hir_glob_imports.specs.declared.edge.Key.{Key}
use Rattle.hir_glob_imports.specs.declared.edge.Target.{Target}
use Rattle.hir_glob_imports.specs.declared.edge.Key.TheVariants.{Types, Values, Macros, Unnamed}
use Rattle.hir_glob_imports.specs.declared.edge.Target.TheVariants as targets
use Rattle.hir_import_rules.specs.Directives.{open_items}
use Rattle.hir_import_resolution.specs.KeyLists.{enum_keys, has_namespace, key_in, keys_among, keys_in, keys_of, name_keys, scope_keys, trait_key, trait_keys}
use Rattle.hir_import_resolution.specs.KeyLists.{traits_in, variant_keys}
use Rattle.hir_import_rules.specs.Names.{ScopesValue, bound_at, bound_by, bound_of, bound_trait, is_foreign, is_open, open_vis, trait_vis, variant_items}
use Rattle.hir_import_rules.specs.Visibilities.{is_public}
use Rattle.hir_import_rules.specs.ScopeLaws.{same_trait}

tie : (o : Ordering) → is_eq o ≡ true → o ≡ Equal
tie Less e = absurd (true≢false (sym e))
tie Equal e = refl
tie Greater e = absurd (true≢false (sym e))

text_at : (x y : List ℕ) → is_at (slice_cmp nat_cmp x) y ≡ true → x ≡ y
text_at x y e = exact_bytes x y (tie (slice_cmp nat_cmp x y) e)

-- ---- lists of keys

first_listed : (key : Key) (keys : List Key) (other : Key) → key ≡ other → Contains (key ∷ keys) other
first_listed key keys other same = subst (Contains (key ∷ keys)) same (Contains-append_left (key ∷ []) keys key (Contains-push [] key))

later_listed : (b : Bool) (key : Key) (keys : List Key) (other : Key) → Contains keys other → Contains (cond b (key ∷ keys) keys) other
later_listed true key keys other h = Contains-append_right (key ∷ []) keys other h
later_listed false key keys other h = h

listed_where : (b : Bool) (key : Key) (keys : List Key) (other : Key) → b ≡ true → key ≡ other → Contains (cond b (key ∷ keys) keys) other
listed_where b key keys other holds same =
    subst (λ (t : Bool). Contains (cond t (key ∷ keys) keys) other) (sym holds) (first_listed key keys other same)

module _ {D I : Type 0} (namespace : Namespace) (crossing : Bool) (name : List ℕ) where
  name_listed : (es : List (List ℕ × Item D I)) (i : Item D I) → item_at es name ≡ Some i → is_open crossing i.vis ≡ true
      → Contains (name_keys namespace crossing es) (key_in namespace name)
  name_listed [] i found shown = absurd cc
  name_listed (e ∷ es) i found shown = go (λ f. name_listed es i f shown) (is_at (slice_cmp nat_cmp name) e.0) refl found
    where
      go : (item_at es name ≡ Some i → Contains (name_keys namespace crossing es) (key_in namespace name))
          → (b : Bool) → is_at (slice_cmp nat_cmp name) e.0 ≡ b → cond b (Some e.1) (item_at es name) ≡ Some i
          → Contains (name_keys namespace crossing (e ∷ es)) (key_in namespace name)
      go below true s f =
          let here : e.1 ≡ i = cc in
          listed_where (is_open crossing e.1.vis) (key_in namespace e.0) (name_keys namespace crossing es) (key_in namespace name)
          (ap (λ (x : Item D I). is_open crossing x.vis) here ∙ shown) (ap (key_in namespace) (sym (text_at name e.0 s)))
      go below false s f = later_listed (is_open crossing e.1.vis) (key_in namespace e.0) (name_keys namespace crossing es) (key_in namespace name) (below f)

module _ (namespace : Namespace) (name : List ℕ) where
  variant_listed : (vs : Variants) (v : EnumVariant) → at_name vs name ≡ Some v → has_namespace namespace (variant_items (Some v)) ≡ true
      → Contains (variant_keys namespace vs) (key_in namespace name)
  variant_listed [] v found there = absurd cc
  variant_listed (e ∷ es) v found there = go (λ f. variant_listed es v f there) (is_at (slice_cmp nat_cmp name) e.0) refl found
    where
      go : (at_name es name ≡ Some v → Contains (variant_keys namespace es) (key_in namespace name))
          → (b : Bool) → is_at (slice_cmp nat_cmp name) e.0 ≡ b → cond b (Some e.1) (at_name es name) ≡ Some v → Contains (variant_keys namespace (e ∷ es))
          (key_in namespace name)
      go below true s f =
          let here : e.1 ≡ v = cc in
          listed_where (has_namespace namespace (variant_items (Some e.1))) (key_in namespace e.0) (variant_keys namespace es) (key_in namespace name)
          (ap (λ (x : EnumVariant). has_namespace namespace (variant_items (Some x))) here ∙ there) (ap (key_in namespace) (sym (text_at name e.0 s)))
      go below false s f =
          later_listed (has_namespace namespace (variant_items (Some e.1))) (key_in namespace e.0) (variant_keys namespace es) (key_in namespace name) (below f)

module _ (crossing : Bool) (scope : ScopeValue) where
  past_traits : (ids others : List TraitId) (key : Key) → Contains (trait_keys crossing scope others) key → Contains (trait_keys crossing scope (ids ++ others))
      key
  past_traits [] others key h = h
  past_traits (id ∷ ids) others key h =
      Contains-append_right (trait_key crossing id (unnamed_vis scope id)) (trait_keys crossing scope (ids ++ others)) key (past_traits ids others key h)

  trait_here : (id : TraitId) (vis : Visibility) → unnamed_vis scope id ≡ Some vis → is_open crossing vis ≡ true
      → Contains (trait_key crossing id (unnamed_vis scope id)) (Unnamed id)
  trait_here id vis seen shown =
      subst (λ (o : Option Visibility). Contains (trait_key crossing id o) (Unnamed id)) (sym seen)
      (listed_where (is_open crossing vis) (Unnamed id) [] (Unnamed id) shown refl)

  trait_listed : (id : TraitId) (vis : Visibility) → unnamed_vis scope id ≡ Some vis → is_open crossing vis ≡ true
      → (ts : List (TraitId × Item (Unit {0}) ImportId)) (i : Item (Unit {0}) ImportId) → lookup (trait_id.ghosts.eq id) ts ≡ Some i
      → Contains (trait_keys crossing scope (map (λ (entry : TraitId × Item (Unit {0}) ImportId). entry.0) ts)) (Unnamed id)
  trait_listed id vis seen shown [] i found = absurd cc
  trait_listed id vis seen shown (t ∷ ts) i found = go (λ f. trait_listed id vis seen shown ts i f) (trait_id.ghosts.eq id t.0) refl found
    where
      rest : List Key
      rest = trait_keys crossing scope (map (λ (entry : TraitId × Item (Unit {0}) ImportId). entry.0) ts)

      go : (lookup (trait_id.ghosts.eq id) ts ≡ Some i → Contains rest (Unnamed id))
          → (b : Bool) → trait_id.ghosts.eq id t.0 ≡ b → cond b (Some t.1) (lookup (trait_id.ghosts.eq id) ts) ≡ Some i
          → Contains (trait_key crossing t.0 (unnamed_vis scope t.0) ++ rest) (Unnamed id)
      go below true s f =
          Contains-append_left (trait_key crossing t.0 (unnamed_vis scope t.0)) rest (Unnamed id)
          (subst (λ (x : TraitId). Contains (trait_key crossing x (unnamed_vis scope x)) (Unnamed id)) (same_trait id t.0 s) (trait_here id vis seen shown))
      go below false s f = Contains-append_right (trait_key crossing t.0 (unnamed_vis scope t.0)) rest (Unnamed id) (below f)

-- ---- what is open

-- there is an item that is open
data IsOpenItem {D I : Type 0} (crossing : Bool) (o : Option (Item D I)) : Type 0 where
  open_item : (i : Item D I) → o ≡ Some i → is_open crossing i.vis ≡ true → IsOpenItem crossing o

open_found : {D I : Type 0} (in_namespace : D → ItemInNs) (crossing : Bool) (o : Option (Item D I))
    → is_some (bound_by in_namespace (cond crossing (keep_item is_public o) o)) ≡ true → IsOpenItem crossing o
open_found in_namespace true None h = absurd cc
open_found {D} {I} in_namespace true (Some i) h = go (is_public i.vis) refl h
  where
    go : (b : Bool) → is_public i.vis ≡ b → is_some (bound_by in_namespace (cond b (Some i) None)) ≡ true → IsOpenItem true (Some i)
    go true e f = open_item i refl e
    go false e f = absurd cc
open_found in_namespace false None h = absurd cc
open_found in_namespace false (Some i) h = open_item i refl refl

open_trait : (id : TraitId) (crossing : Bool) (vis : Option Visibility) → is_some (bound_trait id (open_vis crossing vis)) ≡ true → (v : Visibility)
    × (vis ≡ Some v) × (is_open crossing v ≡ true)
open_trait id crossing None h = absurd cc
open_trait id crossing (Some v) h = go (is_open crossing v) refl h
  where
    go : (b : Bool) → is_open crossing v ≡ b → is_some (bound_trait id (cond b (Some v) None)) ≡ true → (w : Visibility) × (Some v ≡ Some w)
        × (is_open crossing w ≡ true)
    go true e f = (v, refl, e)
    go false e f = absurd cc

open_types : (crossing : Bool) (items : PerNs) → (open_items crossing items).types ≡ cond crossing (keep_item is_public items.types) items.types
open_types true items = refl
open_types false items = refl

open_values : (crossing : Bool) (items : PerNs) → (open_items crossing items).values ≡ cond crossing (keep_item is_public items.values) items.values
open_values true items = refl
open_values false items = refl

open_macros : (crossing : Bool) (items : PerNs) → (open_items crossing items).macros ≡ cond crossing (keep_item is_public items.macros) items.macros
open_macros true items = refl
open_macros false items = refl

vis_there : {I : Type 0} (o : Option (Item (Unit {0}) I)) (v : Visibility) → option_map (λ (i : Item (Unit {0}) I). i.vis) o ≡ Some v → (i : Item (Unit {0}) I)
    × (o ≡ Some i) × (i.vis ≡ v)
vis_there None v e = absurd cc
vis_there (Some i) v e = (i, refl, let same : i.vis ≡ v = cc in same)

-- ---- scopes

module _ (crossing : Bool) (scope : ScopeValue) where
  abbrev types : List Key
  types = name_keys namespaces.Types crossing scope.types

  abbrev values : List Key
  values = name_keys namespaces.Values crossing scope.values

  abbrev macros : List Key
  macros = name_keys namespaces.Macros crossing scope.macros

  abbrev traits : List Key
  traits = trait_keys crossing scope (traits_in scope)

  among_types : (key : Key) → Contains types key → Contains (scope_keys crossing scope) key
  among_types key h =
      Contains-append_left ((types ++ values) ++ macros) traits key
      (Contains-append_left (types ++ values) macros key (Contains-append_left types values key h))

  among_values : (key : Key) → Contains values key → Contains (scope_keys crossing scope) key
  among_values key h =
      Contains-append_left ((types ++ values) ++ macros) traits key
      (Contains-append_left (types ++ values) macros key (Contains-append_right types values key h))

  among_macros : (key : Key) → Contains macros key → Contains (scope_keys crossing scope) key
  among_macros key h = Contains-append_left ((types ++ values) ++ macros) traits key (Contains-append_right (types ++ values) macros key h)

  among_traits : (key : Key) → Contains traits key → Contains (scope_keys crossing scope) key
  among_traits key h = Contains-append_right ((types ++ values) ++ macros) traits key h

  scope_listed : (key : Key) → is_some (bound_at (λ name. open_items crossing (binding_of scope name)) (λ id. open_vis crossing (unnamed_vis scope id)) key)
      ≡ true
      → Contains (scope_keys crossing scope) key
  scope_listed (Types name) h =
      go (open_found in_ns.Types crossing (item_at scope.types name)
      (ap (λ o. is_some (bound_by in_ns.Types o)) (sym (open_types crossing (binding_of scope name))) ∙ h))
    where
      go : IsOpenItem crossing (item_at scope.types name) → Contains (scope_keys crossing scope) (Types name)
      go (open_item i is shown) = among_types (Types name) (name_listed namespaces.Types crossing name scope.types i is shown)
  scope_listed (Values name) h =
      go (open_found in_ns.Values crossing (item_at scope.values name)
      (ap (λ o. is_some (bound_by in_ns.Values o)) (sym (open_values crossing (binding_of scope name))) ∙ h))
    where
      go : IsOpenItem crossing (item_at scope.values name) → Contains (scope_keys crossing scope) (Values name)
      go (open_item i is shown) = among_values (Values name) (name_listed namespaces.Values crossing name scope.values i is shown)
  scope_listed (Macros name) h =
      go (open_found in_ns.Macros crossing (item_at scope.macros name)
      (ap (λ o. is_some (bound_by in_ns.Macros o)) (sym (open_macros crossing (binding_of scope name))) ∙ h))
    where
      go : IsOpenItem crossing (item_at scope.macros name) → Contains (scope_keys crossing scope) (Macros name)
      go (open_item i is shown) = among_macros (Macros name) (name_listed namespaces.Macros crossing name scope.macros i is shown)
  scope_listed (Unnamed id) h =
      let shown = open_trait id crossing (unnamed_vis scope id) h in
      let found = vis_there (lookup (trait_id.ghosts.eq id) scope.unnamed_traits) shown.0 shown.1 in
      among_traits (Unnamed id)
      (past_traits crossing scope (traits_among (values_of scope.types)) (map (λ (entry : TraitId × Item (Unit {0}) ImportId). entry.0) scope.unnamed_traits)
      (Unnamed id)
      (trait_listed crossing scope id shown.0 shown.1 shown.2 scope.unnamed_traits found.0 found.1))

-- the keys of a module, where it is there
module_listed : (crossing : Bool) (o : Option ModuleValue) (key : Key)
    → is_some (bound_at (λ name. open_items crossing (entry_of o name)) (λ id. open_vis crossing (trait_vis o id)) key) ≡ true
    → Contains (keys_in crossing (option_map (λ (m : ModuleValue). m.scope) o)) key
module_listed true None (Types name) h = absurd cc
module_listed true None (Values name) h = absurd cc
module_listed true None (Macros name) h = absurd cc
module_listed false None (Types name) h = absurd cc
module_listed false None (Values name) h = absurd cc
module_listed false None (Macros name) h = absurd cc
module_listed crossing None (Unnamed id) h = absurd cc
module_listed crossing (Some m) (Types name) h = scope_listed crossing m.scope (Types name) h
module_listed crossing (Some m) (Values name) h = scope_listed crossing m.scope (Values name) h
module_listed crossing (Some m) (Macros name) h = scope_listed crossing m.scope (Macros name) h
module_listed crossing (Some m) (Unnamed id) h = scope_listed crossing m.scope (Unnamed id) h

all_open : (vis : Option Visibility) → open_vis false vis ≡ vis
all_open None = refl
all_open (Some vis) = refl

-- ---- enums

no_macros : (v : EnumVariant) → (variant_items (Some v)).macros ≡ None
no_macros v = go (has_constructor v.shape)
  where
    go : (b : Bool) → (with_constructor (definitions.EnumVariantId v.id) Public (cond b (Some Public) None) None).macros ≡ None
    go true = refl
    go false = refl

some_bound : {D I : Type 0} (in_namespace : D → ItemInNs) (o : Option (Item D I)) → is_some (bound_by in_namespace o) ≡ true → is_some o ≡ true
some_bound in_namespace None h = h
some_bound in_namespace (Some i) h = refl

enum_listed : (o : Option Variants) (key : Key) → is_some (bound_at (λ name. variant_items (option_and_then (λ (vs : Variants). at_name vs name) o)) (λ _. None)
    key) ≡ true → Contains (keys_among o) key
enum_listed None (Types name) h = absurd cc
enum_listed None (Values name) h = absurd cc
enum_listed None (Macros name) h = absurd cc
enum_listed None (Unnamed id) h = absurd cc
enum_listed (Some vs) (Types name) h = go (at_name vs name) refl h
  where
    go : (o : Option EnumVariant) → at_name vs name ≡ o → is_some (bound_by in_ns.Types (variant_items o).types) ≡ true → Contains (enum_keys vs) (Types name)
    go None e f = absurd cc
    go (Some v) e f =
        Contains-append_left (variant_keys namespaces.Types vs) (variant_keys namespaces.Values vs) (Types name)
        (variant_listed namespaces.Types name vs v e (some_bound in_ns.Types (variant_items (Some v)).types f))
enum_listed (Some vs) (Values name) h = go (at_name vs name) refl h
  where
    go : (o : Option EnumVariant) → at_name vs name ≡ o → is_some (bound_by in_ns.Values (variant_items o).values) ≡ true
        → Contains (enum_keys vs) (Values name)
    go None e f = absurd cc
    go (Some v) e f =
        Contains-append_right (variant_keys namespaces.Types vs) (variant_keys namespaces.Values vs) (Values name)
        (variant_listed namespaces.Values name vs v e (some_bound in_ns.Values (variant_items (Some v)).values f))
enum_listed (Some vs) (Macros name) h = go (at_name vs name) h
  where
    go : (o : Option EnumVariant) → is_some (bound_by in_ns.Macros (variant_items o).macros) ≡ true → Contains (enum_keys vs) (Macros name)
    go None f = absurd cc
    go (Some v) f =
        let no : false ≡ true = ap (λ o. is_some (bound_by in_ns.Macros o)) (sym (no_macros v)) ∙ f in
        absurd (true≢false (sym no))
enum_listed (Some vs) (Unnamed id) h = absurd cc

-- ---- targets

pub each_is_listed : (n : ScopesValue) (of : Target) (key : Key) → IsSome (bound_of n of key) → Contains (keys_of n of) key
each_is_listed n (targets.Own at) (Types name) h = module_listed false (module_at n.map at) (Types name) h
each_is_listed n (targets.Own at) (Values name) h = module_listed false (module_at n.map at) (Values name) h
each_is_listed n (targets.Own at) (Macros name) h = module_listed false (module_at n.map at) (Macros name) h
each_is_listed n (targets.Own at) (Unnamed id) h =
    module_listed false (module_at n.map at) (Unnamed id)
    (ap (λ (o : Option Visibility). is_some (bound_trait id o)) (all_open (trait_vis (module_at n.map at) id)) ∙ h)
each_is_listed n (targets.Module m) (Types name) h = module_listed (is_foreign n.map.id m) (module_in n.finished m) (Types name) h
each_is_listed n (targets.Module m) (Values name) h = module_listed (is_foreign n.map.id m) (module_in n.finished m) (Values name) h
each_is_listed n (targets.Module m) (Macros name) h = module_listed (is_foreign n.map.id m) (module_in n.finished m) (Macros name) h
each_is_listed n (targets.Module m) (Unnamed id) h = module_listed (is_foreign n.map.id m) (module_in n.finished m) (Unnamed id) h
each_is_listed n (targets.Enum id) (Types name) h = enum_listed (variants_in (overlay n.finished n.map) id) (Types name) h
each_is_listed n (targets.Enum id) (Values name) h = enum_listed (variants_in (overlay n.finished n.map) id) (Values name) h
each_is_listed n (targets.Enum id) (Macros name) h = enum_listed (variants_in (overlay n.finished n.map) id) (Macros name) h
each_is_listed n (targets.Enum id) (Unnamed tr) h = enum_listed (variants_in (overlay n.finished n.map) id) (Unnamed tr) h

-- ---- traits without a name

-- a trait that has a visibility without a name is listed
pub unnamed_listed : (scope : ScopeValue) (id : TraitId) (vis : Visibility) → unnamed_vis scope id ≡ Some vis → Contains (traits_in scope) id
unnamed_listed scope id vis is =
    Contains-append_right (traits_among (values_of scope.types)) (map (λ (entry : TraitId × Item (Unit {0}) ImportId). entry.0) scope.unnamed_traits) id
    (go scope.unnamed_traits (option_found (lookup (trait_id.ghosts.eq id) scope.unnamed_traits) is))
  where
    option_found : (o : Option (Item (Unit {0}) ImportId)) → option_map (λ (item : Item (Unit {0}) ImportId). item.vis) o ≡ Some vis → is_some o ≡ true
    option_found None e = absurd cc
    option_found (Some x) e = refl

    go : (ts : List (TraitId × Item (Unit {0}) ImportId)) → is_some (lookup (trait_id.ghosts.eq id) ts) ≡ true
        → Contains (map (λ (entry : TraitId × Item (Unit {0}) ImportId). entry.0) ts) id
    go [] e = absurd cc
    go (t ∷ ts) e = on (trait_id.ghosts.eq id t.0) refl e (go ts)
      where
        ids : List TraitId
        ids = map (λ (entry : TraitId × Item (Unit {0}) ImportId). entry.0) ts

        on : (b : Bool) → trait_id.ghosts.eq id t.0 ≡ b → is_some (cond b (Some t.1) (lookup (trait_id.ghosts.eq id) ts)) ≡ true
            → (is_some (lookup (trait_id.ghosts.eq id) ts) ≡ true → Contains ids id) → Contains (t.0 ∷ ids) id
        on true same e below =
            Contains-append_left (t.0 ∷ []) ids id (subst (λ (x : TraitId). Contains (x ∷ []) id) (same_trait id t.0 same) (Contains-push [] id))
        on false other e below = Contains-append_right (t.0 ∷ []) ids id (below e)

-- the same of the scope of a module
pub listed_in : (m : Option ModuleValue) (scope : ScopeValue) (id : TraitId) (vis : Visibility) → Some scope ≡ option_map (λ (m : ModuleValue). m.scope) m
    → trait_vis m id ≡ Some vis
    → Contains (traits_in scope) id
listed_in None scope id vis there is = absurd cc
listed_in (Some m) scope id vis there is =
    let same : scope ≡ m.scope = cc (there) in unnamed_listed scope id vis ((λ i. unnamed_vis (same i) id) ∙ is)

pub none_in : (m : Option ModuleValue) (id : TraitId) (vis : Visibility) → None ≡ option_map (λ (m : ModuleValue). m.scope) m → trait_vis m id ≡ Some vis → ⊥
none_in None id vis there is = absurd cc
none_in (Some m) id vis there is = absurd cc
