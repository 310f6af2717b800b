-- What do a push and one more module leave of a map?
use Rattle.std.specs.Prelude.{◌≡◌, ◌≢◌, ℕ, zero, suc, ◌<◌, ◌++◌, List, [], ◌∷◌, length, Bool, true, false, not, ◌&&◌, ◌||◌, cond, Option, None, Some, is_some}
use Rattle.std.specs.Prelude.{map as list_map, option_map, slice_get}
use Rattle.std.specs.Ordering.{nat_cmp, is_eq, match_ordering}
use Rattle.std.specs.Cmp.Lexicographic.{slice_cmp}
use Rattle.std.specs.BTreeMap.{is_at}
use Rattle.std.specs.Map.{set_value}
use Rattle.std.specs.declared.cmp.Ordering.{Ordering}
use Rattle.std.specs.declared.cmp.Ordering.TheVariants.{Less, Equal, Greater}
use Rattle.std.proofs.Common.{refl, ap, sym, ◌∙◌, arith}
use Rattle.std.proofs.lemmas.Map.Lookups.{exact_bytes}
use Rattle.hir_scope.specs.HirIds.declared.macro_kind.MacroId.{MacroId}
use Rattle.hir_scope.specs.HirIds.declared.ids.MapId.{MapId}
use Rattle.hir_scope.specs.HirIds.declared.ids.ModuleDefId.{ModuleDefId}
use Rattle.hir_scope.specs.HirIds.declared.ids.ModuleId.{ModuleId}
use Rattle.hir_scope.specs.HirIds.contracts.ids.MapIdPartialEq.TheImpl as map_id
use Rattle.hir_scope.specs.HirIds.contracts.ids.ModuleDefIdPartialEq.TheImpl as module_def
use Rattle.hir_scope.specs.HirIds.contracts.macro_kind.MacroIdPartialEq.TheImpl as makro
use Rattle.hir_scope.specs.HirPerNs.contracts.imports.ImportOrExternCratePartialEq.TheImpl as import_or_extern_crate
use Rattle.hir_scope.specs.HirPerNs.contracts.imports.ImportOrGlobPartialEq.TheImpl as import_or_glob
use Rattle.hir_scope.specs.HirPerNs.declared.imports.ImportOrDef.{ImportOrDef}
use Rattle.hir_scope.specs.HirPerNs.declared.imports.ImportOrExternCrate.{ImportOrExternCrate}
use Rattle.hir_scope.specs.HirPerNs.declared.imports.ImportOrGlob.{ImportOrGlob}
use Rattle.hir_scope.specs.HirPerNs.declared.per_ns.PerNs.{PerNs}
use Rattle.hir_scope.specs.HirPerNs.declared.visibility.Visibility.{Visibility}
use Rattle.hir_scope.specs.HirPerNs.PerNs.{Item, item_of, value_import}
use Rattle.hir_scope.specs.Bindings.{Candidate, Push, after_push, slot_after, is_reresolved_by, takes, macro_candidate, written_places, written_items, taken}
use Rattle.hir_scope.specs.Bindings.{type_candidate, value_candidate}
use Rattle.hir_scope.specs.Globs.{GlobNames, Place}
use Rattle.hir_scope.specs.Entries.{with_entry, has_key, item_at}
use Rattle.hir_scope.specs.ImportRecords.{is_glob}
use Rattle.hir_scope.specs.Scope.{ScopeValue, binding_of}
use Rattle.hir_scope.specs.Scope.Push.{written_scope, pushed_globs, pushed_scope, taken_candidates}
use Rattle.hir_def_map_rules.specs.Types.{ModuleOrigin}
use Rattle.hir_def_map_rules.specs.State.{Map, ModuleValue, at_name, with_name, changed_at, entry_of, entry_at, globs_in, globs_after, module_at, new_id}
use Rattle.hir_def_map_rules.specs.State.{new_module, no_globs, numbered, place_at, pushed, pushed_module, with_child, with_module, with_module_scope}
use Rattle.hir_def_map_rules.specs.State.{with_scope}
use Rattle.hir_def_map_rules.specs.Overlay.{Maps, overlay, holders_or, holders_under, placed_in}
use Rattle.hir_def_map_rules.specs.Ancestors.{frame_of, frames_of}
pub use Rattle.hir_map_parts.proofs.Texts.{same_text, other_text}

-- ---- a list by names, with one more value

module _ {V : Type 0} where
  -- the value stands at its name
  pub at_name-with_name : (es : List (List ℕ × V)) (name : List ℕ) (v : V) → at_name (with_name es name v) name ≡ Some v
  at_name-with_name [] name v = rw (same_text name) refl
  at_name-with_name (e ∷ es) name v = go (at_name-with_name es name v) (slice_cmp nat_cmp name e.0) refl
    where
      go : at_name (with_name es name v) name ≡ Some v → (o : Ordering) → slice_cmp nat_cmp name e.0 ≡ o
          → at_name (match_ordering o ((name, v) ∷ e ∷ es) ((e.0, v) ∷ es) (e ∷ with_name es name v)) name ≡ Some v
      go below Less s = rw (same_text name) refl
      go below Equal s = let here : is_at (slice_cmp nat_cmp name) e.0 ≡ true = ap is_eq s in rw here refl
      go below Greater s = let here : is_at (slice_cmp nat_cmp name) e.0 ≡ false = ap is_eq s in rw here below

  -- what stands at other names stays
  pub at_name-with_name_other : (es : List (List ℕ × V)) (name other : List ℕ) (v : V) → other ≢ name → at_name (with_name es name v) other ≡ at_name es other
  at_name-with_name_other [] name other v ne = rw (other_text other name ne) refl
  at_name-with_name_other (e ∷ es) name other v ne = go (at_name-with_name_other es name other v ne) (slice_cmp nat_cmp name e.0) refl
    where
      go : at_name (with_name es name v) other ≡ at_name es other → (o : Ordering) → slice_cmp nat_cmp name e.0 ≡ o
          → at_name (match_ordering o ((name, v) ∷ e ∷ es) ((e.0, v) ∷ es) (e ∷ with_name es name v)) other ≡ at_name (e ∷ es) other
      go below Less s = rw (other_text other name ne) refl
      go below Equal s =
          let away : is_at (slice_cmp nat_cmp other) e.0 ≡ false = other_text other e.0 (λ k. ne (k ∙ sym (exact_bytes name e.0 s))) in rw away refl
      go below Greater s = ap (cond (is_at (slice_cmp nat_cmp other) e.0) (Some e.1)) below

-- ---- a list with one value changed

module _ {A : Type 0} where
  changed_here : (xs : List A) (at : ℕ) (change : A → A) (x : A) → slice_get xs at ≡ Some x → slice_get (changed_at xs at change) at ≡ Some (change x)
  changed_here [] at change x e = absurd cc
  changed_here (y ∷ ys) zero change x e = let same : y ≡ x = cc in ap (λ (z : A). Some (change z)) same
  changed_here (y ∷ ys) (suc at) change x e = changed_here ys at change x e

  changed_elsewhere : (xs : List A) (at : ℕ) (change : A → A) (k : ℕ) → k ≢ at → slice_get (changed_at xs at change) k ≡ slice_get xs k
  changed_elsewhere [] at change k ne = refl
  changed_elsewhere (y ∷ ys) zero change zero ne = absurd (ne refl)
  changed_elsewhere (y ∷ ys) zero change (suc k) ne = refl
  changed_elsewhere (y ∷ ys) (suc at) change zero ne = refl
  changed_elsewhere (y ∷ ys) (suc at) change (suc k) ne = changed_elsewhere ys at change k (λ e. ne (ap suc e))

  -- what a change keeps of each value, and what is there of none, stays at each place
  pub kept : {B : Type 0} (part : Option A → B) (xs : List A) (at : ℕ) (change : A → A) → ((x : A) → part (Some (change x)) ≡ part (Some x)) → (k : ℕ)
      → part (slice_get (changed_at xs at change) k) ≡ part (slice_get xs k)
  kept part [] at change keeps k = refl
  kept part (x ∷ xs) zero change keeps zero = keeps x
  kept part (x ∷ xs) zero change keeps (suc k) = refl
  kept part (x ∷ xs) (suc at) change keeps zero = refl
  kept part (x ∷ xs) (suc at) change keeps (suc k) = kept part xs at change keeps k

  pub length-changed : (xs : List A) (at : ℕ) (change : A → A) → length (changed_at xs at change) ≡ length xs
  length-changed [] at change = refl
  length-changed (x ∷ xs) zero change = refl
  length-changed (x ∷ xs) (suc at) change = ap suc (length-changed xs at change)

  -- before the last of a longer list
  before_last : (xs : List A) (y : A) (k : ℕ) → k < length xs → slice_get (xs ++ y ∷ []) k ≡ slice_get xs k
  before_last [] y k h = absurd (omega arith)
  before_last (x ∷ xs) y zero h = refl
  before_last (x ∷ xs) y (suc k) h = before_last xs y k (omega arith)

  -- one more value that is as good as none, for a part of it
  as_none : {B : Type 0} (part : Option A → B) (xs : List A) (y : A) → part (Some y) ≡ part None → (k : ℕ) → part (slice_get (xs ++ y ∷ []) k)
      ≡ part (slice_get xs k)
  as_none part [] y e zero = e
  as_none part [] y e (suc k) = refl
  as_none part (x ∷ xs) y e zero = refl
  as_none part (x ∷ xs) y e (suc k) = as_none part xs y e k

-- ---- a list by names in which a name has a value: where it stands, or at its place in the order

module _ {V : Type 0} where
  found : (es : List (List ℕ × V)) (name : List ℕ) (v : V) → is_some (item_at es name) ≡ true
      → item_at (set_value (is_at (slice_cmp nat_cmp name)) es v) name ≡ Some v
  found [] name v there = absurd (let no : ⊥ = cc in no)
  found (e ∷ es) name v there = go (found es name v) (is_at (slice_cmp nat_cmp name) e.0) refl there
    where
      go : (is_some (item_at es name) ≡ true → item_at (set_value (is_at (slice_cmp nat_cmp name)) es v) name ≡ Some v)
          → (b : Bool) → is_at (slice_cmp nat_cmp name) e.0 ≡ b → is_some (cond b (Some e.1) (item_at es name)) ≡ true
          → item_at (cond b ((e.0, v) ∷ es) (e ∷ set_value (is_at (slice_cmp nat_cmp name)) es v)) name ≡ Some v
      go below true s h = rw s refl
      go below false s h = rw s (below h)

  found_other : (es : List (List ℕ × V)) (name other : List ℕ) (v : V) → other ≢ name
      → item_at (set_value (is_at (slice_cmp nat_cmp name)) es v) other ≡ item_at es other
  found_other [] name other v ne = refl
  found_other (e ∷ es) name other v ne = go (found_other es name other v ne) (slice_cmp nat_cmp name e.0) refl
    where
      go : item_at (set_value (is_at (slice_cmp nat_cmp name)) es v) other ≡ item_at es other → (o : Ordering) → slice_cmp nat_cmp name e.0 ≡ o
          → item_at (cond (is_eq o) ((e.0, v) ∷ es) (e ∷ set_value (is_at (slice_cmp nat_cmp name)) es v)) other ≡ item_at (e ∷ es) other
      go below Less s = ap (cond (is_at (slice_cmp nat_cmp other) e.0) (Some e.1)) below
      go below Equal s =
          let away : is_at (slice_cmp nat_cmp other) e.0 ≡ false = other_text other e.0 (λ k. ne (k ∙ sym (exact_bytes name e.0 s))) in rw away refl
      go below Greater s = ap (cond (is_at (slice_cmp nat_cmp other) e.0) (Some e.1)) below

  -- the name has the value
  item_at-with_entry : (es : List (List ℕ × V)) (name : List ℕ) (v : V) → item_at (with_entry (slice_cmp nat_cmp) es name v) name ≡ Some v
  item_at-with_entry es name v = go (has_key (slice_cmp nat_cmp) es name) refl
    where
      go : (b : Bool) → has_key (slice_cmp nat_cmp) es name ≡ b
          → item_at (cond b (set_value (is_at (slice_cmp nat_cmp name)) es v) (with_name es name v)) name ≡ Some v
      go true there = found es name v there
      go false there = at_name-with_name es name v

  -- other names stay
  item_at-with_entry_other : (es : List (List ℕ × V)) (name other : List ℕ) (v : V) → other ≢ name
      → item_at (with_entry (slice_cmp nat_cmp) es name v) other ≡ item_at es other
  item_at-with_entry_other es name other v ne = go (has_key (slice_cmp nat_cmp) es name)
    where
      go : (b : Bool) → item_at (cond b (set_value (is_at (slice_cmp nat_cmp name)) es v) (with_name es name v)) other ≡ item_at es other
      go true = found_other es name other v ne
      go false = at_name-with_name_other es name other v ne

-- ---- one namespace after a push

module _ {D I : Type 0} (same_def : D → D → Bool) (same_import : I → I → Bool) where
  -- where no glob has brought anything, what no glob offers is bound as a push binds
  item_at-offered : (es : List (List ℕ × Item D I)) (at : ModuleId) (name : List ℕ) (push : Push D I) (source : ImportOrDef) → push.is_glob ≡ false
      → item_at (written_items name (taken same_def same_import es [] (at, name) (Some (record { push = push; source = source }))) es) name
      ≡ slot_after same_def same_import (item_at es name) (Some push.item)
  item_at-offered es at name push source explicit = go (item_at es name) refl
    where
      step : (b : Item D I) → item_at es name ≡ Some b → (gives : Bool)
          → item_at (written_items name (cond (not push.is_glob && (false || gives)) (Some (record { push = push; source = source })) None) es) name
          ≡ cond gives (Some push.item) (Some b)
      step b e true = rw explicit (item_at-with_entry es name push.item)
      step b e false = rw explicit e

      go : (o : Option (Item D I)) → item_at es name ≡ o
          → item_at (written_items name (cond (takes same_def same_import false o push) (Some (record { push = push; source = source })) None) es) name
          ≡ slot_after same_def same_import o (Some push.item)
      go None e = item_at-with_entry es name push.item
      go (Some b) e = step b e (is_reresolved_by same_def same_import b push.item)

module _ {D I : Type 0} where
  -- other names stay
  item_at-offered_other : (es : List (List ℕ × Item D I)) (name other : List ℕ) (o : Option (Candidate D I)) → other ≢ name
      → item_at (written_items name o es) other ≡ item_at es other
  item_at-offered_other es name other None ne = refl
  item_at-offered_other es name other (Some offer) ne = item_at-with_entry_other es name other offer.push.item ne

  -- no name comes to be among those that globs brought where no glob offers it
  offered_globs-none : (place : Place) (push : Push D I) (source : ImportOrDef) → push.is_glob ≡ false → (b : Bool)
      → written_places place (cond b (Some (record { push = push; source = source })) None) [] ≡ []
  offered_globs-none place push source explicit true = rw explicit refl
  offered_globs-none place push source explicit false = refl

-- ---- a scope after a push

-- the items as an import binds them
abbrev pub items_by : Option ImportOrExternCrate → PerNs → PerNs
items_by import items = record {
  types = option_map (λ (i : Item ModuleDefId ImportOrExternCrate). item_of i.def i.vis import) items.types;
  values = option_map (λ (i : Item ModuleDefId ImportOrGlob). item_of i.def i.vis (value_import import)) items.values;
  macros = option_map (λ (i : Item MacroId ImportOrExternCrate). item_of i.def i.vis import) items.macros;
}

-- a push of nothing binds nothing, as an offer of nothing would
binding_of-pushed : (globs : GlobNames) (place : Place) (items : PerNs) (import : Option ImportOrExternCrate) (scope : ScopeValue) (name : List ℕ)
    → binding_of (pushed_scope globs place items import scope) name
    ≡ binding_of (written_scope place.1 (taken_candidates scope globs place items import) scope) name
binding_of-pushed globs place items import scope name = go items.types items.values items.macros
  where
    go : (t : Option (Item ModuleDefId ImportOrExternCrate)) (v : Option (Item ModuleDefId ImportOrGlob)) (m : Option (Item MacroId ImportOrExternCrate))
        → binding_of (pushed_scope globs place (record { types = t; values = v; macros = m }) import scope) name
        ≡ binding_of (written_scope place.1 (taken_candidates scope globs place (record { types = t; values = v; macros = m }) import) scope) name
    go (Some i) v m = refl
    go None (Some i) m = refl
    go None None (Some i) = refl
    go None None None = refl

-- other names stay
binding_of-pushed_other : (globs : GlobNames) (place : Place) (items : PerNs) (import : Option ImportOrExternCrate) (scope : ScopeValue) (other : List ℕ)
    → other ≢ place.1
    → binding_of (pushed_scope globs place items import scope) other ≡ binding_of scope other
binding_of-pushed_other globs place items import scope other ne =
    let offers = taken_candidates scope globs place items import in
    let types : item_at (written_items place.1 offers.types scope.types) other ≡ item_at scope.types other =
    item_at-offered_other scope.types place.1 other offers.types ne in
    let values : item_at (written_items place.1 offers.values scope.values) other ≡ item_at scope.values other =
    item_at-offered_other scope.values place.1 other offers.values ne in
    let macros : item_at (written_items place.1 offers.macros scope.macros) other ≡ item_at scope.macros other =
    item_at-offered_other scope.macros place.1 other offers.macros ne in
    binding_of-pushed globs place items import scope other ∙ (λ i. record { types = types i; values = values i; macros = macros i })

module _ (at : ModuleId) (name : List ℕ) (import : Option ImportOrExternCrate) (scope : ScopeValue) (explicit : is_glob import ≡ false) where
  types_after : (o : Option (Item ModuleDefId ImportOrExternCrate))
      → item_at (written_items name (taken module_def.ghosts.eq import_or_extern_crate.ghosts.eq scope.types [] (at, name) (type_candidate o import))
      scope.types) name
      ≡ slot_after module_def.ghosts.eq import_or_extern_crate.ghosts.eq (item_at scope.types name)
      (option_map (λ (i : Item ModuleDefId ImportOrExternCrate). item_of i.def i.vis import) o)
  types_after None = refl
  types_after (Some i) = item_at-offered module_def.ghosts.eq import_or_extern_crate.ghosts.eq scope.types at name _ _ explicit

  values_after : (o : Option (Item ModuleDefId ImportOrGlob))
      → item_at (written_items name (taken module_def.ghosts.eq import_or_glob.ghosts.eq scope.values [] (at, name) (value_candidate o import)) scope.values)
      name
      ≡ slot_after module_def.ghosts.eq import_or_glob.ghosts.eq (item_at scope.values name)
      (option_map (λ (i : Item ModuleDefId ImportOrGlob). item_of i.def i.vis (value_import import)) o)
  values_after None = refl
  values_after (Some i) = item_at-offered module_def.ghosts.eq import_or_glob.ghosts.eq scope.values at name _ _ explicit

  macros_after : (o : Option (Item MacroId ImportOrExternCrate))
      → item_at (written_items name (taken makro.ghosts.eq import_or_extern_crate.ghosts.eq scope.macros [] (at, name) (macro_candidate o import)) scope.macros)
      name
      ≡ slot_after makro.ghosts.eq import_or_extern_crate.ghosts.eq (item_at scope.macros name)
      (option_map (λ (i : Item MacroId ImportOrExternCrate). item_of i.def i.vis import) o)
  macros_after None = refl
  macros_after (Some i) = item_at-offered makro.ghosts.eq import_or_extern_crate.ghosts.eq scope.macros at name _ _ explicit

  -- where no glob has brought anything, the name stands for what a push by no glob makes of it
  pub binding_of-pushed_here : (items : PerNs)
      → binding_of (pushed_scope no_globs (at, name) items import scope) name ≡ after_push (binding_of scope name) (items_by import items)
  binding_of-pushed_here items =
      let types = types_after items.types in
      let values = values_after items.values in
      let macros = macros_after items.macros in
      binding_of-pushed no_globs (at, name) items import scope name ∙ (λ i. record { types = types i; values = values i; macros = macros i })

  none_of_types : (o : Option (Item ModuleDefId ImportOrExternCrate))
      → written_places (at, name) (taken module_def.ghosts.eq import_or_extern_crate.ghosts.eq scope.types [] (at, name) (type_candidate o import)) [] ≡ []
  none_of_types None = refl
  none_of_types (Some i) = offered_globs-none (at, name) _ _ explicit _

  none_of_values : (o : Option (Item ModuleDefId ImportOrGlob))
      → written_places (at, name) (taken module_def.ghosts.eq import_or_glob.ghosts.eq scope.values [] (at, name) (value_candidate o import)) [] ≡ []
  none_of_values None = refl
  none_of_values (Some i) = offered_globs-none (at, name) _ _ explicit _

  none_of_macros : (o : Option (Item MacroId ImportOrExternCrate))
      → written_places (at, name) (taken makro.ghosts.eq import_or_extern_crate.ghosts.eq scope.macros [] (at, name) (macro_candidate o import)) [] ≡ []
  none_of_macros None = refl
  none_of_macros (Some i) = offered_globs-none (at, name) _ _ explicit _

  -- and globs still have brought nothing
  pub pushed_globs-none : (items : PerNs) → pushed_globs scope (at, name) items import no_globs ≡ no_globs
  pushed_globs-none items =
      let types = none_of_types items.types in
      let values = none_of_values items.values in
      let macros = none_of_macros items.macros in
      λ i. record { types = types i; values = values i; macros = macros i }

-- ---- a push

-- where no glob has brought anything, the name stands for what a push by no glob makes of it
pub entry_at-pushed : (map : Map) (at : ℕ) (name : List ℕ) (items : PerNs) (import : Option ImportOrExternCrate) (m : ModuleValue)
    → is_glob import ≡ false → module_at map at ≡ Some m
    → entry_at (pushed map no_globs at name items import) at name ≡ after_push (entry_at map at name) (items_by import items)
entry_at-pushed map at name items import m explicit e =
    ap (λ (o : Option ModuleValue). entry_of o name) (changed_here map.modules at (pushed_module no_globs (place_at map.id at name) items import) m e)
    ∙ binding_of-pushed_here (numbered map.id at) name import m.scope explicit items
    ∙ ap (λ (o : Option ModuleValue). after_push (entry_of o name) (items_by import items)) (sym e)

-- a push by no glob leaves it so that no glob has brought anything
pub globs_after-none : (map : Map) (at : ℕ) (name : List ℕ) (items : PerNs) (import : Option ImportOrExternCrate) → is_glob import ≡ false
    → globs_after map no_globs at name items import ≡ no_globs
globs_after-none map at name items import explicit = go (module_at map at)
  where
    go : (o : Option ModuleValue) → globs_in o no_globs (place_at map.id at name) items import ≡ no_globs
    go None = refl
    go (Some m) = pushed_globs-none (numbered map.id at) name import m.scope explicit items

-- other names stay
pub entry_at-pushed_other : (map : Map) (globs : GlobNames) (at : ℕ) (name other : List ℕ) (items : PerNs) (import : Option ImportOrExternCrate) (k : ℕ)
    → other ≢ name
    → entry_at (pushed map globs at name items import) k other ≡ entry_at map k other
entry_at-pushed_other map globs at name other items import k ne =
    kept (λ (o : Option ModuleValue). entry_of o other) map.modules at (pushed_module globs (place_at map.id at name) items import)
    (λ m. binding_of-pushed_other globs (place_at map.id at name) items import m.scope other ne) k

-- and so do other modules
pub entry_at-pushed_elsewhere : (map : Map) (globs : GlobNames) (at : ℕ) (name other : List ℕ) (items : PerNs) (import : Option ImportOrExternCrate) (k : ℕ)
    → k ≢ at
    → entry_at (pushed map globs at name items import) k other ≡ entry_at map k other
entry_at-pushed_elsewhere map globs at name other items import k ne =
    ap (λ (o : Option ModuleValue). entry_of o other) (changed_elsewhere map.modules at (pushed_module globs (place_at map.id at name) items import) k ne)

-- what each module is in stays
pub frame_of-changed : (map : Map) (holders : List ModuleId) (at : ℕ) (change : ModuleValue → ModuleValue) → ((m : ModuleValue) → (change m).parent ≡ m.parent)
    → frame_of (record { map = record map { modules = changed_at map.modules at change }; local = []; holders = holders })
    ≡ frame_of (record { map = map; local = []; holders = holders })
frame_of-changed map holders at change keeps = λ i. record { id = map.id; parents = go map.modules at i; holders = holders }
  where
    go : (ms : List ModuleValue) (k : ℕ) → list_map (λ (m : ModuleValue). m.parent) (changed_at ms k change) ≡ list_map (λ (m : ModuleValue). m.parent) ms
    go [] k = refl
    go (m ∷ ms) zero = ap (λ (p : Option ModuleId). p ∷ list_map (λ (x : ModuleValue). x.parent) ms) (keeps m)
    go (m ∷ ms) (suc k) = ap (λ (ps : List (Option ModuleId)). m.parent ∷ ps) (go ms k)

-- where two maps of one id and one holder have one frame, the same lies above each module beside finished maps
pub frames_of-overlay : (finished : Maps) (one other : Map) → one.id ≡ other.id → one.holder ≡ other.holder
    → ((holders : List ModuleId) → frame_of (record { map = one; local = []; holders = holders })
    ≡ frame_of (record { map = other; local = []; holders = holders }))
    → (id : MapId) → frames_of (overlay finished one) id ≡ frames_of (overlay finished other) id
unfolding frames_of
frames_of-overlay finished one other same_id same_place same id =
    ap (λ (x : MapId). option_map frame_of (cond (map_id.ghosts.eq id x) (Some (placed_in finished one)) (finished id))) same_id ∙ on
    (map_id.ghosts.eq id other.id)
  where
    held : (placed_in finished one).holders ≡ (placed_in finished other).holders
    held = λ i. holders_or (finished (same_id i)) (holders_under finished (same_id i) (same_place i))

    whole : frame_of (placed_in finished one) ≡ frame_of (placed_in finished other)
    whole = ap (λ (hs : List ModuleId). frame_of (record { map = one; local = []; holders = hs })) held ∙ same (placed_in finished other).holders

    on : (b : Bool) → option_map frame_of (cond b (Some (placed_in finished one)) (finished id))
        ≡ option_map frame_of (cond b (Some (placed_in finished other)) (finished id))
    on true = ap Some whole
    on false = refl

-- a change of one scope leaves what lies above each module
pub frames_of-scope : (finished : Maps) (map : Map) (at : ℕ) (change : ScopeValue → ScopeValue) (id : MapId)
    → frames_of (overlay finished (with_scope map at change)) id ≡ frames_of (overlay finished map) id
frames_of-scope finished map at change id =
    frames_of-overlay finished (with_scope map at change) map refl refl
    (λ holders. frame_of-changed map holders at (with_module_scope change) (λ m. refl)) id

-- so does a push
pub frames_of-pushed : (finished : Maps) (map : Map) (globs : GlobNames) (at : ℕ) (name : List ℕ) (items : PerNs) (import : Option ImportOrExternCrate)
    (id : MapId)
    → frames_of (overlay finished (pushed map globs at name items import)) id ≡ frames_of (overlay finished map) id
frames_of-pushed finished map globs at name items import id =
    frames_of-scope finished map at (pushed_scope globs (place_at map.id at name) items import) id

-- ---- one more module

-- each name stands in each module for what it stood for; in a new module without bindings for nothing
pub entry_at-with_module : (map : Map) (parent : ℕ) (name : List ℕ) (origin : ModuleOrigin) (visibility : Visibility) (above : Option ModuleId) (k : ℕ)
    (other : List ℕ)
    → entry_at (with_module map parent name (new_module origin visibility above)) k other ≡ entry_at map k other
entry_at-with_module map parent name origin visibility above k other =
    let part : Option ModuleValue → PerNs = λ o. entry_of o other in
    as_none part (changed_at map.modules parent (with_child name (new_id map))) (new_module origin visibility above) refl k
    ∙ kept part map.modules parent (with_child name (new_id map)) (λ m. refl) k
