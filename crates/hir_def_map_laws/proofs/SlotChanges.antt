-- What building leaves of the slots of a map.
use Rattle.std.proofs.Common.{◌≡◌, ◌≢◌, ◌∙◌, ap, sym, refl, ◌==◌, ℕ, zero, suc, ◌++◌, List, [], ◌∷◌, Bool, true, false, cond, Option, None, Some}
use Rattle.std.specs.Cmp.{unsigned_Decides}
use Rattle.std.specs.Prelude.{slice_get, option_and_then, Contains}
use Rattle.std.specs.BTreeMap.{insert_entry, is_at}
use Rattle.std.specs.Cmp.{IsTotalOrder}
use Rattle.std.specs.Map.{lookup}
use Rattle.std.specs.Ordering.{is_eq, match_ordering, ordering_reverse}
use Rattle.std.specs.declared.cmp.Ordering.{Ordering}
use Rattle.std.specs.declared.cmp.Ordering.TheVariants.{Less, Equal, Greater}
use Rattle.std.proofs.lemmas.List.Elements.{All-contains_itself, All-weaker}
use mathlib.Core.Bool.{true≢false}
use Rattle.hir_nameres.specs.HirIds.contracts.ids.EnumIdOrd.TheImpl as enum_order
use Rattle.hir_nameres.specs.HirIds.contracts.ids.EnumIdOrd.TheImpl.Laws.{total-law as enum_total}
use Rattle.hir_nameres.specs.HirIds.declared.ids.EnumId.{EnumId}
use Rattle.hir_nameres.specs.HirIds.declared.ids.ExternCrateId.{ExternCrateId}
use Rattle.hir_nameres.specs.HirIds.declared.macro_kind.MacroId.{MacroId}
use Rattle.hir_nameres.specs.HirIds.declared.ids.ModuleId.{ModuleId}
use Rattle.hir_nameres.specs.HirScope.Globs.{GlobNames, Place}
use Rattle.hir_nameres.specs.HirPerNs.PerNs.{is_nothing}
use Rattle.hir_nameres.specs.HirScope.Scope.{ScopeValue}
use Rattle.hir_nameres.specs.HirScope.Scope.Push.{pushed_scope, taken_candidates, with_unresolved, written_scope}
use Rattle.hir_nameres.specs.HirScope.Scope.Reads.{last_legacy_at}
use Rattle.hir_nameres.specs.HirPerNs.declared.imports.ImportOrExternCrate.{ImportOrExternCrate}
use Rattle.hir_nameres.specs.HirPerNs.declared.per_ns.PerNs.{PerNs}
use Rattle.hir_nameres.specs.HirPerNs.declared.visibility.Visibility.{Visibility}
use Rattle.hir_nameres.specs.HirDefMapRules.Declaration.{listed}
use Rattle.hir_nameres.specs.HirDefMapRules.Scoping.FirstSegment.{legacy_of}
use Rattle.hir_nameres.specs.HirDefMapRules.State.{Local, Map, ModuleValue, Variants, changed_at, entry_at, module_at, new_id, new_module, numbered, parent_at}
use Rattle.hir_nameres.specs.HirDefMapRules.State.{parent_of, place_at, pushed, pushed_module, variants_at, with_child, with_enum, with_extern, with_macro_use}
use Rattle.hir_nameres.specs.HirDefMapRules.State.{with_module, with_module_scope, with_scope}
use Rattle.hir_nameres.specs.HirDefMapRules.declared.declaration.Declaration.{Declaration}
use Rattle.hir_nameres.specs.HirMapParts.declared.origin.ModuleOrigin.{ModuleOrigin}
use Rattle.hir_nameres.specs.HirDefMapRules.declared.declaration.Declaration.TheVariants as declaration
use Rattle.hir_nameres.proofs.HirMapParts.Externs.{at_name-with_extern_other}
use Rattle.hir_nameres.proofs.HirDefMapRules.Grown.{at_name-with_name_other, entry_at-pushed_elsewhere, entry_at-pushed_other, entry_at-with_module, kept}
use Rattle.hir_nameres.proofs.HirDefMapRules.Listed.{KeepsNames-listed}
use Rattle.hir_def_map_laws.specs.ReadLaw.{AgreeAt, Grows}
use Rattle.hir_def_map_laws.proofs.ReadLaw.{reads_decide}
use Rattle.hir_def_map_laws.specs.SlotChanges.{ChangesOnly, OtherSlotsDoNotMatter}
use Rattle.hir_nameres.specs.declared.nameres.path_resolution.slots.Slot.{Slot}
use Rattle.hir_nameres.specs.declared.nameres.path_resolution.slots.Slot.TheVariants.{Module as of_module, Preludes as of_preludes}
use Rattle.hir_nameres.specs.Scoping.Slots.{reads}

-- a change of modules that leaves what each is in lets a map grow
pub Grows-changed : (map : Map) (at : ℕ) (change : ModuleValue → ModuleValue) → ((m : ModuleValue) → (change m).parent ≡ m.parent)
    → Grows map (record map { modules = changed_at map.modules at change })
Grows-changed map at change keeps = record {
  id = refl;
  holder = refl;
  crate_data = refl;
  prelude = refl;
  parents = λ k m e. kept parent_of map.modules at change keeps k ∙ ap parent_of e;
  enums = λ id variants e. e;
}

-- a map that stays has what it had
pub Grows-itself : (map : Map) → Grows map map
Grows-itself map = record { id = refl; holder = refl; crate_data = refl; prelude = refl; parents = λ k m e. ap parent_of e; enums = λ id variants e. e }

same_preludes : (map : Map) (modules : List ModuleValue) (local : Local) (name : List ℕ) → AgreeAt map local (record map { modules = modules }) local
    (of_preludes name)
same_preludes map modules local name = record { crates = refl; macro_uses = refl }

-- ---- pushes

-- a push leaves textual scopes
legacy_pushed : (globs : GlobNames) (place : Place) (items : PerNs) (import : Option ImportOrExternCrate) (scope : ScopeValue) (name : List ℕ)
    → last_legacy_at (pushed_scope globs place items import scope) name ≡ last_legacy_at scope name
legacy_pushed globs place items import scope name = go (is_nothing items)
  where
    go : (b : Bool) → last_legacy_at (cond b (with_unresolved scope place.1) (written_scope place.1 (taken_candidates scope globs place items import) scope))
        name ≡ last_legacy_at scope name
    go true = refl
    go false = refl

pub changes-pushed : (map : Map) (local : Local) (globs : GlobNames) (at : ℕ) (name : List ℕ) (items : PerNs) (import : Option ImportOrExternCrate)
    → ChangesOnly map local (pushed map globs at name items import) local (Some (of_module at name))
changes-pushed map local globs at name items import = record {
  grows = Grows-changed map at (pushed_module globs (place_at map.id at name) items import) (λ m. refl);
  others = slots;
}
  where
    legacy : (k : ℕ) (other : List ℕ) → legacy_of (module_at (pushed map globs at name items import) k) other ≡ legacy_of (module_at map k) other
    legacy k other = kept (λ (o : Option ModuleValue). legacy_of o other) map.modules at (pushed_module globs (place_at map.id at name) items import)
        (λ m. legacy_pushed globs (place_at map.id at name) items import m.scope other) k

    entries : (k : ℕ) (other : List ℕ) → Some (of_module k other) ≢ Some (of_module at name) → (b : Bool) → (k == at) ≡ b
        → entry_at (pushed map globs at name items import) k other ≡ entry_at map k other
    entries k other differs true e =
        let same : k ≡ at = (unsigned_Decides k at).0 e in
        entry_at-pushed_other map globs at name other items import k (λ f. differs (λ i. Some (of_module (same i) (f i))))
    entries k other differs false e =
        entry_at-pushed_elsewhere map globs at name other items import k (λ f. true≢false (sym ((unsigned_Decides k at).1 f) ∙ e))

    slots : (slot : Slot) → Some slot ≢ Some (of_module at name) → AgreeAt map local (pushed map globs at name items import) local slot
    slots (of_module k other) differs = record { entries = entries k other differs (k == at) refl; legacy = legacy k other }
    slots (of_preludes other) differs = same_preludes map _ local other

-- ---- lists

legacy_listed : (d : Declaration) (scope : ScopeValue) (name : List ℕ) → last_legacy_at (listed d scope) name ≡ last_legacy_at scope name
legacy_listed (declaration.Def def) scope name = refl
legacy_listed other scope name = refl

pub changes-listed : (map : Map) (local : Local) (at : ℕ) (d : Declaration) → ChangesOnly map local (with_scope map at (listed d)) local None
changes-listed map local at d = record {
  grows = Grows-changed map at (with_module_scope (listed d)) (λ m. refl);
  others = slots;
}
  where
    slots : (slot : Slot) → Some slot ≢ None → AgreeAt map local (with_scope map at (listed d)) local slot
    slots (of_module k other) differs = record {
      entries = (KeepsNames-listed map at d).entries k other;
      legacy =
          kept (λ (o : Option ModuleValue). legacy_of o other) map.modules at (with_module_scope (listed d))
          (λ m. legacy_listed d m.scope other) k;
    }
    slots (of_preludes other) differs = same_preludes map _ local other

-- ---- modules

-- what is there stays there before one more value
before_last : {A : Type 0} (xs : List A) (y x : A) (k : ℕ) → slice_get xs k ≡ Some x → slice_get (xs ++ y ∷ []) k ≡ Some x
before_last [] y x k e = absurd cc
before_last (z ∷ xs) y x zero e = e
before_last (z ∷ xs) y x (suc k) e = before_last xs y x k e

-- one more value that is as good as none for a part of it
as_none : {A B : Type 0} (part : Option A → B) (xs : List A) (y : A) → part (Some y) ≡ part None → (k : ℕ) → part (slice_get (xs ++ y ∷ []) k)
    ≡ part (slice_get xs k)
as_none part [] y e zero = e
as_none part [] y e (suc k) = refl
as_none part (x ∷ xs) y e zero = refl
as_none part (x ∷ xs) y e (suc k) = as_none part xs y e k

changed_there : {A : Type 0} (xs : List A) (at : ℕ) (change : A → A) (k : ℕ) (x : A) → slice_get xs k ≡ Some x → (y : A)
    × (slice_get (changed_at xs at change) k ≡ Some y)
changed_there [] at change k x e = absurd cc
changed_there (z ∷ xs) zero change zero x e = (change z, refl)
changed_there (z ∷ xs) zero change (suc k) x e = (x, e)
changed_there (z ∷ xs) (suc at) change zero x e = (z, refl)
changed_there (z ∷ xs) (suc at) change (suc k) x e = changed_there xs at change k x e

pub changes-made : (map : Map) (local : Local) (at : ℕ) (name : List ℕ) (origin : ModuleOrigin) (visibility : Visibility) (parent : Option ModuleId)
    → ChangesOnly map local (with_module map at name (new_module origin visibility parent)) local None
changes-made map local at name origin visibility parent = record {
  grows = record {
    id = refl;
    holder = refl;
    crate_data = refl;
    prelude = refl;
    parents = parents;
    enums = λ id variants e. e;
  };
  others = slots;
}
  where
    parents : (k : ℕ) (m : ModuleValue) → module_at map k ≡ Some m → parent_at (with_module map at name (new_module origin visibility parent)) k ≡ m.parent
    parents k m e =
        let there = changed_there map.modules at (with_child name (new_id map)) k m e in
        ap parent_of (before_last (changed_at map.modules at (with_child name (new_id map))) (new_module origin visibility parent) there.0 k there.1)
        ∙ sym (ap parent_of there.1)
        ∙ kept parent_of map.modules at (with_child name (new_id map)) (λ x. refl) k
        ∙ ap parent_of e

    slots : (slot : Slot) → Some slot ≢ None → AgreeAt map local (with_module map at name (new_module origin visibility parent)) local slot
    slots (of_module k other) differs = record {
      entries = entry_at-with_module map at name origin visibility parent k other;
      legacy =
          as_none (λ (o : Option ModuleValue). legacy_of o other) (changed_at map.modules at (with_child name (new_id map)))
          (new_module origin visibility parent) refl k
          ∙ kept (λ (o : Option ModuleValue). legacy_of o other) map.modules at (with_child name (new_id map)) (λ m. refl) k;
    }
    slots (of_preludes other) differs = same_preludes map _ local other

-- ---- enums

module _ {K V : Type 0} (cmp : K → K → Ordering) (total : IsTotalOrder cmp) (k : K) (v : V) (q : K) where
  -- a key that comes in leaves what other keys have
  inserted_other : is_at (cmp q) k ≡ false → (es : List (K × V)) → lookup (is_at (cmp q)) (insert_entry cmp es k v) ≡ lookup (is_at (cmp q)) es
  inserted_other away [] = ap (λ (b : Bool). cond b (Some v) None) away
  inserted_other away (e ∷ es) = go (cmp k e.0) refl (inserted_other away es)
    where
      -- what is tied with the one key isn't tied with the other
      apart : cmp k e.0 ≡ Equal → (b : Bool) → is_at (cmp q) e.0 ≡ b → is_at (cmp q) e.0 ≡ false
      apart s false f = f
      apart s true f =
          let back : cmp e.0 k ≡ Equal = total.antisymm e.0 k ∙ ap ordering_reverse s in
          let tied : cmp q k ≡ cmp e.0 k = total.congr q e.0 k (at_tie (cmp q e.0) f) in
          absurd (true≢false (sym (ap is_eq (tied ∙ back)) ∙ away))
        where
          at_tie : (o : Ordering) → is_eq o ≡ true → o ≡ Equal
          at_tie Less g = absurd (true≢false (sym g))
          at_tie Equal g = refl
          at_tie Greater g = absurd (true≢false (sym g))

      go : (o : Ordering) → cmp k e.0 ≡ o → lookup (is_at (cmp q)) (insert_entry cmp es k v) ≡ lookup (is_at (cmp q)) es
          → lookup (is_at (cmp q)) (match_ordering o ((k, v) ∷ e ∷ es) ((e.0, v) ∷ es) (e ∷ insert_entry cmp es k v)) ≡ lookup (is_at (cmp q)) (e ∷ es)
      go Less s below = ap (λ (b : Bool). cond b (Some v) (lookup (is_at (cmp q)) (e ∷ es))) away
      go Equal s below =
          let other : is_at (cmp q) e.0 ≡ false = apart s (is_at (cmp q) e.0) refl in
          ap (λ (b : Bool). cond b (Some v) (lookup (is_at (cmp q)) es)) other ∙ sym (ap (λ (b : Bool). cond b (Some e.1) (lookup (is_at (cmp q)) es)) other)
      go Greater s below = ap (cond (is_at (cmp q) e.0) (Some e.1)) below

  -- and has its value
  inserted_here : cmp q k ≡ Equal → (es : List (K × V)) → lookup (is_at (cmp q)) (insert_entry cmp es k v) ≡ Some v
  inserted_here tied [] = ap (λ (o : Ordering). cond (is_eq o) (Some v) None) tied
  inserted_here tied (e ∷ es) = go (cmp k e.0) refl (inserted_here tied es)
    where
      go : (o : Ordering) → cmp k e.0 ≡ o → lookup (is_at (cmp q)) (insert_entry cmp es k v) ≡ Some v
          → lookup (is_at (cmp q)) (match_ordering o ((k, v) ∷ e ∷ es) ((e.0, v) ∷ es) (e ∷ insert_entry cmp es k v)) ≡ Some v
      go Less s below = ap (λ (o : Ordering). cond (is_eq o) (Some v) (lookup (is_at (cmp q)) (e ∷ es))) tied
      go Equal s below = ap (λ (o : Ordering). cond (is_eq o) (Some v) (lookup (is_at (cmp q)) es)) (total.congr q k e.0 tied ∙ s)
      go Greater s below =
          ap (λ (o : Ordering). cond (is_eq o) (Some e.1) (lookup (is_at (cmp q)) (insert_entry cmp es k v))) (total.congr q k e.0 tied ∙ s) ∙ below

  -- what keys have stays where one comes in that had nothing, or had the same
  kept_inserted : (es : List (K × V)) (w : V) → ((u : V) → lookup (is_at (cmp k)) es ≡ Some u → u ≡ v) → lookup (is_at (cmp q)) es ≡ Some w
      → lookup (is_at (cmp q)) (insert_entry cmp es k v) ≡ Some w
  kept_inserted es w known found = go (cmp q k) refl
    where
      go : (o : Ordering) → cmp q k ≡ o → lookup (is_at (cmp q)) (insert_entry cmp es k v) ≡ Some w
      go Less s = inserted_other (ap is_eq s) es ∙ found
      go Equal s =
          let same : lookup (is_at (cmp q)) es ≡ lookup (is_at (cmp k)) es = λ i. lookup (λ x. is_eq (total.congr q k x s i)) es in
          inserted_here s es ∙ ap Some (sym (known w (sym same ∙ found)))
      go Greater s = inserted_other (ap is_eq s) es ∙ found

pub changes-enum : (map : Map) (local : Local) (id : EnumId) (variants : Variants) → ((before : Variants) → variants_at map id ≡ Some before → before
    ≡ variants)
    → ChangesOnly map local (with_enum map id variants) local None
changes-enum map local id variants known = record {
  grows = record {
    id = refl;
    holder = refl;
    crate_data = refl;
    prelude = refl;
    parents = λ k m e. ap parent_of e;
    enums = λ other found e. kept_inserted enum_order.ghosts.cmp enum_total id variants other map.enums found known e;
  };
  others = slots;
}
  where
    slots : (slot : Slot) → Some slot ≢ None → AgreeAt map local (with_enum map id variants) local slot
    slots (of_module k other) differs = record { entries = refl; legacy = refl }
    slots (of_preludes other) differs = record { crates = refl; macro_uses = refl }

-- ---- preludes

pub changes-macro_use : (map : Map) (local : Local) (name : List ℕ) (makro : MacroId) (by : Option ExternCrateId)
    → ChangesOnly map local (with_macro_use map name makro by) local (Some (of_preludes name))
changes-macro_use map local name makro by = record {
  grows = record { id = refl; holder = refl; crate_data = refl; prelude = refl; parents = λ k m e. ap parent_of e; enums = λ id variants e. e };
  others = slots;
}
  where
    slots : (slot : Slot) → Some slot ≢ Some (of_preludes name) → AgreeAt map local (with_macro_use map name makro by) local slot
    slots (of_module k other) differs = record { entries = refl; legacy = refl }
    slots (of_preludes other) differs = record {
      crates = refl;
      macro_uses = at_name-with_name_other map.macro_use_prelude name other (makro, by) (λ f. differs (λ i. Some (of_preludes (f i))));
    }

pub changes-crate : (map : Map) (local : Local) (name : List ℕ) (entry : ModuleId × Option ExternCrateId)
    → ChangesOnly map local map (with_extern local name entry) (Some (of_preludes name))
changes-crate map local name entry = record { grows = Grows-itself map; others = slots }
  where
    slots : (slot : Slot) → Some slot ≢ Some (of_preludes name) → AgreeAt map local map (with_extern local name entry) slot
    slots (of_module k other) differs = record { entries = refl; legacy = refl }
    slots (of_preludes other) differs = record {
      crates = at_name-with_extern_other name entry local other (λ f. differs (λ i. Some (of_preludes (f i))));
      macro_uses = refl;
    }

-- ---- paths

pub other_slots : OtherSlotsDoNotMatter
other_slots finished one other asking local changed at path stands begins low changes apart =
    let slots : List Slot = reads finished asking one (numbered one.id at) path in
    reads_decide finished one other asking local at path stands begins low changes.grows
    (All-weaker (Contains slots) (AgreeAt one asking.local other local) (λ slot there. changes.others slot (λ e. apart slot (sym e) there)) slots
    (All-contains_itself slots))
