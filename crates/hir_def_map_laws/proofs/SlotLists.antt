-- Changes of several slots, and what globs change.
use Rattle.std.proofs.Common.{◌≡◌, ◌≢◌, ◌∙◌, ap, sym, refl, ◌==◌, ℕ, ◌<◌, ◌≤◌, List, [], ◌∷◌, length, Bool, true, false, cond, Option, None, Some, arith}
use Rattle.std.specs.Cmp.{unsigned_Decides}
use Rattle.std.specs.Cmp.Lexicographic.{slice_cmp}
use Rattle.std.specs.Prelude.{slice_get, Contains, zero, suc}
use Rattle.std.specs.List.{last_or}
use Rattle.std.specs.Option.{option_to_list}
use Rattle.std.specs.BTreeMap.{is_at}
use Rattle.std.specs.Map.{lookup, set_value}
use Rattle.std.specs.Ordering.{is_eq, nat_cmp}
use Rattle.std.specs.declared.cmp.Ordering.{Ordering}
use Rattle.std.specs.declared.cmp.Ordering.TheVariants.{Less, Equal, Greater}
use Rattle.std.proofs.lemmas.List.Elements.{All-contains_itself, All-weaker, Contains-append_left, Contains-append_right}
use Rattle.std.proofs.lemmas.Map.Lookups.{exact_bytes}
use mathlib.Core.Bool.{true≢false}
use Rattle.hir_nameres.specs.HirScope.Bindings.{with_item_definition, with_item_visibility}
use Rattle.hir_nameres.specs.HirScope.Entries.{item_at}
use Rattle.hir_nameres.specs.HirScope.Scope.{ScopeValue, binding_of}
use Rattle.hir_nameres.proofs.HirTextualScope.NewMacro.{other_names_keep_theirs}
use Rattle.hir_nameres.specs.HirScope.Scope.Reads.{last_legacy_at}
use Rattle.hir_nameres.specs.HirDefMapRules.Scoping.FirstSegment.{legacy_of}
use Rattle.hir_nameres.specs.HirDefMapRules.State.{Local, Map, ModuleValue, changed_at, entry_at, entry_of, module_at}
use Rattle.hir_nameres.specs.HirDefMapRules.State.{numbered, parent_at, parent_of, place_at, pushed}
use Rattle.hir_nameres.specs.HirDefMapRules.State.{pushed_module, with_module_scope, with_scope}
use Rattle.hir_nameres.proofs.HirDefMapRules.Grown.{kept}
use Rattle.hir_def_map_laws.specs.ReadLaw.{AgreeAt, DiffersInScopes, Grows}
use Rattle.hir_def_map_laws.proofs.InScopes.{changed_modules}
use Rattle.hir_def_map_laws.proofs.ReadLaw.{reads_decide, scopes_read}
use Rattle.hir_def_map_laws.proofs.SlotChanges.{Grows-changed, Grows-itself, changes-pushed}
use Rattle.hir_def_map_laws.specs.SlotChanges.{ChangedScopesChangeTheirSlot, ChangesFollowOneAnother, ChangesOnly, NothingChangesNoScope, NothingChangesNoSlot}
use Rattle.hir_def_map_laws.specs.SlotChanges.{OneChangeIsAmongItsSlot, OneScopeChangeIsAmongItsSlot, PushesChangeTheirScope, ScopeChangesFollowOneAnother}
use Rattle.hir_def_map_laws.specs.SlotChanges.{TextualMacrosChangeTheirSlot, TraitsChangeNoScope, TraitsChangeNoSlot, UnreadScopesDoNotMatter}
use Rattle.hir_def_map_laws.specs.SlotChanges.{UnreadSlotsDoNotMatter, UpdatesChangeTheirScope, UpdatesChangeTheirSlot, with_macro, with_macro_vis}
use Rattle.hir_def_map_laws.specs.SlotChanges.{with_textual_macro, with_trait, with_type, with_type_vis, with_value, with_value_vis}
use Rattle.hir_nameres.specs.declared.nameres.path_resolution.slots.Slot.{Slot}
use Rattle.hir_nameres.specs.declared.nameres.path_resolution.slots.Slot.TheVariants.{Module as of_module, Preludes as of_preludes}
use Rattle.hir_nameres.specs.Scoping.Slots.{reads}

-- ---- one after another

agree-itself : (map : Map) (local : Local) (slot : Slot) → AgreeAt map local map local slot
agree-itself map local (of_module at name) = record { entries = refl; legacy = refl }
agree-itself map local (of_preludes name) = record { crates = refl; macro_uses = refl }

agree-both : (one two three : Map) (one_local two_local three_local : Local) (slot : Slot)
    → AgreeAt one one_local two two_local slot → AgreeAt two two_local three three_local slot → AgreeAt one one_local three three_local slot
agree-both one two three one_local two_local three_local (of_module at name) first then =
    record { entries = then.entries ∙ first.entries; legacy = then.legacy ∙ first.legacy }
agree-both one two three one_local two_local three_local (of_preludes name) first then =
    record { crates = then.crates ∙ first.crates; macro_uses = then.macro_uses ∙ first.macro_uses }

-- what is at a place is below the length
below : {A : Type 0} (xs : List A) (k : ℕ) (x : A) → slice_get xs k ≡ Some x → k < length xs
below [] k x e = absurd cc
below (y ∷ xs) zero x e = omega arith
below (y ∷ xs) (suc k) x e = omega (arith, below xs k x e)

there : {A : Type 0} (xs : List A) (k : ℕ) → k < length xs → (x : A) × (slice_get xs k ≡ Some x)
there [] k l = absurd (omega arith)
there (y ∷ xs) zero l = (y, refl)
there (y ∷ xs) (suc k) l = there xs k (omega arith)

grows-both : (one two three : Map) → length one.modules ≤ length two.modules → Grows one two → Grows two three → Grows one three
grows-both one two three long first then = record {
  id = then.id ∙ first.id;
  holder = then.holder ∙ first.holder;
  crate_data = then.crate_data ∙ first.crate_data;
  prelude = then.prelude ∙ first.prelude;
  parents = parents;
  enums = λ id variants e. then.enums id variants (first.enums id variants e);
}
  where
    parents : (at : ℕ) (m : ModuleValue) → module_at one at ≡ Some m → parent_at three at ≡ m.parent
    parents at m e =
        let low : at < length two.modules = omega (arith, below one.modules at m e) in
        let between = there two.modules at low in
        then.parents at between.0 between.1 ∙ sym (ap parent_of between.1) ∙ first.parents at m e

pub nothing : NothingChangesNoSlot
nothing map local = record { grows = Grows-itself map; modules = omega arith; others = λ slot apart. agree-itself map local slot }

-- a slot that isn't among one, or among none, isn't that one
away : (o : Option Slot) (slot : Slot) → ¬ Contains (option_to_list o) slot → Some slot ≢ o
away None slot apart e = absurd cc
away (Some s) slot apart e = apart (0, omega arith, here s slot e)
  where
    here : (s slot : Slot) → Some slot ≡ Some s → s ≡ slot
    here s slot f = cc

pub one_change : OneChangeIsAmongItsSlot
one_change old old_local new new_local changed changes long =
    record { grows = changes.grows; modules = long; others = λ slot apart. changes.others slot (away changed slot apart) }

pub follow : ChangesFollowOneAnother
follow one two three one_local two_local three_local first then a b = record {
  grows = grows-both one two three a.modules a.grows b.grows;
  modules = omega (arith, a.modules, b.modules);
  others = λ slot apart.
      agree-both one two three one_local two_local three_local slot (a.others slot (λ h. apart (Contains-append_left first then slot h)))
      (b.others slot (λ h. apart (Contains-append_right first then slot h)));
}

pub unread : UnreadSlotsDoNotMatter
unread finished one other asking local slots at path stands begins low changes apart =
    let read : List Slot = reads finished asking one (numbered one.id at) path in
    reads_decide finished one other asking local at path stands begins low changes.grows
    (All-weaker (Contains read) (AgreeAt one asking.local other local) (λ slot seen. changes.others slot (λ h. apart slot h seen)) read
    (All-contains_itself read))

-- ---- scopes alone

differs-both : (one two three : Map) → DiffersInScopes one two → DiffersInScopes two three → DiffersInScopes one three
differs-both one two three first then = record {
  id = then.id ∙ first.id;
  holder = then.holder ∙ first.holder;
  crate_data = then.crate_data ∙ first.crate_data;
  prelude = then.prelude ∙ first.prelude;
  parents = then.parents ∙ first.parents;
  enums = λ id. then.enums id ∙ first.enums id;
}

pub no_scope : NothingChangesNoScope
no_scope map local = record {
  differs = record { id = refl; holder = refl; crate_data = refl; prelude = refl; parents = refl; enums = λ id. refl };
  others = λ slot apart. agree-itself map local slot;
}

pub one_scope_change : OneScopeChangeIsAmongItsSlot
one_scope_change old new local changed changes differs = record { differs = differs; others = λ slot apart. changes.others slot (away changed slot apart) }

pub scope_changes : ChangedScopesChangeTheirSlot
scope_changes map local at change changed changes =
    one_scope_change map (with_scope map at change) local changed changes (changed_modules map at (with_module_scope change) (λ m. refl))

pub scope_pushed : PushesChangeTheirScope
scope_pushed map local globs at name items import =
    one_scope_change map (pushed map globs at name items import) local (Some (of_module at name)) (changes-pushed map local globs at name items import)
    (changed_modules map at (pushed_module globs (place_at map.id at name) items import) (λ m. refl))

pub follow_scopes : ScopeChangesFollowOneAnother
follow_scopes one two three local first then a b = record {
  differs = differs-both one two three a.differs b.differs;
  others = λ slot apart.
      agree-both one two three local local local slot (a.others slot (λ h. apart (Contains-append_left first then slot h)))
      (b.others slot (λ h. apart (Contains-append_right first then slot h)));
}

pub unread_scopes : UnreadScopesDoNotMatter
unread_scopes finished one other asking slots at path keep begins changes apart =
    let read : List Slot = reads finished asking one (numbered one.id at) path in
    scopes_read finished one other asking at path keep begins changes.differs
    (All-weaker (Contains read) (AgreeAt one asking.local other asking.local) (λ slot seen. changes.others slot (λ h. apart slot h seen)) read
    (All-contains_itself read))

-- ---- updates of names

tie : (o : Ordering) → is_eq o ≡ true → o ≡ Equal
tie Less e = absurd (true≢false (sym e))
tie Equal e = refl
tie Greater e = absurd (true≢false (sym e))

-- a text that the order finds is the one
text_at : (x y : List ℕ) → is_at (slice_cmp nat_cmp x) y ≡ true → x ≡ y
text_at x y e = exact_bytes x y (tie (slice_cmp nat_cmp x y) e)

-- other names keep theirs where one takes another value
set_other : {X : Type 0} (name other : List ℕ) (w : X) → other ≢ name → (es : List (List ℕ × X))
    → lookup (is_at (slice_cmp nat_cmp other)) (set_value (is_at (slice_cmp nat_cmp name)) es w) ≡ lookup (is_at (slice_cmp nat_cmp other)) es
set_other name other w ne [] = refl
set_other {X} name other w ne (e ∷ es) = go (is_at (slice_cmp nat_cmp name) e.0) refl (set_other name other w ne es)
  where
    away : is_at (slice_cmp nat_cmp name) e.0 ≡ true → (b : Bool) → is_at (slice_cmp nat_cmp other) e.0 ≡ b → is_at (slice_cmp nat_cmp other) e.0 ≡ false
    away s false f = f
    away s true f = absurd (ne (text_at other e.0 f ∙ sym (text_at name e.0 s)))

    go : (b : Bool) → is_at (slice_cmp nat_cmp name) e.0 ≡ b
        → lookup (is_at (slice_cmp nat_cmp other)) (set_value (is_at (slice_cmp nat_cmp name)) es w) ≡ lookup (is_at (slice_cmp nat_cmp other)) es
        → lookup (is_at (slice_cmp nat_cmp other)) (cond b ((e.0, w) ∷ es) (e ∷ set_value (is_at (slice_cmp nat_cmp name)) es w))
        ≡ lookup (is_at (slice_cmp nat_cmp other)) (e ∷ es)
    go true s below_ =
        let apart : is_at (slice_cmp nat_cmp other) e.0 ≡ false = away s (is_at (slice_cmp nat_cmp other) e.0) refl in
        ap (λ (b : Bool). cond b (Some w) (lookup (is_at (slice_cmp nat_cmp other)) es)) apart
        ∙ sym (ap (λ (b : Bool). cond b (Some e.1) (lookup (is_at (slice_cmp nat_cmp other)) es)) apart)
    go false s below_ = ap (cond (is_at (slice_cmp nat_cmp other) e.0) (Some e.1)) below_

-- the items, once one that a name stands for is written anew
abbrev rewritten_at : {X : Type 0} → (X → X) → List (List ℕ × X) → List ℕ → Option X → List (List ℕ × X)
rewritten_at new items name None = items
rewritten_at new items name (Some item) = set_value (is_at (slice_cmp nat_cmp name)) items (new item)

rewritten_other : {X : Type 0} (new : X → X) (items : List (List ℕ × X)) (name other : List ℕ) → other ≢ name
    → item_at (rewritten_at new items name (item_at items name)) other ≡ item_at items other
rewritten_other {X} new items name other ne = go (item_at items name)
  where
    go : (o : Option X) → item_at (rewritten_at new items name o) other ≡ item_at items other
    go None = refl
    go (Some item) = set_other name other (new item) ne items

-- values at other places stay
changed_elsewhere : {A : Type 0} (xs : List A) (at : ℕ) (change : A → A) (k : ℕ) → k ≢ at → slice_get (changed_at xs at change) k ≡ slice_get xs k
changed_elsewhere [] at change k ne = refl
changed_elsewhere (x ∷ xs) zero change zero ne = absurd (ne refl)
changed_elsewhere (x ∷ xs) zero change (suc k) ne = refl
changed_elsewhere (x ∷ xs) (suc at) change zero ne = refl
changed_elsewhere (x ∷ xs) (suc at) change (suc k) ne = changed_elsewhere xs at change k (λ e. ne (ap suc e))

-- a change of a scope that leaves other names changes the slot of the name alone
scope_changed : (map : Map) (local : Local) (at : ℕ) (name : List ℕ) (change : ScopeValue → ScopeValue)
    → ((scope : ScopeValue) (other : List ℕ) → other ≢ name → binding_of (change scope) other ≡ binding_of scope other)
    → ((scope : ScopeValue) (other : List ℕ) → other ≢ name → last_legacy_at (change scope) other ≡ last_legacy_at scope other)
    → ChangesOnly map local (with_scope map at change) local (Some (of_module at name))
scope_changed map local at name change names legacies = record {
  grows = Grows-changed map at (with_module_scope change) (λ m. refl);
  others = slots;
}
  where
    legacy : (k : ℕ) (other : List ℕ) → Some (of_module k other) ≢ Some (of_module at name) → (b : Bool) → (k == at) ≡ b
        → legacy_of (module_at (with_scope map at change) k) other ≡ legacy_of (module_at map k) other
    legacy k other differs true e =
        let same : k ≡ at = (unsigned_Decides k at).0 e in
        kept (λ (o : Option ModuleValue). legacy_of o other) map.modules at (with_module_scope change)
        (λ m. legacies m.scope other (λ f. differs (λ i. Some (of_module (same i) (f i))))) k
    legacy k other differs false e =
        ap (λ (o : Option ModuleValue). legacy_of o other) (changed_elsewhere map.modules at (with_module_scope change) k
        (λ f. true≢false (sym ((unsigned_Decides k at).1 f) ∙ e)))

    entries : (k : ℕ) (other : List ℕ) → Some (of_module k other) ≢ Some (of_module at name) → (b : Bool) → (k == at) ≡ b
        → entry_at (with_scope map at change) k other ≡ entry_at map k other
    entries k other differs true e =
        let same : k ≡ at = (unsigned_Decides k at).0 e in
        kept (λ (o : Option ModuleValue). entry_of o other) map.modules at (with_module_scope change)
        (λ m. names m.scope other (λ f. differs (λ i. Some (of_module (same i) (f i))))) k
    entries k other differs false e =
        ap (λ (o : Option ModuleValue). entry_of o other) (changed_elsewhere map.modules at (with_module_scope change) k
        (λ f. true≢false (sym ((unsigned_Decides k at).1 f) ∙ e)))

    slots : (slot : Slot) → Some slot ≢ Some (of_module at name) → AgreeAt map local (with_scope map at change) local slot
    slots (of_module k other) differs = record { entries = entries k other differs (k == at) refl; legacy = legacy k other differs (k == at) refl }
    slots (of_preludes other) differs = record { crates = refl; macro_uses = refl }

pub updates : (map : Map) (local : Local) (at : ℕ) (name : List ℕ) → UpdatesChangeTheirSlot map local at name
updates map local at name = record {
  types = λ def vis. scope_changed map local at name (with_type name def vis)
      (λ scope other ne i. record {
        types = rewritten_other (with_item_definition def vis) scope.types name other ne i;
        values = item_at scope.values other;
        macros = item_at scope.macros other;
      }) (λ scope other ne. refl);
  values = λ def vis. scope_changed map local at name (with_value name def vis)
      (λ scope other ne i. record {
        types = item_at scope.types other;
        values = rewritten_other (with_item_definition def vis) scope.values name other ne i;
        macros = item_at scope.macros other;
      }) (λ scope other ne. refl);
  macros = λ def vis. scope_changed map local at name (with_macro name def vis)
      (λ scope other ne i. record {
        types = item_at scope.types other;
        values = item_at scope.values other;
        macros = rewritten_other (with_item_definition def vis) scope.macros name other ne i;
      }) (λ scope other ne. refl);
  type_vis = λ vis. scope_changed map local at name (with_type_vis name vis)
      (λ scope other ne i. record {
        types = rewritten_other (with_item_visibility vis) scope.types name other ne i;
        values = item_at scope.values other;
        macros = item_at scope.macros other;
      }) (λ scope other ne. refl);
  value_vis = λ vis. scope_changed map local at name (with_value_vis name vis)
      (λ scope other ne i. record {
        types = item_at scope.types other;
        values = rewritten_other (with_item_visibility vis) scope.values name other ne i;
        macros = item_at scope.macros other;
      }) (λ scope other ne. refl);
  macro_vis = λ vis. scope_changed map local at name (with_macro_vis name vis)
      (λ scope other ne i. record {
        types = item_at scope.types other;
        values = item_at scope.values other;
        macros = rewritten_other (with_item_visibility vis)
            scope.macros name other ne i;
      }) (λ scope other ne. refl);
}

pub textual_macros : TextualMacrosChangeTheirSlot
textual_macros map local at name makro = scope_changed map local at name (with_textual_macro name makro)
    (λ scope other ne. refl) (λ scope other ne. ap (last_or None) (other_names_keep_theirs scope.legacy_macros name makro other ne))

pub traits_kept : TraitsChangeNoSlot
traits_kept map local at tr vis import = record { grows = Grows-changed map at (with_module_scope (with_trait tr vis import)) (λ m. refl); others = slots }
  where
    slots : (slot : Slot) → Some slot ≢ None → AgreeAt map local (with_scope map at (with_trait tr vis import)) local slot
    slots (of_module k other) differs = record {
      entries = kept (λ (o : Option ModuleValue). entry_of o other) map.modules at (with_module_scope (with_trait tr vis import)) (λ m. refl) k;
      legacy = kept (λ (o : Option ModuleValue). legacy_of o other) map.modules at (with_module_scope (with_trait tr vis import)) (λ m. refl) k;
    }
    slots (of_preludes other) differs = record { crates = refl; macro_uses = refl }

-- ---- in scopes alone

pub scope_updates : (map : Map) (local : Local) (at : ℕ) (name : List ℕ) → UpdatesChangeTheirScope map local at name
scope_updates map local at name =
    let changes : UpdatesChangeTheirSlot map local at name = updates map local at name in
    record {
      types = λ def vis. scope_changes map local at (with_type name def vis) (Some (of_module at name)) (changes.types def vis);
      values = λ def vis. scope_changes map local at (with_value name def vis) (Some (of_module at name)) (changes.values def vis);
      macros = λ def vis. scope_changes map local at (with_macro name def vis) (Some (of_module at name)) (changes.macros def vis);
      type_vis = λ vis. scope_changes map local at (with_type_vis name vis) (Some (of_module at name)) (changes.type_vis vis);
      value_vis = λ vis. scope_changes map local at (with_value_vis name vis) (Some (of_module at name)) (changes.value_vis vis);
      macro_vis = λ vis. scope_changes map local at (with_macro_vis name vis) (Some (of_module at name)) (changes.macro_vis vis);
    }

pub scope_traits : TraitsChangeNoScope
scope_traits map local at tr vis import = scope_changes map local at (with_trait tr vis import) None (traits_kept map local at tr vis import)
