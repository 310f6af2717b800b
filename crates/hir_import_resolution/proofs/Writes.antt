-- What do writes along globs change?
use Rattle.std.proofs.Common.{◌≡◌, ◌≢◌, ◌∙◌, ◌⊎◌, inl, inr, ap, sym, refl, ℕ, Bool, true, false, ◌++◌, List, [], ◌∷◌, Option, None, Some, arith}
use Rattle.std.specs.Option.{option_map}
use Rattle.std.specs.Prelude.{Contains}
use Rattle.std.proofs.lemmas.List.Elements.{Contains-append_cases}
use Rattle.hir_nameres.specs.HirIds.declared.ids.TraitId.{TraitId}
use Rattle.hir_nameres.proofs.HirScope.AfterPush.{declarations_stay}
use Rattle.hir_nameres.specs.HirPerNs.PerNs.{Item}
use Rattle.hir_nameres.specs.HirScope.Scope.{ScopeValue}
use Rattle.hir_nameres.specs.HirScope.Scope.Reads.{unnamed_vis}
use Rattle.hir_nameres.specs.HirPerNs.declared.imports.GlobId.{GlobId}
use Rattle.hir_nameres.specs.HirPerNs.declared.imports.ImportId.{ImportId}
use Rattle.hir_nameres.specs.HirPerNs.declared.imports.ImportOrExternCrate.{ImportOrExternCrate}
use Rattle.hir_nameres.specs.HirPerNs.declared.item_in_ns.ItemInNs.{ItemInNs}
use Rattle.hir_nameres.specs.HirPerNs.declared.per_ns.PerNs.{PerNs}
use Rattle.hir_nameres.specs.HirPerNs.declared.visibility.Visibility.{Visibility}
use Rattle.hir_nameres.specs.HirPerNs.declared.imports.ImportOrExternCrate.TheVariants as ways
use Rattle.hir_nameres.specs.HirPerNs.declared.item_in_ns.ItemInNs.TheVariants as in_ns
use Rattle.hir_def_map_rules.proofs.Grown.{kept}
use Rattle.hir_def_map_rules.specs.State.{Local, Map, ModuleValue, module_at, place_at, pushed, pushed_module, with_module_scope, with_scope}
use Rattle.hir_nameres.specs.declared.nameres.path_resolution.slots.Slot.{Slot as PathSlot}
use Rattle.hir_nameres.specs.declared.nameres.path_resolution.slots.Slot.TheVariants.{Module as of_module}
use Rattle.hir_def_map_laws.specs.SlotChanges.{ScopesChangeAmong}
use Rattle.hir_def_map_laws.proofs.SlotLists.{follow_scopes, no_scope, scope_pushed, scope_traits, scope_updates}
use Rattle.hir_glob_imports.proofs.Exact.{exact_slot}
use Rattle.hir_glob_imports.specs.Keys.{name_of, same_slot, slot_at}
use Rattle.hir_glob_imports.specs.declared.edge.Bound.{Bound}
use Rattle.hir_glob_imports.specs.declared.edge.Key.{Key}
use Rattle.hir_glob_imports.specs.declared.edge.Slot.{Slot}
use Rattle.hir_glob_imports.specs.declared.edge.Target.{Target}
use Rattle.hir_glob_imports.specs.declared.edge.Key.TheVariants.{Types, Values, Macros, Unnamed}
use Rattle.hir_glob_imports.specs.declared.edge.Target.TheVariants as targets
use Rattle.hir_import_resolution.specs.Inner.State.{slots_named}
use Rattle.hir_import_rules.specs.ScopeLaws.{keeps-trait}
use Rattle.hir_import_growth.specs.ViewLaws.{changes_in_slot}
use Rattle.hir_import_rules.specs.Names.{ScopesValue, bound_of, bound_trait, copied, copied_to, copied_where, followed, followed_to, followed_where}
use Rattle.hir_import_rules.specs.Names.{items_by, raised, redefined, revised, trait_vis, with_trait}

-- scopes change among more slots
pub wider : (old new : Map) (local : Local) (xs ys : List PathSlot) → ((p : PathSlot) → Contains xs p → Contains ys p) → ScopesChangeAmong old new local xs
    → ScopesChangeAmong old new local ys
wider old new local xs ys further changes = record { differs = changes.differs; others = λ slot apart. changes.others slot (λ h. apart (further slot h)) }

pub stays : (map : Map) (local : Local) (slots : List PathSlot) → ScopesChangeAmong map map local slots
stays map local slots = wider map map local [] slots (λ p h. absurd (omega (arith, h.1))) (no_scope map local)

-- what changes twice among the same slots
pub again : (one two three : Map) (local : Local) (slots : List PathSlot) → ScopesChangeAmong one two local slots → ScopesChangeAmong two three local slots
    → ScopesChangeAmong one three local slots
again one two three local slots first then = wider one three local (slots ++ slots) slots both (follow_scopes one two three local slots slots first then)
  where
    one_of : (p : PathSlot) → Contains slots p ⊎ Contains slots p → Contains slots p
    one_of p (inl h) = h
    one_of p (inr h) = h

    both : (p : PathSlot) → Contains (slots ++ slots) p → Contains slots p
    both p h = one_of p (Contains-append_cases slots slots p h)

-- what may be written in a slot: beside the finished maps nothing changes but what stands there
pub record Writes (at : ℕ) (key : Key) (old new : ScopesValue) : Type 0 where
  pub finished : new.finished ≡ old.finished
  pub among : (local : Local) → ScopesChangeAmong old.map new.map local (slots_named at (name_of key))
  pub traits : (other : ℕ) (id : TraitId) → slot_at at key ≢ slot_at other (Unnamed id) → trait_vis (module_at new.map other) id
      ≡ trait_vis (module_at old.map other) id

pub writes_none : (n : ScopesValue) (at : ℕ) (key : Key) → Writes at key n n
writes_none n at key = record { finished = refl; among = λ local. stays n.map local (slots_named at (name_of key)); traits = λ other id apart. refl }

-- ---- traits without names

-- a push brings none
push_traits : (n : ScopesValue) (at : ℕ) (name : List ℕ) (items : PerNs) (import : Option ImportOrExternCrate) (other : ℕ) (id : TraitId)
    → trait_vis (module_at (pushed n.map n.globs at name items import) other) id ≡ trait_vis (module_at n.map other) id
push_traits n at name items import other id =
    kept (λ (o : Option ModuleValue). trait_vis o id) n.map.modules at (pushed_module n.globs (place_at n.map.id at name) items import)
    (λ m. ap (λ (ts : List (TraitId × Item (Unit {0}) ImportId)). unnamed_vis (record m.scope { unnamed_traits = ts }) id)
    (declarations_stay n.globs (place_at n.map.id at name) import m.scope items).unnamed_traits) other

-- nor does what leaves them in a scope
scope_traits_stay : (map : Map) (at : ℕ) (change : ScopeValue → ScopeValue) → ((s : ScopeValue) (id : TraitId) → unnamed_vis (change s) id ≡ unnamed_vis s id)
    → (other : ℕ) (id : TraitId) → trait_vis (module_at (with_scope map at change) other) id ≡ trait_vis (module_at map other) id
scope_traits_stay map at change leaves other id =
    kept (λ (o : Option ModuleValue). trait_vis o id) map.modules at (with_module_scope change) (λ m. leaves m.scope id) other

pub seen_vis : (id : TraitId) (a : Option Visibility) → option_map (λ (b : Bound). b.vis) (bound_trait id a) ≡ a
seen_vis id None = refl
seen_vis id (Some v) = refl

same_trait : (id : TraitId) (a b : Option Visibility) → bound_trait id a ≡ bound_trait id b → a ≡ b
same_trait id a b e = sym (seen_vis id a) ∙ ap (option_map (λ (x : Bound). x.vis)) e ∙ seen_vis id b

pub not_same : (a b : Slot) → a ≢ b → same_slot a b ≡ false
not_same a b apart = go (same_slot a b) refl
  where
    go : (t : Bool) → same_slot a b ≡ t → same_slot a b ≡ false
    go true e = absurd (apart (exact_slot a b e))
    go false e = e

-- a trait that is kept is one of a slot
one_trait : (n : ScopesValue) (at : ℕ) (kept_id : TraitId) (vis : Visibility) (other : ℕ) (id : TraitId) → slot_at at (Unnamed kept_id) ≢ slot_at other
    (Unnamed id)
    → trait_vis (module_at (with_scope n.map at (with_trait kept_id vis None)) other) id ≡ trait_vis (module_at n.map other) id
one_trait n at kept_id vis other id apart =
    same_trait id _ _
    ((changes_in_slot n at (with_trait kept_id vis None) n.globs (Unnamed kept_id) (keeps-trait kept_id vis None)).bound (targets.Own other) (Unnamed id)
    (not_same (slot_at at (Unnamed kept_id)) (slot_at other (Unnamed id)) apart))

-- ---- writes

copied_writes : (n : ScopesValue) (at : ℕ) (key : Key) (vis : Visibility) (by : GlobId) (b : Bound) → Writes at key n (copied_to n at key vis by b)
copied_writes n at (Types name) vis by b = record {
  finished = refl;
  among = λ local. scope_pushed n.map local n.globs at name (items_by b.def vis) (Some (ways.Glob by));
  traits = λ other id apart. push_traits n at name (items_by b.def vis) (Some (ways.Glob by)) other id;
}
copied_writes n at (Values name) vis by b = record {
  finished = refl;
  among = λ local. scope_pushed n.map local n.globs at name (items_by b.def vis) (Some (ways.Glob by));
  traits = λ other id apart. push_traits n at name (items_by b.def vis) (Some (ways.Glob by)) other id;
}
copied_writes n at (Macros name) vis by b = record {
  finished = refl;
  among = λ local. scope_pushed n.map local n.globs at name (items_by b.def vis) (Some (ways.Glob by));
  traits = λ other id apart. push_traits n at name (items_by b.def vis) (Some (ways.Glob by)) other id;
}
copied_writes n at (Unnamed id) vis by b = record { finished = refl; among = λ local. scope_traits n.map local at id vis None; traits = one_trait n at id vis }

redefined_among : (map : Map) (local : Local) (at : ℕ) (name : List ℕ) (def : ItemInNs) (vis : Visibility)
    → ScopesChangeAmong map (with_scope map at (redefined name def vis)) local (of_module at name ∷ [])
redefined_among map local at name (in_ns.Types def) vis = (scope_updates map local at name).types def vis
redefined_among map local at name (in_ns.Values def) vis = (scope_updates map local at name).values def vis
redefined_among map local at name (in_ns.Macros def) vis = (scope_updates map local at name).macros def vis

redefined_traits : (map : Map) (at : ℕ) (name : List ℕ) (def : ItemInNs) (vis : Visibility) (other : ℕ) (id : TraitId)
    → trait_vis (module_at (with_scope map at (redefined name def vis)) other) id ≡ trait_vis (module_at map other) id
redefined_traits map at name (in_ns.Types def) vis other id = scope_traits_stay map at (redefined name (in_ns.Types def) vis) (λ s i. refl) other id
redefined_traits map at name (in_ns.Values def) vis other id = scope_traits_stay map at (redefined name (in_ns.Values def) vis) (λ s i. refl) other id
redefined_traits map at name (in_ns.Macros def) vis other id = scope_traits_stay map at (redefined name (in_ns.Macros def) vis) (λ s i. refl) other id

followed_writes : (n : ScopesValue) (at : ℕ) (key : Key) (vis : Visibility) (b : Bound) → Writes at key n (followed_to n at key vis b)
followed_writes n at (Types name) vis b =
    record {
      finished = refl;
      among = λ local. redefined_among n.map local at name b.def vis;
      traits = λ other id apart. redefined_traits n.map at name b.def
          vis other id;
    }
followed_writes n at (Values name) vis b =
    record {
      finished = refl;
      among = λ local. redefined_among n.map local at name b.def vis;
      traits = λ other id apart. redefined_traits n.map at name b.def
          vis other id;
    }
followed_writes n at (Macros name) vis b =
    record {
      finished = refl;
      among = λ local. redefined_among n.map local at name b.def vis;
      traits = λ other id apart. redefined_traits n.map at name b.def
          vis other id;
    }
followed_writes n at (Unnamed id) vis b = record { finished = refl; among = λ local. scope_traits n.map local at id vis None; traits = one_trait n at id vis }

pub revised_writes : (n : ScopesValue) (at : ℕ) (key : Key) (vis : Visibility) → Writes at key n (record n { map = with_scope n.map at (revised key vis) })
revised_writes n at (Types name) vis = record {
  finished = refl;
  among = λ local. (scope_updates n.map local at name).type_vis vis;
  traits = λ other id apart. scope_traits_stay n.map at (revised (Types name) vis) (λ s i. refl) other id;
}
revised_writes n at (Values name) vis = record {
  finished = refl;
  among = λ local. (scope_updates n.map local at name).value_vis vis;
  traits = λ other id apart. scope_traits_stay n.map at (revised (Values name) vis) (λ s i. refl) other id;
}
revised_writes n at (Macros name) vis = record {
  finished = refl;
  among = λ local. (scope_updates n.map local at name).macro_vis vis;
  traits = λ other id apart. scope_traits_stay n.map at (revised (Macros name) vis) (λ s i. refl) other id;
}
revised_writes n at (Unnamed id) vis = record { finished = refl; among = λ local. scope_traits n.map local at id vis None; traits = one_trait n at id vis }

pub copies_write : (n : ScopesValue) (s : Slot) (of : Target) (vis : Visibility) (by : GlobId) → Writes s.at s.key n (copied n s of vis by)
copies_write n s of vis by = go (bound_of n of s.key)
  where
    go : (o : Option Bound) → Writes s.at s.key n (copied_where n s vis by o)
    go None = writes_none n s.at s.key
    go (Some b) = copied_writes n s.at s.key vis by b

pub follows_write : (n : ScopesValue) (s : Slot) (of : Target) (vis : Visibility) → Writes s.at s.key n (followed n s of vis)
follows_write n s of vis = go (bound_of n of s.key)
  where
    go : (o : Option Bound) → Writes s.at s.key n (followed_where n s vis o)
    go None = writes_none n s.at s.key
    go (Some b) = followed_writes n s.at s.key vis b

pub raises_write : (n : ScopesValue) (s : Slot) (vis : Visibility) → Writes s.at s.key n (raised n s vis)
raises_write n s vis = revised_writes n s.at s.key vis
