-- The impls that a module lists for builtin derives stay.
use Rattle.std.proofs.Common.{◌≡◌, ◌<◌, ℕ, zero, suc, Bool, true, false, cond, List, [], ◌∷◌, ◌++◌, length, slice_get, Option, None, Some, refl, sym, subst}
use Rattle.std.proofs.Common.{arith, Contains}
use Rattle.std.proofs.lemmas.List.Elements.{Contains-append_left, Contains-append_right}
use Rattle.hir_collector_rules.specs.HirIds.declared.macro_kind.BuiltinDeriveImplId.{BuiltinDeriveImplId}
use Rattle.hir_collector_rules.specs.HirIds.declared.ids.ModuleId.{ModuleId}
use Rattle.hir_collector_rules.specs.HirPerNs.PerNs.{is_nothing}
use Rattle.hir_collector_rules.specs.HirScope.Scope.{ScopeValue}
use Rattle.hir_collector_rules.specs.HirScope.Scope.Push.{taken_candidates, with_unresolved, written_scope}
use Rattle.hir_collector_rules.specs.HirPerNs.declared.item_in_ns.ItemInNs.{ItemInNs}
use Rattle.hir_collector_rules.specs.HirPerNs.declared.item_in_ns.ItemInNs.TheVariants as in_ns
use Rattle.hir_collector_rules.specs.HirDefMapRules.Declaration.{listed}
use Rattle.hir_collector_rules.specs.HirDefMapRules.State.{Map, ModuleValue, changed_at, module_at, new_id, numbered, with_child, with_module_scope, with_scope}
use Rattle.hir_collector_rules.specs.HirDefMapRules.declared.declaration.Declaration.{Declaration as Listing}
use Rattle.hir_collector_rules.specs.HirDefMapRules.declared.declaration.Declaration.TheVariants as listings
use Rattle.hir_collector_rules.specs.HirGlobImports.declared.edge.Key.{Key}
use Rattle.hir_collector_rules.specs.HirGlobImports.declared.edge.Key.TheVariants.{Types, Values, Macros, Unnamed}
use Rattle.hir_collector_rules.specs.HirImportRules.Names.{redefined, revised}
use Rattle.hir_collector_rules.specs.declared.exported.ExportedFunction.{ExportedFunction}
use Rattle.hir_collector_rules.specs.Changes.{Change, lists, makes, gives_variants, begins_paths, reaches, awaits, ends, settles, changes_imports, adds_textual}
use Rattle.hir_collector_rules.specs.Changes.{takes_textual, defines, describes, helps, lists_derive, notes, exports, uses_macros, tells, goes_on, act, perform}
use Rattle.hir_collector_rules.specs.Changes.{with_builtin_derive}
use Rattle.hir_collector_rules.specs.Invocations.{with_invocation}
use Rattle.hir_collector_rules.specs.Ended.{ended, exporting_scope, without_function, without_functions}
use Rattle.hir_collector_rules.specs.State.{Core, State, import_state}
use Rattle.hir_collector_rules.proofs.ImportEdits.{Edit, edit, edit_of, edited, keeps_unnamed, map_after, pushes_to, redefines, revises}
use Rattle.hir_def_collector_laws.specs.Expansions.{derived_in}
use Rattle.hir_def_collector_laws.proofs.Ended.{ended_by}
use Rattle.hir_def_collector_laws.proofs.Lists.{at_first}

abbrev pub StayDerived : Map → Map → Type 0
StayDerived m n = (k : ℕ) (imp : BuiltinDeriveImplId) → Contains (derived_in (module_at m k)) imp → Contains (derived_in (module_at n k)) imp

-- a change of one module that keeps its impls
derived_changed : (ms : List ModuleValue) (at : ℕ) (change : ModuleValue → ModuleValue)
    → ((m : ModuleValue) (imp : BuiltinDeriveImplId) → Contains m.scope.builtin_derive_impls imp → Contains (change m).scope.builtin_derive_impls imp)
    → (k : ℕ) (imp : BuiltinDeriveImplId)
    → Contains (derived_in (slice_get ms k)) imp → Contains (derived_in (slice_get (changed_at ms at change) k)) imp
derived_changed [] at change keeps k imp h = h
derived_changed (m ∷ ms) zero change keeps zero imp h = keeps m imp h
derived_changed (m ∷ ms) zero change keeps (suc k) imp h = h
derived_changed (m ∷ ms) (suc at) change keeps zero imp h = h
derived_changed (m ∷ ms) (suc at) change keeps (suc k) imp h = derived_changed ms at change keeps k imp h

derived_longer : (ms more : List ModuleValue) (k : ℕ) (imp : BuiltinDeriveImplId) → Contains (derived_in (slice_get ms k)) imp
    → Contains (derived_in (slice_get (ms ++ more) k)) imp
derived_longer [] more k imp (n, below, is) = absurd (omega arith)
derived_longer (m ∷ ms) more zero imp h = h
derived_longer (m ∷ ms) more (suc k) imp h = derived_longer ms more k imp h

StayDerived-scope : (m : Map) (at : ℕ) (change : ScopeValue → ScopeValue)
    → ((s : ScopeValue) → (change s).builtin_derive_impls ≡ s.builtin_derive_impls) → StayDerived m (with_scope m at change)
StayDerived-scope m at change same k imp h =
    derived_changed m.modules at (with_module_scope change) (λ v i c. subst (λ (is : List BuiltinDeriveImplId). Contains is i) (sym (same v.scope)) c) k imp h

listed_keeps : (d : Listing) (s : ScopeValue) → (listed d s).builtin_derive_impls ≡ s.builtin_derive_impls
listed_keeps (listings.Def def) s = refl
listed_keeps other s = refl

edit_keeps : (m : ModuleId) (e : Edit) (s : ScopeValue) → (edit m e s).builtin_derive_impls ≡ s.builtin_derive_impls
edit_keeps m (pushes_to globs name items by) s = go (is_nothing items)
  where
    go : (b : Bool) → (cond b (with_unresolved s name) (written_scope name (taken_candidates s globs (m, name) items by) s)).builtin_derive_impls
        ≡ s.builtin_derive_impls
    go true = refl
    go false = refl
edit_keeps m (keeps_unnamed id vis by) s = refl
edit_keeps m (redefines name def vis) s = go def
  where
    go : (d : ItemInNs) → (redefined name d vis s).builtin_derive_impls ≡ s.builtin_derive_impls
    go (in_ns.Types x) = refl
    go (in_ns.Values x) = refl
    go (in_ns.Macros x) = refl
edit_keeps m (revises key vis) s = go key
  where
    go : (k : Key) → (revised k vis s).builtin_derive_impls ≡ s.builtin_derive_impls
    go (Types name) = refl
    go (Values name) = refl
    go (Macros name) = refl
    go (Unnamed id) = refl

StayDerived-edited : (m : Map) (o : Option (ℕ × Edit)) → StayDerived m (edited m o)
StayDerived-edited m None k imp h = h
StayDerived-edited m (Some e) k imp h = StayDerived-scope m e.0 (edit (numbered m.id e.0) e.1) (edit_keeps (numbered m.id e.0) e.1) k imp h

StayDerived-act : (s : State) (c : Change) → StayDerived s.core.map (act s c).core.map
StayDerived-act s (lists home d) k imp h = StayDerived-scope s.core.map home (listed d) (listed_keeps d) k imp h
StayDerived-act s (makes home name origin visibility) k imp h =
    derived_longer (changed_at s.core.map.modules home (with_child name (new_id s.core.map))) _ k imp
    (derived_changed s.core.map.modules home (with_child name (new_id s.core.map)) (λ m i c. c) k imp h)
StayDerived-act s (changes_imports c) k imp h =
    subst (λ (m : Map). Contains (derived_in (module_at m k)) imp) (sym (map_after (import_state s) c))
    (StayDerived-edited s.core.map (edit_of (import_state s) c) k imp h)
StayDerived-act s (adds_textual home name makro) k imp h = StayDerived-scope s.core.map home _ (λ x. refl) k imp h
StayDerived-act s (takes_textual home from_) k imp h = StayDerived-scope s.core.map home _ (λ x. refl) k imp h
StayDerived-act s (lists_derive home new) k imp h =
    derived_changed s.core.map.modules home (with_module_scope (with_builtin_derive new)) (λ m i c. Contains-append_left m.scope.builtin_derive_impls (new ∷ [])
    i c) k imp h
StayDerived-act s (notes home invocation) k imp h = StayDerived-scope s.core.map home (with_invocation invocation) (λ x. refl) k imp h
StayDerived-act s other k imp h = h

pub StayDerived-perform : (cs : List Change) (s : State) → StayDerived s.core.map (perform s cs).core.map
StayDerived-perform [] s k imp h = h
StayDerived-perform (c ∷ cs) s k imp h = StayDerived-perform cs (act s c) k imp (StayDerived-act s c k imp h)

-- an impl that comes in is there
pub derived_now : (ms : List ModuleValue) (home : ℕ) (imp : BuiltinDeriveImplId) → home < length ms
    → Contains (derived_in (slice_get (changed_at ms home (with_module_scope (with_builtin_derive imp))) home)) imp
derived_now [] home imp low = absurd (omega arith)
derived_now (m ∷ ms) zero imp low = Contains-append_right m.scope.builtin_derive_impls (imp ∷ []) imp (at_first imp [])
derived_now (m ∷ ms) (suc home) imp low = derived_now ms home imp (omega arith)

-- and what others see of the root of a procedural-macro crate has as many
without_keeps : (fs : List ExportedFunction) (s : ScopeValue) → (without_functions fs s).builtin_derive_impls ≡ s.builtin_derive_impls
without_keeps [] s = refl
without_keeps (f ∷ fs) s = without_keeps fs (without_function f.name f.id s)

pub StayDerived-ended : (c : Core) → StayDerived c.map (ended c)
StayDerived-ended c =
    ended_by c (λ (m : Map). StayDerived c.map m) (λ k imp h. h)
    (StayDerived-scope c.map 0 (exporting_scope c.map.id.krate c.exported) (without_keeps c.exported))
