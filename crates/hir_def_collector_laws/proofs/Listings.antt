-- What changes add to the lists of modules, and what they leave of modules.
use Rattle.std.proofs.Common.{◌≡◌, ◌∙◌, ◌<◌, ◌+◌, ℕ, zero, suc, Bool, true, false, cond, List, [], ◌∷◌, ◌++◌, length, map as list_map, slice_get, Option, None}
use Rattle.std.proofs.Common.{Some, refl, sym, ap, subst, arith, append-nil, append_assoc}
use Rattle.hir_collector_rules.specs.HirIds.declared.ast_id.AstId.{AstId}
use Rattle.hir_collector_rules.specs.HirIds.declared.macro_kind.MacroExpander.{MacroExpander}
use Rattle.hir_collector_rules.specs.HirIds.declared.macro_kind.MacroId.{MacroId}
use Rattle.hir_collector_rules.specs.HirIds.declared.ids.ModuleDefId.{ModuleDefId}
use Rattle.hir_collector_rules.specs.HirIds.declared.ids.ModuleId.{ModuleId}
use Rattle.hir_collector_rules.specs.HirItemTree.KeptForest.{Head}
use Rattle.hir_collector_rules.specs.HirPerNs.PerNs.{macros_only}
use Rattle.hir_collector_rules.specs.HirScope.Scope.{ScopeValue}
use Rattle.hir_collector_rules.specs.HirPerNs.declared.visibility.Visibility.TheVariants as visibilities
use Rattle.hir_collector_rules.specs.HirDefMapRules.Declaration.{listed}
use Rattle.hir_collector_rules.specs.HirDefMapRules.State.{Map, ModuleValue, changed_at, module_at, new_id, new_module}
use Rattle.hir_collector_rules.specs.HirDefMapRules.State.{numbered, with_child, with_module, with_module_scope}
use Rattle.hir_collector_rules.specs.HirDefMapRules.State.{with_scope}
use Rattle.hir_collector_rules.specs.HirDefMapRules.Overlay.{Maps}
use Rattle.hir_collector_rules.specs.HirDefMapRules.declared.declaration.Declaration.{Declaration as Listing}
use Rattle.hir_collector_rules.specs.HirDefMapRules.declared.declaration.Declaration.TheVariants as listings
use Rattle.hir_collector_rules.specs.HirMapParts.declared.derive_helpers.DeriveHelper.{DeriveHelper}
use Rattle.hir_collector_rules.proofs.HirDefMapRules.Grown.{length-changed}
use Rattle.hir_collector_rules.proofs.HirDefMapRules.StaysWellFormed.{length-made}
use Rattle.hir_collector_rules.specs.HirImportRules.Changes.{Change as ImportChange, pushes}
use Rattle.hir_collector_rules.specs.declared.exported.ExportedFunction.{ExportedFunction}
use Rattle.hir_collector_rules.specs.declared.macro_directive.MacroDirective.{MacroDirective}
use Rattle.hir_collector_rules.specs.Causes.{declarations_of}
use Rattle.hir_collector_rules.specs.Changes.{Change, lists, makes, gives_variants, begins_paths, reaches, awaits, ends, settles, meets_eager}
use Rattle.hir_collector_rules.specs.Changes.{changes_imports, adds_textual}
use Rattle.hir_collector_rules.specs.Changes.{takes_textual, defines, describes, helps, lists_derive, notes, exports, uses_macros, tells, goes_on, act, perform}
use Rattle.hir_collector_rules.specs.Changes.{with_builtin_derive}
use Rattle.hir_collector_rules.specs.Invocations.{with_invocation}
use Rattle.hir_collector_rules.specs.ItemIds.{module_id}
use Rattle.hir_collector_rules.specs.Macros.{is_exported}
use Rattle.hir_collector_rules.specs.Reports.{is_unimplemented, unimplemented_macro}
use Rattle.hir_collector_rules.specs.Ended.{ended, exporting_scope, without_function, without_functions}
use Rattle.hir_collector_rules.specs.Keys.{Environment}
use Rattle.hir_collector_rules.specs.State.{Core, State, import_state}
use Rattle.hir_collector_rules.specs.Steps.{Step, acts, asking, bringing, exporting, failing, reporting}
use Rattle.hir_collector_rules.proofs.Bound.{keeps-edit}
use Rattle.hir_collector_rules.proofs.Changes.{Keeps-act}
use Rattle.hir_collector_rules.proofs.Grows.{Grows-act}
use Rattle.hir_collector_rules.proofs.ImportEdits.{Edit, edit, edit_of, edited, map_after}
use Rattle.hir_collector_rules.proofs.Lists.{get_left}
use Rattle.hir_def_collector_laws.specs.Expansions.{at_home}
use Rattle.hir_def_collector_laws.proofs.Ended.{ended_by}

-- ---- what is listed

-- a change of one module that leaves its list
unlisted : (ms : List ModuleValue) (at : ℕ) (change : ModuleValue → ModuleValue) → ((m : ModuleValue) → (change m).scope.declarations ≡ m.scope.declarations)
    → (k : ℕ)
    → declarations_of (slice_get (changed_at ms at change) k) ≡ declarations_of (slice_get ms k)
unlisted [] at change keeps k = refl
unlisted (m ∷ ms) zero change keeps zero = keeps m
unlisted (m ∷ ms) zero change keeps (suc k) = refl
unlisted (m ∷ ms) (suc at) change keeps zero = refl
unlisted (m ∷ ms) (suc at) change keeps (suc k) = unlisted ms at change keeps k

-- one more definition
listed_at : (ms : List ModuleValue) (home : ℕ) (def : ModuleDefId) (k : ℕ) → k < length ms
    → declarations_of (slice_get (changed_at ms home (with_module_scope (listed (listings.Def def)))) k) ≡ declarations_of (slice_get ms k) ++ at_home home k
    (def ∷ [])
listed_at [] home def k low = absurd (omega arith)
listed_at (m ∷ ms) zero def zero low = refl
listed_at (m ∷ ms) zero def (suc k) low = sym (append-nil (declarations_of (slice_get ms k)))
listed_at (m ∷ ms) (suc home) def zero low = sym (append-nil m.scope.declarations)
listed_at (m ∷ ms) (suc home) def (suc k) low = listed_at ms home def k (omega arith)

abbrev pub added_by : ℕ → Listing → ℕ → List ModuleDefId
added_by home (listings.Def def) k = at_home home k (def ∷ [])
added_by home other k = []

-- what a change adds to the list of a module
abbrev pub added : Change → ℕ → List ModuleDefId
added (lists home d) k = added_by home d k
added other k = []

abbrev pub all_added : List Change → ℕ → List ModuleDefId
all_added [] k = []
all_added (c ∷ cs) k = added c k ++ all_added cs k

same_list : (xs : List ModuleDefId) {ys : List ModuleDefId} → ys ≡ xs → ys ≡ xs ++ []
same_list xs e = e ∙ sym (append-nil xs)

added-scope : (m : Map) (at : ℕ) (change : ScopeValue → ScopeValue) → ((s : ScopeValue) → (change s).declarations ≡ s.declarations) → (k : ℕ)
    → declarations_of (module_at (with_scope m at change) k) ≡ declarations_of (module_at m k) ++ []
added-scope m at change keeps k = same_list (declarations_of (module_at m k)) (unlisted m.modules at (with_module_scope change) (λ v. keeps v.scope) k)

added-listed : (m : Map) (home : ℕ) (d : Listing) (k : ℕ) → k < length m.modules
    → declarations_of (module_at (with_scope m home (listed d)) k) ≡ declarations_of (module_at m k) ++ added_by home d k
added-listed m home (listings.Def def) k low = listed_at m.modules home def k low
added-listed m home (listings.Use use_) k low = added-scope m home (listed (listings.Use use_)) (λ s. refl) k
added-listed m home (listings.ExternCrate extern_crate) k low = added-scope m home (listed (listings.ExternCrate extern_crate)) (λ s. refl) k
added-listed m home (listings.Impl imp is_trait_impl) k low = added-scope m home (listed (listings.Impl imp is_trait_impl)) (λ s. refl) k
added-listed m home (listings.ExternBlock extern_block) k low = added-scope m home (listed (listings.ExternBlock extern_block)) (λ s. refl) k
added-listed m home (listings.UnnamedConst konst) k low = added-scope m home (listed (listings.UnnamedConst konst)) (λ s. refl) k

added-edited : (m : Map) (o : Option (ℕ × Edit)) (k : ℕ) → declarations_of (module_at (edited m o) k) ≡ declarations_of (module_at m k) ++ []
added-edited m None k = same_list (declarations_of (module_at m k)) refl
added-edited m (Some e) k = added-scope m e.0 (edit (numbered m.id e.0) e.1) (λ s. (keeps-edit (numbered m.id e.0) e.1).declared s) k

added-act : (s : State) (c : Change) (k : ℕ) → k < length s.core.map.modules
    → declarations_of (module_at (act s c).core.map k) ≡ declarations_of (module_at s.core.map k) ++ added c k
added-act s (lists home d) k low = added-listed s.core.map home d k low
added-act s (makes home name origin visibility) k low =
    let ms : List ModuleValue = s.core.map.modules in
    let changed : List ModuleValue = changed_at ms home (with_child name (new_id s.core.map)) in
    let as_long : length changed ≡ length ms = length-changed ms home (with_child name (new_id s.core.map)) in
    same_list (declarations_of (module_at s.core.map k)) (ap declarations_of (get_left changed _ k (omega (arith, as_long))) ∙ unlisted ms home
    (with_child name (new_id s.core.map)) (λ m. refl) k)
added-act s (changes_imports c) k low =
    ap (λ (m : Map). declarations_of (module_at m k)) (map_after (import_state s) c) ∙ added-edited s.core.map (edit_of (import_state s) c) k
added-act s (adds_textual home name makro) k low = added-scope s.core.map home _ (λ x. refl) k
added-act s (takes_textual home from_) k low = added-scope s.core.map home _ (λ x. refl) k
added-act s (lists_derive home imp) k low = added-scope s.core.map home (with_builtin_derive imp) (λ x. refl) k
added-act s (notes home invocation) k low = added-scope s.core.map home (with_invocation invocation) (λ x. refl) k
added-act s other k low = same_list (declarations_of (module_at s.core.map k)) refl

pub added-perform : (cs : List Change) (s : State) (k : ℕ) → k < length s.core.map.modules
    → declarations_of (module_at (perform s cs).core.map k) ≡ declarations_of (module_at s.core.map k) ++ all_added cs k
added-perform [] s k low = same_list (declarations_of (module_at s.core.map k)) refl
added-perform (c ∷ cs) s k low =
    added-perform cs (act s c) k (omega (arith, low, (Grows-act s c).longer))
    ∙ ap (λ (xs : List ModuleDefId). xs ++ all_added cs k) (added-act s c k low)
    ∙ append_assoc (declarations_of (module_at s.core.map k)) (added c k) (all_added cs k)

pub nothing_added : (cs : List ImportChange) (k : ℕ) → all_added (list_map changes_imports cs) k ≡ []
nothing_added [] k = refl
nothing_added (c ∷ cs) k = nothing_added cs k

-- a macro that is exported is not listed, and what is reported lists nothing
pub macro_unlisted : (head : Head) (name : List ℕ) (makro : MacroId) (at : ModuleId) (node : AstId) (expander : MacroExpander) (k : ℕ)
    → all_added (exporting head name makro ++ reporting at node expander) k ≡ []
macro_unlisted head name makro at node expander k = go (is_exported head.attributes) (is_unimplemented expander)
  where
    go : (exported unimplemented : Bool) → all_added
        (cond exported (changes_imports (pushes 0 (Some name) (macros_only makro visibilities.Public None) None) ∷ []) []
        ++ cond unimplemented (tells (unimplemented_macro at node) ∷ []) []) k ≡ []
    go true true = refl
    go true false = refl
    go false true = refl
    go false false = refl

pub reporting_unlisted : (at : ModuleId) (node : AstId) (expander : MacroExpander) (k : ℕ) → all_added (reporting at node expander) k ≡ []
reporting_unlisted at node expander k = go (is_unimplemented expander)
  where
    go : (unimplemented : Bool) → all_added (cond unimplemented (tells (unimplemented_macro at node) ∷ []) []) k ≡ []
    go true = refl
    go false = refl

pub failing_unlisted : (at : ModuleId) (d : MacroDirective) (error : Option (List ℕ)) (k : ℕ) → all_added (failing at d error) k ≡ []
failing_unlisted at d None k = refl
failing_unlisted at d (Some text) k = refl

-- helpers that a derive brings list nothing either
pub bringing_unlisted : (node : AstId) (helpers : List DeriveHelper) (k : ℕ) → all_added (bringing node helpers) k ≡ []
bringing_unlisted node [] k = refl
bringing_unlisted node (h ∷ hs) k = bringing_unlisted node hs k

pub expanding_unlisted : (node : AstId) (helpers : List DeriveHelper) (at : ModuleId) (d : MacroDirective) (error : Option (List ℕ)) (k : ℕ)
    → all_added (bringing node helpers ++ failing at d error) k ≡ []
expanding_unlisted node [] at d error k = failing_unlisted at d error k
expanding_unlisted node (h ∷ hs) at d error k = expanding_unlisted node hs at d error k

-- ---- how many modules there are

abbrev pub made_by : Change → ℕ
made_by (makes home name origin visibility) = 1
made_by other = 0

abbrev pub all_made : List Change → ℕ
all_made [] = 0
all_made (c ∷ cs) = made_by c + all_made cs

length-scope : (m : Map) (at : ℕ) (change : ScopeValue → ScopeValue) → length (with_scope m at change).modules ≡ length m.modules + 0
length-scope m at change =
    let same : length (with_scope m at change).modules ≡ length m.modules = length-changed m.modules at (with_module_scope change) in omega arith

length-edited : (m : Map) (o : Option (ℕ × Edit)) → length (edited m o).modules ≡ length m.modules + 0
length-edited m None = omega arith
length-edited m (Some e) = length-scope m e.0 (edit (numbered m.id e.0) e.1)

length-act : (s : State) (c : Change) → length (act s c).core.map.modules ≡ length s.core.map.modules + made_by c
length-act s (lists home d) = length-scope s.core.map home (listed d)
length-act s (makes home name origin visibility) = length-made s.core.map home name (new_module origin visibility (Some (module_id s.core.map home)))
length-act s (changes_imports c) = ap (λ (m : Map). length m.modules) (map_after (import_state s) c) ∙ length-edited s.core.map (edit_of (import_state s) c)
length-act s (adds_textual home name makro) = length-scope s.core.map home _
length-act s (takes_textual home from_) = length-scope s.core.map home _
length-act s (lists_derive home imp) = length-scope s.core.map home (with_builtin_derive imp)
length-act s (notes home invocation) = length-scope s.core.map home (with_invocation invocation)
length-act s other = omega arith

pub length-perform : (cs : List Change) (s : State) → length (perform s cs).core.map.modules ≡ length s.core.map.modules + all_made cs
length-perform [] s = omega arith
length-perform (c ∷ cs) s = let later = length-perform cs (act s c) in let now = length-act s c in omega (arith, later, now)

pub nothing_made : (cs : List ImportChange) → all_made (list_map changes_imports cs) ≡ 0
nothing_made [] = refl
nothing_made (c ∷ cs) = omega (arith, nothing_made cs)

pub macro_makes_none : (head : Head) (name : List ℕ) (makro : MacroId) (at : ModuleId) (node : AstId) (expander : MacroExpander)
    → all_made (exporting head name makro ++ reporting at node expander) ≡ 0
macro_makes_none head name makro at node expander = go (is_exported head.attributes) (is_unimplemented expander)
  where
    go : (exported unimplemented : Bool) → all_made
        (cond exported (changes_imports (pushes 0 (Some name) (macros_only makro visibilities.Public None) None) ∷ []) []
        ++ cond unimplemented (tells (unimplemented_macro at node) ∷ []) []) ≡ 0
    go true true = refl
    go true false = refl
    go false true = refl
    go false false = refl

pub reporting_makes_none : (at : ModuleId) (node : AstId) (expander : MacroExpander) → all_made (reporting at node expander) ≡ 0
reporting_makes_none at node expander = go (is_unimplemented expander)
  where
    go : (unimplemented : Bool) → all_made (cond unimplemented (tells (unimplemented_macro at node) ∷ []) []) ≡ 0
    go true = refl
    go false = refl

pub failing_makes_none : (at : ModuleId) (d : MacroDirective) (error : Option (List ℕ)) → all_made (failing at d error) ≡ 0
failing_makes_none at d None = refl
failing_makes_none at d (Some text) = refl

pub bringing_makes_none : (node : AstId) (helpers : List DeriveHelper) → all_made (bringing node helpers) ≡ 0
bringing_makes_none node [] = refl
bringing_makes_none node (h ∷ hs) = omega (arith, bringing_makes_none node hs)

pub expanding_makes_none : (node : AstId) (helpers : List DeriveHelper) (at : ModuleId) (d : MacroDirective) (error : Option (List ℕ))
    → all_made (bringing node helpers ++ failing at d error) ≡ 0
expanding_makes_none node [] at d error = failing_makes_none at d error
expanding_makes_none node (h ∷ hs) at d error = omega (arith, expanding_makes_none node hs at d error)

-- nor do they change what comes next
pub macro_agenda : (t : State) (head : Head) (name : List ℕ) (makro : MacroId) (at : ModuleId) (node : AstId) (expander : MacroExpander)
    → (perform t (exporting head name makro ++ reporting at node expander)).agenda ≡ t.agenda
macro_agenda t head name makro at node expander = go (is_exported head.attributes) (is_unimplemented expander)
  where
    go : (exported unimplemented : Bool) → (perform t
        (cond exported (changes_imports (pushes 0 (Some name) (macros_only makro visibilities.Public None) None) ∷ []) []
        ++ cond unimplemented (tells (unimplemented_macro at node) ∷ []) [])).agenda ≡ t.agenda
    go true true = refl
    go true false = refl
    go false true = refl
    go false false = refl

pub reporting_agenda : (t : State) (at : ModuleId) (node : AstId) (expander : MacroExpander) → (perform t (reporting at node expander)).agenda ≡ t.agenda
reporting_agenda t at node expander = go (is_unimplemented expander)
  where
    go : (unimplemented : Bool) → (perform t (cond unimplemented (tells (unimplemented_macro at node) ∷ []) [])).agenda ≡ t.agenda
    go true = refl
    go false = refl

pub failing_agenda : (t : State) (at : ModuleId) (d : MacroDirective) (error : Option (List ℕ)) → (perform t (failing at d error)).agenda ≡ t.agenda
failing_agenda t at d None = refl
failing_agenda t at d (Some text) = refl

pub bringing_agenda : (t : State) (node : AstId) (helpers : List DeriveHelper) → (perform t (bringing node helpers)).agenda ≡ t.agenda
bringing_agenda t node [] = refl
bringing_agenda t node (h ∷ hs) = bringing_agenda (act t (helps node h)) node hs

pub expanding_agenda : (t : State) (node : AstId) (helpers : List DeriveHelper) (at : ModuleId) (d : MacroDirective) (error : Option (List ℕ))
    → (perform t (bringing node helpers ++ failing at d error)).agenda ≡ t.agenda
expanding_agenda t node [] at d error = failing_agenda t at d error
expanding_agenda t node (h ∷ hs) at d error = expanding_agenda (act t (helps node h)) node hs at d error

-- ---- what stays of modules, and of the map

-- a module is there with this origin and parent
pub record StaysAt (o : Option ModuleValue) (v : ModuleValue) : Type 0 where
  pub value : ModuleValue
  pub there : o ≡ Some value
  pub origin : value.origin ≡ v.origin
  pub parent : value.parent ≡ v.parent

abbrev pub Stays : Map → Map → Type 0
Stays old new = (k : ℕ) (v : ModuleValue) → module_at old k ≡ Some v → StaysAt (module_at new k) v

stays_changed : (ms : List ModuleValue) (at : ℕ) (change : ModuleValue → ModuleValue) → ((m : ModuleValue) → (change m).origin ≡ m.origin)
    → ((m : ModuleValue) → (change m).parent ≡ m.parent)
    → (k : ℕ) (v : ModuleValue) → slice_get ms k ≡ Some v → StaysAt (slice_get (changed_at ms at change) k) v
stays_changed [] at change origin parent k v e = absurd (let no : ⊥ = cc in no)
stays_changed (m ∷ ms) zero change origin parent zero v e =
    let same : m ≡ v = cc in
    record {
      value = change m;
      there = refl;
      origin = origin m ∙ ap (λ (x : ModuleValue). x.origin) same;
      parent = parent m ∙ ap (λ (x : ModuleValue). x.parent)
          same;
    }
stays_changed (m ∷ ms) zero change origin parent (suc k) v e = record { value = v; there = e; origin = refl; parent = refl }
stays_changed (m ∷ ms) (suc at) change origin parent zero v e = record { value = v; there = e; origin = refl; parent = refl }
stays_changed (m ∷ ms) (suc at) change origin parent (suc k) v e = stays_changed ms at change origin parent k v e

stays_longer : (ms more : List ModuleValue) (k : ℕ) (v : ModuleValue) → StaysAt (slice_get ms k) v → StaysAt (slice_get (ms ++ more) k) v
stays_longer [] more k v p = let missing : None ≡ Some p.value = p.there in absurd (let no : ⊥ = cc in no)
stays_longer (m ∷ ms) more zero v p = record { value = p.value; there = p.there; origin = p.origin; parent = p.parent }
stays_longer (m ∷ ms) more (suc k) v p = stays_longer ms more k v p

Stays-same : (m : Map) → Stays m m
Stays-same m k v e = record { value = v; there = e; origin = refl; parent = refl }

Stays-scope : (m : Map) (at : ℕ) (change : ScopeValue → ScopeValue) → Stays m (with_scope m at change)
Stays-scope m at change k v e = stays_changed m.modules at (with_module_scope change) (λ x. refl) (λ x. refl) k v e

Stays-edited : (m : Map) (o : Option (ℕ × Edit)) → Stays m (edited m o)
Stays-edited m None = Stays-same m
Stays-edited m (Some e) = Stays-scope m e.0 (edit (numbered m.id e.0) e.1)

Stays-act : (s : State) (c : Change) → Stays s.core.map (act s c).core.map
Stays-act s (lists home d) = Stays-scope s.core.map home (listed d)
Stays-act s (makes home name origin visibility) = λ k v e.
    stays_longer (changed_at s.core.map.modules home (with_child name (new_id s.core.map))) _ k v
    (stays_changed s.core.map.modules home (with_child name (new_id s.core.map)) (λ x. refl) (λ x. refl) k v e)
Stays-act s (begins_paths r) = Stays-same s.core.map
Stays-act s (reaches rs) = Stays-same s.core.map
Stays-act s (awaits calls) = Stays-same s.core.map
Stays-act s (ends i fate) = Stays-same s.core.map
Stays-act s (meets_eager i seen) = Stays-same s.core.map
Stays-act s settles = Stays-same s.core.map
Stays-act s (changes_imports c) =
    subst (λ (m : Map). Stays s.core.map m) (sym (map_after (import_state s) c)) (Stays-edited s.core.map (edit_of (import_state s) c))
Stays-act s (adds_textual home name makro) = Stays-scope s.core.map home _
Stays-act s (takes_textual home from_) = Stays-scope s.core.map home _
Stays-act s (lists_derive home imp) = Stays-scope s.core.map home (with_builtin_derive imp)
Stays-act s (notes home invocation) = Stays-scope s.core.map home (with_invocation invocation)
Stays-act s (goes_on tasks) = Stays-same s.core.map
Stays-act s other = λ k v e. record { value = v; there = e; origin = refl; parent = refl }

pub Stays-trans : (a b c : Map) → Stays a b → Stays b c → Stays a c
Stays-trans a b c p q k v e =
    let one = p k v e in
    let two = q k one.value one.there in
    record { value = two.value; there = two.there; origin = two.origin ∙ one.origin; parent = two.parent ∙ one.parent }

pub Stays-perform : (cs : List Change) (s : State) → Stays s.core.map (perform s cs).core.map
Stays-perform [] s = Stays-same s.core.map
Stays-perform (c ∷ cs) s = Stays-trans s.core.map (act s c).core.map (perform (act s c) cs).core.map (Stays-act s c) (Stays-perform cs (act s c))

pub id-perform : (cs : List Change) (s : State) → (perform s cs).core.map.id ≡ s.core.map.id
id-perform [] s = refl
id-perform (c ∷ cs) s = id-perform cs (act s c) ∙ (Keeps-act s c).id

pub data-perform : (cs : List Change) (s : State) → (perform s cs).core.map.crate_data ≡ s.core.map.crate_data
data-perform [] s = refl
data-perform (c ∷ cs) s = data-perform cs (act s c) ∙ (Keeps-act s c).crate_data

-- ---- the module that is made

new_there : (ms : List ModuleValue) (v : ModuleValue) → slice_get (ms ++ v ∷ []) (length ms) ≡ Some v
new_there [] v = refl
new_there (m ∷ ms) v = new_there ms v

pub made_there : (m : Map) (home : ℕ) (name : List ℕ) (new : ModuleValue) → module_at (with_module m home name new) (length m.modules) ≡ Some new
made_there m home name new =
    let changed : List ModuleValue = changed_at m.modules home (with_child name (new_id m)) in
    let as_long : length changed ≡ length m.modules = length-changed m.modules home (with_child name (new_id m)) in
    subst (λ (k : ℕ). slice_get (changed ++ new ∷ []) k ≡ Some new) as_long (new_there changed new)

-- ---- what others see of the root of a procedural-macro crate

without_lists : (fs : List ExportedFunction) (s : ScopeValue) → (without_functions fs s).declarations ≡ s.declarations
without_lists [] s = refl
without_lists (f ∷ fs) s = without_lists fs (without_function f.name f.id s)

pub listed-ended : (c : Core) (k : ℕ) → declarations_of (module_at (ended c) k) ≡ declarations_of (module_at c.map k)
listed-ended c k =
    ended_by c (λ (m : Map). declarations_of (module_at m k) ≡ declarations_of (module_at c.map k)) refl
    (unlisted c.map.modules 0 (with_module_scope (exporting_scope c.map.id.krate c.exported)) (λ v. without_lists c.exported v.scope) k)

pub Stays-ended : (c : Core) → Stays c.map (ended c)
Stays-ended c = ended_by c (λ (m : Map). Stays c.map m) (Stays-same c.map) (Stays-scope c.map 0 (exporting_scope c.map.id.krate c.exported))

-- ---- whether the crate is a procedural macro's

proc-act : (s : State) (c : Change) → (act s c).core.is_proc_macro ≡ s.core.is_proc_macro
proc-act s (lists home d) = refl
proc-act s other = refl

proc-perform : (cs : List Change) (s : State) → (perform s cs).core.is_proc_macro ≡ s.core.is_proc_macro
proc-perform [] s = refl
proc-perform (c ∷ cs) s = proc-perform cs (act s c) ∙ proc-act s c

pub proc-Step : {env : Environment} {finished : Maps} {old new : State} → Step env finished old new → new.core.is_proc_macro ≡ old.core.is_proc_macro
proc-Step {finished = finished} {old = old} step =
    ap (λ (s : State). s.core.is_proc_macro) step.is ∙ proc-perform (acts finished old step.rule) (asking old step.rule)
