-- The namespaces that an import keeps of those that its takings reached are bound under its name.
use Rattle.std.proofs.Common.{◌≡◌, ◌∙◌, ℕ, ◌<◌, Bool, true, false, List, [], ◌∷◌, length, map as list_map, slice_get, slice_set, Option, None, Some, inl, inr}
use Rattle.std.proofs.Common.{refl, sym, ap, subst, arith}
use Rattle.std.proofs.lemmas.Bool.{cases_lt}
use Rattle.hir_nameres.specs.HirIds.declared.ids.Crate.{Crate}
use Rattle.hir_nameres.specs.HirIds.declared.ids.ModuleId.{ModuleId}
use Rattle.hir_item_tree.specs.ItemTree.{Tree}
use Rattle.hir_item_tree.specs.KeptForest.{KeptForest, no_items, item}
use Rattle.hir_nameres.specs.HirBase.declared.tree_id.TreeId.{TreeId}
use Rattle.hir_nameres.proofs.HirDefMapRules.NoneOf.{not_first, not_second}
use Rattle.hir_nameres.specs.HirDefMapRules.State.{Map, entry_at, place_at}
use Rattle.hir_nameres.specs.HirDefMapRules.Overlay.{Maps}
use Rattle.hir_nameres.specs.HirPerNs.declared.per_ns.PerNs.{PerNs}
use Rattle.hir_glob_imports.specs.Rules.{Act}
use Rattle.hir_glob_imports.specs.declared.edge.Target.{Target}
use Rattle.hir_nameres.specs.HirDefMapRules.Scoping.{Resolution}
use Rattle.hir_import_rules.specs.declared.directive.ImportDirective.{ImportDirective}
use Rattle.hir_import_rules.specs.declared.directive.ImportSource.{ImportSource}
use Rattle.hir_import_rules.specs.declared.namespaces.Namespaces.{Namespaces}
use Rattle.hir_import_rules.specs.Directives.{AreAmong, TakenValue, answer_to, kept_by, kept_trait, kind_of, leaf_of, name_of, namespaces_of}
use Rattle.hir_import_rules.specs.Directives.{no_namespaces, not_taken, nothing_taken, offered_by, taken_after, taken_for, visibility_of}
use Rattle.hir_import_rules.specs.Changes.{Change as ImportChange, act as act_on_imports, along, keeps_trait, pushes, pushing, records, takes}
use Rattle.hir_import_rules.specs.Rules.{CanTake, Rule as ImportRule, May as MayImport, acts as import_acts, goes_along, takes_glob, takes_import}
use Rattle.hir_import_rules.specs.State.{ImportState}
use Rattle.hir_collector_rules.specs.Types.{Site, Start}
use Rattle.hir_tables.specs.Tables.{TablesValue}
use Rattle.hir_collector_rules.specs.Workspace.{Workspace, transitive_dependencies_in}
use Rattle.hir_collector_rules.specs.Calls.{error_of}
use Rattle.hir_collector_rules.specs.Keys.{Environment, tree_at}
use Rattle.hir_collector_rules.specs.State.{State, import_state, visits_over}
use Rattle.hir_collector_rules.specs.Start.{Beginning, began, is_declared, krate_of, start_of, root_site, tree_key, tree_visits}
use Rattle.hir_collector_rules.specs.Changes.{Change, lists, makes, gives_variants, begins_paths, reaches, awaits, ends, meets_eager, settles}
use Rattle.hir_collector_rules.specs.Changes.{changes_imports, adds_textual}
use Rattle.hir_collector_rules.specs.Changes.{takes_textual, defines, describes, helps, lists_derive, notes, exports, uses_macros, tells, goes_on, act, on_map}
use Rattle.hir_collector_rules.specs.Steps.{Rule, drops_item, awaits_attribute, lists_derives, faults_derive, exports_macro, reaches_call, rests}
use Rattle.hir_collector_rules.specs.Steps.{expands_call, meets_macro}
use Rattle.hir_collector_rules.specs.Steps.{drops_call, drops_reached, derives_builtin, skips_attribute, falls_back, defines_rules, defines_macro}
use Rattle.hir_collector_rules.specs.Steps.{closes_module, declares_item, declares_enum, lists_constant, lists_impl, opens_module, opens_file, drops_file}
use Rattle.hir_collector_rules.specs.Steps.{misses_file, enters_block, reaches_imports, reaches_crate, resolves_imports, May, acts, asking, Step, Steps, none}
use Rattle.hir_collector_rules.specs.Steps.{more}
use Rattle.hir_collector_rules.proofs.Lists.{get_left, get_right, get_inside, get_set_same, get_set_other, length_set, length_both, length_mapped, get_same}
use Rattle.hir_collector_rules.proofs.Bound.{AreAmong-trans, AreAmong-both, AreAmong-nothing, among-pushed, namespaces_of-imported, number_same_or_not}
use Rattle.hir_collector_rules.proofs.Kept.{kept_namespaces, kept_namespaces-both, kept_namespaces-none, kept_of-own, namespaces_of-kept}
use Rattle.hir_collector_rules.proofs.Changes.{AllFine, fine_bringing, fine_expanding, fine_macro, fine_reporting, perform_keeps}
use Rattle.hir_collector_rules.proofs.Grows.{Grows, Grows-act}
use Rattle.hir_collector_rules.proofs.ImportEdits.{imports_after}
use Rattle.hir_collector_rules.proofs.InRange.{IsInRange, VisitsBelow, import_at, in_range-Steps}

-- under the name that the import at the place gives the module binds what the import keeps of these takings, unless one was
-- answered through another crate
pub record IsBoundAs (s : State) (i : ℕ) (t : TakenValue) : Type 0 where
  pub bound : (r : ImportDirective) (name : List ℕ) → slice_get s.core.reached i ≡ Some r → t.crossed ≡ false → name_of r ≡ Some name
      → AreAmong (kept_namespaces (kind_of r.source) t.namespaces) (namespaces_of (entry_at s.core.map r.home name))

pub record Holds (s : State) : Type 0 where
  pub paired : length s.core.taken ≡ length s.core.reached
  pub bound : (i : ℕ) (t : TakenValue) → slice_get s.core.taken i ≡ Some t → IsBoundAs s i t

-- ---- changes

-- what takings reached is bound
abbrev TakesBound : State → ImportChange → Type 0
TakesBound s (takes i t) = IsBoundAs s i t
TakesBound s other = Unit {0}

abbrev TakesWhatIsBound : State → Change → Type 0
TakesWhatIsBound s (changes_imports c) = TakesBound s c
TakesWhatIsBound s other = Unit {0}

-- a map that has grown
bound-grown : (s t : State) → t.core.reached ≡ s.core.reached → Grows s.core.map t.core.map → (i : ℕ) (u : TakenValue) → IsBoundAs s i u → IsBoundAs t i u
bound-grown s t same grows i u p = record {
  bound =
      λ r name at own gives. AreAmong-trans (p.bound r name (subst (λ (rs : List ImportDirective). slice_get rs i ≡ Some r) same at) own gives)
      (grows.kept r.home name);
}

Holds-larger : (s t : State) → t.core.reached ≡ s.core.reached → t.core.taken ≡ s.core.taken → Grows s.core.map t.core.map → Holds s → Holds t
Holds-larger s t same taken grows h = record {
  paired = ap (λ (ts : List TakenValue). length ts) taken ∙ h.paired ∙ sym (ap (λ (rs : List ImportDirective). length rs) same);
  bound = λ i u before. bound-grown s t same grows i u (h.bound i u (subst (λ (ts : List TakenValue). slice_get ts i ≡ Some u) taken before));
}

Holds-grown : (s : State) (m : Map) → Grows s.core.map m → Holds s → Holds (on_map s m)
Holds-grown s m grows h = Holds-larger s (on_map s m) refl refl grows h

AreAmong-none : (k : _) (t c : Namespaces) → no_namespaces ≡ t → AreAmong (kept_namespaces k t) c
AreAmong-none k t c e =
    subst (λ (x : Namespaces). AreAmong x c) (sym (ap (kept_namespaces k) (sym e) ∙ kept_namespaces-none k)) (AreAmong-nothing c)

-- more imports, none of them taken
Holds-reaches : (s : State) (imports : List ImportDirective) → Holds s → Holds (act s (reaches imports))
Holds-reaches s imports h =
    let reached : List ImportDirective = s.core.reached in
    let taken : List TakenValue = s.core.taken in
    let fresh : List TakenValue = not_taken imports in
    let as_long : length fresh ≡ length imports = length_mapped (λ _. nothing_taken) imports in
    let pairs : length taken ≡ length reached = h.paired in
    record {
      paired = length_both taken fresh ∙ (omega arith) ∙ sym (length_both reached imports);
      bound = λ i t before. record {
        bound = λ r name at own gives. elim (cases_lt i (length reached)) [
          | inl inside ↦ (h.bound i t (sym (get_left taken fresh i (omega arith)) ∙ before)).bound r name (sym (get_left reached imports i inside) ∙ at) own
              gives
          | inr past ↦
              let right = get_right taken fresh i (omega arith) in
              AreAmong-none (kind_of r.source) t.namespaces (namespaces_of (entry_at s.core.map r.home name))
              (ap (λ (x : TakenValue). x.namespaces) (get_same nothing_taken imports right.0 t (sym right.1 ∙ before)))
        ];
      };
    }

Holds-takes : (s : State) (i : ℕ) (t : TakenValue) → Holds s → IsBoundAs s i t → Holds (act s (changes_imports (takes i t)))
Holds-takes s i t h fine =
    let after : State = act s (changes_imports (takes i t)) in
    let now : List TakenValue = slice_set s.core.taken i t in
    let as_long : length now ≡ length s.core.taken = length_set s.core.taken i t in
    record {
      paired = as_long ∙ h.paired;
      bound = λ j u before. elim (number_same_or_not j i) [
        | inr ne ↦ record { bound = (h.bound j u (sym (get_set_other s.core.taken i j t ne) ∙ before)).bound }
        | inl here ↦
            let u_at : slice_get now i ≡ Some u = subst (λ (k : ℕ). slice_get now k ≡ Some u) here before in
            let inside : i < length s.core.taken = omega (arith, get_inside now i u u_at) in
            let t_at : slice_get now i ≡ Some t = get_set_same s.core.taken i t inside in
            let same : t ≡ u = cc in
            let mine : IsBoundAs after i t = record { bound = fine.bound } in
            subst (λ (k : ℕ). IsBoundAs after k u) (sym here) (subst (λ (x : TakenValue). IsBoundAs after i x) same mine)
      ];
    }

-- what is to be visited, what calls wait, and what paths may begin with, doesn't matter
same_bound : (s t : State) → t.core.reached ≡ s.core.reached → t.core.map ≡ s.core.map → (i : ℕ) (u : TakenValue) → IsBoundAs s i u → IsBoundAs t i u
same_bound s t reached map i u p = record {
  bound =
      λ r name at own gives. subst (λ (m : Map). AreAmong (kept_namespaces (kind_of r.source) u.namespaces) (namespaces_of (entry_at m r.home name))) (sym map)
      (p.bound r name (subst (λ (rs : List ImportDirective). slice_get rs i ≡ Some r) reached at) own gives);
}

Holds-imports : (s : State) (c : ImportChange) → Holds s → TakesBound s c → Holds (act s (changes_imports c))
Holds-imports s (pushes home None items source) h fine = Holds-larger s _ refl refl (Grows-act s (changes_imports (pushes home None items source))) h
Holds-imports s (pushes home (Some name) items source) h fine =
    Holds-larger s _ refl refl (Grows-act s (changes_imports (pushes home (Some name) items source))) h
Holds-imports s (keeps_trait finished home None vis import) h fine =
    Holds-larger s _ refl refl (Grows-act s (changes_imports (keeps_trait finished home None vis import))) h
Holds-imports s (keeps_trait finished home (Some id) vis import) h fine =
    Holds-larger s _ refl refl (Grows-act s (changes_imports (keeps_trait finished home (Some id) vis import))) h
Holds-imports s (takes i t) h fine = Holds-takes s i t h fine
Holds-imports s (records edges) h fine = Holds-larger s _ refl refl (Grows-act s (changes_imports (records edges))) h
Holds-imports s (along finished a) h fine = Holds-larger s _ refl refl (Grows-act s (changes_imports (along finished a))) h

Holds-act : (s : State) (c : Change) → Holds s → TakesWhatIsBound s c → Holds (act s c)
Holds-act s (lists home d) h fine = Holds-grown s _ (Grows-act s (lists home d)) h
Holds-act s (makes home name origin visibility) h fine = Holds-grown s _ (Grows-act s (makes home name origin visibility)) h
Holds-act s (gives_variants id variants) h fine = Holds-grown s _ (Grows-act s (gives_variants id variants)) h
Holds-act s (begins_paths r) h fine = record { paired = h.paired; bound = λ i t at. same_bound s (act s (begins_paths r)) refl refl i t (h.bound i t at) }
Holds-act s (reaches rs) h fine = Holds-reaches s rs h
Holds-act s (awaits calls) h fine = record { paired = h.paired; bound = λ i t at. same_bound s (act s (awaits calls)) refl refl i t (h.bound i t at) }
Holds-act s (ends i fate) h fine = record { paired = h.paired; bound = λ j t at. same_bound s (act s (ends i fate)) refl refl j t (h.bound j t at) }
Holds-act s (meets_eager i seen) h fine =
    record { paired = h.paired; bound = λ j t at. same_bound s (act s (meets_eager i seen)) refl refl j t (h.bound j t at) }
Holds-act s settles h fine = record { paired = h.paired; bound = λ i t at. same_bound s (act s settles) refl refl i t (h.bound i t at) }
Holds-act s (changes_imports c) h fine = Holds-imports s c h fine
Holds-act s (adds_textual home name makro) h fine = Holds-grown s _ (Grows-act s (adds_textual home name makro)) h
Holds-act s (takes_textual home from) h fine = Holds-grown s _ (Grows-act s (takes_textual home from)) h
Holds-act s (defines node makro) h fine = Holds-grown s _ (Grows-act s (defines node makro)) h
Holds-act s (describes makro what) h fine = Holds-grown s _ (Grows-act s (describes makro what)) h
Holds-act s (helps node helper) h fine = Holds-grown s _ (Grows-act s (helps node helper)) h
Holds-act s (lists_derive home imp) h fine = Holds-grown s _ (Grows-act s (lists_derive home imp)) h
Holds-act s (notes home invocation) h fine = Holds-grown s _ (Grows-act s (notes home invocation)) h
Holds-act s (exports f makro) h fine = Holds-larger s (act s (exports f makro)) refl refl (Grows-act s (exports f makro)) h
Holds-act s (uses_macros macros by) h fine = Holds-grown s _ (Grows-act s (uses_macros macros by)) h
Holds-act s (tells d) h fine = Holds-grown s _ (Grows-act s (tells d)) h
Holds-act s (goes_on vs) h fine = record { paired = h.paired; bound = λ i t at. same_bound s (act s (goes_on vs)) refl refl i t (h.bound i t at) }

-- ---- rules

-- what is pushed under a name is bound
pushed_bound : (s : ImportState) (home : ℕ) (o : Option (List ℕ)) (name : List ℕ) (items : PerNs) (source : Option ImportSource) → o ≡ Some name
    → home < length s.map.modules
    → AreAmong (namespaces_of items) (namespaces_of (entry_at (act_on_imports s (pushes home o items source)).map home name))
pushed_bound s home o name items source gives inside =
    subst (λ (p : Option (List ℕ)). AreAmong (namespaces_of items) (namespaces_of (entry_at (act_on_imports s (pushes home p items source)).map home name)))
    (sym gives)
    (among-pushed s.map.modules home s.globs (place_at s.map.id home name) items (pushing source) inside)

module _ (finished : Maps) (s : State) (i : ℕ) (r : ImportDirective) (t : TakenValue) (can : CanTake finished (import_state s) i r t) (inside : IsInRange s) (h : Holds s) where
  abbrev offered : PerNs
  offered = offered_by finished s.core.local s.core.map r

  abbrev answer : Resolution
  answer = answer_to finished s.core.local s.core.map r

  abbrev push : ImportChange
  push = pushes r.home (name_of r) offered (Some r.source)

  abbrev keep : ImportChange
  keep = keeps_trait finished r.home (kept_trait finished s.core.local s.core.map r) (visibility_of finished s.core.local s.core.map r) (leaf_of r.source)

  abbrev pushed : State
  pushed = act s (changes_imports push)

  abbrev kept : State
  kept = act pushed (changes_imports keep)

  -- what is kept of what a taking reached is bound under the name that it gives
  bound_taken : (name : List ℕ) → name_of r ≡ Some name → r.home < length s.core.map.modules
      → AreAmong (namespaces_of (kept_by finished s.core.local s.core.map r)) (namespaces_of (entry_at pushed.core.map r.home name))
  bound_taken name gives here =
      subst (λ (x : Namespaces). AreAmong x (namespaces_of (entry_at pushed.core.map r.home name)))
      (namespaces_of-imported finished s.core.map _ _ (kept_by finished s.core.local s.core.map r))
      (pushed_bound (import_state s) r.home (name_of r) name offered (Some r.source) gives here)

  taken_bound : IsBoundAs pushed i (taken_after t answer)
  taken_bound = record {
    bound = λ q name at own gives.
        let r_at : slice_get s.core.reached i ≡ Some r = can.import in
        let q_at : slice_get s.core.reached i ≡ Some q = subst (λ (rs : List ImportDirective). slice_get rs i ≡ Some q) (imports_after (import_state s) push) at
        in
        let one : r ≡ q = cc in
        let kind = kind_of r.source in
        let gain : Namespaces = namespaces_of answer.resolved_def in
        let now : TakenValue = taken_after t answer in
        let before : t.crossed ≡ false = not_first t.crossed answer.prefix_info.differing_crate own in
        let within : answer.prefix_info.differing_crate ≡ false = not_second t.crossed answer.prefix_info.differing_crate own in
        let named : name_of r ≡ Some name = subst (λ (x : ImportDirective). name_of x ≡ Some name) (sym one) gives in
        let entry : Namespaces = namespaces_of (entry_at pushed.core.map r.home name) in
        let kept_is : namespaces_of (kept_by finished s.core.local s.core.map r) ≡ kept_namespaces kind gain =
        ap namespaces_of (kept_of-own kind answer within) ∙ namespaces_of-kept kind answer.resolved_def in
        let gained : AreAmong (kept_namespaces kind gain) entry =
        subst (λ (x : Namespaces). AreAmong x entry) kept_is
        (bound_taken name named (import_at (length s.core.map.modules) s.core.reached i r inside.imports r_at)) in
        let had : AreAmong (kept_namespaces kind t.namespaces) entry =
        AreAmong-trans ((h.bound i t can.before).bound r name r_at before named) ((Grows-act s (changes_imports push)).kept r.home name) in
        let both : AreAmong (kept_namespaces kind now.namespaces) entry =
        subst (λ (x : Namespaces). AreAmong x entry) (sym (kept_namespaces-both kind t.namespaces gain)) (AreAmong-both had gained) in
        subst (λ (x : ImportDirective). AreAmong (kept_namespaces (kind_of x.source) now.namespaces) (namespaces_of (entry_at pushed.core.map x.home name))) one
        both;
  }

  kept_bound : IsBoundAs kept i (taken_after t answer)
  kept_bound = bound-grown pushed kept (imports_after (import_state pushed) keep) (Grows-act pushed (changes_imports keep)) i (taken_after t answer) taken_bound

-- a glob that is recorded for a target binds nothing by itself
linked_bound : (s : State) (i : ℕ) (t : TakenValue) (target : Target) → IsBoundAs s i t → IsBoundAs s i (taken_for t target)
linked_bound s i t target p = record { bound = p.bound }

along_bound : (finished : Maps) (acts : List Act) (s : State) → AllFine TakesWhatIsBound s (list_map changes_imports (list_map (along finished) acts))
along_bound finished [] s = tt
along_bound finished (a ∷ acts) s = (tt, along_bound finished acts (act s (changes_imports (along finished a))))

imports_take : (finished : Maps) (s : State) (rule : ImportRule) → MayImport finished (import_state s) rule → IsInRange s → Holds s
    → AllFine TakesWhatIsBound s (list_map changes_imports (import_acts finished (import_state s) rule))
imports_take finished s (takes_import i r t) may p h = (tt, (tt, (kept_bound finished s i r t may p h, tt)))
imports_take finished s (takes_glob i r t by target edges) may p h = (linked_bound s i t target (h.bound i t may.before), (tt, tt))
imports_take finished s (goes_along rule) may p h = along_bound finished _ s

takes_what_is_bound : (finished : Maps) (s : State) (r : Rule) → May finished s r → IsInRange s → Holds s → AllFine TakesWhatIsBound (asking s r)
    (acts finished s r)
takes_what_is_bound finished s (declares_item v d rest) may p h = (tt, (tt, (tt, tt)))
takes_what_is_bound finished s (declares_enum site head name found rest) may p h = (tt, (tt, (tt, (tt, tt))))
takes_what_is_bound finished s (opens_module site head name items rest) may p h = (tt, (tt, (tt, (tt, (tt, tt)))))
takes_what_is_bound finished s (opens_file site head name search file rest) may p h = (tt, (tt, (tt, (tt, (tt, tt)))))
takes_what_is_bound finished s (misses_file site head name search report rest) may p h = (tt, (tt, (tt, (tt, (tt, (tt, tt))))))
takes_what_is_bound finished s (reaches_imports site head tree rest) may p h = (tt, (tt, (tt, tt)))
takes_what_is_bound finished s (reaches_crate site head name alias rest) may p h = (tt, (tt, (tt, (tt, (tt, tt)))))
takes_what_is_bound finished s (defines_rules site head name expander helpers rest) may p h =
    (tt, (tt, (tt, (tt, fine_macro TakesWhatIsBound _ _ expander (λ t. tt) head name _ (λ t. tt) _))))
takes_what_is_bound finished s (defines_macro site head name expander helpers rest) may p h =
    (tt, (tt, (tt, (tt, (tt, fine_reporting TakesWhatIsBound _ _ expander (λ t. tt) _)))))
takes_what_is_bound finished s (lists_derives v at a adt paths call rest) may p h = (tt, (tt, (tt, tt)))
takes_what_is_bound finished s (exports_macro site head name d e rest) may p h = (tt, (tt, (tt, (tt, (tt, (tt, (tt, tt)))))))
takes_what_is_bound finished s rests may p h = (tt, tt)
takes_what_is_bound finished s (expands_call i d makro x) may p h =
    (tt, (tt, (tt, fine_expanding TakesWhatIsBound _ (λ t helper. tt) _ _ d (error_of x.there) (λ t text. tt) _)))
takes_what_is_bound finished s (meets_macro i d makro x) may p h = (tt, tt)
takes_what_is_bound finished s (drops_call i d) may p h = (tt, tt)
takes_what_is_bound finished s (drops_reached i d makro) may p h = (tt, fine_bringing TakesWhatIsBound _ (λ t helper. tt) _ _)
takes_what_is_bound finished s (derives_builtin i d makro imp) may p h = (tt, (tt, (tt, fine_bringing TakesWhatIsBound _ (λ t helper. tt) _ _)))
takes_what_is_bound finished s (falls_back i d k kept_item) may p h = (tt, (tt, (tt, tt)))
takes_what_is_bound finished s (resolves_imports rule) may p h = imports_take finished s rule may p h
takes_what_is_bound finished s other may p h = (tt, (tt, tt))

-- ---- steps

Holds-Step : {env : Environment} {finished : Maps} {old new : State} → Step env finished old new → IsInRange old → Holds old → Holds new
Holds-Step {finished = finished} {old = old} step p h =
    let begun : State = asking old step.rule in
    let first : Holds begun = record { paired = h.paired; bound = λ i t at. same_bound old begun refl refl i t (h.bound i t at) } in
    let done = perform_keeps Holds TakesWhatIsBound Holds-act (acts finished old step.rule) begun first
    (takes_what_is_bound finished old step.rule step.may p h) in
    subst Holds (sym step.is) (record { paired = done.paired; bound = λ i t at. same_bound _ _ refl refl i t (done.bound i t at) })

pub Holds-Steps : {env : Environment} {finished : Maps} {from to : State} → Steps env finished from to → IsInRange from → Holds from → Holds to
Holds-Steps none p h = h
Holds-Steps (more old new before step) p h = Holds-Step step (in_range-Steps before p) (Holds-Steps before p h)

-- ---- the start

in_range-visits : (n : ℕ) (site : Site) (forest : KeptForest) → site.home < n → VisitsBelow n (visits_over site forest)
in_range-visits n site no_items h = tt
in_range-visits n site (item i is) h = (h, in_range-visits n site is h)

in_range-tree : (n : ℕ) (site : Site) (tree : Tree) → site.home < n → VisitsBelow n (tree_visits site tree)
in_range-tree n site tree h = go (is_declared site.tree tree) refl
  where
    go : (b : Bool) → is_declared site.tree tree ≡ b → VisitsBelow n (tree_visits site tree)
    go true e = rw e (in_range-visits n site tree.items h)
    go false e = rw e tt

pub in_range-begun : (tables : TablesValue) (w : Workspace) (finished : Maps) (transitive : List Crate) (holders : List ModuleId) (start : Start) (id : TreeId)
    → IsInRange (began tables w finished transitive holders start id)
in_range-begun tables w finished transitive holders start id = record {
  visits = in_range-tree 1 (root_site id) (tree_at tables w (tree_key start id)).tree (omega arith);
  imports = tt;
  calls = tt;
}

pub in_range-start : (tables : TablesValue) (w : Workspace) (finished : Maps) (holders : List ModuleId) (from : Beginning)
    → IsInRange (start_of tables w finished holders from)
in_range-start tables w finished holders from =
    in_range-begun tables w finished (transitive_dependencies_in w (krate_of from.start)) holders from.start from.tree

pub Holds-start : (tables : TablesValue) (w : Workspace) (finished : Maps) (holders : List ModuleId) (from : Beginning)
    → Holds (start_of tables w finished holders from)
Holds-start tables w finished holders from = record { paired = refl; bound = λ i t at. absurd (let no : ⊥ = cc in no) }
