-- The modules of a run's map come after what they are in.
use Rattle.std.proofs.Common.{◌≡◌, ◌∙◌, ◌⊎◌, inl, inr, ℕ, zero, suc, ◌<◌, List, [], ◌∷◌, ◌++◌, length, slice_get, Option, None, Some, refl, sym, ap, subst}
use Rattle.std.proofs.Common.{arith}
use Rattle.hir_collector_rules.specs.HirIds.declared.ids.ModuleId.{ModuleId}
use Rattle.hir_collector_rules.specs.HirScope.Scope.{ScopeValue}
use Rattle.hir_collector_rules.proofs.HirDefMapRules.Grown.{kept, length-changed}
use Rattle.hir_collector_rules.specs.HirDefMapRules.Overlay.{Maps}
use Rattle.hir_collector_rules.specs.HirDefMapRules.State.{IsBefore, IsInOrder, Map, ModuleValue, changed_at, module_at}
use Rattle.hir_collector_rules.specs.HirDefMapRules.State.{new_id, numbered, parent_of, with_child, with_module}
use Rattle.hir_collector_rules.specs.HirDefMapRules.State.{with_module_scope, with_scope}
use Rattle.hir_collector_rules.specs.HirImportRules.Rules.{acts as import_acts}
use Rattle.hir_collector_rules.specs.Calls.{error_of}
use Rattle.hir_collector_rules.specs.Keys.{Environment}
use Rattle.hir_collector_rules.specs.State.{State, import_state}
use Rattle.hir_collector_rules.specs.Changes.{Change, lists, makes, gives_variants, begins_paths, reaches, awaits, ends, settles, changes_imports, adds_textual}
use Rattle.hir_collector_rules.specs.Changes.{takes_textual, defines, describes, helps, lists_derive, notes, exports, uses_macros, tells, goes_on, act}
use Rattle.hir_collector_rules.specs.Steps.{Rule, drops_item, reaches_call, rests, expands_call, meets_macro, drops_call, defines_rules, defines_macro}
use Rattle.hir_collector_rules.specs.Steps.{closes_module}
use Rattle.hir_collector_rules.specs.Steps.{declares_item, declares_enum, lists_constant, lists_impl, opens_module, opens_file, drops_file, misses_file}
use Rattle.hir_collector_rules.specs.Steps.{enters_block, reaches_imports, reaches_crate, resolves_imports, May, acts, asking, Step, awaits_attribute}
use Rattle.hir_collector_rules.specs.Steps.{lists_derives, faults_derive, exports_macro, drops_reached, derives_builtin, skips_attribute, falls_back}
use Rattle.hir_collector_rules.proofs.Changes.{AllFine, all_fine, fine_bringing, fine_expanding, fine_macro, fine_reporting, perform_keeps}
use Rattle.hir_collector_rules.proofs.ImportEdits.{Edit, edit, edit_of, edited, map_after}
use Rattle.hir_collector_rules.proofs.InRange.{IsInRange, next_home}

-- ---- modules

-- a map of one module that is in no other is in order
pub root_in_order : (map : Map) (root : ModuleValue) → map.modules ≡ root ∷ [] → root.parent ≡ None → IsInOrder map
root_in_order map root only top zero m e =
    let at_first : slice_get (root ∷ []) 0 ≡ Some m = subst (λ (ms : List ModuleValue). slice_get ms 0 ≡ Some m) only e in
    let same : root ≡ m = cc in
    subst (λ (o : Option ModuleId). IsBefore map.id 0 o) (sym top ∙ ap (λ (x : ModuleValue). x.parent) same) tt
root_in_order map root only top (suc at) m e =
    let gone : slice_get (root ∷ []) (suc at) ≡ Some m = subst (λ (ms : List ModuleValue). slice_get ms (suc at) ≡ Some m) only e in
    absurd (let no : ⊥ = cc in no)

-- a module is in what it was in
module _ (map : Map) (in_order : IsInOrder map) where
  before_parent : (k : ℕ) (o : Option ModuleValue) → module_at map k ≡ o → IsBefore map.id k (parent_of o)
  before_parent k None e = tt
  before_parent k (Some m) e = in_order k m e

  -- where each module is in what it was in
  still_in_order : (at : ℕ) (change : ModuleValue → ModuleValue) → ((m : ModuleValue) → (change m).parent ≡ m.parent)
      → (k : ℕ) (m : ModuleValue) → slice_get (changed_at map.modules at change) k ≡ Some m → IsBefore map.id k m.parent
  still_in_order at change keeps k m e =
      subst (IsBefore map.id k) (sym (kept parent_of map.modules at change keeps k) ∙ ap parent_of e) (before_parent k (module_at map k) refl)

  pub in_order_scope : (at : ℕ) (change : ScopeValue → ScopeValue) → IsInOrder (with_scope map at change)
  in_order_scope at change k m e = still_in_order at (with_module_scope change) (λ x. refl) k m e

one_or_last : {A : Type 0} (xs : List A) (y : A) (k : ℕ) (x : A) → slice_get (xs ++ y ∷ []) k ≡ Some x → (slice_get xs k ≡ Some x) ⊎ ((k ≡ length xs) × (y ≡ x))
one_or_last [] y zero x e = let same : y ≡ x = cc in inr (refl, same)
one_or_last [] y (suc k) x e = absurd cc
one_or_last (z ∷ zs) y zero x e = inl e
one_or_last (z ∷ zs) y (suc k) x e = go (one_or_last zs y k x e)
  where
    go : (slice_get zs k ≡ Some x) ⊎ ((k ≡ length zs) × (y ≡ x)) → (slice_get (z ∷ zs) (suc k) ≡ Some x) ⊎ ((suc k ≡ length (z ∷ zs)) × (y ≡ x))
    go (inl f) = inl f
    go (inr f) = let same : k ≡ length zs = f.0 in inr (omega arith, f.1)

-- a module that is made comes after the one in which it is
pub in_order_made : (map : Map) (at : ℕ) (name : List ℕ) (made : ModuleValue) → made.parent ≡ Some (numbered map.id at) → at < length map.modules
    → IsInOrder map → IsInOrder (with_module map at name made)
in_order_made map at name made is low in_order k m e = go (one_or_last (changed_at map.modules at (with_child name (new_id map))) made k m e)
  where
    long : length (changed_at map.modules at (with_child name (new_id map))) ≡ length map.modules
    long = length-changed map.modules at (with_child name (new_id map))

    go : (slice_get (changed_at map.modules at (with_child name (new_id map))) k ≡ Some m)
        ⊎ ((k ≡ length (changed_at map.modules at (with_child name (new_id map)))) × (made ≡ m)) → IsBefore map.id k m.parent
    go (inl f) = still_in_order map in_order at (with_child name (new_id map)) (λ x. refl) k m f
    go (inr f) =
        let last : k ≡ length (changed_at map.modules at (with_child name (new_id map))) = f.0 in
        let lower : at < k = omega (arith, last, long, low) in
        subst (λ (x : ModuleValue). IsBefore map.id k x.parent) f.1 (subst (λ (o : Option ModuleId). IsBefore map.id k o) (sym is) (refl, lower))

-- ---- changes

-- a module is made in one that is there
abbrev MadeInside : State → Change → Type 0
MadeInside s (makes home name origin visibility) = home < length s.core.map.modules
MadeInside s other = Unit {0}

in_order_edited : (m : Map) (o : Option (ℕ × Edit)) → IsInOrder m → IsInOrder (edited m o)
in_order_edited m None p = p
in_order_edited m (Some e) p = in_order_scope m p e.0 (edit (numbered m.id e.0) e.1)

in_order_act : (s : State) (c : Change) → IsInOrder s.core.map → MadeInside s c → IsInOrder (act s c).core.map
in_order_act s (lists home d) p fine = in_order_scope s.core.map p home _
in_order_act s (makes home name origin visibility) p fine = in_order_made s.core.map home name _ refl fine p
in_order_act s (changes_imports c) p fine = subst IsInOrder (sym (map_after (import_state s) c)) (in_order_edited s.core.map (edit_of (import_state s) c) p)
in_order_act s (adds_textual home name makro) p fine = in_order_scope s.core.map p home _
in_order_act s (takes_textual home from) p fine = in_order_scope s.core.map p home _
in_order_act s (lists_derive home imp) p fine = in_order_scope s.core.map p home _
in_order_act s (notes home invocation) p fine = in_order_scope s.core.map p home _
in_order_act s other p fine = p

-- ---- rules

made_inside : (finished : Maps) (s : State) (r : Rule) → May finished s r → IsInRange s → AllFine MadeInside (asking s r) (acts finished s r)
made_inside finished s (declares_item v d rest) may p = (tt, (tt, (tt, tt)))
made_inside finished s (declares_enum site head name found rest) may p = (tt, (tt, (tt, (tt, tt))))
made_inside finished s (opens_module site head name items rest) may p = (next_home s p _ rest may.next, (tt, (tt, (tt, (tt, tt)))))
made_inside finished s (opens_file site head name search file rest) may p = (next_home s p _ rest may.looks.here.next, (tt, (tt, (tt, (tt, tt)))))
made_inside finished s (misses_file site head name search report rest) may p = (next_home s p _ rest may.looks.here.next, (tt, (tt, (tt, (tt, (tt, tt))))))
made_inside finished s (reaches_imports site head tree rest) may p = (tt, (tt, (tt, tt)))
made_inside finished s (reaches_crate site head name alias rest) may p = (tt, (tt, (tt, (tt, (tt, tt)))))
made_inside finished s (defines_rules site head name expander helpers rest) may p =
    (tt, (tt, (tt, (tt, fine_macro MadeInside _ _ expander (λ t. tt) head name _ (λ t. tt) _))))
made_inside finished s (defines_macro site head name expander helpers rest) may p =
    (tt, (tt, (tt, (tt, (tt, fine_reporting MadeInside _ _ expander (λ t. tt) _)))))
made_inside finished s (lists_derives v at a adt paths call rest) may p = (tt, (tt, (tt, tt)))
made_inside finished s (exports_macro site head name d e rest) may p = (tt, (tt, (tt, (tt, (tt, (tt, (tt, tt)))))))
made_inside finished s (meets_macro i d makro x) may p = (tt, tt)
made_inside finished s rests may p = (tt, tt)
made_inside finished s (expands_call i d makro x) may p =
    (tt, (tt, (tt, fine_expanding MadeInside _ (λ t helper. tt) _ _ d (error_of x.there) (λ t text. tt) _)))
made_inside finished s (drops_call i d) may p = (tt, tt)
made_inside finished s (drops_reached i d makro) may p = (tt, fine_bringing MadeInside _ (λ t helper. tt) _ _)
made_inside finished s (derives_builtin i d makro imp) may p = (tt, (tt, (tt, fine_bringing MadeInside _ (λ t helper. tt) _ _)))
made_inside finished s (falls_back i d k kept_item) may p = (tt, (tt, (tt, tt)))
made_inside finished s (resolves_imports rule) may p = all_fine MadeInside (λ t c. tt) (import_acts finished (import_state s) rule) s
made_inside finished s other may p = (tt, (tt, tt))

-- ---- steps

pub in_order_Step : {env : Environment} {finished : Maps} {old new : State} → Step env finished old new → IsInRange old → IsInOrder old.core.map
    → IsInOrder new.core.map
in_order_Step {finished = finished} {old = old} step inside p =
    subst (λ (s : State). IsInOrder s.core.map) (sym step.is)
    (perform_keeps (λ (s : State). IsInOrder s.core.map) MadeInside in_order_act (acts finished old step.rule) (asking old step.rule) p
    (made_inside finished old step.rule step.may inside))
