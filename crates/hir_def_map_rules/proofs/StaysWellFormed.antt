-- Building leaves a map that names only what is there.
use Rattle.std.specs.Prelude.{◌≡◌, ◌⊎◌, ℕ, zero, suc, ◌<◌, ◌+◌, ◌++◌, List, [], ◌∷◌, length, Bool, true, false, ◌&&◌, not, is_some, Option, None, Some, cond}
use Rattle.std.specs.Prelude.{slice_get, option_and_then, option_map}
use Rattle.std.specs.List.{list_all, list_any}
use Rattle.std.specs.Map.{lookup}
use Rattle.std.specs.Ordering.{is_eq, match_ordering, nat_cmp}
use Rattle.std.specs.declared.cmp.Ordering.{Ordering}
use Rattle.std.specs.declared.cmp.Ordering.TheVariants.{Less, Equal, Greater}
use Rattle.std.specs.Cmp.Lexicographic.{slice_cmp}
use Rattle.std.specs.Cmp.{first_so, second_so}
use Rattle.std.specs.BTreeMap.{insert_entry, is_at}
use Rattle.std.proofs.Common.{ap, inl, inr, refl, subst, sym, ◌∙◌, arith}
use mathlib.Core.Bool.{true≢false}
use Rattle.hir_scope.specs.HirIds.declared.ids.EnumId.{EnumId}
use Rattle.hir_scope.specs.HirIds.declared.ids.ExternCrateId.{ExternCrateId}
use Rattle.hir_scope.specs.HirIds.declared.ids.MapId.{MapId}
use Rattle.hir_scope.specs.HirIds.declared.ids.ModuleId.{ModuleId}
use Rattle.hir_scope.specs.HirIds.declared.ids.UseId.{UseId}
use Rattle.hir_scope.specs.HirIds.contracts.ids.EnumIdOrd.TheImpl as enum_order
use Rattle.hir_scope.specs.HirIds.contracts.ids.EnumIdOrd.TheImpl.Laws.{matches_eq-law as enum_ties}
use Rattle.hir_scope.specs.HirIds.contracts.ids.MapIdPartialEq.TheImpl as map_id
use Rattle.hir_scope.specs.HirPerNs.declared.imports.ImportOrExternCrate.{ImportOrExternCrate}
use Rattle.hir_scope.specs.HirPerNs.declared.per_ns.PerNs.{PerNs}
use Rattle.hir_scope.specs.HirPerNs.declared.visibility.Visibility.{Visibility}
use Rattle.hir_scope.specs.Globs.{GlobNames}
use Rattle.hir_scope.specs.HirPerNs.ModuleTree.{same_crate}
use Rattle.hir_scope.specs.Scope.{ScopeValue}
use Rattle.hir_scope.specs.Scope.Push.{pushed_scope}
use Rattle.hir_def_map_rules.specs.Types.{Declaration, ModuleOrigin, Reference}
use Rattle.hir_def_map_rules.specs.declared.reference.Reference.TheVariants as named
use Rattle.hir_def_map_rules.specs.Declaration.{listed}
use Rattle.hir_def_map_rules.specs.State.{Local, Map, ModuleValue, Variants, at_name, changed_at, module_at, new_id, new_module, numbered, parent_of, place_at}
use Rattle.hir_def_map_rules.specs.State.{pushed, variants_at, with_child, with_enum, with_module, with_module_scope, with_name, with_prelude, with_scope}
use Rattle.hir_def_map_rules.specs.State.{IsBefore}
use Rattle.hir_def_map_rules.specs.Overlay.{Maps, Placed, overlay, holders_of, holders_or, holders_under, module_in, placed_in}
use Rattle.hir_def_map_rules.specs.Inner.OverlayLaws.{exact_map, same_id}
use Rattle.hir_def_map_rules.proofs.EnumIds.{exact_enum}
use Rattle.hir_def_map_rules.proofs.Fails.{of_less}
use Rattle.hir_def_map_rules.proofs.Grown.{kept, length-changed}
use Rattle.hir_def_map_rules.proofs.Referred.{module_parts, module_whole}
use Rattle.hir_def_map_rules.proofs.ScopeChanges.{listed_fails, module_scope_fails, pushed_fails}
use Rattle.hir_def_map_rules.specs.References.{are_variants_of, is_holder_for, is_missing, is_there, any_reference_in, any_reference_in_scope}
use Rattle.hir_def_map_rules.specs.References.{prelude_reference, test_child, test_of, visibility_reference}
use Rattle.hir_def_map_rules.specs.Closed.{AreThere, IsClosed, LocalIsThere, ModuleIsThere, VisibilityIsThere}
use Rattle.hir_def_map_rules.specs.WellFormed.{AreWellFormed, HasNoDanglingExtern, Extends, IsWellFormed, HasNoDanglingReference, is_held_outside}
use Rattle.hir_def_map_rules.proofs.WellFormed.{HasNoDanglingExtern-more, IsClosed-well_formed, HasNoDanglingReference-more, none_missing}
use Rattle.hir_def_map_rules.proofs.NoneOf.{none_changed, none_found, none_inserted, none_more}

-- ---- more is there

-- what finished maps have is there beside a map of another id
pub Extends-overlay : (finished : Maps) (map : Map) → finished map.id ≡ None → Extends finished (overlay finished map)
Extends-overlay finished map new n there = go n there
  where
    other : (id : MapId) → is_some (finished id) ≡ true → map_id.ghosts.eq id map.id ≡ false
    other id t = on (map_id.ghosts.eq id map.id) refl
      where
        on : (b : Bool) → map_id.ghosts.eq id map.id ≡ b → b ≡ false
        on true s = absurd (true≢false (sym t ∙ ap (λ (x : MapId). is_some (finished x)) (exact_map id map.id s) ∙ ap (λ (x : Option Placed). is_some x) new))
        on false s = refl

    from_some : {A : Type 0} (f : Placed → Option A) (o : Option Placed) → is_some (option_and_then f o) ≡ true → is_some o ≡ true
    from_some f None e = absurd (true≢false (sym e))
    from_some f (Some p) e = refl

    go : (n : Reference) → is_there finished n ≡ true → is_there (overlay finished map) n ≡ true
    go (named.Module m) t = let away = other m.map (from_some (λ (p : Placed). module_at p.map m.index) (finished m.map) t) in rw away t
    go (named.Enum e) t = let away = other e.loc.container.map (from_some (λ (p : Placed). variants_at p.map e) (finished e.loc.container.map) t) in rw away t
    go (named.Map id) t = let away = other id t in rw away t

module _ (finished : Maps) (old new : Map) (same : new.id ≡ old.id) (modules : (k : ℕ) → is_some (module_at old k) ≡ true → is_some (module_at new k) ≡ true)
    (enums : (e : EnumId) → is_some (variants_at old e) ≡ true → is_some (variants_at new e) ≡ true) where
  -- what was there stays there where a map grows
  pub Extends-grown : Extends (overlay finished old) (overlay finished new)
  Extends-grown (named.Module m) t =
      ap (λ (id : MapId). is_some (option_and_then (λ (p : Placed). module_at p.map m.index) (cond (map_id.ghosts.eq m.map id) (Some (placed_in finished new))
      (finished m.map)))) same ∙ go (map_id.ghosts.eq m.map old.id) t
    where
      go : (b : Bool) → is_some (option_and_then (λ (p : Placed). module_at p.map m.index) (cond b (Some (placed_in finished old)) (finished m.map))) ≡ true
          → is_some (option_and_then (λ (p : Placed). module_at p.map m.index) (cond b (Some (placed_in finished new)) (finished m.map))) ≡ true
      go true f = modules m.index f
      go false f = f
  Extends-grown (named.Enum e) t =
      ap (λ (id : MapId). is_some (option_and_then (λ (p : Placed). variants_at p.map e)
      (cond (map_id.ghosts.eq e.loc.container.map id) (Some (placed_in finished new)) (finished e.loc.container.map)))) same ∙ go
      (map_id.ghosts.eq e.loc.container.map old.id) t
    where
      go : (b : Bool) → is_some (option_and_then (λ (p : Placed). variants_at p.map e) (cond b (Some (placed_in finished old)) (finished e.loc.container.map)))
          ≡ true
          → is_some (option_and_then (λ (p : Placed). variants_at p.map e) (cond b (Some (placed_in finished new)) (finished e.loc.container.map))) ≡ true
      go true f = enums e f
      go false f = f
  Extends-grown (named.Map k) t =
      ap (λ (id : MapId). is_some (cond (map_id.ghosts.eq k id) (Some (placed_in finished new)) (finished k))) same ∙ go (map_id.ghosts.eq k old.id) t
    where
      go : (b : Bool) → is_some (cond b (Some (placed_in finished old)) (finished k)) ≡ true → is_some (cond b (Some (placed_in finished new)) (finished k))
          ≡ true
      go true f = refl
      go false f = f

-- ---- the scope of one module

module _ (finished : Maps) (map : Map) (at : ℕ) where
  -- what was there stays there where the scope of a module changes
  pub Extends-scope : (change : ScopeValue → ScopeValue) → Extends (overlay finished map) (overlay finished (with_scope map at change))
  Extends-scope change = Extends-grown finished map (with_scope map at change) refl
      (λ k e. kept (λ (o : Option ModuleValue). is_some o) map.modules at (with_module_scope change) (λ m. refl) k ∙ e)
      (λ e t. t)

  -- a change of the scope of one module, after which it refers only to what is there
  pub HasNoDanglingReference-scope : (change : ScopeValue → ScopeValue)
      → ((scope : ScopeValue) → any_reference_in_scope (is_missing (overlay finished map)) scope ≡ false
      → any_reference_in_scope (is_missing (overlay finished map)) (change scope) ≡ false)
      → HasNoDanglingReference (overlay finished map) map → HasNoDanglingReference (overlay finished (with_scope map at change)) (with_scope map at change)
  HasNoDanglingReference-scope change keeps f =
      let new : Map = with_scope map at change in
      HasNoDanglingReference-more (overlay finished map) (overlay finished new) (Extends-scope change) new
      (record {
        own_crate = f.own_crate;
        held = f.held;
        outside = f.outside;
        root = subst (λ (n : ℕ). 0 < n) (sym (length-changed map.modules at (with_module_scope change))) f.root;
        in_order = in_order;
        variants = f.variants;
        modules = none_changed (any_reference_in (is_missing (overlay finished map))) (with_module_scope change)
            (λ m g. module_scope_fails (is_missing (overlay finished map)) change m (keeps m.scope) g) map.modules at f.modules;
        prelude = f.prelude;
        dependencies = f.dependencies;
      })
    where
      in_order : (k : ℕ) (m : ModuleValue) → slice_get (changed_at map.modules at (with_module_scope change)) k ≡ Some m → IsBefore map.id k m.parent
      in_order k m e =
          let same : parent_of (slice_get map.modules k) ≡ m.parent = sym (kept parent_of map.modules at (with_module_scope change) (λ x. refl) k) ∙ ap
          parent_of e in
          subst (IsBefore map.id k) same (go (slice_get map.modules k) refl)
        where
          go : (o : Option ModuleValue) → slice_get map.modules k ≡ o → IsBefore map.id k (parent_of o)
          go None s = tt
          go (Some x) s = f.in_order k x s

  -- a push of items that are there
  pub HasNoDanglingReference-pushed : (globs : GlobNames) (name : List ℕ) (items : PerNs) (import : Option ImportOrExternCrate)
      → AreThere (overlay finished map) items
      → HasNoDanglingReference (overlay finished map) map → HasNoDanglingReference (overlay finished (pushed map globs at name items import))
      (pushed map globs at name items import)
  HasNoDanglingReference-pushed globs name items import there f =
      HasNoDanglingReference-scope (pushed_scope globs (place_at map.id at name) items import)
      (λ scope g. pushed_fails (is_missing (overlay finished map)) globs (place_at map.id at name) items import scope there g) f

  -- a declaration that is listed
  pub HasNoDanglingReference-listed : (d : Declaration) → HasNoDanglingReference (overlay finished map) map
      → HasNoDanglingReference (overlay finished (with_scope map at (listed d))) (with_scope map at (listed d))
  HasNoDanglingReference-listed d f = HasNoDanglingReference-scope (listed d) (λ scope g. listed_fails (is_missing (overlay finished map)) d scope g) f

-- ---- one more module

module _ {A : Type 0} where
  still_some : (xs : List A) (y : A) (k : ℕ) → is_some (slice_get xs k) ≡ true → is_some (slice_get (xs ++ y ∷ []) k) ≡ true
  still_some [] y k e = absurd (true≢false (sym e))
  still_some (x ∷ xs) y zero e = refl
  still_some (x ∷ xs) y (suc k) e = still_some xs y k e

  last_some : (xs : List A) (y : A) → slice_get (xs ++ y ∷ []) (length xs) ≡ Some y
  last_some [] y = refl
  last_some (x ∷ xs) y = last_some xs y

  -- a value of a longer list is one of the shorter, or the last
  one_or_last : (xs : List A) (y : A) (k : ℕ) (x : A) → slice_get (xs ++ y ∷ []) k ≡ Some x → (slice_get xs k ≡ Some x) ⊎ ((k ≡ length xs) × (y ≡ x))
  one_or_last [] y zero x e = let same : y ≡ x = cc in inr (refl, same)
  one_or_last [] y (suc k) x e = absurd cc
  one_or_last (z ∷ zs) y zero x e = inl e
  one_or_last (z ∷ zs) y (suc k) x e = go (one_or_last zs y k x e)
    where
      go : (slice_get zs k ≡ Some x) ⊎ ((k ≡ length zs) × (y ≡ x)) → (slice_get zs k ≡ Some x) ⊎ ((suc k ≡ suc (length zs)) × (y ≡ x))
      go (inl f) = inl f
      go (inr f) = inr (ap suc f.0, f.1)

  some_below : (xs : List A) (k : ℕ) → k < length xs → is_some (slice_get xs k) ≡ true
  some_below [] k l = absurd (omega arith)
  some_below (x ∷ xs) zero l = refl
  some_below (x ∷ xs) (suc k) l = some_below xs k (omega arith)

-- there is one module more
pub length-made : (map : Map) (at : ℕ) (name : List ℕ) (new : ModuleValue) → length (with_module map at name new).modules ≡ length map.modules + 1
length-made map at name new =
    one_longer (changed_at map.modules at (with_child name (new_id map))) ∙ ap (λ (n : ℕ). n + 1) (length-changed map.modules at (with_child name (new_id map)))
  where
    one_longer : (ms : List ModuleValue) → length (ms ++ new ∷ []) ≡ length ms + 1
    one_longer [] = refl
    one_longer (m ∷ ms) = let below : length (ms ++ new ∷ []) ≡ length ms + 1 = one_longer ms in omega arith

module _ (finished : Maps) (map : Map) (at : ℕ) (here : at < length map.modules) (name : List ℕ) (origin : ModuleOrigin) (visibility : Visibility) where
  abbrev made : ModuleValue
  made = new_module origin visibility (Some (numbered map.id at))

  abbrev grown : Map
  grown = with_module map at name made

  abbrev older : List ModuleValue
  older = changed_at map.modules at (with_child name (new_id map))

  count : length older ≡ length map.modules
  count = length-changed map.modules at (with_child name (new_id map))

  -- a module of the map by its number
  own_there : (k : ℕ) → is_some (module_at grown k) ≡ true → is_missing (overlay finished grown) (named.Module (numbered map.id k)) ≡ false
  own_there k e =
      ap (λ (b : Bool). not (is_some (option_and_then (λ (p : Placed). module_at p.map k) (cond b (Some (placed_in finished grown)) (finished map.id)))))
      (same_id map.id) ∙ ap not e

  -- so the new one is there, and the one that holds it
  pub new_there : is_missing (overlay finished grown) (named.Module (new_id map)) ≡ false
  new_there =
      own_there (length map.modules) (ap (λ (n : ℕ). is_some (slice_get (older ++ made ∷ []) n)) (sym count) ∙ ap (λ (o : Option ModuleValue). is_some o)
      (last_some older made))

  above_there : is_missing (overlay finished grown) (named.Module (numbered map.id at)) ≡ false
  above_there = own_there at (still_some older made at (some_below older at (subst (λ (n : ℕ). at < n) (sym count) here)))

  pub Extends-made : Extends (overlay finished map) (overlay finished grown)
  Extends-made = Extends-grown finished map grown refl
      (λ k e. still_some older made k (kept (λ (o : Option ModuleValue). is_some o) map.modules at (with_child name (new_id map)) (λ m. refl) k ∙ e))
      (λ e t. t)

  abbrev missing : Reference → Bool
  missing n = is_missing (overlay finished grown) n

  child_named : (m : ModuleValue) → any_reference_in missing m ≡ false → any_reference_in missing (with_child name (new_id map) m) ≡ false
  child_named m f =
      let parts = module_parts missing m f in
      module_whole missing (with_child name (new_id map) m)
      (record { parent = parts.parent; visibility = parts.visibility; children = go (is_some (at_name m.children name)) parts.children; scope = parts.scope })
    where
      go : (b : Bool) → list_any (test_child missing) m.children ≡ false → list_any (test_child missing)
          (cond b m.children (with_name m.children name (new_id map))) ≡ false
      go true g = g
      go false g = none_inserted (λ (x : ModuleId). missing (named.Module x)) (slice_cmp nat_cmp) m.children name (new_id map) g new_there

  -- a module that is made inside another
  pub HasNoDanglingReference-made : VisibilityIsThere (overlay finished map) visibility → HasNoDanglingReference (overlay finished map) map
      → HasNoDanglingReference (overlay finished grown) grown
  HasNoDanglingReference-made seen f =
      let more = HasNoDanglingReference-more (overlay finished map) (overlay finished grown) Extends-made map f in
      record {
        own_crate = more.own_crate;
        held = more.held;
        outside = more.outside;
        root = longer older made;
        in_order = in_order;
        variants = more.variants;
        modules = none_more (any_reference_in missing) older made
            (none_changed (any_reference_in missing) (with_child name (new_id map)) child_named map.modules at more.modules)
            (module_whole missing made (record {
              parent = above_there;
              visibility =
                  of_less (is_missing (overlay finished map)) missing (none_missing (overlay finished map) (overlay finished grown) Extends-made)
                  (visibility_reference visibility) seen;
              children = refl;
              scope = refl;
            }));
        prelude = more.prelude;
        dependencies = more.dependencies;
      }
    where
      longer : (xs : List ModuleValue) (y : ModuleValue) → 0 < length (xs ++ y ∷ [])
      longer [] y = omega arith
      longer (x ∷ xs) y = omega arith

      old_order : (k : ℕ) (m : ModuleValue) → slice_get older k ≡ Some m → IsBefore map.id k m.parent
      old_order k m e =
          let same : parent_of (slice_get map.modules k) ≡ m.parent = sym (kept parent_of map.modules at (with_child name (new_id map)) (λ x. refl) k) ∙ ap
          parent_of e in
          subst (IsBefore map.id k) same (go (slice_get map.modules k) refl)
        where
          go : (o : Option ModuleValue) → slice_get map.modules k ≡ o → IsBefore map.id k (parent_of o)
          go None s = tt
          go (Some x) s = f.in_order k x s

      in_order : (k : ℕ) (m : ModuleValue) → slice_get (older ++ made ∷ []) k ≡ Some m → IsBefore map.id k m.parent
      in_order k m e = go (one_or_last older made k m e)
        where
          go : (slice_get older k ≡ Some m) ⊎ ((k ≡ length older) × (made ≡ m)) → IsBefore map.id k m.parent
          go (inl s) = old_order k m s
          go (inr s) =
              let lower : at < k = subst (λ (n : ℕ). at < n) (sym (s.0 ∙ count)) here in
              subst (λ (x : ModuleValue). IsBefore map.id k x.parent) s.1 (refl, lower)

-- ---- preludes

-- a prelude module that is there
pub HasNoDanglingReference-prelude : (finished : Maps) (map : Map) (prelude : Option (ModuleId × Option UseId)) → test_of (is_missing (overlay finished map))
    (prelude_reference prelude) ≡ false
    → HasNoDanglingReference (overlay finished map) map → HasNoDanglingReference (overlay finished (with_prelude map prelude)) (with_prelude map prelude)
HasNoDanglingReference-prelude finished map prelude there f =
    let new : Map = with_prelude map prelude in
    let more : Extends (overlay finished map) (overlay finished new) = Extends-grown finished map new refl (λ k e. e) (λ e t. t) in
    HasNoDanglingReference-more (overlay finished map) (overlay finished new) more new (record {
      own_crate = f.own_crate;
      held = f.held;
      outside = f.outside;
      root = f.root;
      in_order = f.in_order;
      variants = f.variants;
      modules = f.modules;
      prelude = there;
      dependencies = f.dependencies;
    })

-- ---- enums

module _ {K V : Type 0} (test : K → Bool) where
  there_or : (b : Bool) (v : V) (o : Option V) → is_some o ≡ true → is_some (cond b (Some v) o) ≡ true
  there_or true v o h = refl
  there_or false v o h = h

  there_with : (b : Bool) (v w : V) (o : Option V) → is_some (cond b (Some v) o) ≡ true → is_some (cond b (Some w) o) ≡ true
  there_with true v w o h = refl
  there_with false v w o h = h

  there_later : (b : Bool) (v : V) (o p : Option V) → (is_some o ≡ true → is_some p ≡ true) → is_some (cond b (Some v) o) ≡ true → is_some (cond b (Some v) p)
      ≡ true
  there_later true v o p f h = refl
  there_later false v o p f h = f h

  still_inserted : (cmp : K → K → Ordering) (es : List (K × V)) (k : K) (v : V) → is_some (lookup test es) ≡ true
      → is_some (lookup test (insert_entry cmp es k v)) ≡ true
  still_inserted cmp [] k v h = absurd (true≢false (sym h))
  still_inserted cmp (e ∷ es) k v h = go (cmp k e.0) (still_inserted cmp es k v)
    where
      go : (o : Ordering) → (is_some (lookup test es) ≡ true → is_some (lookup test (insert_entry cmp es k v)) ≡ true)
          → is_some (lookup test (match_ordering o ((k, v) ∷ e ∷ es) ((e.0, v) ∷ es) (e ∷ insert_entry cmp es k v))) ≡ true
      go Less below = there_or (test k) v (lookup test (e ∷ es)) h
      go Equal below = there_with (test e.0) e.1 v (lookup test es) h
      go Greater below = there_later (test e.0) e.1 (lookup test es) (lookup test (insert_entry cmp es k v)) below h

both : (a b : Bool) → a ≡ true → b ≡ true → (a && b) ≡ true
both a b p q = ap (λ x. x && b) p ∙ q

-- variants that are those of an enum
module _ (finished : Maps) (map : Map) (id : EnumId) (variants : Variants) where
  abbrev with_variants : Map
  with_variants = with_enum map id variants

  pub Extends-enum : Extends (overlay finished map) (overlay finished with_variants)
  Extends-enum =
      Extends-grown finished map with_variants refl (λ k t. t) (λ e t. still_inserted (is_at (enum_order.ghosts.cmp e)) enum_order.ghosts.cmp map.enums id
      variants t)

  abbrev has_own : EnumId × Variants → Bool
  has_own e = are_variants_of e.0 e.1

  own_variants : (es : List (EnumId × Variants)) → are_variants_of id variants ≡ true → list_all has_own es ≡ true
      → list_all has_own (insert_entry enum_order.ghosts.cmp es id variants) ≡ true
  own_variants [] own all = both (are_variants_of id variants) true own refl
  own_variants (e ∷ es) own all =
      let later : list_all has_own es ≡ true = second_so (has_own e) (list_all has_own es) all in
      go (enum_order.ghosts.cmp id e.0) refl later (own_variants es own later)
    where
      go : (o : Ordering) → enum_order.ghosts.cmp id e.0 ≡ o → list_all has_own es ≡ true → list_all has_own (insert_entry enum_order.ghosts.cmp es id variants)
          ≡ true
          → list_all has_own (match_ordering o ((id, variants) ∷ e ∷ es) ((e.0, variants) ∷ es) (e ∷ insert_entry enum_order.ghosts.cmp es id variants)) ≡ true
      go Less s later below = both (are_variants_of id variants) (list_all has_own (e ∷ es)) own all
      go Equal s later below =
          let same : id ≡ e.0 = exact_enum id e.0 (enum_ties id e.0 ∙ ap is_eq s) in
          both (are_variants_of e.0 variants) (list_all has_own es) (ap (λ (x : EnumId). are_variants_of x variants) (sym same) ∙ own) later
      go Greater s later below =
          both (has_own e) (list_all has_own (insert_entry enum_order.ghosts.cmp es id variants)) (first_so (has_own e) (list_all has_own es) all) below

  pub HasNoDanglingReference-enum : are_variants_of id variants ≡ true → HasNoDanglingReference (overlay finished map) map
      → HasNoDanglingReference (overlay finished with_variants) with_variants
  HasNoDanglingReference-enum own f =
      let more = HasNoDanglingReference-more (overlay finished map) (overlay finished with_variants) Extends-enum map f in
      record {
        own_crate = more.own_crate;
        held = more.held;
        outside = more.outside;
        root = more.root;
        in_order = more.in_order;
        variants = own_variants map.enums own more.variants;
        modules = more.modules;
        prelude = more.prelude;
        dependencies = more.dependencies;
      }

-- ---- beside finished maps

module _ (finished : Maps) (map : Map) (new : finished map.id ≡ None) (whole : AreWellFormed finished) where
  -- what holds the map outside of it holds it beside itself
  own_holders : (o : Option ModuleId) → is_held_outside map.id o ≡ true → holders_under finished map.id o ≡ holders_under (overlay finished map) map.id o
  own_holders None out = refl
  own_holders (Some h) out = go (map_id.ghosts.eq h.map map.id) out
    where
      go : (b : Bool) → not b ≡ true → cond (same_crate h.map.krate map.id.krate && is_some (finished h.map)) (h ∷ holders_of (finished h.map)) []
          ≡ cond (same_crate h.map.krate map.id.krate && is_some (cond b (Some (placed_in finished map)) (finished h.map)))
          (h ∷ holders_of (cond b (Some (placed_in finished map)) (finished h.map))) []
      go true f = absurd (true≢false (sym f))
      go false f = refl

  -- what holds another is as it was
  other_holders : (id : MapId) (o : Option ModuleId) → is_holder_for finished id o ≡ true → holders_under finished id o ≡ holders_under (overlay finished map)
      id o
  other_holders id None e = refl
  other_holders id (Some h) e = go (map_id.ghosts.eq h.map map.id) refl
    where
      go : (b : Bool) → map_id.ghosts.eq h.map map.id ≡ b → cond (same_crate h.map.krate id.krate && is_some (finished h.map)) (h ∷ holders_of (finished h.map))
          []
          ≡ cond (same_crate h.map.krate id.krate && is_some (cond b (Some (placed_in finished map)) (finished h.map)))
          (h ∷ holders_of (cond b (Some (placed_in finished map)) (finished h.map))) []
      go true s =
          let gone : finished h.map ≡ None = ap finished (exact_map h.map map.id s) ∙ new in
          absurd (true≢false (sym (second_so (same_crate h.map.krate id.krate) (is_some (module_in finished h)) e) ∙ ap
          (λ (o : Option Placed). is_some (option_and_then (λ (p : Placed). module_at p.map h.index) o)) gone))
      go false s = refl

  -- a map that names only what is there stands beside maps that do as one of them
  pub AreWellFormed-overlay : HasNoDanglingReference (overlay finished map) map → AreWellFormed (overlay finished map)
  AreWellFormed-overlay names id placed e = go (map_id.ghosts.eq id map.id) refl e
    where
      held : holders_or (finished map.id) (holders_under finished map.id map.holder) ≡ holders_under (overlay finished map) map.id map.holder
      held = ap (λ (o : Option Placed). holders_or o (holders_under finished map.id map.holder)) new ∙ own_holders map.holder names.outside

      go : (b : Bool) → map_id.ghosts.eq id map.id ≡ b → cond b (Some (placed_in finished map)) (finished id) ≡ Some placed
          → IsWellFormed (overlay finished map) id placed
      go true s f =
          let same : placed_in finished map ≡ placed = cc in
          let this : map.id ≡ id = sym (exact_map id map.id s) in
          subst (IsWellFormed (overlay finished map) id) same
          (record { own = this; holders = held ∙ ap (λ (x : MapId). holders_under (overlay finished map) x map.holder) this; names = names; begins = refl })
      go false s f =
          let w = whole id placed f in
          let more = Extends-overlay finished map new in
          record {
            own = w.own;
            holders =
                w.holders ∙ other_holders id placed.map.holder (subst (λ (x : MapId). is_holder_for finished x placed.map.holder ≡ true) w.own w.names.held);
            names = HasNoDanglingReference-more finished (overlay finished map) more placed.map w.names;
            begins = HasNoDanglingExtern-more finished (overlay finished map) more placed.local w.begins;
          }

-- so all that is named lies among them
pub IsClosed-overlay : (finished : Maps) (map : Map) → finished map.id ≡ None → AreWellFormed finished → HasNoDanglingReference (overlay finished map) map
    → IsClosed (overlay finished map)
IsClosed-overlay finished map new whole names = IsClosed-well_formed (overlay finished map) (AreWellFormed-overlay finished map new whole names)

-- the crates that paths begin with are there
pub LocalIsThere-begins : (maps : Maps) (local : Local) → HasNoDanglingExtern maps local → LocalIsThere maps local
LocalIsThere-begins maps local begins = record {
  modules = λ name entry e.
      shown (is_there maps (named.Module entry.0)) (none_found (λ (x : ModuleId × Option ExternCrateId). is_missing maps (named.Module x.0))
      (is_at (slice_cmp nat_cmp name)) local entry begins e);
}
  where
    shown : (b : Bool) → not b ≡ false → b ≡ true
    shown true f = refl
    shown false f = absurd (true≢false f)

-- a module of the map is there by its number
pub module_there : (finished : Maps) (map : Map) (at : ℕ) → at < length map.modules → ModuleIsThere (overlay finished map) (numbered map.id at)
module_there finished map at low =
    ap (λ (b : Bool). is_some (option_and_then (λ (p : Placed). module_at p.map at) (cond b (Some (placed_in finished map)) (finished map.id))))
    (same_id map.id)
    ∙ some_below map.modules at low
