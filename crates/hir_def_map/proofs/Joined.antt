-- A complete map joins finished ones, and they stay checked.
use Rattle.std.proofs.Common.{◌≡◌, ◌∙◌, ap, sym, subst, refl, Bool, true, false, not, ◌&&◌, ◌||◌, is_some, cond, Option, Some, None, List, [], ◌∷◌, Result, Ok}
use Rattle.std.proofs.Common.{Err}
use mathlib.Core.Bool.{true≢false}
use Rattle.std.specs.Option.{option_and_then, option_map}
use Rattle.std.specs.Cmp.{first_so, second_so, tied_itself}
use Rattle.std.specs.List.{list_any}
use Rattle.std.specs.Ordering.{is_eq}
use Rattle.std.specs.BTreeMap.{BTreeMap, get, is_at, Updates, IsUnchanged}
use Rattle.std.specs.Map.{lookup}
use Rattle.std.specs.Result.{OnOk, OnErr}
use Rattle.hir_nameres.specs.HirIds.declared.ids.Crate.{Crate}
use Rattle.hir_nameres.specs.HirIds.declared.ids.MapId.{MapId}
use Rattle.hir_nameres.specs.HirIds.declared.ids.ModuleDefId.{ModuleDefId}
use Rattle.hir_nameres.specs.HirIds.declared.ids.ModuleId.{ModuleId}
use Rattle.hir_nameres.specs.HirIds.contracts.ids.MapIdOrd.TheImpl as map_order
use Rattle.hir_nameres.specs.HirIds.contracts.ids.MapIdOrd.TheImpl.Laws.{total-law as order_total, matches_eq-law as order_ties}
use Rattle.hir_nameres.specs.HirIds.contracts.ids.MapIdPartialEq.TheImpl as map_id
use Rattle.hir_nameres.specs.HirPerNs.ModuleTree.{same_crate}
use Rattle.hir_nameres.specs.HirPerNs.PerNs.{Item}
use Rattle.hir_nameres.specs.HirScope.Scope.{ScopeValue}
use Rattle.hir_def_map.specs.Types.{Finished}
use Rattle.hir_def_map_rules.specs.declared.reference.Reference.{Reference}
use Rattle.hir_def_map_rules.specs.declared.reference.Reference.TheVariants as named
use Rattle.hir_def_map_rules.specs.State.{Local, Map, ModuleValue, module_at, variants_at}
use Rattle.hir_def_map_rules.specs.Overlay.{Maps, Placed, overlay, holders_of, holders_or, holders_under, module_in, placed_in, placed_with, with_map}
use Rattle.hir_def_map_rules.specs.Ancestors.{IsPlaced}
use Rattle.hir_def_map_rules.specs.Inner.OverlayLaws.{exact_map, IsPlaced-with_map}
use Rattle.hir_def_map_rules.specs.References.{each_leads_to_root, has_its_parents, has_its_variants, is_well_formed, is_holder_for, is_missing, is_there}
use Rattle.hir_def_map_rules.specs.References.{lies_in, map_of_reference, reference_to, any_reference_in, any_reference_in_scope, any_own_crate, any_reference}
use Rattle.hir_def_map_rules.specs.References.{prelude_reference, test_child, test_crate, test_extern, test_item, test_macro, test_of, test_trait, test_type}
use Rattle.hir_def_map_rules.specs.References.{test_value, test_visibility, visibility_reference}
use Rattle.hir_nameres.specs.World.{IsChecked, IsFinished, finished_in, placed_of}
use Rattle.hir_nameres.specs.Removal.{FallsWith, lists_in, lists_of, refers_in, refers_of}
use Rattle.hir_def_map.specs.Inner.Recorded.{IsRecordedFor}
use Rattle.hir_def_map.specs.Insertion.{may_join}
use Rattle.hir_def_map.proofs.Depending.{falls_in_step, falls_on, falls_still}

-- ---- ids that are equal by the order

pub own_id : (a : MapId) → is_at (map_order.ghosts.cmp a) a ≡ true
own_id a = ap is_eq (tied_itself order_total a)

pub same_id : (a b : MapId) → is_at (map_order.ghosts.cmp a) b ≡ true → a ≡ b
same_id a b e = exact_map a b (order_ties a b ∙ e)

pub equal_id : (a b : MapId) → a ≡ b → map_id.ghosts.eq b a ≡ true
equal_id a b e = let P : MapId → Type 0 = λ x. map_id.ghosts.eq b x ≡ true in subst P (sym e) (order_ties b b ∙ own_id b)

-- ---- a test that holds of something that is named holds of one thing, which each other test meets

or_right : (a b : Bool) → b ≡ true → (a || b) ≡ true
or_right true b e = refl
or_right false b e = e

or_left : (a b : Bool) → a ≡ true → (a || b) ≡ true
or_left a b e = ap (λ x. x || b) e

abbrev Names : Type 0
Names = (Reference → Bool) → Bool

abbrev Finds : Names → Type 0
Finds names =
    (test : Reference → Bool) → names test ≡ true → (n : Reference) × (test n ≡ true) × ((other : Reference → Bool) → other n ≡ true → names other ≡ true)

finds_or : (names others : Names) → Finds names → Finds others → Finds (λ test. names test || others test)
finds_or names others f g test e = go (names test) refl e
  where
    go : (b : Bool) → names test ≡ b → (b || others test) ≡ true → (n : Reference) × (test n ≡ true)
        × ((other : Reference → Bool) → other n ≡ true → (names other || others other) ≡ true)
    go true s t = let h = f test s in (h.0, h.1, λ other o. or_left (names other) (others other) (h.2 other o))
    go false s t = let h = g test t in (h.0, h.1, λ other o. or_right (names other) (others other) (h.2 other o))

finds_any : {A : Type 0} (names : (Reference → Bool) → A → Bool) → ((x : A) → Finds (λ test. names test x)) → (xs : List A)
    → Finds (λ test. list_any (names test) xs)
finds_any names f [] = λ test e. absurd cc
finds_any names f (x ∷ xs) = finds_or (λ test. names test x) (λ test. list_any (names test) xs) (f x) (finds_any names f xs)

finds_of : (o : Option Reference) → Finds (λ test. test_of test o)
finds_of None test e = absurd cc
finds_of (Some n) test e = (n, e, λ other o. o)

finds_one : (n : Reference) → Finds (λ test. test n)
finds_one n test e = (n, e, λ other o. o)

finds_item : {I : Type 0} (item : Item ModuleDefId I) → Finds (λ test. test_item test item)
finds_item item =
    finds_or (λ test. test_of test (reference_to item.def)) (λ test. test_visibility test item.vis) (finds_of (reference_to item.def))
    (finds_of (visibility_reference item.vis))

finds_in_scope : (scope : ScopeValue) → Finds (λ test. any_reference_in_scope test scope)
finds_in_scope scope =
    finds_or (λ test. list_any (test_type test) scope.types)
    (λ test. list_any (test_value test) scope.values || (list_any (test_macro test) scope.macros || list_any (test_trait test) scope.unnamed_traits))
    (finds_any test_type (λ t. finds_item t.1) scope.types)
    (finds_or (λ test. list_any (test_value test) scope.values) (λ test. list_any (test_macro test) scope.macros || list_any (test_trait test)
    scope.unnamed_traits)
    (finds_any test_value (λ v. finds_item v.1) scope.values)
    (finds_or (λ test. list_any (test_macro test) scope.macros) (λ test. list_any (test_trait test) scope.unnamed_traits)
    (finds_any test_macro (λ m. finds_of (visibility_reference m.1.vis)) scope.macros)
    (finds_any test_trait (λ t. finds_of (visibility_reference t.1.vis)) scope.unnamed_traits)))

finds_in_module : (m : ModuleValue) → Finds (λ test. any_reference_in test m)
finds_in_module m =
    finds_or (λ test. test_of test (option_map named.Module m.parent))
    (λ test. test_visibility test m.visibility || (list_any (test_child test) m.children || any_reference_in_scope test m.scope))
    (finds_of (option_map named.Module m.parent))
    (finds_or (λ test. test_visibility test m.visibility) (λ test. list_any (test_child test) m.children || any_reference_in_scope test m.scope)
    (finds_of (visibility_reference m.visibility))
    (finds_or (λ test. list_any (test_child test) m.children) (λ test. any_reference_in_scope test m.scope)
    (finds_any test_child (λ c. finds_one (named.Module c.1)) m.children)
    (finds_in_scope m.scope)))

finds_crate : (krate : Crate) → Finds (λ test. test_crate test krate)
finds_crate krate = finds_one _

finds_own_crate : (id : MapId) → Finds (λ test. any_own_crate test id)
finds_own_crate id = go (is_some id.block)
  where
    go : (b : Bool) → Finds (λ test. b && test_crate test id.krate)
    go true = finds_crate id.krate
    go false = λ test e. absurd cc

module _ (map : Map) (local : Local) where
  abbrev in_crates : Names
  in_crates test = list_any (test_crate test) map.crate_data.dependencies || any_own_crate test map.id

  abbrev from_externs : Names
  from_externs test = list_any (test_extern test) local || in_crates test

  abbrev from_holder : Names
  from_holder test = test_of test (option_map named.Module map.holder) || from_externs test

  abbrev from_prelude : Names
  from_prelude test = test_of test (prelude_reference map.prelude) || from_holder test

  pub finds_some : Finds (λ test. any_reference test map local)
  finds_some =
      finds_or (λ test. list_any (any_reference_in test) map.modules) from_prelude (finds_any any_reference_in finds_in_module map.modules)
      (finds_or (λ test. test_of test (prelude_reference map.prelude)) from_holder (finds_of (prelude_reference map.prelude))
      (finds_or (λ test. test_of test (option_map named.Module map.holder)) from_externs (finds_of (option_map named.Module map.holder))
      (finds_or (λ test. list_any (test_extern test) local) in_crates (finds_any test_extern (λ e. finds_one (named.Module e.1.0)) local)
      (finds_or (λ test. list_any (test_crate test) map.crate_data.dependencies) (λ test. any_own_crate test map.id)
      (finds_any test_crate finds_crate map.crate_data.dependencies)
      (finds_own_crate map.id)))))

  -- the holder is named
  pub holder_named : (h : ModuleId) → map.holder ≡ Some h → any_reference (lies_in h.map) map local ≡ true
  holder_named h e =
      or_right (list_any (any_reference_in (lies_in h.map)) map.modules) (from_prelude (lies_in h.map))
      (or_right (test_of (lies_in h.map) (prelude_reference map.prelude)) (from_holder (lies_in h.map))
      (or_left (test_of (lies_in h.map) (option_map named.Module map.holder)) (from_externs (lies_in h.map))
      (ap (λ (o : Option ModuleId). test_of (lies_in h.map) (option_map named.Module o)) e ∙ own_id h.map)))

  -- so are the crates on which its crate stands
  pub crate_named : (k : MapId) → list_any (test_crate (lies_in k)) map.crate_data.dependencies ≡ true → any_reference (lies_in k) map local ≡ true
  crate_named k e =
      or_right (list_any (any_reference_in (lies_in k)) map.modules) (from_prelude (lies_in k))
      (or_right (test_of (lies_in k) (prelude_reference map.prelude)) (from_holder (lies_in k))
      (or_right (test_of (lies_in k) (option_map named.Module map.holder)) (from_externs (lies_in k))
      (or_right (list_any (test_extern (lies_in k)) local) (in_crates (lies_in k))
      (or_left (list_any (test_crate (lies_in k)) map.crate_data.dependencies) (any_own_crate (lies_in k) map.id) e))))

  -- so is a block's crate
  pub own_crate_named : (k : MapId) → any_own_crate (lies_in k) map.id ≡ true → any_reference (lies_in k) map local ≡ true
  own_crate_named k e =
      or_right (list_any (any_reference_in (lies_in k)) map.modules) (from_prelude (lies_in k))
      (or_right (test_of (lies_in k) (prelude_reference map.prelude)) (from_holder (lies_in k))
      (or_right (test_of (lies_in k) (option_map named.Module map.holder)) (from_externs (lies_in k))
      (or_right (list_any (test_extern (lies_in k)) local) (in_crates (lies_in k))
      (or_right (list_any (test_crate (lies_in k)) map.crate_data.dependencies) (any_own_crate (lies_in k) map.id) e))))

-- ---- what is there in maps stays so in others that have the same where it matters

-- beside one map, maps that have the same finished map of an id have the same there
beside_alike : (A B : Maps) (m : Map) (k : MapId) → A k ≡ B k → is_some (A k) ≡ true → overlay A m k ≡ overlay B m k
beside_alike A B m k e t = go (map_id.ghosts.eq k m.id) refl
  where
    either : (o : Option Placed) → is_some o ≡ true → (one other : List ModuleId) → holders_or o one ≡ holders_or o other
    either None f one other = absurd cc
    either (Some p) f one other = refl

    go : (b : Bool) → map_id.ghosts.eq k m.id ≡ b → cond b (Some (placed_in A m)) (A k) ≡ cond b (Some (placed_in B m)) (B k)
    go true s =
        let here : m.id ≡ k = sym (exact_map k m.id s) in
        let same : A m.id ≡ B m.id = ap A here ∙ e ∙ ap B (sym here) in
        ap (λ (hs : List ModuleId). Some (record { map = m; local = []; holders = hs }))
        (either (A m.id) (ap is_some (ap A here) ∙ t) (holders_under A m.id m.holder) (holders_under B m.id m.holder)
        ∙ ap (λ (o : Option Placed). holders_or o (holders_under B m.id m.holder)) same)
    go false s = e

there_same : (A B : Maps) (n : Reference) → A (map_of_reference n) ≡ B (map_of_reference n) → is_there A n ≡ is_there B n
there_same A B (named.Module m) e = ap (λ (o : Option Placed). is_some (option_and_then (λ (placed : Placed). module_at placed.map m.index) o)) e
there_same A B (named.Enum id) e = ap (λ (o : Option Placed). is_some (option_and_then (λ (placed : Placed). variants_at placed.map id) o)) e
there_same A B (named.Map id) e = ap is_some e

has_first : {X : Type 0} (read : Placed → Option X) (o : Option Placed) → is_some (option_and_then read o) ≡ true → is_some o ≡ true
has_first read None e = absurd cc
has_first read (Some p) e = refl

pub there_in : (A : Maps) (n : Reference) → is_there A n ≡ true → is_some (A (map_of_reference n)) ≡ true
there_in A (named.Module m) e = has_first (λ (placed : Placed). module_at placed.map m.index) (A m.map) e
there_in A (named.Enum id) e = has_first (λ (placed : Placed). variants_at placed.map id) (A id.loc.container.map) e
there_in A (named.Map id) e = e

pub both : (a b : Bool) → a ≡ true → b ≡ true → (a && b) ≡ true
both a b p q = ap (λ x. x && b) p ∙ q

not_so : (b : Bool) → not b ≡ true → b ≡ false
not_so true e = absurd cc
not_so false e = refl

abbrev IsSameAt : Maps → Maps → MapId → Type 0
IsSameAt A B k = is_some (A k) ≡ true → A k ≡ B k

module _ (A B : Maps) (map : Map) (local : Local) where
  missing_kept : ((k : MapId) → any_reference (lies_in k) map local ≡ true → IsSameAt A B k) → any_reference (is_missing A) map local ≡ false
      → any_reference (is_missing B) map local ≡ false
  missing_kept same e = go (any_reference (is_missing B) map local) refl
    where
      stays : (n : Reference) → ((other : Reference → Bool) → other n ≡ true → any_reference other map local ≡ true) → (b : Bool) → is_there A n ≡ b
          → is_there B n ≡ true
      stays n named true t =
          let there : A (map_of_reference n) ≡ B (map_of_reference n) = same (map_of_reference n)
          (named (lies_in (map_of_reference n)) (own_id (map_of_reference n))) (there_in A n t) in
          sym (there_same A B n there) ∙ t
      stays n named false t = absurd (true≢false (sym (named (is_missing A) (ap not t)) ∙ e))

      go : (b : Bool) → any_reference (is_missing B) map local ≡ b → b ≡ false
      go false s = refl
      go true s =
          let h = finds_some map local (is_missing B) s in
          absurd (true≢false (sym h.1 ∙ ap not (stays h.0 h.2 (is_there A h.0) refl)))

module _ (A B : Maps) (id : MapId) where
  holder_kept : (o : Option ModuleId) → ((h : ModuleId) → o ≡ Some h → IsSameAt A B h.map) → is_holder_for A id o ≡ true → is_holder_for B id o ≡ true
  holder_kept None same e = refl
  holder_kept (Some h) same e =
      let there : is_some (module_in A h) ≡ true = second_so (same_crate h.map.krate id.krate) (is_some (module_in A h)) e in
      let k : A h.map ≡ B h.map = same h refl (has_first (λ (placed : Placed). module_at placed.map h.index) (A h.map) there) in
      sym (ap (λ (x : Option Placed). same_crate h.map.krate id.krate && is_some (option_and_then (λ (placed : Placed). module_at placed.map h.index) x)) k) ∙ e

  holders_kept : (o : Option ModuleId) → ((h : ModuleId) → o ≡ Some h → IsSameAt A B h.map) → is_holder_for A id o ≡ true → holders_under A id o
      ≡ holders_under B id o
  holders_kept None same e = refl
  holders_kept (Some h) same e =
      let there : is_some (module_in A h) ≡ true = second_so (same_crate h.map.krate id.krate) (is_some (module_in A h)) e in
      let k : A h.map ≡ B h.map = same h refl (has_first (λ (placed : Placed). module_at placed.map h.index) (A h.map) there) in
      ap (λ (x : Option Placed). cond (same_crate h.map.krate id.krate && is_some x) (h ∷ holders_of x) []) k

-- the parts of completeness
module _ (A : Maps) (map : Map) (local : Local) (e : is_well_formed A map local ≡ true) where
  abbrev names_kept : Bool
  names_kept = not (any_reference (is_missing (overlay A map)) map local)

  abbrev holder_kept_too : Bool
  holder_kept_too = is_holder_for A map.id map.holder && names_kept

  abbrev variants_too : Bool
  variants_too = has_its_variants map && holder_kept_too

  abbrev parents_too : Bool
  parents_too = has_its_parents map && variants_too

  leads : each_leads_to_root map ≡ true
  leads = first_so (each_leads_to_root map) parents_too e

  past_leads : parents_too ≡ true
  past_leads = second_so (each_leads_to_root map) parents_too e

  parents : has_its_parents map ≡ true
  parents = first_so (has_its_parents map) variants_too past_leads

  past_parents : variants_too ≡ true
  past_parents = second_so (has_its_parents map) variants_too past_leads

  variants : has_its_variants map ≡ true
  variants = first_so (has_its_variants map) holder_kept_too past_parents

  past_variants : holder_kept_too ≡ true
  past_variants = second_so (has_its_variants map) holder_kept_too past_parents

  pub holder : is_holder_for A map.id map.holder ≡ true
  holder = first_so (is_holder_for A map.id map.holder) names_kept past_variants

  pub nothing_missing : any_reference (is_missing (overlay A map)) map local ≡ false
  nothing_missing = not_so (any_reference (is_missing (overlay A map)) map local) (second_so (is_holder_for A map.id map.holder) names_kept past_variants)

  complete_kept : (B : Maps) → ((k : MapId) → any_reference (lies_in k) map local ≡ true → IsSameAt (overlay A map) (overlay B map) k)
      → ((h : ModuleId) → map.holder ≡ Some h → IsSameAt A B h.map) → is_well_formed B map local ≡ true
  complete_kept B same held =
      both (each_leads_to_root map) _ leads
      (both (has_its_parents map) _ parents
      (both (has_its_variants map) _ variants
      (both (is_holder_for B map.id map.holder) _ (holder_kept A B map.id map.holder held holder)
      (ap not (missing_kept (overlay A map) (overlay B map) map local same nothing_missing)))))

-- a finished map stays finished where the maps that it names stay
module _ (A B : Maps) (id : MapId) (g : Finished) (finished : IsFinished A id g) (here : is_some (A id) ≡ true)
    (same : (k : MapId) → any_reference (lies_in k) g.map g.local ≡ true → IsSameAt A B k) where
  beside_same : (k : MapId) → any_reference (lies_in k) g.map g.local ≡ true → IsSameAt (overlay A g.map) (overlay B g.map) k
  beside_same k named t =
      let some : is_some (A k) ≡ true = go (map_id.ghosts.eq k g.map.id) refl t in
      beside_alike A B g.map k (same k named some) some
    where
      go : (b : Bool) → map_id.ghosts.eq k g.map.id ≡ b → is_some (cond b (Some (placed_in A g.map)) (A k)) ≡ true → is_some (A k) ≡ true
      go true s u = ap (λ (x : MapId). is_some (A x)) (exact_map k g.map.id s ∙ finished.own) ∙ here
      go false s u = u

  pub finished_kept : IsFinished B id g
  finished_kept =
      let held : (h : ModuleId) → g.map.holder ≡ Some h → IsSameAt A B h.map = λ h e. same h.map (holder_named g.map g.local h e) in
      let fits : is_holder_for A g.map.id g.map.holder ≡ true = holder A g.map g.local finished.complete in
      let P : MapId → Type 0 = λ x. is_holder_for A x g.map.holder ≡ true in
      record {
        own = finished.own;
        holders = finished.holders ∙ holders_kept A B id g.map.holder held (subst P finished.own fits);
        complete = complete_kept A g.map g.local finished.complete B beside_same held;
        named = finished.named;
      }

-- ---- one more map

some_placed : (o : Option Finished) (g : Finished) → o ≡ Some g → is_some (option_map placed_of o) ≡ true
some_placed o g e = ap (λ (x : Option Finished). is_some (option_map placed_of x)) e

not_placed : (o : Option Finished) → is_some (option_map placed_of o) ≡ false → o ≡ None
not_placed None e = refl
not_placed (Some g) e = absurd cc

module _ (maps maps' : BTreeMap MapId Finished) (f : Finished) (may : may_join (finished_in maps) f.map f.local ≡ true)
    (holders : f.holders.items ≡ holders_under (finished_in maps) f.map.id f.map.holder) (kept : IsRecordedFor maps f.named f.map f.local)
    (updates : Updates map_order.ghosts.cmp maps maps' f.map.id (Some f)) where
  abbrev before : Maps
  before = finished_in maps

  not_there : is_some (before f.map.id) ≡ false
  not_there = not_so (is_some (before f.map.id)) (first_so (not (is_some (before f.map.id))) (is_well_formed before f.map f.local) may)

  absent : get map_order.ghosts.cmp maps f.map.id ≡ None
  unfolding finished_in
  absent = not_placed (get map_order.ghosts.cmp maps f.map.id) not_there

  complete : is_well_formed before f.map f.local ≡ true
  complete = second_so (not (is_some (before f.map.id))) (is_well_formed before f.map f.local) may

  placed_new : (placed_in before f.map).holders ≡ holders_under before f.map.id f.map.holder
  unfolding finished_in
  placed_new = ap (λ (o : Option Finished). holders_or (option_map placed_of o) (holders_under before f.map.id f.map.holder)) absent

  -- the finished maps are those that were, and this one
  pub joined : (id : MapId) → finished_in maps' id ≡ with_map before f.map f.local id
  unfolding finished_in
  joined id = ap (option_map placed_of) (updates.0 id) ∙ go (is_at (map_order.ghosts.cmp f.map.id) id) refl
    where
      apart : is_at (map_order.ghosts.cmp f.map.id) id ≡ false → (b : Bool) → map_id.ghosts.eq id f.map.id ≡ b → b ≡ false
      apart s true u =
          let P : MapId → Type 0 = λ x. is_at (map_order.ghosts.cmp f.map.id) x ≡ true in
          absurd (true≢false (sym (subst P (sym (exact_map id f.map.id u)) (own_id f.map.id)) ∙ s))
      apart s false u = refl

      go : (b : Bool) → is_at (map_order.ghosts.cmp f.map.id) id ≡ b → option_map placed_of (cond b (Some f) (get map_order.ghosts.cmp maps id))
          ≡ with_map before f.map f.local id
      go true s =
          ap (λ (hs : List ModuleId). Some (record { map = f.map; local = f.local; holders = hs })) (holders ∙ sym placed_new)
          ∙ sym (ap (λ (b : Bool). cond b (Some (placed_with before f.map f.local)) (before id)) (equal_id f.map.id id (same_id f.map.id id s)))
      go false s = sym (ap (λ (b : Bool). cond b (Some (placed_with before f.map f.local)) (before id)) (apart s (map_id.ghosts.eq id f.map.id) refl))

  abbrev after : Maps
  after = with_map before f.map f.local

  grows : (k : MapId) → IsSameAt before after k
  grows k e = go (map_id.ghosts.eq k f.map.id) refl
    where
      go : (b : Bool) → map_id.ghosts.eq k f.map.id ≡ b → before k ≡ cond b (Some (placed_with before f.map f.local)) (before k)
      go true s = absurd (true≢false (sym e ∙ ap (λ (x : MapId). is_some (before x)) (exact_map k f.map.id s) ∙ not_there))
      go false s = refl

  -- a map that has joined is beside itself what it was
  twice : (k : MapId) → overlay before f.map k ≡ overlay after f.map k
  twice k = go (map_id.ghosts.eq k f.map.id)
    where
      own : after f.map.id ≡ Some (placed_with before f.map f.local)
      own = ap (λ (b : Bool). cond b (Some (placed_with before f.map f.local)) (before f.map.id)) (equal_id f.map.id f.map.id refl)

      go : (b : Bool) → cond b (Some (placed_in before f.map)) (before k) ≡ cond b (Some (placed_in after f.map))
          (cond b (Some (placed_with before f.map f.local)) (before k))
      go true =
          ap (λ (o : Option Placed). Some (record { map = f.map; local = []; holders = holders_or o (holders_under after f.map.id f.map.holder) })) (sym own)
      go false = refl

  new_finished : IsFinished after f.map.id f
  new_finished = record {
    own = refl;
    holders = holders ∙ holders_kept before after f.map.id f.map.holder (λ h e. grows h.map) (holder before f.map f.local complete);
    complete = complete_kept before f.map f.local complete after (λ k n e. twice k) (λ h e. grows h.map);
    named = kept.named;
  }

  old_finished : (id : MapId) (g : Finished) → get map_order.ghosts.cmp maps id ≡ Some g → IsFinished before id g → IsFinished after id g
  unfolding finished_in
  old_finished id g e finished = finished_kept before after id g finished (some_placed (get map_order.ghosts.cmp maps id) g e) (λ k n. grows k)

  each_after : IsChecked maps → (id : MapId) (g : Finished) → get map_order.ghosts.cmp maps' id ≡ Some g → IsFinished after id g
  each_after checked id g e = go (is_at (map_order.ghosts.cmp f.map.id) id) refl (sym (updates.0 id) ∙ e)
    where
      go : (b : Bool) → is_at (map_order.ghosts.cmp f.map.id) id ≡ b → cond b (Some f) (get map_order.ghosts.cmp maps id) ≡ Some g → IsFinished after id g
      go true s t =
          let this : f ≡ g = cc in
          let P : Finished → Type 0 = λ x. IsFinished after id x in
          let Q : MapId → Type 0 = λ x. IsFinished after x f in
          subst P this (subst Q (same_id f.map.id id s) new_finished)
      go false s t = old_finished id g t (checked.each id g t)

  -- what lists a map lists it still
  lists_still : (k j : MapId) → lists_in maps k j ≡ true → lists_in maps' k j ≡ true
  lists_still k j e = ap (λ (o : Option Finished). lists_of o j) (updates.0 k) ∙ go (is_at (map_order.ghosts.cmp f.map.id) k) refl
    where
      go : (b : Bool) → is_at (map_order.ghosts.cmp f.map.id) k ≡ b → lists_of (cond b (Some f) (get map_order.ghosts.cmp maps k)) j ≡ true
      go true s =
          absurd (true≢false (sym e ∙ ap (λ (o : Option Finished). lists_of o j) (sym (ap (get map_order.ghosts.cmp maps) (same_id f.map.id k s)) ∙ absent)))
      go false s = e

  falls_after : (on id : MapId) → FallsWith (lists_in maps) on id → FallsWith (lists_in maps') on id
  falls_after on id d = falls_still (lists_in maps) (lists_in maps') lists_still on id d

  covered_after : IsChecked maps → (id other : MapId) → refers_in maps' id other ≡ true → FallsWith (lists_in maps') other id
  covered_after checked id other e =
      go (is_at (map_order.ghosts.cmp f.map.id) id) refl (sym (ap (λ (o : Option Finished). refers_of o other) (updates.0 id)) ∙ e)
    where
      new : refers_of (Some f) other ≡ true → FallsWith (lists_in maps') other f.map.id
      new n =
          let h = kept.each other n in
          let own : lists_in maps' f.map.id h.by ≡ true = ap (λ (o : Option Finished). lists_of o h.by) updates.1 ∙ h.is_recorded in
          falls_on (lists_in maps') other h.by f.map.id (falls_after other h.by h.falls) (falls_in_step (lists_in maps') f.map.id h.by own)

      go : (b : Bool) → is_at (map_order.ghosts.cmp f.map.id) id ≡ b → refers_of (cond b (Some f) (get map_order.ghosts.cmp maps id)) other ≡ true
          → FallsWith (lists_in maps') other id
      go true s n = let P : MapId → Type 0 = λ x. FallsWith (lists_in maps') other x in subst P (same_id f.map.id id s) (new n)
      go false s n = falls_after other id (checked.covered id other n)

  pub still_checked : IsChecked maps → IsChecked maps'
  still_checked checked =
      let whole : after ≡ finished_in maps' = λ i id. sym (joined id) i in
      record {
        placed = subst IsPlaced whole (IsPlaced-with_map before f.map f.local checked.placed);
        each = λ id g e. let P : Maps → Type 0 = λ x. IsFinished x id g in subst P whole (each_after checked id g e);
        covered = covered_after checked;
      }

alike_maps : (maps maps' : BTreeMap MapId Finished) → ((id : MapId) → get map_order.ghosts.cmp maps' id ≡ get map_order.ghosts.cmp maps id) → finished_in maps
    ≡ finished_in maps'
unfolding finished_in
alike_maps maps maps' alike = λ i id. option_map placed_of (sym (alike id) i)

-- maps with the same entries are checked alike
pub alike_checked : (maps maps' : BTreeMap MapId Finished) → maps'.entries ≡ maps.entries → IsChecked maps → IsChecked maps'
alike_checked maps maps' same checked =
    let alike : (id : MapId) → get map_order.ghosts.cmp maps' id ≡ get map_order.ghosts.cmp maps id = λ id i. lookup (is_at (map_order.ghosts.cmp id)) (same i)
    in
    let whole : finished_in maps ≡ finished_in maps' = alike_maps maps maps' alike in
    record {
      placed = subst IsPlaced whole checked.placed;
      each = λ id g e. let P : Maps → Type 0 = λ x. IsFinished x id g in subst P whole (checked.each id g (sym (alike id) ∙ e));
      covered = λ id other e.
          falls_still (lists_in maps) (lists_in maps') (λ k j l. ap (λ (o : Option Finished). lists_of o j) (alike k) ∙ l) other id
          (checked.covered id other (sym (ap (λ (o : Option Finished). refers_of o other) (alike id)) ∙ e));
    }

-- after an insertion that may fail
pub insert_checked : {V E : Type 0} (r : Result V E) (maps maps' : BTreeMap MapId Finished) (f : Finished) (id : MapId) → id ≡ f.map.id
    → may_join (finished_in maps) f.map f.local ≡ true → f.holders.items ≡ holders_under (finished_in maps) f.map.id f.map.holder
    → IsRecordedFor maps f.named f.map f.local
    → OnOk r (Updates map_order.ghosts.cmp maps maps' id (Some f)) → OnErr r (IsUnchanged maps maps') → IsChecked maps → IsChecked maps'
insert_checked (Ok v) maps maps' f id own may holders kept updates err checked =
    let P : MapId → Type 0 = λ x. Updates map_order.ghosts.cmp maps maps' x (Some f) in still_checked maps maps' f may holders kept (subst P own updates)
    checked
insert_checked (Err e) maps maps' f id own may holders kept updates err checked = alike_checked maps maps' err checked

pub joined_under : (maps maps' : BTreeMap MapId Finished) (f : Finished) (id : MapId) → id ≡ f.map.id
    → may_join (finished_in maps) f.map f.local ≡ true → f.holders.items ≡ holders_under (finished_in maps) f.map.id f.map.holder
    → IsRecordedFor maps f.named f.map f.local
    → Updates map_order.ghosts.cmp maps maps' id (Some f) → (k : MapId) → finished_in maps' k ≡ with_map (finished_in maps) f.map f.local k
joined_under maps maps' f id own may holders kept updates =
    let P : MapId → Type 0 = λ x. Updates map_order.ghosts.cmp maps maps' x (Some f) in joined maps maps' f may holders kept (subst P own updates)
