-- A map that names only what is there.
use Rattle.std.specs.Prelude.{◌≡◌, Bool, true, false, not, ◌||◌, Option, None, Some, option_map, ℕ, List, map as list_map, slice_get, option_and_then, zero}
use Rattle.std.specs.Prelude.{suc, ◌<◌, ◌≤◌, [], ◌∷◌, length, ◌&&◌, is_some, cond}
use Rattle.std.specs.BTreeMap.{is_at}
use Rattle.std.specs.Cmp.Lexicographic.{slice_cmp}
use Rattle.std.specs.Cmp.{first_so, second_so}
use Rattle.std.specs.List.{list_any, list_all, All}
use Rattle.std.specs.Map.{lookup}
use Rattle.std.specs.Ordering.{nat_cmp}
use Rattle.std.proofs.Common.{ap, refl, ◌∙◌, subst, sym, arith}
use Rattle.std.proofs.lemmas.List.{length-map}
use Rattle.std.proofs.lemmas.List.Elements.{All-cons, All-nil}
use Rattle.std.proofs.lemmas.Option.{slice_get-map}
use mathlib.Core.Bool.{true≢false}
use Rattle.hir_scope.specs.HirIds.declared.ast_id.BlockId.{BlockId}
use Rattle.hir_scope.specs.HirIds.declared.ids.Crate.{Crate}
use Rattle.hir_scope.specs.HirIds.declared.ids.EnumId.{EnumId}
use Rattle.hir_scope.specs.HirIds.declared.ids.MapId.{MapId}
use Rattle.hir_scope.specs.HirIds.declared.ids.ModuleId.{ModuleId}
use Rattle.hir_scope.specs.HirPerNs.ModuleTree.{same_crate}
use Rattle.hir_def_map_rules.specs.Inner.OverlayLaws.{same_id, exact_crate, frame_holders}
use Rattle.hir_def_map_rules.specs.Ancestors.{ends_from, ends_within, leads_to_root, number_in, own_frame, parent_number, frames_of}
use Rattle.hir_def_map_rules.specs.Closed.{AreThere, IsClosed, MapIsThere, ModuleIsThere}
use Rattle.hir_def_map_rules.specs.WellFormed.{HasNoDanglingReference, HasNoDanglingExtern, Extends, AreWellFormed, is_held_outside}
use Rattle.hir_def_map_rules.specs.References.{are_variants_of, is_missing, is_there, any_reference_in, prelude_reference, test_crate, test_extern, test_of}
use Rattle.hir_def_map_rules.specs.References.{all_below, has_its_parents, is_parent_in, each_leads_to_root, is_well_formed, is_holder_for, any_own_crate}
use Rattle.hir_def_map_rules.specs.References.{any_reference}
use Rattle.hir_def_map_rules.specs.Scoping.Segments.{variant_in}
use Rattle.hir_def_map_rules.specs.Scoping.Start.{is_dependency}
use Rattle.hir_def_map_rules.specs.State.{Local, Map, ModuleValue, Variants, at_name, crate_map, variants_at, parent_of, module_at, parent_at, IsBefore}
use Rattle.hir_def_map_rules.specs.State.{IsInOrder, entry_of, root_of}
use Rattle.hir_def_map_rules.specs.Overlay.{Maps, overlay, Placed, entry_in, holders_of, holders_under, map_in, module_in, parent_in, placed_in}
use Rattle.hir_def_map_rules.specs.Types.{EnumVariant, Reference}
use Rattle.hir_def_map_rules.proofs.EnumIds.{exact_enum}
use Rattle.hir_def_map_rules.proofs.Fails.{of_less}
use Rattle.hir_def_map_rules.proofs.Referred.{entry_fails, module_less, module_parts}
use Rattle.hir_def_map_rules.proofs.NoneOf.{all_found, neither, none_of_less, not_first, not_second, none_at}
use Rattle.hir_scope.specs.HirIds.contracts.ids.EnumIdOrd.TheImpl as enum_order
use Rattle.hir_scope.specs.HirIds.contracts.ids.EnumIdOrd.TheImpl.Laws.{matches_eq-law as enum_ties}
use Rattle.hir_scope.specs.HirIds.contracts.ids.EnumIdPartialEq.TheImpl as enum_id
use Rattle.hir_scope.specs.HirIds.contracts.ids.MapIdPartialEq.TheImpl as map_id
use Rattle.hir_def_map_rules.specs.declared.reference.Reference.TheVariants as named

still_there : (a b : Bool) → (a ≡ true → b ≡ true) → not a ≡ false → not b ≡ false
still_there true b f e = ap not (f refl)
still_there false b f e = absurd (true≢false e)

module _ (one other : Maps) (more : Extends one other) where
  pub none_missing : (n : Reference) → is_missing one n ≡ false → is_missing other n ≡ false
  none_missing n e = still_there (is_there one n) (is_there other n) (more n) e

  of_none : (o : Option Reference) → test_of (is_missing one) o ≡ false → test_of (is_missing other) o ≡ false
  of_none o e = of_less (is_missing one) (is_missing other) none_missing o e

  in_module : (m : ModuleValue) → any_reference_in (is_missing one) m ≡ false → any_reference_in (is_missing other) m ≡ false
  in_module m e = module_less (is_missing one) (is_missing other) none_missing m e

  own_crate : (id : MapId) → any_own_crate (is_missing one) id ≡ false → any_own_crate (is_missing other) id ≡ false
  own_crate id e = go (is_some id.block) e
    where
      go : (b : Bool) → (b && test_crate (is_missing one) id.krate) ≡ false → (b && test_crate (is_missing other) id.krate) ≡ false
      go true f = none_missing (named.Map (crate_map id.krate)) f
      go false f = refl

  pub held_there : (id : MapId) (o : Option ModuleId) → is_holder_for one id o ≡ true → is_holder_for other id o ≡ true
  held_there id None e = refl
  held_there id (Some h) e = go (same_crate h.map.krate id.krate) e
    where
      go : (b : Bool) → (b && is_some (module_in one h)) ≡ true → (b && is_some (module_in other h)) ≡ true
      go true f = more (named.Module h) f
      go false f = absurd (true≢false (sym f))

  -- a map names only what is there among more maps too
  pub HasNoDanglingReference-more : (map : Map) → HasNoDanglingReference one map → HasNoDanglingReference other map
  HasNoDanglingReference-more map f = record {
    own_crate = own_crate map.id f.own_crate;
    held = held_there map.id map.holder f.held;
    outside = f.outside;
    root = f.root;
    in_order = f.in_order;
    variants = f.variants;
    modules = none_of_less (any_reference_in (is_missing one)) (any_reference_in (is_missing other)) in_module map.modules f.modules;
    prelude = of_none (prelude_reference map.prelude) f.prelude;
    dependencies =
        none_of_less (test_crate (is_missing one)) (test_crate (is_missing other)) (λ c g. none_missing (named.Map (crate_map c)) g) map.crate_data.dependencies
        f.dependencies;
  }

  pub HasNoDanglingExtern-more : (local : Local) → HasNoDanglingExtern one local → HasNoDanglingExtern other local
  HasNoDanglingExtern-more local f =
      none_of_less (test_extern (is_missing one)) (test_extern (is_missing other)) (λ e g. none_missing (named.Module e.1.0) g) local f

-- the parent of a number is that of the module of the number
pub parent_listed : (ms : List ModuleValue) (at : ℕ) → option_and_then (λ (p : Option ModuleId). p) (slice_get (list_map (λ (m : ModuleValue). m.parent) ms) at)
    ≡ parent_of (slice_get ms at)
parent_listed ms at = ap (option_and_then (λ (p : Option ModuleId). p)) (slice_get-map (λ (m : ModuleValue). m.parent) ms at) ∙ go (slice_get ms at)
  where
    go : (o : Option ModuleValue) → option_and_then (λ (p : Option ModuleId). p) (option_map (λ (m : ModuleValue). m.parent) o) ≡ parent_of o
    go None = refl
    go (Some m) = refl

-- where parents come before, they lead to a root
module _ (map : Map) (in_order : IsInOrder map) where
  before : (at : ℕ) (o : Option ModuleId) → parent_at map at ≡ o → IsBefore map.id at o
  before at o e = go (module_at map at) refl e
    where
      go : (m : Option ModuleValue) → module_at map at ≡ m → parent_of m ≡ o → IsBefore map.id at o
      go None s f = subst (IsBefore map.id at) f tt
      go (Some m) s f = subst (IsBefore map.id at) f (in_order at m s)

  abbrev up : ℕ → Option ℕ
  up at = parent_number (own_frame map) at

  descends : (at p : ℕ) → up at ≡ Some p → p < at
  descends at p e = go (parent_at map at) (before at (parent_at map at) refl) (sym (ap (number_in map.id) (parent_listed map.modules at)) ∙ e)
    where
      on : (b : Bool) (q : ℕ) → q < at → cond b (Some q) None ≡ Some p → p < at
      on true q lower f = let same : q ≡ p = cc in subst (λ (n : ℕ). n < at) same lower
      on false q lower f = absurd cc

      go : (o : Option ModuleId) → IsBefore map.id at o → number_in map.id o ≡ Some p → p < at
      go None lies f = absurd cc
      go (Some q) lies f = on (map_id.ghosts.eq q.map map.id) q.index lies.1 f

  ends : (n at : ℕ) → at ≤ n → ends_within up n at ≡ true
  ends zero at low = go (up at) refl
    where
      go : (o : Option ℕ) → up at ≡ o → not (is_some o) ≡ true
      go None e = refl
      go (Some p) e = let lower : p < at = descends at p e in absurd (omega arith)
  ends (suc n) at low = go (up at) refl (λ p lower. ends n p lower)
    where
      go : (o : Option ℕ) → up at ≡ o → ((p : ℕ) → p ≤ n → ends_within up n p ≡ true) → ends_from (ends_within up n) o ≡ true
      go None e below = refl
      go (Some p) e below = let lower : p < at = descends at p e in below p (omega arith)

  all_lead : (n : ℕ) → n ≤ length map.modules → all_below (leads_to_root (own_frame map)) n ≡ true
  unfolding leads_to_root
  all_lead zero low = refl
  all_lead (suc n) low =
      let count : length (list_map (λ (m : ModuleValue). m.parent) map.modules) ≡ length map.modules = length-map map.modules (λ (m : ModuleValue). m.parent) in
      let here : leads_to_root (own_frame map) n ≡ true = ap (λ (k : ℕ). ends_within up k n) count ∙ ends (length map.modules) n (omega arith) in
      ap (λ (b : Bool). b && all_below (leads_to_root (own_frame map)) n) here ∙ all_lead n (omega arith)

  parents_inside : has_its_parents map ≡ true
  parents_inside = go map.modules (λ k m e. in_order_parent k m e)
    where
      inside : (o : Option ModuleId) (at : ℕ) → IsBefore map.id at o → is_parent_in map.id o ≡ true
      inside None at lies = refl
      inside (Some p) at lies = ap (map_id.ghosts.eq p.map) (sym lies.0) ∙ same_id p.map

      in_order_parent : (k : ℕ) (m : ModuleValue) → slice_get map.modules k ≡ Some m → is_parent_in map.id m.parent ≡ true
      in_order_parent k m e = inside m.parent k (in_order k m e)

      go : (ms : List ModuleValue) → ((k : ℕ) (m : ModuleValue) → slice_get ms k ≡ Some m → is_parent_in map.id m.parent ≡ true)
          → list_all (λ (m : ModuleValue). is_parent_in map.id m.parent) ms ≡ true
      go [] f = refl
      go (m ∷ ms) f = ap (λ (b : Bool). b && list_all (λ (x : ModuleValue). is_parent_in map.id x.parent) ms) (f zero m refl) ∙ go ms (λ k x e. f (suc k) x e)

-- what holds a map is there
holder_there : (maps : Maps) (id : MapId) (o : Option ModuleId) → is_holder_for maps id o ≡ true → test_of (is_missing maps) (option_map named.Module o) ≡ false
holder_there maps id None e = refl
holder_there maps id (Some h) e = ap not (second_so (same_crate h.map.krate id.krate) (is_some (module_in maps h)) e)

-- a holder outside of a map is there without it
pub held_before : (finished : Maps) (map : Map) (o : Option ModuleId) → is_held_outside map.id o ≡ true → is_holder_for (overlay finished map) map.id o ≡ true
    → is_holder_for finished map.id o ≡ true
held_before finished map None out e = refl
held_before finished map (Some h) out e = go (map_id.ghosts.eq h.map map.id) out e
  where
    go : (b : Bool) → not b ≡ true
        → (same_crate h.map.krate map.id.krate && is_some
        (option_and_then (λ (p : Placed). module_at p.map h.index) (cond b (Some (placed_in finished map)) (finished h.map)))) ≡ true
        → is_holder_for finished map.id (Some h) ≡ true
    go true f g = absurd (true≢false (sym f))
    go false f g = g

-- a map that names only what is there is complete
pub complete : (finished : Maps) (map : Map) (local : Local) → HasNoDanglingReference (overlay finished map) map → HasNoDanglingExtern (overlay finished map)
    local → is_well_formed finished map local ≡ true
complete finished map local f begins =
    let maps = overlay finished map in
    let holder : test_of (is_missing maps) (option_map named.Module map.holder) ≡ false = holder_there maps map.id map.holder f.held in
    let d = list_any (test_crate (is_missing maps)) map.crate_data.dependencies in
    let e = list_any (test_extern (is_missing maps)) local in
    let h = test_of (is_missing maps) (option_map named.Module map.holder) in
    let p = test_of (is_missing maps) (prelude_reference map.prelude) in
    let o = any_own_crate (is_missing maps) map.id in
    let nothing_missing : any_reference (is_missing maps) map local ≡ false =
    neither (list_any (any_reference_in (is_missing maps)) map.modules) (p || (h || (e || (d || o)))) f.modules
    (neither p (h || (e || (d || o))) f.prelude
    (neither h (e || (d || o)) holder
    (neither e (d || o) begins
    (neither d o f.dependencies f.own_crate)))) in
    let held : is_holder_for finished map.id map.holder ≡ true = held_before finished map map.holder f.outside f.held in
    let leads : each_leads_to_root map ≡ true = all_lead map f.in_order (length map.modules) (omega arith) in
    rw (leads, parents_inside map f.in_order, f.variants, held, nothing_missing) refl

module _ (maps : Maps) (whole : AreWellFormed maps) where
  abbrev missing : Reference → Bool
  missing n = is_missing maps n

  is_in : (n : Reference) → is_missing maps n ≡ false → is_there maps n ≡ true
  is_in n e = go (is_there maps n) e
    where
      go : (b : Bool) → not b ≡ false → b ≡ true
      go true f = refl
      go false f = absurd (true≢false f)

  module_named : (o : Option Placed) (at : ℕ) (m : ModuleValue) → option_and_then (λ (placed : Placed). module_at placed.map at) o ≡ Some m → (placed : Placed)
      × (o ≡ Some placed) × (module_at placed.map at ≡ Some m)
  module_named None at m e = absurd cc
  module_named (Some placed) at m e = (placed, refl, e)

  -- what a module among the maps names is there
  names_of : (id : ModuleId) (m : ModuleValue) → module_in maps id ≡ Some m → any_reference_in missing m ≡ false
  names_of id m e =
      let found = module_named (maps id.map) id.index m e in
      none_at (any_reference_in missing) found.0.map.modules (whole id.map found.0 found.1).names.modules id.index m found.2

  closed_parents : (m p : ModuleId) → parent_in maps m ≡ Some p → ModuleIsThere maps p
  closed_parents m p e = go (module_in maps m) refl e
    where
      go : (o : Option ModuleValue) → module_in maps m ≡ o → parent_of o ≡ Some p → ModuleIsThere maps p
      go None s f = absurd cc
      go (Some v) s f =
          is_in (named.Module p) (ap (λ (x : Option ModuleId). test_of missing (option_map named.Module x)) (sym f) ∙
          (module_parts missing v (names_of m v s)).parent)

  closed_names : (m : ModuleId) (name : List ℕ) → AreThere maps (entry_in maps m name)
  closed_names m name = entry_fails missing (module_in maps m) (names_of m) name

  -- a variant is that of its enum
  own_variant : (vs : Variants) (id : EnumId) (name : List ℕ) (variant : EnumVariant) → are_variants_of id vs ≡ true → at_name vs name ≡ Some variant
      → variant.id.parent ≡ id
  own_variant vs id name variant all e =
      exact_enum variant.id.parent id (all_found (λ (v : EnumVariant). enum_id.ghosts.eq v.id.parent id) (is_at (slice_cmp nat_cmp name)) vs variant all e)

  closed_variants : (id : EnumId) (name : List ℕ) (variant : EnumVariant) → variant_in maps id name ≡ Some variant → variant.id.parent ≡ id
  closed_variants id name variant e = go (maps id.loc.container.map) refl e
    where
      here : (x : EnumId × Variants) (xs : List (EnumId × Variants)) (b : Bool) → is_at (enum_order.ghosts.cmp id) x.0 ≡ b → are_variants_of x.0 x.1 ≡ true
          → (option_and_then (λ (vs : Variants). at_name vs name) (lookup (is_at (enum_order.ghosts.cmp id)) xs) ≡ Some variant → variant.id.parent ≡ id)
          → option_and_then (λ (vs : Variants). at_name vs name) (cond b (Some x.1) (lookup (is_at (enum_order.ghosts.cmp id)) xs)) ≡ Some variant
          → variant.id.parent ≡ id
      here x xs true s own below g = own_variant x.1 x.0 name variant own g ∙ sym (exact_enum id x.0 (enum_ties id x.0 ∙ s))
      here x xs false s own below g = below g

      of_enum : (es : List (EnumId × Variants)) → list_all (λ (x : EnumId × Variants). are_variants_of x.0 x.1) es ≡ true
          → option_and_then (λ (vs : Variants). at_name vs name) (lookup (is_at (enum_order.ghosts.cmp id)) es) ≡ Some variant → variant.id.parent ≡ id
      of_enum [] all f = absurd cc
      of_enum (x ∷ xs) all f =
          let others = list_all (λ (y : EnumId × Variants). are_variants_of y.0 y.1) xs in
          here x xs (is_at (enum_order.ghosts.cmp id) x.0) refl (first_so (are_variants_of x.0 x.1) others all)
          (λ g. of_enum xs (second_so (are_variants_of x.0 x.1) others all) g) f

      go : (o : Option Placed) → maps id.loc.container.map ≡ o
          → option_and_then (λ (vs : Variants). at_name vs name) (option_and_then (λ (placed : Placed). variants_at placed.map id) o) ≡ Some variant
          → variant.id.parent ≡ id
      go None s f = absurd cc
      go (Some placed) s f = of_enum placed.map.enums (whole id.loc.container.map placed s).names.variants f

  listed_there : (cs : List Crate) → list_any (test_crate missing) cs ≡ false → (c : Crate) → list_any (same_crate c) cs ≡ true → MapIsThere maps (crate_map c)
  listed_there [] f c e = absurd (true≢false (sym e))
  listed_there (k ∷ ks) f c e = go (same_crate c k) refl e (λ g. listed_there ks (not_second (test_crate missing k) (list_any (test_crate missing) ks) f) c g)
    where
      go : (b : Bool) → same_crate c k ≡ b → (b || list_any (same_crate c) ks) ≡ true → (list_any (same_crate c) ks ≡ true → MapIsThere maps (crate_map c))
          → MapIsThere maps (crate_map c)
      go true s g below =
          ap (λ (x : Crate). is_some (maps (crate_map x))) (exact_crate c k s) ∙ is_in (named.Map (crate_map k))
          (not_first (test_crate missing k) (list_any (test_crate missing) ks) f)
      go false s g below = below g

  is_some_slice_get : (ms : List ModuleValue) → 0 < length ms → is_some (slice_get ms 0) ≡ true
  is_some_slice_get [] l = absurd (omega arith)
  is_some_slice_get (m ∷ ms) l = refl

  pub IsClosed-well_formed : IsClosed maps
  unfolding frames_of
  IsClosed-well_formed = record {
    roots = λ id e. root_there id (maps id) refl e;
    crates = λ m e. crate_there m (maps m.map) refl e;
    dependencies = λ id c e. depends id c (maps id) refl e;
    parents = closed_parents;
    holders = λ m. subst (All (ModuleIsThere maps)) (sym (frame_holders (maps m.map))) (held (holders_of (maps m.map)) m.map (maps m.map) refl refl);
    names = closed_names;
    variants = closed_variants;
  }
    where
      root_there : (id : MapId) (o : Option Placed) → maps id ≡ o → is_some (maps id) ≡ true → ModuleIsThere maps (root_of id)
      root_there id None s e = absurd (true≢false (sym e ∙ ap (λ (x : Option Placed). is_some x) s))
      root_there id (Some placed) s e =
          let first : 0 < length placed.map.modules = (whole id placed s).names.root in
          ap (λ (x : Option Placed). is_some (option_and_then (λ (y : Placed). module_at y.map 0) x)) s ∙ is_some_slice_get placed.map.modules first

      at_home : (k : Crate) (b : Option BlockId) → any_own_crate missing (record { krate = k; block = b }) ≡ false
          → is_some (maps (record { krate = k; block = b })) ≡ true → MapIsThere maps (crate_map k)
      at_home k None f t = t
      at_home k (Some b) f t = is_in (named.Map (crate_map k)) f

      crate_there : (m : ModuleId) (o : Option Placed) → maps m.map ≡ o → ModuleIsThere maps m → MapIsThere maps (crate_map m.map.krate)
      crate_there m None s e = absurd (true≢false (sym e ∙ ap (λ (x : Option Placed). is_some (option_and_then (λ (y : Placed). module_at y.map m.index) x)) s))
      crate_there m (Some placed) s e =
          let w = whole m.map placed s in
          at_home m.map.krate m.map.block (subst (λ (x : MapId). any_own_crate missing x ≡ false) w.own w.names.own_crate)
          (ap (λ (x : Option Placed). is_some x) s)

      depends : (id : MapId) (c : Crate) (o : Option Placed) → maps id ≡ o → is_dependency (map_in maps id) c ≡ true → MapIsThere maps (crate_map c)
      depends id c None s e = absurd (true≢false (sym e ∙ ap (λ (x : Option Placed). is_dependency (option_map (λ (y : Placed). y.map) x) c) s))
      depends id c (Some placed) s e =
          listed_there placed.map.crate_data.dependencies (whole id placed s).names.dependencies c
          (sym (ap (λ (x : Option Placed). is_dependency (option_map (λ (y : Placed). y.map) x) c) s) ∙ e)

      first_there : (k : ModuleId) → is_some (module_in maps k) ≡ true → is_some (maps k.map) ≡ true
      first_there k e = go (maps k.map) e
        where
          go : (o : Option Placed) → is_some (option_and_then (λ (p : Placed). module_at p.map k.index) o) ≡ true → is_some o ≡ true
          go None f = absurd (true≢false (sym f))
          go (Some p) f = refl

      held : (hs : List ModuleId) (id : MapId) (o : Option Placed) → maps id ≡ o → holders_of o ≡ hs → All (ModuleIsThere maps) hs
      held [] id o s e = All-nil (ModuleIsThere maps)
      held (h ∷ hs) id None s e = absurd cc
      held (h ∷ hs) id (Some placed) s e =
          let w = whole id placed s in
          go placed.map.holder (subst (λ (x : MapId). is_holder_for maps x placed.map.holder ≡ true) w.own w.names.held) (sym w.holders ∙ e)
          (λ k f. held hs k.map (maps k.map) refl f)
        where
          go : (o : Option ModuleId) → is_holder_for maps id o ≡ true → holders_under maps id o ≡ h ∷ hs
              → ((k : ModuleId) → holders_of (maps k.map) ≡ hs → All (ModuleIsThere maps) hs) → All (ModuleIsThere maps) (h ∷ hs)
          go None f g rest = absurd cc
          go (Some k) f g rest =
              let inside : is_some (module_in maps k) ≡ true = second_so (same_crate k.map.krate id.krate) (is_some (module_in maps k)) f in
              let near : same_crate k.map.krate id.krate ≡ true = first_so (same_crate k.map.krate id.krate) (is_some (module_in maps k)) f in
              let under : k ∷ holders_of (maps k.map) ≡ h ∷ hs = (λ i. cond (sym near i && sym (first_there k inside) i) (k ∷ holders_of (maps k.map)) []) ∙ g
              in
              let first : k ≡ h = cc in
              let others : holders_of (maps k.map) ≡ hs = cc in
              All-cons (ModuleIsThere maps) h hs (subst (ModuleIsThere maps) first inside) (rest k others)
