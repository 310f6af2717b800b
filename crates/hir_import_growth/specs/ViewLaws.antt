-- What globs read of maps that differ in their scopes.
use Rattle.std.proofs.Common.{◌≡◌, ◌≢◌, ◌∙◌, ap, sym, subst, refl, ℕ, zero, suc, Bool, true, false, List, [], ◌∷◌, length, nat_lt, map as list_map, Option}
use Rattle.std.proofs.Common.{None, Some, cond}
use Rattle.std.specs.Option.{option_and_then, option_map, unwrap_or}
use Rattle.std.specs.Prelude.{slice_get}
use mathlib.Core.Bool.{true≢false}
use Rattle.hir_nameres.specs.HirIds.contracts.ids.MapIdPartialEq.TheImpl as map_id
use Rattle.hir_nameres.specs.HirIds.declared.ids.EnumId.{EnumId}
use Rattle.hir_nameres.specs.HirIds.declared.ids.MapId.{MapId}
use Rattle.hir_nameres.specs.HirScope.Globs.{GlobNames}
use Rattle.hir_nameres.specs.HirScope.Scope.{ScopeValue}
use Rattle.hir_nameres.specs.HirPerNs.Visibility.{greater_of, is_visible, lesser_of}
use Rattle.hir_nameres.specs.HirPerNs.declared.visibility.Visibility.{Visibility}
use Rattle.hir_nameres.specs.HirDefMapRules.Ancestors.{Frame, above_by, above_in, frame_of, frames_of, holders_by, holders_in}
use Rattle.hir_nameres.specs.HirDefMapRules.Overlay.{Maps, Placed, entry_in, holders_or, holders_under, module_in, overlay, placed_in, variants_in}
use Rattle.hir_nameres.specs.HirDefMapRules.Scoping.Segments.{variant_in}
use Rattle.hir_nameres.specs.HirDefMapRules.State.{Map, ModuleValue, Variants, at_name, changed_at, entry_of}
use Rattle.hir_nameres.specs.HirDefMapRules.State.{module_at, numbered, variants_at, with_module_scope}
use Rattle.hir_nameres.specs.HirDefMapRules.State.{with_scope}
use Rattle.hir_def_map_rules.proofs.Grown.{frame_of-changed}
use Rattle.hir_def_map_laws.specs.ReadLaw.{DiffersInScopes}
use Rattle.hir_glob_imports.specs.Keys.{is_slot, same_slot, slot_at}
use Rattle.hir_glob_imports.specs.View.{ChangesOnly, bound_in}
use Rattle.hir_glob_imports.specs.declared.edge.Bound.{Bound}
use Rattle.hir_glob_imports.specs.declared.edge.Key.{Key}
use Rattle.hir_glob_imports.specs.declared.edge.Target.{Target}
use Rattle.hir_glob_imports.specs.declared.edge.Key.TheVariants.{Types, Values, Macros, Unnamed}
use Rattle.hir_glob_imports.specs.declared.edge.Target.TheVariants as targets
use Rattle.hir_glob_imports.proofs.Settling.{same_itself}
use Rattle.hir_import_rules.specs.Directives.{open_items}
use Rattle.hir_import_rules.specs.Names.{ScopesValue, bound_at, bound_of, is_foreign, open_vis, trait_vis, variant_items, view_of}
use Rattle.hir_import_rules.specs.Visibilities.{greater_in, lesser_in, sees_in}
use Rattle.hir_import_rules.specs.ScopeLaws.{bound_scope}

-- ---- what stands at a key of a module

abbrev pub bound_inside : Key → Option ModuleValue → Option Bound
bound_inside key o = bound_at (entry_of o) (trait_vis o) key

pub inside_own : (n : ScopesValue) (at : ℕ) (key : Key) → bound_of n (targets.Own at) key ≡ bound_inside key (module_at n.map at)
inside_own n at (Types name) = refl
inside_own n at (Values name) = refl
inside_own n at (Macros name) = refl
inside_own n at (Unnamed id) = refl

pub inside_scope : (m : ModuleValue) (key : Key) → bound_inside key (Some m) ≡ bound_scope m.scope key
inside_scope m (Types name) = refl
inside_scope m (Values name) = refl
inside_scope m (Macros name) = refl
inside_scope m (Unnamed id) = refl

-- ---- what lies above modules

map_cond : (b : Bool) (p : Placed) (o : Option Placed) → option_map frame_of (cond b (Some p) o) ≡ cond b (Some (frame_of p)) (option_map frame_of o)
map_cond true p o = refl
map_cond false p o = refl

variants_cond : (id : EnumId) (b : Bool) (p : Placed) (o : Option Placed)
    → option_and_then (λ (placed : Placed). variants_at placed.map id) (cond b (Some p) o) ≡ cond b (variants_at p.map id)
    (option_and_then (λ (placed : Placed). variants_at placed.map id) o)
variants_cond id true p o = refl
variants_cond id false p o = refl

length_of_map : {A B : Type 0} (f : A → B) (xs : List A) → length (list_map f xs) ≡ length xs
length_of_map f [] = refl
length_of_map f (x ∷ xs) = ap suc (length_of_map f xs)

module _ (finished : Maps) (one other : Map) (differs : DiffersInScopes one other) where
  frame_stays : frame_of (placed_in finished other) ≡ frame_of (placed_in finished one)
  frame_stays = λ i. record {
    id = differs.id i;
    parents = differs.parents i;
    holders = holders_or (finished (differs.id i)) (holders_under finished (differs.id i) (differs.holder i));
  }

  frame_at : (id : MapId) → option_map frame_of (overlay finished other id) ≡ option_map frame_of (overlay finished one id)
  frame_at id =
      map_cond (map_id.ghosts.eq id other.id) (placed_in finished other) (finished id)
      ∙ (λ i. cond (map_id.ghosts.eq id (differs.id i)) (Some (frame_stays i)) (option_map frame_of (finished id)))
      ∙ sym (map_cond (map_id.ghosts.eq id one.id) (placed_in finished one) (finished id))

  pub frames_stay : frames_of (overlay finished other) ≡ frames_of (overlay finished one)
  unfolding frames_of
  frames_stay = λ i. λ id. frame_at id i

  pub above_stay : above_in (overlay finished other) ≡ above_in (overlay finished one)
  unfolding above_in
  above_stay = λ i. λ m. above_by (frames_stay i) m

  pub holders_stay : holders_in (overlay finished other) ≡ holders_in (overlay finished one)
  holders_stay = λ i. λ m. holders_by (frames_stay i) m

  pub sees_stays : (at : ℕ) (vis : Visibility) → sees_in finished other (numbered other.id at) vis ≡ sees_in finished one (numbered one.id at) vis
  unfolding sees_in
  sees_stays at vis = λ i. is_visible (above_stay i) (holders_stay i) vis (numbered (differs.id i) at)

  pub lesser_stays : (a b : Visibility) → lesser_in finished other a b ≡ lesser_in finished one a b
  unfolding lesser_in
  lesser_stays a b = λ i. lesser_of (above_stay i) (differs.id i) a b

  pub greater_stays : (a b : Visibility) → greater_in finished other a b ≡ greater_in finished one a b
  unfolding greater_in
  greater_stays a b = λ i. greater_of (above_stay i) (differs.id i) a b

  -- ---- what isn't bound in the map

  pub length_stays : length other.modules ≡ length one.modules
  length_stays =
      sym (length_of_map (λ (m : ModuleValue). m.parent) other.modules) ∙ ap length differs.parents ∙ length_of_map (λ (m : ModuleValue). m.parent) one.modules

  variants_stay : (id : EnumId) → variants_in (overlay finished other) id ≡ variants_in (overlay finished one) id
  variants_stay id =
      variants_cond id (map_id.ghosts.eq id.loc.container.map other.id) (placed_in finished other) (finished id.loc.container.map)
      ∙ (λ i. cond (map_id.ghosts.eq id.loc.container.map (differs.id i)) (differs.enums id i) (option_and_then (λ (placed : Placed). variants_at placed.map id)
      (finished id.loc.container.map)))
      ∙ sym (variants_cond id (map_id.ghosts.eq id.loc.container.map one.id) (placed_in finished one) (finished id.loc.container.map))

  variant_stays : (id : EnumId) (name : List ℕ) → variant_in (overlay finished other) id name ≡ variant_in (overlay finished one) id name
  variant_stays id name = ap (λ (o : Option Variants). option_and_then (λ (vs : Variants). at_name vs name) o) (variants_stay id)

  -- what stands at a key of a target is the same where it's the same in the modules of the map
  pub bound_stays : (globs globs' : GlobNames) (of : Target) (key : Key)
      → ((at : ℕ) → of ≡ targets.Own at → bound_inside key (module_at other at) ≡ bound_inside key (module_at one at))
      → bound_of (record { finished = finished; map = other; globs = globs' }) of key ≡ bound_of (record { finished = finished; map = one; globs = globs }) of
      key
  bound_stays globs globs' (targets.Own at) key same = same at refl
  bound_stays globs globs' (targets.Module m) key same = λ i.
      bound_at (λ name. open_items (is_foreign (differs.id i) m) (entry_in finished m name))
      (λ id. open_vis (is_foreign (differs.id i) m) (trait_vis (module_in finished m) id)) key
  bound_stays globs globs' (targets.Enum e) key same = λ i. bound_at (λ name. variant_items (variant_stays e name i)) (λ id. None) key

-- ---- views that differ in a slot

-- two changes of one scope
module _ (n : ScopesValue) (home : ℕ) (f g : ScopeValue → ScopeValue) where
  abbrev pub once : GlobNames → (ScopeValue → ScopeValue) → ScopesValue
  once globs change = record { finished = n.finished; map = with_scope n.map home change; globs = globs }

  parents-changed : (change : ScopeValue → ScopeValue)
      → list_map (λ (m : ModuleValue). m.parent) (with_scope n.map home change).modules ≡ list_map (λ (m : ModuleValue). m.parent) n.map.modules
  parents-changed change = ap (λ (frame : Frame). frame.parents) (frame_of-changed n.map [] home (with_module_scope change) (λ m. refl))

  pub differ : DiffersInScopes (with_scope n.map home f) (with_scope n.map home g)
  differ = record { id = refl; holder = refl; crate_data = refl; prelude = refl; parents = parents-changed g ∙ sym (parents-changed f); enums = λ id. refl }

  module_same : (key : Key) (xs : List ModuleValue) (at k : ℕ) → (k ≡ at → (s : ScopeValue) → bound_scope (g s) key ≡ bound_scope (f s) key)
      → bound_inside key (slice_get (changed_at xs at (with_module_scope g)) k) ≡ bound_inside key (slice_get (changed_at xs at (with_module_scope f)) k)
  module_same key [] at k same = refl
  module_same key (m ∷ xs) zero zero same = same refl m.scope
  module_same key (m ∷ xs) zero (suc k) same = refl
  module_same key (m ∷ xs) (suc at) zero same = refl
  module_same key (m ∷ xs) (suc at) (suc k) same = module_same key xs at k (λ e. same (ap suc e))

  -- nothing but what stands in one slot differs
  pub differ_in_slot : (globs globs' : GlobNames) (key : Key) → ((s : ScopeValue) (other : Key) → other ≢ key → bound_scope (g s) other
      ≡ bound_scope (f s) other)
      → ChangesOnly (slot_at home key) (view_of (once globs f)) (view_of (once globs' g))
  differ_in_slot globs globs' key same = record {
    bound = λ of other away. bound_stays n.finished (with_scope n.map home f) (with_scope n.map home g) differ globs globs' of other (here of other away);
    has = λ at. ap (nat_lt at) (length_stays n.finished (with_scope n.map home f) (with_scope n.map home g) differ);
    sees = λ at vis. sees_stays n.finished (with_scope n.map home f) (with_scope n.map home g) differ at vis;
    lesser = λ a b. ap (λ (o : Option Visibility). unwrap_or o a) (lesser_stays n.finished (with_scope n.map home f) (with_scope n.map home g) differ a b);
    greater = λ a b. greater_stays n.finished (with_scope n.map home f) (with_scope n.map home g) differ a b;
  }
    where
      -- a key of the module that isn't that of the slot is another
      apart : (other : Key) → same_slot (slot_at home key) (slot_at home other) ≡ false → other ≢ key
      apart other away e =
          true≢false (sym (same_itself (slot_at home key)) ∙ ap (λ (k : Key). same_slot (slot_at home key) (slot_at home k)) (sym e) ∙ away)

      here : (of : Target) (other : Key) → is_slot (slot_at home key) of other ≡ false → (at : ℕ) → of ≡ targets.Own at
          → bound_inside other (module_at (with_scope n.map home g) at) ≡ bound_inside other (module_at (with_scope n.map home f) at)
      here of other away at is = module_same other n.map.modules home at (λ e s. same s other (apart other
          (ap (λ (k : ℕ). same_slot (slot_at home key) (slot_at k other)) (sym e) ∙ ap (λ (t : Target). is_slot (slot_at home key) t other) (sym is) ∙ away)))

  -- nothing differs
  pub differ_nowhere : (globs globs' : GlobNames) → ((s : ScopeValue) (key : Key) → bound_scope (g s) key ≡ bound_scope (f s) key)
      → view_of (once globs' g) ≡ view_of (once globs f)
  differ_nowhere globs globs' same = λ i. record {
    has = λ at. nat_lt at (length_stays n.finished (with_scope n.map home f) (with_scope n.map home g) differ i);
    bound = λ of key. bound_stays n.finished (with_scope n.map home f) (with_scope n.map home g) differ globs globs' of key
        (λ at is. module_same key n.map.modules home at (λ e s. same s key)) i;
    sees = λ at vis. sees_stays n.finished (with_scope n.map home f) (with_scope n.map home g) differ at vis i;
    lesser = λ a b. unwrap_or (lesser_stays n.finished (with_scope n.map home f) (with_scope n.map home g) differ a b i) a;
    greater = λ a b. greater_stays n.finished (with_scope n.map home f) (with_scope n.map home g) differ a b i;
  }

-- a change that changes nothing
unchanged : (xs : List ModuleValue) (at : ℕ) → changed_at xs at (with_module_scope (λ (s : ScopeValue). s)) ≡ xs
unchanged [] at = refl
unchanged (m ∷ xs) zero = refl
unchanged (m ∷ xs) (suc at) = ap (λ (ms : List ModuleValue). m ∷ ms) (unchanged xs at)

pub never : (n : ScopesValue) (home : ℕ) → record { finished = n.finished; map = with_scope n.map home (λ (s : ScopeValue). s); globs = n.globs } ≡ n
never n home = ap (λ (ms : List ModuleValue). record n { map = record n.map { modules = ms } }) (unchanged n.map.modules home)

-- a change of one scope
module _ (n : ScopesValue) (home : ℕ) (change : ScopeValue → ScopeValue) (globs : GlobNames) where
  abbrev pub changed_once : ScopesValue
  changed_once = record { finished = n.finished; map = with_scope n.map home change; globs = globs }

  pub changes_in_slot : (key : Key) → ((s : ScopeValue) (other : Key) → other ≢ key → bound_scope (change s) other ≡ bound_scope s other)
      → ChangesOnly (slot_at home key) (view_of n) (view_of changed_once)
  changes_in_slot key same =
      subst (λ (m : ScopesValue). ChangesOnly (slot_at home key) (view_of m) (view_of changed_once)) (never n home)
      (differ_in_slot n home (λ s. s) change n.globs globs key same)

  pub changes_nowhere : ((s : ScopeValue) (key : Key) → bound_scope (change s) key ≡ bound_scope s key) → view_of changed_once ≡ view_of n
  changes_nowhere same = differ_nowhere n home (λ s. s) change n.globs globs same ∙ ap view_of (never n home)

  -- what stands at a key of the module that is changed
  pub changed_here : (m : ModuleValue) → module_at n.map home ≡ Some m → (key : Key) → bound_in (view_of changed_once) (slot_at home key)
      ≡ bound_scope (change m.scope) key
  changed_here m there key = ap (bound_inside key) (found n.map.modules home there)
    where
      found : (xs : List ModuleValue) (at : ℕ) → slice_get xs at ≡ Some m → slice_get (changed_at xs at (with_module_scope change)) at
          ≡ Some (with_module_scope change m)
      found [] at e = absurd cc
      found (x ∷ xs) zero e = let same : x ≡ m = cc in ap (λ (y : ModuleValue). Some (with_module_scope change y)) same
      found (x ∷ xs) (suc at) e = found xs at e
