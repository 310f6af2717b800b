-- Globs see the same of a map that grows around them.
use Rattle.std.proofs.Common.{◌≡◌, ◌∙◌, ap, refl, ℕ, ◌<◌, Bool, true, false, ◌==◌, List, ◌∷◌, length, ◌≤◌, Option, None, Some, cond, arith}
use Rattle.std.proofs.lemmas.Bool.Decides.{nat_tests}
use Rattle.std.proofs.lemmas.Grind.{common_steps}
use Rattle.std.specs.List.{list_any}
use Rattle.std.specs.Prelude.{nat_lt, unwrap_or, if◌then◌else◌}
use Rattle.hir_nameres.specs.HirIds.declared.ids.ModuleId.{ModuleId}
use Rattle.hir_nameres.specs.HirScope.Globs.{GlobNames}
use Rattle.hir_nameres.specs.HirPerNs.ModuleTree.{same_crate, same_module}
use Rattle.hir_nameres.specs.HirPerNs.Visibility.{both_in, greater_of, is_visible, lesser_of}
use Rattle.hir_nameres.specs.HirPerNs.declared.visibility.Visibility.{Visibility}
use Rattle.hir_nameres.specs.HirPerNs.declared.visibility.Visibility.TheVariants.{Module, PubCrate, Public}
use Rattle.hir_nameres.specs.HirDefMapRules.Ancestors.{above_in, holders_in}
use Rattle.hir_nameres.specs.HirDefMapRules.Inner.OverlayLaws.{same_id}
use Rattle.hir_nameres.specs.HirDefMapRules.Overlay.{Maps, entry_in, module_in, overlay}
use Rattle.hir_nameres.specs.HirDefMapRules.State.{Map, numbered}
use Rattle.hir_def_map_laws.specs.ReadLaw.{Grows}
use Rattle.hir_glob_imports.specs.Keys.{is_unnamed}
use Rattle.hir_glob_imports.specs.Moves.{brought_vis, is_as_seen, raise_of, raise_to, same_def, seen_by, shown, update_of, update_of_brought}
use Rattle.hir_glob_imports.specs.View.{View}
use Rattle.hir_glob_imports.specs.declared.edge.Bound.{Bound}
use Rattle.hir_glob_imports.specs.declared.edge.Brought.{Brought}
use Rattle.hir_glob_imports.specs.declared.edge.Edge.{Edge}
use Rattle.hir_glob_imports.specs.declared.edge.Key.{Key}
use Rattle.hir_glob_imports.specs.declared.edge.Target.{Target}
use Rattle.hir_glob_imports.specs.declared.edge.Update.{Update}
use Rattle.hir_glob_imports.specs.declared.edge.Target.TheVariants as targets
use Rattle.hir_glob_imports.specs.declared.edge.Update.TheVariants.{Nothing, Follow}
use Rattle.hir_import_rules.specs.Directives.{open_items}
use Rattle.hir_import_rules.specs.Names.{bound_at, is_foreign, open_vis, trait_vis, variant_items, view_of}
use Rattle.hir_import_rules.specs.Lasting.{HasVariants, IsOrdered, IsPlaced, beside}
use Rattle.hir_import_rules.specs.Visibilities.{greater_in, lesser_in, sees_in}
use Rattle.hir_import_growth.proofs.GrownPlaces.{same_greater, same_lesser, same_variant, same_visible}

-- ---- what is to be done along an edge, in two views that differ in no visibility that matters

module _ (v w : View) (j : ℕ) (e : Edge) (b c : Bound) (greater : w.greater c.vis (brought_vis w e b) ≡ v.greater c.vis (brought_vis v e b)) where
  same_raise : raise_of w e b c ≡ raise_of v e b c
  same_raise = ap (λ (o : Option Visibility). if same_def c.def b.def then raise_to c.vis o else Nothing) greater

  same_brought : (last : Brought) → update_of_brought w j e b c (Some last) ≡ update_of_brought v j e b c (Some last)
  same_brought last = ap (λ (u : Update). if last.edge == j then (if is_as_seen e b last then Nothing else Follow b) else u) same_raise

-- what stands at a key may only be raised where it has no name, or another edge brought it
pub same_update : (v w : View) (j : ℕ) (e : Edge) (key : Key) (by : Option Brought) (shows stands : Option Bound)
    → ((b c : Bound) → shows ≡ Some b → stands ≡ Some c → is_unnamed key ≡ true → w.greater c.vis (brought_vis w e b) ≡ v.greater c.vis (brought_vis v e b))
    → ((b c : Bound) (last : Brought) → shows ≡ Some b → stands ≡ Some c → by ≡ Some last → w.greater c.vis (brought_vis w e b)
    ≡ v.greater c.vis (brought_vis v e b))
    → update_of w j e key shows stands by ≡ update_of v j e key shows stands by
same_update v w j e key by None stands unnamed brought = refl
same_update v w j e key by (Some b) None unnamed brought = refl
same_update v w j e key by (Some b) (Some c) unnamed brought = on_name (is_unnamed key) refl
  where
    on_brought : (o : Option Brought) → by ≡ o → update_of_brought w j e b c o ≡ update_of_brought v j e b c o
    on_brought None is = refl
    on_brought (Some last) is = same_brought v w j e b c (brought b c last refl refl is) last

    on_name : (t : Bool) → is_unnamed key ≡ t → (if t then raise_of w e b c else update_of_brought w j e b c by)
        ≡ (if t then raise_of v e b c else update_of_brought v j e b c by)
    on_name true is = same_raise v w j e b c (unnamed b c refl refl is)
    on_name false is = on_brought by refl

-- ---- the lesser of two visibilities names what one of them names

pub chosen : (map : Map) (own : Visibility) (test : Bool) (x y : Option Visibility) → IsPlaced map (unwrap_or x own) → IsPlaced map (unwrap_or y own)
    → IsPlaced map (unwrap_or (cond test x y) own)
chosen map own true x y first second = first
chosen map own false x y first second = second

pub lesser_placed : (above : ModuleId → List ModuleId) (map : Map) (a b : Visibility) → IsPlaced map a → IsPlaced map b
    → IsPlaced map (unwrap_or (lesser_of above map.id a b) a)
lesser_placed above map Public b first second = second
lesser_placed above map (PubCrate c) Public first second = tt
lesser_placed above map (PubCrate c) (PubCrate d) first second = chosen map (PubCrate c) (same_crate c d) (Some (PubCrate c)) None tt tt
lesser_placed above map (PubCrate c) (Module m e) first second = chosen map (PubCrate c) (same_crate m.map.krate c) (Some (Module m e)) None second tt
lesser_placed above map (Module m e) Public first second = first
lesser_placed above map (Module m e) (PubCrate c) first second = chosen map (Module m e) (same_crate m.map.krate c) (Some (Module m e)) None first first
lesser_placed above map (Module m d) (Module n e) first second =
    chosen map (Module m d) (same_module m n) _ _ first
    (chosen map (Module m d) (both_in map.id m n) _ None
    (chosen map (Module m d) (list_any (same_module n) (m ∷ above m)) _ _ first
    (chosen map (Module m d) (list_any (same_module m) (n ∷ above n)) (Some (Module n e)) None second first)) first)

-- ---- a map that grows

module _ (finished : Maps) (old new : Map) (names new_names : GlobNames) (ordered : IsOrdered finished old) (grows : Grows old new) where
  abbrev v : View
  v = view_of (beside finished old names)

  abbrev w : View
  w = view_of (beside finished new new_names)

  below : (at n : ℕ) → nat_lt at n ≡ true → at < n
  below at n e = grind (arith, common_steps, nat_tests)

  is_below : (at n : ℕ) → at < n → nat_lt at n ≡ true
  is_below at n e = grind (arith, common_steps, nat_tests)

  pub has_below : (at : ℕ) → at < length old.modules → v.has at ≡ true
  has_below at low = is_below at (length old.modules) low

  pub has_still : length old.modules ≤ length new.modules → (at : ℕ) → v.has at ≡ true → w.has at ≡ true
  has_still long at is = let low : at < length old.modules = below at (length old.modules) is in is_below at (length new.modules) (omega arith)

  pub sees_still : (at : ℕ) (vis : Visibility) → v.has at ≡ true → w.sees at vis ≡ v.sees at vis
  unfolding sees_in
  sees_still at vis is =
      (λ i. is_visible (above_in (overlay finished new)) (holders_in (overlay finished new)) vis (numbered (grows.id i) at))
      ∙ same_visible finished old new grows ordered (numbered old.id at) (same_id old.id) (below at (length old.modules) is) vis

  -- what a target shows, where it does so among the modules of the map
  pub source_still : (of : Target) (key : Key) → HasVariants old of → ((at : ℕ) → of ≡ targets.Own at → w.bound (targets.Own at) key
      ≡ v.bound (targets.Own at) key)
      → w.bound of key ≡ v.bound of key
  source_still (targets.Own at) key has own = own at refl
  source_still (targets.Module m) key has own = λ i.
      bound_at (λ name. open_items (is_foreign (grows.id i) m) (entry_in finished m name))
      (λ id. open_vis (is_foreign (grows.id i) m) (trait_vis (module_in finished m) id)) key
  source_still (targets.Enum id) key has own =
      λ i. bound_at (λ name. variant_items (same_variant finished old new grows ordered id name has i)) (λ tr. None) key

  -- what an edge shows at a key
  pub shown_along : (e : Edge) (key : Key) → v.has e.importer ≡ true → w.bound e.source key ≡ v.bound e.source key → shown w e key ≡ shown v e key
  shown_along e key has same = λ i. seen_by (λ vis. sees_still e.importer vis has i) (same i)

  greater_still : (a b : Visibility) → IsPlaced old a → IsPlaced old b → w.greater a b ≡ v.greater a b
  unfolding greater_in
  greater_still a b first second =
      (λ i. greater_of (above_in (overlay finished new)) (grows.id i) a b) ∙ same_greater finished old new grows ordered a b first second

  lesser_still : (a b : Visibility) → IsPlaced old a → IsPlaced old b → w.lesser a b ≡ v.lesser a b
  unfolding lesser_in
  lesser_still a b first second =
      ap (λ (o : Option Visibility). unwrap_or o a)
      ((λ i. lesser_of (above_in (overlay finished new)) (grows.id i) a b) ∙ same_lesser finished old new grows ordered a b first second)

  lesser_there : (a b : Visibility) → IsPlaced old a → IsPlaced old b → IsPlaced old (v.lesser a b)
  unfolding lesser_in
  lesser_there a b first second = lesser_placed (above_in (overlay finished old)) old a b first second

  -- the greater of a visibility and one that an edge brings
  pub greater_placed_still : (e : Edge) (b c : Bound) → IsPlaced old e.vis → IsPlaced old b.vis → IsPlaced old c.vis
      → w.greater c.vis (brought_vis w e b) ≡ v.greater c.vis (brought_vis v e b)
  greater_placed_still e b c edge source stands =
      ap (w.greater c.vis) (lesser_still e.vis b.vis edge source) ∙ greater_still c.vis (v.lesser e.vis b.vis) stands (lesser_there e.vis b.vis edge source)
