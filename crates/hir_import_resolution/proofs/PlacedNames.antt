-- Visibilities of what names stand for.
use Rattle.std.proofs.Common.{◌≡◌, ap, sym, subst, refl, ℕ, Bool, true, false, List, [], ◌∷◌, Option, None, Some, cond, is_some, unwrap_or}
use mathlib.Core.Bool.{true≢false}
use Rattle.std.specs.BTreeMap.{is_at}
use Rattle.std.specs.Cmp.Lexicographic.{slice_cmp}
use Rattle.std.specs.List.{AllByRecursion}
use Rattle.std.specs.Map.{lookup}
use Rattle.std.specs.Option.{option_map}
use Rattle.std.specs.Ordering.{nat_cmp}
use Rattle.hir_nameres.specs.HirIds.declared.ids.TraitId.{TraitId}
use Rattle.hir_nameres.specs.HirPerNs.PerNs.{Item}
use Rattle.hir_nameres.specs.HirPerNs.declared.item_in_ns.ItemInNs.{ItemInNs}
use Rattle.hir_nameres.specs.HirPerNs.declared.item_in_ns.ItemInNs.TheVariants as in_ns
use Rattle.hir_nameres.specs.HirPerNs.declared.visibility.Visibility.{Visibility}
use Rattle.hir_nameres.specs.HirScope.Scope.{ScopeValue}
use Rattle.hir_def_map_rules.specs.State.{Map, ModuleValue}
use Rattle.hir_glob_imports.specs.Keys.{is_unnamed}
use Rattle.hir_glob_imports.specs.declared.edge.Bound.{Bound}
use Rattle.hir_glob_imports.specs.declared.edge.Key.{Key}
use Rattle.hir_glob_imports.specs.declared.edge.Key.TheVariants.{Types, Values, Macros, Unnamed}
use Rattle.hir_import_growth.specs.ViewLaws.{bound_inside}
use Rattle.hir_import_rules.specs.Lasting.{IsPlaced}
use Rattle.hir_import_rules.specs.Names.{bound_by, bound_trait, trait_vis}

-- what all entries have the one that is found has
found_has : {X : Type 0} (P : X → Type 0) (test : List ℕ → Bool) (es : List (List ℕ × X)) (x : X) → AllByRecursion (λ (e : List ℕ × X). P e.1) es
    → lookup test es ≡ Some x → P x
found_has P test [] x all is = absurd (true≢false (sym (ap is_some is)))
found_has {X} P test (e ∷ es) x all is = go (test e.0) is (λ f. found_has P test es x all.1 f)
  where
    inside : X → Option X → X
    inside d None = d
    inside d (Some y) = y

    go : (b : Bool) → cond b (Some e.1) (lookup test es) ≡ Some x → (lookup test es ≡ Some x → P x) → P x
    go true f later = subst P (ap (inside x) f) all.0
    go false f later = later f

module _ (map : Map) where
  abbrev ArePlaced : {D I : Type 0} → List (List ℕ × Item D I) → Type 0
  ArePlaced items = AllByRecursion (λ e. IsPlaced map e.1.vis) items

  -- what a name stands for in one namespace
  named : {D I : Type 0} (kind : D → ItemInNs) (items : List (List ℕ × Item D I)) (name : List ℕ) → ArePlaced items → (b : Bound)
      → bound_by kind (lookup (is_at (slice_cmp nat_cmp name)) items) ≡ Some b → IsPlaced map b.vis
  named {D} {I} kind items name all b is = go (lookup (is_at (slice_cmp nat_cmp name)) items) refl is
    where
      inside : Bound → Option Bound → Bound
      inside d None = d
      inside d (Some y) = y

      go : (o : Option (Item D I)) → lookup (is_at (slice_cmp nat_cmp name)) items ≡ o → bound_by kind o ≡ Some b → IsPlaced map b.vis
      go None found bound = absurd (true≢false (sym (ap is_some bound)))
      go (Some item) found bound =
          subst (λ (c : Bound). IsPlaced map c.vis) (ap (inside b) bound)
          (found_has (λ (i : Item D I). IsPlaced map i.vis) (is_at (slice_cmp nat_cmp name)) items item all found)

  same : (m : ModuleValue) (scope : ScopeValue) → Some scope ≡ Some m.scope → scope ≡ m.scope
  same m scope there = ap (λ (o : Option ScopeValue). unwrap_or o scope) there

  pub placed_in : (m : Option ModuleValue) (scope : ScopeValue) → Some scope ≡ option_map (λ (m : ModuleValue). m.scope) m → ArePlaced scope.types
      → ArePlaced scope.values → ArePlaced scope.macros → (key : Key) (b : Bound) → is_unnamed key ≡ false → bound_inside key m ≡ Some b
      → IsPlaced map b.vis
  placed_in None scope there t v c key b name is = absurd (true≢false (ap is_some there))
  placed_in (Some m) scope there t v c (Types name) b n is =
      named in_ns.Types m.scope.types name (subst (λ (s : ScopeValue). ArePlaced s.types) (same m scope there) t) b is
  placed_in (Some m) scope there t v c (Values name) b n is =
      named in_ns.Values m.scope.values name (subst (λ (s : ScopeValue). ArePlaced s.values) (same m scope there) v) b is
  placed_in (Some m) scope there t v c (Macros name) b n is =
      named in_ns.Macros m.scope.macros name (subst (λ (s : ScopeValue). ArePlaced s.macros) (same m scope there) c) b is
  placed_in (Some m) scope there t v c (Unnamed id) b n is = absurd (true≢false n)

  pub none_placed : (m : Option ModuleValue) → None ≡ option_map (λ (m : ModuleValue). m.scope) m → (key : Key) (b : Bound) → bound_inside key m ≡ Some b
      → IsPlaced map b.vis
  none_placed None there (Types name) b is = absurd (true≢false (sym (ap is_some is)))
  none_placed None there (Values name) b is = absurd (true≢false (sym (ap is_some is)))
  none_placed None there (Macros name) b is = absurd (true≢false (sym (ap is_some is)))
  none_placed None there (Unnamed id) b is = absurd (true≢false (sym (ap is_some is)))
  none_placed (Some m) there key b is = absurd (true≢false (sym (ap is_some there)))

  -- a trait without a name, as a key
  trait_placed : (m : Option ModuleValue) (id : TraitId) (b : Bound) → ((vis : Visibility) → trait_vis m id ≡ Some vis → IsPlaced map vis)
      → bound_inside (Unnamed id) m ≡ Some b → IsPlaced map b.vis
  trait_placed m id b each is = go (trait_vis m id) refl is
    where
      inside : Bound → Option Bound → Bound
      inside d None = d
      inside d (Some y) = y

      go : (o : Option Visibility) → trait_vis m id ≡ o → bound_trait id o ≡ Some b → IsPlaced map b.vis
      go None found bound = absurd (true≢false (sym (ap is_some bound)))
      go (Some vis) found bound = subst (λ (c : Bound). IsPlaced map c.vis) (ap (inside b) bound) (each vis found)

  pub all_placed : (m : Option ModuleValue) (key : Key) (b : Bound) → (is_unnamed key ≡ false → bound_inside key m ≡ Some b → IsPlaced map b.vis)
      → ((id : TraitId) (vis : Visibility) → trait_vis m id ≡ Some vis → IsPlaced map vis) → bound_inside key m ≡ Some b → IsPlaced map b.vis
  all_placed m (Types name) b named traits is = named refl is
  all_placed m (Values name) b named traits is = named refl is
  all_placed m (Macros name) b named traits is = named refl is
  all_placed m (Unnamed id) b named traits is = trait_placed m id b (traits id) is
