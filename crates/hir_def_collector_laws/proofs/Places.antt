-- Which names globs brought, once one comes or goes.
use Rattle.std.proofs.Common.{◌≡◌, ◌≢◌, ◌∙◌, Bool, true, false, ◌||◌, cond, List, [], ◌∷◌, refl, sym, ap, true≢false}
use Rattle.std.specs.BTreeSet.{insert_key}
use Rattle.std.specs.Cmp.Lexicographic.{slice_cmp}
use Rattle.std.specs.Cmp.{unsigned_Decides, first_so, second_so}
use Rattle.std.specs.Ordering.{is_eq, match_ordering, nat_cmp, ordering_then}
use Rattle.std.specs.declared.cmp.Ordering.{Ordering}
use Rattle.std.specs.declared.cmp.Ordering.TheVariants.{Less, Equal, Greater}
use Rattle.std.proofs.lemmas.Cmp.{tied_itself, nat_list_cmp_total}
use Rattle.std.proofs.lemmas.Map.Lookups.{exact_bytes}
use Rattle.hir_collector_rules.specs.HirIds.contracts.ids.MapIdPartialEq.TheImpl as map_id
use Rattle.hir_collector_rules.specs.HirIds.contracts.ids.ModuleIdEq.TheImpl.Laws.{laws-law as module_laws}
use Rattle.hir_collector_rules.specs.HirIds.contracts.ids.ModuleIdOrd.TheImpl as module_order
use Rattle.hir_collector_rules.specs.HirIds.contracts.ids.ModuleIdOrd.TheImpl.Laws.{matches_eq-law as module_ties}
use Rattle.hir_collector_rules.specs.HirIds.contracts.ids.ModuleIdPartialEq.TheImpl as module_id
use Rattle.hir_collector_rules.specs.HirIds.declared.ids.ModuleId.{ModuleId}
use Rattle.hir_collector_rules.specs.HirDefMapRules.Inner.OverlayLaws.{exact_map}
use Rattle.hir_collector_rules.specs.HirScope.Globs.{Place, has_place, place_cmp, with_place, without_place}

-- ---- places that compare as equal are one

pub exact_module : (a b : ModuleId) → module_id.ghosts.eq a b ≡ true → a ≡ b
exact_module a b e = λ i. record {
  map = exact_map a.map b.map (first_so _ _ e) i;
  index = (unsigned_Decides a.index b.index).0 (second_so (map_id.ghosts.eq a.map b.map) _ e) i;
}

first_tied : (o p : Ordering) → is_eq (ordering_then o p) ≡ true → is_eq o ≡ true
first_tied Less p e = e
first_tied Equal p e = refl
first_tied Greater p e = e

second_tied : (o p : Ordering) → is_eq (ordering_then o p) ≡ true → is_eq p ≡ true
second_tied Less p e = absurd (true≢false (sym e))
second_tied Equal p e = e
second_tied Greater p e = absurd (true≢false (sym e))

both_tied : (o p : Ordering) → is_eq o ≡ true → is_eq p ≡ true → is_eq (ordering_then o p) ≡ true
both_tied Less p e f = absurd (true≢false (sym e))
both_tied Equal p e f = f
both_tied Greater p e f = absurd (true≢false (sym e))

is_equal : (o : Ordering) → is_eq o ≡ true → o ≡ Equal
is_equal Less e = absurd (true≢false (sym e))
is_equal Equal e = refl
is_equal Greater e = absurd (true≢false (sym e))

exact_place : (p q : Place) → is_eq (place_cmp p q) ≡ true → p ≡ q
exact_place p q e =
    let modules = module_order.ghosts.cmp p.0 q.0 in
    let names = slice_cmp nat_cmp p.1 q.1 in
    let module_is : p.0 ≡ q.0 = exact_module p.0 q.0 (module_ties p.0 q.0 ∙ first_tied modules names e) in
    let name_is : p.1 ≡ q.1 = exact_bytes p.1 q.1 (is_equal names (second_tied modules names e)) in
    λ i. (module_is i, name_is i)

itself : (p : Place) → is_eq (place_cmp p p) ≡ true
itself p =
    both_tied (module_order.ghosts.cmp p.0 p.0) (slice_cmp nat_cmp p.1 p.1) (sym (module_ties p.0 p.0) ∙ module_laws.refl p.0)
    (ap is_eq (tied_itself nat_list_cmp_total p.1))

or_right : (a b : Bool) → b ≡ true → (a || b) ≡ true
or_right true b e = refl
or_right false b e = e

-- ---- one goes

module _ (p q : Place) where
  pub still_without : q ≢ p → (places : List Place) → has_place places q ≡ true → has_place (without_place places p) q ≡ true
  still_without apart [] e = e
  still_without apart (x ∷ xs) e = go (is_eq (place_cmp p x)) refl (is_eq (place_cmp q x)) refl e (still_without apart xs)
    where
      go : (a : Bool) → is_eq (place_cmp p x) ≡ a → (b : Bool) → is_eq (place_cmp q x) ≡ b → (b || has_place xs q) ≡ true
          → (has_place xs q ≡ true → has_place (without_place xs p) q ≡ true) → has_place (cond a xs (x ∷ without_place xs p)) q ≡ true
      go true s true t h below = absurd (apart (exact_place q x t ∙ sym (exact_place p x s)))
      go true s false t h below = h
      go false s true t h below = ap (λ (b : Bool). b || has_place (without_place xs p) q) t
      go false s false t h below = ap (λ (b : Bool). b || has_place (without_place xs p) q) t ∙ below h

  -- ---- one comes

  still_inserted : (places : List Place) → has_place places q ≡ true → has_place (insert_key place_cmp places p) q ≡ true
  still_inserted [] e = absurd (true≢false (sym e))
  still_inserted (x ∷ xs) e = go (place_cmp p x) (still_inserted xs)
    where
      behind : (a : Bool) → (a || has_place xs q) ≡ true → (has_place xs q ≡ true → has_place (insert_key place_cmp xs p) q ≡ true)
          → (a || has_place (insert_key place_cmp xs p) q) ≡ true
      behind true h below = refl
      behind false h below = below h

      go : (o : Ordering) → (has_place xs q ≡ true → has_place (insert_key place_cmp xs p) q ≡ true)
          → has_place (match_ordering o (p ∷ x ∷ xs) (x ∷ xs) (x ∷ insert_key place_cmp xs p)) q ≡ true
      go Less below = or_right (is_eq (place_cmp q p)) (has_place (x ∷ xs) q) e
      go Equal below = e
      go Greater below = behind (is_eq (place_cmp q x)) e below

  pub still_with : (places : List Place) → has_place places q ≡ true → has_place (with_place places p) q ≡ true
  still_with places e = go (has_place places p)
    where
      go : (b : Bool) → has_place (cond b places (insert_key place_cmp places p)) q ≡ true
      go true = e
      go false = still_inserted places e

module _ (p : Place) where
  inserted : (places : List Place) → has_place (insert_key place_cmp places p) p ≡ true
  inserted [] = ap (λ (b : Bool). b || false) (itself p)
  inserted (x ∷ xs) = go (place_cmp p x) refl (inserted xs)
    where
      go : (o : Ordering) → place_cmp p x ≡ o → has_place (insert_key place_cmp xs p) p ≡ true
          → has_place (match_ordering o (p ∷ x ∷ xs) (x ∷ xs) (x ∷ insert_key place_cmp xs p)) p ≡ true
      go Less e below = ap (λ (b : Bool). b || has_place (x ∷ xs) p) (itself p)
      go Equal e below = ap (λ (b : Bool). b || has_place xs p) (ap is_eq e)
      go Greater e below = or_right (is_eq (place_cmp p x)) (has_place (insert_key place_cmp xs p) p) below

  pub now_with : (places : List Place) → has_place (with_place places p) p ≡ true
  now_with places = go (has_place places p) refl
    where
      go : (b : Bool) → has_place places p ≡ b → has_place (cond b places (insert_key place_cmp places p)) p ≡ true
      go true e = e
      go false e = inserted places
