-- Each import of a use tree stands at the place of the leaf that writes it.
use Rattle.std.proofs.Common.{◌≡◌, ◌≤◌, ℕ, ◌+◌, suc, length, List, [], ◌∷◌, ◌++◌, Option, Some, None, refl, ap, ap₂, sym, subst, ◌∙◌, append-nil, arith}
use Rattle.std.proofs.lemmas.List.{append_assoc, length-append}
use Rattle.std.proofs.lemmas.List.Elements.{All-nil, All-cons, All-append}
use Rattle.std.proofs.Math.Nat.{min-eq_left}
use Rattle.std.specs.List.{slice_get, All}
use Rattle.hir_base.specs.ModPath.{Path}
use Rattle.hir_use_tree.specs.Types.{ImportAlias, JoinedPath}
use Rattle.hir_use_tree.specs.declared.joined_path.JoinedPath.TheVariants as joins
use Rattle.hir_use_tree.specs.UseTree.{UseTree, single, glob, prefixed, UseTrees, no_trees, tree, tree_size, trees_size, parts, all_parts, count_of}
use Rattle.hir_use_tree.specs.Imports.{Import, imports_at, all_imports_at, joined_path, single_imports, glob_imports, joined_glob, behind, behind_joined}
use Rattle.hir_use_tree.specs.Laws.{Writes, HasLeaf, PlaceHoldsItsLeaf}

mutual
  length-parts : (t : UseTree) → length (parts t) ≡ tree_size t
  length-parts (single path alias) = refl
  length-parts (glob path) = refl
  length-parts (prefixed path ts) = ap suc (length-all_parts ts)

  length-all_parts : (ts : UseTrees) → length (all_parts ts) ≡ trees_size ts
  length-all_parts no_trees = refl
  length-all_parts (tree t ts) = length-append (parts t) (all_parts ts) ∙ ap₂ ◌+◌ (length-parts t) (length-all_parts ts)

at_seam : (before : List UseTree) (t : UseTree) (after : List UseTree) → slice_get (before ++ t ∷ after) (length before) ≡ Some t
at_seam [] t after = refl
at_seam (b ∷ before) t after = at_seam before t after

module _ (whole : UseTree) where
  -- these trees stand at a place of the whole tree's preorder
  record At (place : ℕ) (ts : List UseTree) : Type 0 where
    before : List UseTree
    after : List UseTree
    there : parts whole ≡ before ++ (ts ++ after)
    place_is : length before ≡ place

  -- the first of them stands there
  first_at : (place : ℕ) (t : UseTree) (ts : List UseTree) → At place (t ∷ ts) → slice_get (parts whole) place ≡ Some t
  first_at place t ts a =
      subst (λ w. slice_get w place ≡ Some t) (sym a.there)
      (subst (λ n. slice_get (a.before ++ t ∷ (ts ++ a.after)) n ≡ Some t) a.place_is (at_seam a.before t (ts ++ a.after)))

  -- the front of them stands there
  front_at : (place : ℕ) (ts us : List UseTree) → At place (ts ++ us) → At place ts
  front_at place ts us a = record {
    before = a.before;
    after = us ++ a.after;
    there = a.there ∙ ap (λ rest. a.before ++ rest) (append_assoc ts us a.after);
    place_is = a.place_is;
  }

  -- the back of them stands as many places later as the front has trees
  back_at : (place : ℕ) (ts us : List UseTree) → At place (ts ++ us) → At (place + length ts) us
  back_at place ts us a = record {
    before = a.before ++ ts;
    after = a.after;
    there = a.there ∙ (ap (λ rest. a.before ++ rest) (append_assoc ts us a.after) ∙ sym (append_assoc a.before ts (us ++ a.after)));
    place_is = length-append a.before ts ∙ ap (λ n. n + length ts) a.place_is;
  }

  one_leaf : (leaf : UseTree) (i : Import) → At i.place (leaf ∷ []) → Writes leaf i → All (HasLeaf whole) (i ∷ [])
  one_leaf leaf i a w =
      All-cons (HasLeaf whole) i [] (record { leaf = leaf; there = first_at i.place leaf [] a; writes = w }) (All-nil (HasLeaf whole))

  of_single : (place : ℕ) (prefix : Option Path) (path : Path) (alias : Option ImportAlias) (j : JoinedPath) → joined_path prefix path ≡ j
      → At place (single path alias ∷ []) → All (HasLeaf whole) (single_imports place j alias)
  of_single place prefix path alias joins.Nothing e a = All-nil (HasLeaf whole)
  of_single place prefix path alias (joins.Whole p) e a = one_leaf (single path alias) _ a (prefix, ap (λ j. single_imports place j alias) e)
  of_single place prefix path alias (joins.Itself p) e a = one_leaf (single path alias) _ a (prefix, ap (λ j. single_imports place j alias) e)

  of_joined_glob : (place : ℕ) (prefix : Option Path) (path : Path) (j : JoinedPath) → joined_path prefix path ≡ j
      → At place (glob (Some path) ∷ []) → All (HasLeaf whole) (joined_glob place j)
  of_joined_glob place prefix path joins.Nothing e a = All-nil (HasLeaf whole)
  of_joined_glob place prefix path (joins.Whole p) e a = one_leaf (glob (Some path)) _ a (prefix, ap (joined_glob place) e)
  of_joined_glob place prefix path (joins.Itself p) e a = one_leaf (glob (Some path)) _ a (prefix, ap (joined_glob place) e)

  of_glob : (place : ℕ) (prefix path : Option Path) → At place (glob path ∷ []) → All (HasLeaf whole) (glob_imports place prefix path)
  of_glob place prefix (Some path) a = of_joined_glob place prefix path (joined_path prefix path) refl a
  of_glob place (Some p) None a = one_leaf (glob None) _ a (Some p, refl)
  of_glob place None None a = All-nil (HasLeaf whole)

  of_joined : (j : JoinedPath) (imports : Option Path → List Import) → ((p : Option Path) → All (HasLeaf whole) (imports p))
      → All (HasLeaf whole) (behind_joined j imports)
  of_joined joins.Nothing imports h = All-nil (HasLeaf whole)
  of_joined (joins.Whole p) imports h = h (Some p)
  of_joined (joins.Itself p) imports h = All-nil (HasLeaf whole)

  of_behind : (prefix path : Option Path) (imports : Option Path → List Import) → ((p : Option Path) → All (HasLeaf whole) (imports p))
      → All (HasLeaf whole) (behind prefix path imports)
  of_behind prefix None imports h = h prefix
  of_behind prefix (Some path) imports h = of_joined (joined_path prefix path) imports h

  -- a number that can be counted is counted
  counted : (n : ℕ) → n ≤ 4294967295 → n ≡ count_of n
  counted n small = sym (min-eq_left small)

  mutual
    of_tree : (t : UseTree) (place : ℕ) (prefix : Option Path) → place + tree_size t ≤ 4294967295 → At place (parts t)
        → All (HasLeaf whole) (imports_at place prefix t)
    of_tree (single path alias) place prefix small a = of_single place prefix path alias (joined_path prefix path) refl a
    of_tree (glob path) place prefix small a = of_glob place prefix path a
    of_tree (prefixed path ts) place prefix small a =
        let within : place + 1 + trees_size ts ≤ 4294967295 = omega (arith, small) in
        let next : place + 1 ≤ 4294967295 = omega (arith, small) in
        of_behind prefix path (λ p. all_imports_at (count_of (place + 1)) p ts)
        (λ p. subst (λ n. All (HasLeaf whole) (all_imports_at n p ts)) (counted (place + 1) next)
        (of_trees ts (place + 1) p within (back_at place (prefixed path ts ∷ []) (all_parts ts) a)))

    of_trees : (ts : UseTrees) (place : ℕ) (prefix : Option Path) → place + trees_size ts ≤ 4294967295 → At place (all_parts ts)
        → All (HasLeaf whole) (all_imports_at place prefix ts)
    of_trees no_trees place prefix small a = All-nil (HasLeaf whole)
    of_trees (tree t ts) place prefix small a =
        let first : place + tree_size t ≤ 4294967295 = omega (arith, small) in
        let later : place + tree_size t + trees_size ts ≤ 4294967295 = omega (arith, small) in
        let behind_it : At (place + tree_size t) (all_parts ts) =
        subst (λ n. At (place + n) (all_parts ts)) (length-parts t) (back_at place (parts t) (all_parts ts) a)
        in
        All-append (HasLeaf whole) (imports_at place prefix t) (all_imports_at (count_of (place + tree_size t)) prefix ts)
        (of_tree t place prefix first (front_at place (parts t) (all_parts ts) a))
        (subst (λ n. All (HasLeaf whole) (all_imports_at n prefix ts)) (counted (place + tree_size t) first)
        (of_trees ts (place + tree_size t) prefix later behind_it))

pub place_holds_leaf : PlaceHoldsItsLeaf
place_holds_leaf t small = of_tree t t 0 None (omega (arith, small)) (record { before = []; after = []; there = sym (append-nil (parts t)); place_is = refl })
