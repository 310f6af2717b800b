-- Which attributes are passed, which one is looked up, and which stay passed as helpers come into scope.
use Rattle.std.proofs.Common.{◌≡◌, ◌∙◌, ◌≤◌, ◌⊎◌, inl, inr, ◌||◌, ℕ, zero, suc, Bool, true, false, cond, List, [], ◌∷◌, ◌++◌, drop, Option, None, Some, refl}
use Rattle.std.proofs.Common.{sym, ap, subst, arith, Contains}
use Rattle.std.specs.Prelude.{unwrap_or}
use Rattle.std.specs.BTreeMap.{insert_entry, is_at}
use Rattle.std.specs.Cmp.{IsTotalOrder}
use Rattle.std.specs.Map.{lookup, set_value}
use Rattle.std.specs.Ordering.{is_eq, match_ordering}
use Rattle.std.specs.Str.{bytes_eq}
use Rattle.std.specs.declared.cmp.Ordering.{Ordering}
use Rattle.std.specs.declared.cmp.Ordering.TheVariants.{Less, Equal, Greater}
use Rattle.hir_collector_rules.specs.HirBase.ModPath.{Path}
use Rattle.hir_collector_rules.specs.HirIds.contracts.ast_id.AstIdOrd.TheImpl as ast_order
use Rattle.hir_collector_rules.specs.HirIds.contracts.ast_id.AstIdOrd.TheImpl.Laws.{total-law as ast_total}
use Rattle.hir_collector_rules.specs.HirIds.declared.ast_id.AstId.{AstId}
use Rattle.hir_collector_rules.specs.HirBase.declared.mod_path.PathKind.{PathKind}
use Rattle.hir_collector_rules.specs.HirBase.declared.mod_path.PathKind.TheVariants as roots
use Rattle.hir_collector_rules.specs.HirItemTree.Collected.{Numbered}
use Rattle.hir_collector_rules.specs.HirDefMapRules.Macros.{helpers_at, with_derive_helper, with_helper}
use Rattle.hir_collector_rules.specs.HirDefMapRules.State.{CrateData, Map}
use Rattle.hir_collector_rules.specs.HirMapParts.declared.derive_helpers.DeriveHelper.{DeriveHelper}
use Rattle.hir_collector_rules.specs.Attributes.{first_looked_up, is_always_passed, is_helper, is_helper_among, is_named_by, is_passed, is_tool, next_among}
use Rattle.hir_collector_rules.specs.BuiltinAttributes.{is_inert}
use Rattle.hir_collector_rules.specs.Changes.{Change, lists, makes, gives_variants, begins_paths, reaches, awaits, ends, settles, changes_imports, adds_textual}
use Rattle.hir_collector_rules.specs.Changes.{takes_textual, defines, describes, helps, lists_derive, notes, exports, uses_macros, tells, goes_on, act, perform}
use Rattle.hir_collector_rules.specs.Ended.{ended}
use Rattle.hir_collector_rules.specs.State.{Core, State, import_state}
use Rattle.hir_collector_rules.proofs.ImportEdits.{Edit, edit_of, edited, map_after}
use Rattle.hir_def_collector_laws.proofs.Ended.{ended_by}
use Rattle.hir_def_collector_laws.proofs.Entries.{tied_alike}
use Rattle.hir_def_collector_laws.proofs.Lists.{at_first, later}

-- ---- lists

drop_next : {A : Type 0} (xs : List A) (n : ℕ) (y : A) (ys : List A) → drop n xs ≡ y ∷ ys → drop (suc n) xs ≡ ys
drop_next [] zero y ys e = absurd (let no : ⊥ = cc in no)
drop_next [] (suc n) y ys e = absurd (let no : ⊥ = cc in no)
drop_next (x ∷ xs) zero y ys e = cc
drop_next (x ∷ xs) (suc n) y ys e = drop_next xs n y ys e

pub among_dropped : {A : Type 0} (xs : List A) (n : ℕ) (x : A) → Contains (drop n xs) x → Contains xs x
among_dropped [] zero x h = h
among_dropped [] (suc n) x h = h
among_dropped (y ∷ ys) zero x h = h
among_dropped (y ∷ ys) (suc n) x h = later y ys x (among_dropped ys n x h)

-- ---- the one that is looked up

same_pair : (p q : ℕ × Numbered) → Some p ≡ Some q → p ≡ q
same_pair p q e = cc

-- an attribute, at a place, for which something is looked up, where these are all behind the first so many
record IsFirst (m : Map) (node : AstId) (all : List Numbered) (from : ℕ) (xs : List Numbered) (at : ℕ) (a : Numbered) : Type 0 where
  low : from ≤ at
  among : Contains xs a
  unpassed : is_passed m node a ≡ false
  others : (x : Numbered) → Contains xs x → (is_passed m node x ≡ true) ⊎ ((a ≡ x) ⊎ Contains (drop (suc at) all) x)

module _ (m : Map) (node : AstId) (all : List Numbered) (at : ℕ) (a : Numbered) where
  first_of : (xs : List Numbered) (from : ℕ) → drop from all ≡ xs → first_looked_up m node from xs ≡ Some (at, a) → IsFirst m node all from xs at a
  first_of [] from left e = absurd (let no : ⊥ = cc in no)
  first_of (x ∷ xs) from left e = go (is_passed m node x) refl (first_of xs (suc from) (drop_next all from x xs left)) e
    where
      go : (b : Bool) → is_passed m node x ≡ b → (first_looked_up m node (suc from) xs ≡ Some (at, a) → IsFirst m node all (suc from) xs at a)
          → cond b (first_looked_up m node (suc from) xs) (Some (from, x)) ≡ Some (at, a) → IsFirst m node all from (x ∷ xs) at a
      go true passed below f =
          let next : IsFirst m node all (suc from) xs at a = below f in
          record { low = omega (arith, next.low); among = later x xs a next.among; unpassed = next.unpassed; others = λ y h. each next y h }
        where
          each : IsFirst m node all (suc from) xs at a → (y : Numbered) → Contains (x ∷ xs) y → (is_passed m node y ≡ true)
              ⊎ ((a ≡ y) ⊎ Contains (drop (suc at) all) y)
          each next y (zero, under, is) = inl (subst (λ (z : Numbered). is_passed m node z ≡ true) is passed)
          each next y (suc n, under, is) = next.others y (n, omega (arith, under), is)
      go false unpassed below f =
          let pair = same_pair (from, x) (at, a) f in
          let here : from ≡ at = ap (λ (p : ℕ × Numbered). p.0) pair in
          let same : x ≡ a = ap (λ (p : ℕ × Numbered). p.1) pair in
          record {
            low = omega (arith, here);
            among = subst (λ (z : Numbered). Contains (x ∷ xs) z) same (at_first x xs);
            unpassed = subst (λ (z : Numbered). is_passed m node z ≡ false) same unpassed;
            others = λ y h. each here same y h;
          }
        where
          each : from ≡ at → x ≡ a → (y : Numbered) → Contains (x ∷ xs) y → (is_passed m node y ≡ true) ⊎ ((a ≡ y) ⊎ Contains (drop (suc at) all) y)
          each here same y (zero, under, is) = inr (inl (sym same ∙ is))
          each here same y (suc n, under, is) =
              let rest : drop (suc from) all ≡ xs = drop_next all from x xs left in
              inr (inr (subst (λ (k : ℕ). Contains (drop (suc k) all) y) here
              (subst (λ (ys : List Numbered). Contains ys y) (sym rest) (n, omega (arith, under), is))))

-- what holds of an attribute of these that is looked up first behind so many
pub record IsLookedUp (m : Map) (node : AstId) (all : List Numbered) (done : ℕ) (at : ℕ) (a : Numbered) : Type 0 where
  pub low : done ≤ at
  pub among : Contains all a
  pub unpassed : is_passed m node a ≡ false
  pub others : (x : Numbered) → Contains (drop done all) x → (is_passed m node x ≡ true) ⊎ ((a ≡ x) ⊎ Contains (drop (suc at) all) x)

pub looked_up : (m : Map) (node : AstId) (all : List Numbered) (done at : ℕ) (a : Numbered) → next_among m node done all ≡ Some (at, a)
    → IsLookedUp m node all done at a
looked_up m node all done at a e =
    let f : IsFirst m node all done (drop done all) at a = first_of m node all at a (drop done all) done refl e in
    record { low = f.low; among = among_dropped all done a f.among; unpassed = f.unpassed; others = f.others }

-- where none is, all are passed
pub all_passed : (m : Map) (node : AstId) (at : ℕ) (xs : List Numbered) → first_looked_up m node at xs ≡ None → (x : Numbered) → Contains xs x
    → is_passed m node x ≡ true
all_passed m node at [] e x (n, below, is) = absurd (omega arith)
all_passed m node at (a ∷ rest) e x h = go (is_passed m node a) refl (all_passed m node (suc at) rest) e h
  where
    go : (b : Bool) → is_passed m node a ≡ b → (first_looked_up m node (suc at) rest ≡ None → (y : Numbered) → Contains rest y → is_passed m node y ≡ true)
        → cond b (first_looked_up m node (suc at) rest) (Some (at, a)) ≡ None → Contains (a ∷ rest) x → is_passed m node x ≡ true
    go true passed others f (zero, below, is) = subst (λ (y : Numbered). is_passed m node y ≡ true) is passed
    go true passed others f (suc n, below, is) = others f x (n, omega (arith, below), is)
    go false passed others f c = absurd (let no : ⊥ = cc in no)

-- ---- more helpers

abbrev HasMore : Option (List DeriveHelper) → Option (List DeriveHelper) → Type 0
HasMore o p = (name : List ℕ) → is_named_by (unwrap_or o []) name ≡ true → is_named_by (unwrap_or p []) name ≡ true

or_left : (a b c : Bool) → (b ≡ true → c ≡ true) → a || b ≡ true → a || c ≡ true
or_left true b c more f = refl
or_left false b c more f = more f

named_longer : (hs more : List DeriveHelper) (name : List ℕ) → is_named_by hs name ≡ true → is_named_by (hs ++ more) name ≡ true
named_longer [] more name e = absurd (let no : ⊥ = cc in no)
named_longer (h ∷ hs) more name e = or_left (bytes_eq h.name name) (is_named_by hs name) (is_named_by (hs ++ more) name) (named_longer hs more name) e

module _ {K : Type 0} where
  -- one more behind those of a key
  set_more : (test other : K → Bool) (es : List (K × List DeriveHelper)) (hs more : List DeriveHelper) → lookup test es ≡ Some hs
      → HasMore (lookup other es) (lookup other (set_value test es (hs ++ more)))
  set_more test other [] hs more e = absurd (let no : ⊥ = cc in no)
  set_more test other (x ∷ xs) hs more e = go (test x.0) (set_more test other xs hs more) e
    where
      longer : x.1 ≡ hs → (c : Bool) → HasMore (cond c (Some x.1) (lookup other xs)) (cond c (Some (hs ++ more)) (lookup other xs))
      longer same true = λ name h. named_longer hs more name (subst (λ (ys : List DeriveHelper). is_named_by ys name ≡ true) same h)
      longer same false = λ name h. h

      behind : (o : Option (List DeriveHelper)) → HasMore (lookup other xs) o → (c : Bool) → HasMore (cond c (Some x.1) (lookup other xs)) (cond c (Some x.1) o)
      behind o f true = λ name h. h
      behind o f false = f

      go : (b : Bool) → (lookup test xs ≡ Some hs → HasMore (lookup other xs) (lookup other (set_value test xs (hs ++ more))))
          → cond b (Some x.1) (lookup test xs) ≡ Some hs
          → HasMore (lookup other (x ∷ xs)) (lookup other (cond b ((x.0, hs ++ more) ∷ xs) (x ∷ set_value test xs (hs ++ more))))
      go true below f = let same : x.1 ≡ hs = cc in longer same (other x.0)
      go false below f = behind (lookup other (set_value test xs (hs ++ more))) (below f) (other x.0)

module _ {K : Type 0} (cmp : K → K → Ordering) (total : IsTotalOrder cmp) where
  -- a key that had none
  insert_more : (q k : K) (v : List DeriveHelper) (es : List (K × List DeriveHelper)) → lookup (is_at (cmp k)) es ≡ None → HasMore (lookup (is_at (cmp q)) es)
      (lookup (is_at (cmp q)) (insert_entry cmp es k v))
  insert_more q k v [] none = λ name h. absurd (let no : ⊥ = cc in no)
  insert_more q k v (e ∷ es) none = go (cmp k e.0) refl (insert_more q k v es) none
    where
      new : (o : Ordering) → cmp q k ≡ o → lookup (is_at (cmp k)) (e ∷ es) ≡ None → HasMore (lookup (is_at (cmp q)) (e ∷ es))
          (cond (is_eq o) (Some v) (lookup (is_at (cmp q)) (e ∷ es)))
      new Less s f = λ name h. h
      new Greater s f = λ name h. h
      new Equal s f =
          let missing : lookup (is_at (cmp q)) (e ∷ es) ≡ None = tied_alike cmp total q k s (e ∷ es) ∙ f in
          λ name h. absurd (let no : false ≡ true = sym (ap (λ (o : Option (List DeriveHelper)). is_named_by (unwrap_or o []) name) missing) ∙ h in cc)

      behind : (o : Option (List DeriveHelper)) → HasMore (lookup (is_at (cmp q)) es) o → (c : Bool) → HasMore (cond c (Some e.1) (lookup (is_at (cmp q)) es))
          (cond c (Some e.1) o)
      behind o f true = λ name h. h
      behind o f false = f

      go : (o : Ordering) → cmp k e.0 ≡ o → (lookup (is_at (cmp k)) es ≡ None → HasMore (lookup (is_at (cmp q)) es)
          (lookup (is_at (cmp q)) (insert_entry cmp es k v)))
          → lookup (is_at (cmp k)) (e ∷ es) ≡ None
          → HasMore (lookup (is_at (cmp q)) (e ∷ es))
          (lookup (is_at (cmp q)) (match_ordering o ((k, v) ∷ e ∷ es) ((e.0, v) ∷ es) (e ∷ insert_entry cmp es k v)))
      go Less s below f = new (cmp q k) refl f
      go Equal s below f =
          let there : Some e.1 ≡ None = sym (ap (λ (o : Ordering). cond (is_eq o) (Some e.1) (lookup (is_at (cmp k)) es)) s) ∙ f in
          absurd (let no : ⊥ = cc in no)
      go Greater s below f =
          let none_left : lookup (is_at (cmp k)) es ≡ None = sym (ap (λ (o : Ordering). cond (is_eq o) (Some e.1) (lookup (is_at (cmp k)) es)) s) ∙ f in
          behind (lookup (is_at (cmp q)) (insert_entry cmp es k v)) (below none_left) (is_at (cmp q) e.0)

with_more : (es : List (AstId × List DeriveHelper)) (node : AstId) (helper : DeriveHelper) (q : AstId) (o : Option (List DeriveHelper))
    → lookup (is_at (ast_order.ghosts.cmp node)) es ≡ o
    → HasMore (lookup (is_at (ast_order.ghosts.cmp q)) es) (lookup (is_at (ast_order.ghosts.cmp q)) (with_helper es node helper o))
with_more es node helper q None e = insert_more ast_order.ghosts.cmp ast_total q node (helper ∷ []) es e
with_more es node helper q (Some hs) e = set_more (is_at (ast_order.ghosts.cmp node)) (is_at (ast_order.ghosts.cmp q)) es hs (helper ∷ []) e

-- what is a helper of an item stays one
abbrev pub StayHelpers : Map → Map → Type 0
StayHelpers m n = (node : AstId) (path : Path) → is_helper m node path ≡ true → is_helper n node path ≡ true

more_paths : (hs is : List DeriveHelper) → ((name : List ℕ) → is_named_by hs name ≡ true → is_named_by is name ≡ true)
    → (kind : PathKind) (segments : List (List ℕ))
    → is_helper_among hs kind segments ≡ true → is_helper_among is kind segments ≡ true
more_paths hs is more roots.Plain [] e = absurd (let no : ⊥ = cc in no)
more_paths hs is more roots.Plain (name ∷ []) e = more name e
more_paths hs is more roots.Plain (name ∷ next ∷ rest) e = absurd (let no : ⊥ = cc in no)
more_paths hs is more (roots.Super levels) segments e = absurd (let no : ⊥ = cc in no)
more_paths hs is more roots.Crate segments e = absurd (let no : ⊥ = cc in no)
more_paths hs is more roots.Abs segments e = absurd (let no : ⊥ = cc in no)
more_paths hs is more (roots.DollarCrate krate) segments e = absurd (let no : ⊥ = cc in no)

StayHelpers-helped : (m : Map) (node : AstId) (helper : DeriveHelper) → StayHelpers m (with_derive_helper m node helper)
StayHelpers-helped m node helper q path h =
    more_paths (unwrap_or (helpers_at m q) []) (unwrap_or (helpers_at (with_derive_helper m node helper) q) [])
    (with_more m.derive_helpers node helper q (helpers_at m node) refl) path.kind path.segments h

StayHelpers-edited : (m : Map) (o : Option (ℕ × Edit)) → StayHelpers m (edited m o)
StayHelpers-edited m None node path h = h
StayHelpers-edited m (Some e) node path h = h

StayHelpers-act : (s : State) (c : Change) → StayHelpers s.core.map (act s c).core.map
StayHelpers-act s (changes_imports c) node path h =
    subst (λ (m : Map). is_helper m node path ≡ true) (sym (map_after (import_state s) c)) (StayHelpers-edited s.core.map (edit_of (import_state s) c) node path
    h)
StayHelpers-act s (helps at helper) node path h = StayHelpers-helped s.core.map at helper node path h
StayHelpers-act s other node path h = h

pub StayHelpers-perform : (cs : List Change) (s : State) → StayHelpers s.core.map (perform s cs).core.map
StayHelpers-perform [] s node path h = h
StayHelpers-perform (c ∷ cs) s node path h = StayHelpers-perform cs (act s c) node path (StayHelpers-act s c node path h)

pub StayHelpers-ended : (c : Core) → StayHelpers c.map (ended c)
StayHelpers-ended c = ended_by c (λ (m : Map). StayHelpers c.map m) (λ node path h. h) (λ node path h. h)

-- ---- what is passed stays so

or_more : (a t u h k : Bool) → t ≡ u → (h ≡ true → k ≡ true) → (a || t) || h ≡ true → (a || u) || k ≡ true
or_more true t u h k same more f = refl
or_more false true true h k same more f = refl
or_more false true false h k same more f = absurd (let no : ⊥ = cc in no)
or_more false false true h k same more f = refl
or_more false false false h k same more f = more f

or_first : (b h : Bool) → b ≡ true → b || h ≡ true
or_first true h f = refl
or_first false h f = absurd (let no : ⊥ = cc in no)

pub passed_later : (m n : Map) → m.crate_data ≡ n.crate_data → StayHelpers m n → (node : AstId) (a : Numbered) → is_passed m node a ≡ true → is_passed n node a
    ≡ true
passed_later m n same stay node a e =
    or_more (is_inert a.meta.path.kind a.meta.path.segments) (is_tool m.crate_data.registered_tools a.meta.path.kind a.meta.path.segments)
    (is_tool n.crate_data.registered_tools a.meta.path.kind a.meta.path.segments) (is_helper m node a.meta.path) (is_helper n node a.meta.path)
    (ap (λ (c : CrateData). is_tool c.registered_tools a.meta.path.kind a.meta.path.segments) same) (stay node a.meta.path) e

-- an attribute that is always passed is
pub always_passed : (m : Map) (node : AstId) (a : Numbered) → is_always_passed m.crate_data.registered_tools a ≡ true → is_passed m node a ≡ true
always_passed m node a e = or_first (is_always_passed m.crate_data.registered_tools a) (is_helper m node a.meta.path) e

-- what isn't passed isn't always passed
pub not_always : (m : Map) (node : AstId) (a : Numbered) → is_passed m node a ≡ false → is_always_passed m.crate_data.registered_tools a ≡ false
not_always m node a unpassed = go (is_always_passed m.crate_data.registered_tools a) refl
  where
    go : (b : Bool) → is_always_passed m.crate_data.registered_tools a ≡ b → is_always_passed m.crate_data.registered_tools a ≡ false
    go false e = e
    go true e = let passed : is_passed m node a ≡ true = always_passed m node a e in absurd (let no : ⊥ = cc in no)
