-- The names of modules that globs brought, kept by module.
use Rattle.std.proofs.Common.{◌≡◌, ◌∙◌, ap, sym, subst, refl, ℕ, ◌<◌, true, false, Bool, not, List, [], ◌∷◌, Option, None, Some, Result, Ok, Err}
use Rattle.std.proofs.Common.{IfOk, OnErr, cond}
use mathlib.Core.Bool.{true≢false}
use Rattle.std.specs.Option.{is_some}
use Rattle.std.specs.declared.cmp.Ordering.{Ordering}
use Rattle.std.specs.declared.cmp.Ordering.TheVariants.{Less, Equal, Greater}
use Rattle.std.specs.BTreeMap.{is_at, insert_entry}
use Rattle.std.specs.BTreeSet.{insert_key}
use Rattle.std.specs.Cmp.{IsTotalOrder, on_total, then_total}
use Rattle.std.specs.Cmp.Lexicographic.{slice_cmp}
use Rattle.std.specs.List.{list_any}
use Rattle.std.specs.List.Sorted.{IsStrictlySortedBy}
use Rattle.std.specs.Map.{keys_of, lookup, remove_entry}
use Rattle.std.specs.Option.{option_cmp}
use Rattle.std.specs.Ordering.{is_eq, nat_cmp, ordering_then}
use Rattle.std.specs.Set.{remove_key}
use Rattle.std.proofs.lemmas.Cmp.{nat_list_cmp_total, ranked}
use Rattle.std.specs.Ordering.{MatchOrdering}
use Rattle.hir_ids.specs.contracts.ast_id.BlockIdOrd.TheImpl as block_id
use Rattle.hir_ids.specs.contracts.ids.MapIdOrd.TheImpl as map_id
use Rattle.hir_ids.specs.contracts.ids.ModuleIdOrd.TheImpl as module_id
use Rattle.hir_ids.specs.contracts.ids.ModuleIdOrd.TheImpl.Laws.{total-law as module_total}
use Rattle.hir_ids.specs.declared.ast_id.BlockId.{BlockId}
use Rattle.hir_ids.specs.declared.ids.MapId.{MapId}
use Rattle.hir_ids.specs.declared.ids.ModuleId.{ModuleId}
use Rattle.hir_scope_table.specs.Entries.{has_key, item_at}
use Rattle.hir_scope_table.specs.Globs.{Place, place_cmp, has_place}
use Rattle.hir_scope_table.specs.Inner.Places.{Names, names_in, places_of}
use Rattle.hir_scope_table.specs.Inner.Reserved.{IsEntryFor, IsKeyFor}
use Rattle.hir_scope_table.proofs.ByModule.{any_of, things_or_none}
use Rattle.hir_scope_table.proofs.Slots.{keys_of-insert, list_any-keys}

-- ---- modules that compare as equal are one

first_tied : (o p : Ordering) → ordering_then o p ≡ Equal → o ≡ Equal
first_tied Less p e = e
first_tied Equal p e = refl
first_tied Greater p e = e

second_tied : (o p : Ordering) → ordering_then o p ≡ Equal → p ≡ Equal
second_tied Less p e = absurd (true≢false (sym (ap is_eq e)))
second_tied Equal p e = e
second_tied Greater p e = absurd (true≢false (sym (ap is_eq e)))

exact_number : (x y : ℕ) → nat_cmp x y ≡ Equal → x ≡ y
exact_number x y e = subst (λ o. MatchOrdering o (x < y) (x ≡ y) (y < x)) e (ranked x y (nat_cmp x y) refl)

exact_block : (a b : Option BlockId) → option_cmp block_id.ghosts.cmp a b ≡ Equal → a ≡ b
exact_block None None e = refl
exact_block None (Some b) e = absurd (true≢false (sym (ap is_eq e)))
exact_block (Some a) None e = absurd (true≢false (sym (ap is_eq e)))
exact_block (Some a) (Some b) e = λ i. Some (record { 0 = exact_number a.0 b.0 e i })

exact_map : (a b : MapId) → map_id.ghosts.cmp a b ≡ Equal → a ≡ b
exact_map a b e = λ i. record {
  krate = record { 0 = exact_number a.krate.0 b.krate.0 (first_tied _ _ e) i };
  block = exact_block a.block b.block (second_tied (nat_cmp a.krate.0 b.krate.0) _ e) i;
}

pub exact_module : (a b : ModuleId) → module_id.ghosts.cmp a b ≡ Equal → a ≡ b
exact_module a b e = λ i. record {
  map = exact_map a.map b.map (first_tied _ _ e) i;
  index = exact_number a.index b.index (second_tied (map_id.ghosts.cmp a.map b.map) _ e) i;
}

-- ---- the order of places

pub place_total : IsTotalOrder place_cmp
place_total = then_total (on_total (λ (p : Place). p.0) module_total) (on_total (λ (p : Place). p.1) nat_list_cmp_total)

-- ---- the names of one module

has_name : (names : Names) (name : List ℕ) → list_any (is_at (slice_cmp nat_cmp name)) (names_in names) ≡ is_some (item_at names name)
has_name names name = list_any-keys (slice_cmp nat_cmp) (is_at (slice_cmp nat_cmp name)) names

-- a name that is added, unless it was there
pub name_added : (old new : Names) (name : List ℕ) (added : Bool) → IsEntryFor (slice_cmp nat_cmp) old (Some (name, tt)) added new
    → IsKeyFor (slice_cmp nat_cmp) (names_in old) name true added (names_in new)
name_added old new name added entry = record {
  made = ap keys_of entry.made ∙ go added (has_key (slice_cmp nat_cmp) old name) entry.was_absent;
  was_absent = entry.was_absent ∙ sym (ap not (has_name old name));
}
  where
    go : (a b : Bool) → a ≡ not b
        → keys_of (cond b old (insert_entry (slice_cmp nat_cmp) old name tt)) ≡ cond a (insert_key (slice_cmp nat_cmp) (keys_of old) name) (keys_of old)
    go true true e = absurd (true≢false e)
    go true false e = keys_of-insert (slice_cmp nat_cmp) old name tt
    go false true e = refl
    go false false e = absurd (true≢false (sym e))

-- a name that is taken out
keys_of-remove : {K X : Type 0} (test : K → Bool) (xs : List (K × X)) → keys_of (remove_entry test xs) ≡ remove_key test (keys_of xs)
keys_of-remove test [] = refl
keys_of-remove {K} {X} test (x ∷ xs) = go (test x.0) (keys_of-remove test xs)
  where
    go : (b : Bool) → keys_of (remove_entry test xs) ≡ remove_key test (keys_of xs)
        → keys_of (cond b xs (x ∷ remove_entry test xs)) ≡ cond b (keys_of xs) (x.0 ∷ remove_key test (keys_of xs))
    go true later = refl
    go false later = ap (λ ks. x.0 ∷ ks) later

pub name_removed : (old new : Names) (name : List ℕ) → new ≡ remove_entry (is_at (slice_cmp nat_cmp name)) old
    → names_in new ≡ remove_key (is_at (slice_cmp nat_cmp name)) (names_in old)
name_removed old new name is = ap keys_of is ∙ keys_of-remove (is_at (slice_cmp nat_cmp name)) old

-- ---- places by module

abbrev pub has_name_in : Option Names → List ℕ → Bool
has_name_in None name = false
has_name_in (Some names) name = is_some (item_at names name)

pub has_place_in : (es : List (ModuleId × Names)) (at : Place) (o : Option Names) → IsStrictlySortedBy module_id.ghosts.cmp (keys_of es)
    → o ≡ lookup (is_at (module_id.ghosts.cmp at.0)) es → has_name_in o at.1 ≡ has_place (places_of es) at
has_place_in es at o sorted is =
    go o ∙ ap (λ x. list_any (is_at (slice_cmp nat_cmp at.1)) (things_or_none names_in x)) is
    ∙ sym (any_of module_id.ghosts.cmp module_total exact_module (slice_cmp nat_cmp) names_in at.0 at.1 es sorted)
  where
    go : (x : Option Names) → has_name_in x at.1 ≡ list_any (is_at (slice_cmp nat_cmp at.1)) (things_or_none names_in x)
    go None = refl
    go (Some names) = sym (has_name names at.1)

-- ---- results

pub if_ok : {T E : Type 0} (r : Result T E) (P Q : T → Type 0) → ((x : T) → P x → Q x) → IfOk r P → IfOk r Q
if_ok (Ok x) P Q f h = f x h
if_ok (Err e) P Q f h = tt

pub on_err : {T E : Type 0} (r : Result T E) (P Q : Type 0) → (P → Q) → OnErr r P → OnErr r Q
on_err (Ok x) P Q f h = tt
on_err (Err e) P Q f h = f h
