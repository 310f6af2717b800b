-- Maps are entered among the dependents of those that they name, and taken out, one id after another.
use Rattle.std.proofs.Common.{◌≡◌, ◌∙◌, ap, sym, refl, Bool, true, false, not, ◌&&◌, ◌||◌, is_some, cond, Option, Some, None, List, [], ◌∷◌, length}
use mathlib.Core.Bool.{true≢false}
use Rattle.std.specs.List.{list_any}
use Rattle.std.specs.Cmp.{first_so}
use Rattle.std.specs.Option.{option_map}
use Rattle.std.specs.BTreeMap.{BTreeMap, get, is_at, Updates}
use Rattle.std.specs.Map.{lookup}
use Rattle.std.specs.BTreeSet.{BTreeSet, btree_set_len, contains}
use Rattle.hir_nameres.specs.HirIds.declared.ids.MapId.{MapId}
use Rattle.hir_nameres.specs.HirIds.contracts.ids.MapIdOrd.TheImpl as map_order
use Rattle.hir_def_map.specs.Types.{Dependents, Finished}
use Rattle.hir_def_map_rules.specs.State.{Local, Map}
use Rattle.hir_def_map_rules.specs.References.{is_well_formed}
use Rattle.hir_def_map.specs.Insertion.{may_join}
use Rattle.hir_nameres.specs.World.{finished_in, placed_of}
use Rattle.hir_nameres.specs.Removal.{lists_in, lists_of}
use Rattle.hir_def_map.specs.Inner.Dependents.{Enters, has_id, is_dependent, is_entry, IsEntered, IsIndexed, IsSame, IsSameBut, Leaves}
use Rattle.hir_def_map.proofs.Joined.{own_id, same_id}

abbrev Index : Type 0
Index = BTreeMap MapId (BTreeSet MapId)

abbrev pub is_id : MapId → MapId → Bool
is_id id = is_at (map_order.ghosts.cmp id)

-- ---- one id at another

pub either_way : (a b : MapId) → is_id a b ≡ is_id b a
either_way a b = go (is_id a b) refl (is_id b a) refl
  where
    turned : (a b : MapId) → is_id a b ≡ true → is_id b a ≡ true
    turned a b e = ap (is_id b) (same_id a b e) ∙ own_id b

    go : (p : Bool) → is_id a b ≡ p → (q : Bool) → is_id b a ≡ q → is_id a b ≡ is_id b a
    go true e q f = e ∙ sym (turned a b e)
    go false e true f = absurd (true≢false (sym (turned b a f) ∙ e))
    go false e false f = e ∙ sym f

-- what changes at one id changes there as its ids do
pub changed_at : (op : Bool → Bool → Bool) → ((a : Bool) → op a false ≡ a) → (old new : Index) (on own : MapId) (ids : Option (BTreeSet MapId))
    → ((k : MapId) → get map_order.ghosts.cmp new k ≡ cond (is_id on k) ids (get map_order.ghosts.cmp old k))
    → ((id : MapId) → has_id ids id ≡ op (has_id (get map_order.ghosts.cmp old on) id) (is_id own id))
    → (k id : MapId) → has_id (get map_order.ghosts.cmp new k) id ≡ op (has_id (get map_order.ghosts.cmp old k) id) (is_entry (on ∷ []) own k id)
changed_at op none old new on own ids updates has k id = ap (λ (o : Option (BTreeSet MapId)). has_id o id) (updates k) ∙ go (is_id on k) refl
  where
    go : (b : Bool) → is_id on k ≡ b → has_id (cond b ids (get map_order.ghosts.cmp old k)) id ≡ op (has_id (get map_order.ghosts.cmp old k) id)
        ((is_id k on || false) && is_id own id)
    go true s =
        has id
        ∙ ap (λ (x : MapId). op (has_id (get map_order.ghosts.cmp old x) id) (is_id own id)) (same_id on k s)
        ∙ ap (λ (b : Bool). op (has_id (get map_order.ghosts.cmp old k) id) ((b || false) && is_id own id)) (sym (either_way k on ∙ s))
    go false s =
        sym (none (has_id (get map_order.ghosts.cmp old k) id))
        ∙ ap (λ (b : Bool). op (has_id (get map_order.ghosts.cmp old k) id) ((b || false) && is_id own id)) (sym (either_way k on ∙ s))

pub takes_one : (a b : Bool) → cond b true a ≡ (a || b)
takes_one true true = refl
takes_one true false = refl
takes_one false true = refl
takes_one false false = refl

pub loses_one : (a b : Bool) → cond b false a ≡ (a && not b)
loses_one true true = refl
loses_one true false = refl
loses_one false true = refl
loses_one false false = refl

pub or-false : (a : Bool) → (a || false) ≡ a
or-false true = refl
or-false false = refl

pub and-true : (a : Bool) → (a && true) ≡ a
and-true true = refl
and-true false = refl

-- an id whose set is left empty has none
pub emptied_at : (old mid new : Index) (on own : MapId) (ids left : BTreeSet MapId) → Some ids ≡ get map_order.ghosts.cmp old on
    → ((id : MapId) → contains map_order.ghosts.cmp left id ≡ cond (is_id own id) false (contains map_order.ghosts.cmp ids id))
    → btree_set_len left ≡ 0
    → ((k : MapId) → get map_order.ghosts.cmp mid k ≡ cond (is_id on k) (Some left) (get map_order.ghosts.cmp old k))
    → ((k : MapId) → get map_order.ghosts.cmp new k ≡ cond (is_id on k) None (get map_order.ghosts.cmp mid k))
    → (k id : MapId) → has_id (get map_order.ghosts.cmp new k) id ≡ (has_id (get map_order.ghosts.cmp old k) id && not (is_entry (on ∷ []) own k id))
emptied_at old mid new on own ids left found removed empty first second =
    changed_at (λ (a b : Bool). a && not b) and-true old new on own None (λ k. second k ∙ ap (cond (is_id on k) None) (first k) ∙ twice (is_id on k)
    (get map_order.ghosts.cmp old k))
    (λ id.
    sym (none left.keys empty id)
    ∙ removed id
    ∙ loses_one (contains map_order.ghosts.cmp ids id) (is_id own id)
    ∙ ap (λ (o : Option (BTreeSet MapId)). has_id o id && not (is_id own id)) found)
  where
    twice : (b : Bool) (o : Option (BTreeSet MapId)) → cond b None (cond b (Some left) o) ≡ cond b None o
    twice true o = refl
    twice false o = refl

    none : (xs : List MapId) → length xs ≡ 0 → (id : MapId) → list_any (is_id id) xs ≡ false
    none [] e id = refl
    none (x ∷ xs) e id = absurd cc

-- ---- one id after another

-- what was and is to be entered is what is and is left
pub record IsEntering (old now : Dependents) (all left : List MapId) (own : MapId) : Type 0 where
  pub half : (on id : MapId) → (is_dependent old on id || is_entry all own on id) ≡ (is_dependent now on id || is_entry left own on id)
  pub grows : (on id : MapId) → is_dependent old on id ≡ true → is_dependent now on id ≡ true

pub entering-start : (old : Dependents) (all left : List MapId) (own : MapId) → left ≡ all → IsEntering old old all left own
entering-start old all left own start = record {
  half = λ on id. ap (λ (xs : List MapId). is_dependent old on id || is_entry xs own on id) (sym start);
  grows = λ on id e. e;
}

pub entering-step : (old now new : Dependents) (all before left : List MapId) (own next : MapId) → before ≡ next ∷ left
    → IsEntering old now all before own → Enters now new (next ∷ []) own → IsEntering old new all left own
entering-step old now new all before left own next taken half one = record {
  half = λ on id.
      half.half on id
      ∙ ap (λ (xs : List MapId). is_dependent now on id || is_entry xs own on id) taken
      ∙ split (is_dependent now on id) (is_id on next) (list_any (is_id on) left) (is_id own id)
      ∙ ap (λ (b : Bool). b || is_entry left own on id) (sym (one on id));
  grows = λ on id e. one on id ∙ ap (λ (b : Bool). b || is_entry (next ∷ []) own on id) (half.grows on id e);
}
  where
    split : (a p q c : Bool) → (a || ((p || q) && c)) ≡ ((a || ((p || false) && c)) || (q && c))
    split true p q c = refl
    split false true q true = refl
    split false true true false = refl
    split false true false false = refl
    split false false q c = refl

pub entering-end : (old new : Dependents) (all left : List MapId) (own : MapId) → left ≡ [] → IsEntering old new all left own → Enters old new all own
entering-end old new all left own end half = λ on id.
    sym (half.half on id ∙ ap (λ (xs : List MapId). is_dependent new on id || is_entry xs own on id) end ∙ or-false (is_dependent new on id))

-- whatever is left, nothing else has changed
pub entering-others : (old now : Dependents) (all left : List MapId) (own : MapId) → IsEntering old now all left own → IsSameBut old now all own
entering-others old now all left own half on id e = go (is_dependent now on id) refl (is_dependent old on id) refl
  where
    go : (a : Bool) → is_dependent now on id ≡ a → (b : Bool) → is_dependent old on id ≡ b → is_dependent now on id ≡ is_dependent old on id
    go a s true t = half.grows on id t ∙ sym t
    go false s false t = s ∙ sym t
    go true s false t =
        absurd (true≢false (sym (half.half on id ∙ ap (λ (b : Bool). b || is_entry left own on id) s) ∙ ap (λ (b : Bool). b || is_entry all own on id) t ∙ e))

pub others_same : (old now new : Dependents) (all : List MapId) (own : MapId) → IsSameBut old now all own → IsSame now new → IsSameBut old new all own
others_same old now new all own others same on id e = same on id ∙ others on id e

-- what was, without what is to be taken out, is what is without what is left
pub record IsLeaving (old now : Dependents) (all left : List MapId) (own : MapId) : Type 0 where
  pub half : (on id : MapId) → (is_dependent old on id && not (is_entry all own on id)) ≡ (is_dependent now on id && not (is_entry left own on id))

pub leaving-start : (old : Dependents) (all left : List MapId) (own : MapId) → left ≡ all → IsLeaving old old all left own
leaving-start old all left own start = record { half = λ on id. ap (λ (xs : List MapId). is_dependent old on id && not (is_entry xs own on id)) (sym start) }

pub leaving-step : (old now new : Dependents) (all before left : List MapId) (own next : MapId) → before ≡ next ∷ left
    → IsLeaving old now all before own → Leaves now new (next ∷ []) own → IsLeaving old new all left own
leaving-step old now new all before left own next taken half one = record {
  half = λ on id.
      half.half on id
      ∙ ap (λ (xs : List MapId). is_dependent now on id && not (is_entry xs own on id)) taken
      ∙ split (is_dependent now on id) (is_id on next) (list_any (is_id on) left) (is_id own id)
      ∙ ap (λ (b : Bool). b && not (is_entry left own on id)) (sym (one on id));
}
  where
    split : (a p q c : Bool) → (a && not ((p || q) && c)) ≡ ((a && not ((p || false) && c)) && not (q && c))
    split false p q c = refl
    split true true q true = refl
    split true true true false = refl
    split true true false false = refl
    split true false q c = refl

pub leaving-end : (old new : Dependents) (all left : List MapId) (own : MapId) → left ≡ [] → IsLeaving old new all left own → Leaves old new all own
leaving-end old new all left own end half = λ on id.
    sym (half.half on id ∙ ap (λ (xs : List MapId). is_dependent new on id && not (is_entry xs own on id)) end ∙ and-true (is_dependent new on id))

-- a map that was entered in part is taken out again
pub rolled_back : (old now new : Dependents) (all : List MapId) (own : MapId) → ((on : MapId) → is_dependent old on own ≡ false)
    → IsSameBut old now all own → Leaves now new all own → IsSame old new
rolled_back old now new all own fresh others leaves on id = leaves on id ∙ go (is_entry all own on id) refl
  where
    own_of : (a b : Bool) → (a && b) ≡ true → b ≡ true
    own_of true b e = e
    own_of false b e = absurd cc

    go : (b : Bool) → is_entry all own on id ≡ b → (is_dependent now on id && not b) ≡ is_dependent old on id
    go false s = and-true (is_dependent now on id) ∙ others on id s
    go true s =
        none (is_dependent now on id)
        ∙ sym (fresh on)
        ∙ ap (is_dependent old on) (same_id own id (own_of (list_any (is_id on) all) (is_id own id) s))
      where
        none : (a : Bool) → (a && false) ≡ false
        none true = refl
        none false = refl

-- ---- with the finished maps

abbrev Store : Type 0
Store = BTreeMap MapId Finished

-- what may join isn't there
pub absent_before : (maps : Store) (map : Map) (local : Local) → may_join (finished_in maps) map local ≡ true → get map_order.ghosts.cmp maps map.id ≡ None
unfolding finished_in
absent_before maps map local may = go (get map_order.ghosts.cmp maps map.id) refl
  where
    go : (o : Option Finished) → get map_order.ghosts.cmp maps map.id ≡ o → get map_order.ghosts.cmp maps map.id ≡ None
    go None s = s
    go (Some f) s =
        absurd (true≢false (sym (first_so (not (is_some (finished_in maps map.id))) (is_well_formed (finished_in maps) map local) may) ∙ ap
        (λ (o : Option Finished). not (is_some (option_map placed_of o))) s))

pub empty_index : (maps : Store) (dependents : Dependents) → maps.entries ≡ [] → ((on id : MapId) → is_dependent dependents on id ≡ false)
    → IsIndexed dependents maps
empty_index maps dependents empty none = record {
  each = λ on id. none on id ∙ sym (ap (λ (es : List (MapId × Finished)). lists_of (lookup (is_id id) es) on) empty);
}

-- a map that isn't there depends on none
pub depends_on_none : (maps : Store) (dependents : Dependents) (id : MapId) → IsIndexed dependents maps → get map_order.ghosts.cmp maps id ≡ None → (on : MapId)
    → is_dependent dependents on id ≡ false
depends_on_none maps dependents id indexed none on = indexed.each on id ∙ ap (λ (o : Option Finished). lists_of o on) none

pub entered : (maps : Store) (old new : Dependents) (f : Finished) → IsIndexed old maps → Enters old new f.named.keys f.map.id → IsEntered new maps f
entered maps old new f indexed enters = record {
  each = λ on id. enters on id ∙ ap (λ (b : Bool). b || is_entry f.named.keys f.map.id on id) (indexed.each on id);
}

pub same_index : (maps : Store) (old new : Dependents) → IsIndexed old maps → IsSame old new → IsIndexed new maps
same_index maps old new indexed same = record { each = λ on id. same on id ∙ indexed.each on id }

-- maps with the same entries have the same index
pub alike_index : (maps maps' : Store) (dependents : Dependents) → maps'.entries ≡ maps.entries → IsIndexed dependents maps → IsIndexed dependents maps'
alike_index maps maps' dependents same indexed = record { each = λ on id. indexed.each on id ∙ sym (alike on id) }
  where
    alike : (on id : MapId) → lists_in maps' id on ≡ lists_in maps id on
    alike on id = ap (λ (es : List (MapId × Finished)). lists_of (lookup (is_id id) es) on) same

-- an entered map joins
pub joined_index : (maps maps' : Store) (dependents : Dependents) (f : Finished) → get map_order.ghosts.cmp maps f.map.id ≡ None → IsEntered dependents maps f
    → Updates map_order.ghosts.cmp maps maps' f.map.id (Some f) → IsIndexed dependents maps'
joined_index maps maps' dependents f absent entered updates =
    record { each = λ on id. entered.each on id ∙ sym (ap (λ (o : Option Finished). lists_of o on) (updates.0 id) ∙ go on id (is_id f.map.id id) refl) }
  where
    go : (on id : MapId) (b : Bool) → is_id f.map.id id ≡ b
        → lists_of (cond b (Some f) (get map_order.ghosts.cmp maps id)) on ≡ (lists_in maps id on || is_entry f.named.keys f.map.id on id)
    go on id true s =
        sym (ap (λ (b : Bool). list_any (is_id on) f.named.keys && b) s ∙ and-true (list_any (is_id on) f.named.keys))
        ∙ ap (λ (b : Bool). b || is_entry f.named.keys f.map.id on id)
        (sym (ap (λ (o : Option Finished). lists_of o on) (sym (ap (get map_order.ghosts.cmp maps) (same_id f.map.id id s)) ∙ absent)))
    go on id false s =
        sym (ap (λ (b : Bool). lists_in maps id on || (list_any (is_id on) f.named.keys && b)) s ∙ none (lists_in maps id on)
        (list_any (is_id on) f.named.keys))
      where
        none : (a b : Bool) → (a || (b && false)) ≡ a
        none true b = refl
        none false true = refl
        none false false = refl

-- an entered map that doesn't join is taken out
pub refused_index : (maps : Store) (old new : Dependents) (f : Finished) → get map_order.ghosts.cmp maps f.map.id ≡ None → IsEntered old maps f
    → Leaves old new f.named.keys f.map.id → IsIndexed new maps
refused_index maps old new f absent entered leaves = record {
  each = λ on id.
      leaves on id
      ∙ ap (λ (b : Bool). b && not (is_entry f.named.keys f.map.id on id)) (entered.each on id)
      ∙ go on id (is_id f.map.id id) refl;
}
  where
    go : (on id : MapId) (b : Bool) → is_id f.map.id id ≡ b
        → ((lists_in maps id on || (list_any (is_id on) f.named.keys && is_id f.map.id id)) && not (list_any (is_id on) f.named.keys && is_id f.map.id id))
        ≡ lists_in maps id on
    go on id true s =
        let gone : lists_in maps id on ≡ false = ap (λ (o : Option Finished). lists_of o on) (sym (ap (get map_order.ghosts.cmp maps) (same_id f.map.id id s)) ∙
        absent) in
        ap (λ (a : Bool). (a || (list_any (is_id on) f.named.keys && is_id f.map.id id)) && not (list_any (is_id on) f.named.keys && is_id f.map.id id)) gone
        ∙ none (list_any (is_id on) f.named.keys && is_id f.map.id id)
        ∙ sym gone
      where
        none : (a : Bool) → (a && not a) ≡ false
        none true = refl
        none false = refl
    go on id false s =
        ap (λ (c : Bool). (lists_in maps id on || (list_any (is_id on) f.named.keys && c)) && not (list_any (is_id on) f.named.keys && c)) s
        ∙ all (lists_in maps id on) (list_any (is_id on) f.named.keys)
      where
        all : (a b : Bool) → ((a || (b && false)) && not (b && false)) ≡ a
        all true true = refl
        all true false = refl
        all false true = refl
        all false false = refl

-- a map that is taken away is taken out
pub removed_index : (maps maps' : Store) (old new : Dependents) (f : Finished) (id : MapId) → get map_order.ghosts.cmp maps id ≡ Some f → IsIndexed old maps
    → Updates map_order.ghosts.cmp maps maps' id None → Leaves old new f.named.keys id → IsIndexed new maps'
removed_index maps maps' old new f id there indexed updates leaves = record {
  each = λ on k.
      leaves on k
      ∙ ap (λ (b : Bool). b && not (is_entry f.named.keys id on k)) (indexed.each on k)
      ∙ go on k (is_id id k) refl
      ∙ sym (ap (λ (o : Option Finished). lists_of o on) (updates.0 k));
}
  where
    go : (on k : MapId) (b : Bool) → is_id id k ≡ b
        → (lists_in maps k on && not (list_any (is_id on) f.named.keys && is_id id k)) ≡ lists_of (cond b None (get map_order.ghosts.cmp maps k)) on
    go on k true s =
        ap (λ (o : Option Finished). lists_of o on && not (list_any (is_id on) f.named.keys && is_id id k))
        (sym (ap (get map_order.ghosts.cmp maps) (same_id id k s)) ∙ there)
        ∙ ap (λ (c : Bool). list_any (is_id on) f.named.keys && not (list_any (is_id on) f.named.keys && c)) s
        ∙ none (list_any (is_id on) f.named.keys)
      where
        none : (a : Bool) → (a && not (a && true)) ≡ false
        none true = refl
        none false = refl
    go on k false s =
        ap (λ (c : Bool). lists_in maps k on && not (list_any (is_id on) f.named.keys && c)) s
        ∙ all (lists_in maps k on) (list_any (is_id on) f.named.keys)
      where
        all : (a b : Bool) → (a && not (b && false)) ≡ a
        all true true = refl
        all true false = refl
        all false b = refl
