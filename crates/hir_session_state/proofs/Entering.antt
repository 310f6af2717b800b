-- Places are entered at keys, and taken out, one key after another.
use Rattle.std.proofs.Common.{◌≡◌, ◌∙◌, ap, sym, refl, Bool, true, false, not, ◌&&◌, ◌||◌, cond, nat_eq, Option, Some, None, List, [], ◌∷◌}
use Rattle.std.specs.List.{list_any}
use Rattle.std.specs.Option.{UnwrapsOrElse}
use Rattle.std.specs.BTreeMap.{is_at}
use Rattle.std.specs.declared.cmp.Ordering.{Ordering}
use Rattle.std.proofs.lemmas.List.Folds.{list_any-append}
use Rattle.hir_collector_rules.specs.HirIds.declared.ids.Crate.{Crate}
use Rattle.hir_collector_rules.specs.HirIds.declared.ids.MapId.{MapId}
use Rattle.hir_collector_rules.specs.HirIds.contracts.ids.MapIdOrd.TheImpl as map_order
use Rattle.hir_collector_rules.specs.HirTables.Tables.{TablesValue}
use Rattle.hir_collector_rules.specs.Asked.{IsOwnPart}
use Rattle.hir_collector_rules.specs.Keys.{config_key, dependency_keys, keys_behind, map_key}
use Rattle.hir_collector_rules.specs.declared.source_database.Key.{Key}
use Rattle.hir_collector_rules.specs.contracts.source_database.KeyOrd.TheImpl as key_order
use Rattle.hir_session_state.specs.Askers.{Enters, IsSame, IsSameBut, Leaves}
use Rattle.hir_session_state.specs.Askers.{has_place, is_asked, is_asker, is_entry, is_first, is_in}
use Rattle.hir_session_state.specs.NumberCodes.{number_code}
use Rattle.hir_session_state.specs.SourceNumbers.{asked_number, asks, is_number}
use Rattle.hir_session_state.specs.Types.{Askers, KeyPlaces, SourceNumber}
use Rattle.hir_session_state.proofs.Ids.{equal_id, own_id}
use Rattle.hir_session_state.proofs.KeyIds.{equal_key, own_key}
use Rattle.hir_session_state.proofs.NumberLemmas.{codes_tie}
use Rattle.hir_session_state.proofs.Truth.{clash, and_right}

abbrev pub is_id : MapId → MapId → Bool
is_id id = is_at (map_order.ghosts.cmp id)

abbrev pub is_key : Key → Key → Bool
is_key key = is_at (key_order.ghosts.cmp key)

-- ---- one entry of a map

pub takes_one : (a b : Bool) → cond b true a ≡ (a || b)
takes_one true true = refl
takes_one true false = refl
takes_one false true = refl
takes_one false false = refl

pub loses_one : (a b : Bool) → cond b false a ≡ (a && not b)
loses_one true true = refl
loses_one true false = refl
loses_one false true = refl
loses_one false false = refl

pub or-false : (a : Bool) → (a || false) ≡ a
or-false true = refl
or-false false = refl

pub and-true : (a : Bool) → (a && true) ≡ a
and-true true = refl
and-true false = refl

pub and-false : (a : Bool) → (a && false) ≡ false
and-false true = refl
and-false false = refl

pub or-assoc : (a b c : Bool) → (a || (b || c)) ≡ ((a || b) || c)
or-assoc true b c = refl
or-assoc false b c = refl

module _ {K V : Type 0} (cmp : K → K → Ordering) (exact : (x y : K) → is_at (cmp x) y ≡ true → x ≡ y) (op : Bool → Bool → Bool)
    (none : (a : Bool) → op a false ≡ a) (f : Option V → Bool) (old : K → Option V) (k : K) (w : Option V) (b : Bool) (is : f w ≡ op (f (old k)) b) where
  -- what is read of the values of a map changes at one key
  pub changed_at : (q : K) (new : Option V) → new ≡ cond (is_at (cmp k) q) w (old q) → f new ≡ op (f (old q)) (is_at (cmp k) q && b)
  changed_at q new updates = ap f updates ∙ go (is_at (cmp k) q) refl
    where
      go : (s : Bool) → is_at (cmp k) q ≡ s → f (cond s w (old q)) ≡ op (f (old q)) (s && b)
      go true e = is ∙ ap (λ (x : K). op (f (old x)) b) (exact k q e)
      go false e = sym (none (f (old q)))

-- what was written and then taken out is gone
pub written_twice : {V : Type 0} (b : Bool) (mid old new w : Option V) → mid ≡ cond b w old → new ≡ cond b None mid → new ≡ cond b None old
written_twice {V} b mid old new w first second = second ∙ ap (cond b None) first ∙ go b
  where
    go : (b : Bool) → cond b None (cond b w old) ≡ cond b None old
    go true = refl
    go false = refl

-- nothing is taken out at a key that isn't there
pub absent_at : {K : Type 0} (cmp : K → K → Ordering) (exact : (x y : K) → is_at (cmp x) y ≡ true → x ≡ y) (has : K → Bool) (k : K) (b : Bool)
    → has k ≡ false → (q : K) → has q ≡ (has q && not (is_at (cmp k) q && b))
absent_at cmp exact has k b gone q = go (is_at (cmp k) q) refl
  where
    go : (s : Bool) → is_at (cmp k) q ≡ s → has q ≡ (has q && not (s && b))
    go true e =
        let none : has q ≡ false = sym (ap has (exact k q e)) ∙ gone in
        none ∙ sym (ap (λ (a : Bool). a && not (true && b)) none)
    go false e = sym (and-true (has q))

-- ---- the places at one key

-- a first place that isn't the one that is taken out is left
pub spared : (first : Option MapId) (id j : MapId) (had : Bool) → is_first first id ≡ false
    → (is_first first j || (had && not (is_id id j))) ≡ ((is_first first j || had) && not (is_id id j))
spared None id j had other = refl
spared (Some own) id j had other = go (is_id own j) refl (is_id id j) refl
  where
    go : (p : Bool) → is_id own j ≡ p → (q : Bool) → is_id id j ≡ q → (p || (had && not q)) ≡ ((p || had) && not q)
    go true e true f = clash (ap (is_id own) (equal_id id j f ∙ sym (equal_id own j e)) ∙ own_id own) other
    go true e false f = refl
    go false e q f = refl

-- ---- places that were made where there was none

pub made_places : (found : Option KeyPlaces) (before : KeyPlaces)
    → UnwrapsOrElse found (λ (made : KeyPlaces). (id : MapId) → has_place made id ≡ false) before
    → (id : MapId) → has_place before id ≡ is_in found id
made_places None before made id = made id
made_places (Some places) before is id = ap (λ (p : KeyPlaces). has_place p id) is

-- ---- one key

either_key : (a b : Key) → is_key a b ≡ is_key b a
either_key a b = go (is_key a b) refl (is_key b a) refl
  where
    turned : (a b : Key) → is_key a b ≡ true → is_key b a ≡ true
    turned a b e = ap (is_key b) (equal_key a b e) ∙ own_key b

    go : (p : Bool) → is_key a b ≡ p → (q : Bool) → is_key b a ≡ q → is_key a b ≡ is_key b a
    go true e q f = e ∙ sym (turned a b e)
    go false e true f = clash (turned b a f) e
    go false e false f = e ∙ sym f

-- one that asks for a source is entered there alone
pub one_entry : (tables : TablesValue) (key : Key) (number : SourceNumber) (own : MapId) → asked_number tables key ≡ Some number
    → (n : SourceNumber) (k : Key) (id : MapId)
    → (nat_eq (number_code number) (number_code n) && (is_key key k && is_id own id)) ≡ is_entry tables (key ∷ []) own n k id
one_entry tables key number own is n k id = go (is_key key k) refl
  where
    bools : (x m : Bool) → (x && (true && m)) ≡ (((true || false) && x) && m)
    bools true m = refl
    bools false m = refl

    go : (b : Bool) → is_key key k ≡ b
        → (nat_eq (number_code number) (number_code n) && (b && is_id own id)) ≡ (((is_key k key || false) && asks tables n k) && is_id own id)
    go true e =
        bools (nat_eq (number_code number) (number_code n)) (is_id own id)
        ∙ ap (λ (x : Bool). ((true || false) && x) && is_id own id)
        (codes_tie number n ∙ ap (is_number n) (sym is) ∙ ap (asks tables n) (equal_key key k e))
        ∙ ap (λ (b : Bool). ((b || false) && asks tables n k) && is_id own id) (sym (either_key k key ∙ e))
    go false e =
        and-false (nat_eq (number_code number) (number_code n))
        ∙ ap (λ (b : Bool). ((b || false) && asks tables n k) && is_id own id) (sym (either_key k key ∙ e))

-- and one that asks for none nowhere
pub no_entry : (tables : TablesValue) (key : Key) (own : MapId) → asked_number tables key ≡ None → (n : SourceNumber) (k : Key) (id : MapId)
    → is_entry tables (key ∷ []) own n k id ≡ false
no_entry tables key own none n k id = go (is_key k key) refl
  where
    go : (b : Bool) → is_key k key ≡ b → (((b || false) && asks tables n k) && is_id own id) ≡ false
    go true e = ap (λ (b : Bool). (true && b) && is_id own id) (ap (asks tables n) (equal_key k key e) ∙ ap (is_number n) none)
    go false e = refl

pub enters_none : (tables : TablesValue) (askers : Askers) (key : Key) (own : MapId) → asked_number tables key ≡ None
    → Enters tables askers askers (key ∷ []) own
enters_none tables askers key own none n k id =
    sym (ap (λ (b : Bool). is_asker askers n k id || b) (no_entry tables key own none n k id) ∙ or-false (is_asker askers n k id))

pub leaves_none : (tables : TablesValue) (askers : Askers) (key : Key) (own : MapId) → asked_number tables key ≡ None
    → Leaves tables askers askers (key ∷ []) own
leaves_none tables askers key own none n k id =
    sym (ap (λ (b : Bool). is_asker askers n k id && not b) (no_entry tables key own none n k id) ∙ and-true (is_asker askers n k id))

-- ---- one key after another

-- what was and is to be entered is what is and is left
pub record IsEntering (tables : TablesValue) (old now : Askers) (all left : List Key) (own : MapId) : Type 0 where
  pub half : (n : SourceNumber) (k : Key) (id : MapId)
      → (is_asker old n k id || is_entry tables all own n k id) ≡ (is_asker now n k id || is_entry tables left own n k id)
  pub grows : (n : SourceNumber) (k : Key) (id : MapId) → is_asker old n k id ≡ true → is_asker now n k id ≡ true

pub entering-start : (tables : TablesValue) (old : Askers) (all : List Key) (own : MapId) → IsEntering tables old old all all own
entering-start tables old all own = record { half = λ n k id. refl; grows = λ n k id e. e }

pub entering-step : (tables : TablesValue) (old now new : Askers) (all before left : List Key) (own : MapId) (next : Key) → before ≡ next ∷ left
    → IsEntering tables old now all before own → Enters tables now new (next ∷ []) own → IsEntering tables old new all left own
entering-step tables old now new all before left own next taken half one = record {
  half = λ n k id.
      half.half n k id
      ∙ ap (λ (xs : List Key). is_asker now n k id || is_entry tables xs own n k id) taken
      ∙ split (is_asker now n k id) (is_key k next) (list_any (is_key k) left) (asks tables n k) (is_id own id)
      ∙ ap (λ (b : Bool). b || is_entry tables left own n k id) (sym (one n k id));
  grows = λ n k id e. one n k id ∙ ap (λ (b : Bool). b || is_entry tables (next ∷ []) own n k id) (half.grows n k id e);
}
  where
    split : (a p q c d : Bool) → (a || (((p || q) && c) && d)) ≡ ((a || (((p || false) && c) && d)) || ((q && c) && d))
    split true p q c d = refl
    split false true q true true = refl
    split false true true true false = refl
    split false true false true false = refl
    split false true true false d = refl
    split false true false false d = refl
    split false false q c d = refl

pub entering-end : (tables : TablesValue) (old new : Askers) (all left : List Key) (own : MapId) → left ≡ [] → IsEntering tables old new all left own
    → Enters tables old new all own
entering-end tables old new all left own end half n k id =
    sym (half.half n k id ∙ ap (λ (xs : List Key). is_asker new n k id || is_entry tables xs own n k id) end ∙ or-false (is_asker new n k id))

-- whatever is left, nothing else has changed
pub entering-others : (tables : TablesValue) (old now : Askers) (all left : List Key) (own : MapId) → IsEntering tables old now all left own
    → IsSameBut tables old now all own
entering-others tables old now all left own half n k id e = go (is_asker now n k id) refl (is_asker old n k id) refl
  where
    go : (a : Bool) → is_asker now n k id ≡ a → (b : Bool) → is_asker old n k id ≡ b → is_asker now n k id ≡ is_asker old n k id
    go a s true t = half.grows n k id t ∙ sym t
    go false s false t = s ∙ sym t
    go true s false t =
        clash (half.half n k id ∙ ap (λ (b : Bool). b || is_entry tables left own n k id) s)
        (ap (λ (b : Bool). b || is_entry tables all own n k id) t ∙ e)

pub others_same : (tables : TablesValue) (old now new : Askers) (all : List Key) (own : MapId) → IsSameBut tables old now all own → IsSame now new
    → IsSameBut tables old new all own
others_same tables old now new all own others same n k id e = same n k id ∙ others n k id e

-- what was, without what is to be taken out, is what is without what is left
pub record IsLeaving (tables : TablesValue) (old now : Askers) (all left : List Key) (own : MapId) : Type 0 where
  pub half : (n : SourceNumber) (k : Key) (id : MapId)
      → (is_asker old n k id && not (is_entry tables all own n k id)) ≡ (is_asker now n k id && not (is_entry tables left own n k id))

pub leaving-start : (tables : TablesValue) (old : Askers) (all : List Key) (own : MapId) → IsLeaving tables old old all all own
leaving-start tables old all own = record { half = λ n k id. refl }

pub leaving-step : (tables : TablesValue) (old now new : Askers) (all before left : List Key) (own : MapId) (next : Key) → before ≡ next ∷ left
    → IsLeaving tables old now all before own → Leaves tables now new (next ∷ []) own → IsLeaving tables old new all left own
leaving-step tables old now new all before left own next taken half one = record {
  half = λ n k id.
      half.half n k id
      ∙ ap (λ (xs : List Key). is_asker now n k id && not (is_entry tables xs own n k id)) taken
      ∙ split (is_asker now n k id) (is_key k next) (list_any (is_key k) left) (asks tables n k) (is_id own id)
      ∙ ap (λ (b : Bool). b && not (is_entry tables left own n k id)) (sym (one n k id));
}
  where
    split : (a p q c d : Bool) → (a && not (((p || q) && c) && d)) ≡ ((a && not (((p || false) && c) && d)) && not ((q && c) && d))
    split false p q c d = refl
    split true true q true true = refl
    split true true true true false = refl
    split true true false true false = refl
    split true true true false d = refl
    split true true false false d = refl
    split true false q c d = refl

pub leaving-end : (tables : TablesValue) (old new : Askers) (all left : List Key) (own : MapId) → left ≡ [] → IsLeaving tables old new all left own
    → Leaves tables old new all own
leaving-end tables old new all left own end half n k id =
    sym (half.half n k id ∙ ap (λ (xs : List Key). is_asker new n k id && not (is_entry tables xs own n k id)) end ∙ and-true (is_asker new n k id))

-- a place that was entered in part is taken out again
pub rolled_back : (tables : TablesValue) (old now new : Askers) (all : List Key) (own : MapId)
    → ((n : SourceNumber) (k : Key) → is_asker old n k own ≡ false) → IsSameBut tables old now all own → Leaves tables now new all own → IsSame old new
rolled_back tables old now new all own fresh others leaves n k id = leaves n k id ∙ go (is_entry tables all own n k id) refl
  where
    go : (b : Bool) → is_entry tables all own n k id ≡ b → (is_asker now n k id && not b) ≡ is_asker old n k id
    go false s = and-true (is_asker now n k id) ∙ others n k id s
    go true s =
        and-false (is_asker now n k id)
        ∙ sym (fresh n k)
        ∙ ap (is_asker old n k) (equal_id own id (and_right (is_asked tables all n k) (is_id own id) s))

-- one that was entered whole is the same as one that was entered in part
pub entered_part : (tables : TablesValue) (old now : Askers) (all : List Key) (own : MapId) → Enters tables old now all own → IsSameBut tables old now all own
entered_part tables old now all own enters n k id e =
    enters n k id ∙ ap (λ (b : Bool). is_asker old n k id || b) e ∙ or-false (is_asker old n k id)

-- ---- all keys of a run

-- a key that asks for no source is apart from one that does
apart_key : (tables : TablesValue) (n : SourceNumber) (k other : Key) → asks tables n k ≡ true → asks tables n other ≡ false → is_key k other ≡ false
apart_key tables n k other on off = go (is_key k other) refl
  where
    go : (b : Bool) → is_key k other ≡ b → b ≡ false
    go true e = clash on (ap (asks tables n) (equal_key k other e) ∙ off)
    go false e = refl

-- no key of a crate asks for a source
of_dependencies : (tables : TablesValue) (crates : List Crate) (n : SourceNumber) (k : Key) → asks tables n k ≡ true
    → list_any (is_key k) (dependency_keys crates) ≡ false
of_dependencies tables [] n k on = refl
of_dependencies tables (c ∷ cs) n k on =
    ap (λ (b : Bool). b || (is_key k (config_key c) || list_any (is_key k) (dependency_keys cs))) (apart_key tables n k (map_key c) on refl)
    ∙ ap (λ (b : Bool). b || list_any (is_key k) (dependency_keys cs)) (apart_key tables n k (config_key c) on refl)
    ∙ of_dependencies tables cs n k on

of_behind : (tables : TablesValue) (krate : Crate) (crates : List Crate) (n : SourceNumber) (k : Key) → asks tables n k ≡ true
    → list_any (is_key k) (keys_behind krate crates) ≡ false
of_behind tables krate crates n k on =
    ap (λ (b : Bool). b || list_any (is_key k) (dependency_keys crates)) (apart_key tables n k (config_key krate) on refl)
    ∙ of_dependencies tables crates n k on

-- so the keys of the steps ask for what all keys do
pub asked_own : (tables : TablesValue) (own all : List Key) → IsOwnPart own all → (n : SourceNumber) (k : Key) → is_asked tables own n k
    ≡ is_asked tables all n k
asked_own tables own all part n k = go (asks tables n k) refl
  where
    go : (b : Bool) → asks tables n k ≡ b → (list_any (is_key k) own && b) ≡ (list_any (is_key k) all && b)
    go true on = ap (λ (b : Bool). b && true) (sym (
        ap (list_any (is_key k)) part.is
        ∙ list_any-append (is_key k) own (keys_behind part.krate part.dependencies)
        ∙ ap (λ (b : Bool). list_any (is_key k) own || b) (of_behind tables part.krate part.dependencies n k on)
        ∙ or-false (list_any (is_key k) own)))
    go false off = and-false (list_any (is_key k) own) ∙ sym (and-false (list_any (is_key k) all))

pub enters_all : (tables : TablesValue) (old new : Askers) (own all : List Key) (id : MapId) → IsOwnPart own all → Enters tables old new own id
    → Enters tables old new all id
enters_all tables old new own all id part enters n k j =
    enters n k j ∙ ap (λ (b : Bool). is_asker old n k j || (b && is_id id j)) (asked_own tables own all part n k)

pub leaves_all : (tables : TablesValue) (old new : Askers) (own all : List Key) (id : MapId) → IsOwnPart own all → Leaves tables old new own id
    → Leaves tables old new all id
leaves_all tables old new own all id part leaves n k j =
    leaves n k j ∙ ap (λ (b : Bool). is_asker old n k j && not (b && is_id id j)) (asked_own tables own all part n k)
