-- A table whose equality is that of plain values, seen as the list of those.
use Rattle.std.proofs.Common.{◌≡◌, ◌↔◌, ℕ, zero, suc, Bool, true, false, List, [], ◌∷◌, ◌++◌, length, Option, Some, None, Result, Ok, Err, cond, refl, sym, ap}
use Rattle.std.proofs.Common.{◌∙◌, rules, slice_get, map, option_map, Decides, OnOk, OnErr, IfOk}
use Rattle.std.specs.Cmp.{IsEquivalence}
use Rattle.std.specs.List.{IsDistinct, list_any}
use Rattle.std.proofs.lemmas.Option.{slice_get-map}
use Rattle.std.proofs.lemmas.List.{length-map}
use Rattle.hir_base.specs.Locations.{max_locations, IsNumberOf, KeepsNumbers, with_value}
use Rattle.hir_tables.specs.Interning.{HasNumber, Interns, had_number, gets_next, IsFull, IsOnce}
use Rattle.hir_tables.proofs.InternerLemmas.{has_number, no_number, one_number}

-- a value that is put behind the others leaves them their numbers
kept_by_append : {W : Type 0} (values : List W) (value : W) → KeepsNumbers values (values ++ value ∷ [])
kept_by_append [] value number stored at = search rules
kept_by_append (v ∷ vs) value zero stored at = at
kept_by_append (v ∷ vs) value (suc number) stored at = kept_by_append vs value number stored at

kept_interned : {W : Type 0} (old new : List W) (value : W) → Interns old new value → KeepsNumbers old new
kept_interned old new value (had_number has same) = λ n v at. rw same at
kept_interned old new value (gets_next hasnt grown) = λ n v at. rw grown (kept_by_append old value n v at)

-- ---- plain values, lists of them, and ids

pub record IsPlain {V W : Type 0} (eq : V → V → Bool) (plain : V → W) (plains : List V → List W) : Type 0 where
  pub laws : IsEquivalence eq
  pub decides : (a b : V) → Decides (eq a b) (plain a ≡ plain b)
  pub gets : (values : List V) (n : ℕ) → slice_get (plains values) n ≡ option_map plain (slice_get values n)
  pub lengths : (values : List V) → length (plains values) ≡ length values
  pub appends : (values : List V) (value : V) → plains (values ++ value ∷ []) ≡ plains values ++ plain value ∷ []

same_option : {V : Type 0} (o : Option V) → o ≡ option_map (λ v. v) o
same_option None = refl
same_option (Some v) = refl

map-append_one : {V W : Type 0} (f : V → W) (values : List V) (value : V) → map f (values ++ value ∷ []) ≡ map f values ++ f value ∷ []
map-append_one f [] value = refl
map-append_one f (v ∷ vs) value = ap (λ ws. f v ∷ ws) (map-append_one f vs value)

-- values that are plain themselves
pub IsPlain-itself : {V : Type 0} (eq : V → V → Bool) → IsEquivalence eq → ((a b : V) → Decides (eq a b) (a ≡ b)) → IsPlain eq (λ v. v) (λ vs. vs)
IsPlain-itself eq laws decides = record {
  laws = laws;
  decides = decides;
  gets = λ values n. same_option (slice_get values n);
  lengths = λ values. refl;
  appends = λ values value. refl;
}

-- values that are mapped to plain ones
pub IsPlain-mapped : {V W : Type 0} (eq : V → V → Bool) (plain : V → W) → IsEquivalence eq → ((a b : V) → Decides (eq a b) (plain a ≡ plain b))
    → IsPlain eq plain (map plain)
IsPlain-mapped eq plain laws decides = record {
  laws = laws;
  decides = decides;
  gets = slice_get-map plain;
  lengths = λ values. length-map values plain;
  appends = map-append_one plain;
}

-- ids and their numbers
pub record IsId {I : Type 0} (to : ℕ → I) (from : I → ℕ) : Type 0 where
  pub back : (n : ℕ) → from (to n) ≡ n
  pub forth : (id : I) → to (from id) ≡ id

-- the id in place of the number
abbrev pub as_id : {I E : Type 0} → (ℕ → I) → Result ℕ E → Result I E
as_id to (Ok n) = Ok (to n)
as_id to (Err e) = Err e

module _ {V W : Type 0} {eq : V → V → Bool} {plain : V → W} {plains : List V → List W} (p : IsPlain eq plain plains) where
  -- the number of a value means its plain value
  pub means : (values : List V) (value : V) (n : ℕ) → IsNumberOf eq values value n → slice_get (plains values) n ≡ Some (plain value)
  means values value n h =
      p.gets values n ∙ ap (option_map plain) h.1 ∙ ap Some (sym ((p.decides value h.0).0 h.2))

  numbered_in : (o : Option V) (value : V) → option_map plain o ≡ Some (plain value) → (stored : V) × (o ≡ Some stored) × (eq value stored ≡ true)
  numbered_in None value e = absurd cc
  numbered_in (Some s) value e = let same : plain s ≡ plain value = cc in (s, refl, (p.decides value s).1 (sym same))

  -- and only its numbers do
  pub numbers : (values : List V) (value : V) (n : ℕ) → slice_get (plains values) n ≡ Some (plain value) → IsNumberOf eq values value n
  numbers values value n at = numbered_in (slice_get values n) value (sym (p.gets values n) ∙ at)

  stored_in : (o : Option V) (w : W) → option_map plain o ≡ Some w → (v : V) × (o ≡ Some v) × (plain v ≡ w)
  stored_in None w e = absurd cc
  stored_in (Some s) w e = (s, refl, cc)

  pub IsOnce-distinct : (values : List V) → IsDistinct eq values → IsOnce (plains values)
  IsOnce-distinct values distinct m n w at_m at_n =
      let s = stored_in (slice_get values m) w (sym (p.gets values m) ∙ at_m) in
      one_number eq p.laws values s.0 m n distinct (numbers values s.0 m (at_m ∙ ap Some (sym s.2))) (numbers values s.0 n (at_n ∙ ap Some (sym s.2)))

  absent : (values : List V) (value : V) → list_any (eq value) values ≡ false → ¬ HasNumber (plains values) (plain value)
  absent values value none = λ h. no_number eq p.laws values value h.0 none (numbers values value h.0 h.1)

  present : (values : List V) (value : V) → list_any (eq value) values ≡ true → HasNumber (plains values) (plain value)
  present values value some = let h = has_number eq p.laws values value some in (h.0, means values value h.0 h.1)

  Interns-with_value : (old new : List V) (value : V) → new ≡ with_value eq old value → Interns (plains old) (plains new) (plain value)
  Interns-with_value old new value e = go (list_any (eq value) old) refl e
    where
      go : (b : Bool) → list_any (eq value) old ≡ b → new ≡ cond b old (old ++ value ∷ []) → Interns (plains old) (plains new) (plain value)
      go true s e = had_number (present old value s) (ap plains e)
      go false s e = gets_next (absent old value s) (ap plains e ∙ p.appends old value)

  IsFull-absent : (values : List V) (value : V) → (length values ≡ max_locations) × (list_any (eq value) values ≡ false) → IsFull (plains values) (plain value)
  IsFull-absent values value h = record { absent = absent values value h.1; full = p.lengths values ∙ h.0 }

  absent-IsFull : (values : List V) (value : V) → IsFull (plains values) (plain value) → (length values ≡ max_locations) × (list_any (eq value) values ≡ false)
  absent-IsFull values value f = (sym (p.lengths values) ∙ f.full, go (list_any (eq value) values) refl)
    where
      go : (b : Bool) → list_any (eq value) values ≡ b → b ≡ false
      go true s = absurd (f.absent (present values value s))
      go false s = refl

  -- what was there keeps its number, whatever is answered
  pub KeepsNumbers-interned : {E : Type 0} (old new : List V) (value : V) (r : Result ℕ E)
      → OnOk r (new ≡ with_value eq old value) → OnErr r (new ≡ old) → KeepsNumbers (plains old) (plains new)
  KeepsNumbers-interned old new value (Ok n) ok err = kept_interned (plains old) (plains new) (plain value) (Interns-with_value old new value ok)
  KeepsNumbers-interned old new value (Err e) ok err = λ n v at. rw (ap plains err) at

  module _ {I : Type 0} {to : ℕ → I} {from : I → ℕ} (ids : IsId to from) where
    -- the number that is found is the one that means the value
    pub number_means : (values : List V) (value : V) (r : Option ℕ) → ((n : ℕ) → (r ≡ Some n) ↔ IsNumberOf eq values value n)
        → (id : I) → (option_map to r ≡ Some id) ↔ (slice_get (plains values) (from id) ≡ Some (plain value))
    number_means values value r is id = (
      λ e. means values value (from id) ((is (from id)).0 (there r e)),
      λ at. ap (option_map to) ((is (from id)).1 (numbers values value (from id) at)) ∙ ap Some (ids.forth id),
    )
      where
        there : (r : Option ℕ) → option_map to r ≡ Some id → r ≡ Some (from id)
        there None e = absurd cc
        there (Some n) e = let same : to n ≡ id = cc in ap Some (sym (ids.back n) ∙ ap from same)

    pub id_means : {E : Type 0} (new : List V) (value : V) (r : Result ℕ E) → IfOk r (λ n. IsNumberOf eq new value n)
        → IfOk (as_id to r) (λ id. slice_get (plains new) (from id) ≡ Some (plain value))
    id_means new value (Ok n) found = rw (ids.back n) (means new value n found)
    id_means new value (Err e) found = tt

    -- a value that has a number is answered it, and nothing changes
    pub id_again : {E : Type 0} (old new : List V) (value : V) (r : Result ℕ E) → ((n : ℕ) → IsNumberOf eq old value n → (r ≡ Ok n) × (new ≡ old))
        → (id : I) → slice_get (plains old) (from id) ≡ Some (plain value) → (as_id to r ≡ Ok id) × (plains new ≡ plains old)
    id_again old new value r is id at =
        let both = is (from id) (numbers old value (from id) at) in
        (ap (as_id to) both.0 ∙ ap Ok (ids.forth id), ap plains both.1)

    pub id_grown : {E : Type 0} (old new : List V) (value : V) (r : Result ℕ E) → OnOk r (new ≡ with_value eq old value)
        → OnOk (as_id to r) (Interns (plains old) (plains new) (plain value))
    id_grown old new value (Ok n) ok = Interns-with_value old new value ok
    id_grown old new value (Err e) ok = tt

    pub id_too_many : {E : Type 0} (old : List V) (value : V) (r : Result ℕ E) (e : E)
        → (r ≡ Err e) ↔ ((length old ≡ max_locations) × (list_any (eq value) old ≡ false)) → (as_id to r ≡ Err e) ↔ IsFull (plains old) (plain value)
    id_too_many {E} old value r e is =
        (λ same. IsFull-absent old value (is.0 (there r same)), λ full. ap (as_id to) (is.1 (absent-IsFull old value full)))
      where
        there : (r : Result ℕ E) → as_id to r ≡ Err e → r ≡ Err e
        there (Ok n) same = absurd cc
        there (Err f) same = let one : f ≡ e = cc in ap Err one
