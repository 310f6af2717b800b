-- What does one list of entries hold for the names of a scope?
use Rattle.std.specs.Prelude.{ℕ, Bool, false, not, ◌||◌, List, [], ◌∷◌, Option, None, Some, is_some, cond, option_map}
use Rattle.std.specs.BTreeMap.{is_at}
use Rattle.std.specs.Ordering.{nat_cmp}
use Rattle.std.specs.Cmp.Lexicographic.{slice_cmp}
use Rattle.std.specs.declared.cmp.Ordering.{Ordering}
use Rattle.std.specs.Borrow.{Bor}

-- what a name stands for in each namespace, and whether it is unresolved
pub record Slots (T V M : Type 0) : Type 0 where
  pub types : Option T
  pub values : Option V
  pub macros : Option M
  pub unresolved : Bool

-- the entries of a scope: a name, and its slots
abbrev pub NamedSlots : Type 0 → Type 0 → Type 0 → Type 0
NamedSlots T V M = List (List ℕ × Slots T V M)

-- whether an entry says nothing of its name
abbrev pub is_vacant : {T V M : Type 0} → Slots T V M → Bool
is_vacant slots = not (is_some slots.types || (is_some slots.values || (is_some slots.macros || slots.unresolved)))

-- a key with its value before others, if it has one
abbrev pub before_others : {K X : Type 0} → K → Option X → List (K × X) → List (K × X)
before_others key None others = others
before_others key (Some x) others = (key, x) ∷ others

-- of each entry that has something in a slot its key, and what that is
abbrev pub in_slot : {K E X : Type 0} → (E → Option X) → List (K × E) → List (K × X)
in_slot slot [] = []
in_slot slot (e ∷ es) = before_others e.0 (slot e.1) (in_slot slot es)

-- the keys of the entries of which a test holds
abbrev pub keys_where : {K E : Type 0} → (E → Bool) → List (K × E) → List K
keys_where test [] = []
keys_where test (e ∷ es) = cond (test e.1) (e.0 ∷ keys_where test es) (keys_where test es)

-- what the names of the entries stand for in each namespace
abbrev pub types_in : {T V M : Type 0} → NamedSlots T V M → List (List ℕ × T)
types_in es = in_slot (λ (s : Slots _ _ _). s.types) es

abbrev pub values_in : {T V M : Type 0} → NamedSlots T V M → List (List ℕ × V)
values_in es = in_slot (λ (s : Slots _ _ _). s.values) es

abbrev pub macros_in : {T V M : Type 0} → NamedSlots T V M → List (List ℕ × M)
macros_in es = in_slot (λ (s : Slots _ _ _). s.macros) es

-- the names that are unresolved
abbrev pub unresolved_in : {T V M : Type 0} → NamedSlots T V M → List (List ℕ)
unresolved_in es = keys_where (λ (s : Slots _ _ _). s.unresolved) es

-- a name with an item, if there is one
abbrev pub named : {X : Type 0} → List ℕ → Option X → Option (List ℕ × X)
named name item = option_map (λ x. (name, x)) item

-- what a slot of an entry that is lent has, if there is one
abbrev pub slot_found : {T V M X : Type 0} → (Slots T V M → Option X) → Option (Bor (List ℕ × Slots T V M)) → Option X
slot_found slot None = None
slot_found slot (Some entry) = slot entry.now.1

-- the slots of an entry that is lent, if there is one
abbrev pub entry_found : {T V M : Type 0} → Option (Bor (List ℕ × Slots T V M)) → Option (Slots T V M)
entry_found None = None
entry_found (Some entry) = Some entry.now.1
