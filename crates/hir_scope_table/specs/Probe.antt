-- Where does a name stand in a list, and how many comparisons may it take to find it?
use Rattle.std.specs.Prelude.{ℕ, ◌+◌, ◌/◌, zero, suc, List, [], ◌∷◌, Option, None, Some, option_map, cond}
use Rattle.std.specs.BTreeMap.{is_at}
use Rattle.std.specs.declared.cmp.Ordering.{Ordering}

-- how many binary digits a number has that has at most so many
abbrev pub digits_upto : ℕ → ℕ → ℕ
digits_upto zero n = 0
digits_upto (suc most) zero = 0
digits_upto (suc most) (suc n) = suc (digits_upto most (suc n / 2))

-- how many binary digits a number has; 0 has none
abbrev pub binary_digits : ℕ → ℕ
binary_digits n = digits_upto n n

-- the position of the first key that is equal to one
abbrev pub position_of : {K : Type 0} → (K → K → Ordering) → List K → K → Option ℕ
position_of cmp [] key = None
position_of cmp (k ∷ ks) key = cond (is_at (cmp key) k) (Some 0) (option_map (λ i. suc i) (position_of cmp ks key))
