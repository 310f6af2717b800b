-- Whether two texts are in one place in the order.
use Rattle.std.specs.Prelude.{◌≡◌, ◌≢◌, ℕ, List, true, false}
use Rattle.std.specs.Ordering.{nat_cmp, is_eq, ordering_reverse}
use Rattle.std.specs.Cmp.Lexicographic.{slice_cmp}
use Rattle.std.specs.BTreeMap.{is_at}
use Rattle.std.specs.declared.cmp.Ordering.{Ordering}
use Rattle.std.specs.declared.cmp.Ordering.TheVariants.{Less, Equal, Greater}
use Rattle.std.proofs.Common.{refl, ap}
use Rattle.std.proofs.lemmas.Cmp.{nat_list_cmp_total}
use Rattle.std.proofs.lemmas.Map.Lookups.{exact_bytes}

equal_to_itself : (o : Ordering) → o ≡ ordering_reverse o → o ≡ Equal
equal_to_itself Less e = absurd cc
equal_to_itself Equal e = refl
equal_to_itself Greater e = absurd cc

pub same_text : (name : List ℕ) → is_at (slice_cmp nat_cmp name) name ≡ true
same_text name = ap is_eq (equal_to_itself (slice_cmp nat_cmp name name) (nat_list_cmp_total.antisymm name name))

unlike : (o : Ordering) → o ≢ Equal → is_eq o ≡ false
unlike Less ne = refl
unlike Equal ne = absurd (ne refl)
unlike Greater ne = refl

pub other_text : (x y : List ℕ) → x ≢ y → is_at (slice_cmp nat_cmp x) y ≡ false
other_text x y ne = unlike (slice_cmp nat_cmp x y) (λ e. ne (exact_bytes x y e))
