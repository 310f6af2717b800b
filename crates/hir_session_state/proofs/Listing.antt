-- As places fall they are listed.
use Rattle.std.proofs.Common.{◌≡◌, ◌∙◌, ◌⊎◌, inl, inr, ap, sym, refl, Bool, true, false, not, ◌&&◌, ◌||◌, is_some, List, Option, Some, None}
use Rattle.std.specs.declared.alloc.Global.{Global}
use Rattle.std.specs.declared.vec.Vec.{Vec}
use Rattle.hir_collector_rules.specs.HirIds.declared.ids.MapId.{MapId}
use Rattle.hir_session_state.specs.Askers.{has_fallen, is_one, ListsFallen}
use Rattle.hir_session_state.specs.Kept.{Resolution, Resolutions, kept_in}
use Rattle.hir_session_state.proofs.Truth.{no_value}

or_none : (a : Bool) → (a || false) ≡ a
or_none true = refl
or_none false = refl

or_behind : (a b c : Bool) → ((a || b) || c) ≡ (a || (b || c))
or_behind true b c = refl
or_behind false b c = refl

none_twice : (a : Bool) → (a && not a) ≡ false
none_twice true = refl
none_twice false = refl

-- nothing fell
pub listing-start : (kept : Resolutions) (list : Option (Vec MapId Global)) → ListsFallen kept kept list list
listing-start kept None = tt
listing-start kept (Some list) = λ id.
    sym (ap (λ (b : Bool). is_one list.items id || b) (none_twice (is_some (kept_in kept id))) ∙ or_none (is_one list.items id))

-- what fell at first or then
fell_then : (o m n : Option Resolution) → (m ≡ o) ⊎ (m ≡ None) → (n ≡ m) ⊎ (n ≡ None)
    → ((is_some o && not (is_some m)) || (is_some m && not (is_some n))) ≡ (is_some o && not (is_some n))
fell_then None None n first more = refl
fell_then None (Some m) n (inl is) more = no_value (sym is)
fell_then None (Some m) n (inr is) more = no_value (sym is)
fell_then (Some o) None None first more = refl
fell_then (Some o) None (Some n) first (inl is) = no_value (sym is)
fell_then (Some o) None (Some n) first (inr is) = no_value (sym is)
fell_then (Some o) (Some m) n first more = refl

-- more fell
pub listing-more : (old mid new : Resolutions) (before now after : Option (Vec MapId Global))
    → ((id : MapId) → (kept_in mid id ≡ kept_in old id) ⊎ (kept_in mid id ≡ None))
    → ((id : MapId) → (kept_in new id ≡ kept_in mid id) ⊎ (kept_in new id ≡ None))
    → ListsFallen old mid before now → ListsFallen mid new now after → ListsFallen old new before after
listing-more old mid new before now None first then so_far more = tt
listing-more old mid new before None (Some after) first then so_far more = absurd more
listing-more old mid new None (Some now) (Some after) first then so_far more = absurd so_far
listing-more old mid new (Some before) (Some now) (Some after) first then so_far more = λ id.
    more id
    ∙ ap (λ (b : Bool). b || has_fallen mid new id) (so_far id)
    ∙ or_behind (is_one before.items id) (has_fallen old mid id) (has_fallen mid new id)
    ∙ ap (λ (b : Bool). is_one before.items id || b) (fell_then (kept_in old id) (kept_in mid id) (kept_in new id) (first id) (then id))
