use Rattle.std.proofs.Common.{◌≡◌, ◌≢◌, ℕ, Bool, true, false, Some, None, Result, Ok, Err, IfOk, OnOk, OnErr, ◌&&◌, ◌||◌, refl, nat_eq}
use Rattle.std.proofs.lemmas.Bool.{eqb-true, eqb-false}

-- true is not false
pub clash : {A : Type 0} {b : Bool} → b ≡ true → b ≡ false → A
clash true_is false_is = absurd (let wrong : ⊥ = cc in wrong)

pub or_left : (a b : Bool) → a ≡ true → (a || b) ≡ true
or_left true b h = refl
or_left false b h = clash h refl

pub or_right : (a b : Bool) → b ≡ true → (a || b) ≡ true
or_right true b h = refl
or_right false b h = h

pub or_rest : (a b : Bool) → (a || b) ≡ true → b ≡ false → a ≡ true
or_rest true b h off = refl
or_rest false b h off = clash h off

pub or_first : (a b : Bool) → (a || b) ≡ true → a ≡ false → b ≡ true
or_first true b h off = clash refl off
or_first false b h off = h

pub both_true : (a b : Bool) → a ≡ true → b ≡ true → (a && b) ≡ true
both_true a b x y = rw (x, y) refl

pub and_left : (a b : Bool) → (a && b) ≡ true → a ≡ true
and_left true b h = refl
and_left false b h = h

pub and_right : (a b : Bool) → (a && b) ≡ true → b ≡ true
and_right true b h = h
and_right false b h = clash h refl

-- a test of a Bool
pub on_bool : {A : Type 0} (b : Bool) → (b ≡ true → A) → (b ≡ false → A) → A
on_bool true f g = f refl
on_bool false f g = g refl

-- what holds at a place and at each other place
pub on_same : {A : Type 0} (j k : ℕ) → (j ≡ k → A) → (j ≢ k → A) → A
on_same j k f g = on_bool (nat_eq j k) (λ e. f (eqb-true j k e)) (λ e. g (eqb-false j k e))

-- what holds of a value that is there and gives something else
pub on_ok : {T E : Type 0} {P Q : T → Type 0} (r : Result T E) → ((x : T) → P x → Q x) → IfOk r P → IfOk r Q
on_ok (Ok x) f h = f x h
on_ok (Err e) f h = h

-- what follows from either end of a call
pub on_either : {A B C T E : Type 0} (r : Result T E) → OnOk r A → OnErr r B → (A → C) → (B → C) → C
on_either (Ok x) a b f g = f a
on_either (Err e) a b f g = g b

-- and from the good one
pub where_ok : {A C T E : Type 0} (r : Result T E) → OnOk r A → (A → C) → OnOk r C
where_ok (Ok x) a f = f a
where_ok (Err e) a f = a

-- and from the bad one
pub where_err : {A C T E : Type 0} (r : Result T E) → OnErr r A → (A → C) → OnErr r C
where_err (Ok x) a f = a
where_err (Err e) a f = f a

pub one_value : {A : Type 0} {x y : A} → Some x ≡ Some y → x ≡ y
one_value e = cc

pub one_error : {T E : Type 0} {x y : E} → ◌≡◌ {A = Result T E} (Err x) (Err y) → x ≡ y
one_error e = cc

pub no_value : {A B : Type 0} {x : A} → None ≡ Some x → B
no_value e = absurd (let wrong : ⊥ = cc in wrong)

pub no_error : {A T E : Type 0} {x : T} {y : E} → ◌≡◌ {A = Result T E} (Ok x) (Err y) → A
no_error e = absurd (let wrong : ⊥ = cc in wrong)
