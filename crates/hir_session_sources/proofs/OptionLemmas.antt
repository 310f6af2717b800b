use Rattle.std.proofs.Common.{◌≡◌, ℕ, ◌<◌, ◌+◌, Bool, true, false, ◌||◌, List, ◌∷◌, length, drop, get_or, drop-cons, add-one, refl, ap, subst, ◌∙◌}
use Rattle.std.specs.Cmp.Lexicographic.{nat_list_eq_equiv}
use Rattle.hir_session_state.specs.HirBase.CfgOptions.{same_atom, is_set, Sets}
use Rattle.hir_session_state.specs.HirBase.declared.cfg.CfgAtom.{CfgAtom}
use Rattle.hir_session_state.specs.HirBase.declared.cfg.CfgAtom.TheVariants.{Flag, KeyValue}

-- which of two options is named first is one to the test
same_atom-flip : (a b : CfgAtom) → same_atom a b ≡ same_atom b a
same_atom-flip (Flag n) (Flag m) = nat_list_eq_equiv.symm n m
same_atom-flip (KeyValue k v) (KeyValue l w) = rw (nat_list_eq_equiv.symm k l, nat_list_eq_equiv.symm v w) refl
same_atom-flip (Flag n) (KeyValue l w) = refl
same_atom-flip (KeyValue k v) (Flag m) = refl

shuffle : (s o r : Bool) → ((s || o) || r) ≡ (o || (s || r))
shuffle true true r = refl
shuffle true false r = refl
shuffle false o r = refl

-- an option that is set is no more among those that are still to be
set_next : (options next : List CfgAtom) (x : CfgAtom) (rest : List CfgAtom) → Sets options next x
    → (a : CfgAtom) → (is_set next a || is_set rest a) ≡ (is_set options a || is_set (x ∷ rest) a)
set_next options next x rest sets a =
    ap (λ (b : Bool). b || is_set rest a) (sets a)
    ∙ shuffle (same_atom x a) (is_set options a) (is_set rest a)
    ∙ ap (λ (b : Bool). is_set options a || (b || is_set rest a)) (same_atom-flip x a)

-- one more of a list is set
pub set_one_more : (options next atoms : List CfgAtom) (k : ℕ) (x other : CfgAtom) → k < length atoms → x ≡ get_or atoms k other → Sets options next x
    → (a : CfgAtom) → (is_set options a || is_set (drop k atoms) a) ≡ is_set atoms a → (is_set next a || is_set (drop (k + 1) atoms) a) ≡ is_set atoms a
set_one_more options next atoms k x other within is sets a so_far =
    let here : drop k atoms ≡ x ∷ drop (k + 1) atoms = rw (add-one, drop-cons atoms k other, is) refl in
    set_next options next x (drop (k + 1) atoms) sets a
    ∙ subst (λ (left : List CfgAtom). (is_set options a || is_set left a) ≡ is_set atoms a) here so_far
