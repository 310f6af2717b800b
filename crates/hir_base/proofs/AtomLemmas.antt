-- The order of options finds those that are the same.
use Rattle.std.proofs.Common.{◌≡◌, refl, ap, sym, ◌∙◌, Bool, true, false, List, [], ◌∷◌, ◌||◌, ◌==◌, ℕ, cond, subst, rules}
use Rattle.std.specs.List.{list_any}
use Rattle.std.specs.Ordering.{eq_by_cmp, is_eq}
use Rattle.hir_base.specs.Types.{CfgAtom}
use Rattle.hir_base.specs.declared.cfg.CfgAtom.TheVariants.{Flag, KeyValue}
use Rattle.hir_base.specs.contracts.cfg.CfgAtomPartialEq.TheImpl as equality
use Rattle.hir_base.specs.contracts.cfg.CfgAtomOrd.TheImpl as order
use Rattle.hir_base.specs.contracts.cfg.CfgAtomOrd.TheImpl.Laws.{matches_eq-law as ties}
use Rattle.hir_base.specs.contracts.cfg.CfgAtomOrd.TheImpl.Laws.{total-law as total}
use Rattle.std.specs.BTreeSet.{BTreeSet, IsOrdered}
use Rattle.std.specs.Bool.{Decides}
use Rattle.std.specs.Cmp.{unsigned_Decides}
use Rattle.std.specs.declared.cmp.Ordering.TheVariants.{Equal}
use Rattle.std.specs.Cmp.Lexicographic.{pointwise, pointwise_decides}
use Rattle.std.proofs.lemmas.Map.Lookups.{btree_set_from_contains}
use Rattle.hir_base.specs.SameCfg.{same_atom_Decides}
use Rattle.hir_base.specs.CfgOptions.{same_atom, is_set, Sets, SetAlike}

-- the derived equality is that of the texts
pub same_as_equal : (a b : CfgAtom) → equality.ghosts.eq a b ≡ same_atom a b
same_as_equal (Flag a) (Flag b) = search rules
same_as_equal (KeyValue a v) (KeyValue b w) = search rules
same_as_equal (Flag a) (KeyValue b w) = search rules
same_as_equal (KeyValue a v) (Flag b) = search rules

-- tied options are the same
pub same_as_tied : (a b : CfgAtom) → eq_by_cmp order.ghosts.cmp a b ≡ same_atom a b
same_as_tied a b = sym (ties a b) ∙ same_as_equal a b

-- an option is found by the order where it is set
pub found_by_order : (options : List CfgAtom) (a : CfgAtom) → list_any (eq_by_cmp order.ghosts.cmp a) options ≡ is_set options a
found_by_order [] a = refl
found_by_order (b ∷ options) a =
    ap (λ here. here || list_any (eq_by_cmp order.ghosts.cmp a) options) (same_as_tied a b) ∙ ap (λ others. same_atom a b || others) (found_by_order options a)

-- what is set, or else as before
pub cond_or : (first other : Bool) → cond first true other ≡ (first || other)
cond_or true other = refl
cond_or false other = refl

-- an insertion by the order sets the option, and no other
pub set_by_order : (old new : List CfgAtom) (a : CfgAtom)
    → ((b : CfgAtom) → list_any (eq_by_cmp order.ghosts.cmp b) new ≡ cond (eq_by_cmp order.ghosts.cmp a b) true (list_any (eq_by_cmp order.ghosts.cmp b) old))
    → Sets old new a
set_by_order old new a inserted b =
    sym (found_by_order new b) ∙ (inserted b ∙ (cond_or (eq_by_cmp order.ghosts.cmp a b) (list_any (eq_by_cmp order.ghosts.cmp b) old)
    ∙ (ap (λ here. here || list_any (eq_by_cmp order.ghosts.cmp b) old) (same_as_tied a b) ∙ ap (λ others. same_atom a b || others) (found_by_order old b))))

-- tied options are equal
pub tied_are_equal : (a b : CfgAtom) → order.ghosts.cmp a b ≡ Equal → a ≡ b
tied_are_equal a b tied = (same_atom_Decides a b).0 (sym (same_as_tied a b) ∙ ap is_eq tied)

-- ordered options are the same lists where they are alike
pub keys_of_alike : (s t : BTreeSet CfgAtom) → IsOrdered order.ghosts.cmp s → IsOrdered order.ghosts.cmp t → SetAlike s.keys t.keys → s.keys ≡ t.keys
keys_of_alike s t s_ordered t_ordered alike =
    btree_set_from_contains total s t s_ordered t_ordered (λ a. found_by_order s.keys a ∙ (alike a ∙ sym (found_by_order t.keys a))) tied_are_equal

-- the derived equality decides
pub equal_Decides : (a b : CfgAtom) → Decides (equality.ghosts.eq a b) (a ≡ b)
equal_Decides a b = subst (λ r. Decides r (a ≡ b)) (sym (same_as_equal a b)) (same_atom_Decides a b)

-- ordered options are equal just where they are alike
pub options_Decides : (s t : BTreeSet CfgAtom) → IsOrdered order.ghosts.cmp s → IsOrdered order.ghosts.cmp t
    → Decides (pointwise equality.ghosts.eq s.keys t.keys) (SetAlike s.keys t.keys)
options_Decides s t s_ordered t_ordered = (
  λ equal a. ap (λ keys. is_set keys a) ((pointwise_decides equal_Decides s.keys t.keys).0 equal),
  λ alike. (pointwise_decides equal_Decides s.keys t.keys).1 (keys_of_alike s t s_ordered t_ordered alike),
)

-- the same of the options as they are seen
pub alike_as_seen : (r : Bool) (keys others options options' : List CfgAtom) → keys ≡ options → others ≡ options'
    → Decides r (SetAlike keys others) → Decides r (SetAlike options options')
alike_as_seen r keys others options options' seen seen' decided =
    subst (λ os. Decides r (SetAlike os options')) seen (subst (λ os. Decides r (SetAlike keys os)) seen' decided)

-- what makes two different numbers equal doesn't hold
pub differ_Decides : {P : Type 0} (n m : ℕ) → (n ≡ m → ⊥) → (P → n ≡ m) → Decides (n == m) P
differ_Decides n m differ equal = (λ e. absurd (differ ((unsigned_Decides n m).0 e)), λ p. absurd (differ (equal p)))
