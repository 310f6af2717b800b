-- When are two conditions the same?
use Rattle.std.specs.Prelude.{◌≡◌, refl, Bool, true, false, not, ◌&&◌}
use Rattle.std.proofs.Common.{sym, ap, ◌∙◌, true≢false}
use Rattle.std.specs.Bool.{Decides}
use Rattle.std.specs.Cmp.{IsEquivalence, decided, unsigned_Decides}
use Rattle.std.specs.Cmp.Lexicographic.{pointwise_decides}
use Rattle.hir_base.specs.declared.cfg.CfgAtom.{CfgAtom}
use Rattle.hir_base.specs.declared.cfg.CfgAtom.TheVariants.{Flag, KeyValue}
use Rattle.hir_base.specs.CfgOptions.{same_atom}
use Rattle.hir_base.specs.Cfg.{Cfg, Cfgs, invalid, constant, atom, all, any, unless, no_cfgs, cfg}

-- whether two truth values are the same
abbrev pub same_truth : Bool → Bool → Bool
same_truth true other = other
same_truth false other = not other

-- whether two conditions are the same, part by part in order
abbrev mutual
  pub same_cfg : Cfg → Cfg → Bool
  same_cfg invalid invalid = true
  same_cfg (constant holds) (constant other) = same_truth holds other
  same_cfg (atom a) (atom other) = same_atom a other
  same_cfg (all parts) (all others) = same_cfgs parts others
  same_cfg (any parts) (any others) = same_cfgs parts others
  same_cfg (unless part) (unless other) = same_cfg part other
  same_cfg part other = false

  -- the same of lists
  pub same_cfgs : Cfgs → Cfgs → Bool
  same_cfgs no_cfgs no_cfgs = true
  same_cfgs (cfg part parts) (cfg other others) = same_cfg part other && same_cfgs parts others
  same_cfgs parts others = false

-- both hold where their conjunction does
both_hold : (x y : Bool) → (x && y) ≡ true → (x ≡ true) × (y ≡ true)
both_hold true y holds = (refl, holds)
both_hold false y holds = absurd (true≢false (sym holds))

-- a conjunction holds where both do
conjunction_holds : (x y : Bool) → x ≡ true → y ≡ true → (x && y) ≡ true
conjunction_holds x y first second = ap (λ b. b && y) first ∙ second

-- options that pass the test are equal
atoms_alike : (a b : CfgAtom) → same_atom a b ≡ true → a ≡ b
atoms_alike (Flag a) (Flag b) same = ap Flag ((pointwise_decides unsigned_Decides a b).0 same)
atoms_alike (KeyValue a v) (KeyValue b w) same =
    let texts = both_hold _ _ same in
    ap (λ key. KeyValue key v) ((pointwise_decides unsigned_Decides a b).0 texts.0) ∙ ap (λ value. KeyValue b value)
    ((pointwise_decides unsigned_Decides v w).0 texts.1)
atoms_alike (Flag a) (KeyValue b w) same = absurd (true≢false (sym same))
atoms_alike (KeyValue a v) (Flag b) same = absurd (true≢false (sym same))

-- an option passes the test against itself
atom_itself : (a : CfgAtom) → same_atom a a ≡ true
atom_itself (Flag a) = (pointwise_decides unsigned_Decides a a).1 refl
atom_itself (KeyValue a v) = conjunction_holds _ _ ((pointwise_decides unsigned_Decides a a).1 refl) ((pointwise_decides unsigned_Decides v v).1 refl)

-- the test of options decides equality
pub same_atom_Decides : (a b : CfgAtom) → Decides (same_atom a b) (a ≡ b)
same_atom_Decides a b = (atoms_alike a b, λ same. ap (λ c. same_atom a c) (sym same) ∙ atom_itself a)

-- the same of truth values
truths_alike : (a b : Bool) → same_truth a b ≡ true → a ≡ b
truths_alike true b same = sym same
truths_alike false true same = same
truths_alike false false same = refl

truth_itself : (a : Bool) → same_truth a a ≡ true
truth_itself true = refl
truth_itself false = refl

-- conditions that pass the test are equal
mutual
  cfgs_alike : (a b : Cfg) → same_cfg a b ≡ true → a ≡ b
  cfgs_alike invalid invalid same = refl
  cfgs_alike (constant holds) (constant other) same = ap constant (truths_alike holds other same)
  cfgs_alike (atom a) (atom other) same = ap atom (atoms_alike a other same)
  cfgs_alike (all parts) (all others) same = ap all (lists_alike parts others same)
  cfgs_alike (any parts) (any others) same = ap any (lists_alike parts others same)
  cfgs_alike (unless part) (unless other) same = ap unless (cfgs_alike part other same)
  cfgs_alike part other same = absurd (true≢false (sym same))

  lists_alike : (a b : Cfgs) → same_cfgs a b ≡ true → a ≡ b
  lists_alike no_cfgs no_cfgs same = refl
  lists_alike (cfg part parts) (cfg other others) same =
      let each = both_hold _ _ same in
      ap (λ p. cfg p parts) (cfgs_alike part other each.0) ∙ ap (λ ps. cfg other ps) (lists_alike parts others each.1)
  lists_alike parts others same = absurd (true≢false (sym same))

-- a condition passes the test against itself
mutual
  cfg_itself : (a : Cfg) → same_cfg a a ≡ true
  cfg_itself invalid = refl
  cfg_itself (constant holds) = truth_itself holds
  cfg_itself (atom a) = atom_itself a
  cfg_itself (all parts) = cfgs_itself parts
  cfg_itself (any parts) = cfgs_itself parts
  cfg_itself (unless part) = cfg_itself part

  cfgs_itself : (a : Cfgs) → same_cfgs a a ≡ true
  cfgs_itself no_cfgs = refl
  cfgs_itself (cfg part parts) = conjunction_holds _ _ (cfg_itself part) (cfgs_itself parts)

-- the test decides equality
pub same_cfg_Decides : (a b : Cfg) → Decides (same_cfg a b) (a ≡ b)
same_cfg_Decides a b = (cfgs_alike a b, λ same. ap (λ c. same_cfg a c) (sym same) ∙ cfg_itself a)

-- so it is an equivalence
pub same_cfg_equiv : IsEquivalence same_cfg
same_cfg_equiv = decided same_cfg same_cfg_Decides
