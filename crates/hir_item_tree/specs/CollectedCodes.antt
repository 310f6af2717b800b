-- Codes of what is left of attributes: how each is stored as a tree of numbers.
use Rattle.std.specs.Prelude.{◌≡◌}
use Rattle.std.specs.Coded.{Coded, codes, coded_bool}
use Rattle.std.proofs.Common.{refl, ap, ap₂, arith}
use base.Stored.{Gv, gnil, gnum, gcons}
use Rattle.hir_base.specs.Cfg.{Cfg, Cfgs, invalid, constant, atom, all, any, unless, no_cfgs, cfg}
use Rattle.hir_base.specs.declared.cfg.CfgAtom.{CfgAtom}
use Rattle.hir_item_tree.specs.Attributes.{MetaValue}
use Rattle.hir_item_tree.specs.Collected.{Collected}
use Rattle.hir_item_tree.specs.ValueCodes.{coded_path, number, halves}

-- what an option names
pub coded_atom : Coded CfgAtom
coded_atom = hlevel (codes)

abbrev mutual
  -- the number tree of a condition
  pub cfg_code : Cfg → Gv
  cfg_code invalid = gcons (gnum 0) gnil
  cfg_code (constant b) = gcons (gnum 1) (coded_bool.code b)
  cfg_code (atom a) = gcons (gnum 2) (coded_atom.code a)
  cfg_code (all cs) = gcons (gnum 3) (cfgs_code cs)
  cfg_code (any cs) = gcons (gnum 4) (cfgs_code cs)
  cfg_code (unless c) = gcons (gnum 5) (cfg_code c)

  -- the number tree of conditions
  pub cfgs_code : Cfgs → Gv
  cfgs_code no_cfgs = gnil
  cfgs_code (cfg c cs) = gcons (cfg_code c) (cfgs_code cs)

mutual
  pub cfg_code_inj : (x y : Cfg) → cfg_code x ≡ cfg_code y → x ≡ y
  cfg_code_inj invalid invalid e = refl
  cfg_code_inj invalid _ e = absurd (omega (arith, number 0 _ (halves (gnum 0) _ _ _ e).0))
  cfg_code_inj (constant x) (constant y) e = ap constant (coded_bool.inj x y (halves (gnum 1) _ (gnum 1) _ e).1)
  cfg_code_inj (constant x) _ e = absurd (omega (arith, number 1 _ (halves (gnum 1) _ _ _ e).0))
  cfg_code_inj (atom x) (atom y) e = ap atom (coded_atom.inj x y (halves (gnum 2) _ (gnum 2) _ e).1)
  cfg_code_inj (atom x) _ e = absurd (omega (arith, number 2 _ (halves (gnum 2) _ _ _ e).0))
  cfg_code_inj (all x) (all y) e = ap all (cfgs_code_inj x y (halves (gnum 3) _ (gnum 3) _ e).1)
  cfg_code_inj (all x) _ e = absurd (omega (arith, number 3 _ (halves (gnum 3) _ _ _ e).0))
  cfg_code_inj (any x) (any y) e = ap any (cfgs_code_inj x y (halves (gnum 4) _ (gnum 4) _ e).1)
  cfg_code_inj (any x) _ e = absurd (omega (arith, number 4 _ (halves (gnum 4) _ _ _ e).0))
  cfg_code_inj (unless x) (unless y) e = ap unless (cfg_code_inj x y (halves (gnum 5) _ (gnum 5) _ e).1)
  cfg_code_inj (unless x) _ e = absurd (omega (arith, number 5 _ (halves (gnum 5) _ _ _ e).0))

  pub cfgs_code_inj : (x y : Cfgs) → cfgs_code x ≡ cfgs_code y → x ≡ y
  cfgs_code_inj no_cfgs no_cfgs e = refl
  cfgs_code_inj no_cfgs (cfg d ds) e = cc
  cfgs_code_inj (cfg c cs) no_cfgs e = cc
  cfgs_code_inj (cfg c cs) (cfg d ds) e =
      let h = halves (cfg_code c) (cfgs_code cs) (cfg_code d) (cfgs_code ds) e in
      ap₂ cfg (cfg_code_inj c d h.0) (cfgs_code_inj cs ds h.1)

-- a condition
abbrev pub coded_cfg : Coded Cfg
coded_cfg = record { code = cfg_code; inj = cfg_code_inj }

-- an attribute that is no condition
pub coded_meta : Coded MetaValue
coded_meta = hlevel (codes, coded_path)

-- what is left of attributes
pub coded_collected : Coded Collected
coded_collected = hlevel (codes, coded_meta, coded_cfg)
