-- What is a condition on options, and how does it print?
use Rattle.std.specs.Prelude.{ℕ, Bool, true, false, List, [], ◌∷◌, ◌++◌, map, codes}
use Rattle.hir_base.specs.declared.cfg.CfgAtom.{CfgAtom}
use Rattle.hir_base.specs.declared.cfg.CfgAtom.TheVariants as option
use Rattle.hir_base.specs.declared.cfg.CfgExpr.{CfgExpr, fold-CfgExpr}
use Rattle.hir_base.specs.declared.cfg.CfgExpr.TheOpen.{CfgExpr-F}

mutual
  -- a condition
  pub data Cfg : Type 0 where
    invalid : Cfg
    constant : Bool → Cfg
    atom : CfgAtom → Cfg
    all : Cfgs → Cfg
    any : Cfgs → Cfg
    unless : Cfg → Cfg

  -- conditions, in order
  pub data Cfgs : Type 0 where
    no_cfgs : Cfgs
    cfg : Cfg → Cfgs → Cfgs

-- the conditions of a list
abbrev pub cfgs_of : List Cfg → Cfgs
cfgs_of [] = no_cfgs
cfgs_of (c ∷ cs) = cfg c (cfgs_of cs)

-- a condition, whose parts are known
abbrev pub cfg_step : CfgExpr-F Cfg → Cfg
cfg_step CfgExpr-F.Invalid = invalid
cfg_step (CfgExpr-F.Const holds) = constant holds
cfg_step (CfgExpr-F.Atom a) = atom a
cfg_step (CfgExpr-F.All parts) = all (cfgs_of parts.items)
cfg_step (CfgExpr-F.Any parts) = any (cfgs_of parts.items)
cfg_step (CfgExpr-F.Not part) = unless part.value

-- the condition that a value of the code stands for
abbrev pub cfg_view : CfgExpr → Cfg
cfg_view = fold-CfgExpr Cfg cfg_step

-- the conditions that values of the code stand for
abbrev pub cfgs_view : List CfgExpr → Cfgs
cfgs_view parts = cfgs_of (map cfg_view parts)

-- an option as it prints: its texts stand as they are
abbrev pub atom_text : CfgAtom → List ℕ
atom_text (option.Flag name) = name
atom_text (option.KeyValue key value) = key ++ (codes " = \"" ++ (value ++ codes "\""))

-- what stands between two parts
abbrev pub comma_if : Bool → List ℕ
comma_if false = []
comma_if true = codes ", "

-- a condition as it prints
abbrev mutual
  pub cfg_text : Cfg → List ℕ
  cfg_text invalid = codes "invalid"
  cfg_text (constant true) = codes "true"
  cfg_text (constant false) = codes "false"
  cfg_text (atom a) = atom_text a
  cfg_text (all parts) = codes "all(" ++ (parts_text false parts ++ codes ")")
  cfg_text (any parts) = codes "any(" ++ (parts_text false parts ++ codes ")")
  cfg_text (unless part) = codes "not(" ++ (cfg_text part ++ codes ")")

  -- parts, where others may have been printed before
  pub parts_text : Bool → Cfgs → List ℕ
  parts_text later no_cfgs = []
  parts_text later (cfg part parts) = comma_if later ++ (cfg_text part ++ parts_text true parts)
