-- Does a condition hold under options?
use Rattle.std.specs.Prelude.{◌≡◌, Bool, true, false, not, ◌&&◌, ◌||◌, List, Option, Some, None}
use Rattle.std.specs.Option.{option_map}
use Rattle.std.specs.List.{list_any}
use Rattle.hir_base.specs.declared.cfg.CfgAtom.{CfgAtom}
use Rattle.hir_base.specs.declared.cfg.CfgAtom.TheVariants.{Flag, KeyValue}
use Rattle.hir_ids.specs.NameForm.{same_text}
use Rattle.hir_base.specs.Cfg.{Cfg, Cfgs, invalid, constant, atom, all, any, unless, no_cfgs, cfg}

-- whether two options are the same
abbrev pub same_atom : CfgAtom → CfgAtom → Bool
same_atom (Flag name) (Flag other) = same_text name other
same_atom (KeyValue key value) (KeyValue other text) = same_text key other && same_text value text
same_atom (Flag name) (KeyValue other text) = false
same_atom (KeyValue key value) (Flag other) = false

-- whether an option is among those that are set
abbrev pub is_set : List CfgAtom → CfgAtom → Bool
is_set options a = list_any (same_atom a) options

-- one more option is set, and no other
abbrev pub Sets : List CfgAtom → List CfgAtom → CfgAtom → Type 0
Sets old new a = (other : CfgAtom) → is_set new other ≡ (same_atom a other || is_set old other)

-- each option is set in both or in neither
abbrev pub SetAlike : List CfgAtom → List CfgAtom → Type 0
SetAlike options others = (a : CfgAtom) → is_set options a ≡ is_set others a

-- of two answers, where both are known
abbrev pub both : (Bool → Bool → Bool) → Option Bool → Option Bool → Option Bool
both f None known = None
both f (Some x) None = None
both f (Some x) (Some y) = Some (f x y)

-- whether a condition holds, unless an invalid part occurs in it
abbrev mutual
  pub check : (CfgAtom → Bool) → Cfg → Option Bool
  check set invalid = None
  check set (constant holds) = Some holds
  check set (atom a) = Some (set a)
  check set (all parts) = check_all set parts
  check set (any parts) = check_any set parts
  check set (unless part) = option_map not (check set part)

  -- whether all hold
  pub check_all : (CfgAtom → Bool) → Cfgs → Option Bool
  check_all set no_cfgs = Some true
  check_all set (cfg part parts) = both ◌&&◌ (check set part) (check_all set parts)

  -- whether one holds
  pub check_any : (CfgAtom → Bool) → Cfgs → Option Bool
  check_any set no_cfgs = Some false
  check_any set (cfg part parts) = both ◌||◌ (check set part) (check_any set parts)
