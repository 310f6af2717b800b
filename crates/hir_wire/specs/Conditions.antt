-- What does a JSON value mean as an option, or as a condition on options?
use Rattle.std.specs.Prelude.{ℕ, List, [], Bool, true, false, Option, Some, None, Ok, Err, codes}
use Rattle.std.specs.Ordering.{nat_cmp, match_ordering}
use Rattle.std.specs.Cmp.Lexicographic.{slice_cmp}
use Rattle.serde_json.specs.Data.{Data, null, boolean, number, string, array, object, Items, no_items, item, Members, no_members, member}
use Rattle.hir_base.specs.Cfg.{Cfg, invalid, constant, atom, all, any, unless, cfgs_of}
use Rattle.hir_base.specs.declared.cfg.CfgAtom.{CfgAtom}
use Rattle.hir_base.specs.declared.cfg.CfgAtom.TheVariants.{Flag, KeyValue}
use Rattle.hir_wire.specs.declared.read.cfg.CfgForm.{CfgForm}
use Rattle.hir_wire.specs.declared.read.cfg.CfgForm.TheVariants as form
use Rattle.hir_wire.specs.declared.read_error.ReadError.TheVariants.{Command}
use Rattle.hir_wire.specs.Paths.{name_meant, name_of, text_of}
use Rattle.hir_wire.specs.Reading.{Reading, made, paired, listed, required, has_member}

-- the option of this name
abbrev pub flag_meant : List ℕ → Reading CfgAtom
flag_meant text = made Flag (name_meant text)

-- an option with a key and a value
unfoldable pub key_value_in : Members → Reading CfgAtom
key_value_in ms = made (λ p. KeyValue p.0 p.1) (paired (required name_of (codes "key") ms) (required text_of (codes "value") ms))

-- a value as an option
abbrev pub option_of : Data → Reading CfgAtom
option_of null = Err Command
option_of (boolean b) = Err Command
option_of (number n) = Err Command
option_of (string text) = flag_meant text
option_of (array ds) = Err Command
option_of (object ms) = key_value_in ms

-- how an object writes a condition, by whether it has `key`, `all`, `any` and `not`: it has one of them
abbrev pub cfg_form : (key every some negated : Bool) → Option CfgForm
cfg_form true false false false = Some form.KeyValue
cfg_form false true false false = Some form.All
cfg_form false false true false = Some form.Any
cfg_form false false false true = Some form.Not
cfg_form key every some negated = None

-- how these members write a condition
unfoldable pub cfg_form_in : Members → Option CfgForm
cfg_form_in ms = cfg_form (has_member (codes "key") ms) (has_member (codes "all") ms) (has_member (codes "any") ms) (has_member (codes "not") ms)

-- the condition that all of these hold
abbrev pub all_of : List Cfg → Cfg
all_of parts = all (cfgs_of parts)

-- the condition that one of these holds
abbrev pub any_of : List Cfg → Cfg
any_of parts = any (cfgs_of parts)

-- a condition that is written so, once the conditions of `all`, `any` and `not` are read
abbrev pub cfg_written : Option CfgForm → Members → (every some : Reading (List Cfg)) → Reading Cfg → Reading Cfg
cfg_written None ms every some part = Err Command
cfg_written (Some form.KeyValue) ms every some part = made atom (key_value_in ms)
cfg_written (Some form.All) ms every some part = made all_of every
cfg_written (Some form.Any) ms every some part = made any_of some
cfg_written (Some form.Not) ms every some part = made unless part

abbrev mutual
  -- a value as a condition
  pub cfg_of : Data → Reading Cfg
  cfg_of null = Ok invalid
  cfg_of (boolean b) = Ok (constant b)
  cfg_of (number n) = Err Command
  cfg_of (string text) = made atom (flag_meant text)
  cfg_of (array ds) = Err Command
  cfg_of (object ms) = cfg_written (cfg_form_in ms) ms (cfgs_in (codes "all") ms) (cfgs_in (codes "any") ms) (cfg_in (codes "not") ms)

  -- the condition in the member of this name, which has to be there
  pub cfg_in : List ℕ → Members → Reading Cfg
  cfg_in name no_members = Err Command
  cfg_in name (member k d ms) = match_ordering (slice_cmp nat_cmp name k) (cfg_in name ms) (cfg_of d) (cfg_in name ms)

  -- the conditions in the member of this name, which has to be there
  pub cfgs_in : List ℕ → Members → Reading (List Cfg)
  cfgs_in name no_members = Err Command
  cfgs_in name (member k d ms) = match_ordering (slice_cmp nat_cmp name k) (cfgs_in name ms) (cfg_list_of d) (cfgs_in name ms)

  -- a value as a list of conditions
  pub cfg_list_of : Data → Reading (List Cfg)
  cfg_list_of null = Err Command
  cfg_list_of (boolean b) = Err Command
  cfg_list_of (number n) = Err Command
  cfg_list_of (string s) = Err Command
  cfg_list_of (array ds) = each_cfg_of ds
  cfg_list_of (object ms) = Err Command

  -- each item as a condition
  pub each_cfg_of : Items → Reading (List Cfg)
  each_cfg_of no_items = Ok []
  each_cfg_of (item d ds) = listed (cfg_of d) (each_cfg_of ds)
