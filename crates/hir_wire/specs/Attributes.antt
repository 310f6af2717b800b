-- What does a JSON value mean as attributes?
use Rattle.std.specs.Prelude.{ℕ, List, [], Bool, true, false, not, ◌||◌, Option, Some, None, option_and_then, Ok, Err, if◌then◌else◌, codes}
use Rattle.std.specs.Ordering.{nat_cmp, match_ordering}
use Rattle.std.specs.Cmp.Lexicographic.{slice_cmp}
use Rattle.std.specs.Str.{bytes_eq}
use Rattle.serde_json.specs.Data.{Data, null, boolean, number, string, array, object, Items, no_items, item, Members, no_members, member}
use Rattle.serde_json.specs.Find.{get_member, as_str}
use Rattle.hir_item_tree.specs.Attributes.{Attributes, Attribute, meta, cfg, cfg_attr, Input, literal, parentheses, paths, tokens, derive}
use Rattle.hir_item_tree.specs.Attributes.{attributes_of as in_order}
use Rattle.hir_wire.specs.declared.read.attribute.AttrForm.{AttrForm}
use Rattle.hir_wire.specs.declared.read.attribute.AttrForm.TheVariants as form
use Rattle.hir_wire.specs.declared.read.attribute.InputForm.{InputForm}
use Rattle.hir_wire.specs.declared.read.attribute.InputForm.TheVariants as input
use Rattle.hir_wire.specs.declared.read_error.ReadError.TheVariants.{Command}
use Rattle.hir_wire.specs.Conditions.{cfg_of}
use Rattle.hir_wire.specs.Paths.{name_of, path_of, text_of}
use Rattle.hir_wire.specs.Reading.{Reading, made, paired, listed, required, optional, list_of, has_member}

-- how an attribute is written, by whether it has `literal`, `paths`, `tokens`, `derive`, `cfg` and `attrs`: it has at
-- most one of them, but that `attrs` stands beside `cfg`, and is ignored elsewhere
abbrev pub attr_form : (text among inside name condition attrs : Bool) → Option AttrForm
attr_form false false false false false attrs = Some (form.Meta input.Word)
attr_form true false false false false attrs = Some (form.Meta input.Literal)
attr_form false true false false false attrs = Some (form.Meta input.Paths)
attr_form false false true false false attrs = Some (form.Meta input.Tokens)
attr_form false false false true false attrs = Some (form.Meta input.Derive)
attr_form false false false false true false = Some form.Cfg
attr_form false false false false true true = Some form.CfgAttr
attr_form text among inside name condition attrs = None

-- whether a path is one of those of conditions
abbrev pub is_conditional : List ℕ → Bool
is_conditional path = bytes_eq path (codes "cfg") || bytes_eq path (codes "cfg_attr")

-- whether an attribute of this form has this path: conditions, and a derive macro's name, stand behind paths of their own
abbrev pub suits : List ℕ → AttrForm → Bool
suits path form.Cfg = bytes_eq path (codes "cfg")
suits path form.CfgAttr = bytes_eq path (codes "cfg_attr")
suits path (form.Meta input.Derive) = bytes_eq path (codes "proc_macro_derive")
suits path (form.Meta input.Word) = not (is_conditional path)
suits path (form.Meta input.Literal) = not (is_conditional path)
suits path (form.Meta input.Paths) = not (is_conditional path)
suits path (form.Meta input.Tokens) = not (is_conditional path)

-- a form, if it suits the path
abbrev pub suited : Option (List ℕ) → Option AttrForm → Option AttrForm
suited None f = None
suited (Some path) None = None
suited (Some path) (Some f) = if suits path f then Some f else None

-- the form that the members have, whether it suits their path or not
unfoldable pub written_form : Members → Option AttrForm
written_form ms =
    attr_form (has_member (codes "literal") ms) (has_member (codes "paths") ms) (has_member (codes "tokens") ms) (has_member (codes "derive") ms)
    (has_member (codes "cfg") ms) (has_member (codes "attrs") ms)

-- the text in the member `path`
unfoldable pub path_text_in : Members → Option (List ℕ)
path_text_in ms = option_and_then as_str (get_member (codes "path") ms)

-- how these members write an attribute
abbrev pub attr_form_in : Members → Option AttrForm
attr_form_in ms = suited (path_text_in ms) (written_form ms)

-- a derive macro's name, and its helpers
unfoldable pub derive_in : Members → Reading Input
derive_in ms = made (λ p. parentheses (derive p.0 p.1)) (paired (required name_of (codes "derive") ms) (optional [] (list_of name_of) (codes "helpers") ms))

-- what stands behind the path of an attribute that is no condition
abbrev pub input_in : InputForm → Members → Reading (Option Input)
input_in input.Word ms = Ok None
input_in input.Literal ms = made (λ text. Some (literal text)) (required text_of (codes "literal") ms)
input_in input.Paths ms = made (λ ps. Some (parentheses (paths ps))) (required (list_of path_of) (codes "paths") ms)
input_in input.Tokens ms = made (λ text. Some (parentheses (tokens text))) (required text_of (codes "tokens") ms)
input_in input.Derive ms = made Some (derive_in ms)

-- an attribute that is no condition
unfoldable pub meta_in : InputForm → Members → Reading Attribute
meta_in f ms = made (λ p. meta (record { path = p.0; input = p.1 })) (paired (required path_of (codes "path") ms) (input_in f ms))

-- attributes under a condition
unfoldable pub cfg_attr_in : Members → Reading (List Attribute) → Reading Attribute
cfg_attr_in ms inner = made (λ p. cfg_attr p.0 (in_order p.1)) (paired (required cfg_of (codes "cfg") ms) inner)

-- an attribute that is written so, once the attributes in `attrs` are read
abbrev pub attribute_written : Option AttrForm → Members → Reading (List Attribute) → Reading Attribute
attribute_written None ms inner = Err Command
attribute_written (Some (form.Meta f)) ms inner = meta_in f ms
attribute_written (Some form.Cfg) ms inner = made cfg (required cfg_of (codes "cfg") ms)
attribute_written (Some form.CfgAttr) ms inner = cfg_attr_in ms inner

abbrev mutual
  -- a value as an attribute
  pub attribute_of : Data → Reading Attribute
  attribute_of null = Err Command
  attribute_of (boolean b) = Err Command
  attribute_of (number n) = Err Command
  attribute_of (string s) = Err Command
  attribute_of (array ds) = Err Command
  attribute_of (object ms) = attribute_written (attr_form_in ms) ms (inner_in ms)

  -- the attributes in the member `attrs`, which has to be there
  pub inner_in : Members → Reading (List Attribute)
  inner_in no_members = Err Command
  inner_in (member k d ms) = match_ordering (slice_cmp nat_cmp (codes "attrs") k) (inner_in ms) (attribute_list_of d) (inner_in ms)

  -- a value as a list of attributes
  pub attribute_list_of : Data → Reading (List Attribute)
  attribute_list_of null = Err Command
  attribute_list_of (boolean b) = Err Command
  attribute_list_of (number n) = Err Command
  attribute_list_of (string s) = Err Command
  attribute_list_of (array ds) = each_attribute_of ds
  attribute_list_of (object ms) = Err Command

  -- each item as an attribute
  pub each_attribute_of : Items → Reading (List Attribute)
  each_attribute_of no_items = Ok []
  each_attribute_of (item d ds) = listed (attribute_of d) (each_attribute_of ds)

-- a value as attributes
abbrev pub attributes_of : Data → Reading Attributes
attributes_of d = made in_order (attribute_list_of d)
