-- What does a JSON value mean as a name, a path, a file, an id or a place?
use Rattle.std.specs.Prelude.{ℕ, ◌^◌, List, Bool, Option, Some, None, option_map, option_and_then, Result, Ok, Err, if◌then◌else◌, nat_lt, codes}
use Rattle.serde_json.specs.Data.{Data, null, boolean, number, string, array, object, Items, no_items, item}
use Rattle.serde_json.specs.Find.{as_bool, as_number, as_u64, as_array, as_str}
use Rattle.hir_base.specs.ModPath.{Path}
use Rattle.hir_ids.specs.Name.{name_verdict}
use Rattle.hir_base.specs.ParseFile.{folded_path}
use Rattle.hir_base.specs.ParsePath.{path_of_text}
use Rattle.hir_base.specs.Place.{PlaceValue}
use Rattle.hir_base.specs.declared.place.BlockPlace.{BlockPlace}
use Rattle.hir_ids.specs.declared.ids.Crate.{Crate}
use Rattle.hir_ids.specs.declared.name.NameError.{NameError}
use Rattle.hir_base.specs.declared.mod_path.ParseError.{ParseError}
use Rattle.hir_base.specs.declared.place.PlaceElement.{PlaceElement}
use Rattle.hir_ids.specs.declared.ast_id.SyntaxId.{SyntaxId}
use Rattle.hir_base.specs.declared.limit.Limit.TheVariants.{Name}
use Rattle.hir_base.specs.declared.mod_path.ParseError.TheVariants as parse
use Rattle.hir_ids.specs.declared.name.NameError.TheVariants as naming
use Rattle.hir_base.specs.declared.place.PlaceElement.TheVariants.{Module, Block}
use Rattle.hir_wire.specs.declared.read_error.ReadError.TheVariants.{Command, TooLarge, Memory}
use Rattle.hir_wire.specs.Reading.{Reading, made, paired, each_of, required, formed, if_there}

-- what a text means, if the value is a text
abbrev pub text_as : {A : Type 0} → (List ℕ → Reading A) → Option (List ℕ) → Reading A
text_as read None = Err Command
text_as read (Some text) = read text

-- what making a name answers, told as a part of a line
abbrev pub told_of_name : Result (List ℕ) NameError → Reading (List ℕ)
told_of_name (Ok name) = Ok name
told_of_name (Err naming.Bad) = Err Command
told_of_name (Err naming.TooLarge) = Err (TooLarge Name)
told_of_name (Err naming.Memory) = Err Memory

-- what parsing a text answers, told as a part of a line
abbrev pub told_of_parse : {A : Type 0} → Result A ParseError → Reading A
told_of_parse (Ok a) = Ok a
told_of_parse (Err parse.Bad) = Err Command
told_of_parse (Err (parse.TooLarge limit)) = Err (TooLarge limit)
told_of_parse (Err parse.Memory) = Err Memory

-- the name that a text is
unfoldable pub name_meant : List ℕ → Reading (List ℕ)
name_meant text = told_of_name (name_verdict text)

-- the path that a text spells
unfoldable pub path_meant : List ℕ → Reading Path
path_meant text = told_of_parse (path_of_text text)

-- the file that a text names
unfoldable pub file_meant : List ℕ → Reading (List ℕ)
file_meant text = told_of_parse (folded_path text)

-- a value as a name
abbrev pub name_of : Data → Reading (List ℕ)
name_of d = text_as name_meant (as_str d)

-- a value as a path
abbrev pub path_of : Data → Reading Path
path_of d = text_as path_meant (as_str d)

-- a value as a file
abbrev pub file_of : Data → Reading (List ℕ)
file_of d = text_as file_meant (as_str d)

-- a value as any text
abbrev pub text_of : Data → Reading (List ℕ)
text_of d = formed (as_str d)

-- a value as a truth value
abbrev pub bool_of : Data → Reading Bool
bool_of d = formed (as_bool d)

-- a number below 2 to the power of so many bits
abbrev pub fits : ℕ → ℕ → Option ℕ
fits bits n = if nat_lt n (2 ^ bits) then Some n else None

-- the number of so many bits that a value is
unfoldable pub natural_of : ℕ → Data → Option ℕ
natural_of bits d = option_and_then (fits bits) (option_and_then as_u64 (as_number d))

-- what a list of two gives
abbrev pub of_two : {A : Type 0} → (Data → Data → Option A) → Items → Option A
of_two f no_items = None
of_two f (item a no_items) = None
of_two f (item a (item b no_items)) = f a b
of_two f (item a (item b (item c ds))) = None

-- the id of this hash and this index
abbrev pub id_of_two : Data → Data → Option SyntaxId
id_of_two a b = option_and_then (λ h. option_map (λ i. record { hash = h; index = i }) (natural_of 16 b)) (natural_of 16 a)

-- the id of these two numbers
abbrev pub id_of_items : Items → Option SyntaxId
id_of_items ds = of_two id_of_two ds

-- a value as a node's id
abbrev pub id_of : Data → Option SyntaxId
id_of d = option_and_then id_of_items (as_array d)

-- a value as an id that has to be there
abbrev pub id_meant : Data → Reading SyntaxId
id_meant d = formed (id_of d)

-- a value as a number of 32 bits
abbrev pub number_of : Data → Reading ℕ
number_of d = formed (natural_of 32 d)

-- a value as a crate's number
abbrev pub crate_of : Data → Reading Crate
crate_of d = formed (option_map (λ n. record { 0 = n }) (natural_of 32 d))

-- a value as a step of a place: the name of a module, or a block's id
abbrev pub element_of : Data → Reading PlaceElement
element_of null = Err Command
element_of (boolean b) = Err Command
element_of (number n) = Err Command
element_of (string text) = made Module (name_meant text)
element_of (array ds) = Err Command
element_of (object ms) = made Block (required id_meant (codes "block") ms)

-- the place of these items: a crate's number, then the steps from its root
abbrev pub place_of_items : Items → Reading PlaceValue
place_of_items no_items = Err Command
place_of_items (item d ds) = made (λ p. record { krate = p.0; elements = p.1 }) (paired (crate_of d) (each_of element_of ds))

-- a value as a place
abbrev pub place_of : Data → Reading PlaceValue
place_of null = Err Command
place_of (boolean b) = Err Command
place_of (number n) = Err Command
place_of (string s) = Err Command
place_of (array ds) = place_of_items ds
place_of (object ms) = Err Command

-- a value as the step to a block
abbrev pub block_step_of : Data → Reading SyntaxId
block_step_of null = Err Command
block_step_of (boolean b) = Err Command
block_step_of (number n) = Err Command
block_step_of (string text) = Err Command
block_step_of (array ds) = Err Command
block_step_of (object ms) = required id_meant (codes "block") ms

-- all items but the last
abbrev pub items_before_last : Items → Items
items_before_last no_items = no_items
items_before_last (item d no_items) = no_items
items_before_last (item d (item e ds)) = item d (items_before_last (item e ds))

-- the last item
abbrev pub last_item : Items → Option Data
last_item no_items = None
last_item (item d no_items) = Some d
last_item (item d (item e ds)) = last_item (item e ds)

-- the block of these items: the place that holds it, then the step to it
unfoldable pub block_place_of_items : Items → Reading BlockPlace
block_place_of_items ds = made (λ p. record { holder = p.0; id = p.1 }) (paired (place_of_items (items_before_last ds)) (if_there block_step_of (last_item ds)))

-- a value as the place of a block
abbrev pub block_place_of : Data → Reading BlockPlace
block_place_of null = Err Command
block_place_of (boolean b) = Err Command
block_place_of (number n) = Err Command
block_place_of (string s) = Err Command
block_place_of (array ds) = block_place_of_items ds
block_place_of (object ms) = Err Command
