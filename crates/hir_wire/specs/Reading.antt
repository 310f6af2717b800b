-- What does reading a part of a line give?
use Rattle.std.specs.Prelude.{◌≡◌, ℕ, List, [], ◌∷◌, ◌++◌, codes, Bool, Option, Some, None, is_some, option_and_then, Result, Ok, Err, if◌then◌else◌, nat_lt, ⊤}
use Rattle.serde_json.specs.Data.{Data, Items, no_items, item, Members}
use Rattle.serde_json.specs.Find.{get_member, as_array, as_str}
use Rattle.hir_base.specs.Limit.{limit_text}
use Rattle.hir_base.specs.declared.limit.Limit.TheVariants as limit
use Rattle.hir_wire.specs.declared.read_error.ReadError.{ReadError}
use Rattle.hir_wire.specs.declared.read_error.ReadError.TheVariants.{Json, Command, TooLarge, Memory}

-- what a part of a line means, or why it means nothing
abbrev pub Reading : Type 0 → Type 0
Reading A = Result A ReadError

-- the text of an error
abbrev pub error_text : ReadError → List ℕ
error_text Json = codes "the line is no JSON"
error_text Command = codes "the line is no command"
error_text (TooLarge l) = codes "the line passes a limit: " ++ limit_text l
error_text Memory = codes "out of memory"

-- how soon an error is told: a fault of form before a limit, a limit before those that come after it
abbrev pub gravity : ReadError → ℕ
gravity (TooLarge limit.Inner) = 0
gravity (TooLarge limit.Crates) = 1
gravity (TooLarge limit.Blocks) = 2
gravity (TooLarge limit.Cfg) = 3
gravity (TooLarge limit.UseTree) = 4
gravity (TooLarge limit.Modules) = 5
gravity (TooLarge limit.Nodes) = 6
gravity (TooLarge limit.Index) = 7
gravity (TooLarge limit.File) = 8
gravity (TooLarge limit.Path) = 9
gravity (TooLarge limit.Name) = 10
gravity (TooLarge limit.Line) = 11
gravity Command = 12
gravity Json = 13
gravity Memory = 14

-- of two errors the one that is told
unfoldable pub graver : ReadError → ReadError → ReadError
graver e other = if nat_lt (gravity e) (gravity other) then other else e

-- two parts, of which each has to mean something
abbrev pub paired : {A B : Type 0} → Reading A → Reading B → Reading (A × B)
paired (Ok a) (Ok b) = Ok (a, b)
paired (Ok a) (Err e) = Err e
paired (Err e) (Ok b) = Err e
paired (Err e) (Err other) = Err (graver e other)

-- what is made of a part
abbrev pub made : {A B : Type 0} → (A → B) → Reading A → Reading B
made f (Ok a) = Ok (f a)
made f (Err e) = Err e

-- a part that has a form or not, and no limit
abbrev pub formed : {A : Type 0} → Option A → Reading A
formed None = Err Command
formed (Some a) = Ok a

-- the first of a list, and those that follow it
abbrev pub listed : {A : Type 0} → Reading A → Reading (List A) → Reading (List A)
listed first others = made (λ p. p.0 ∷ p.1) (paired first others)

-- each item of a list
abbrev pub each_of : {A : Type 0} → (Data → Reading A) → Items → Reading (List A)
each_of read no_items = Ok []
each_of read (item d ds) = listed (read d) (each_of read ds)

-- what the items of a list mean, if the value is a list
abbrev pub items_as : {A : Type 0} → (Items → Reading A) → Option Items → Reading A
items_as read None = Err Command
items_as read (Some ds) = read ds

-- a value as a list, of which each item has to mean something
abbrev pub list_of : {A : Type 0} → (Data → Reading A) → Data → Reading (List A)
list_of read d = items_as (each_of read) (as_array d)

-- the value that a word stands for, if the value is such a word
abbrev pub word_as : {A : Type 0} → (List ℕ → Option A) → Data → Reading A
word_as of_word d = formed (option_and_then of_word (as_str d))

-- whether there is a member of this name
unfoldable pub has_member : List ℕ → Members → Bool
has_member name ms = is_some (get_member name ms)

-- a part without which the whole means nothing
abbrev pub if_there : {A : Type 0} → (Data → Reading A) → Option Data → Reading A
if_there read None = Err Command
if_there read (Some d) = read d

-- a part that stands for something where it is absent
abbrev pub if_given : {A : Type 0} → A → (Data → Reading A) → Option Data → Reading A
if_given absent read None = Ok absent
if_given absent read (Some d) = read d

-- the field of this name
unfoldable pub required : {A : Type 0} → (Data → Reading A) → List ℕ → Members → Reading A
required read name ms = if_there read (get_member name ms)

-- the field of this name, which may be absent
unfoldable pub optional : {A : Type 0} → A → (Data → Reading A) → List ℕ → Members → Reading A
optional absent read name ms = if_given absent read (get_member name ms)

-- the field of this name, if it is there
unfoldable pub maybe : {A : Type 0} → (Data → Reading A) → List ℕ → Members → Reading (Option A)
maybe read name ms = if_given None (λ d. made Some (read d)) (get_member name ms)

-- what a call that reads tells: what is meant, seen by `see`, or the error; it may want memory
abbrev pub Tells : {A B : Type 0} → (A → B) → Reading B → Result A ReadError → Type 0
Tells see meaning (Ok a) = meaning ≡ Ok (see a)
Tells see meaning (Err Json) = ⊥
Tells see meaning (Err Command) = meaning ≡ Err Command
Tells see meaning (Err (TooLarge l)) = meaning ≡ Err (TooLarge l)
Tells see meaning (Err Memory) = ⊤

-- a call read this meaning, seen by `see`
pub record Reads {A B : Type 0} (see : A → B) (meaning : Reading B) (result : Result A ReadError) : Type 0 where
  pub told : Tells see meaning result
