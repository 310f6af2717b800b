-- What does a JSON value mean as the key of an expansion, and what as its entry?
use Rattle.std.specs.Prelude.{ℕ, List, [], ◌∷◌, Option, Some, None, option_map, option_and_then, Ok, Err, if◌then◌else◌, codes}
use Rattle.std.specs.Str.{bytes_eq}
use Rattle.serde_json.specs.Data.{Data, null, boolean, number, string, array, object, Items, Members}
use Rattle.serde_json.specs.Find.{as_str}
use Rattle.hir_base.specs.declared.macro_kind.CallStyle.{CallStyle}
use Rattle.hir_base.specs.declared.macro_kind.MacroText.{MacroText}
use Rattle.hir_base.specs.declared.macro_kind.CallStyle.TheVariants.{Bang, Derive, Attribute}
use Rattle.hir_tables.specs.SourcePlaces.{ExpansionValue}
use Rattle.hir_wire.specs.declared.read_error.ReadError.TheVariants.{Command}
use Rattle.hir_messages.specs.Edits.{EntryValue, inner_entry}
use Rattle.hir_wire.specs.Nodes.{source_of}
use Rattle.hir_wire.specs.Paths.{crate_of, natural_of, of_two, path_of, text_of}
use Rattle.hir_wire.specs.Reading.{Reading, made, paired, required, optional, maybe, formed, list_of}

-- the call that a word stands for
abbrev pub call_of_word : List ℕ → Option CallStyle
call_of_word word =
    if bytes_eq word (codes "bang") then Some Bang else
    (if bytes_eq word (codes "derive") then Some Derive else None)

-- the call of an attribute by its number, behind the word of attributes
abbrev pub call_behind : List ℕ → Option ℕ → Option CallStyle
call_behind word attr = if bytes_eq word (codes "attr") then option_map (λ n. Attribute (record { 0 = n })) attr else None

-- the call of an attribute that a word and a number stand for
abbrev pub attribute_call : Data → Data → Option CallStyle
attribute_call word attr = option_and_then (λ w. call_behind w (natural_of 32 attr)) (as_str word)

-- the call of an attribute that these items stand for
abbrev pub call_of_items : Items → Option CallStyle
call_of_items ds = of_two attribute_call ds

-- a value as a kind of call
abbrev pub call_of : Data → Option CallStyle
call_of null = None
call_of (boolean b) = None
call_of (number n) = None
call_of (string word) = call_of_word word
call_of (array ds) = call_of_items ds
call_of (object ms) = None

-- a value as a kind of call that has to be one
abbrev pub call_meant : Data → Reading CallStyle
call_meant d = formed (call_of d)

-- the macro that is called: its crate and its text
unfoldable pub macro_text_in : Members → Reading MacroText
macro_text_in ms = made (λ p. record { krate = p.0; text = p.1 }) (paired (required crate_of (codes "crate") ms) (required text_of (codes "text") ms))

-- a value as a macro of a crate
abbrev pub macro_text_of : Data → Reading MacroText
macro_text_of null = Err Command
macro_text_of (boolean b) = Err Command
macro_text_of (number n) = Err Command
macro_text_of (string s) = Err Command
macro_text_of (array ds) = Err Command
macro_text_of (object ms) = macro_text_in ms

-- a key's members: who calls which macro, how, and on which input, and the macros that the paths of its entry reach, if they are resolved
unfoldable pub key_in : Members → Reading ExpansionValue
key_in ms =
    made (λ p. record { caller = p.0.0.0; called = p.0.0.1; call = p.0.1.0; input = p.0.1.1; reached = p.1 })
    (paired (paired (paired (required crate_of (codes "caller") ms) (macro_text_in ms))
    (paired (required call_meant (codes "call") ms) (required text_of (codes "input") ms)))
    (optional [] (list_of macro_text_of) (codes "reached") ms))

-- a value as a key
abbrev pub key_of : Data → Reading ExpansionValue
key_of null = Err Command
key_of (boolean b) = Err Command
key_of (number n) = Err Command
key_of (string s) = Err Command
key_of (array ds) = Err Command
key_of (object ms) = key_in ms

-- a key, if it names no macros that paths reach
abbrev pub unresolved_by : List MacroText → ExpansionValue → Reading ExpansionValue
unresolved_by [] key = Ok key
unresolved_by (m ∷ ms) key = Err Command

abbrev pub unresolved : ExpansionValue → Reading ExpansionValue
unresolved key = unresolved_by key.reached key

abbrev pub if_unresolved : Reading ExpansionValue → Reading ExpansionValue
if_unresolved (Ok key) = unresolved key
if_unresolved (Err e) = Err e

-- a value as such a key
abbrev pub call_key_of : Data → Reading ExpansionValue
call_key_of d = if_unresolved (key_of d)

-- what an expansion gives: its syntax, and its error, if there is one
unfoldable pub entry_in : Members → Reading EntryValue
entry_in ms = made (λ p. record { source = p.0; error = p.1; inner = [] }) (paired (required source_of (codes "unit") ms) (maybe text_of (codes "error") ms))

-- or the paths that its macro asks to have resolved first, and its error, if there is one
unfoldable pub inner_in : Members → Reading EntryValue
inner_in ms = made (λ p. inner_entry p.0 p.1) (paired (required (list_of path_of) (codes "inner") ms) (maybe text_of (codes "error") ms))
