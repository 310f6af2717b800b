-- What does a JSON value mean as a macro?
use Rattle.std.specs.Prelude.{ℕ, List, [], ◌∷◌, false, ◌||◌, Option, Some, None, if◌then◌else◌, codes}
use Rattle.std.specs.Str.{bytes_eq}
use Rattle.serde_json.specs.Data.{Data, Members}
use Rattle.hir_ids.specs.MacroKind.{fn_like_alone, attr_alone, derive_alone}
use Rattle.hir_ids.specs.declared.macro_kind.MacroCallStyles.{MacroCallStyles}
use Rattle.hir_ids.specs.declared.macro_kind.MacroExpander.{MacroExpander}
use Rattle.hir_ids.specs.declared.macro_kind.MacroExpander.TheVariants as expander
use Rattle.hir_item_tree.specs.Source.{NodeHead, MacroValue, macro_rules, macro_def, Item, plain}
use Rattle.hir_wire.specs.Paths.{name_of, text_of}
use Rattle.hir_wire.specs.Reading.{Reading, made, paired, required, optional, word_as, list_of}

-- the style that a word stands for
abbrev pub style_of_word : List ℕ → Option MacroCallStyles
style_of_word word =
    if bytes_eq word (codes "bang") then Some fn_like_alone else
    (if bytes_eq word (codes "attr") then Some attr_alone else
    (if bytes_eq word (codes "derive") then Some derive_alone else None))

-- the styles that are among these or those
abbrev pub either_styles : MacroCallStyles → MacroCallStyles → MacroCallStyles
either_styles these those = record { fn_like = these.fn_like || those.fn_like; attr = these.attr || those.attr; derive = these.derive || those.derive }

-- all styles of a list
abbrev pub all_styles : List MacroCallStyles → MacroCallStyles
all_styles [] = record { fn_like = false; attr = false; derive = false }
all_styles (s ∷ ss) = either_styles s (all_styles ss)

-- a value as a set of styles
abbrev pub styles_of : Data → Reading MacroCallStyles
styles_of d = made all_styles (list_of (word_as style_of_word) d)

-- the expander that a word stands for, unless that is the macro's own text
abbrev pub builtin_of_word : List ℕ → Option (Option MacroExpander)
builtin_of_word word =
    if bytes_eq word (codes "declarative") then Some None else
    (if bytes_eq word (codes "builtin") then Some (Some expander.Builtin) else
    (if bytes_eq word (codes "builtin_eager") then Some (Some expander.BuiltinEager) else
    (if bytes_eq word (codes "builtin_attr") then Some (Some expander.BuiltinAttr) else
    (if bytes_eq word (codes "builtin_derive") then Some (Some expander.BuiltinDerive) else
    (if bytes_eq word (codes "unimplemented") then Some (Some expander.Unimplemented) else None)))))

-- the expander of a macro; the styles count where it is the macro's own text
abbrev pub expander_with : Option MacroExpander → MacroCallStyles → MacroExpander
expander_with None styles = expander.Declarative styles
expander_with (Some builtin) styles = builtin

-- what a macro is
unfoldable pub definition_in : Members → Reading MacroValue
definition_in ms =
    made (λ p. record { text = p.0.0; expander = expander_with p.1.0 p.1.1; helpers = p.0.1 })
    (paired (paired (optional [] text_of (codes "text") ms) (optional [] (list_of name_of) (codes "helpers") ms))
    (paired (optional None (word_as builtin_of_word) (codes "expander") ms) (optional fn_like_alone styles_of (codes "styles") ms)))

-- a `macro_rules!` macro: its name, and what it is
unfoldable pub macro_rules_in : Members → Reading (NodeHead → Item)
macro_rules_in ms = made (λ p h. plain h (macro_rules p.0 p.1)) (paired (required name_of (codes "name") ms) (definition_in ms))

-- a `macro` item: its name, and what it is
unfoldable pub macro_def_in : Members → Reading (NodeHead → Item)
macro_def_in ms = made (λ p h. plain h (macro_def p.0 p.1)) (paired (required name_of (codes "name") ms) (definition_in ms))
