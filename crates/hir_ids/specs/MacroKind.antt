-- In which styles may a macro be called?
use Rattle.std.specs.Prelude.{Bool, true, false, not, ◌&&◌, ◌||◌}
use Rattle.hir_ids.specs.declared.macro_kind.MacroCallStyles.{MacroCallStyles}
use Rattle.hir_ids.specs.declared.macro_kind.MacroExpander.{MacroExpander}
use Rattle.hir_ids.specs.declared.macro_kind.MacroExpander.TheVariants.{Declarative, Builtin, BuiltinEager, BuiltinAttr, BuiltinDerive, Unimplemented}
use Rattle.hir_ids.specs.declared.macro_kind.MacroId.{MacroId}
use Rattle.hir_ids.specs.declared.macro_kind.MacroId.TheVariants.{Macro2Id, MacroRulesId, ProcMacroId}
use Rattle.hir_ids.specs.declared.macro_kind.ProcMacroStyle.{ProcMacroStyle}
use Rattle.hir_ids.specs.declared.macro_kind.ProcMacroStyle.TheVariants.{FnLike, Attr, Derive}

-- the three sets of one style, and that of all
abbrev pub fn_like_alone : MacroCallStyles
fn_like_alone = record { fn_like = true; attr = false; derive = false }

abbrev pub attr_alone : MacroCallStyles
attr_alone = record { fn_like = false; attr = true; derive = false }

abbrev pub derive_alone : MacroCallStyles
derive_alone = record { fn_like = false; attr = false; derive = true }

abbrev pub every_style : MacroCallStyles
every_style = record { fn_like = true; attr = true; derive = true }

-- whether the first set has each style of the second
abbrev pub contains_styles : MacroCallStyles → MacroCallStyles → Bool
contains_styles all some = (not some.fn_like || all.fn_like) && (not some.attr || all.attr) && (not some.derive || all.derive)

-- the styles that an expander takes
abbrev pub styles_of_expander : MacroExpander → MacroCallStyles
styles_of_expander (Declarative styles) = styles
styles_of_expander Builtin = fn_like_alone
styles_of_expander BuiltinEager = fn_like_alone
styles_of_expander BuiltinAttr = attr_alone
styles_of_expander BuiltinDerive = derive_alone
styles_of_expander Unimplemented = every_style

-- the styles of a procedural macro
abbrev pub styles_of_kind : ProcMacroStyle → MacroCallStyles
styles_of_kind FnLike = fn_like_alone
styles_of_kind Attr = attr_alone
styles_of_kind Derive = derive_alone

-- the styles in which a macro may be called
abbrev pub styles_of : MacroId → MacroCallStyles
styles_of (Macro2Id id) = styles_of_expander id.loc.expander
styles_of (MacroRulesId id) = styles_of_expander id.loc.expander
styles_of (ProcMacroId id) = styles_of_kind id.loc.style
