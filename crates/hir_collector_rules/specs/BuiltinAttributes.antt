-- Which attributes are builtin and inert, so that nothing is looked up for them?
use Rattle.std.specs.Prelude.{ℕ, Bool, false, ◌||◌, nat_eq, List, [], ◌∷◌, codes}
use Rattle.std.specs.List.{starts_with}
use Rattle.hir_nameres.specs.HirIds.Display.{is_one_of}
use Rattle.hir_nameres.specs.HirBase.declared.mod_path.PathKind.{PathKind}
use Rattle.hir_nameres.specs.HirBase.declared.mod_path.PathKind.TheVariants as roots

-- attributes of tests, and of macros
abbrev pub testing_and_macros : List (List ℕ)
testing_and_macros = codes "automatically_derived" ∷ codes "bench" ∷ codes "ignore"
    ∷ codes "macro_export" ∷ codes "macro_use" ∷ codes "proc_macro" ∷ codes "proc_macro_attribute"
    ∷ codes "proc_macro_derive" ∷ codes "should_panic" ∷ codes "test" ∷ []

-- attributes of lints, and of documentation
abbrev pub lints_and_documentation : List (List ℕ)
lints_and_documentation = codes "allow" ∷ codes "deny" ∷ codes "deprecated" ∷ codes "doc"
    ∷ codes "expect" ∷ codes "forbid" ∷ codes "must_use" ∷ codes "warn" ∷ []

-- attributes of a crate as a whole
abbrev pub crate_properties : List (List ℕ)
crate_properties = codes "crate_name" ∷ codes "crate_type" ∷ codes "debugger_visualizer"
    ∷ codes "feature" ∷ codes "global_allocator" ∷ codes "no_builtins" ∷ codes "no_core"
    ∷ codes "no_implicit_prelude" ∷ codes "no_link" ∷ codes "no_main" ∷ codes "no_std"
    ∷ codes "panic_handler" ∷ codes "prelude_import" ∷ codes "recursion_limit" ∷ codes "register_tool"
    ∷ codes "type_length_limit" ∷ codes "windows_subsystem" ∷ []

-- attributes of symbols and linking, of layout, and of generated code
abbrev pub symbols_and_code : List (List ℕ)
symbols_and_code = codes "cold" ∷ codes "export_name" ∷ codes "inline" ∷ codes "instruction_set"
    ∷ codes "link" ∷ codes "link_name" ∷ codes "link_ordinal" ∷ codes "link_section" ∷ codes "naked"
    ∷ codes "no_mangle" ∷ codes "non_exhaustive" ∷ codes "path" ∷ codes "repr" ∷ codes "target_feature"
    ∷ codes "track_caller" ∷ codes "used" ∷ []

-- whether the language has an inert attribute of this name
abbrev pub is_listed : List ℕ → Bool
is_listed name = is_one_of testing_and_macros name || is_one_of lints_and_documentation name
    || is_one_of crate_properties name || is_one_of symbols_and_code name

-- whether an attribute of this name is builtin and inert: one that the language has, or one of the compiler's own
abbrev pub is_builtin : List ℕ → Bool
is_builtin name = is_listed name || starts_with nat_eq name (codes "rustc_")

-- whether an attribute with this path is builtin and inert: the path is such a name alone
abbrev pub is_inert : PathKind → List (List ℕ) → Bool
is_inert roots.Plain (name ∷ []) = is_builtin name
is_inert roots.Plain [] = false
is_inert roots.Plain (name ∷ (next ∷ rest)) = false
is_inert (roots.Super levels) segments = false
is_inert roots.Crate segments = false
is_inert roots.Abs segments = false
is_inert (roots.DollarCrate krate) segments = false
