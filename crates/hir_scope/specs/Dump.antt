-- How does a scope print?
use Rattle.std.specs.Prelude.{ℕ, ◌||◌, List, [], ◌∷◌, ◌++◌, codes, map, Option, None, Some, if◌then◌else◌}
use Rattle.std.specs.List.{flat_map}
use Rattle.std.specs.Ordering.{nat_cmp}
use Rattle.std.specs.Cmp.Lexicographic.{slice_cmp}
use Rattle.std.specs.BTreeSet.{insert_key}
use Rattle.hir_ids.specs.declared.edition.Edition.TheVariants.{Edition2024}
use Rattle.hir_ids.specs.declared.macro_kind.MacroCallStyles.{MacroCallStyles}
use Rattle.hir_ids.specs.declared.macro_kind.MacroId.{MacroId}
use Rattle.hir_ids.specs.declared.ids.ModuleDefId.{ModuleDefId}
use Rattle.hir_ids.specs.declared.ids.TraitId.{TraitId}
use Rattle.hir_ids.specs.MacroKind.{styles_of}
use Rattle.hir_ids.specs.Display.{shown}
use Rattle.hir_textual_scope.specs.declared.textual_scope.TextualMacro.{TextualMacro}
use Rattle.hir_per_ns.specs.declared.imports.ImportId.{ImportId}
use Rattle.hir_per_ns.specs.declared.imports.ImportOrExternCrate.{ImportOrExternCrate}
use Rattle.hir_per_ns.specs.declared.imports.ImportOrExternCrate.TheVariants as item
use Rattle.hir_per_ns.specs.declared.imports.ImportOrGlob.{ImportOrGlob}
use Rattle.hir_per_ns.specs.declared.imports.ImportOrGlob.TheVariants as value
use Rattle.hir_per_ns.specs.PerNs.{Item, is_nothing}
use Rattle.hir_per_ns.specs.declared.per_ns.PerNs.{PerNs}
use Rattle.hir_scope.specs.Scope.{ScopeValue}
use Rattle.hir_scope.specs.Scope.Reads.{legacy_at}
use Rattle.hir_scope.specs.Scope.Entries.{entries_of, unnamed_binding}

-- what brought a type or a macro
abbrev pub import_word : Option ImportOrExternCrate → List ℕ
import_word None = []
import_word (Some (item.Import import)) = codes " (import)"
import_word (Some (item.Glob glob)) = codes " (glob)"
import_word (Some (item.ExternCrate declared)) = codes " (extern)"

-- what brought a value
abbrev pub value_import_word : Option ImportOrGlob → List ℕ
value_import_word None = []
value_import_word (Some (value.Import import)) = codes " (import)"
value_import_word (Some (value.Glob glob)) = codes " (glob)"

-- how a macro may be called
abbrev pub style_marks : MacroCallStyles → List ℕ
style_marks styles = (if styles.fn_like then codes "!" else []) ++ (if styles.attr || styles.derive then codes "#" else [])

abbrev pub macro_word : MacroId → List ℕ
macro_word id = codes " macro" ++ style_marks (styles_of id)

abbrev pub type_text : Option (Item ModuleDefId ImportOrExternCrate) → List ℕ
type_text None = []
type_text (Some bound) = codes " type" ++ import_word bound.import

abbrev pub value_text : Option (Item ModuleDefId ImportOrGlob) → List ℕ
value_text None = []
value_text (Some bound) = codes " value" ++ value_import_word bound.import

abbrev pub macro_text : Option (Item MacroId ImportOrExternCrate) → List ℕ
macro_text None = []
macro_text (Some bound) = macro_word bound.def ++ import_word bound.import

-- what a name stands for
abbrev pub binding_text : PerNs → List ℕ
binding_text p = type_text p.types ++ value_text p.values ++ macro_text p.macros ++ (if is_nothing p then codes " _" else [])

-- a name as the latest edition writes it
abbrev pub line_name : Option (List ℕ) → List ℕ
line_name None = codes "_"
line_name (Some name) = shown (Some Edition2024) name

-- the line of a name and what it stands for
abbrev pub line : Option (List ℕ) → PerNs → List ℕ
line name p = codes "- " ++ line_name name ++ codes " :" ++ binding_text p ++ 10 ∷ []

abbrev pub entry_line : List ℕ × PerNs → List ℕ
entry_line entry = line (Some entry.0) entry.1

-- the line of a trait that is imported without a name
abbrev pub unnamed_line : TraitId × Item (Unit {0}) ImportId → List ℕ
unnamed_line entry = line None (unnamed_binding entry)

-- names in order, before which others stand
abbrev pub in_order : List (List ℕ) → List (List ℕ) → List (List ℕ)
in_order sorted [] = sorted
in_order sorted (name ∷ names) = in_order (insert_key (slice_cmp nat_cmp) sorted name) names

-- the line of a name and its macros in textual scope
unfoldable pub legacy_text : List ℕ → List MacroId → List ℕ
legacy_text name macros = codes "- (legacy) " ++ shown (Some Edition2024) name ++ codes " :" ++ flat_map macro_word macros ++ 10 ∷ []

abbrev pub legacy_line : ScopeValue → List ℕ → List ℕ
legacy_line scope name = legacy_text name (legacy_at scope name)

-- the names of macros
abbrev pub names_of_macros : List TextualMacro → List (List ℕ)
names_of_macros macros = map (λ (m : TextualMacro). m.name) macros

-- the lines of a scope: traits without a name, names in order, and macros in textual scope by name
abbrev pub dump_of : ScopeValue → List ℕ
dump_of scope =
    flat_map unnamed_line scope.unnamed_traits
    ++ flat_map entry_line (entries_of scope)
    ++ flat_map (legacy_line scope) (in_order [] (names_of_macros scope.legacy_macros))
