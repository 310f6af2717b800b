-- Which names and which imports does a scope have, in order, and what do the names stand for?
use Rattle.std.specs.Prelude.{ℕ, List, ◌++◌, map, Option, None, Some, [], ◌∷◌}
use Rattle.std.specs.Ordering.{nat_cmp}
use Rattle.std.specs.Cmp.Lexicographic.{slice_cmp}
use Rattle.std.specs.Map.{keys_of}
use Rattle.hir_ids.specs.declared.ids.ModuleDefId.TheVariants as def
use Rattle.hir_ids.specs.declared.ids.TraitId.{TraitId}
use Rattle.hir_per_ns.specs.declared.imports.ImportId.{ImportId}
use Rattle.hir_per_ns.specs.declared.imports.ImportOrExternCrate.{ImportOrExternCrate}
use Rattle.hir_per_ns.specs.declared.imports.ImportOrExternCrate.TheVariants as item
use Rattle.hir_per_ns.specs.PerNs.{Item, types_only}
use Rattle.hir_per_ns.specs.declared.per_ns.PerNs.{PerNs}
use Rattle.hir_scope.specs.Scope.{ScopeValue, binding_of}
use Rattle.hir_scope.specs.Merge.{merge}
use Rattle.std.specs.declared.cmp.Ordering.{Ordering}
use Rattle.hir_per_ns.specs.contracts.imports.ImportIdOrd.TheImpl as import_id
use Rattle.hir_per_ns.specs.declared.imports.ImportOrGlob.{ImportOrGlob}
use Rattle.hir_per_ns.specs.declared.imports.ImportOrGlob.TheVariants as value

-- the names of a scope in order, each once: the bound ones, and the unresolved ones
abbrev pub scope_names : ScopeValue → List (List ℕ)
scope_names scope =
    merge (slice_cmp nat_cmp)
    (merge (slice_cmp nat_cmp) (keys_of scope.types) (keys_of scope.values))
    (merge (slice_cmp nat_cmp) (keys_of scope.macros) scope.unresolved)

-- names, each with what it stands for
abbrev pub with_bindings : ScopeValue → List (List ℕ) → List (List ℕ × PerNs)
with_bindings scope names = map (λ name. (name, binding_of scope name)) names

-- the names of a scope in order, each with what it stands for
abbrev pub entries_of : ScopeValue → List (List ℕ × PerNs)
entries_of scope = with_bindings scope (scope_names scope)

-- a trait that is imported without a name, as a type of its own
abbrev pub import_as_item : Option ImportId → Option ImportOrExternCrate
import_as_item None = None
import_as_item (Some import) = Some (item.Import import)

abbrev pub unnamed_binding : TraitId × Item (Unit {0}) ImportId → PerNs
unnamed_binding entry = types_only (def.TraitId entry.0) entry.1.vis (import_as_item entry.1.import)

-- what names stand for, and then the traits without one
abbrev pub resolutions_in : List (List ℕ × PerNs) → List (TraitId × Item (Unit {0}) ImportId) → List (Option (List ℕ) × PerNs)
resolutions_in entries unnamed = map (λ entry. (Some entry.0, entry.1)) entries ++ map (λ entry. (None, unnamed_binding entry)) unnamed

-- the order of imports: by `use` item, and then by place
unfoldable pub import_order : ImportId → ImportId → Ordering
import_order = import_id.ghosts.cmp

-- an import of one name before others
abbrev pub with_import : ImportOrExternCrate → List ImportId → List ImportId
with_import (item.Import import) others = import ∷ others
with_import (item.Glob glob) others = others
with_import (item.ExternCrate declared) others = others

-- the imports of one name
abbrev pub imports_among : List ImportOrExternCrate → List ImportId
imports_among [] = []
imports_among (key ∷ keys) = with_import key (imports_among keys)

-- the same, of what brings values
abbrev pub with_value_import : ImportOrGlob → List ImportId → List ImportId
with_value_import (value.Import import) others = import ∷ others
with_value_import (value.Glob glob) others = others

abbrev pub value_imports_among : List ImportOrGlob → List ImportId
value_imports_among [] = []
value_imports_among (key ∷ keys) = with_value_import key (value_imports_among keys)

-- the imports of one name that have a record in some namespace, in order, each once
abbrev pub imports_of_scope : ScopeValue → List ImportId
imports_of_scope scope =
    merge import_order
    (merge import_order (imports_among (keys_of scope.type_imports)) (imports_among (keys_of scope.macro_imports)))
    (value_imports_among (keys_of scope.value_imports))
