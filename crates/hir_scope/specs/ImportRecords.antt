-- What does a scope record of an import?
use Rattle.std.specs.Prelude.{Bool, true, false, Option, None, Some}
use Rattle.hir_ids.specs.declared.ids.ModuleDefId.{ModuleDefId}
use Rattle.hir_per_ns.specs.declared.imports.ImportOrDef.{ImportOrDef}
use Rattle.hir_per_ns.specs.declared.imports.ImportOrDef.TheVariants as reached
use Rattle.hir_per_ns.specs.declared.imports.ImportOrExternCrate.{ImportOrExternCrate}
use Rattle.hir_per_ns.specs.declared.imports.ImportOrExternCrate.TheVariants as brought
use Rattle.hir_per_ns.specs.declared.imports.ImportOrGlob.{ImportOrGlob}
use Rattle.hir_per_ns.specs.declared.imports.ImportOrGlob.TheVariants as brought_value

-- whether a glob brings something
abbrev pub is_glob : Option ImportOrExternCrate → Bool
is_glob None = false
is_glob (Some (brought.Glob id)) = true
is_glob (Some (brought.Import id)) = false
is_glob (Some (brought.ExternCrate id)) = false

-- what an import reached, where that is a type or a macro: what had brought it, or else its definition
abbrev pub reached_by : Option ImportOrExternCrate → ModuleDefId → ImportOrDef
reached_by None def = reached.Def def
reached_by (Some (brought.Glob id)) def = reached.Glob id
reached_by (Some (brought.Import id)) def = reached.Import id
reached_by (Some (brought.ExternCrate id)) def = reached.ExternCrate id

-- the same, where it is a value
abbrev pub value_reached_by : Option ImportOrGlob → ModuleDefId → ImportOrDef
value_reached_by None def = reached.Def def
value_reached_by (Some (brought_value.Glob id)) def = reached.Glob id
value_reached_by (Some (brought_value.Import id)) def = reached.Import id
