-- Which import does one of several cases hold?
use Rattle.std.specs.Prelude.{Option, None, Some}
use Rattle.hir_ids.specs.declared.ids.UseId.{UseId}
use Rattle.hir_per_ns.specs.declared.imports.ImportId.{ImportId}
use Rattle.hir_per_ns.specs.declared.imports.GlobId.{GlobId}
use Rattle.hir_per_ns.specs.declared.imports.ImportOrGlob.{ImportOrGlob}
use Rattle.hir_per_ns.specs.declared.imports.ImportOrGlob.TheVariants as value
use Rattle.hir_per_ns.specs.declared.imports.ImportOrExternCrate.{ImportOrExternCrate}
use Rattle.hir_per_ns.specs.declared.imports.ImportOrExternCrate.TheVariants as item
use Rattle.hir_per_ns.specs.declared.imports.ImportOrDef.{ImportOrDef}
use Rattle.hir_per_ns.specs.declared.imports.ImportOrDef.TheVariants as target

-- the import or glob, where it is one
abbrev pub import_or_glob_of : ImportOrExternCrate → Option ImportOrGlob
import_or_glob_of (item.Glob glob) = Some (value.Glob glob)
import_or_glob_of (item.Import import) = Some (value.Import import)
import_or_glob_of (item.ExternCrate declared) = None

-- the import of one name, where it is one
abbrev pub import_of : ImportOrExternCrate → Option ImportId
import_of (item.Glob glob) = None
import_of (item.Import import) = Some import
import_of (item.ExternCrate declared) = None

-- the glob, where it is one
abbrev pub glob_of : ImportOrExternCrate → Option GlobId
glob_of (item.Glob glob) = Some glob
glob_of (item.Import import) = None
glob_of (item.ExternCrate declared) = None

-- the `use` item, where it is one
abbrev pub use_of : ImportOrExternCrate → Option UseId
use_of (item.Glob glob) = Some glob.use_
use_of (item.Import import) = Some import.use_
use_of (item.ExternCrate declared) = None

-- of what brought a value, the import of one name
abbrev pub import_of_value : ImportOrGlob → Option ImportId
import_of_value (value.Glob glob) = None
import_of_value (value.Import import) = Some import

-- what brought a value, as what brought an item of any namespace
abbrev pub as_item_import : ImportOrGlob → ImportOrExternCrate
as_item_import (value.Glob glob) = item.Glob glob
as_item_import (value.Import import) = item.Import import

-- what brought an item, as what a record names
abbrev pub as_target : ImportOrExternCrate → ImportOrDef
as_target (item.Glob glob) = target.Glob glob
as_target (item.Import import) = target.Import import
as_target (item.ExternCrate declared) = target.ExternCrate declared

-- what brought a value, as what a record names
abbrev pub value_as_target : ImportOrGlob → ImportOrDef
value_as_target (value.Glob glob) = target.Glob glob
value_as_target (value.Import import) = target.Import import
