-- Where is a module written?
use Rattle.std.specs.Prelude.{Bool, true, false, Option, None, Some}
use Rattle.hir_ids.specs.declared.ast_id.AstId.{AstId}
use Rattle.hir_ids.specs.declared.ast_id.EditionedFileId.{EditionedFileId}
use Rattle.hir_ids.specs.declared.ast_id.InFile.{InFile}
use Rattle.hir_ids.specs.declared.ast_id.SyntaxId.{SyntaxId}
use Rattle.hir_ids.specs.declared.ast_id.HirFileId.TheVariants as files
use Rattle.hir_map_parts.specs.declared.origin.ModuleOrigin.{ModuleOrigin}
use Rattle.hir_map_parts.specs.declared.origin.ModuleOrigin.TheVariants as origins
use Rattle.hir_map_parts.specs.declared.origin.ModuleSource.{ModuleSource}
use Rattle.hir_map_parts.specs.declared.origin.ModuleSource.TheVariants as sources

-- the `mod` item that declares it
abbrev pub declaration_of : ModuleOrigin → Option AstId
declaration_of (origins.CrateRoot definition) = None
declaration_of (origins.File is_mod_rs declaration tree definition) = Some declaration
declaration_of (origins.Inline tree definition) = Some definition
declaration_of (origins.BlockExpr id block) = None

-- the file that it has to itself
abbrev pub file_of : ModuleOrigin → Option EditionedFileId
file_of (origins.CrateRoot definition) = Some definition
file_of (origins.File is_mod_rs declaration tree definition) = Some definition
file_of (origins.Inline tree definition) = None
file_of (origins.BlockExpr id block) = None

-- whether it is written inside another module
abbrev pub is_in_place : ModuleOrigin → Bool
is_in_place (origins.CrateRoot definition) = false
is_in_place (origins.File is_mod_rs declaration tree definition) = false
is_in_place (origins.Inline tree definition) = true
is_in_place (origins.BlockExpr id block) = true

-- what its contents are written in, and the file of that
abbrev pub source_of : ModuleOrigin → InFile ModuleSource
source_of (origins.CrateRoot definition) = record { file_id = files.File definition; value = sources.SourceFile definition }
source_of (origins.File is_mod_rs declaration tree definition) = record { file_id = files.File definition; value = sources.SourceFile definition }
source_of (origins.Inline tree definition) = record { file_id = tree.file; value = sources.Module definition }
source_of (origins.BlockExpr id block) = record { file_id = block.file_id; value = sources.BlockExpr block.value }

-- the number of what the contents are written in; a whole file has none
abbrev pub node_of : ModuleSource → Option SyntaxId
node_of (sources.SourceFile definition) = None
node_of (sources.Module item) = Some item.id
node_of (sources.BlockExpr block) = Some block
