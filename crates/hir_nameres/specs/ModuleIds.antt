-- Which modules of a map does a file hold?
use Rattle.std.specs.Prelude.{ℕ, suc, List, [], ◌∷◌, Bool, false, Option, None, Some, cond}
use Rattle.hir_def_map_rules.specs.HirIds.contracts.ast_id.FileIdPartialEq.TheImpl as file_id
use Rattle.hir_def_map_rules.specs.HirIds.contracts.ast_id.MacroCallIdPartialEq.TheImpl as call_id
use Rattle.hir_def_map_rules.specs.HirIds.declared.ast_id.EditionedFileId.{EditionedFileId}
use Rattle.hir_def_map_rules.specs.HirIds.declared.ast_id.FileId.{FileId}
use Rattle.hir_def_map_rules.specs.HirIds.declared.ast_id.HirFileId.{HirFileId}
use Rattle.hir_def_map_rules.specs.HirIds.declared.ast_id.MacroCallId.{MacroCallId}
use Rattle.hir_def_map_rules.specs.HirIds.declared.ids.MapId.{MapId}
use Rattle.hir_def_map_rules.specs.HirIds.declared.ids.ModuleId.{ModuleId}
use Rattle.hir_def_map_rules.specs.HirIds.declared.ast_id.HirFileId.TheVariants as files
use Rattle.hir_def_map_rules.specs.Origins.{file_of}
use Rattle.hir_def_map_rules.specs.State.{ModuleValue, numbered}
use Rattle.hir_nameres.specs.declared.nameres.module_ids.WantedFile.{WantedFile}
use Rattle.hir_nameres.specs.declared.nameres.module_ids.WantedFile.TheVariants.{Expansion, Own}
use Rattle.hir_def_map_rules.specs.HirMapParts.declared.origin.ModuleOrigin.{ModuleOrigin}
use Rattle.hir_def_map_rules.specs.HirMapParts.declared.origin.ModuleOrigin.TheVariants as origins

-- whether a module's own file is this one, whatever its edition
abbrev pub is_file : FileId → Option EditionedFileId → Bool
is_file file None = false
is_file file (Some own) = file_id.ghosts.eq own.file_id file

-- whether a file is what this call expands to
abbrev pub is_expansion : MacroCallId → HirFileId → Bool
is_expansion call (files.File file) = false
is_expansion call (files.Macro other) = call_id.ghosts.eq other call

-- whether a module has its contents beside its `mod` item, in what this call expands to
abbrev pub is_inline_in : MacroCallId → ModuleOrigin → Bool
is_inline_in call (origins.CrateRoot definition) = false
is_inline_in call (origins.File is_mod_rs declaration tree definition) = false
is_inline_in call (origins.Inline tree definition) = is_expansion call tree.file
is_inline_in call (origins.BlockExpr id block) = false

-- whether the file that is asked for holds a module
abbrev pub is_held : WantedFile → ModuleOrigin → Bool
is_held (Own file) origin = is_file file (file_of origin)
is_held (Expansion call) origin = is_inline_in call origin

-- the ids of those that it holds, among modules that are numbered from here on
abbrev pub ids_held : WantedFile → MapId → ℕ → List ModuleValue → List ModuleId
ids_held wanted id index [] = []
ids_held wanted id index (m ∷ ms) =
    cond (is_held wanted m.origin) (numbered id index ∷ ids_held wanted id (suc index) ms) (ids_held wanted id (suc index) ms)
