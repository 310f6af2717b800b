-- Which words stand for kinds and statuses?
use Rattle.std.specs.Prelude.{ℕ, List, codes}
use Rattle.hir_ids.specs.declared.ast_id.AstKind.{AstKind}
use Rattle.hir_ids.specs.declared.ast_id.AstKind.TheVariants as kind
use Rattle.hir_wire.specs.Types.{SourceKind, Status}
use Rattle.hir_wire.specs.Types.source
use Rattle.hir_wire.specs.Types.status

-- the word of a node's kind
abbrev pub kind_word : AstKind → List ℕ
kind_word kind.Use = codes "Use"
kind_word kind.ExternCrate = codes "ExternCrate"
kind_word kind.ExternBlock = codes "ExternBlock"
kind_word kind.Fn = codes "Fn"
kind_word kind.Struct = codes "Struct"
kind_word kind.Union = codes "Union"
kind_word kind.Enum = codes "Enum"
kind_word kind.Variant = codes "Variant"
kind_word kind.Const = codes "Const"
kind_word kind.Static = codes "Static"
kind_word kind.Trait = codes "Trait"
kind_word kind.Impl = codes "Impl"
kind_word kind.TypeAlias = codes "TypeAlias"
kind_word kind.Module = codes "Module"
kind_word kind.MacroCall = codes "MacroCall"
kind_word kind.MacroRules = codes "MacroRules"
kind_word kind.MacroDef = codes "MacroDef"

-- the word of a source item's kind
abbrev pub source_word : SourceKind → List ℕ
source_word (source.Node k) = kind_word k
source_word source.ProcMacro = codes "ProcMacro"

-- the word of a status
abbrev pub status_word : Status → List ℕ
status_word status.Current = codes "current"
status_word status.Stale = codes "stale"
status_word status.Unknown = codes "unknown"
