-- How many expansions are around syntax?
use Rattle.std.specs.Prelude.{ℕ, zero, suc, ◌+◌, Option, None, Some, option_map}
use Rattle.hir_collector_rules.specs.HirIds.declared.ast_id.AstId.{AstId}
use Rattle.hir_collector_rules.specs.HirIds.declared.ast_id.BlockId.{BlockId}
use Rattle.hir_collector_rules.specs.HirIds.declared.ast_id.HirFileId.{HirFileId}
use Rattle.hir_collector_rules.specs.HirBase.declared.macro_kind.MacroCallLoc.{MacroCallLoc}
use Rattle.hir_collector_rules.specs.HirIds.declared.ast_id.HirFileId.TheVariants.{File, Macro}
use Rattle.hir_collector_rules.specs.HirTables.Tables.{TablesValue, call_at}
use Rattle.hir_collector_rules.specs.HirDefMapRules.Diagnostics.{call_node}

-- the node of the call whose expansion writes it; none where a file or a block writes it
abbrev pub call_around : TablesValue → HirFileId → Option BlockId → Option AstId
call_around t file (Some b) = None
call_around t (File f) None = None
call_around t (Macro c) None = option_map (λ (call : MacroCallLoc). call_node call.kind) (call_at t c)

-- one more than around the call, if there is one
abbrev pub and_expansion : Option ℕ → ℕ
and_expansion None = 0
and_expansion (Some around) = around + 1

-- how many expansions are around what a file, a block or an expansion writes, where no more than so many are in one another
abbrev pub expansions_within : ℕ → TablesValue → HirFileId → Option BlockId → ℕ
expansions_within zero t file block = 0
expansions_within (suc n) t file block = and_expansion (option_map (λ (node : AstId). expansions_within n t node.file_id node.block) (call_around t file block))

-- a call is written in what calls of smaller numbers expand to
abbrev pub most_around : HirFileId → ℕ
most_around (File f) = 0
most_around (Macro c) = c.0 + 1

abbrev pub expansions_around : TablesValue → HirFileId → Option BlockId → ℕ
expansions_around t file block = expansions_within (most_around file) t file block
