-- Files, blocks, expansions and macro calls as plain values, and their ids.
use Rattle.std.proofs.Common.{ℕ, nat_eq, map, refl}
use Rattle.std.specs.Cmp.Lexicographic.{pointwise}
use Rattle.std.proofs.lemmas.Cmp.{nat_list_eq_equiv}
use Rattle.hir_base.specs.contracts.macro_kind.ExpansionKeyEq.TheImpl.Laws.{laws-law as key_laws}
use Rattle.hir_base.specs.contracts.macro_kind.ExpansionKeyPartialEq.TheImpl as key_eq
use Rattle.hir_base.specs.contracts.macro_kind.MacroCallLocEq.TheImpl.Laws.{laws-law as call_laws}
use Rattle.hir_base.specs.contracts.macro_kind.MacroCallLocPartialEq.TheImpl as call_eq
use Rattle.hir_base.specs.contracts.place.BlockPlaceEq.TheImpl.Laws.{laws-law as block_laws}
use Rattle.hir_base.specs.contracts.place.BlockPlacePartialEq.TheImpl as block_eq
use Rattle.hir_ids.specs.declared.ast_id.BlockId.{BlockId}
use Rattle.hir_ids.specs.declared.ast_id.EntryId.{EntryId}
use Rattle.hir_ids.specs.declared.ast_id.FileId.{FileId}
use Rattle.hir_ids.specs.declared.ast_id.MacroCallId.{MacroCallId}
use Rattle.hir_tables.specs.SourcePlaces.{expansion_value}
use Rattle.hir_tables.proofs.Exact.{decides_file, decides_block, decides_key, decides_call}
use Rattle.hir_tables.proofs.PlainLemmas.{IsPlain, IsPlain-itself, IsPlain-mapped, IsId}

pub of_files : IsPlain (pointwise nat_eq) (λ path. path) (λ paths. paths)
of_files = IsPlain-itself (pointwise nat_eq) nat_list_eq_equiv decides_file

pub of_blocks : IsPlain block_eq.ghosts.eq (λ place. place) (λ places. places)
of_blocks = IsPlain-itself block_eq.ghosts.eq block_laws decides_block

pub of_entries : IsPlain key_eq.ghosts.eq expansion_value (map expansion_value)
of_entries = IsPlain-mapped key_eq.ghosts.eq expansion_value key_laws decides_key

pub of_calls : IsPlain call_eq.ghosts.eq (λ call. call) (λ calls. calls)
of_calls = IsPlain-itself call_eq.ghosts.eq call_laws decides_call

abbrev pub file_id : ℕ → FileId
file_id n = record { 0 = n }

abbrev pub block_id : ℕ → BlockId
block_id n = record { 0 = n }

abbrev pub entry_id : ℕ → EntryId
entry_id n = record { 0 = n }

abbrev pub call_id : ℕ → MacroCallId
call_id n = record { 0 = n }

pub file_ids : IsId file_id (λ id. id.0)
file_ids = record { back = λ n. refl; forth = λ id. refl }

pub block_ids : IsId block_id (λ id. id.0)
block_ids = record { back = λ n. refl; forth = λ id. refl }

pub entry_ids : IsId entry_id (λ id. id.0)
entry_ids = record { back = λ n. refl; forth = λ id. refl }

pub call_ids : IsId call_id (λ id. id.0)
call_ids = record { back = λ n. refl; forth = λ id. refl }
