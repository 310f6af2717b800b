-- The file that is found for a module is what is seen at its key, and so is what a call expands to.
use Rattle.std.proofs.Common.{◌≡◌, ◌∙◌, ◌+◌, ◌<◌, suc, List, [], ◌∷◌, ◌++◌, length, Option, Some, None, refl, sym, ap, subst, arith, Contains}
use Rattle.std.specs.Option.{option_to_list}
use Rattle.hir_collector_rules.specs.HirIds.declared.ids.Crate.{Crate}
use Rattle.hir_collector_rules.specs.HirIds.declared.edition.Edition.{Edition}
use Rattle.hir_collector_rules.specs.HirIds.declared.ast_id.FileId.{FileId}
use Rattle.hir_collector_rules.specs.HirIds.declared.macro_kind.MacroId.{MacroId}
use Rattle.hir_collector_rules.specs.HirTables.Tables.{TablesValue}
use Rattle.hir_collector_rules.specs.HirDefMapRules.Overlay.{Maps}
use Rattle.hir_collector_rules.specs.declared.macro_directive.MacroDirective.{MacroDirective}
use Rattle.hir_collector_rules.specs.declared.source_database.Key.{Key}
use Rattle.hir_collector_rules.specs.declared.source_database.Key.TheVariants as keys
use Rattle.hir_collector_rules.specs.Calls.{Expanding, call_key, entry_readings, expansion_readings, grown_readings, text_readings}
use Rattle.hir_collector_rules.specs.Workspace.{Workspace, seen_of}
use Rattle.hir_collector_rules.specs.Keys.{Environment, Look, absent_source, environment, of_input, tree_at}
use Rattle.hir_collector_rules.specs.ModuleFiles.{LookedAt, ModuleFile, Reading, Tried, file_key, file_reading, file_readings, module_file}
use Rattle.hir_collector_rules.specs.Steps.{Sees, keys_read}
use Rattle.hir_collector_rules.proofs.Asked.{seen_tree}
use Rattle.hir_collector_rules.proofs.ModuleFiles.{found_at}

module _ (tables : TablesValue) (w : Workspace) (finished : Maps) (krate : Crate) (edition : Edition) where
  pub found_seen : (absent : List Tried) (found : Option Tried) (f : ModuleFile) → module_file found ≡ Some f
      → Sees (environment tables w) finished (file_readings krate edition (absent ++ option_to_list found))
      → (tree_at tables w (file_key krate edition f.id)).tree ≡ f.tree
  found_seen absent None f e sees = absurd cc
  found_seen [] (Some t) f e sees =
      let at = found_at t f e in
      let seen = subst (λ (o : Option LookedAt). Sees (environment tables w) finished (file_reading krate edition o ++ [])) at.1 sees in
      ap (λ (id : FileId). (tree_at tables w (file_key krate edition id)).tree) (sym at.3)
      ∙ ap (λ (l : Look). (seen_tree l (seen_of absent_source)).tree) seen.0
      ∙ at.4
  found_seen (x ∷ xs) (Some t) f e sees = found_seen xs (Some t) f e (left x.file sees)
    where
      left : (o : Option LookedAt) → Sees (environment tables w) finished (file_reading krate edition o ++ file_readings krate edition (xs ++ t ∷ []))
          → Sees (environment tables w) finished (file_readings krate edition (xs ++ t ∷ []))
      left None s = s
      left (Some g) s = s.1

-- what is read behind others is seen too, and its keys are among all that are read
sees_behind : (env : Environment) (finished : Maps) (before behind : List Reading) → Sees env finished (before ++ behind) → Sees env finished behind
sees_behind env finished [] behind sees = sees
sees_behind env finished (r ∷ rs) behind sees = sees_behind env finished rs behind sees.1

read_first : (r : Reading) (rs : List Reading) (key : Key) → Contains (keys_read rs) key → Contains (keys_read (r ∷ rs)) key
read_first r rs key (n, below, is) = (suc n, omega arith, is)

read_behind : (before behind : List Reading) (key : Key) → Contains (keys_read behind) key → Contains (keys_read (before ++ behind)) key
read_behind [] behind key h = h
read_behind (r ∷ rs) behind key h = read_first r (rs ++ behind) key (read_behind rs behind key h)

-- so is the tree of what a call expands to
module _ (tables : TablesValue) (w : Workspace) (finished : Maps) (krate : Crate) (d : MacroDirective) where
  pub expansion_seen : (makro : MacroId) (x : Expanding) → Sees (environment tables w) finished (text_readings makro x.text ++ expansion_readings krate d x)
      → tree_at tables w (call_key krate x.id) ≡ x.tree
  expansion_seen makro x sees =
      let rest : Sees (environment tables w) finished (expansion_readings krate d x) = sees_behind (environment tables w) finished
      (text_readings makro x.text) (expansion_readings krate d x) sees in
      let last : Sees (environment tables w) finished (entry_readings krate x) = sees_behind (environment tables w) finished
      (grown_readings x.grown) (entry_readings krate x) rest.1 in
      ap (λ (l : Look). seen_tree l (seen_of absent_source)) last.1.0

-- and its key is among those that are read
pub expansion_read : (krate : Crate) (d : MacroDirective) (makro : MacroId) (x : Expanding)
    → Contains (keys_read (text_readings makro x.text ++ expansion_readings krate d x)) (keys.Tree (call_key krate x.id))
expansion_read krate d makro x =
    let key : Key = keys.Tree (call_key krate x.id) in
    let last : Contains (keys_read (entry_readings krate x)) key = (1, omega arith, refl) in
    read_behind (text_readings makro x.text) (expansion_readings krate d x) key
    (read_first (record { key = keys.Input krate d.ast_id; there = of_input x.input }) (grown_readings x.grown ++ entry_readings krate x) key
    (read_behind (grown_readings x.grown) (entry_readings krate x) key last))
