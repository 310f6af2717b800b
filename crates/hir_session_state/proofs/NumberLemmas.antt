-- Numbers of sources: what they mean, and for which of them keys ask.
use Rattle.std.proofs.Common.{◌≡◌, ◌≢◌, arith, nat_eq, Bool, true, false, Option, Some, None, option_map, option_and_then, refl, sym, ap, ◌∙◌}
use Rattle.std.specs.Cmp.{unsigned_Decides}
use Rattle.std.specs.Prelude.{IsSome}
use mathlib.Core.Bool.{true≢false}
use Rattle.hir_collector_rules.specs.HirIds.declared.ast_id.BlockId.{BlockId}
use Rattle.hir_collector_rules.specs.HirIds.declared.ast_id.HirFileId.{HirFileId}
use Rattle.hir_collector_rules.specs.HirBase.declared.macro_kind.MacroCallLoc.{MacroCallLoc}
use Rattle.hir_collector_rules.specs.HirIds.declared.ast_id.HirFileId.TheVariants as syntax
use Rattle.hir_collector_rules.specs.HirIds.declared.macro_kind.MacroId.TheVariants as macros
use Rattle.hir_collector_rules.specs.HirBase.declared.tree_id.TreeKey.{TreeKey}
use Rattle.hir_collector_rules.specs.HirTables.SourcePlaces.{SourcePlaceValue, block, expansion, file}
use Rattle.hir_collector_rules.specs.HirTables.Tables.{TablesValue, HasEachOnce, KeepsTables, block_at, call_at, entry_at, file_at, source_under}
use Rattle.hir_collector_rules.specs.Keys.{HasMeaning}
use Rattle.hir_collector_rules.specs.declared.source_database.Key.{Key}
use Rattle.hir_collector_rules.specs.declared.source_database.Key.TheVariants as keys
use Rattle.hir_session_state.specs.contracts.source_number.SourceNumberPartialEq.TheImpl as number_eq
use Rattle.hir_session_state.specs.contracts.source_number.SourceNumberEq.TheImpl.Laws.{laws-law as number_laws}
use Rattle.hir_session_state.specs.Types.{SourceNumber}
use Rattle.hir_session_state.specs.declared.source_number.SourceNumber.TheVariants.{File, Block, Expansion}
use Rattle.hir_session_state.specs.NumberCodes.{number_code}
use Rattle.hir_session_state.specs.KeySources.{key_place, macro_source, tree_place}
use Rattle.hir_session_state.specs.SourceNumbers.{IsNumberOf, asked_number, asks, is_number, number_of, number_under, place_at}
use Rattle.hir_session_state.proofs.Truth.{no_value, one_value, clash}

-- ---- two numbers

pub same_number : (a b : SourceNumber) → number_eq.ghosts.eq a b ≡ true → a ≡ b
same_number (File a) (File b) e = λ i. File (record { 0 = (unsigned_Decides a.0 b.0).0 e i })
same_number (Block a) (Block b) e = λ i. Block (record { 0 = (unsigned_Decides a.0 b.0).0 e i })
same_number (Expansion a) (Expansion b) e = λ i. Expansion (record { 0 = (unsigned_Decides a.0 b.0).0 e i })
same_number a b e = absurd (true≢false (sym e))

own_number : (a : SourceNumber) → number_eq.ghosts.eq a a ≡ true
own_number a = number_laws.refl a

same_code : (a b : SourceNumber) → number_code a ≡ number_code b → a ≡ b
same_code (File a) (File b) e = let is : a.0 ≡ b.0 = omega (arith, e) in λ i. File (record { 0 = is i })
same_code (Block a) (Block b) e = let is : a.0 ≡ b.0 = omega (arith, e) in λ i. Block (record { 0 = is i })
same_code (Expansion a) (Expansion b) e = let is : a.0 ≡ b.0 = omega (arith, e) in λ i. Expansion (record { 0 = is i })
same_code (File a) (Block b) e = absurd (omega (arith, e))
same_code (File a) (Expansion b) e = absurd (omega (arith, e))
same_code (Block a) (File b) e = absurd (omega (arith, e))
same_code (Block a) (Expansion b) e = absurd (omega (arith, e))
same_code (Expansion a) (File b) e = absurd (omega (arith, e))
same_code (Expansion a) (Block b) e = absurd (omega (arith, e))

-- where two stand at one place of a list, they are one
pub codes_tie : (a b : SourceNumber) → nat_eq (number_code a) (number_code b) ≡ number_eq.ghosts.eq a b
codes_tie a b = go (nat_eq (number_code a) (number_code b)) refl (number_eq.ghosts.eq a b) refl
  where
    go : (p : Bool) → nat_eq (number_code a) (number_code b) ≡ p → (q : Bool) → number_eq.ghosts.eq a b ≡ q
        → nat_eq (number_code a) (number_code b) ≡ number_eq.ghosts.eq a b
    go true e true f = e ∙ sym f
    go true e false f =
        let same : a ≡ b = same_code a b ((unsigned_Decides (number_code a) (number_code b)).0 e) in
        clash (ap (number_eq.ghosts.eq a) (sym same) ∙ own_number a) f
    go false e true f =
        let same : number_code a ≡ number_code b = ap number_code (same_number a b f) in
        clash ((unsigned_Decides (number_code a) (number_code b)).1 same) e
    go false e false f = e ∙ sym f

-- ---- what they mean

-- what is mapped is mapped from something
from_mapped : {A B : Type 0} (f : A → B) (o : Option A) (b : B) → option_map f o ≡ Some b → (a : A) × (o ≡ Some a) × (f a ≡ b)
from_mapped f None b e = no_value e
from_mapped f (Some a) b e = (a, refl, one_value e)

-- no two numbers mean one place
one_number : (t : TablesValue) (place : SourcePlaceValue) (a b : SourceNumber) → HasEachOnce t → place_at t a ≡ Some place → place_at t b ≡ Some place → a ≡ b
one_number t place (File a) (File b) once x y =
    let p = from_mapped file (file_at t a) place x in
    let q = from_mapped file (file_at t b) place y in
    let same : p.0 ≡ q.0 = (let both : file p.0 ≡ file q.0 = p.2 ∙ sym q.2 in cc) in
    λ i. File (record { 0 = once.files a.0 b.0 p.0 p.1 (q.1 ∙ ap (λ (x : _). Some x) (sym same)) i })
one_number t place (Block a) (Block b) once x y =
    let p = from_mapped block (block_at t a) place x in
    let q = from_mapped block (block_at t b) place y in
    let same : p.0 ≡ q.0 = (let both : block p.0 ≡ block q.0 = p.2 ∙ sym q.2 in cc) in
    λ i. Block (record { 0 = once.blocks a.0 b.0 p.0 p.1 (q.1 ∙ ap (λ (x : _). Some x) (sym same)) i })
one_number t place (Expansion a) (Expansion b) once x y =
    let p = from_mapped expansion (entry_at t a) place x in
    let q = from_mapped expansion (entry_at t b) place y in
    let same : p.0 ≡ q.0 = (let both : expansion p.0 ≡ expansion q.0 = p.2 ∙ sym q.2 in cc) in
    λ i. Expansion (record { 0 = once.entries a.0 b.0 p.0 p.1 (q.1 ∙ ap (λ (x : _). Some x) (sym same)) i })
one_number t place (File a) (Block b) once x y =
    let p = from_mapped file (file_at t a) place x in
    let q = from_mapped block (block_at t b) place y in
    absurd (let both : file p.0 ≡ block q.0 = p.2 ∙ sym q.2 in let wrong : ⊥ = cc in wrong)
one_number t place (File a) (Expansion b) once x y =
    let p = from_mapped file (file_at t a) place x in
    let q = from_mapped expansion (entry_at t b) place y in
    absurd (let both : file p.0 ≡ expansion q.0 = p.2 ∙ sym q.2 in let wrong : ⊥ = cc in wrong)
one_number t place (Block a) (File b) once x y =
    let p = from_mapped block (block_at t a) place x in
    let q = from_mapped file (file_at t b) place y in
    absurd (let both : block p.0 ≡ file q.0 = p.2 ∙ sym q.2 in let wrong : ⊥ = cc in wrong)
one_number t place (Block a) (Expansion b) once x y =
    let p = from_mapped block (block_at t a) place x in
    let q = from_mapped expansion (entry_at t b) place y in
    absurd (let both : block p.0 ≡ expansion q.0 = p.2 ∙ sym q.2 in let wrong : ⊥ = cc in wrong)
one_number t place (Expansion a) (File b) once x y =
    let p = from_mapped expansion (entry_at t a) place x in
    let q = from_mapped file (file_at t b) place y in
    absurd (let both : expansion p.0 ≡ file q.0 = p.2 ∙ sym q.2 in let wrong : ⊥ = cc in wrong)
one_number t place (Expansion a) (Block b) once x y =
    let p = from_mapped expansion (entry_at t a) place x in
    let q = from_mapped block (block_at t b) place y in
    absurd (let both : expansion p.0 ≡ block q.0 = p.2 ∙ sym q.2 in let wrong : ⊥ = cc in wrong)

-- the place of a tree's source is that of its number
source-number : (t : TablesValue) (id : HirFileId) (b : Option BlockId) → source_under t id b ≡ option_and_then (place_at t) (number_under t id b)
source-number t id (Some b) = refl
source-number t (syntax.File id) None = refl
source-number t (syntax.Macro id) None = go (call_at t id)
  where
    go : (o : Option MacroCallLoc) → option_map expansion (option_and_then (λ (call : MacroCallLoc). entry_at t call.entry) o)
        ≡ option_and_then (place_at t) (option_map (λ (call : MacroCallLoc). Expansion call.entry) o)
    go None = refl
    go (Some call) = refl

tree-number : (t : TablesValue) (o : Option TreeKey) → tree_place t o ≡ option_and_then (place_at t) (number_of t o)
tree-number t None = refl
tree-number t (Some key) = source-number t key.id.file key.id.block

-- so is that for which a key asks
pub place-number : (t : TablesValue) (key : Key) → key_place t key ≡ option_and_then (place_at t) (asked_number t key)
place-number t (keys.Tree key) = source-number t key.id.file key.id.block
place-number t (keys.Variants id) = source-number t id.loc.file_id id.loc.block
place-number t (keys.Text id) = tree-number t (macro_source id)
place-number t (keys.Input krate ast) = source-number t ast.file_id ast.block
place-number t (keys.Expansion id) = refl
place-number t (keys.Map id) = refl
place-number t (keys.Config krate) = refl

module _ (t : TablesValue) (place : SourcePlaceValue) (number : SourceNumber) (numbered : IsNumberOf t place number) where
  pub is-number : (o : Option SourceNumber) → is_number number o ≡ true → o ≡ Some number
  is-number None on = clash on refl
  is-number (Some other) on = ap (λ (n : SourceNumber). Some n) (same_number other number on)

  -- a key that asks for the source by its number asks for the place
  pub asked-place : (key : Key) → asks t number key ≡ true → key_place t key ≡ Some place
  asked-place key on =
      place-number t key ∙ ap (λ (o : Option SourceNumber). option_and_then (place_at t) o) (is-number (asked_number t key) on) ∙ numbered.means

  -- and the other way round
  pub place-asked : (key : Key) → key_place t key ≡ Some place → asked_number t key ≡ Some number
  place-asked key at = go (asked_number t key) (sym (place-number t key) ∙ at)
    where
      go : (o : Option SourceNumber) → option_and_then (place_at t) o ≡ Some place → o ≡ Some number
      go None e = no_value e
      go (Some other) e = ap (λ (n : SourceNumber). Some n) (one_number t place other number numbered.once e numbered.means)

  pub unasked-place : (key : Key) → asks t number key ≡ false → key_place t key ≢ Some place
  unasked-place key off at = clash (ap (is_number number) (place-asked key at) ∙ own_number number) off

-- a place without a number is none for which a key asks
pub unnumbered-place : (t : TablesValue) (place : SourcePlaceValue) → ((n : SourceNumber) → place_at t n ≢ Some place) → (key : Key)
    → key_place t key ≢ Some place
unnumbered-place t place none key at = go (asked_number t key) (sym (place-number t key) ∙ at)
  where
    go : (o : Option SourceNumber) → option_and_then (place_at t) o ≡ Some place → ⊥
    go None e = no_value e
    go (Some n) e = none n e

-- ---- as tables grow

kept_value : {A : Type 0} (o p : Option A) → IsSome o → ((a : A) → o ≡ Some a → p ≡ Some a) → p ≡ o
kept_value None p there stays = absurd (let no : ⊥ = cc in no)
kept_value (Some a) p there stays = stays a refl

module _ (old new : TablesValue) (keeps : KeepsTables old new) where
  number-kept : (id : HirFileId) (b : Option BlockId) → IsSome (source_under old id b) → number_under new id b ≡ number_under old id b
  number-kept id (Some b) there = refl
  number-kept (syntax.File id) None there = refl
  number-kept (syntax.Macro id) None there =
      ap (λ (o : Option MacroCallLoc). option_map (λ (call : MacroCallLoc). Expansion call.entry) o)
      (kept_value (call_at old id) (call_at new id) (is_there (call_at old id) there) (λ call at. keeps.calls id.0 call at))
    where
      is_there : (o : Option MacroCallLoc) → IsSome (option_map expansion (option_and_then (λ (call : MacroCallLoc). entry_at old call.entry) o)) → IsSome o
      is_there None some = some
      is_there (Some call) some = refl

  -- a key whose numbers mean something asks for what it asked for
  pub asked-kept : (key : Key) → HasMeaning old key → asked_number new key ≡ asked_number old key
  asked-kept (keys.Tree key) there = number-kept key.id.file key.id.block there
  asked-kept (keys.Variants id) there = number-kept id.loc.file_id id.loc.block there
  asked-kept (keys.Text (macros.Macro2Id id)) there = number-kept id.loc.file_id id.loc.block there
  asked-kept (keys.Text (macros.MacroRulesId id)) there = number-kept id.loc.file_id id.loc.block there
  asked-kept (keys.Text (macros.ProcMacroId id)) there = refl
  asked-kept (keys.Input krate ast) there = number-kept ast.file_id ast.block there
  asked-kept (keys.Expansion id) there = refl
  asked-kept (keys.Map id) there = refl
  asked-kept (keys.Config krate) there = refl
