-- Tables that grow keep what their numbers mean.
use Rattle.std.proofs.Common.{◌≡◌, Option, Some, None, refl, option_map}
use Rattle.std.specs.Option.{option_and_then}
use Rattle.hir_ids.specs.declared.ast_id.BlockId.{BlockId}
use Rattle.hir_ids.specs.declared.ast_id.HirFileId.{HirFileId}
use Rattle.hir_ids.specs.declared.ast_id.HirFileId.TheVariants.{File, Macro}
use Rattle.hir_tables.specs.Laws.{GrowthKeepsSources, GrowthIsTransitive, NoGrowthIsGrowth}
use Rattle.hir_tables.specs.SourcePlaces.{SourcePlaceValue}
use Rattle.hir_tables.specs.Tables.{TablesValue, KeepsTables, source_under, file_source, call_at}

pub KeepsTables-refl : NoGrowthIsGrowth
KeepsTables-refl t = record { files = λ n v h. h; blocks = λ n v h. h; entries = λ n v h. h; calls = λ n v h. h }

pub KeepsTables-trans : GrowthIsTransitive
KeepsTables-trans old mid new a b = record {
  files = λ n v h. b.files n v (a.files n v h);
  blocks = λ n v h. b.blocks n v (a.blocks n v h);
  entries = λ n v h. b.entries n v (a.entries n v h);
  calls = λ n v h. b.calls n v (a.calls n v h);
}

-- what is made of a value that stays there is made of it still
mapped : {A B : Type 0} (f : A → B) (o p : Option A) (b : B) → ((a : A) → o ≡ Some a → p ≡ Some a) → option_map f o ≡ Some b → option_map f p ≡ Some b
mapped f None p b stays e = cc
mapped f (Some a) p b stays e = rw (stays a refl) e

chained : {A B : Type 0} (f g : A → Option B) (o p : Option A) (b : B) → ((a : A) → o ≡ Some a → p ≡ Some a) → ((a : A) (x : B) → f a ≡ Some x → g a ≡ Some x)
    → option_and_then f o ≡ Some b → option_and_then g p ≡ Some b
chained f g None p b stays also e = cc
chained f g (Some a) p b stays also e = rw (stays a refl) (also a b e)

module _ (old new : TablesValue) (kept : KeepsTables old new) where
  files_stay : (id : HirFileId) (place : SourcePlaceValue) → file_source old id ≡ Some place → file_source new id ≡ Some place
  files_stay (File id) place e = mapped _ _ _ place (kept.files id.file_id.0) e
  files_stay (Macro id) place e = mapped _ _ _ place
      (λ key f. chained _ _ (call_at old id) (call_at new id) key (kept.calls id.0) (λ call x h. kept.entries call.entry.0 x h) f) e

  stay_under : (id : HirFileId) (b : Option BlockId) (place : SourcePlaceValue) → source_under old id b ≡ Some place → source_under new id b ≡ Some place
  stay_under id None place e = files_stay id place e
  stay_under id (Some b) place e = mapped _ _ _ place (kept.blocks b.0) e

pub source_of-kept : GrowthKeepsSources
source_of-kept old new id place kept e = stay_under old new kept id.file id.block place e
