-- Where the imports of a run are resolved: what has to hold before.
use Rattle.std.specs.Prelude.{◌≡◌, ◌&&◌, Bool, true, false, not, is_none, is_some, IsSome, List, Option, None, Some, option_map}
use Rattle.std.specs.BTreeMap.{BTreeMap}
use Rattle.std.proofs.Common.{refl, subst, sym}
use Rattle.hir_mod_collector.specs.HirIds.declared.ids.Crate.{Crate}
use Rattle.hir_mod_collector.specs.HirIds.declared.ast_id.FileId.{FileId}
use Rattle.hir_mod_collector.specs.HirIds.declared.ids.MapId.{MapId}
use Rattle.hir_mod_collector.specs.HirIds.declared.ids.ModuleId.{ModuleId}
use Rattle.hir_mod_collector.specs.HirTables.Tables.{TablesValue, file_at}
use Rattle.hir_mod_collector.specs.HirDefMapRules.Overlay.{Maps, Placed}
use Rattle.hir_mod_collector.specs.HirDefMapRules.State.{Local}
use Rattle.hir_mod_collector.specs.HirNameres.World.{IsChecked, finished_in}
use Rattle.hir_mod_collector.specs.HirNameres.WorldParts.{among}
use Rattle.hir_mod_collector.specs.HirNameres.declared.world.finished.Finished.{Finished}
use Rattle.hir_mod_collector.specs.HirCollectorRules.ModuleFiles.{IsFileMeant, is_file_meant}
use Rattle.hir_mod_collector.specs.HirDefMapLaws.ReadLaw.{KeepApart}
use Rattle.hir_mod_collector.proofs.HirDefMapLaws.Apart.{some_apart, worlds_apart}
use Rattle.hir_import_resolution.specs.Inner.State.{IsApart}
use Rattle.hir_mod_collector.proofs.HirCollectorImports.Outside.{outside_by}
use Rattle.hir_mod_collector.specs.HirCollectorImports.Outside.{begins_outside}

-- a map that isn't there
pub no_map : (p : Option Placed) → option_map (λ (placed : Placed). placed.map) p ≡ None → p ≡ None
no_map None e = refl
no_map (Some placed) e = absurd cc

-- where something isn't there, and more holds
pub none_and : {A : Type 0} (o : Option A) (b : Bool) → (is_none o && b) ≡ true → (o ≡ None) × (b ≡ true)
none_and None b h = (refl, h)
none_and (Some x) b h = absurd (let no : ⊥ = cc in no)

-- where something that is there doesn't lack another, the other is there
pub not_lacking : {A : Type 0} (o : Option A) (b : Bool) → (is_some o && not b) ≡ false → IsSome o → b ≡ true
not_lacking None b h there = absurd (let no : ⊥ = cc in no)
not_lacking (Some x) true h there = refl
not_lacking (Some x) false h there = absurd (let no : ⊥ = cc in no)

pub meant_by : (tables : TablesValue) (file : Option FileId) → is_file_meant tables file ≡ true → IsFileMeant tables file
meant_by tables None h = λ id e. absurd (let no : ⊥ = cc in no)
meant_by tables (Some f) h = λ id e. let same : f ≡ id = cc in subst (λ (k : FileId). IsSome (file_at tables k)) same h

-- where it lacks the other, it is there and the other isn't
pub lacking : {A : Type 0} (o : Option A) (b : Bool) → (is_some o && not b) ≡ true → IsSome o × (b ≡ false)
lacking None b h = absurd (let no : ⊥ = cc in no)
lacking (Some x) true h = absurd (let no : ⊥ = cc in no)
lacking (Some x) false h = (refl, refl)

pub unmeant_by : (tables : TablesValue) (file : Option FileId) → is_file_meant tables file ≡ false → ¬ IsFileMeant tables file
unmeant_by tables None h meant = let no : ⊥ = cc in no
unmeant_by tables (Some f) h meant = let there : is_some (file_at tables f) ≡ true = meant f refl in let no : ⊥ = cc in no

-- the finished maps don't refer to a map that isn't among them
pub apart : (maps : BTreeMap MapId Finished) (crates : List Crate) (holders : List ModuleId) (part : Maps) (own : MapId) (local : Local) → IsChecked maps
    → part ≡ among crates holders (finished_in maps) → finished_in maps own ≡ None → begins_outside own local ≡ true → IsApart part own local
apart maps crates holders part own local checked is absent outside = record {
  apart = subst (λ (m : Maps). KeepApart m own) (sym is) (some_apart crates holders (finished_in maps) own (worlds_apart maps own checked absent));
  outside = outside_by own local outside;
}
