-- What an import reads.
use Rattle.std.proofs.Common.{◌≡◌, ◌∙◌, ap, sym, ℕ, ◌<◌, Bool, true, List, [], Some, length, get_or, cond}
use Rattle.std.proofs.lemmas.Option.{slice_get-get_or}
use Rattle.std.specs.Prelude.{slice_get}
use Rattle.hir_nameres.specs.HirBase.ModPath.{Path}
use Rattle.hir_nameres.specs.HirIds.declared.ids.ModuleId.{ModuleId}
use Rattle.hir_nameres.specs.HirPerNs.declared.imports.ImportId.{ImportId}
use Rattle.hir_use_tree.specs.declared.imports.ImportKind.{ImportKind}
use Rattle.hir_def_map_rules.specs.Overlay.{Maps}
use Rattle.hir_def_map_rules.specs.Reaches.{by_import}
use Rattle.hir_def_map_rules.specs.Scoping.Asking.{Asking}
use Rattle.hir_nameres.specs.Scoping.Slots.{reads, slots_of}
use Rattle.hir_def_map_rules.specs.State.{Map, numbered}
use Rattle.hir_nameres.specs.declared.nameres.path_resolution.slots.Slot.{Slot}
use Rattle.hir_import_rules.specs.declared.directive.ImportDirective.{ImportDirective}
use Rattle.hir_import_rules.specs.declared.directive.ImportSource.TheVariants as sources
use Rattle.hir_import_resolution.specs.Inner.Queue.{path_reads, reads_at, reads_by}
use Rattle.hir_import_rules.specs.State.{ImportState}

-- what a `use` reads
pub reads_use : (apart : Bool) (finished : Maps) (s : ImportState) (i : ℕ) (r : ImportDirective) (id : ImportId) (kind : ImportKind) → apart ≡ true
    → slice_get s.imports i ≡ Some r
    → r.source ≡ sources.Use id kind → reads_at apart finished s i ≡ reads finished (by_import s.local) s.map (numbered s.map.id r.home) r.path
reads_use apart finished s i r id kind e f g = (λ j. cond (e j) (reads_by finished s (f j)) []) ∙ (λ j. path_reads finished s r (g j))

-- slots of the same path
pub slots_same : (maps all : Maps) (own map : Map) (at from : ModuleId) (asking : Asking) (path written : Path) (slots : List Slot)
    → slots ≡ slots_of maps asking own.id at path.kind path.segments → maps ≡ all → own ≡ map → at ≡ from → path ≡ written
    → slots ≡ slots_of all asking map.id from written.kind written.segments
slots_same maps all own map at from asking path written slots e f g h same =
    e ∙ (λ j. slots_of (f j) asking (g j).id (h j) (same j).kind (same j).segments)

-- what was found at a place
pub found_at : {X : Type 0} (items xs : List X) (i : ℕ) (x : X) → xs ≡ items → i < length xs → x ≡ get_or xs i x → slice_get items i ≡ Some x
found_at items xs i x same below is = sym (ap (λ ys. slice_get ys i) same) ∙ slice_get-get_or xs i x below ∙ ap Some (sym is)
