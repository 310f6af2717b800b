-- Numbers that calls get change no answer.
use Rattle.std.specs.Prelude.{is_none, is_some, if◌then◌else◌}
use Rattle.std.specs.Option.{option_and_then, option_to_list}
use Rattle.std.proofs.Common.{◌≡◌, ◌∙◌, ap, sym, subst, refl, ℕ, zero, suc, Bool, true, false, cond, nat_lt, List, ◌++◌, length, Option, Some, None, IsSome}
use Rattle.std.proofs.Common.{Result, Ok, Err, option_map}
use Rattle.hir_session_machine.specs.HirBase.ModPath.{Path}
use Rattle.hir_session_machine.specs.HirBase.Place.{PlaceValue}
use Rattle.hir_session_machine.specs.HirIds.declared.ast_id.EditionedFileId.{EditionedFileId}
use Rattle.hir_session_machine.specs.HirIds.declared.ids.Crate.{Crate}
use Rattle.hir_session_machine.specs.HirIds.declared.ids.MapId.{MapId}
use Rattle.hir_session_machine.specs.HirIds.declared.ids.ModuleId.{ModuleId}
use Rattle.hir_session_machine.specs.HirDefCollectorLaws.Sources.{RunsBindFromSources}
use Rattle.hir_session_machine.specs.HirDefMapRules.Closed.{PathsLeadToWhatIsThere}
use Rattle.hir_session_machine.specs.HirDefMapRules.Origins.{file_of}
use Rattle.hir_session_machine.specs.HirDefMapRules.Overlay.{Maps, overlay}
use Rattle.hir_session_machine.specs.HirDefMapRules.Sources.{PathsAnswerFromSources}
use Rattle.hir_session_machine.specs.HirDefMapRules.State.{Map, ModuleValue, module_at, scope_at}
use Rattle.hir_session_machine.specs.HirSessionState.HirMapParts.declared.origin.ModuleOrigin.{ModuleOrigin}
use Rattle.hir_session_machine.specs.HirSessionState.HirMapParts.declared.origin.ModuleOrigin.TheVariants as origin
use Rattle.hir_session_machine.specs.HirTables.Tables.{TablesValue, file_at}
use Rattle.hir_session_machine.specs.HirMessages.declared.answer.Answer.{Answer}
use Rattle.hir_session_machine.specs.HirMessages.declared.diagnostic.Diagnostic.{Diagnostic}
use Rattle.hir_session_machine.specs.HirMessages.declared.command.MacroStyle.{MacroStyle}
use Rattle.hir_session_machine.specs.HirMessages.declared.command.Shadow.{Shadow}
use Rattle.hir_session_machine.specs.HirMessages.declared.names.BoundName.{BoundName}
use Rattle.hir_session_machine.specs.HirMessages.declared.reply.Status.{Status}
use Rattle.hir_session_machine.specs.HirMessages.declared.reply.Status.TheVariants as status
use Rattle.hir_session_machine.specs.HirSessionState.Crates.{id_of}
use Rattle.hir_session_machine.specs.HirSessionState.Due.{Grows}
use Rattle.hir_session_machine.specs.HirSessionState.Kept.{finished_by, kept_in}
use Rattle.hir_session_machine.specs.HirSessionState.SessionState.{SessionState, Resolution, is_marked, kept_of, module_of, read_of, standing_of, IsSound}
use Rattle.hir_session_machine.specs.HirSessionState.Standing.{Standing, file_of_module, file_of_origin, map_by, module_by}
use Rattle.hir_session_machine.specs.HirSessionState.Standing.Standing.{at, lacks, stale, unset}
use Rattle.hir_session_machine.specs.HirSessionState.declared.error.DiagnosticsError.{DiagnosticsError}
use Rattle.hir_session_machine.specs.HirSessionState.declared.error.ModulesError.{ModulesError}
use Rattle.hir_session_machine.specs.HirSessionState.declared.error.QueryError.{QueryError}
use Rattle.hir_session_machine.specs.HirSessionState.declared.error.DiagnosticsError.TheVariants as diagnostics_error
use Rattle.hir_session_machine.specs.HirSessionState.declared.error.ModulesError.TheVariants as modules_error
use Rattle.hir_session_machine.proofs.HirSessionState.Truth.{no_value, one_value}
use Rattle.hir_session_machine.specs.HirSessionAnswers.Answers.{answer_by, answer_kept, answer_of}
use Rattle.hir_session_machine.specs.HirSessionAnswers.AssocItems.{impl_asked, impl_at, impl_by, impl_from, trait_asked, trait_at, trait_by, trait_from}
use Rattle.hir_session_machine.specs.HirSessionAnswers.Diagnostics.{diagnostics_from, diagnostics_in, diagnostics_of}
use Rattle.hir_session_machine.specs.HirSessionAnswers.DiagnosticsStand.{AreTold, DiagnosticsStand}
use Rattle.hir_session_machine.specs.HirSessionAnswers.Dumps.{dump_around, dump_at, dump_by, dump_from}
use Rattle.hir_session_machine.specs.HirSessionAnswers.Modules.{file_modules_of, is_of_file, is_path, is_wanted, modules_below, modules_from, modules_in}
use Rattle.hir_session_machine.specs.HirSessionAnswers.Modules.{modules_of, place_of, places_below, wanted_place}
use Rattle.hir_session_machine.specs.HirSessionAnswers.Names.{names_by, names_from, names_of, names_of_module, names_when, scope_entries}
use Rattle.hir_session_machine.specs.HirSessionAnswers.Status.{status_by, status_of}
use Rattle.hir_session_machine.specs.HirSessionAnswers.TreeText.{tree_text_of}
use Rattle.hir_session_machine.proofs.HirSessionAnswers.Defined.{defined_there}
use Rattle.hir_session_machine.proofs.HirSessionAnswers.Differ.{IsSame, ends_unmarked, same_answer, same_at_first, same_once_grown}
use Rattle.hir_session_machine.proofs.HirSessionAnswers.Growing.{kept_diagnostics}
use Rattle.hir_session_machine.proofs.HirSessionAnswers.LeftOut.{read_kept}
use Rattle.hir_session_machine.proofs.HirSessionAnswers.Told.{tell}
use Rattle.hir_session_machine.proofs.HirSessionCore.Waiting.{same_standing}
use Rattle.hir_session_laws.specs.Laws.{AnswersAlike, AreWhole, NumbersChangeNoAnswer}
use Rattle.hir_session_laws.proofs.KeptNames.{entries_whole}
use Rattle.hir_session_laws.proofs.NamesGrowing.{names_stay}

-- no answer is given where the place isn't current
stale_alike : (b : Bool) (x y : Result Answer QueryError) → answer_by (if b then status.Stale else status.Unknown) x
    ≡ answer_by (if b then status.Stale else status.Unknown) y
stale_alike true x y = refl
stale_alike false x y = refl

unset_alike : (b : Bool) (x y : Result Answer QueryError) → answer_by (if b then status.Unknown else status.Unknown) x
    ≡ answer_by (if b then status.Unknown else status.Unknown) y
unset_alike true x y = refl
unset_alike false x y = refl

-- how the answers stand where steps lead, of so many crates
abbrev status_where : PlaceValue → ℕ → Standing → Status
status_where place count standing = if nat_lt place.krate.0 count then status_by standing else status.Unknown

-- where all modules are asked for, no number has a part in it
all_places : (few more : TablesValue) (map : Map) (n : ℕ) → places_below more None map n ≡ places_below few None map n
all_places few more map zero = refl
all_places few more map (suc n) = ap (λ (places : List PlaceValue). places ++ option_to_list (wanted_place few None map n)) (all_places few more map n)

-- the file that a module has to itself is the one in which it is written
own_file : (tables : TablesValue) (o : ModuleOrigin) (file : EditionedFileId) → file_of o ≡ Some file → file_of_origin tables o ≡ Some file
own_file tables (origin.CrateRoot root) file e = e
own_file tables (origin.File is_mod_rs node tree own) file e = e
own_file tables (origin.Inline tree node) file e = no_value e
own_file tables (origin.BlockExpr id block) file e = no_value e

-- the modules of a crate, where there is a crate of its number
abbrev modules_where : Bool → Result (List PlaceValue) ModulesError → Result (List PlaceValue) ModulesError
modules_where there listed = if there then listed else Err modules_error.UnknownCrate

module _ (old new : SessionState) (sound : IsSound old) (grown : Grows old new) where
  standing_alike : (place : PlaceValue) → standing_of new place ≡ standing_of old place
  standing_alike place = same_standing old new sound grown place

  module_alike : (place : PlaceValue) → module_of new place ≡ module_of old place
  module_alike place = ap module_by (standing_alike place)

  marks_alike : (id : MapId) → is_marked new id ≡ is_marked old id
  marks_alike id = λ i. is_none (kept_in (grown.kept i) id)

  statuses_alike : (place : PlaceValue) → status_of new place ≡ status_of old place
  statuses_alike place = λ i. status_where place (length (grown.crates i)) (standing_alike place i)

  reads : (id : MapId) → read_of new id ≡ read_of old id
  reads id = λ i. read_of (record { crates = grown.crates i; tables = new.tables; sources = new.sources; kept = grown.kept i }) id

  -- ---- answers

  same_behind : (place : PlaceValue) (id : MapId) → map_by (standing_of old place) ≡ Some id → IsSame old new id
  same_behind place id ends = same_once_grown (same_at_first sound (ends_unmarked old sound place id ends)) grown

  refused_alike : (place : PlaceValue) (path : Path) (shadow : Shadow) (style : Option MacroStyle) (now : Status) → status_of old place ≡ now
      → ((x y : Result Answer QueryError) → answer_by now x ≡ answer_by now y) → answer_of new place path shadow style ≡ answer_of old place path shadow style
  refused_alike place path shadow style now is alike =
      ap (λ (x : Status). answer_by x (answer_kept new place path shadow style)) (statuses_alike place ∙ is)
      ∙ alike (answer_kept new place path shadow style) (answer_kept old place path shadow style)
      ∙ ap (λ (x : Status). answer_by x (answer_kept old place path shadow style)) (sym is)

  module _ (runs : RunsBindFromSources) (paths : PathsAnswerFromSources) (leads : PathsLeadToWhatIsThere) where
    answers_alike : AnswersAlike old new
    answers_alike place path shadow style = go (standing_of old place) refl
      where
        go : (st : Standing) → standing_of old place ≡ st → answer_of new place path shadow style ≡ answer_of old place path shadow style
        go (at m) is = same_answer place path shadow style sound runs paths leads m.map (ap map_by is) (same_behind place m.map (ap map_by is))
        go (lacks id) is = same_answer place path shadow style sound runs paths leads id (ap map_by is) (same_behind place id (ap map_by is))
        go stale is = refused_alike place path shadow style (status_where place (length old.crates) stale) (ap (status_where place (length old.crates)) is)
            (stale_alike (nat_lt place.krate.0 (length old.crates)))
        go unset is = refused_alike place path shadow style (status_where place (length old.crates) unset) (ap (status_where place (length old.crates)) is)
            (unset_alike (nat_lt place.krate.0 (length old.crates)))

  -- ---- names

  module _ (runs : RunsBindFromSources) (paths : PathsAnswerFromSources) (leads : PathsLeadToWhatIsThere) where
    names_over : (m : ModuleId) (r : Resolution) → kept_of old m.map ≡ Some r → (o : Option ModuleValue) → module_at r.map m.index ≡ o
        → names_from new.tables (read_of old m.map) (Some r) m ≡ names_from old.tables (read_of old m.map) (Some r) m
    names_over m r is None there =
        let maps : Maps = overlay (read_of old m.map) r.map in
        let lacks : scope_at r.map m.index ≡ None = ap (λ (o : Option ModuleValue). option_map (λ (v : ModuleValue). v.scope) o) there in
        ap (names_by new.tables maps) lacks ∙ sym (ap (names_by old.tables maps) lacks)
    names_over m r is (Some v) there =
        let maps : Maps = overlay (read_of old m.map) r.map in
        let has : scope_at r.map m.index ≡ Some v.scope = ap (λ (o : Option ModuleValue). option_map (λ (v : ModuleValue). v.scope) o) there in
        let all : AreWhole old.tables maps (scope_entries v.scope) =
        subst (λ (read : Maps). AreWhole old.tables (overlay read r.map) (scope_entries v.scope)) (sym (read_kept old m.map r is))
        (entries_whole runs paths leads old sound m r is v there) in
        ap (names_by new.tables maps) has
        ∙ ap (λ (told : List BoundName). Ok told) (names_stay old.tables new.tables grown.tables maps (scope_entries v.scope) all)
        ∙ sym (ap (names_by old.tables maps) has)

    names_kept_alike : (m : ModuleId) (o : Option Resolution) → kept_of old m.map ≡ o
        → names_from new.tables (read_of old m.map) o m ≡ names_from old.tables (read_of old m.map) o m
    names_kept_alike m None is = refl
    names_kept_alike m (Some r) is = names_over m r is (module_at r.map m.index) refl

    named_alike : (o : Option ModuleId) → names_of_module new o ≡ names_of_module old o
    named_alike None = refl
    named_alike (Some m) =
        (λ i. names_from new.tables (reads m.map i) (kept_in (grown.kept i) m.map) m) ∙ names_kept_alike m (kept_of old m.map) refl

    names_alike : (place : PlaceValue) → names_of new place ≡ names_of old place
    names_alike place =
        (λ i. names_when (statuses_alike place i) (names_of_module new (module_alike place i))) ∙ ap (names_when (status_of old place))
        (named_alike (module_of old place))

  -- ---- modules

  modules_kept_alike : (o : Option Resolution) → modules_from new.tables o ≡ modules_from old.tables o
  modules_kept_alike None = refl
  modules_kept_alike (Some r) = ap (λ (places : List PlaceValue). Ok places) (all_places old.tables new.tables r.map (length r.map.modules))

  modules_alike : (krate : Crate) → modules_of new krate ≡ modules_of old krate
  modules_alike krate =
      (λ i. modules_where (nat_lt krate.0 (length (grown.crates i))) (modules_from new.tables (kept_in (grown.kept i) (id_of krate.0))))
      ∙ ap (modules_where (nat_lt krate.0 (length old.crates))) (modules_kept_alike (kept_of old (id_of krate.0)))

  file_stays : (file : EditionedFileId) (o : Option (List ℕ)) → file_at old.tables file.file_id ≡ o → IsSome o
      → file_at new.tables file.file_id ≡ file_at old.tables file.file_id
  file_stays file None is means = absurd (let no : ⊥ = cc in no)
  file_stays file (Some path) is means = grown.tables.files file.file_id.0 path is ∙ sym is

  -- the number of the file that a module has to itself means a path
  file_means : (m : ModuleId) (r : Resolution) → kept_of old m.map ≡ Some r → (v : ModuleValue) → module_at r.map m.index ≡ Some v → (file : EditionedFileId)
      → file_of v.origin ≡ Some file → IsSome (file_at old.tables file.file_id)
  file_means m r is v there file own =
      let defined = defined_there old sound m r is (ap (λ (o : Option ModuleValue). is_some o) there) in
      let written : Some file ≡ Some defined.root =
      sym (own_file old.tables v.origin file own) ∙ sym (ap (file_of_module old.tables) there)
      ∙ sym (ap (option_and_then (λ (x : Resolution). file_of_module old.tables (module_at x.map m.index))) is) ∙ defined.is in
      subst (λ (x : EditionedFileId). IsSome (file_at old.tables x.file_id)) (sym (one_value written)) defined.means

  module _ (path : List ℕ) where
    wanted_alike : (m : ModuleId) (r : Resolution) → kept_of old m.map ≡ Some r → (o : Option ModuleValue) → module_at r.map m.index ≡ o
        → is_wanted new.tables (Some path) o ≡ is_wanted old.tables (Some path) o
    wanted_alike m r is None there = refl
    wanted_alike m r is (Some v) there = go (file_of v.origin) refl
      where
        go : (o : Option EditionedFileId) → file_of v.origin ≡ o → is_of_file new.tables path o ≡ is_of_file old.tables path o
        go None own = refl
        go (Some file) own =
            ap (is_path path) (file_stays file (file_at old.tables file.file_id) refl (file_means m r is v there file own))

    places_alike : (id : MapId) (r : Resolution) → kept_of old id ≡ Some r → (n : ℕ)
        → places_below new.tables (Some path) r.map n ≡ places_below old.tables (Some path) r.map n
    places_alike id r is zero = refl
    places_alike id r is (suc n) =
        let wanted = wanted_alike (record { map = id; index = n }) r is (module_at r.map n) refl in
        λ i. places_alike id r is n i ++ option_to_list (cond (wanted i) (place_of r.map n) None)

    kept_places_alike : (id : MapId) (o : Option Resolution) → kept_of old id ≡ o → modules_in new.tables path o ≡ modules_in old.tables path o
    kept_places_alike id None is = refl
    kept_places_alike id (Some r) is = places_alike id r is (length r.map.modules)

    modules_below_alike : (k : ℕ) → modules_below new path k ≡ modules_below old path k
    modules_below_alike zero = refl
    modules_below_alike (suc k) =
        (λ i. modules_below new path k ++ modules_in new.tables path (kept_in (grown.kept i) (id_of k)))
        ∙ (λ i. modules_below_alike k i ++ kept_places_alike (id_of k) (kept_of old (id_of k)) refl i)

    file_modules_alike : file_modules_of new path ≡ file_modules_of old path
    file_modules_alike = (λ i. modules_below new path (length (grown.crates i))) ∙ modules_below_alike (length old.crates)

  -- ---- diagnostics

  -- those of a crate, where there is a crate of its number
  abbrev where_there : Bool → Result (List Diagnostic) DiagnosticsError → Result (List Diagnostic) DiagnosticsError
  where_there there told = if there then told else Err diagnostics_error.UnknownCrate

  module _ (runs : RunsBindFromSources) (krate : Crate) where
    told_all : (r : Resolution) (told : List Diagnostic) → kept_of old (id_of krate.0) ≡ Some r → DiagnosticsStand old krate told
        → AreTold old.tables (overlay (read_of old (id_of krate.0)) r.map) r.map.diagnostics told
    told_all r told is stand =
        subst (λ (x : Resolution). AreTold old.tables (overlay (read_of old (id_of krate.0)) x.map) x.map.diagnostics told)
        (one_value (sym stand.stands.kept ∙ is)) stand.all

    over_kept : (o : Option Resolution) → kept_of old (id_of krate.0) ≡ o → nat_lt krate.0 (length old.crates) ≡ true
        → diagnostics_from new.tables (read_of old (id_of krate.0)) o ≡ diagnostics_from old.tables (read_of old (id_of krate.0)) o
    over_kept None is within = refl
    over_kept (Some r) is within =
        let told = diagnostics_in old.tables (overlay (read_of old (id_of krate.0)) r.map) r.map.diagnostics in
        let given : diagnostics_of old krate ≡ Ok told = rw (within, is) refl in
        ap (λ (list : List Diagnostic). Ok list)
        (kept_diagnostics old.tables new.tables grown.tables (overlay (read_of old (id_of krate.0)) r.map) r.map.diagnostics told
        (told_all r told is (tell runs old krate told sound given)))

    over_there : (b : Bool) → nat_lt krate.0 (length old.crates) ≡ b
        → where_there b (diagnostics_from new.tables (read_of old (id_of krate.0)) (kept_of old (id_of krate.0)))
        ≡ where_there b (diagnostics_from old.tables (read_of old (id_of krate.0)) (kept_of old (id_of krate.0)))
    over_there true within = over_kept (kept_of old (id_of krate.0)) refl within
    over_there false past = refl

    diagnostics_alike : diagnostics_of new krate ≡ diagnostics_of old krate
    diagnostics_alike =
        (λ i. where_there (nat_lt krate.0 (length (grown.crates i)))
        (diagnostics_from new.tables (reads (id_of krate.0) i) (kept_in (grown.kept i) (id_of krate.0))))
        ∙ over_there (nat_lt krate.0 (length old.crates)) refl

  -- ---- what no number has a part in

  dump_alike : (o : Option ModuleId) → dump_around new o ≡ dump_around old o
  dump_alike None = refl
  dump_alike (Some m) = λ i. dump_from (finished_by (grown.kept i)) (kept_in (grown.kept i) m.map)

  dumps_alike : (place : PlaceValue) → dump_at new place ≡ dump_at old place
  dumps_alike place =
      (λ i. dump_by (statuses_alike place i) (dump_around new (module_alike place i))) ∙ ap (dump_by (status_of old place)) (dump_alike (module_of old place))

  pages_alike : (krate : Crate) (path : List ℕ) → tree_text_of new krate path ≡ tree_text_of old krate path
  pages_alike krate path = λ i. tree_text_of (record { crates = grown.crates i; tables = new.tables; sources = grown.sources i; kept = new.kept }) krate path

  trait_alike : (o : Option ModuleId) (path : Path) → trait_asked new o path ≡ trait_asked old o path
  trait_alike None path = refl
  trait_alike (Some m) path = λ i. trait_from (grown.kept i) (reads m.map i) (kept_in (grown.kept i) m.map) m path

  traits_alike : (place : PlaceValue) (path : Path) → trait_at new place path ≡ trait_at old place path
  traits_alike place path =
      (λ i. trait_by (statuses_alike place i) (trait_asked new (module_alike place i) path)) ∙ ap (trait_by (status_of old place))
      (trait_alike (module_of old place) path)

  impl_alike : (o : Option ModuleId) (number : ℕ) → impl_asked new o number ≡ impl_asked old o number
  impl_alike None number = refl
  impl_alike (Some m) number = λ i. impl_from (grown.kept i) (kept_in (grown.kept i) m.map) m number

  impls_alike : (place : PlaceValue) (number : ℕ) → impl_at new place number ≡ impl_at old place number
  impls_alike place number =
      (λ i. impl_by (statuses_alike place i) (impl_asked new (module_alike place i) number)) ∙ ap (impl_by (status_of old place))
      (impl_alike (module_of old place) number)

pub change_no_answer : RunsBindFromSources → PathsAnswerFromSources → PathsLeadToWhatIsThere → NumbersChangeNoAnswer
change_no_answer runs paths leads old new sound grown = record {
  marks = marks_alike old new sound grown;
  statuses = statuses_alike old new sound grown;
  answers = answers_alike old new sound grown runs paths leads;
  names = names_alike old new sound grown runs paths leads;
  modules = modules_alike old new sound grown;
  file_modules = file_modules_alike old new sound grown;
  diagnostics = diagnostics_alike old new sound grown runs;
  dumps = dumps_alike old new sound grown;
  pages = pages_alike old new sound grown;
  traits = traits_alike old new sound grown;
  impls = impls_alike old new sound grown;
}
