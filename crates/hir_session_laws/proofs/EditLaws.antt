-- What an edit of a source marks, and what it leaves.
use Rattle.std.specs.Prelude.{cond, is_none, is_some}
use Rattle.std.specs.Option.{option_and_then}
use Rattle.std.proofs.Common.{◌≡◌, ◌≢◌, inl, inr, ℕ, Bool, true, false, nat_lt, if◌then◌else◌, length}
use Rattle.std.proofs.Common.{Option, Some, None, refl, sym, subst, ap, ◌∙◌, Contains, List, []}
use Rattle.std.proofs.Common.{◌∷◌, ◌++◌, option_map}
use Rattle.hir_session_machine.specs.HirBase.CfgOptions.{is_set}
use Rattle.hir_session_machine.specs.HirBase.Place.{PlaceValue}
use Rattle.hir_session_machine.specs.HirIds.declared.ast_id.BlockId.{BlockId}
use Rattle.hir_session_machine.specs.HirBase.declared.place.BlockPlace.{BlockPlace}
use Rattle.hir_session_machine.specs.HirIds.declared.ids.Crate.{Crate}
use Rattle.hir_session_machine.specs.HirIds.declared.ast_id.EntryId.{EntryId}
use Rattle.hir_session_machine.specs.HirIds.declared.ids.MapId.{MapId}
use Rattle.hir_session_machine.specs.HirIds.declared.ids.ModuleId.{ModuleId}
use Rattle.hir_session_machine.specs.HirBase.declared.place.PlaceElement.{PlaceElement}
use Rattle.hir_session_machine.specs.HirBase.declared.place.PlaceElement.TheVariants as element
use Rattle.hir_session_machine.specs.HirItemTree.BodyTexts.{BodyTextsLeaveTheSides, BodyTextsLeaveTheTree, source_without_bodies}
use Rattle.hir_session_machine.specs.HirItemTree.Source.{SourceValue}
use Rattle.hir_session_machine.specs.HirItemTree.SourceTree.{SourceTreeValue}
use Rattle.hir_session_machine.specs.HirBase.declared.tree_id.TreeKey.{TreeKey}
use Rattle.hir_session_machine.specs.HirTables.SourcePlaces.{ExpansionValue, SourcePlaceValue, block, expansion, file}
use Rattle.hir_session_machine.specs.HirTables.Tables as numbers
use Rattle.hir_session_machine.specs.HirTables.Tables.{KeepsTables, TablesValue, source_of}
use Rattle.hir_session_machine.proofs.HirTables.Growth.{KeepsTables-refl}
use Rattle.hir_session_machine.specs.HirNameres.WorldParts.{among}
use Rattle.hir_session_machine.specs.HirDefMapRules.Closed.{PathsLeadToWhatIsThere}
use Rattle.hir_session_machine.specs.HirDefMapRules.Overlay.{holders_of, no_maps}
use Rattle.hir_session_machine.specs.HirDefMapRules.Sources.{PathsAnswerFromSources}
use Rattle.hir_session_machine.specs.HirDefMapRules.State.{child_at, crate_map, root_of}
use Rattle.hir_session_machine.specs.HirDefCollectorLaws.Sources.{RunsBindFromSources}
use Rattle.hir_session_machine.specs.HirCollectorRules.Workspace.{EntryLook, Workspace}
use Rattle.hir_session_machine.specs.HirCollectorRules.Keys.{Look, look, of_config, of_entry, of_input, of_map, of_text, of_tree, of_variants}
use Rattle.hir_session_machine.specs.HirCollectorRules.declared.source_database.Key.{Key}
use Rattle.hir_session_machine.specs.HirCollectorRules.declared.source_database.Key.TheVariants as keys
use Rattle.hir_session_machine.specs.HirMessages.Edits.{CrateDataValue, EditValue, EntryValue, set_file, remove_file, set_block, remove_block, set_expansion}
use Rattle.hir_session_machine.specs.HirMessages.Edits.{remove_expansion}
use Rattle.hir_session_machine.specs.HirMessages.declared.reply.Status.TheVariants as status
use Rattle.hir_session_machine.specs.HirSessionAnswers.Status.{status_by, status_of}
use Rattle.hir_session_machine.specs.HirSessionAnswers.Answers.{answer_at, answer_by, answer_from}
use Rattle.hir_session_machine.specs.HirSessionState.Blocks.{block_in, place_of_block}
use Rattle.hir_session_machine.specs.HirSessionState.Crates.{CrateValue, crate_in, options_in, transitive_in}
use Rattle.hir_session_machine.specs.HirSessionState.Entries.{entry_at, look_of, source_of as source_in_entry}
use Rattle.hir_session_machine.specs.HirSessionState.Files.{file_at}
use Rattle.hir_session_machine.specs.HirSessionState.KeySources.{key_place, key_tree}
use Rattle.hir_session_machine.specs.HirSessionState.SessionState.{SessionState, Resolution, finished_of, follows, is_marked}
use Rattle.hir_session_machine.specs.HirSessionState.SessionState.{kept_of, module_of, read_of, standing_of}
use Rattle.hir_session_machine.specs.HirSessionState.SessionState.{workspace_of, IsSound}
use Rattle.hir_session_machine.specs.HirSessionState.Kept.{kept_in, placed_by}
use Rattle.hir_session_machine.specs.HirSessionState.Standing.{Standing, block_below, block_map, block_number, down, from_crate}
use Rattle.hir_session_machine.specs.HirSessionState.Standing.{is_set as is_block_set, kept_block, module_by}
use Rattle.hir_session_machine.specs.HirSessionState.Standing.{step, to_child, to_root}
use Rattle.hir_session_machine.specs.HirSessionState.Standing.Standing.{at, lacks, stale, unset}
use Rattle.hir_session_machine.specs.HirSessionState.SourceEdits.{SourceEditValue, IsSeenAlike, edited, of_block, of_expansion, of_file, place_of, source_by}
use Rattle.hir_session_machine.specs.HirSessionState.SourceTable.{SourceTable, front_in, source_at, tree_under, workspace_in}
use Rattle.hir_session_machine.specs.HirSessionSources.SourceTrees.{is_place}
use Rattle.hir_session_machine.specs.HirSessionState.Spread.{Spread}
use Rattle.hir_session_machine.specs.HirSessionState.Spread.Spread.{here, depends}
use Rattle.hir_session_machine.specs.HirSessionState.Marks.{IsTouched}
use Rattle.hir_session_machine.specs.HirSessionState.Marks.IsTouched.{before, asked_for}
use Rattle.hir_session_machine.specs.HirSessionState.EditedSources.{seen_at}
use Rattle.hir_session_machine.specs.HirSessionState.Changes.{Becomes, SetsCrate}
use Rattle.hir_session_machine.specs.HirSessionState.Due.{IsBehind}
use Rattle.hir_session_laws.specs.Laws.{AnswersAlike, BodyEditsMarkNothing, BodyEditsLeaveAnswers}
use Rattle.hir_session_laws.specs.Laws.{ExpansionBodyEditsMarkNothing, ExpansionBodyEditsLeaveAnswers}
use Rattle.hir_session_laws.specs.Laws.{SetAbsentFileMarks, RemovePresentFileMarks, RemoveAbsentFileMarksNothing, RemoveAbsentFileLeavesAnswers}
use Rattle.hir_session_laws.specs.Laws.{SetAbsentExpansionMarks, RemovePresentExpansionMarks}
use Rattle.hir_session_laws.specs.Laws.{RemoveAbsentExpansionMarksNothing, RemoveAbsentExpansionLeavesAnswers}
use Rattle.hir_session_laws.specs.Laws.{BlockBodyEditsMarkNothing, BlockBodyEditsLeaveAnswers, SetAbsentBlockMarks, RemovePresentBlockMarks}
use Rattle.hir_session_laws.specs.Laws.{RemoveAbsentBlockMarksNothing, RemoveAbsentBlockLeavesAnswers, UnaskedSourcesMarkNothing, UnaskedSourcesLeaveAnswers}
use Rattle.hir_session_laws.specs.Laws.{UnaskedSourcesLeaveCurrentAnswers, IsUnasked, is_of_block, SameDataMarkNothing}
use Rattle.hir_session_laws.specs.Laws.{SameDataLeaveAnswers, OtherDataMarkTheCrate}
use Rattle.hir_session_machine.proofs.HirSessionAnswers.Differ.{ends_unmarked, follows_alike, same_answer, unmarked_behind}
use Rattle.hir_session_machine.specs.HirSessionState.Beginning.{IsConfigOf}
use Rattle.hir_session_machine.specs.HirSessionState.Crates.{with_config}
use Rattle.hir_session_machine.specs.HirSessionState.Changes.{IsHandedIn}
use Rattle.hir_session_machine.proofs.HirSessionState.Renewed.{same_crates}
use Rattle.hir_session_machine.proofs.HirSessionState.Truth.{clash, on_bool, no_value, one_value}
use Rattle.hir_session_machine.proofs.HirSessionSources.SourceLemmas.{beside-differs, look-apart, look-differs, look-same}
use Rattle.hir_session_machine.proofs.HirSessionSources.SourceLemmas.{place_same, same_place, source_at-edited}
use Rattle.hir_session_machine.proofs.HirSessionSources.SourceLemmas.{treeless-same}

-- each key that a run asked for sees what it saw
abbrev AreUnaltered : SessionState → Workspace → Type 0
AreUnaltered s w =
    (id : MapId) (r : Resolution) (key : Key) → kept_of s id ≡ Some r → Contains r.asked key → look s.tables w no_maps key ≡ look s.tables (workspace_of s)
    no_maps key

-- what the edit leaves alike at each such key marks what was marked
unspread : {s : SessionState} {w : Workspace} {k : MapId} → IsSound s → AreUnaltered s w → Spread (follows s) (IsTouched s w) k → is_marked s k ≡ true
unspread sound same (here k (before m)) = m
unspread sound same (here k (asked_for key r is has ne)) = absurd (ne (same k r key is has))
unspread {s} sound same (depends k d among sp) = on_bool (is_marked s k)
    (λ on. on)
    (λ off. clash (unspread sound same sp) (sound.closed k d off among))

-- an edit that leaves each such key as it was changes no mark
unaltered_marks : {old new : SessionState} {sources : SourceTable} → IsSound old → Becomes old sources new
    → AreUnaltered old (workspace_in old.crates sources) → (k : MapId) → is_marked new k ≡ is_marked old k
unaltered_marks {old} {new} sound is same k = on_bool (is_marked new k)
    (λ on. on ∙ sym (unspread sound same (is.only k on)))
    (λ off. on_bool (is_marked old k)
    (λ on. clash (is.all k (here k (before on))) off)
    (λ too. off ∙ sym too))

-- an edit after which each key that asks for the source sees what it saw leaves each key as it was
same_looks : (s : SessionState) (edit : SourceEditValue)
    → ((k : ℕ) (key : Key) → seen_at (tree_under s.crates k (place_of edit) (source_by edit)) key
    ≡ seen_at (tree_under s.crates k (place_of edit) (source_at s.sources (place_of edit))) key)
    → IsSeenAlike s.sources edit
    → (key : Key) → look s.tables (workspace_in s.crates (edited s.sources edit)) no_maps key ≡ look s.tables (workspace_of s) no_maps key
same_looks s edit same alike key = go (key_place s.tables key) refl
  where
    by : (o : Option TreeKey) → key_tree key ≡ o → key_place s.tables key ≡ Some (place_of edit)
        → look s.tables (workspace_in s.crates (edited s.sources edit)) no_maps key ≡ look s.tables (workspace_of s) no_maps key
    by None is asks = treeless-same s.crates s.tables s.sources edit key is asks alike
    by (Some tree) is asks = look-same s.crates s.tables s.sources edit key tree is asks _ _ refl refl (same tree.krate.0 key)

    go : (o : Option SourcePlaceValue) → key_place s.tables key ≡ o
        → look s.tables (workspace_in s.crates (edited s.sources edit)) no_maps key ≡ look s.tables (workspace_of s) no_maps key
    go None is = look-apart s.crates s.tables s.sources edit key (λ at. no_value (sym is ∙ at))
    go (Some q) is = on_bool (is_place (place_of edit) q)
        (λ on. by (key_tree key) refl (is ∙ ap (λ (p : SourcePlaceValue). Some p) (sym (place_same (place_of edit) q on))))
        (λ off. look-apart s.crates s.tables s.sources edit key (λ at. clash (same_place edit q (one_value (sym at ∙ is))) off))

-- a source whose trees become others marks what asked for it
altered_marks : {old new : SessionState} (edit : SourceEditValue) (k : MapId) (found : Resolution) (key : TreeKey)
    → (seen_at (tree_under old.crates key.krate.0 (place_of edit) (source_by edit)) (keys.Tree key)
    ≢ seen_at (tree_under old.crates key.krate.0 (place_of edit) (source_at old.sources (place_of edit))) (keys.Tree key))
    → Becomes old (edited old.sources edit) new → kept_of old k ≡ Some found → Contains found.asked (keys.Tree key)
    → source_of old.tables key.id ≡ Some (place_of edit) → is_marked new k ≡ true
altered_marks {old} {new} edit k found key other is kept asked written =
    is.all k (here k (asked_for (keys.Tree key) found kept asked
    (look-differs old.crates old.tables old.sources edit (keys.Tree key) key refl written _ _ refl refl other)))

-- so does an expansion that is no longer seen as it was
unlike_marks : {old new : SessionState} (key : ExpansionValue) (there : Option EntryValue) (k : MapId) (found : Resolution) (number : EntryId)
    → ¬ IsSeenAlike old.sources (of_expansion key there)
    → Becomes old (edited old.sources (of_expansion key there)) new → kept_of old k ≡ Some found → Contains found.asked (keys.Expansion number)
    → numbers.entry_at old.tables number ≡ Some key → is_marked new k ≡ true
unlike_marks {old} {new} key there k found number ne is kept asked written =
    is.all k (here k (asked_for (keys.Expansion number) found kept asked
    (beside-differs old.crates old.tables old.sources (of_expansion key there) number (ap (λ (o : Option ExpansionValue). option_map expansion o) written) ne)))

-- ---- where nothing that is kept changes

module _ (old new : SessionState) (crates : new.crates ≡ old.crates) (tables : new.tables ≡ old.tables) (kept : (id : MapId) → kept_of new id ≡ kept_of old id)
    (set : (b : BlockPlace) → is_block_set new.sources.blocks b ≡ is_block_set old.sources.blocks b) where
  block_alike : (b : BlockPlace) → kept_block new.tables new.kept b ≡ kept_block old.tables old.kept b
  block_alike b =
      ap (λ (t : TablesValue). kept_block t new.kept b) tables
      ∙ go (block_number old.tables b)
    where
      go : (o : Option BlockId) → option_and_then (λ (n : BlockId). kept_in new.kept (block_map b.holder.krate n)) o
          ≡ option_and_then (λ (n : BlockId). kept_in old.kept (block_map b.holder.krate n)) o
      go None = refl
      go (Some n) = kept (block_map b.holder.krate n)

  step_alike : (krate : Crate) (start : List PlaceElement) (st : Standing) (e : PlaceElement)
      → step new.tables new.sources.blocks new.kept krate start st e ≡ step old.tables old.sources.blocks old.kept krate start st e
  step_alike krate start (at m) (element.Module name) =
      ap (λ (o : Option Resolution). to_child m.map (option_and_then (λ (r : Resolution). child_at r.map m.index name) o)) (kept m.map)
  step_alike krate start (at m) (element.Block id) =
      (λ i. cond (set (block_below krate start id) i) (to_root (block_alike (block_below krate start id) i)) unset)
  step_alike krate start (lacks id) (element.Module name) = refl
  step_alike krate start (lacks id) (element.Block b) = refl
  step_alike krate start stale (element.Module name) = refl
  step_alike krate start stale (element.Block id) = ap (λ (b : Bool). cond b stale unset) (set (block_below krate start id))
  step_alike krate start unset (element.Module name) = refl
  step_alike krate start unset (element.Block b) = refl

  down_alike : (krate : Crate) (start : List PlaceElement) (st : Standing) (steps : List PlaceElement)
      → down new.tables new.sources.blocks new.kept krate start st steps ≡ down old.tables old.sources.blocks old.kept krate start st steps
  down_alike krate start st [] = refl
  down_alike krate start st (e ∷ more) =
      ap (λ (x : Standing). down new.tables new.sources.blocks new.kept krate (start ++ e ∷ []) x more) (step_alike krate start st e)
      ∙ down_alike krate (start ++ e ∷ []) (step old.tables old.sources.blocks old.kept krate start st e) more

  standing_alike : (place : PlaceValue) → standing_of new place ≡ standing_of old place
  standing_alike place =
      ap (λ (o : Option Resolution). from_crate new.tables new.sources.blocks new.kept o place) (kept (crate_map place.krate)) ∙ go
      (kept_of old (crate_map place.krate))
    where
      go : (o : Option Resolution) → from_crate new.tables new.sources.blocks new.kept o place ≡ from_crate old.tables old.sources.blocks old.kept o place
      go None = refl
      go (Some r) = down_alike place.krate [] (at (root_of r.map.id)) place.elements

  finished_alike : finished_of new ≡ finished_of old
  finished_alike = λ i id. option_map placed_by (kept id i)

  read_alike : (id : MapId) → read_of new id ≡ read_of old id
  read_alike id = λ i. among (transitive_in (crates i) id.krate.0) (holders_of (finished_alike i id)) (finished_alike i)

  -- each answer is as it was
  answers_alike : AnswersAlike old new
  answers_alike place path shadow style =
      (λ i. answer_by (if nat_lt place.krate.0 (length (crates i)) then status_by (standing_alike place i) else status.Unknown)
      (answer_at new (module_by (standing_alike place i)) path shadow style))
      ∙ ap (answer_by (status_of old place)) (go (module_of old place))
    where
      go : (o : Option ModuleId) → answer_at new o path shadow style ≡ answer_at old o path shadow style
      go None = refl
      go (Some m) = λ i. answer_from (tables i) (read_alike m.map i) (kept m.map i) m path shadow style

-- of a place whose mark doesn't change, the same is kept
same_kept : {old new : SessionState} {sources : SourceTable} → Becomes old sources new → (id : MapId) → is_marked new id ≡ is_marked old id → kept_of new id
    ≡ kept_of old id
same_kept {old} {new} is id same = on_bool (is_marked new id)
    (λ on. nothing (kept_of new id) on ∙ sym (nothing (kept_of old id) (sym same ∙ on)))
    (λ off. is.kept id off)
  where
    nothing : (o : Option Resolution) → is_none o ≡ true → o ≡ None
    nothing None e = refl
    nothing (Some r) e = clash e refl

-- an edit that leaves each such key as it was, and the same blocks set, leaves each answer
unaltered_answers : {old new : SessionState} {sources : SourceTable} → IsSound old → Becomes old sources new
    → AreUnaltered old (workspace_in old.crates sources)
    → ((b : BlockPlace) → is_block_set sources.blocks b ≡ is_block_set old.sources.blocks b) → AnswersAlike old new
unaltered_answers {old} {new} {sources} sound is same set =
    answers_alike old new is.crates is.tables (λ id. same_kept is id (unaltered_marks sound is same id))
    (λ b. ap (λ (t : SourceTable). is_block_set t.blocks b) is.sources_are ∙ set b)

-- a block is set where a source stands at its place
sets_alike : (t : SourceTable) (edit : SourceEditValue) → is_some (source_by edit) ≡ is_some (source_at t (place_of edit)) → (b : BlockPlace)
    → is_block_set (edited t edit).blocks b ≡ is_block_set t.blocks b
sets_alike t edit alike b = on_bool (is_place (place_of edit) (block b))
    (λ on.
    let same : place_of edit ≡ block b = place_same (place_of edit) (block b) on in
    ap (λ (o : Option SourceValue). is_some o) (source_at-edited t edit (block b) ∙ ap (λ (x : Bool). cond x (source_by edit) (source_at t (block b))) on)
    ∙ alike ∙ ap (λ (q : SourcePlaceValue). is_some (source_at t q)) same)
    (λ off. ap (λ (o : Option SourceValue). is_some o) (source_at-edited t edit (block b) ∙ ap (λ (x : Bool). cond x (source_by edit) (source_at t (block b)))
    off))

-- what a source has with other bodies is the same
same_tree : BodyTextsLeaveTheTree → BodyTextsLeaveTheSides → (crates : List CrateValue) (place : SourcePlaceValue) (was source : SourceValue)
    → source_without_bodies was ≡ source_without_bodies source → (k : ℕ)
    → tree_under crates k place (Some source) ≡ tree_under crates k place (Some was)
same_tree law sides crates place was source alike k = λ i. record {
  present = true;
  tree = law (is_set (options_in crates k)) (front_in (crate_in crates k) place) source was (sym alike) i;
  sides = sides (is_set (options_in crates k)) source was (sym alike) i;
}

-- a file that is set to a source with other bodies leaves each key as it was
same_but_bodies : BodyTextsLeaveTheTree → BodyTextsLeaveTheSides → (s : SessionState) (path : List ℕ) (was source : SourceValue) → file_at s.sources.files path
    ≡ Some was
    → source_without_bodies was ≡ source_without_bodies source
    → (key : Key) → look s.tables (workspace_in s.crates (edited s.sources (of_file path (Some source)))) no_maps key ≡ look s.tables (workspace_of s) no_maps
    key
same_but_bodies law sides s path was source is_was alike = same_looks s (of_file path (Some source)) (λ k key.
    ap (λ (t : SourceTreeValue). seen_at t key) (same_tree law sides s.crates (file path) was source alike k ∙ ap
    (λ (o : Option SourceValue). tree_under s.crates k (file path) o) (sym is_was))) tt

-- so does an expansion, with the same error and the same inner paths
same_but_expansion_bodies : BodyTextsLeaveTheTree → BodyTextsLeaveTheSides → (s : SessionState) (key : ExpansionValue) (was entry : EntryValue)
    → entry_at s.sources.entries key ≡ Some was
    → was.error ≡ entry.error → was.inner ≡ entry.inner → source_without_bodies was.source ≡ source_without_bodies entry.source
    → (k : Key) → look s.tables (workspace_in s.crates (edited s.sources (of_expansion key (Some entry)))) no_maps k ≡ look s.tables (workspace_of s) no_maps k
same_but_expansion_bodies law sides s key was entry is_was error inner alike = same_looks s (of_expansion key (Some entry))
    (λ n k. ap (λ (t : SourceTreeValue). seen_at t k) (same_tree law sides s.crates (expansion key) was.source entry.source alike n
    ∙ ap (λ (o : Option EntryValue). tree_under s.crates n (expansion key) (source_in_entry o)) (sym is_was)))
    (ap (λ (o : Option EntryValue). look_of o) is_was ∙ (λ i. record { present = true; error = error i; inner = inner i }))

-- a file that is removed where none is leaves each key as it was
same_without : (s : SessionState) (path : List ℕ) → file_at s.sources.files path ≡ None
    → (key : Key) → look s.tables (workspace_in s.crates (edited s.sources (of_file path None))) no_maps key ≡ look s.tables (workspace_of s) no_maps key
same_without s path absent =
    same_looks s (of_file path None) (λ k key. ap (λ (o : Option SourceValue). seen_at (tree_under s.crates k (file path) o) key) (sym absent)) tt

-- so does an expansion
same_without_expansion : (s : SessionState) (key : ExpansionValue) → entry_at s.sources.entries key ≡ None
    → (k : Key) → look s.tables (workspace_in s.crates (edited s.sources (of_expansion key None))) no_maps k ≡ look s.tables (workspace_of s) no_maps k
same_without_expansion s key absent = same_looks s (of_expansion key None)
    (λ n k. ap (λ (o : Option EntryValue). seen_at (tree_under s.crates n (expansion key) (source_in_entry o)) k) (sym absent))
    (ap (λ (o : Option EntryValue). look_of o) absent)

pub body_edits_mark_nothing : BodyTextsLeaveTheTree → BodyTextsLeaveTheSides → BodyEditsMarkNothing
body_edits_mark_nothing law sides old new path was source sound is_was alike is =
    unaltered_marks sound is (λ id r key kept has. same_but_bodies law sides old path was source is_was alike key)

pub body_edits_leave_answers : BodyTextsLeaveTheTree → BodyTextsLeaveTheSides → BodyEditsLeaveAnswers
body_edits_leave_answers law sides old new path was source sound is_was alike is =
    unaltered_answers sound is (λ id r key kept has. same_but_bodies law sides old path was source is_was alike key) (λ b. refl)

pub expansion_body_edits_mark_nothing : BodyTextsLeaveTheTree → BodyTextsLeaveTheSides → ExpansionBodyEditsMarkNothing
expansion_body_edits_mark_nothing law sides old new key was entry sound is_was error inner alike is =
    unaltered_marks sound is (λ id r k kept has. same_but_expansion_bodies law sides old key was entry is_was error inner alike k)

pub expansion_body_edits_leave_answers : BodyTextsLeaveTheTree → BodyTextsLeaveTheSides → ExpansionBodyEditsLeaveAnswers
expansion_body_edits_leave_answers law sides old new key was entry sound is_was error inner alike is =
    unaltered_answers sound is (λ id r k kept has. same_but_expansion_bodies law sides old key was entry is_was error inner alike k) (λ b. refl)

pub remove_absent_file_marks_nothing : RemoveAbsentFileMarksNothing
remove_absent_file_marks_nothing old new path sound absent is = unaltered_marks sound is (λ id r key kept has. same_without old path absent key)

pub remove_absent_file_leaves_answers : RemoveAbsentFileLeavesAnswers
remove_absent_file_leaves_answers old new path sound absent is = unaltered_answers sound is (λ id r key kept has. same_without old path absent key) (λ b. refl)

pub remove_absent_expansion_marks_nothing : RemoveAbsentExpansionMarksNothing
remove_absent_expansion_marks_nothing old new key sound absent is = unaltered_marks sound is (λ id r k kept has. same_without_expansion old key absent k)

pub remove_absent_expansion_leaves_answers : RemoveAbsentExpansionLeavesAnswers
remove_absent_expansion_leaves_answers old new key sound absent is =
    unaltered_answers sound is (λ id r k kept has. same_without_expansion old key absent k) (λ b. refl)

-- ---- what is there, and what isn't

-- whether what is seen is there
is_there : Look → Bool
is_there (of_tree t) = t.present
is_there (of_variants vs) = false
is_there (of_text text) = false
is_there (of_input text) = false
is_there (of_entry e) = false
is_there (of_map m) = false
is_there (of_config c) = false

-- what is there is not absent
there_is_none : (crates : List CrateValue) (key : TreeKey) (place : SourcePlaceValue) (x : SourceValue) (o : Option SourceValue) → o ≡ None
    → seen_at (tree_under crates key.krate.0 place (Some x)) (keys.Tree key) ≢ seen_at (tree_under crates key.krate.0 place o) (keys.Tree key)
unfolding is_there
there_is_none crates key place x o absent h = clash (sym (ap is_there h)) (ap (λ (p : Option SourceValue). is_some p) absent)

-- nor the other way round
none_is_there : (crates : List CrateValue) (key : TreeKey) (place : SourcePlaceValue) (x : SourceValue) (o : Option SourceValue) → o ≡ Some x
    → seen_at (tree_under crates key.krate.0 place None) (keys.Tree key) ≢ seen_at (tree_under crates key.krate.0 place o) (keys.Tree key)
unfolding is_there
none_is_there crates key place x o there h = clash (ap (λ (p : Option SourceValue). is_some p) there) (sym (ap is_there h))

pub set_absent_file_marks : SetAbsentFileMarks
set_absent_file_marks old new path source k found key absent is kept asked written =
    altered_marks (of_file path (Some source)) k found key (there_is_none old.crates key (file path) source (file_at old.sources.files path) absent) is kept
    asked written

pub remove_present_file_marks : RemovePresentFileMarks
remove_present_file_marks old new path was k found key there is kept asked written =
    altered_marks (of_file path None) k found key (none_is_there old.crates key (file path) was (file_at old.sources.files path) there) is kept asked written

-- an expansion that is there isn't seen as one that is absent
looks_apart : (o : Option EntryValue) (e : EntryValue) → o ≡ None → look_of o ≢ look_of (Some e)
looks_apart o e absent h = clash (ap (λ (l : EntryLook). l.present) h) (ap (λ (x : Option EntryValue). (look_of x).present) absent)

pub set_absent_expansion_marks : SetAbsentExpansionMarks
set_absent_expansion_marks old new key entry k found number absent is kept asked written =
    unlike_marks key (Some entry) k found number (looks_apart (entry_at old.sources.entries key) entry absent) is kept asked written

pub remove_present_expansion_marks : RemovePresentExpansionMarks
remove_present_expansion_marks old new key was k found number there is kept asked written =
    unlike_marks key None k found number (λ h. looks_apart None was refl (sym h ∙ ap (λ (o : Option EntryValue). look_of o) there)) is kept asked written

-- ---- blocks

-- a block that is set to a source with other bodies leaves each key as it was
same_but_block_bodies : BodyTextsLeaveTheTree → BodyTextsLeaveTheSides → (s : SessionState) (place : BlockPlace) (was source : SourceValue)
    → block_in s.sources.blocks (place_of_block place) ≡ Some was
    → source_without_bodies was ≡ source_without_bodies source
    → (key : Key) → look s.tables (workspace_in s.crates (edited s.sources (of_block place (Some source)))) no_maps key ≡ look s.tables (workspace_of s) no_maps
    key
same_but_block_bodies law sides s place was source is_was alike = same_looks s (of_block place (Some source)) (λ k key.
    ap (λ (t : SourceTreeValue). seen_at t key)
    (same_tree law sides s.crates (block place) was source alike k ∙ ap (λ (o : Option SourceValue). tree_under s.crates k (block place) o) (sym is_was))) tt

-- so does one that is removed where none is set
same_without_block : (s : SessionState) (place : BlockPlace) → block_in s.sources.blocks (place_of_block place) ≡ None
    → (key : Key) → look s.tables (workspace_in s.crates (edited s.sources (of_block place None))) no_maps key ≡ look s.tables (workspace_of s) no_maps key
same_without_block s place absent =
    same_looks s (of_block place None) (λ k key. ap (λ (o : Option SourceValue). seen_at (tree_under s.crates k (block place) o) key) (sym absent)) tt

pub block_body_edits_mark_nothing : BodyTextsLeaveTheTree → BodyTextsLeaveTheSides → BlockBodyEditsMarkNothing
block_body_edits_mark_nothing law sides old new place was source sound is_was alike is =
    unaltered_marks sound is (λ id r key kept has. same_but_block_bodies law sides old place was source is_was alike key)

pub block_body_edits_leave_answers : BodyTextsLeaveTheTree → BodyTextsLeaveTheSides → BlockBodyEditsLeaveAnswers
block_body_edits_leave_answers law sides old new place was source sound is_was alike is =
    unaltered_answers sound is (λ id r key kept has. same_but_block_bodies law sides old place was source is_was alike key)
    (sets_alike old.sources (of_block place (Some source)) (sym (ap (λ (o : Option SourceValue). is_some o) is_was)))

pub remove_absent_block_marks_nothing : RemoveAbsentBlockMarksNothing
remove_absent_block_marks_nothing old new place sound absent is = unaltered_marks sound is (λ id r key kept has. same_without_block old place absent key)

pub remove_absent_block_leaves_answers : RemoveAbsentBlockLeavesAnswers
remove_absent_block_leaves_answers old new place sound absent is = unaltered_answers sound is (λ id r key kept has. same_without_block old place absent key)
    (sets_alike old.sources (of_block place None) (sym (ap (λ (o : Option SourceValue). is_some o) absent)))

pub set_absent_block_marks : SetAbsentBlockMarks
set_absent_block_marks old new place source k found key absent is kept asked written =
    altered_marks (of_block place (Some source)) k found key
    (there_is_none old.crates key (block place) source (block_in old.sources.blocks (place_of_block place)) absent) is kept asked written

pub remove_present_block_marks : RemovePresentBlockMarks
remove_present_block_marks old new place was k found key there is kept asked written =
    altered_marks (of_block place None) k found key (none_is_there old.crates key (block place) was (block_in old.sources.blocks (place_of_block place)) there)
    is kept asked written

-- ---- sources for which no run asked

-- such a one leaves each key that a run asked for as it was
unasked_looks : (s : SessionState) (edit : SourceEditValue) → IsUnasked s (place_of edit) → AreUnaltered s (workspace_in s.crates (edited s.sources edit))
unasked_looks s edit none id r key kept has = look-apart s.crates s.tables s.sources edit key (none.each id r key kept has)

-- so it marks nothing
pub unasked_sources_mark_nothing : UnaskedSourcesMarkNothing
unasked_sources_mark_nothing old new edit sound none is = unaltered_marks sound is (unasked_looks old edit none)

-- an edit that isn't of a block leaves all blocks as they were
blocks_stay : (t : SourceTable) (edit : SourceEditValue) → is_of_block edit ≡ false → (b : BlockPlace) → is_block_set (edited t edit).blocks b
    ≡ is_block_set t.blocks b
blocks_stay t (of_block place new) e b = clash refl e
blocks_stay t (of_file path new) e b = refl
blocks_stay t (of_expansion key new) e b = refl

pub unasked_sources_leave_answers : UnaskedSourcesLeaveAnswers
unasked_sources_leave_answers old new edit sound none other is =
    unaltered_answers sound is (unasked_looks old edit none) (blocks_stay old.sources edit other)

-- at a place of a current map the answer stays, whatever the edit is of
pub unasked_sources_leave_current_answers : RunsBindFromSources → PathsAnswerFromSources → PathsLeadToWhatIsThere → UnaskedSourcesLeaveCurrentAnswers
unasked_sources_leave_current_answers runs answers leads old new edit place id path shadow style sound none is ends =
    let marks = unaltered_marks sound is (unasked_looks old edit none) in
    let still = λ (j : MapId) (behind : IsBehind old id j). marks j ∙ unmarked_behind sound (ends_unmarked old sound place id ends) behind in
    same_answer {to = new} place path shadow style sound runs answers leads id ends (record {
      count = ap (λ (cs : List CrateValue). length cs) is.crates;
      transitive = ap (λ (cs : List CrateValue). transitive_in cs id.krate.0) is.crates;
      alike = λ j behind. follows_alike old new j is.crates (is.kept j (still j behind));
      tables = subst (λ (t : TablesValue). KeepsTables old.tables t) (sym is.tables) (KeepsTables-refl _);
      off = still;
      kept = λ j behind. is.kept j (still j behind);
      sound = is.sound;
    })

-- ---- what crates are handed in with

-- data that a crate has already leave the crates as they were
same_data : (old new : SessionState) (krate : Crate) (given : CrateDataValue) → IsConfigOf given (crate_in old.crates krate.0).config
    → SetsCrate old krate given new → Becomes old old.sources new
same_data old new krate given so is =
    subst (λ (cs : List CrateValue). IsHandedIn old (record { crates = cs; sources = old.sources }) new)
    (same_crates old.crates krate.0 is.config (is.same so)) is.becomes

pub same_data_mark_nothing : SameDataMarkNothing
same_data_mark_nothing old new krate given sound so is =
    unaltered_marks sound (same_data old new krate given so is) (λ id r key kept has. refl)

pub same_data_leave_answers : SameDataLeaveAnswers
same_data_leave_answers old new krate given sound so is =
    unaltered_answers sound (same_data old new krate given so is) (λ id r key kept has. refl) (λ b. refl)

-- others mark it
pub other_data_mark_the_crate : OtherDataMarkTheCrate
other_data_mark_the_crate old new krate given other is = elim is.marks [
  | inl same ↦ absurd (other (subst (IsConfigOf given) same is.is))
  | inr marked ↦ marked
]
