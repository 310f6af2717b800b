use Rattle.std.proofs.Common.{◌≡◌, ℕ, zero, suc, ◌+◌, ◌<◌, ◌≤◌, true, false, List, [], ◌∷◌, ◌++◌, length, map, is_none, slice_get, drop, get_or, drop-cons}
use Rattle.std.proofs.Common.{add-one, append_assoc, append-nil, drop_of_length-le, Option, None, Some, refl, sym, ap, subst, ◌∙◌, Contains, arith, nat_le}
use Rattle.std.proofs.lemmas.List.Folds.{list_any_at}
use Rattle.hir_session_state.specs.HirIds.declared.ids.Crate.{Crate}
use Rattle.hir_session_state.specs.HirIds.declared.ast_id.FileId.{FileId}
use Rattle.hir_session_state.specs.HirIds.declared.ids.MapId.{MapId}
use Rattle.hir_session_state.specs.HirCollectorRules.Calls.{AreCallsPlaced}
use Rattle.hir_session_state.specs.HirCollectorRules.declared.source_database.Dependency.{Dependency}
use Rattle.hir_session_state.specs.HirMessages.CommandValue.{CrateInputValue, crate_input_view}
use Rattle.hir_session_state.specs.HirMessages.declared.command.CrateInput.{CrateInput}
use Rattle.hir_session_state.specs.HirMessages.declared.command.Dependency.{Dependency as HandedIn}
use Rattle.hir_session_state.specs.Crates.{CrateValue, crate_in, named_in, no_crate}
use Rattle.hir_session_state.specs.SourceTable.{SourceTable}
use Rattle.hir_session_state.specs.Kept.{Resolutions, kept_in}
use Rattle.hir_session_state.specs.SessionState.{SessionState, Resolution, is_marked, IsSound}
use Rattle.hir_session_state.specs.Refusals.{dependency_crates, has_late, first_out_of_order}
use Rattle.hir_session_state.specs.Beginning.{dependency_of, IsAdded, IsMade, AreMade, AreRooted, Begins}
use Rattle.hir_session_state.specs.HirTables.Tables.{KeepsTables, TablesValue, file_at}
use Rattle.hir_session_state.proofs.Truth.{clash, on_bool, on_same}
use Rattle.std.proofs.lemmas.List.{get_or_append_left, get_or_push}

-- as many crates are made as were handed in
pub length-made : (inputs : List CrateInputValue) (crates : List CrateValue) → AreMade inputs crates → length crates ≡ length inputs
length-made [] [] made = refl
length-made (i ∷ inputs) (c ∷ crates) made = let e : length crates ≡ length inputs = length-made inputs crates made.1 in omega arith
length-made [] (c ∷ crates) made = absurd made
length-made (i ∷ inputs) [] made = absurd made

-- the crates so far, and such as are made of what is left, are made of all
abbrev pub IsMaking : ℕ → List CrateInput → List CrateValue → Type 0
IsMaking k inputs crates =
    (rest : List CrateValue) → AreMade (map crate_input_view (drop k inputs)) rest → AreMade (map crate_input_view inputs) (crates ++ rest)

-- the crates of the first so many inputs were made, and only files got numbers
pub record IsBeginning (k : ℕ) (inputs : List CrateInput) (crates : List CrateValue) (first tables : TablesValue) : Type 0 where
  pub making : IsMaking k inputs crates
  pub rooted : AreRooted tables crates
  pub others : tables ≡ record first { files = tables.files }

pub beginning-start : (inputs : List CrateInput) (crates : List CrateValue) (tables : TablesValue) → crates ≡ [] → IsBeginning 0 inputs crates tables tables
beginning-start inputs crates tables none = subst (λ (cs : List CrateValue). IsBeginning 0 inputs cs tables tables) (sym none) (record {
  making = λ rest made. made;
  rooted = λ k within. absurd (omega arith);
  others = refl;
})

-- one more crate is made
pub beginning-more : (k : ℕ) (inputs : List CrateInput) (crates next : List CrateValue) (first before after : TablesValue) (i other : CrateInput)
    → k < length inputs
    → i ≡ get_or inputs k other → IsAdded (crate_input_view i) crates next before after → IsBeginning k inputs crates first before
    → IsBeginning (k + 1) inputs next first after
beginning-more k inputs crates next first before after i other within is added so_far = record {
  making = λ rest h.
      let here : drop k inputs ≡ i ∷ drop (k + 1) inputs = rw (add-one, drop-cons inputs k other, is) refl in
      let from : AreMade (map crate_input_view (drop k inputs)) (added.made ∷ rest) = rw here (added.is, h) in
      subst (λ (cs : List CrateValue). AreMade (map crate_input_view inputs) cs)
      (sym (append_assoc crates (added.made ∷ []) rest) ∙ ap (λ (cs : List CrateValue). cs ++ rest) (sym added.longer))
      (so_far.making (added.made ∷ rest) from);
  rooted = subst (λ (cs : List CrateValue). AreRooted after cs) (sym added.longer) (λ j low. on_same j (length crates)
      (λ e. number_of j added.made (sym (get_or_push crates added.made no_crate j (sym e))) added.number)
      (λ ne.
      let count : length (crates ++ added.made ∷ []) ≡ length crates + 1 = length_more crates in
      let below : j < length crates = omega arith in
      number_of j (crate_in crates j) (sym (get_or_append_left crates (added.made ∷ []) no_crate j below))
      (added.kept.files (crate_in crates j).file.0 (crate_in crates j).own.root (so_far.rooted j below))));
  others = added.others ∙ ap (λ (t : TablesValue). record t { files = after.files }) so_far.others;
}
  where
    number_of : (j : ℕ) (c : CrateValue) → c ≡ crate_in (crates ++ added.made ∷ []) j → file_at after c.file ≡ Some c.own.root
        → file_at after (crate_in (crates ++ added.made ∷ []) j).file ≡ Some (crate_in (crates ++ added.made ∷ []) j).own.root
    number_of j c same h = subst (λ (x : CrateValue). file_at after x.file ≡ Some x.own.root) same h

    length_more : (cs : List CrateValue) → length (cs ++ added.made ∷ []) ≡ length cs + 1
    length_more [] = refl
    length_more (x ∷ cs) = let e : length (cs ++ added.made ∷ []) ≡ length cs + 1 = length_more cs in omega arith

-- all crates are made
pub beginning-end : (k : ℕ) (inputs : List CrateInput) (crates : List CrateValue) (first tables : TablesValue) → length inputs ≤ k
    → IsBeginning k inputs crates first tables
    → AreMade (map crate_input_view inputs) crates
beginning-end k inputs crates first tables past so_far =
    let none : drop k inputs ≡ [] = drop_of_length-le inputs past in
    subst (λ (cs : List CrateValue). AreMade (map crate_input_view inputs) cs) (append-nil crates) (so_far.making [] (rw none tt))

-- a number that is not at most another is above it
below_of : (a b : ℕ) → nat_le a b ≡ false → b < a
below_of a b h = grind (arith, h)

-- where no dependency is late, each comes before
pub before_all : (n : ℕ) (crates : List Crate) (d : Crate) → has_late n crates ≡ false → Contains crates d → d.0 < n
before_all n crates d none among =
    on_bool (nat_le n d.0)
    (λ late. clash (list_any_at (λ (c : Crate). nat_le n c.0) crates among.0 d among.1 (rw among.2 late)) none)
    (λ early. below_of n d.0 early)

-- dependencies as a run sees them are of the crates that are named
crates_named : (ds : List HandedIn) → map (λ d. d.krate) (map dependency_of ds) ≡ dependency_crates ds
crates_named [] = refl
crates_named (d ∷ ds) = ap (λ (cs : List Crate). d.krate ∷ cs) (crates_named ds)

-- a crate that is made with the number of its root file is added
pub added_by : (input : CrateInputValue) (old new : List CrateValue) (before after : TablesValue) (c : CrateValue) → IsMade input c
    → (number : FileId) (root : List ℕ) → root ≡ input.root → file_at after number ≡ Some root → c.file ≡ number
    → new ≡ old ++ c ∷ [] → KeepsTables before after → after ≡ record before { files = after.files } → IsAdded input old new before after
added_by input old new before after c made number root is_root found is_number longer kept others = record {
  made = c;
  is = made;
  number = ap (file_at after) is_number ∙ found ∙ ap (λ (p : List ℕ). Some p) (is_root ∙ sym made.root);
  longer = longer;
  kept = kept;
  others = others;
}

-- where no crate is out of order, each dependency comes before its crate
pub below_from : (n : ℕ) (inputs : List CrateInputValue) (crates : List CrateValue) → AreMade inputs crates → first_out_of_order n inputs ≡ None
    → (k : ℕ) (d : Crate) → Contains (named_in crates k) d → d.0 < n + k
below_from n [] [] made none k d among = absurd (let h : among.0 < 0 = among.1 in omega arith)
below_from n [] (c ∷ cs) made none k d among = absurd made
below_from n (i ∷ is) [] made none k d among = absurd made
below_from n (i ∷ is) (c ∷ cs) made none zero d among = on_bool (has_late n (dependency_crates i.deps))
    (λ late. absurd (let wrong : ⊥ = cc (rw late at none) in wrong))
    (λ early. let lower : d.0 < n = before_all n (dependency_crates i.deps) d early
    (subst (λ (ds : List Crate). Contains ds d) (ap (λ (ds : List Dependency). map (λ d. d.krate) ds) made.0.config.dependencies ∙ crates_named i.deps) among)
    in omega arith)
below_from n (i ∷ is) (c ∷ cs) made none (suc k) d among = on_bool (has_late n (dependency_crates i.deps))
    (λ late. absurd (let wrong : ⊥ = cc (rw late at none) in wrong))
    (λ early. let lower : d.0 < n + 1 + k = below_from (n + 1) is cs made.1 (rw early at none) k d among in omega arith)

-- where no call has a number
none_placed : (t : TablesValue) → t ≡ record { files = t.files; blocks = []; entries = []; calls = [] } → AreCallsPlaced t
none_placed t is = record {
  calls = λ n loc e.
      let gone : None ≡ Some loc = sym (ap (λ (x : TablesValue). slice_get x.calls n) is) ∙ e in absurd (let wrong : ⊥ = cc in wrong);
}

-- a session is sound when it begins
pub begins_sound : (inputs : List CrateInputValue) (s : SessionState) → length inputs ≤ 10000 → first_out_of_order 0 inputs ≡ None → Begins inputs s → IsSound s
begins_sound inputs s few ordered is =
    let on : (id : MapId) → is_marked s id ≡ true = λ id. ap (λ (o : Option Resolution). is_none o) (is.kept id) in
    let count : length s.crates ≡ length inputs = length-made inputs s.crates is.crates in
    record {
      few = omega arith;
      below = λ k d among. let lower : d.0 < 0 + k = below_from 0 inputs s.crates is.crates ordered k d among in omega arith;
      placed = λ id off. clash (on id) off;
      closed = λ id d off among. clash (on id) off;
      current = λ id off. clash (on id) off;
      rooted = is.rooted;
      calls = none_placed s.tables is.tables;
    }

-- the parts of a session that begins
pub begins_with : (inputs : List CrateInput) (crates : List CrateValue) (tables : TablesValue) (sources : SourceTable) (kept : Resolutions)
    → AreMade (map crate_input_view inputs) crates → AreRooted tables crates → sources ≡ record { files = []; blocks = []; entries = [] }
    → ((id : MapId) → kept_in kept id ≡ None)
    → (first : TablesValue) → first ≡ record { files = []; blocks = []; entries = []; calls = [] } → tables ≡ record first { files = tables.files }
    → Begins (map crate_input_view inputs) (record { crates = crates; tables = tables; sources = sources; kept = kept })
begins_with inputs crates tables sources kept made rooted none is_kept first empty others = record {
  crates = made;
  rooted = rooted;
  tables = others ∙ ap (λ (t : TablesValue). record t { files = tables.files }) empty;
  sources = none;
  kept = is_kept;
}
