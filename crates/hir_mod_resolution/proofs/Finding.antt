-- The file of a module is looked for, one candidate after another.
use Rattle.std.proofs.Common.{◌≡◌, ◌∙◌, ◌+◌, ◌*◌, ◌-◌, ◌<◌, ◌≤◌, ℕ, suc, true, false, List, [], ◌∷◌, ◌++◌, length, take, drop, get_or, min, Option, Some, None}
use Rattle.std.proofs.Common.{refl, sym, ap, subst, arith}
use Rattle.std.proofs.lemmas.List.{take_all}
use Rattle.std.specs.Prelude.{option_map}
use Rattle.std.specs.Option.{option_map_or, option_to_list}
use Rattle.hir_collector_state.specs.HirIds.declared.ids.Crate.{Crate}
use Rattle.hir_collector_state.specs.HirIds.declared.edition.Edition.{Edition}
use Rattle.hir_collector_state.specs.HirIds.declared.ast_id.FileId.{FileId}
use Rattle.hir_collector_state.specs.HirItemTree.SourceTree.{SourceTreeValue}
use Rattle.hir_collector_state.specs.HirModDir.declared.candidate.Candidate.{Candidate}
use Rattle.hir_collector_state.specs.HirTables.SourcePlaces.{file}
use Rattle.hir_collector_state.specs.HirTables.Tables.{KeepsTables, TablesValue, file_at}
use Rattle.hir_collector_state.proofs.HirTables.Growth.{KeepsTables-trans}
use Rattle.hir_collector_state.specs.HirDefMapRules.State.{Map}
use Rattle.hir_collector_state.specs.HirDefMapRules.Overlay.{Maps}
use Rattle.hir_collector_state.specs.HirCollectorRules.Workspace.{Workspace, seen_of}
use Rattle.hir_collector_state.specs.HirCollectorRules.Keys.{environment, of_tree, source_in, source_under}
use Rattle.hir_collector_state.specs.HirCollectorRules.ModuleFiles.{AreTried, IsNumberOf, IsTriedFile, LookedAt, ModuleFile}
use Rattle.hir_collector_state.specs.HirCollectorRules.ModuleFiles.{Tried, file_key, file_reading, file_readings}
use Rattle.hir_collector_state.specs.HirCollectorRules.ModuleFiles.{file_tree, named_by, taken_by}
use Rattle.hir_collector_state.specs.HirCollectorRules.State.{Core}
use Rattle.hir_collector_state.specs.HirCollectorRules.Steps.{Sees, keys_read, with_keys}
use Rattle.hir_mod_resolution.specs.Types.{LookedFile}
use Rattle.hir_collector_state.specs.HirCollectorRules.Moves.{Finds, IsHeld, LooksAt, OnceGrown}
use Rattle.hir_mod_resolution.specs.Walking.{looked_view}
use Rattle.hir_collector_state.proofs.HirCollectorRules.ModuleFiles.{absent_there, none_there_behind, number_kept}
use Rattle.hir_collector_state.proofs.HirCollectorRules.Numbers.{tables_stay}
use Rattle.hir_mod_resolution.proofs.Outline.{held_grown, held_source}

-- what a file that has a number has is held
pub file_held : (tables : TablesValue) (w : Workspace) (krate : Crate) (edition : Edition) (id : FileId) (path : List ℕ) (source : SourceTreeValue)
    → file_at tables id ≡ Some path
    → source ≡ source_in tables w (file_key krate edition id) → IsHeld tables w krate (file_tree edition id) source
file_held tables w krate edition id path source number found = record {
  place = file path;
  at = ap (λ (o : Option (List ℕ)). option_map file o) number;
  is = sym (found ∙ ap (λ (o : Option (List ℕ)). source_under w krate (option_map file o)) number);
}

-- so it is seen at its key
pub sees_file : (tables : TablesValue) (w : Workspace) (krate : Crate) (edition : Edition) (id : FileId) (source : SourceTreeValue)
    → IsHeld tables w krate (file_tree edition id) source
    → OnceGrown tables w (λ env. (finished : Maps) → Sees env finished (file_reading krate edition (Some (record { id = id; there = seen_of source }))))
sees_file tables w krate edition id source held = λ grown kept finished. (
  ap (λ (s : SourceTreeValue). of_tree (seen_of s))
      (held_source grown w krate (file_tree edition id) source (held_grown tables grown w krate (file_tree edition id) source kept held)),
  tt,
)

pub looks_nowhere : (tables : TablesValue) (w : Workspace) (declaring : Option (List ℕ)) (c : Candidate) (run : Core) → named_by declaring c ≡ None
    → LooksAt tables w declaring c run run None
looks_nowhere tables w declaring c run none = record {
  numbered = subst (λ (o : Option (List ℕ)). IsNumberOf tables None o) (sym none) tt;
  sees = λ grown kept finished. tt;
  asked = refl;
}

-- ---- the search

pub none_left : (cs : List Candidate) → length cs < 1 → cs ≡ []
none_left [] h = refl
none_left (c ∷ cs) h = absurd (omega arith)

-- the first, and those behind it
pub one_first : (cs : List Candidate) (c d : Candidate) → 1 ≤ length cs → c ≡ get_or cs 0 d → cs ≡ c ∷ take (length cs - 1) (drop 1 cs)
one_first [] c d h e = absurd (omega arith)
one_first (x ∷ xs) c d h e =
    ap (λ (y : Candidate). y ∷ xs) (sym e) ∙ ap (λ (ys : List Candidate). c ∷ ys) (sym (take_all (length (x ∷ xs) - 1) xs (omega arith)))

pub looked_there : (o : Option LookedFile) → option_map_or (λ (g : LookedAt). g.there.present) (option_map looked_view o) false
    ≡ option_map_or (λ (f : LookedFile). f.source.value.present) o false
looked_there None = refl
looked_there (Some f) = refl

pub finds_none : (tables : TablesValue) (w : Workspace) (declaring : Option (List ℕ)) (run : Core) → Finds tables w declaring [] run run None
finds_none tables w declaring run = record {
  absent = [];
  found = None;
  search = record { in_order = refl; absent = tt; found = tt };
  numbered = tt;
  sees = λ grown kept finished. tt;
  asked = refl;
  is = refl;
}

-- the first candidate is there
pub finds_here : (tables : TablesValue) (w : Workspace) (declaring : Option (List ℕ)) (c : Candidate) (cs : List Candidate) (old new : Core)
    (f : Option LookedAt) → LooksAt tables w declaring c old new f
    → option_map_or (λ (g : LookedAt). g.there.present) f false ≡ true → Finds tables w declaring (c ∷ cs) old new (taken_by c.dir c.is_mod_rs f)
finds_here tables w declaring c cs old new None looks there = absurd cc
finds_here tables w declaring c cs old new (Some f) looks there = record {
  absent = [];
  found = Some (record { candidate = c; file = Some f });
  search = record { in_order = (cs, refl); absent = tt; found = there };
  numbered = (looks.numbered, tt);
  sees = λ grown kept finished. looks.sees grown kept finished;
  asked = looks.asked;
  is = refl;
}

-- it isn't, and others are tried
pub finds_later : (tables later : TablesValue) (w : Workspace) (declaring : Option (List ℕ)) (c : Candidate) (cs : List Candidate) (old mid new : Core)
    (f : Option LookedAt) (found : Option ModuleFile)
    → KeepsTables tables later → LooksAt tables w declaring c old mid f → option_map_or (λ (g : LookedAt). g.there.present) f false ≡ false
    → Finds later w declaring cs mid new found → Finds later w declaring (c ∷ cs) old new found
finds_later tables later w declaring c cs old mid new f found kept looks gone finds = record {
  absent = record { candidate = c; file = f } ∷ finds.absent;
  found = finds.found;
  search = record { in_order = in_order finds.found finds.search.in_order; absent = (gone, finds.search.absent); found = finds.search.found };
  numbered = (number_kept tables later kept (option_map (λ (g : LookedAt). g.id) f) (named_by declaring c) looks.numbered, finds.numbered);
  sees = λ grown k finished. all_seen grown finished f (looks.sees grown (KeepsTables-trans tables later grown kept k) finished) (seen grown k finished);
  asked = all_asked f looks.asked;
  is = finds.is;
}
  where
    rest : List Tried
    rest = finds.absent ++ option_to_list finds.found

    in_order : (o : Option Tried) → AreTried cs finds.absent o → AreTried (c ∷ cs) (record { candidate = c; file = f } ∷ finds.absent) o
    in_order None e = ap (λ (xs : List Candidate). c ∷ xs) e
    in_order (Some t) e = (e.0, ap (λ (xs : List Candidate). c ∷ xs) e.1)

    same_map : mid.map ≡ old.map
    same_map = ap (λ (x : Core). x.map) looks.asked

    seen : (grown : TablesValue) → KeepsTables later grown → (finished : Maps) → Sees (environment grown w) finished
        (file_readings old.map.id.krate old.map.crate_data.edition rest)
    seen grown k finished =
        subst (λ (m : Map). Sees (environment grown w) finished (file_readings m.id.krate m.crate_data.edition rest)) same_map (finds.sees grown k finished)

    all_seen : (grown : TablesValue) (finished : Maps) (g : Option LookedAt) → Sees (environment grown w) finished
        (file_reading old.map.id.krate old.map.crate_data.edition g)
        → Sees (environment grown w) finished (file_readings old.map.id.krate old.map.crate_data.edition rest)
        → Sees (environment grown w) finished (file_reading old.map.id.krate old.map.crate_data.edition g ++ file_readings old.map.id.krate
        old.map.crate_data.edition rest)
    all_seen grown finished None a b = b
    all_seen grown finished (Some g) a b = (a.0, b)

    all_asked : (g : Option LookedAt) → mid ≡ record old
        { asked = with_keys old.asked (keys_read (file_reading old.map.id.krate old.map.crate_data.edition g)) }
        → new ≡ record old {
          asked = with_keys old.asked
              (keys_read (file_reading old.map.id.krate old.map.crate_data.edition g ++ file_readings old.map.id.krate old.map.crate_data.edition rest));
        }
    all_asked None e =
        finds.asked ∙ ap (λ (x : Core). record x { asked = with_keys x.asked (keys_read (file_readings x.map.id.krate x.map.crate_data.edition rest)) }) e
    all_asked (Some g) e =
        finds.asked ∙ ap (λ (x : Core). record x { asked = with_keys x.asked (keys_read (file_readings x.map.id.krate x.map.crate_data.edition rest)) }) e

-- ---- what can't get a number

-- the file of the first candidate is tried
pub tried_first : (w : Workspace) (krate : Crate) (declaring : Option (List ℕ)) (c : Candidate) (cs : List Candidate) (path : List ℕ)
    → named_by declaring c ≡ Some path → IsTriedFile w krate declaring (c ∷ cs) path
tried_first w krate declaring c cs path names = record {
  place = 0;
  candidate = c;
  is_candidate = refl;
  names = names;
  earlier = λ m d below at. absurd (omega arith);
}

-- that of a later one is, where the first isn't there
pub tried_later : (tables : TablesValue) (w : Workspace) (declaring : Option (List ℕ)) (c : Candidate) (cs : List Candidate) (old mid : Core)
    (f : Option LookedAt) (path : List ℕ) → LooksAt tables w declaring c old mid f → option_map_or (λ (g : LookedAt). g.there.present) f false ≡ false
    → IsTriedFile w mid.map.id.krate declaring cs path → IsTriedFile w old.map.id.krate declaring (c ∷ cs) path
tried_later tables w declaring c cs old mid f path looks gone tried = record {
  place = suc later.place;
  candidate = later.candidate;
  is_candidate = later.is_candidate;
  names = later.names;
  earlier = none_there_behind w old.map.id.krate declaring c cs later.place absent later.earlier;
}
  where
    later : IsTriedFile w old.map.id.krate declaring cs path
    later = subst (λ (x : Core). IsTriedFile w x.map.id.krate declaring cs path) looks.asked tried

    absent : option_map_or (λ path. (w.tree old.map.id.krate (file path)).present) (named_by declaring c) false ≡ false
    absent =
        absent_there tables w (λ id. None) old.map.id.krate old.map.crate_data.edition declaring (record { candidate = c; file = f }) gone looks.numbered
        (looks.sees tables (tables_stay tables) (λ id. None))

-- ---- how deep it goes

pub falls_to_item : (depth n least : ℕ) → n < least → n < 18446744073709551616 → (32 - depth) * 73786976294838206464 + 2 * n + 1 < (32 - depth) *
    73786976294838206464 + 2 * min least 18446744073709551616
falls_to_item depth n least a b = omega arith

pub falls_inside : (depth inner n least : ℕ) → depth ≤ inner → least ≤ n → (32 - inner) * 73786976294838206464 + 2 * min least 18446744073709551616 <
    (32 - depth) * 73786976294838206464 + 2 * n + 1
falls_inside depth inner n least a b = omega arith

pub falls_to_file : (depth inner n least : ℕ) → depth < 32 → inner ≡ depth + 1 → (32 - inner) * 73786976294838206464 + 2 * min least 18446744073709551616 <
    (32 - depth) * 73786976294838206464 + 2 * n + 1
falls_to_file depth inner n least a b = omega arith
