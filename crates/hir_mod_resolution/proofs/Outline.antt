-- A module whose items are in a file of its own is handled by a step, whatever the tables grow to.
use Rattle.std.proofs.lemmas.Bool.{ltb-true}
use Rattle.std.proofs.Common.{◌≡◌, ◌∙◌, ℕ, ◌+◌, ◌<◌, ◌≤◌, ◌||◌, nat_lt, if◌then◌else◌, codes, Bool, true, false, List, [], ◌∷◌, ◌++◌, map as list_map, length}
use Rattle.std.proofs.Common.{Option, Some, None, refl, sym, ap, subst, arith}
use Rattle.std.specs.Prelude.{IsSome, option_map}
use Rattle.std.specs.Option.{option_to_list}
use Rattle.hir_collector_state.specs.HirIds.declared.ids.Crate.{Crate}
use Rattle.hir_collector_state.specs.HirIds.declared.edition.Edition.{Edition}
use Rattle.hir_collector_state.specs.HirIds.declared.ast_id.FileId.{FileId}
use Rattle.hir_collector_state.specs.HirItemTree.Collected.{is_enabled}
use Rattle.hir_collector_state.specs.HirItemTree.ItemTree.{Tree}
use Rattle.hir_collector_state.specs.HirItemTree.KeptForest.{Head, KeptForest, KeptItem, holder, inline_module, leaf, outline_module}
use Rattle.hir_collector_state.specs.HirItemTree.SourceTree.{SourceTreeValue}
use Rattle.hir_collector_state.specs.HirBase.declared.tree_id.TreeId.{TreeId}
use Rattle.hir_collector_state.specs.HirModDir.Directory.{Directory}
use Rattle.hir_collector_state.specs.HirModDir.ModuleFiles.{candidate, candidates_of, child, file_directory, inline_directory, inline_path, is_mod_rs}
use Rattle.hir_collector_state.specs.HirModDir.PathText.{joined as joined_path}
use Rattle.hir_collector_state.specs.HirModDir.declared.candidate.Candidate.{Candidate}
use Rattle.hir_collector_state.specs.HirTables.SourcePlaces.{SourcePlaceValue, file as file_place}
use Rattle.hir_collector_state.specs.HirTables.Tables.{KeepsTables, TablesValue, file_at, source_of}
use Rattle.hir_collector_state.proofs.HirTables.Growth.{source_of-kept}
use Rattle.hir_collector_state.specs.HirDefMapRules.State.{Map}
use Rattle.hir_collector_state.specs.HirDefMapRules.Overlay.{Maps}
use Rattle.hir_collector_state.specs.HirMapParts.declared.diagnostics.DefDiagnostic.{DefDiagnostic}
use Rattle.hir_collector_state.specs.HirMapParts.declared.origin.ModuleOrigin.{ModuleOrigin}
use Rattle.hir_collector_state.specs.HirCollectorRules.declared.site.Site.{Site}
use Rattle.hir_collector_state.specs.HirCollectorRules.Workspace.{Workspace}
use Rattle.hir_collector_state.specs.HirCollectorRules.Keys.{Environment, environment, source_in, source_under}
use Rattle.hir_collector_state.specs.HirCollectorRules.Items.{file_origin, inline_origin, own_visibility}
use Rattle.hir_collector_state.specs.HirCollectorRules.ItemIds.{module_id, node_of}
use Rattle.hir_collector_state.specs.HirIds.declared.ast_id.AstKind.TheVariants as nodes
use Rattle.hir_collector_state.specs.HirCollectorRules.ModuleFiles.{AreTried, IsFileMeant, IsNumberOf, IsNumbered, IsSearch}
use Rattle.hir_collector_state.specs.HirCollectorRules.ModuleFiles.{ModuleFile, Search, Tried, file_tree, module_file}
use Rattle.hir_collector_state.specs.HirCollectorRules.ModuleFiles.{IsTriedFile}
use Rattle.hir_collector_state.specs.HirCollectorRules.Macros.{is_macro_use}
use Rattle.hir_collector_state.specs.HirCollectorRules.Reports.{IsUnresolvedModule}
use Rattle.hir_collector_state.specs.HirCollectorRules.State.{Core, Task, Visit, visits, joined, visits_over}
use Rattle.hir_collector_state.specs.HirCollectorRules.Steps.{LooksFor, none, behind, closing, drops_file, inside_file}
use Rattle.hir_collector_state.specs.HirCollectorRules.Steps.{keys_read, misses_file, module_declaration, opens_file}
use Rattle.hir_collector_state.specs.HirCollectorRules.Steps.{opens_module, path_of, search_readings, visit, visits_in_file, visits_inside, with_keys}
use Rattle.hir_collector_state.specs.HirCollectorRules.NumberedOut.{IsNumberedOut, LacksFile, lacks_file}
use Rattle.hir_collector_state.specs.HirCollectorRules.Derivation.{IsFull, IsSpent, counted_out, numbered_out}
use Rattle.hir_mod_resolution.specs.Types.{Inside}
use Rattle.hir_mod_resolution.specs.declared.modules.Inside.TheVariants.{Nothing, Held, File}
use Rattle.hir_collector_state.specs.HirCollectorRules.Calls.{IsMeantAt}
use Rattle.hir_collector_state.specs.HirCollectorRules.Moves.{DropsFile, Finds, Handles, HandlesTooFar, IsHeld, IsPassed}
use Rattle.hir_collector_state.specs.HirCollectorRules.Moves.{MayTake, OnceGrown, OpensFile, Tells, may_drop}
use Rattle.hir_collector_state.specs.HirCollectorRules.Moves.{may_open, opened}
use Rattle.hir_mod_resolution.specs.Walking.{GoesInside, TakesFile, tasks_of}
use Rattle.hir_collector_state.proofs.Made.{Goes, goes, made, missed_after, opened_after}
use Rattle.hir_collector_state.proofs.HirCollectorRules.Grows.{longer_by_module}
use Rattle.hir_collector_state.proofs.HirCollectorRules.ModuleFiles.{found_at, numbers_kept}
use Rattle.hir_collector_state.proofs.HirCollectorRules.Numbers.{still_out}

-- ---- what is held stays held

pub held_grown : (tables grown : TablesValue) (w : Workspace) (krate : Crate) (tree : TreeId) (source : SourceTreeValue) → KeepsTables tables grown
    → IsHeld tables w krate tree source → IsHeld grown w krate tree source
held_grown tables grown w krate tree source kept h = record { place = h.place; at = source_of-kept tables grown tree h.place kept h.at; is = h.is }

pub held_source : (tables : TablesValue) (w : Workspace) (krate : Crate) (tree : TreeId) (source : SourceTreeValue) → IsHeld tables w krate tree source
    → source_in tables w (record { krate = krate; id = tree }) ≡ source
held_source tables w krate tree source h = ap (λ (o : Option SourcePlaceValue). source_under w krate o) h.at ∙ h.is

pub held_meant : (tables : TablesValue) (w : Workspace) (krate : Crate) (tree : TreeId) (source : SourceTreeValue) → IsHeld tables w krate tree source
    → IsSome (source_of tables tree)
held_meant tables w krate tree source h = subst (λ (o : Option SourcePlaceValue). IsSome o) (sym h.at) refl

-- the number of a file goes on to mean something
pub file_grown : (tables grown : TablesValue) (file : Option FileId) → KeepsTables tables grown → IsFileMeant tables file → IsFileMeant grown file
file_grown tables grown file kept h = λ id e. go id (file_at tables id) refl (h id e)
  where
    go : (id : FileId) (o : Option (List ℕ)) → file_at tables id ≡ o → IsSome o → IsSome (file_at grown id)
    go id None e there = absurd (let no : ⊥ = cc in no)
    go id (Some path) e there = subst (λ (o : Option (List ℕ)). IsSome o) (sym (kept.files id.0 path e)) refl

same_file : (a b : FileId) → Some a ≡ Some b → a ≡ b
same_file a b e = cc

file_there : (o : Option (List ℕ)) (place : SourcePlaceValue) → option_map file_place o ≡ Some place → IsSome o
file_there None place e = absurd (let no : ⊥ = cc in no)
file_there (Some path) place e = refl

-- so does that of a file whose source is held
pub file_meant : (tables : TablesValue) (w : Workspace) (krate : Crate) (edition : Edition) (id : FileId) (source : SourceTreeValue)
    → IsHeld tables w krate (file_tree edition id) source → IsFileMeant tables (Some id)
file_meant tables w krate edition id source held =
    λ other same. subst (λ (n : FileId). IsSome (file_at tables n)) (same_file id other same) (file_there (file_at tables id) held.place held.at)

-- the numbers of a site mean something, so do those of another one in the same source
pub meant_inside : (tables : TablesValue) (site inner : Site) → inner.tree ≡ site.tree → inner.file ≡ site.file → IsMeantAt tables site → IsMeantAt tables inner
meant_inside tables site inner tree file h = record {
  tree = subst (λ (t : TreeId). IsSome (source_of tables t)) (sym tree) h.tree;
  file = subst (λ (f : Option FileId). IsFileMeant tables f) (sym file) h.file;
}

-- a module that is opened adds one
pub opened_longer : (finished : Maps) (old new : Core) (site : Site) (head : Head) (name : List ℕ) (origin : ModuleOrigin) → new ≡ opened finished old site head
    name origin → length old.map.modules < length new.map.modules
opened_longer finished old new site head name origin is =
    let vis = own_visibility finished old.local old.map site head in
    longer_by_module old new site.home name origin vis (Some (module_id old.map site.home)) (module_declaration old.map name vis) is

-- ---- the rules of files

module _ (tables : TablesValue) (w : Workspace) (finished : Maps) (site : Site) (head : Head) (name : List ℕ) (declaring : Option (List ℕ)) (candidates : List Candidate) (old mid : Core)
    (tried : candidates ≡ candidates_of site.dir name (path_of head)) (written : (grown : TablesValue) → KeepsTables tables grown
    → IsNumberOf grown site.file declaring)
    (enabled : is_enabled head.attributes ≡ true) where
  abbrev next : Visit
  next = visit site (leaf head (outline_module name))

  abbrev searched : {file : Option ModuleFile} → Finds tables w declaring candidates old mid file → Search
  searched finds = record { declaring = declaring; absent = finds.absent; found = finds.found }

  -- a run that asked for what was looked at
  abbrev asked : {file : Option ModuleFile} → Finds tables w declaring candidates old mid file → Core
  asked finds = record old { asked = with_keys old.asked (keys_read (search_readings old.map (searched finds))) }

  looks : {file : Option ModuleFile} (finds : Finds tables w declaring candidates old mid file) (done : ℕ) → IsPassed old next done → (rest : List Task)
      → LooksFor (joined old (visits (behind next done) ∷ rest)) site head name (searched finds) rest
  looks finds done passed rest =
      record {
        here = record { done = done; next = refl; enabled = enabled; passed = passed };
        tries = subst (λ (cs : List Candidate). IsSearch cs (searched finds)) tried finds.search;
      }

  numbered : {file : Option ModuleFile} (finds : Finds tables w declaring candidates old mid file) (grown : TablesValue) → KeepsTables tables grown
      → IsNumbered grown site.file (searched finds)
  numbered finds grown kept =
      record { declaring = written grown kept; tried = numbers_kept tables grown kept declaring (finds.absent ++ option_to_list finds.found) finds.numbered }

  pub file_opened : (file : ModuleFile) (new : Core) → Finds tables w declaring candidates old mid (Some file) → OpensFile finished site head name file mid new
      → OnceGrown tables w (λ env. Handles env finished old new next (visits_in_file old.map site head file))
  file_opened file new finds opens = λ grown kept. record {
    step = λ done passed rest.
        let origin : ModuleOrigin = file_origin site.tree head.id old.map.crate_data.edition file in
        made (opens_file site head name (searched finds) file rest)
        (record { looks = looks finds done passed rest; found = sym finds.is; enabled = opens.enabled }) (finds.sees grown kept finished)
        (numbered finds grown kept)
        (rw (opens.is, finds.asked) (opened_after finished (asked finds) site head name origin (visits (behind next done) ∷ rest)
        (visits_in_file old.map site head file ++ rest)));
  }

  pub file_dropped : (file : ModuleFile) (new : Core) → Finds tables w declaring candidates old mid (Some file) → DropsFile site head file mid new
      → OnceGrown tables w (λ env. Handles env finished old new next [])
  file_dropped file new finds drops = λ grown kept. record {
    step = λ done passed rest.
        let reported = rw finds.asked at drops.drops.is_such in
        made (drops_file site head name (searched finds) drops.drops.report rest)
        (record {
          looks = looks finds done passed rest;
          file = file;
          found = sym finds.is;
          condition = drops.condition;
          disabled = drops.disabled;
          reported = reported;
        })
        (finds.sees grown kept finished) (numbered finds grown kept) (rw (drops.drops.is, finds.asked) refl);
  }

  pub file_missed : (new : Core) → Finds tables w declaring candidates old mid None
      → Tells (IsUnresolvedModule (module_id mid.map site.home) (node_of site.tree nodes.Module head.id) (list_map (λ (c : Candidate). c.text) candidates))
      (opened finished mid site head name (inline_origin site.tree head.id)) new
      → OnceGrown tables w (λ env. Handles env finished old new next [])
  file_missed new finds tells = λ grown kept. record {
    step = λ done passed rest.
        let reported = rw (finds.asked, tried) at tells.is_such in
        made (misses_file site head name (searched finds) tells.report rest)
        (record { looks = looks finds done passed rest; missing = sym finds.is; reported = reported })
        (finds.sees grown kept finished) (numbered finds grown kept)
        (rw (tells.is, finds.asked) (missed_after finished (asked finds) site head name (inline_origin site.tree head.id) (visits (behind next done) ∷ rest)
        rest tells.report));
  }

  same_full : {file : Option ModuleFile} → Finds tables w declaring candidates old mid file → IsFull mid.count mid.map → IsFull old.count old.map
  same_full finds full = rw finds.asked at full

  -- as many steps or modules as are counted, and the step that is wanted
  far : (grown : TablesValue) (done : ℕ) (rest : List Task) → IsFull old.count old.map → Goes (environment grown w) finished
      (joined old (visits (behind next done) ∷ rest))
      → IsSpent (environment grown w) finished (joined old (visits (behind next done) ∷ rest))
  far grown done rest full goes = record { at = joined old (visits (behind next done) ∷ rest); steps = none; stuck = counted_out goes.next goes.step full }

  pub file_far : (file : ModuleFile) → Finds tables w declaring candidates old mid (Some file) → IsFull mid.count mid.map → MayTake site head file mid
      → OnceGrown tables w (λ env. HandlesTooFar env finished old next)
  file_far file finds full (may_open on) = λ grown kept. record {
    spent = λ done passed rest.
        far grown done rest (same_full finds full)
        (goes (opens_file site head name (searched finds) file rest) (record { looks = looks finds done passed rest; found = sym finds.is; enabled = on })
        (finds.sees grown kept finished) (numbered finds grown kept));
  }
  file_far file finds full (may_drop condition report off reported) = λ grown kept. record {
    spent = λ done passed rest.
        far grown done rest (same_full finds full)
        (goes (drops_file site head name (searched finds) report rest)
        (record {
          looks = looks finds done passed rest;
          file = file;
          found = sym finds.is;
          condition = condition;
          disabled = off;
          reported = rw finds.asked at reported;
        })
        (finds.sees grown kept finished) (numbered finds grown kept));
  }

  pub missed_far : (report : DefDiagnostic) → Finds tables w declaring candidates old mid None → IsFull mid.count mid.map
      → IsUnresolvedModule (module_id mid.map site.home) (node_of site.tree nodes.Module head.id) (list_map (λ (c : Candidate). c.text) candidates) report
      → OnceGrown tables w (λ env. HandlesTooFar env finished old next)
  missed_far report finds full reported = λ grown kept. record {
    spent = λ done passed rest.
        far grown done rest (same_full finds full)
        (goes (misses_file site head name (searched finds) report rest)
        (record { looks = looks finds done passed rest; missing = sym finds.is; reported = rw (finds.asked, tried) at reported })
        (finds.sees grown kept finished) (numbered finds grown kept));
  }

  -- the file of a candidate can't get a number
  pub numbers_far : (path : List ℕ) → IsTriedFile w old.map.id.krate declaring candidates path → IsNumberedOut tables.files path
      → OnceGrown tables w (λ env. HandlesTooFar env finished old next)
  numbers_far path is out = λ grown kept. record {
    spent = λ done passed rest.
        let lacks : LacksFile (environment grown w) (joined old (visits (behind next done) ∷ rest)) =
        record {
          site = site;
          head = head;
          name = name;
          rest = rest;
          here = record { done = done; next = refl; enabled = enabled; passed = passed };
          declaring = declaring;
          written = written grown kept;
          path = path;
          tried = subst (λ (cs : List Candidate). IsTriedFile w old.map.id.krate declaring cs path) tried is;
          out = still_out tables.files grown.files path kept.files out;
        } in
        record { at = joined old (visits (behind next done) ∷ rest); steps = none; stuck = numbered_out (lacks_file lacks) };
  }

-- ---- a file that is found is one deeper

abbrev AllCandidates : (Candidate → Type 0) → List Candidate → Type 0
AllCandidates P [] = Unit {0}
AllCandidates P (c ∷ cs) = P c × AllCandidates P cs

-- the directory of a candidate, if it has one, is one deeper
abbrev IsDeeper : ℕ → Candidate → Type 0
IsDeeper depth c = (d : Directory) → c.dir ≡ Some d → (depth < 32) × (d.depth ≡ depth + 1)

child_deeper : (dir : Directory) (path : List ℕ) (b : Bool) (d : Directory) → child dir path b ≡ Some d → (dir.depth < 32) × (d.depth ≡ dir.depth + 1)
child_deeper dir path b d e = go (nat_lt dir.depth 32) refl e
  where
    go : (below : Bool) → nat_lt dir.depth 32 ≡ below → (if below then Some (record { path = path; root_non_dir_owner = b; depth = dir.depth + 1 }) else None)
        ≡ Some d
        → (dir.depth < 32) × (d.depth ≡ dir.depth + 1)
    go true f h =
        let same : record { path = path; root_non_dir_owner = b; depth = dir.depth + 1 } ≡ d = cc
        in (ltb-true dir.depth 32 f, sym (ap (λ (x : Directory). x.depth) same))
    go false f h = absurd cc

candidate_deeper : (dir : Directory) (name : List ℕ) (b : Bool) (text : List ℕ) → IsDeeper dir.depth (candidate dir name b text)
candidate_deeper dir name b text d e = go (is_mod_rs text || b) e
  where
    go : (owner : Bool) → file_directory dir name owner ≡ Some d → (dir.depth < 32) × (d.depth ≡ dir.depth + 1)
    go true h = child_deeper dir [] false d h
    go false h = child_deeper dir (name ++ codes "/") true d h

all_deeper : (dir : Directory) (name : List ℕ) (path : Option (List ℕ)) → AllCandidates (IsDeeper dir.depth) (candidates_of dir name path)
all_deeper dir name None =
    (candidate_deeper dir name false (dir.path ++ name ++ codes ".rs"), (candidate_deeper dir name false (dir.path ++ name ++ codes "/mod.rs"), tt))
all_deeper dir name (Some text) = (candidate_deeper dir name true (joined_path dir text), tt)

found_is : (P : Candidate → Type 0) (candidates : List Candidate) (absent : List Tried) (t : Tried) → AreTried candidates absent (Some t)
    → AllCandidates P candidates → P t.candidate
found_is P candidates absent t order all = behind absent (subst (AllCandidates P) order.1 all)
  where
    behind : (xs : List Tried) → AllCandidates P (list_map (λ (x : Tried). x.candidate) xs ++ t.candidate ∷ order.0) → P t.candidate
    behind [] h = h.0
    behind (x ∷ xs) h = behind xs h.1

deeper_at : (depth : ℕ) (candidates : List Candidate) (absent : List Tried) (found : Option Tried) (file : ModuleFile) → AreTried candidates absent found
    → Some file ≡ module_file found
    → AllCandidates (IsDeeper depth) candidates → (depth < 32) × (file.dir.depth ≡ depth + 1)
deeper_at depth candidates absent None file order e all = absurd cc
deeper_at depth candidates absent (Some t) file order e all =
    let at = found_at t file (sym e) in found_is (IsDeeper depth) candidates absent t order all file.dir at.2

pub found_deeper : (tables : TablesValue) (w : Workspace) (declaring : Option (List ℕ)) (candidates : List Candidate) (old mid : Core) (file : ModuleFile)
    (dir : Directory) (name : List ℕ) (path : Option (List ℕ))
    → Finds tables w declaring candidates old mid (Some file) → candidates ≡ candidates_of dir name path → (dir.depth < 32) × (file.dir.depth ≡ dir.depth + 1)
found_deeper tables w declaring candidates old mid file dir name path finds tried =
    deeper_at dir.depth candidates finds.absent finds.found file finds.search.in_order finds.is
    (subst (AllCandidates (IsDeeper dir.depth)) (sym tried) (all_deeper dir name path))

-- ---- modules that are written where they are declared

pub inline_deeper : (dir : Directory) (name : List ℕ) (path : Option (List ℕ)) (d : Directory) → inline_directory dir name path ≡ Some d → dir.depth ≤ d.depth
inline_deeper dir name path d e = let deep = child_deeper dir (inline_path dir name path) false d e in omega (arith, deep.1)

pub inline_opened : (env : Environment) (finished : Maps) (site : Site) (head : Head) (name : List ℕ) (items : KeptForest) (old new : Core) (inside : List Task)
    → is_enabled head.attributes ≡ true
    → new ≡ opened finished old site head name (inline_origin site.tree head.id) → inside ≡ visits_inside old.map site head
    (inline_directory site.dir name (path_of head)) items
    → Handles env finished old new (visit site (holder head (inline_module name) items)) inside
inline_opened env finished site head name items old new inside enabled is same = record {
  step = λ done passed rest.
      made (opens_module site head name items rest) (record { done = done; next = refl; enabled = enabled; passed = passed }) tt tt
      (rw (is, same) (opened_after finished old site head name (inline_origin site.tree head.id)
      (visits (behind (visit site (holder head (inline_module name) items)) done) ∷ rest)
      (visits_inside old.map site head (inline_directory site.dir name (path_of head)) items ++ rest)));
}

-- ---- what comes next

module _ (tables : TablesValue) (w : Workspace) (finished : Maps) (site : Site) (head : Head) (name : List ℕ) (declaring : Option (List ℕ)) (candidates : List Candidate) (old mid new : Core)
    (tried : candidates ≡ candidates_of site.dir name (path_of head)) (written : (grown : TablesValue) → KeepsTables tables grown
    → IsNumberOf grown site.file declaring)
    (enabled : is_enabled head.attributes ≡ true) (file : ModuleFile) (source : SourceTreeValue) (tree_is : file.tree ≡ source.tree)
    (finds : Finds tables w declaring candidates old mid (Some file)) where
  same_map : mid.map ≡ old.map
  same_map = ap (λ (c : Core). c.map) finds.asked

  pub taken_ok : (inside : Inside) → TakesFile finished site head name file source mid new inside
      → OnceGrown tables w (λ env. (items : List KeptItem) → Handles env finished old new (visit site (leaf head (outline_module name)))
      (tasks_of site.home items inside))
  taken_ok Nothing takes =
      λ grown kept items. file_dropped tables w finished site head name declaring candidates old mid tried written enabled file new finds takes grown kept
  taken_ok (Held inner ids marked) takes = absurd takes
  taken_ok (File inner held marked) takes = λ grown kept items.
      let opens : Handles (environment grown w) finished old new (visit site (leaf head (outline_module name))) (visits_in_file old.map site head file) =
      file_opened tables w finished site head name declaring candidates old mid tried written enabled file new finds takes.0 grown kept in
      let inner_is : inside_file old.map file ≡ inner = ap (λ (m : Map). inside_file m file) (sym same_map) ∙ sym takes.1 in
      let tree_same : file.tree ≡ held.value.tree = tree_is ∙ ap (λ (s : SourceTreeValue). s.tree) (sym takes.2) in
      subst (λ (b : Bool). Handles (environment grown w) finished old new (visit site (leaf head (outline_module name)))
      (visits_over inner held.value.tree.items ++ closing b site.home inner.home)) (sym takes.3)
      (subst (λ (s : Site). Handles (environment grown w) finished old new (visit site (leaf head (outline_module name)))
      (visits_over s held.value.tree.items ++ closing (is_macro_use head.attributes || is_macro_use file.tree.attributes) site.home s.home)) inner_is
      (subst (λ (t : Tree). Handles (environment grown w) finished old new (visit site (leaf head (outline_module name)))
      (visits_over (inside_file old.map file) t.items ++ closing (is_macro_use head.attributes || is_macro_use file.tree.attributes) site.home
      (length old.map.modules))) tree_same opens))

  pub taken_within : IsHeld tables w old.map.id.krate (file_tree old.map.crate_data.edition file.id) source → (inside : Inside) → TakesFile finished site head
      name file source mid new inside
      → GoesInside tables (length new.map.modules) site [] inside
  taken_within held Nothing takes = tt
  taken_within held (Held inner ids marked) takes = absurd takes
  taken_within held (File inner kept marked) takes =
      let deep = found_deeper tables w declaring candidates old mid file site.dir name (path_of head) finds tried in
      let inner_is : inner ≡ inside_file old.map file = takes.1 ∙ ap (λ (m : Map). inside_file m file) same_map in
      let meant_there : IsMeantAt tables (inside_file old.map file) =
      record {
        tree = held_meant tables w old.map.id.krate (file_tree old.map.crate_data.edition file.id) source held;
        file = file_meant tables w old.map.id.krate old.map.crate_data.edition file.id source held;
      } in
      let longer : length mid.map.modules < length new.map.modules = opened_longer finished mid new site head name _ takes.0.is in
      let there : length old.map.modules < length new.map.modules = subst (λ (m : Map). length m.modules < length new.map.modules) same_map longer in
      record {
        there = subst (λ (s : Site). s.home < length new.map.modules) (sym inner_is) there;
        meant = subst (IsMeantAt tables) (sym inner_is) meant_there;
        above = deep.0;
        deeper = ap (λ (s : Site). s.dir.depth) inner_is ∙ deep.1;
      }
