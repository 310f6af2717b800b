-- Which file is that of an outline module, and which files does a run look at to find it?
use Rattle.std.specs.Prelude.{◌≡◌, IsSome, is_some, Bool, true, false, ℕ, List, [], ◌∷◌, ◌++◌, Option, None, Some, map, option_map, if◌then◌else◌, codes, ◌<◌}
use Rattle.std.specs.Prelude.{slice_get}
use Rattle.std.specs.Option.{option_and_then, option_map_or, option_to_list}
use Rattle.hir_nameres.specs.HirIds.declared.ast_id.BlockId.{BlockId}
use Rattle.hir_nameres.specs.HirIds.declared.ids.Crate.{Crate}
use Rattle.hir_nameres.specs.HirIds.declared.edition.Edition.{Edition}
use Rattle.hir_nameres.specs.HirIds.declared.ast_id.FileId.{FileId}
use Rattle.hir_nameres.specs.HirIds.declared.ast_id.HirFileId.{HirFileId}
use Rattle.hir_nameres.specs.HirIds.declared.ast_id.HirFileId.TheVariants.{File, Macro}
use Rattle.hir_item_tree.specs.Attributes.{Input, literal, parentheses}
use Rattle.hir_item_tree.specs.Collected.{Numbered}
use Rattle.hir_item_tree.specs.ItemTree.{Tree}
use Rattle.hir_nameres.specs.HirBase.declared.tree_id.TreeId.{TreeId}
use Rattle.hir_nameres.specs.HirBase.declared.tree_id.TreeKey.{TreeKey}
use Rattle.hir_mod_dir.specs.Directory.{Directory}
use Rattle.hir_mod_dir.specs.ModuleFiles.{file_beside}
use Rattle.hir_mod_dir.specs.declared.candidate.Candidate.{Candidate}
use Rattle.hir_tables.specs.SourcePlaces.{file as file_place}
use Rattle.hir_tables.specs.Tables.{TablesValue, file_at}
use Rattle.hir_collector_rules.specs.declared.source_database.Key.{Key}
use Rattle.hir_collector_rules.specs.declared.source_database.Key.TheVariants as keys
use Rattle.hir_collector_rules.specs.CrateTop.{is_keyed}
use Rattle.hir_collector_rules.specs.Keys.{Look, of_tree}
use Rattle.hir_collector_rules.specs.Workspace.{TreeLook, Workspace}

-- ---- the `path` attribute

abbrev pub literal_of : Option Input → Option (List ℕ)
literal_of None = None
literal_of (Some (literal text)) = Some text
literal_of (Some (parentheses inner)) = None

abbrev pub first_or : Option (List ℕ) → Option (List ℕ) → Option (List ℕ)
first_or (Some text) later = Some text
first_or None later = later

-- what an attribute says of the file of a module
abbrev pub path_in : Numbered → Option (List ℕ)
path_in a = if is_keyed (codes "path") a then literal_of a.meta.input else None

-- what the first `path` attribute that gives a literal says
abbrev pub path_attribute : List Numbered → Option (List ℕ)
path_attribute [] = None
path_attribute (a ∷ rest) = first_or (path_in a) (path_attribute rest)

-- ---- numbers of files

-- the file that a tree is of, or in which its block is written; none of what a call expands to
abbrev pub own_file : HirFileId → Option BlockId → Option FileId
own_file (File f) block = Some f.file_id
own_file (Macro call) block = None

abbrev pub file_of_tree : TreeId → Option FileId
file_of_tree tree = own_file tree.file tree.block

-- the tree of a file that is read in an edition, and its key under a crate
abbrev pub file_tree : Edition → FileId → TreeId
file_tree edition id = record { file = File (record { file_id = id; edition = edition }); block = None }

abbrev pub file_key : Crate → Edition → FileId → TreeKey
file_key krate edition id = record { krate = krate; id = file_tree edition id }

-- the number is that of the path, or there is neither
abbrev pub IsNumberOf : TablesValue → Option FileId → Option (List ℕ) → Type 0
IsNumberOf tables None None = Unit {0}
IsNumberOf tables None (Some path) = ⊥
IsNumberOf tables (Some id) None = ⊥
IsNumberOf tables (Some id) (Some path) = file_at tables id ≡ Some path

-- the number of a file means something, if there is one
abbrev pub IsFileMeant : TablesValue → Option FileId → Type 0
IsFileMeant tables file = (id : FileId) → file ≡ Some id → IsSome (file_at tables id)

-- whether it does
abbrev pub is_file_meant : TablesValue → Option FileId → Bool
is_file_meant tables None = true
is_file_meant tables (Some id) = is_some (file_at tables id)

-- ---- a search

-- the file of a candidate: its number, and what is there
pub record LookedAt : Type 0 where
  pub id : FileId
  pub there : TreeLook

-- a candidate, and the file that it names; none where it leads past the root
pub record Tried : Type 0 where
  pub candidate : Candidate
  pub file : Option LookedAt

-- how the file of a module was looked for
pub record Search : Type 0 where
  -- the file in which the module is declared
  pub declaring : Option (List ℕ)
  -- the candidates that aren't there, in order
  pub absent : List Tried
  -- the first that is there
  pub found : Option Tried

abbrev pub tried_in : Search → List Tried
tried_in s = s.absent ++ option_to_list s.found

-- whether a candidate's file is there
abbrev pub is_there : Tried → Bool
is_there t = option_map_or (λ (f : LookedAt). f.there.present) t.file false

abbrev pub AreAbsent : List Tried → Type 0
AreAbsent [] = Unit {0}
AreAbsent (t ∷ ts) = (is_there t ≡ false) × AreAbsent ts

abbrev pub IsThere : Option Tried → Type 0
IsThere None = Unit {0}
IsThere (Some t) = is_there t ≡ true

-- the candidates were tried in order, up to one that was found, or else all
abbrev pub AreTried : List Candidate → List Tried → Option Tried → Type 0
AreTried candidates absent None = candidates ≡ map (λ (t : Tried). t.candidate) absent
AreTried candidates absent (Some t) = (later : List Candidate) × (candidates ≡ map (λ (t : Tried). t.candidate) absent ++ t.candidate ∷ later)

-- the candidates are tried up to the first that is there
pub record IsSearch (candidates : List Candidate) (s : Search) : Type 0 where
  pub in_order : AreTried candidates s.absent s.found
  pub absent : AreAbsent s.absent
  pub found : IsThere s.found

-- the file that a candidate names, as seen from the file that declares the module
abbrev pub named_by : Option (List ℕ) → Candidate → Option (List ℕ)
named_by declaring c = option_and_then (λ file. file_beside file c.text) declaring

-- none of the candidates before this place is there
abbrev pub NoneIsThereBefore : Workspace → Crate → Option (List ℕ) → List Candidate → ℕ → Type 0
NoneIsThereBefore w krate declaring candidates place = (m : ℕ) (c : Candidate) → m < place → slice_get candidates m ≡ Some c
    → option_map_or (λ path. (w.tree krate (file_place path)).present) (named_by declaring c) false ≡ false

-- the path is that of a candidate's file, and no candidate before it is there
pub record IsTriedFile (w : Workspace) (krate : Crate) (declaring : Option (List ℕ)) (candidates : List Candidate) (path : List ℕ) : Type 0 where
  pub place : ℕ
  pub candidate : Candidate
  pub is_candidate : slice_get candidates place ≡ Some candidate
  pub names : named_by declaring candidate ≡ Some path
  pub earlier : NoneIsThereBefore w krate declaring candidates place

abbrev pub AreNumbered : TablesValue → Option (List ℕ) → List Tried → Type 0
AreNumbered tables declaring [] = Unit {0}
AreNumbered tables declaring (t ∷ ts) =
    IsNumberOf tables (option_map (λ (f : LookedAt). f.id) t.file) (named_by declaring t.candidate) × AreNumbered tables declaring ts

-- the numbers of a search for a module that this file declares mean what they are taken for
pub record IsNumbered (tables : TablesValue) (file : Option FileId) (s : Search) : Type 0 where
  pub declaring : IsNumberOf tables file s.declaring
  pub tried : AreNumbered tables s.declaring (tried_in s)

-- ---- what is read

-- a key, and what is there
pub record Reading : Type 0 where
  pub key : Key
  pub there : Look

abbrev pub file_reading : Crate → Edition → Option LookedAt → List Reading
file_reading krate edition None = []
file_reading krate edition (Some f) = record { key = keys.Tree (file_key krate edition f.id); there = of_tree f.there } ∷ []

abbrev pub file_readings : Crate → Edition → List Tried → List Reading
file_readings krate edition [] = []
file_readings krate edition (t ∷ ts) = file_reading krate edition t.file ++ file_readings krate edition ts

-- ---- what is found

-- the file of a module: its number, whether it is a `mod.rs`, the directory of the module's submodules, and what it keeps
pub record ModuleFile : Type 0 where
  pub id : FileId
  pub is_mod_rs : Bool
  pub dir : Directory
  pub tree : Tree

abbrev pub taken_by : Option Directory → Bool → Option LookedAt → Option ModuleFile
taken_by None is_mod_rs file = None
taken_by (Some dir) is_mod_rs None = None
taken_by (Some dir) is_mod_rs (Some f) = Some (record { id = f.id; is_mod_rs = is_mod_rs; dir = dir; tree = f.there.tree })

-- the file that is found is the module's, unless the module is too deep
abbrev pub module_file : Option Tried → Option ModuleFile
module_file None = None
module_file (Some t) = taken_by t.candidate.dir t.candidate.is_mod_rs t.file
