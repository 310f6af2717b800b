-- Each import and each call of a run is written in a tree that was asked for.
use Rattle.std.proofs.Common.{◌≡◌, ◌∙◌, ◌<◌, ◌||◌, ◌+◌, ℕ, zero, suc, slice_get, List, [], ◌∷◌, ◌++◌, length, Bool, true, false, is_some, Option, None, Some}
use Rattle.std.proofs.Common.{map as list_map, inl, inr, refl, sym, ap, subst, arith, append_assoc, Contains}
use Rattle.std.proofs.lemmas.List.Elements.{Contains-append_cases, Contains-append_left, Contains-append_right}
use Rattle.hir_collector_rules.specs.HirBase.ModPath.{Path}
use Rattle.hir_collector_rules.specs.HirIds.declared.ids.AdtId.{AdtId}
use Rattle.hir_collector_rules.specs.HirIds.declared.ast_id.AstId.{AstId}
use Rattle.hir_collector_rules.specs.HirIds.declared.ast_id.AttrId.{AttrId}
use Rattle.hir_collector_rules.specs.HirIds.declared.ast_id.BlockId.{BlockId}
use Rattle.hir_collector_rules.specs.HirIds.declared.ids.Crate.{Crate}
use Rattle.hir_collector_rules.specs.HirIds.declared.macro_kind.MacroId.{MacroId}
use Rattle.hir_collector_rules.specs.HirIds.declared.ids.MapId.{MapId}
use Rattle.hir_collector_rules.specs.HirIds.declared.ids.ModuleId.{ModuleId}
use Rattle.hir_collector_rules.specs.HirIds.declared.ids.UseId.{UseId}
use Rattle.hir_collector_rules.specs.HirItemTree.Collected.{Numbered, is_enabled}
use Rattle.hir_collector_rules.specs.HirItemTree.Imports.{imports_of}
use Rattle.hir_collector_rules.specs.HirItemTree.ItemTree.{Tree}
use Rattle.hir_collector_rules.specs.HirItemTree.KeptForest.{Head, Holder, KeptItem, KeptForest, Leaf, constant, enumeration}
use Rattle.hir_collector_rules.specs.HirItemTree.KeptForest.{extern_crate, function, holder, implementation}
use Rattle.hir_collector_rules.specs.HirItemTree.KeptForest.{import, inline_module, item, leaf, macro_call, macro_def}
use Rattle.hir_collector_rules.specs.HirItemTree.KeptForest.{macro_rules, no_items, outline_module, static_item}
use Rattle.hir_collector_rules.specs.HirItemTree.KeptForest.{structure, trait_item, type_alias, union_structure}
use Rattle.hir_collector_rules.specs.HirItemTree.Kinds.{item_head}
use Rattle.hir_collector_rules.specs.HirUseTree.UseTree.{count_of}
use Rattle.hir_collector_rules.specs.HirItemTree.UseTree.{UseTree}
use Rattle.hir_collector_rules.specs.HirBase.declared.shape.ExternCrateName.{ExternCrateName}
use Rattle.hir_collector_rules.specs.HirBase.declared.tree_id.TreeId.{TreeId}
use Rattle.hir_collector_rules.specs.HirBase.declared.tree_id.TreeKey.{TreeKey}
use Rattle.hir_collector_rules.specs.HirUseTree.declared.imports.Import.{Import}
use Rattle.hir_collector_rules.specs.HirUseTree.declared.imports.ImportAlias.{ImportAlias}
use Rattle.hir_collector_rules.specs.HirModDir.Directory.{Directory}
use Rattle.hir_collector_rules.specs.HirModDir.ModuleFiles.{inline_directory}
use Rattle.hir_collector_rules.specs.HirTables.Tables.{TablesValue}
use Rattle.hir_collector_rules.specs.HirDefMapRules.Overlay.{Maps}
use Rattle.hir_collector_rules.specs.HirDefMapRules.State.{CrateData, Map, numbered}
use Rattle.hir_collector_rules.specs.HirGlobImports.Rules.{Act, brings, copies, follows, raises}
use Rattle.hir_collector_rules.specs.HirGlobImports.View.{View}
use Rattle.hir_collector_rules.specs.HirGlobImports.Waves.{Records, widens, stays, adds}
use Rattle.hir_collector_rules.specs.HirGlobImports.declared.edge.Edge.{Edge}
use Rattle.hir_collector_rules.specs.HirImportRules.Changes.{Change as ImportChange, along, keeps_trait, pushes, records, takes}
use Rattle.hir_collector_rules.specs.HirImportRules.Directives.{glob_of}
use Rattle.hir_collector_rules.specs.HirImportRules.Rules.{Rule as ImportRule, May as MayImport, acts as import_acts, goes_along, takes_glob, takes_import}
use Rattle.hir_collector_rules.specs.HirImportRules.declared.directive.ImportDirective.{ImportDirective}
use Rattle.hir_collector_rules.specs.declared.source_database.Dependency.{Dependency}
use Rattle.hir_collector_rules.specs.declared.source_database.Key.{Key}
use Rattle.hir_collector_rules.specs.declared.macro_directive.MacroDirective.{MacroDirective}
use Rattle.hir_collector_rules.specs.declared.macro_directive.MacroDirectiveKind.{MacroDirectiveKind}
use Rattle.hir_collector_rules.specs.declared.site.Site.{Site}
use Rattle.hir_collector_rules.specs.declared.macro_directive.WaitingItem.{WaitingItem}
use Rattle.hir_collector_rules.specs.declared.macro_directive.MacroDirectiveKind.TheVariants.{Attr, Derive, FnLike}
use Rattle.hir_collector_rules.specs.declared.source_database.Key.TheVariants as keys
use Rattle.hir_collector_rules.specs.Attributes.{adt_by, adt_of, attr_id, is_always_passed, is_derive, item_node, paths_in}
use Rattle.hir_collector_rules.specs.Calls.{Expanding, call_key, call_site, call_tree, error_of, expansion_readings, item_in, item_kept, text_readings}
use Rattle.hir_collector_rules.specs.Changes.{Change, lists, makes, gives_variants, begins_paths, reaches, awaits, ends, settles, meets_eager}
use Rattle.hir_collector_rules.specs.Changes.{changes_imports, adds_textual}
use Rattle.hir_collector_rules.specs.Changes.{takes_textual, defines, describes, helps, lists_derive, notes, exports, uses_macros, tells, goes_on, act}
use Rattle.hir_collector_rules.specs.Derivation.{CollectedValue}
use Rattle.hir_collector_rules.specs.Imports.{crate_import, crate_named, reached_import}
use Rattle.hir_collector_rules.specs.Keys.{environment, tree_at}
use Rattle.hir_collector_rules.specs.Macros.{is_macro_use}
use Rattle.hir_collector_rules.specs.ModuleFiles.{ModuleFile, Search, file_key, file_tree}
use Rattle.hir_collector_rules.specs.Start.{Beginning, is_declared, krate_of, root_key, root_site, root_tree, start_of, tree_visits}
use Rattle.hir_collector_rules.specs.State.{State, Task, Visit, visits, closes, import_state, visits_over}
use Rattle.hir_collector_rules.specs.Steps.{Rule, drops_item, awaits_attribute, lists_derives, faults_derive, exports_macro, reaches_call, rests}
use Rattle.hir_collector_rules.specs.Steps.{expands_call, meets_macro}
use Rattle.hir_collector_rules.specs.Steps.{drops_call, drops_reached, derives_builtin, skips_attribute, falls_back, defines_rules, defines_macro}
use Rattle.hir_collector_rules.specs.Steps.{closes_module, closing, declares_item, declares_enum, lists_constant, lists_impl, opens_module, opens_file}
use Rattle.hir_collector_rules.specs.Steps.{drops_file, misses_file, enters_block, reaches_imports, reaches_crate, resolves_imports, HasAttribute, IsItemOf}
use Rattle.hir_collector_rules.specs.Steps.{May, Opens, Sees, Step, Steps, acts, asking, derives_from, inside_block, inside_file, inside_module, keys_read}
use Rattle.hir_collector_rules.specs.Steps.{more, none, path_of, reads, search_readings, visits_in_file, visits_inside}
use Rattle.hir_collector_rules.specs.Workspace.{TreeLook, Workspace, dependencies_in}
use Rattle.hir_collector_rules.proofs.Asks.{only, still_asked-Step}
use Rattle.hir_collector_rules.proofs.Changes.{AllFine, Keeps, Keeps-act, asked-Step, fine_bringing, fine_expanding, fine_macro, fine_reporting, perform_keeps}
use Rattle.hir_collector_rules.proofs.ImportEdits.{imports_after}
use Rattle.hir_collector_rules.proofs.ModuleFiles.{found_read}
use Rattle.hir_def_collector_laws.specs.Calls.{HasAttributeAt, IsCall, IsCallBy}
use Rattle.hir_def_collector_laws.specs.Imports.{IsImport}
use Rattle.hir_def_collector_laws.specs.Written.{IsIn, IsWritten, behind, first, inside}
use Rattle.hir_def_collector_laws.proofs.Found.{expansion_read, expansion_seen, found_seen}
use Rattle.hir_def_collector_laws.proofs.Lists.{at_first, later, replaced, standing}
use Rattle.hir_def_collector_laws.proofs.Passed.{IsLookedUp, looked_up, not_always}

-- ---- which struct, enum or union an item is doesn't hang on more than the map's id

same_adt_by : (m n : Map) → m.id ≡ n.id → (s : Site) (h : Head) (l : Leaf) → adt_by m s h l ≡ adt_by n s h l
same_adt_by m n e s h (structure name shape fields) = ap (λ (x : MapId). adt_by (record m { id = x }) s h (structure name shape fields)) e
same_adt_by m n e s h (union_structure name fields) = ap (λ (x : MapId). adt_by (record m { id = x }) s h (union_structure name fields)) e
same_adt_by m n e s h (enumeration name) = ap (λ (x : MapId). adt_by (record m { id = x }) s h (enumeration name)) e
same_adt_by m n e s h other = refl

same_adt : (m n : Map) → m.id ≡ n.id → (s : Site) (i : KeptItem) → adt_of m s i ≡ adt_of n s i
same_adt m n e s (leaf head l) = same_adt_by m n e s head l
same_adt m n e s (holder head k items) = refl

-- ---- items in items

deeper : {head : Head} {kind : Holder} {items : KeptForest} {i : KeptItem} → is_enabled head.attributes ≡ true → IsIn i items → (all : KeptForest)
    → IsIn (holder head kind items) all → IsIn i all
deeper {head = head} {kind = kind} {items = items} on p all (first others) = inside head kind items others on p
deeper on p all (behind before others q) = behind before others (deeper on p others q)
deeper on p all (inside h k is others e q) = inside h k is others e (deeper on p is q)

module _ (tables : TablesValue) (w : Workspace) (from : Beginning) (answer : CollectedValue) where
  abbrev own : MapId
  own = answer.map.id

  abbrev key_in : MapId → TreeId → TreeKey
  key_in id tree = record { krate = id.krate; id = tree }

  abbrev Placed : MapId → TreeId → KeptItem → Type 0
  Placed id tree i = IsWritten tables w answer.asked (key_in id tree) i

  -- each visit is of an item that is written in its tree
  abbrev pub ArePlaced : List Task → Type 0
  ArePlaced [] = Unit {0}
  ArePlaced (visits v ∷ ts) = Placed own v.site.tree v.item × ArePlaced ts
  ArePlaced (closes parent child ∷ ts) = ArePlaced ts

  -- each import is written
  abbrev pub AreImports : List ImportDirective → Type 0
  AreImports [] = Unit {0}
  AreImports (r ∷ rs) = IsImport tables w from answer r × AreImports rs

  -- an import that is a glob of this id into this module
  pub record IsOfGlob (imports : List ImportDirective) (edge : Edge) : Type 0 where
    pub directive : ImportDirective
    pub among : Contains imports directive
    pub is_glob : glob_of directive.source ≡ Some edge.id
    pub into : directive.home ≡ edge.importer

  abbrev pub AreOfGlobs : List ImportDirective → List Edge → Type 0
  AreOfGlobs imports edges = (edge : Edge) → Contains edges edge → IsOfGlob imports edge

  -- each call is written
  abbrev pub AreCalls : List MacroDirective → Type 0
  AreCalls [] = Unit {0}
  AreCalls (d ∷ ds) = IsCall tables w answer d × AreCalls ds

  pub record IsAllWritten (s : State) : Type 0 where
    pub id : s.core.map.id ≡ own
    pub crate_data : s.core.map.crate_data ≡ answer.map.crate_data
    pub dependencies : s.core.dependencies ≡ dependencies_in w (krate_of from.start)
    pub visits : ArePlaced s.agenda
    pub imports : AreImports s.core.reached
    pub calls : AreCalls s.core.calls
    pub globs : AreOfGlobs s.core.reached s.core.globs.edges

  -- ---- lists

  placed_before : (s : Site) (is : KeptForest) (rest : List Task) → ((i : KeptItem) → IsIn i is → Placed own s.tree i) → ArePlaced rest
      → ArePlaced (visits_over s is ++ rest)
  placed_before s no_items rest all f = f
  placed_before s (item i is) rest all f = (all i (first is), placed_before s is rest (λ j h. all j (behind i is h)) f)

  placed_visits : (s : Site) (is : KeptForest) → ((i : KeptItem) → IsIn i is → Placed own s.tree i) → ArePlaced (visits_over s is)
  placed_visits s no_items all = tt
  placed_visits s (item i is) all = (all i (first is), placed_visits s is (λ j h. all j (behind i is h)))

  pub placed_next : (ts : List Task) (v : Visit) (rest : List Task) → ArePlaced ts → ts ≡ visits v ∷ rest → Placed own v.site.tree v.item × ArePlaced rest
  placed_next ts v rest f e = subst ArePlaced e f

  -- a module that is closed comes before others, and visits of one site before it
  placed_closing : (marked : Bool) (parent child : ℕ) (rest : List Task) → ArePlaced rest → ArePlaced (closing marked parent child ++ rest)
  placed_closing true parent child rest f = f
  placed_closing false parent child rest f = f

  placed_closed : (s : Site) (is : KeptForest) (marked : Bool) (parent child : ℕ) (rest : List Task) → ((i : KeptItem) → IsIn i is → Placed own s.tree i)
      → ArePlaced rest
      → ArePlaced ((visits_over s is ++ closing marked parent child) ++ rest)
  placed_closed s is marked parent child rest all f =
      subst ArePlaced (sym (append_assoc (visits_over s is) (closing marked parent child) rest))
      (placed_before s is (closing marked parent child ++ rest) all (placed_closing marked parent child rest f))

  placed_inside : {head : Head} {kind : Holder} {items : KeptForest} (tree : TreeId) → is_enabled head.attributes ≡ true
      → Placed own tree (holder head kind items) → (i : KeptItem) → IsIn i items → Placed own tree i
  placed_inside tree on p i h = record { key_asked = p.key_asked; top = p.top; within = deeper on h (tree_at tables w (key_in own tree)).tree.items p.within }

  imports_joined : (rs ts : List ImportDirective) → AreImports rs → AreImports ts → AreImports (rs ++ ts)
  imports_joined [] ts f g = g
  imports_joined (r ∷ rs) ts f g = (f.0, imports_joined rs ts f.1 g)

  pub import_among : (rs : List ImportDirective) (r : ImportDirective) → AreImports rs → Contains rs r → IsImport tables w from answer r
  import_among [] r f (n, below, is) = absurd (omega arith)
  import_among (x ∷ xs) r f (zero, below, is) = subst (λ (y : ImportDirective). IsImport tables w from answer y) is f.0
  import_among (x ∷ xs) r f (suc n, below, is) = import_among xs r f.1 (n, omega (arith, below), is)

  calls_joined : (ds es : List MacroDirective) → AreCalls ds → AreCalls es → AreCalls (ds ++ es)
  calls_joined [] es f g = g
  calls_joined (d ∷ ds) es f g = (f.0, calls_joined ds es f.1 g)

  pub call_among : (ds : List MacroDirective) (d : MacroDirective) → AreCalls ds → Contains ds d → IsCall tables w answer d
  call_among [] d f (n, below, is) = absurd (omega arith)
  call_among (x ∷ xs) d f (zero, below, is) = subst (λ (y : MacroDirective). IsCall tables w answer y) is f.0
  call_among (x ∷ xs) d f (suc n, below, is) = call_among xs d f.1 (n, omega (arith, below), is)

  -- ---- imports of one item

  module _ (site : Site) (head : Head) (on : is_enabled head.attributes ≡ true) where
    abbrev use_in : MapId → UseId
    use_in id = record { loc = record { container = numbered id site.home; file_id = site.tree.file; block = site.tree.block; id = head.id } }

    leaves : (tree : UseTree) → Placed own site.tree (leaf head (import tree)) → (is : List Import)
        → ((i : Import) → Contains is i → Contains (imports_of tree) i)
        → AreImports (list_map (reached_import site.home (use_in own) head.visibility) is)
    leaves tree p [] all = tt
    leaves tree p (i ∷ is) all = (
      record {
        of_source = record {
          head = head;
          tree = tree;
          written = p;
          enabled = on;
          node = refl;
          module_is = refl;
          written_import = i;
          is_leaf = all i (at_first i is);
          place = refl;
          kind_is = refl;
          path = refl;
          alias = refl;
          visibility = refl;
        };
      },
      leaves tree p is (λ j h. all j (later i is j h)),
    )

    all_leaves : (id : MapId) → id ≡ own → (tree : UseTree) → Placed own site.tree (leaf head (import tree))
        → AreImports (list_map (reached_import site.home (use_in id) head.visibility) (imports_of tree))
    all_leaves id e tree p =
        subst (λ (x : MapId). AreImports (list_map (reached_import site.home (use_in x) head.visibility) (imports_of tree))) (sym e)
        (leaves tree p (imports_of tree) (λ i h. h))

    one_crate : (m : Map) → m.id ≡ own → own.krate ≡ krate_of from.start → (name : ExternCrateName) (alias : Option ImportAlias)
        → Placed own site.tree (leaf head (extern_crate name alias))
        → (dependencies : List Dependency) → dependencies ≡ dependencies_in w (krate_of from.start) → IsImport tables w from answer
        (crate_import m dependencies site head name alias)
    one_crate m e here name alias p dependencies same =
        subst (λ (id : MapId). IsImport tables w from answer (crate_import (record m { id = id }) dependencies site head name alias)) (sym e) (record {
          of_source = record {
            head = head;
            name = name;
            written = p;
            enabled = on;
            node = refl;
            module_is = refl;
            path = refl;
            visibility = refl;
            names =
                ap (λ (k : Crate). crate_named k (dependencies_in w (krate_of from.start)) name) (sym here) ∙ ap
                (λ (ds : List Dependency). crate_named own.krate ds name) (sym same);
          };
        })

  -- ---- derives of one item

  -- each path that a derive lists is at its place
  derives_written : (site : Site) (node : AstId) (id : AttrId) (adt : AdtId) (i : KeptItem) (a : Numbered) → HasAttributeAt tables w answer site node id i a
      → is_derive a ≡ true
      → adt_of answer.map site i ≡ Some adt → (paths : List Path) → paths_in a.meta.input ≡ Some paths → (index place : ℕ) → index ≡ count_of place
      → (left : List Path)
      → ((n : ℕ) (path : Path) → slice_get left n ≡ Some path → slice_get paths (place + n) ≡ Some path) → AreCalls (derives_from site node id adt index left)
  derives_written site node id adt i a at derives target paths listed index place counted [] all = tt
  derives_written site node id adt i a at derives target paths listed index place counted (path ∷ left) all = (
    record {
      by = record {
        item = i;
        attribute = a;
        at = at;
        derives = derives;
        target = target;
        paths = paths;
        lists = listed;
        place = place;
        path_is = subst (λ (n : ℕ). slice_get paths n ≡ Some path) (omega arith) (all 0 path refl);
        index_is = counted;
      };
    },
    derives_written site node id adt i a at derives target paths listed (count_of (index + 1)) (place + 1) (omega (arith, counted)) left
        (λ n p e. subst (λ (k : ℕ). slice_get paths k ≡ Some p) (omega arith) (all (suc n) p e)),
  )

  -- ---- changes

  -- what comes next and what is found is written
  abbrev IsFineImport : State → ImportChange → Type 0
  IsFineImport s (records edges) = AreOfGlobs s.core.reached edges
  IsFineImport s other = Unit {0}

  abbrev IsFine : State → Change → Type 0
  IsFine s (reaches rs) = AreImports rs
  IsFine s (awaits calls) = AreCalls calls
  IsFine s (changes_imports c) = IsFineImport s c
  IsFine s (goes_on vs) = ArePlaced vs
  IsFine s other = Unit {0}

  more_imports : (rs ts : List ImportDirective) (edges : List Edge) → AreOfGlobs rs edges → AreOfGlobs (rs ++ ts) edges
  more_imports rs ts edges f edge h =
      let g : IsOfGlob rs edge = f edge h in
      record { directive = g.directive; among = Contains-append_left rs ts g.directive g.among; is_glob = g.is_glob; into = g.into }

  -- a change of what isn't spoken of here
  same_but : (s t : State) → Keeps s t → t.agenda ≡ s.agenda → t.core.reached ≡ s.core.reached → t.core.globs.edges ≡ s.core.globs.edges → t.core.calls
      ≡ s.core.calls → IsAllWritten s → IsAllWritten t
  same_but s t keeps agenda reached edges calls f = record {
    id = keeps.id ∙ f.id;
    crate_data = keeps.crate_data ∙ f.crate_data;
    dependencies = keeps.dependencies ∙ f.dependencies;
    visits = subst ArePlaced (sym agenda) f.visits;
    imports = subst AreImports (sym reached) f.imports;
    calls = subst AreCalls (sym calls) f.calls;
    globs = subst (λ (rs : List ImportDirective). AreOfGlobs rs t.core.globs.edges) (sym reached) (subst (AreOfGlobs s.core.reached) (sym edges) f.globs);
  }

  written-imports : (s : State) (c : ImportChange) → IsAllWritten s → IsFineImport s c → IsAllWritten (act s (changes_imports c))
  written-imports s (pushes home None items source) f fine = same_but s _ (Keeps-act s (changes_imports (pushes home None items source))) refl refl refl refl f
  written-imports s (pushes home (Some name) items source) f fine =
      same_but s _ (Keeps-act s (changes_imports (pushes home (Some name) items source))) refl refl refl refl f
  written-imports s (keeps_trait finished home None vis by) f fine =
      same_but s _ (Keeps-act s (changes_imports (keeps_trait finished home None vis by))) refl refl refl refl f
  written-imports s (keeps_trait finished home (Some id) vis by) f fine =
      same_but s _ (Keeps-act s (changes_imports (keeps_trait finished home (Some id) vis by))) refl refl refl refl f
  written-imports s (takes i t) f fine = same_but s _ (Keeps-act s (changes_imports (takes i t))) refl refl refl refl f
  written-imports s (records edges) f fine =
      let keeps : Keeps s (act s (changes_imports (records edges))) = Keeps-act s (changes_imports (records edges)) in
      record {
        id = keeps.id ∙ f.id;
        crate_data = keeps.crate_data ∙ f.crate_data;
        dependencies = keeps.dependencies ∙ f.dependencies;
        visits = f.visits;
        imports = f.imports;
        calls = f.calls;
        globs = fine;
      }
  written-imports s (along finished a) f fine =
      same_but s _ (Keeps-act s (changes_imports (along finished a))) refl (imports_after (import_state s) (along finished a)) (edges_along finished a) refl f
    where
      edges_along : (finished : Maps) (a : Act) → (act s (changes_imports (along finished a))).core.globs.edges ≡ s.core.globs.edges
      edges_along finished (copies slot of vis by) = refl
      edges_along finished (brings slot by) = refl
      edges_along finished (follows slot of vis) = refl
      edges_along finished (raises slot vis) = refl

  written-act : (s : State) (c : Change) → IsAllWritten s → IsFine s c → IsAllWritten (act s c)
  written-act s (lists home d) f fine = same_but s _ (Keeps-act s (lists home d)) refl refl refl refl f
  written-act s (makes home name origin visibility) f fine = same_but s _ (Keeps-act s (makes home name origin visibility)) refl refl refl refl f
  written-act s (gives_variants id variants) f fine = same_but s _ (Keeps-act s (gives_variants id variants)) refl refl refl refl f
  written-act s (begins_paths r) f fine = same_but s _ (Keeps-act s (begins_paths r)) refl refl refl refl f
  written-act s (reaches rs) f fine = record {
    id = f.id;
    crate_data = f.crate_data;
    dependencies = f.dependencies;
    visits = f.visits;
    imports = imports_joined s.core.reached rs f.imports fine;
    calls = f.calls;
    globs = more_imports s.core.reached rs s.core.globs.edges f.globs;
  }
  written-act s (awaits calls) f fine = record {
    id = f.id;
    crate_data = f.crate_data;
    dependencies = f.dependencies;
    visits = f.visits;
    imports = f.imports;
    calls = calls_joined s.core.calls calls f.calls fine;
    globs = f.globs;
  }
  written-act s (ends i fate) f fine = same_but s _ (Keeps-act s (ends i fate)) refl refl refl refl f
  written-act s (meets_eager i seen) f fine = same_but s _ (Keeps-act s (meets_eager i seen)) refl refl refl refl f
  written-act s settles f fine = same_but s _ (Keeps-act s settles) refl refl refl refl f
  written-act s (changes_imports c) f fine = written-imports s c f fine
  written-act s (adds_textual home name makro) f fine = same_but s _ (Keeps-act s (adds_textual home name makro)) refl refl refl refl f
  written-act s (takes_textual home from_) f fine = same_but s _ (Keeps-act s (takes_textual home from_)) refl refl refl refl f
  written-act s (defines node makro) f fine = same_but s _ (Keeps-act s (defines node makro)) refl refl refl refl f
  written-act s (describes makro what) f fine = same_but s _ (Keeps-act s (describes makro what)) refl refl refl refl f
  written-act s (helps node helper) f fine = same_but s _ (Keeps-act s (helps node helper)) refl refl refl refl f
  written-act s (lists_derive home imp) f fine = same_but s _ (Keeps-act s (lists_derive home imp)) refl refl refl refl f
  written-act s (notes home invocation) f fine = same_but s _ (Keeps-act s (notes home invocation)) refl refl refl refl f
  written-act s (exports function_of makro) f fine = same_but s _ (Keeps-act s (exports function_of makro)) refl refl refl refl f
  written-act s (uses_macros macros by) f fine = same_but s _ (Keeps-act s (uses_macros macros by)) refl refl refl refl f
  written-act s (tells d) f fine = same_but s _ (Keeps-act s (tells d)) refl refl refl refl f
  written-act s (goes_on vs) f fine =
      record { id = f.id; crate_data = f.crate_data; dependencies = f.dependencies; visits = fine; imports = f.imports; calls = f.calls; globs = f.globs }

  -- ---- rules

  module _ (here : own.krate ≡ krate_of from.start) (finished : Maps) (s : State) (f : IsAllWritten s) where
    -- the next item is written in its tree, and so is each that stays
    next : (v : Visit) (rest : List Task) → s.agenda ≡ visits v ∷ rest → Placed own v.site.tree v.item
    next v rest e = (placed_next s.agenda v rest f.visits e).0

    left : (v : Visit) (rest : List Task) → s.agenda ≡ visits v ∷ rest → ArePlaced rest
    left v rest e = (placed_next s.agenda v rest f.visits e).1

    -- the items of a module that is written where it is declared
    module_inside : (site : Site) (head : Head) (name : List ℕ) (items : KeptForest) (rest : List Task) (dir : Option Directory) → is_enabled head.attributes
        ≡ true
        → Placed own site.tree (holder head (inline_module name) items) → ArePlaced rest → ArePlaced (visits_inside s.core.map site head dir items ++ rest)
    module_inside site head name items rest None on p g = g
    module_inside site head name items rest (Some dir) on p g =
        placed_closed (inside_module s.core.map site dir) items (is_macro_use head.attributes) site.home (length s.core.map.modules) rest
        (placed_inside site.tree on p) g

    -- those of a file
    file_inside : (site : Site) (head : Head) (name : List ℕ) (search : Search) (file : ModuleFile) (rest : List Task) → Opens s site head name search file rest
        → Sees (environment tables w) finished (search_readings s.core.map search)
        → ((key : TreeKey) → Contains (keys_read (search_readings s.core.map search)) (keys.Tree key) → Contains answer.asked (keys.Tree key))
        → (i : KeptItem) → IsIn i file.tree.items → Placed own (file_tree s.core.map.crate_data.edition file.id) i
    file_inside site head name search file rest may sees read i h =
        let m : Map = s.core.map in
        let key : TreeKey = file_key m.id.krate m.crate_data.edition file.id in
        let is : (tree_at tables w key).tree ≡ file.tree = found_seen tables w finished m.id.krate m.crate_data.edition search.absent search.found file
        may.found sees in
        subst (λ (id : MapId). Placed id (file_tree m.crate_data.edition file.id) i) f.id
        (record {
          key_asked = read key (found_read m.id.krate m.crate_data.edition search.absent search.found file may.found);
          top = λ whole apart. subst (λ (t : Tree). is_enabled t.attributes ≡ true) (sym is) may.enabled;
          within = subst (λ (t : Tree). IsIn i t.items) (sym is) h;
        })

    -- those to which a call expands
    call_inside : (d : MacroDirective) (makro : MacroId) (x : Expanding) → Sees (environment tables w) finished
        (text_readings makro x.text ++ expansion_readings s.core.map.id.krate d x)
        → ((key : TreeKey) → Contains (keys_read (text_readings makro x.text ++ expansion_readings s.core.map.id.krate d x)) (keys.Tree key)
        → Contains answer.asked (keys.Tree key))
        → (i : KeptItem) → IsIn i x.tree.tree.items → Placed own (call_tree x.id) i
    call_inside d makro x sees read i h =
        let krate : Crate = s.core.map.id.krate in
        let is : tree_at tables w (call_key krate x.id) ≡ x.tree = expansion_seen tables w finished krate d makro x sees in
        subst (λ (id : MapId). Placed id (call_tree x.id) i) f.id
        (record {
          key_asked = read (call_key krate x.id) (expansion_read krate d makro x);
          top = λ whole apart. absurd (apart x.id refl);
          within = subst (λ (t : TreeLook). IsIn i t.tree.items) (sym is) h;
        })

    -- an attribute of the next item for which something is looked up
    attribute_there : (v : Visit) (rest : List Task) (at : ℕ) (a : Numbered) → HasAttribute s v at a rest → HasAttributeAt tables w answer v.site
        (item_node v.site v.item) (attr_id a) v.item a
    attribute_there v rest at a has =
        let found : IsLookedUp s.core.map (item_node v.site v.item) (item_head v.item).attributes.attributes v.done at a =
        looked_up s.core.map (item_node v.site v.item) (item_head v.item).attributes.attributes v.done at a has.active in
        record {
          written = next v rest has.on.next;
          enabled = has.on.enabled;
          node_is = refl;
          has = found.among;
          number = refl;
          unpassed =
              subst (λ (c : CrateData). is_always_passed c.registered_tools a ≡ false) f.crate_data
              (not_always s.core.map (item_node v.site v.item) a found.unpassed);
        }

    -- an item that waits is written where it waits
    item_placed : (d : MacroDirective) (k : WaitingItem) (waited : KeptItem) → IsItemOf d k waited → IsCall tables w answer d → Placed own d.site.tree waited
    item_placed d k waited of call = go d.kind of.waits call.by
      where
        go : (kind : MacroDirectiveKind) → item_in kind ≡ Some k → IsCallBy tables w answer d kind → Placed own d.site.tree waited
        go (FnLike path) e by = absurd (let no : ⊥ = cc in no)
        go (Derive path attr index adt) e by = absurd (let no : ⊥ = cc in no)
        go (Attr path attr other) e by =
            let same : other ≡ k = cc in
            let kept : item_kept other ≡ Some by.item = by.kept in
            let is : by.item ≡ waited = let here : item_kept other ≡ Some waited = ap item_kept same ∙ of.kept in cc in
            subst (λ (i : KeptItem). Placed own d.site.tree i) is by.at.written

    along_fine : (acts : List Act) (t : State) → AllFine IsFine t (list_map changes_imports (list_map (along finished) acts))
    along_fine [] t = tt
    along_fine (a ∷ acts) t = (tt, along_fine acts (act t (changes_imports (along finished a))))

    -- the globs that are recorded once one is
    recorded : {v : View} (new : List Edge) (e : Edge) → IsOfGlob s.core.reached e → Records v s.core.globs.edges new e → AreOfGlobs s.core.reached new
    recorded new e g (widens j d wide at apart by is) edge h =
        elim (replaced s.core.globs.edges j _ edge (subst (λ (xs : List Edge). Contains xs edge) is h)) as (λ _. IsOfGlob s.core.reached edge) [
          | inl old ↦ f.globs edge old
          | inr now ↦
              let before : IsOfGlob s.core.reached d = f.globs d (standing s.core.globs.edges j d at) in
              subst (λ (x : Edge). IsOfGlob s.core.reached x) now
              (record { directive = before.directive; among = before.among; is_glob = before.is_glob; into = before.into })
        ]
    recorded new e g (stays j d at apart by is) edge h = f.globs edge (subst (λ (xs : List Edge). Contains xs edge) is h)
    recorded new e g (adds apart is) edge h =
        elim (Contains-append_cases s.core.globs.edges (e ∷ []) edge (subst (λ (xs : List Edge). Contains xs edge) is h)) as (λ _. IsOfGlob s.core.reached edge) [
          | inl old ↦ f.globs edge old
          | inr now ↦ subst (λ (x : Edge). IsOfGlob s.core.reached x) (only e edge now) g
        ]

    imports_fine : (rule : ImportRule) → MayImport finished (import_state s) rule
        → AllFine IsFine s (list_map changes_imports (import_acts finished (import_state s) rule))
    imports_fine (takes_import i r t) may = (tt, (tt, (tt, tt)))
    imports_fine (takes_glob i r t by target edges) may = (
      tt,
      (
        recorded edges _ (record { directive = r; among = standing s.core.reached i r may.import; is_glob = may.is_glob; into = refl }) may.recorded,
        tt,
      ),
    )
    imports_fine (goes_along rule) may = along_fine _ s

    all_fine : (r : Rule) → May finished s r → Sees (environment tables w) finished (reads s r)
        → ((key : TreeKey) → Contains (keys_read (reads s r)) (keys.Tree key) → Contains answer.asked (keys.Tree key))
        → AllFine IsFine (asking s r) (acts finished s r)
    all_fine (drops_item v report rest) may sees read = (left v rest may.next, (tt, tt))
    all_fine (declares_item v d rest) may sees read = (left _ rest may.here.next, (tt, (tt, tt)))
    all_fine (declares_enum site head name found rest) may sees read = (left _ rest may.next, (tt, (tt, (tt, tt))))
    all_fine (lists_constant site head rest) may sees read = (left _ rest may.next, (tt, tt))
    all_fine (lists_impl site head of_trait rest) may sees read = (left _ rest may.next, (tt, tt))
    all_fine (opens_module site head name items rest) may sees read = (
      tt,
      (
        tt,
        (
          module_inside site head name items rest (inline_directory site.dir name (path_of head)) may.enabled (next _ rest may.next)
              (left _ rest may.next),
          (tt, (tt, tt)),
        ),
      ),
    )
    all_fine (opens_file site head name search file rest) may sees read =
        let placed : ArePlaced (visits_in_file s.core.map site head file ++ rest) =
        placed_closed (inside_file s.core.map file) file.tree.items (is_macro_use head.attributes || is_macro_use file.tree.attributes) site.home
        (length s.core.map.modules) rest
        (file_inside site head name search file rest may sees read) (left _ rest may.looks.here.next) in
        (tt, (tt, (placed, (tt, (tt, tt)))))
    all_fine (drops_file site head name search report rest) may sees read = (left _ rest may.looks.here.next, (tt, tt))
    all_fine (misses_file site head name search report rest) may sees read = (tt, (tt, (left _ rest may.looks.here.next, (tt, (tt, (tt, tt))))))
    all_fine (enters_block site head items rest) may sees read = (
      placed_before (inside_block s.core.map site head) items rest (placed_inside site.tree may.enabled (next _ rest may.next)) (left _ rest may.next),
      (tt, tt),
    )
    all_fine (reaches_imports site head tree rest) may sees read =
        (left _ rest may.next, (all_leaves site head may.enabled s.core.map.id f.id tree (next _ rest may.next), (tt, tt)))
    all_fine (reaches_crate site head name alias rest) may sees read = (
      left _ rest may.next,
      (
        tt,
        (
          tt,
          (
            (
              one_crate site head may.enabled s.core.map f.id here name alias (next _ rest may.next) s.core.dependencies
                  f.dependencies,
              tt,
            ),
            (tt, tt),
          ),
        ),
      ),
    )
    all_fine (defines_rules site head name expander helpers rest) may sees read =
        (left _ rest may.next, (tt, (tt, (tt, fine_macro IsFine _ _ expander (λ t. tt) head name _ (λ t. tt) _))))
    all_fine (defines_macro site head name expander helpers rest) may sees read =
        (left _ rest may.next, (tt, (tt, (tt, (tt, fine_reporting IsFine _ _ expander (λ t. tt) _)))))
    all_fine (closes_module parent child rest) may sees read = (subst ArePlaced may f.visits, (tt, tt))
    all_fine (awaits_attribute v a k rest) may sees read =
        let at : HasAttributeAt tables w answer v.site (item_node v.site v.item) (attr_id a) v.item a = attribute_there v rest may.at a may.has in (
          left v rest may.has.on.next,
          (
            (
              record {
                by = record {
                  item = v.item;
                  kept = may.kept;
                  attribute = a;
                  at = at;
                  looked_up = may.looked_up;
                  path_is = refl;
                };
              },
              tt,
            ),
            tt,
          ),
        )
    all_fine (lists_derives v at a adt paths call rest) may sees read =
        let here : HasAttributeAt tables w answer v.site (item_node v.site v.item) (attr_id a) v.item a = attribute_there v rest at a may.has in
        let target : adt_of answer.map v.site v.item ≡ Some adt = sym (same_adt s.core.map answer.map f.id v.site v.item) ∙ may.target in (
          (next v rest may.has.on.next, left v rest may.has.on.next),
          (
            derives_written v.site (item_node v.site v.item) (attr_id a) adt v.item a here may.derives target paths may.lists 0 0 refl paths
                (λ n path e. subst (λ (k : ℕ). slice_get paths k ≡ Some path) (omega arith) e),
            (tt, tt),
          ),
        )
    all_fine (faults_derive v at report rest) may sees read = ((next v rest may.has.on.next, left v rest may.has.on.next), (tt, tt))
    all_fine (exports_macro site head name d e rest) may sees read = (left _ rest may.here.next, (tt, (tt, (tt, (tt, (tt, (tt, tt)))))))
    all_fine (reaches_call site head path rest) may sees read = (
      left _ rest may.next,
      (
        (record { by = record { head = head; path = path; written = next _ rest may.next; enabled = may.enabled; is = refl } }, tt),
        tt,
      ),
    )
    all_fine (meets_macro i d makro x) may sees read = (tt, tt)
    all_fine rests may sees read = (tt, tt)
    all_fine (expands_call i d makro x) may sees read = (
      tt,
      (
        placed_visits (call_site d x.id) x.tree.tree.items (call_inside d makro x sees read),
        (tt, fine_expanding IsFine _ (λ t helper. tt) _ _ d (error_of x.there) (λ t text. tt) _),
      ),
    )
    all_fine (drops_call i d) may sees read = (tt, tt)
    all_fine (drops_reached i d makro) may sees read = (tt, fine_bringing IsFine _ (λ t helper. tt) _ _)
    all_fine (derives_builtin i d makro imp) may sees read = (tt, (tt, (tt, fine_bringing IsFine _ (λ t helper. tt) _ _)))
    all_fine (skips_attribute i d k waited) may sees read =
        (tt, ((item_placed d k waited may.of (call_among s.core.calls d f.calls (standing s.core.calls i d may.due.waiting.call)), tt), tt))
    all_fine (falls_back i d k waited) may sees read =
        (tt, (tt, ((item_placed d k waited may.of (call_among s.core.calls d f.calls (standing s.core.calls i d may.waiting.call)), tt), tt)))
    all_fine (resolves_imports rule) may sees read = imports_fine rule may

  -- ---- steps

  -- the trees that a state has asked for are among those of the answer
  abbrev pub AreAsked : State → Type 0
  AreAsked s = (key : Key) → Contains s.core.asked key → Contains answer.asked key

  written-Step : {finished : Maps} {old new : State} → own.krate ≡ krate_of from.start → Step (environment tables w) finished old new → AreAsked new
      → IsAllWritten old → IsAllWritten new
  written-Step {finished = finished} {old = old} here step asked f =
      let read : (key : TreeKey) → Contains (keys_read (reads old step.rule)) (keys.Tree key) → Contains answer.asked (keys.Tree key) =
      λ key h. asked (keys.Tree key) (subst (λ (ks : List Key). Contains ks (keys.Tree key)) (sym (asked-Step step))
      (Contains-append_right old.core.asked (keys_read (reads old step.rule)) (keys.Tree key) h)) in
      let begun : IsAllWritten (asking old step.rule) = record {
        id = f.id;
        crate_data = f.crate_data;
        dependencies = f.dependencies;
        visits = f.visits;
        imports = f.imports;
        calls = f.calls;
        globs = f.globs;
      } in
      let done = perform_keeps IsAllWritten IsFine written-act (acts finished old step.rule) (asking old step.rule) begun
      (all_fine here finished old f step.rule step.may step.sees read) in
      subst IsAllWritten (sym step.is) (record {
        id = done.id;
        crate_data = done.crate_data;
        dependencies = done.dependencies;
        visits = done.visits;
        imports = done.imports;
        calls = done.calls;
        globs = done.globs;
      })

  pub written-Steps : {finished : Maps} {first_state last : State} → own.krate ≡ krate_of from.start → Steps (environment tables w) finished first_state last
      → AreAsked last → IsAllWritten first_state → IsAllWritten last
  written-Steps here none asked f = f
  written-Steps here (more old new before step) asked f =
      written-Step here step asked (written-Steps here before (λ key h. asked key (still_asked-Step step key h)) f)

  -- ---- where a run begins

  pub written-start : (finished : Maps) (holders : List ModuleId) → own.krate ≡ krate_of from.start → own
      ≡ (start_of tables w finished holders from).core.map.id
      → (start_of tables w finished holders from).core.map.crate_data ≡ answer.map.crate_data → AreAsked (start_of tables w finished holders from)
      → IsAllWritten (start_of tables w finished holders from)
  written-start finished holders here same same_crate asked = record {
    id = sym same;
    crate_data = same_crate;
    dependencies = refl;
    visits = go (is_declared from.tree (root_tree tables w from)) refl;
    imports = tt;
    calls = tt;
    globs = λ edge h. absurd (no_edge edge h);
  }
    where
      no_edge : (edge : Edge) → Contains [] edge → ⊥
      no_edge edge (n, below, is) = let past : n < 0 = below in omega arith

      -- a file's tree is enabled at its top
      file_enabled : is_declared from.tree (root_tree tables w from) ≡ true → from.tree.block ≡ None → is_enabled (root_tree tables w from).attributes ≡ true
      file_enabled on whole = subst (λ (b : Option BlockId). (is_some b || is_enabled (root_tree tables w from).attributes) ≡ true) whole on

      placed : is_declared from.tree (root_tree tables w from) ≡ true → (i : KeptItem) → IsIn i (root_tree tables w from).items → Placed own from.tree i
      placed on i h =
          subst (λ (k : Crate). IsWritten tables w answer.asked (record { krate = k; id = from.tree }) i) (sym here)
          (record { key_asked = asked (root_key from.start from.tree) (0, omega arith, refl); top = λ whole apart. file_enabled on whole; within = h })

      go : (b : Bool) → is_declared from.tree (root_tree tables w from) ≡ b → ArePlaced (tree_visits (root_site from.tree) (root_tree tables w from))
      go true e = rw e (placed_visits (root_site from.tree) (root_tree tables w from).items (placed e))
      go false e = rw e tt
