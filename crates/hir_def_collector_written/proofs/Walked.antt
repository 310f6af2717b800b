-- Back over the steps of a run: what is to be visited is walked in the end, and so is what is expanded and goes on.
use Rattle.std.proofs.Common.{◌≡◌, ◌∙◌, ◌≤◌, ◌||◌, ℕ, zero, suc, Bool, false, List, [], ◌∷◌, ◌++◌, length, slice_get, Option, None, Some, map as list_map, refl}
use Rattle.std.proofs.Common.{sym, ap, subst, arith, Contains}
use Rattle.std.proofs.lemmas.List.Elements.{Contains-append_right}
use Rattle.either.specs.declared.Either.TheVariants as either
use Rattle.hir_collector_rules.specs.HirIds.declared.ast_id.AstId.{AstId}
use Rattle.hir_collector_rules.specs.HirIds.declared.ast_id.EditionedFileId.{EditionedFileId}
use Rattle.hir_collector_rules.specs.HirIds.declared.macro_kind.MacroId.{MacroId}
use Rattle.hir_collector_rules.specs.HirIds.declared.ids.MapId.{MapId}
use Rattle.hir_collector_rules.specs.HirIds.declared.ast_id.AstKind.TheVariants as nodes
use Rattle.hir_collector_rules.specs.HirBase.Cfg.{Cfg}
use Rattle.hir_collector_rules.specs.HirItemTree.Collected.{Collected, Numbered as Attribute, is_enabled, is_enabled_by}
use Rattle.hir_collector_rules.specs.HirItemTree.Imports.{imports_of}
use Rattle.hir_collector_rules.specs.HirItemTree.ItemTree.{Tree}
use Rattle.hir_collector_rules.specs.HirItemTree.Kinds.{item_head}
use Rattle.hir_collector_rules.specs.HirItemTree.KeptForest.{Head, KeptForest, KeptItem, constant, enumeration, extern_block}
use Rattle.hir_collector_rules.specs.HirItemTree.KeptForest.{extern_crate, function, holder, implementation}
use Rattle.hir_collector_rules.specs.HirItemTree.KeptForest.{import, inline_module, macro_call, macro_def, macro_rules, outline_module}
use Rattle.hir_collector_rules.specs.HirItemTree.UseTree.{UseTree}
use Rattle.hir_collector_rules.specs.HirBase.declared.shape.ExternCrateName.{ExternCrateName}
use Rattle.hir_collector_rules.specs.HirBase.declared.tree_id.TreeId.{TreeId}
use Rattle.hir_collector_rules.specs.HirBase.declared.tree_id.TreeKey.{TreeKey}
use Rattle.hir_collector_rules.specs.HirUseTree.declared.imports.ImportAlias.{ImportAlias}
use Rattle.hir_collector_rules.specs.HirModDir.Directory.{Directory}
use Rattle.hir_collector_rules.specs.HirModDir.ModuleFiles.{inline_directory}
use Rattle.hir_collector_rules.specs.HirPerNs.declared.visibility.Visibility.{Visibility}
use Rattle.hir_collector_rules.specs.HirTables.Tables.{TablesValue}
use Rattle.hir_collector_rules.specs.HirDefMapRules.Origins.{file_of}
use Rattle.hir_collector_rules.specs.HirDefMapRules.Overlay.{Maps}
use Rattle.hir_collector_rules.specs.HirDefMapRules.State.{Map, ModuleValue, module_at, new_module, numbered}
use Rattle.hir_collector_rules.specs.HirMapParts.declared.derive_helpers.DeriveHelper.{DeriveHelper}
use Rattle.hir_collector_rules.specs.HirMapParts.declared.origin.ModuleOrigin.{ModuleOrigin}
use Rattle.hir_collector_rules.specs.HirMapParts.declared.origin.ModuleOrigin.TheVariants as origins
use Rattle.hir_collector_rules.specs.HirImportRules.Changes.{Change as ImportChange}
use Rattle.hir_collector_rules.specs.HirImportRules.Rules.{acts as import_acts}
use Rattle.hir_collector_rules.specs.HirImportRules.declared.directive.ImportDirective.{ImportDirective}
use Rattle.hir_collector_rules.specs.declared.source_database.Dependency.{Dependency}
use Rattle.hir_collector_rules.specs.declared.macro_directive.Fate.{Fate}
use Rattle.hir_collector_rules.specs.declared.macro_directive.MacroDirective.{MacroDirective}
use Rattle.hir_collector_rules.specs.declared.site.Site.{Site}
use Rattle.hir_collector_rules.specs.declared.macro_directive.WaitingItem.{WaitingItem}
use Rattle.hir_collector_rules.specs.declared.macro_directive.Fate.TheVariants.{GivenUp, Handled, Waits}
use Rattle.hir_collector_rules.specs.declared.source_database.Key.TheVariants as keys
use Rattle.hir_collector_rules.specs.Attributes.{attr_id, item_node}
use Rattle.hir_collector_rules.specs.Calls.{Expanding, IsNumberedCall, call_key, call_site, error_of, expansion_readings, helpers_brought, text_readings}
use Rattle.hir_collector_rules.specs.Changes.{Change, act, adds_textual, changes_imports, defines, describes, ends, goes_on, makes, notes, perform}
use Rattle.hir_collector_rules.specs.Changes.{takes_textual, tells}
use Rattle.hir_collector_rules.specs.Invocations.{invocation_of}
use Rattle.hir_collector_rules.specs.Derivation.{CollectedValue}
use Rattle.hir_collector_rules.specs.Imports.{crate_import, imports_by, reached_import}
use Rattle.hir_collector_rules.specs.ItemIds.{macro_def_id, macro_rules_id, module_id, node_of, use_id}
use Rattle.hir_collector_rules.specs.Items.{file_origin, inline_origin, own_visibility}
use Rattle.hir_collector_rules.specs.Keys.{environment, tree_at}
use Rattle.hir_collector_rules.specs.Macros.{is_macro_use, macro_declaration}
use Rattle.hir_collector_rules.specs.ModuleFiles.{ModuleFile, file_key}
use Rattle.hir_collector_rules.specs.State.{Core, State, Task, Visit, behind, import_state, visits, visits_over}
use Rattle.hir_collector_rules.specs.Steps.{Rule, drops_item, awaits_attribute, lists_derives, faults_derive, exports_macro, reaches_call, rests}
use Rattle.hir_collector_rules.specs.Steps.{expands_call, meets_macro}
use Rattle.hir_collector_rules.specs.Steps.{drops_call, drops_reached, derives_builtin, skips_attribute, falls_back, defines_rules, defines_macro}
use Rattle.hir_collector_rules.specs.Steps.{closes_module, declares_item, declares_enum, lists_constant, lists_impl, opens_module, opens_file, drops_file}
use Rattle.hir_collector_rules.specs.Steps.{misses_file, enters_block, reaches_imports, reaches_crate, resolves_imports, HasAttribute, IsItemOf, May, Numbered}
use Rattle.hir_collector_rules.specs.Steps.{Sees, acts, after, asking, attribute_at, declaring, inside_block, inside_file, inside_module, keys_read}
use Rattle.hir_collector_rules.specs.Steps.{macro_data_of, module_declaration, path_of, reads, site_behind, visit, visits_in_file, visits_inside}
use Rattle.hir_collector_rules.specs.Workspace.{TreeLook, Workspace}
use Rattle.hir_collector_rules.proofs.Changes.{AllFine, all_fine, fine_bringing, fine_expanding, fine_macro, fine_reporting}
use Rattle.hir_def_collector_laws.specs.Declares.{IsModuleOf, site_inside}
use Rattle.hir_def_collector_laws.proofs.Found.{expansion_read, expansion_seen, found_seen}
use Rattle.hir_def_collector_laws.proofs.Lists.{at_first, later, standing}
use Rattle.hir_def_collector_laws.proofs.Listings.{Stays, StaysAt, Stays-perform, Stays-trans, expanding_agenda, macro_agenda, made_there, reporting_agenda}
use Rattle.hir_def_collector_laws.proofs.Passed.{looked_up}
use Rattle.hir_def_collector_written.specs.Walked.{AreReached, Resumes, Walks, WalksFile, WalksOne, WentOn, builtin, expanded, resumed, too_deep}
use Rattle.hir_def_collector_written.proofs.Became.{IsWell}
use Rattle.hir_def_collector_written.proofs.Walks.{AllWalk, all_walk, closed_walk, declared_walks, earlier_walks, holder_walks, items_walk, leaf_walks}
use Rattle.hir_def_collector_written.proofs.Walks.{off_walks, waits_walks}

mapped : {A B : Type 0} (f : A → B) (xs : List A) (x : A) → Contains xs x → Contains (list_map f xs) (f x)
mapped f [] x (n, below, is) = absurd (omega arith)
mapped f (y ∷ ys) x (zero, below, is) = (0, omega arith, ap f is)
mapped f (y ∷ ys) x (suc n, below, is) = later (f y) (list_map f ys) (f x) (mapped f ys x (n, omega (arith, below), is))

comes_last : {A : Type 0} (xs : List A) (x : A) → slice_get (xs ++ x ∷ []) (length xs) ≡ Some x
comes_last [] x = refl
comes_last (y ∷ ys) x = comes_last ys x

off : (c : Collected) (condition : Cfg) → c.disabled ≡ Some condition → is_enabled c ≡ false
off c condition e = ap is_enabled_by e

same_agenda : (cs : List ImportChange) (t : State) → (perform t (list_map changes_imports cs)).agenda ≡ t.agenda
same_agenda [] t = refl
same_agenda (c ∷ cs) t = same_agenda cs (act t (changes_imports c))

module _ (tables : TablesValue) (w : Workspace) (answer : CollectedValue) (last : Core) where
  -- what came of the call at a place, where it has this fate in the end
  abbrev pub BecameOf : Fate → ℕ → Type 0
  BecameOf Waits i = Unit {0}
  BecameOf Handled i = (d : MacroDirective) → slice_get last.calls i ≡ Some d → WentOn tables w answer last d
  BecameOf GivenUp i = (d : MacroDirective) → slice_get last.calls i ≡ Some d → Resumes answer last d

  -- if the module of a number is that of a file, the file's items are walked
  abbrev pub HasWalked : ℕ → Type 0
  HasWalked number =
      (v : ModuleValue) → module_at answer.map number ≡ Some v → (is_mod_rs : Bool) (declaration : AstId) (declared_in : TreeId) (file : EditionedFileId)
      → v.origin ≡ origins.File is_mod_rs declaration declared_in file → WalksFile tables w answer last number file

  module _ (finished : Maps) (s : State) (own : s.core.map.id ≡ answer.map.id) (crates : s.core.dependencies ≡ last.dependencies) where
    abbrev m : Map
    m = s.core.map

    abbrev count : ℕ
    count = length s.core.map.modules

    abbrev Walk : List Task → Type 0
    Walk vs = AllWalk answer last vs

    at_next : {vs ws : List Task} → vs ≡ ws → Walk ws → Walk vs
    at_next e f = subst Walk (sym e) f

    -- ---- modules

    -- the module that is made
    made_module : (t : State) (home : ℕ) (name : List ℕ) (origin : ModuleOrigin) (vis : Visibility) (cs : List Change) → t.core.map.id ≡ answer.map.id
        → Stays (perform (act t (makes home name origin vis)) cs).core.map answer.map → (site : Site) → site.home ≡ home
        → IsModuleOf answer.map site origin (length t.core.map.modules)
    made_module t home name origin vis cs same stays site here =
        let made : State = act t (makes home name origin vis) in
        let new : ModuleValue = new_module origin vis (Some (module_id t.core.map home)) in
        let there : module_at made.core.map (length t.core.map.modules) ≡ Some new = made_there t.core.map home name new in
        let at : StaysAt (module_at answer.map (length t.core.map.modules)) new =
        Stays-trans made.core.map (perform made cs).core.map answer.map (Stays-perform cs made) stays (length t.core.map.modules) new there in
        record {
          value = at.value;
          there = at.there;
          origin_is = at.origin;
          parent = at.parent ∙ ap (λ (id : MapId). Some (numbered id home)) same ∙ ap (λ (h : ℕ). Some (numbered answer.map.id h)) (sym here);
        }

    -- one that is written where it is declared
    inline_walks : (site : Site) (head : Head) (name : List ℕ) (items : KeptForest) (done : ℕ) (rest : List Task) (o : Option Directory)
        → inline_directory site.dir name (path_of head) ≡ o
        → IsModuleOf answer.map site (inline_origin site.tree head.id) count → Walk (visits_inside m site head o items ++ rest)
        → Walk (visits (behind (visit site (holder head (inline_module name) items)) done) ∷ rest)
    inline_walks site head name items done rest None e made f = (
      holder_walks answer last site head (inline_module name) items done
          (record { number = count; made = made; walks = λ dir h. absurd (let no : ⊥ = cc in no) }),
      f,
    )
    inline_walks site head name items done rest (Some dir) e made f =
        let both = closed_walk answer last (inside_module m site dir) items (is_macro_use head.attributes) site.home count rest f in (
          holder_walks answer last site head (inline_module name) items done (record {
            number = count;
            made = made;
            walks = λ other h. let same : dir ≡ other = cc in subst (λ (d : Directory). Walks answer last items (site_inside site count d)) same both.0;
          }),
          both.1,
        )

    -- a module that isn't a file's
    no_file_walked : (site : Site) (tree : TreeId) (node : AstId) → IsModuleOf answer.map site (origins.Inline tree node) count → HasWalked count
    no_file_walked site tree node made v at is_mod_rs declaration declared_in file origin =
        let found : Some made.value ≡ Some v = sym made.there ∙ at in
        let same : made.value ≡ v = cc in
        let none : None ≡ Some file = ap file_of (sym made.origin_is ∙ ap (λ (x : ModuleValue). x.origin) same ∙ origin) in
        absurd (let no : ⊥ = cc in no)

    -- and one that is
    file_walked : (site : Site) (head : Head) (f : ModuleFile) → IsModuleOf answer.map site (file_origin site.tree head.id m.crate_data.edition f) count
        → (tree_at tables w (file_key m.id.krate m.crate_data.edition f.id)).tree ≡ f.tree → Walks answer last f.tree.items (inside_file m f) → HasWalked count
    file_walked site head f made seen walks v at is_mod_rs declaration declared_in file origin =
        let found : Some made.value ≡ Some v = sym made.there ∙ at in
        let same : made.value ≡ v = cc in
        let read : EditionedFileId = record { file_id = f.id; edition = m.crate_data.edition } in
        let files : Some read ≡ Some file = ap file_of (sym made.origin_is ∙ ap (λ (x : ModuleValue). x.origin) same ∙ origin) in
        let this : read ≡ file = cc in
        let here : (tree_at tables w (file_key answer.map.id.krate m.crate_data.edition f.id)).tree ≡ f.tree =
        subst (λ (id : MapId). (tree_at tables w (file_key id.krate m.crate_data.edition f.id)).tree ≡ f.tree) own seen in
        subst (λ (x : EditionedFileId). WalksFile tables w answer last count x) this (record {
          site = inside_file m f;
          home = refl;
          tree = refl;
          alone = refl;
          walks = subst (λ (is : KeptForest). Walks answer last is (inside_file m f)) (sym (ap (λ (t : Tree). t.items) here)) walks;
        })

    -- ---- items

    -- the imports of a `use` item are found
    use_walks : (site : Site) (head : Head) (tree : UseTree)
        → ((r : ImportDirective) → Contains (s.core.reached ++ imports_by m site head tree) r → Contains last.reached r)
        → AreReached last answer.map site head tree
    use_walks site head tree found = record {
      each = λ i h.
          let among : Contains (imports_by m site head tree) (reached_import site.home (use_id m site head.id) head.visibility i) =
          mapped (reached_import site.home (use_id m site head.id) head.visibility) (imports_of tree) i h in
          subst (λ (id : MapId). Contains last.reached (reached_import site.home (use_id (record m { id = id }) site head.id) head.visibility i)) own
          (found (reached_import site.home (use_id m site head.id) head.visibility i)
          (Contains-append_right s.core.reached (imports_by m site head tree) (reached_import site.home (use_id m site head.id) head.visibility i) among));
    }

    -- so is an `extern crate`
    crate_walks : (site : Site) (head : Head) (name : ExternCrateName) (alias : Option ImportAlias)
        → ((r : ImportDirective) → Contains (s.core.reached ++ crate_import m s.core.dependencies site head name alias ∷ []) r → Contains last.reached r)
        → Contains last.reached (crate_import answer.map last.dependencies site head name alias)
    crate_walks site head name alias found =
        let r : ImportDirective = crate_import m s.core.dependencies site head name alias in
        let there : Contains last.reached r = found r (Contains-append_right s.core.reached (r ∷ []) r (at_first r [])) in
        subst (λ (ds : List Dependency). Contains last.reached (crate_import answer.map ds site head name alias)) crates
        (subst (λ (id : MapId). Contains last.reached (crate_import (record m { id = id }) s.core.dependencies site head name alias)) own there)

    -- the items of an extern block
    block_walks : (site : Site) (head : Head) (items : KeptForest) (done : ℕ) (rest : List Task) → Walk (visits_over (inside_block m site head) items ++ rest)
        → Walk (visits (behind (visit site (holder head extern_block items)) done) ∷ rest)
    block_walks site head items done rest f =
        let both = items_walk answer last (inside_block m site head) items rest f in (
          holder_walks answer last site head extern_block items done
              (subst (λ (id : MapId). Walks answer last items (inside_block (record m { id = id }) site head)) own both.0),
          both.1,
        )

    -- what is done with behind a `derive`
    derive_low : (v : Visit) (rest : List Task) (at : ℕ) (a : Attribute) → HasAttribute s v at a rest → v.done ≤ suc at
    derive_low v rest at a has =
        let low : v.done ≤ at = (looked_up m (item_node v.site v.item) (item_head v.item).attributes.attributes v.done at a has.active).low in
        omega (arith, low)

    -- ---- what comes next

    pub walks_rule : (r : Rule) → May finished s r → ((x : ImportDirective) → Contains (after finished s r).core.reached x → Contains last.reached x)
        → ((i : ℕ) (d : MacroDirective) → slice_get (after finished s r).core.calls i ≡ Some d → slice_get last.calls i ≡ Some d)
        → Stays (after finished s r).core.map answer.map → Walk (after finished s r).agenda → Walk s.agenda
    walks_rule (drops_item v report rest) may found kept stays f =
        at_next may.next (off_walks answer last v.site v.item v.done (off (item_head v.item).attributes may.condition may.disabled), f)
    walks_rule (declares_item v d rest) may found kept stays f =
        at_next may.here.next (declared_walks answer last finished s.core.local m v d may.here.done may.declares, f)
    walks_rule (declares_enum site head name variants rest) may found kept stays f =
        at_next may.next (leaf_walks answer last site head (enumeration name) may.done tt, f)
    walks_rule (lists_constant site head rest) may found kept stays f = at_next may.next (leaf_walks answer last site head (constant None) may.done tt, f)
    walks_rule (lists_impl site head of_trait rest) may found kept stays f =
        at_next may.next (leaf_walks answer last site head (implementation of_trait) may.done tt, f)
    walks_rule (opens_module site head name items rest) may found kept stays f =
        let r : Rule = opens_module site head name items rest in
        let vis : Visibility = own_visibility finished s.core.local m site head in
        let next : List Task = visits_inside m site head (inline_directory site.dir name (path_of head)) items ++ rest in
        let made : IsModuleOf answer.map site (inline_origin site.tree head.id) count =
        made_module (asking s r) site.home name (inline_origin site.tree head.id) vis
        (takes_textual count site.home ∷ goes_on next ∷ declaring site.home (module_declaration m name vis)) own stays site refl in
        at_next may.next (inline_walks site head name items may.done rest (inline_directory site.dir name (path_of head)) refl made f)
    walks_rule (opens_file site head name search file rest) may found kept stays f =
        let marked : Bool = is_macro_use head.attributes || is_macro_use file.tree.attributes in
        at_next may.looks.here.next (
          leaf_walks answer last site head (outline_module name) may.looks.here.done tt,
          (closed_walk answer last (inside_file m file) file.tree.items marked site.home count rest f).1,
        )
    walks_rule (drops_file site head name search report rest) may found kept stays f =
        at_next may.looks.here.next (leaf_walks answer last site head (outline_module name) may.looks.here.done tt, f)
    walks_rule (misses_file site head name search report rest) may found kept stays f =
        at_next may.looks.here.next (leaf_walks answer last site head (outline_module name) may.looks.here.done tt, f)
    walks_rule (enters_block site head items rest) may found kept stays f = at_next may.next (block_walks site head items may.done rest f)
    walks_rule (reaches_imports site head tree rest) may found kept stays f =
        at_next may.next (leaf_walks answer last site head (import tree) may.done (use_walks site head tree found), f)
    walks_rule (reaches_crate site head name alias rest) may found kept stays f =
        at_next may.next (leaf_walks answer last site head (extern_crate name alias) may.done (crate_walks site head name alias found), f)
    walks_rule (defines_rules site head name expander helpers rest) may found kept stays f =
        let r : Rule = defines_rules site head name expander helpers rest in
        let makro : MacroId = macro_rules_id m site head.id expander in
        let node : AstId = node_of site.tree nodes.MacroRules head.id in
        let defined : State =
        perform (asking s r) (goes_on rest ∷ defines node makro ∷ describes makro (macro_data_of name helpers) ∷ adds_textual site.home name makro ∷ []) in
        let now : Walk rest = subst Walk (macro_agenda defined head name makro (module_id m site.home) node expander) f in
        at_next may.next (leaf_walks answer last site head (macro_rules name expander helpers) may.done tt, now)
    walks_rule (defines_macro site head name expander helpers rest) may found kept stays f =
        let r : Rule = defines_macro site head name expander helpers rest in
        let makro : MacroId = macro_def_id m site head.id expander in
        let node : AstId = node_of site.tree nodes.MacroDef head.id in
        let vis : Visibility = own_visibility finished s.core.local m site head in
        let bound : State =
        perform (asking s r)
        (goes_on rest ∷ defines node makro ∷ describes makro (macro_data_of name helpers) ∷ declaring site.home (macro_declaration name makro vis)) in
        let now : Walk rest = subst Walk (reporting_agenda bound (module_id m site.home) node expander) f in
        at_next may.next (leaf_walks answer last site head (macro_def name expander helpers) may.done tt, now)
    walks_rule (closes_module parent child rest) may found kept stays f = at_next may f
    walks_rule (awaits_attribute v a k rest) may found kept stays f =
        let node : AstId = item_node v.site v.item in
        let call : MacroDirective = attribute_at v.site node (attr_id a) a.meta.path k in
        let low : v.done ≤ may.at = (looked_up m node (item_head v.item).attributes.attributes v.done may.at a may.has.active).low in
        at_next may.has.on.next (
          waits_walks answer last v.site v.item v.done (record {
            call = call;
            among = standing last.calls (length s.core.calls) call (kept (length s.core.calls) call (comes_last s.core.calls call));
            site_is = refl;
            item = k;
            waits = refl;
            kept = may.kept;
            behind = omega (arith, low, may.behind_it);
          }),
          f,
        )
    walks_rule (lists_derives v at a adt paths call rest) may found kept stays f =
        at_next may.has.on.next (earlier_walks answer last v.site v.item v.done (suc at) (derive_low v rest at a may.has) f.0, f.1)
    walks_rule (faults_derive v at report rest) may found kept stays f =
        at_next may.has.on.next (earlier_walks answer last v.site v.item v.done (suc at) (derive_low v rest at may.attribute may.has) f.0, f.1)
    walks_rule (exports_macro site head name d e rest) may found kept stays f =
        at_next may.here.next (leaf_walks answer last site head (function name) may.here.done tt, f)
    walks_rule (reaches_call site head path rest) may found kept stays f = at_next may.next (leaf_walks answer last site head (macro_call path) may.done tt, f)
    walks_rule (meets_macro i d makro x) may found kept stays f = f
    walks_rule rests may found kept stays f = f
    walks_rule (expands_call i d makro x) may found kept stays f = at_next may.called.due.visited tt
    walks_rule (drops_call i d) may found kept stays f = f
    walks_rule (drops_reached i d makro) may found kept stays f = at_next may.called.due.visited tt
    walks_rule (derives_builtin i d makro imp) may found kept stays f = at_next may.due.visited tt
    walks_rule (skips_attribute i d k item) may found kept stays f = at_next may.due.visited tt
    walks_rule (falls_back i d k item) may found kept stays f = at_next may.quiet.visited tt
    walks_rule (resolves_imports rule) may found kept stays f =
        subst Walk (same_agenda (import_acts finished (import_state s) rule) (asking s (resolves_imports rule))) f

    -- ---- what a rule ends, and what it makes

    module _ (deep : s.core.map.crate_data.recursion_limit ≡ answer.map.crate_data.recursion_limit)
        (stays_call : (i : ℕ) (d : MacroDirective) → slice_get s.core.calls i ≡ Some d → slice_get last.calls i ≡ Some d) where
      abbrev Well : State → Change → Type 0
      Well = IsWell BecameOf HasWalked s

      -- the call that a rule handles
      call_here : (P : MacroDirective → Type 0) (i : ℕ) (call d : MacroDirective) → slice_get s.core.calls i ≡ Some call → slice_get last.calls i ≡ Some d
          → P call → P d
      call_here P i call d at is p =
          let still : Some call ≡ Some d = sym (stays_call i call at) ∙ is in
          let same : call ≡ d = cc in
          subst P same p

      deep_here : (i : ℕ) (call : MacroDirective) → slice_get s.core.calls i ≡ Some call → s.core.map.crate_data.recursion_limit ≤ call.site.level
          → BecameOf Handled i
      deep_here i call at past d is = call_here (WentOn tables w answer last) i call d at is (too_deep (subst (λ (n : ℕ). n ≤ call.site.level) deep past))

      -- the item of an attribute goes on
      resumed_here : (i : ℕ) (call : MacroDirective) (k : WaitingItem) (item : KeptItem) → slice_get s.core.calls i ≡ Some call → IsItemOf call k item
          → WalksOne answer last item k.done (site_behind call.site) → BecameOf GivenUp i
      resumed_here i call k item at of walks d is = call_here (Resumes answer last) i call d at is (record { waiting = k; kept = item; of = of; walks = walks })

      -- the items to which a call expands
      expanded_here : (i : ℕ) (call : MacroDirective) (makro : MacroId) (x : Expanding) → slice_get s.core.calls i ≡ Some call
          → Sees (environment tables w) finished (text_readings makro x.text ++ expansion_readings m.id.krate call x)
          → IsNumberedCall tables m.id.krate call makro x
          → ((key : TreeKey) → Contains (keys_read (text_readings makro x.text ++ expansion_readings m.id.krate call x)) (keys.Tree key) → Contains answer.asked
          (keys.Tree key))
          → Walks answer last x.tree.tree.items (call_site call x.id) → BecameOf Handled i
      expanded_here i call makro x at sees numbered read walks d is =
          let seen : tree_at tables w (call_key answer.map.id.krate x.id) ≡ x.tree =
          subst (λ (id : MapId). tree_at tables w (call_key id.krate x.id) ≡ x.tree) own (expansion_seen tables w finished m.id.krate call makro x sees) in
          call_here (WentOn tables w answer last) i call d at is
          (expanded makro x (subst (λ (id : MapId). IsNumberedCall tables id.krate call makro x) own numbered)
          (subst (λ (id : MapId). Contains answer.asked (keys.Tree (call_key id.krate x.id))) own
          (read (call_key m.id.krate x.id) (expansion_read m.id.krate call makro x)))
          (subst (λ (t : TreeLook). Walks answer last t.tree.items (call_site call x.id)) (sym seen) walks))

      pub well_rule : (r : Rule) → May finished s r → Sees (environment tables w) finished (reads s r) → Numbered tables s r
          → ((key : TreeKey) → Contains (keys_read (reads s r)) (keys.Tree key) → Contains answer.asked (keys.Tree key))
          → Stays (after finished s r).core.map answer.map → Walk (after finished s r).agenda → AllFine Well (asking s r) (acts finished s r)
      well_rule (declares_item v d rest) may sees numbers read stays f = (tt, (tt, (tt, tt)))
      well_rule (declares_enum site head name variants rest) may sees numbers read stays f = (tt, (tt, (tt, (tt, tt))))
      well_rule (opens_module site head name items rest) may sees numbers read stays f =
          let r : Rule = opens_module site head name items rest in
          let vis : Visibility = own_visibility finished s.core.local m site head in
          let next : List Task = visits_inside m site head (inline_directory site.dir name (path_of head)) items ++ rest in
          let made : IsModuleOf answer.map site (inline_origin site.tree head.id) count =
          made_module (asking s r) site.home name (inline_origin site.tree head.id) vis
          (takes_textual count site.home ∷ goes_on next ∷ declaring site.home (module_declaration m name vis)) own stays site refl in
          (no_file_walked site site.tree (node_of site.tree nodes.Module head.id) made, (tt, (tt, (tt, (tt, tt)))))
      well_rule (opens_file site head name search file rest) may sees numbers read stays f =
          let r : Rule = opens_file site head name search file rest in
          let vis : Visibility = own_visibility finished s.core.local m site head in
          let next : List Task = visits_in_file m site head file ++ rest in
          let origin : ModuleOrigin = file_origin site.tree head.id m.crate_data.edition file in
          let made : IsModuleOf answer.map site origin count =
          made_module (asking s r) site.home name origin vis
          (takes_textual count site.home ∷ goes_on next ∷ declaring site.home (module_declaration m name vis)) own stays site refl in
          let marked : Bool = is_macro_use head.attributes || is_macro_use file.tree.attributes in
          let walks : Walks answer last file.tree.items (inside_file m file) =
          (closed_walk answer last (inside_file m file) file.tree.items marked site.home count rest f).0 in
          let seen : (tree_at tables w (file_key m.id.krate m.crate_data.edition file.id)).tree ≡ file.tree =
          found_seen tables w finished m.id.krate m.crate_data.edition search.absent search.found file may.found sees in
          (file_walked site head file made seen walks, (tt, (tt, (tt, (tt, tt)))))
      well_rule (misses_file site head name search report rest) may sees numbers read stays f =
          let r : Rule = misses_file site head name search report rest in
          let vis : Visibility = own_visibility finished s.core.local m site head in
          let made : IsModuleOf answer.map site (inline_origin site.tree head.id) count =
          made_module (asking s r) site.home name (inline_origin site.tree head.id) vis
          (takes_textual count site.home ∷ goes_on rest ∷ declaring site.home (module_declaration m name vis) ++ tells report ∷ []) own stays site refl in
          (no_file_walked site site.tree (node_of site.tree nodes.Module head.id) made, (tt, (tt, (tt, (tt, (tt, tt))))))
      well_rule (reaches_imports site head tree rest) may sees numbers read stays f = (tt, (tt, (tt, tt)))
      well_rule (reaches_crate site head name alias rest) may sees numbers read stays f = (tt, (tt, (tt, (tt, (tt, tt)))))
      well_rule (defines_rules site head name expander helpers rest) may sees numbers read stays f =
          (tt, (tt, (tt, (tt, fine_macro Well _ _ expander (λ t. tt) head name _ (λ t. tt) _))))
      well_rule (defines_macro site head name expander helpers rest) may sees numbers read stays f =
          (tt, (tt, (tt, (tt, (tt, fine_reporting Well _ _ expander (λ t. tt) _)))))
      well_rule (lists_derives v at a adt paths call rest) may sees numbers read stays f = (tt, (tt, (tt, tt)))
      well_rule (exports_macro site head name d e rest) may sees numbers read stays f = (tt, (tt, (tt, (tt, (tt, (tt, (tt, tt)))))))
      well_rule (meets_macro i d makro x) may sees numbers read stays f = (tt, tt)
      well_rule rests may sees numbers read stays f = (tt, tt)
      well_rule (expands_call i d makro x) may sees numbers read stays f =
          let next : List Task = visits_over (call_site d x.id) x.tree.tree.items in
          let helpers : List DeriveHelper = helpers_brought finished m d makro (Some (either.Left x.id)) in
          let begun : State = perform (asking s (expands_call i d makro x)) (ends i Handled ∷ goes_on next ∷ notes d.site.home (invocation_of d x.id) ∷ []) in
          let now : Walk next = subst Walk (expanding_agenda begun d.ast_id helpers (module_id m d.site.home) d (error_of x.there)) f in
          let walks : Walks answer last x.tree.tree.items (call_site d x.id) = all_walk answer last (call_site d x.id) x.tree.tree.items now in (
            expanded_here i d makro x may.called.due.waiting.call sees numbers read walks,
            (tt, (tt, fine_expanding Well _ (λ t helper. tt) _ _ d (error_of x.there) (λ t text. tt) _)),
          )
      well_rule (drops_call i d) may sees numbers read stays f = (deep_here i d may.due.waiting.call may.deep, tt)
      well_rule (drops_reached i d makro) may sees numbers read stays f =
          (deep_here i d may.called.due.waiting.call may.deep, fine_bringing Well _ (λ t helper. tt) _ _)
      well_rule (derives_builtin i d makro imp) may sees numbers read stays f = (
        λ call is. call_here (WentOn tables w answer last) i d call may.due.waiting.call is (builtin makro imp may.builtin may.is),
        (tt, (tt, fine_bringing Well _ (λ t helper. tt) _ _)),
      )
      well_rule (skips_attribute i d k item) may sees numbers read stays f =
          (λ call is. resumed (resumed_here i d k item may.due.waiting.call may.of f.0 call is), (tt, tt))
      well_rule (falls_back i d k item) may sees numbers read stays f = (resumed_here i d k item may.waiting.call may.of f.0, (tt, (tt, tt)))
      well_rule (resolves_imports rule) may sees numbers read stays f =
          all_fine Well (λ t c. tt) (import_acts finished (import_state s) rule) (asking s (resolves_imports rule))
      well_rule other may sees numbers read stays f = (tt, (tt, tt))
