-- What a rule binds without an import, the next item declares; and its module lists it in the end.
use Rattle.std.proofs.Common.{◌≡◌, ◌∙◌, ◌<◌, ℕ, Bool, true, false, cond, List, [], ◌∷◌, ◌++◌, length, Option, None, Some, refl, sym, ap, subst, Contains}
use Rattle.std.proofs.lemmas.List.Elements.{Contains-append_left, Contains-append_right}
use Rattle.std.specs.Prelude.{option_map}
use Rattle.hir_collector_rules.specs.HirIds.declared.ast_id.AstId.{AstId}
use Rattle.hir_collector_rules.specs.HirIds.declared.ids.Crate.{Crate}
use Rattle.hir_collector_rules.specs.HirIds.declared.ids.ExternCrateId.{ExternCrateId}
use Rattle.hir_collector_rules.specs.HirIds.declared.macro_kind.MacroExpander.{MacroExpander}
use Rattle.hir_collector_rules.specs.HirIds.declared.macro_kind.MacroId.{MacroId}
use Rattle.hir_collector_rules.specs.HirIds.declared.ids.MapId.{MapId}
use Rattle.hir_collector_rules.specs.HirIds.declared.ids.ModuleDefId.{ModuleDefId}
use Rattle.hir_collector_rules.specs.HirIds.declared.ast_id.AstKind.TheVariants as nodes
use Rattle.hir_collector_rules.specs.HirIds.declared.ids.ModuleDefId.TheVariants as definitions
use Rattle.hir_collector_rules.specs.HirIds.declared.macro_kind.MacroId.TheVariants.{ProcMacroId}
use Rattle.hir_collector_rules.specs.HirItemTree.Collected.{is_enabled}
use Rattle.hir_collector_rules.specs.HirItemTree.Kinds.{item_head}
use Rattle.hir_collector_rules.specs.HirItemTree.KeptForest.{Head, enumeration, function, holder, inline_module, leaf, macro_def, macro_rules, outline_module}
use Rattle.hir_collector_rules.specs.HirUseTree.declared.imports.ImportKind.TheVariants as kinds
use Rattle.hir_collector_rules.specs.HirPerNs.PerNs.{Item, macros_only, value_import}
use Rattle.hir_collector_rules.specs.HirPerNs.declared.imports.ImportOrExternCrate.{ImportOrExternCrate}
use Rattle.hir_collector_rules.specs.HirPerNs.declared.imports.ImportOrGlob.{ImportOrGlob}
use Rattle.hir_collector_rules.specs.HirPerNs.declared.per_ns.PerNs.{PerNs}
use Rattle.hir_collector_rules.specs.HirPerNs.declared.visibility.Visibility.TheVariants as visibilities
use Rattle.hir_collector_rules.specs.HirTables.Tables.{TablesValue}
use Rattle.hir_collector_rules.specs.HirDefMapRules.Overlay.{Maps}
use Rattle.hir_collector_rules.specs.HirDefMapRules.State.{Map, module_at}
use Rattle.hir_collector_rules.specs.HirImportRules.Changes.{pushes, pushing}
use Rattle.hir_collector_rules.specs.HirImportRules.Directives.{answer_by_source, answer_of_crate, brought, kept_by, kept_of, kind_of, offered_by, path_answer}
use Rattle.hir_collector_rules.specs.HirImportRules.Directives.{visibility_of, way_of}
use Rattle.hir_collector_rules.specs.HirImportRules.Rules.{goes_along, takes_glob, takes_import}
use Rattle.hir_collector_rules.specs.HirImportRules.declared.directive.ImportDirective.{ImportDirective}
use Rattle.hir_collector_rules.specs.HirImportRules.declared.directive.ImportSource.{ImportSource}
use Rattle.hir_collector_rules.specs.HirImportRules.declared.directive.ImportSource.TheVariants as sources
use Rattle.hir_collector_rules.specs.declared.declaration.Declaration.{Declaration}
use Rattle.hir_collector_rules.specs.declared.exported.Export.{Export}
use Rattle.hir_collector_rules.specs.declared.site.Site.{Site}
use Rattle.hir_collector_rules.specs.Attributes.{export_at, proc_macro_id}
use Rattle.hir_collector_rules.specs.Calls.{error_of}
use Rattle.hir_collector_rules.specs.Causes.{IsPassed, declarations_of}
use Rattle.hir_collector_rules.specs.Changes.{Change, changes_imports, perform}
use Rattle.hir_collector_rules.specs.Derivation.{CollectedValue}
use Rattle.hir_collector_rules.specs.ItemIds.{macro_def_id, macro_rules_id, module_id, node_of}
use Rattle.hir_collector_rules.specs.Items.{own_visibility}
use Rattle.hir_collector_rules.specs.Macros.{is_exported, macro_declaration}
use Rattle.hir_collector_rules.specs.Start.{Beginning, exports_macros, krate_of, read_by}
use Rattle.hir_collector_rules.specs.State.{State, Task, Visit, behind, visits}
use Rattle.hir_collector_rules.specs.Steps.{Rule, drops_item, awaits_attribute, lists_derives, faults_derive, exports_macro, reaches_call, rests}
use Rattle.hir_collector_rules.specs.Steps.{expands_call, meets_macro}
use Rattle.hir_collector_rules.specs.Steps.{drops_call, drops_reached, derives_builtin, skips_attribute, falls_back, defines_rules, defines_macro}
use Rattle.hir_collector_rules.specs.Steps.{closes_module, declares_item, declares_enum, lists_constant, lists_impl, opens_module, opens_file, drops_file}
use Rattle.hir_collector_rules.specs.Steps.{misses_file, enters_block, reaches_imports, reaches_crate, resolves_imports, May, acts, asking, enum_declaration}
use Rattle.hir_collector_rules.specs.Steps.{exporting, module_declaration, reporting, visit}
use Rattle.hir_collector_rules.specs.Workspace.{Workspace, crate_in}
use Rattle.hir_collector_rules.proofs.Changes.{AllFine, fine-append, fine_bringing, fine_expanding, fine_reporting}
use Rattle.hir_collector_rules.proofs.InRange.{IsInRange, next_home}
use Rattle.hir_def_collector_laws.specs.Expansions.{at_home}
use Rattle.hir_def_collector_laws.specs.Written.{IsWritten, key_of}
use Rattle.hir_def_collector_laws.proofs.Lists.{at_first, at_home-same}
use Rattle.hir_def_collector_laws.proofs.Listings.{added-perform, all_added}
use Rattle.hir_def_collector_laws.proofs.Written.{IsAllWritten, placed_next}
use Rattle.hir_def_collector_written.specs.Declared.{IsDeclared, IsOwnMacro, IsOwnType, IsOwnValue, item_declares, of_function, of_item, of_rules}
use Rattle.hir_def_collector_written.proofs.Declares.{StandsForOne, declared_item, plain, stands_for_one}
use Rattle.hir_def_collector_written.proofs.OwnBindings.{IsFine, IsFinePush, IsOwnState, along_fine}

-- what is listed at home is listed
listed_here : (home : ℕ) (def : ModuleDefId) (others : List ModuleDefId) → Contains (at_home home home (def ∷ []) ++ others) def
listed_here home def others =
    Contains-append_left (at_home home home (def ∷ [])) others def
    (subst (λ (xs : List ModuleDefId). Contains xs def) (sym (at_home-same home (def ∷ []))) (at_first def []))

-- a macro that is bound for all
abbrev for_all : MacroId → Item MacroId ImportOrExternCrate
for_all makro = record { def = makro; vis = visibilities.Public; import = None }

-- an `extern crate` brings no value
no_value : (krate : Option Crate) → (kept_of kinds.Plain (answer_of_crate krate)).values ≡ None
no_value None = refl
no_value (Some krate) = refl

module _ (tables : TablesValue) (w : Workspace) (finished : Maps) (from : Beginning) (answer : CollectedValue) (last : State) where
  abbrev seen : Maps
  seen = read_by w finished from.start

  abbrev exporting_root : Bool
  exporting_root = exports_macros from.start (crate_in w (krate_of from.start))

  abbrev pub OwnType : ℕ → List ℕ → Item ModuleDefId ImportOrExternCrate → Type 0
  OwnType number name i = IsOwnType tables w finished from answer last number name i

  abbrev pub OwnValue : ℕ → List ℕ → Item ModuleDefId ImportOrGlob → Type 0
  OwnValue number name i = IsOwnValue tables w finished from answer last number name i

  abbrev pub OwnMacro : ℕ → List ℕ → Item MacroId ImportOrExternCrate → Type 0
  OwnMacro number name i = IsOwnMacro tables w finished from answer last number name i

  abbrev pub Fine : State → Change → Type 0
  Fine = IsFine OwnType OwnValue OwnMacro

  abbrev FinePush : ℕ → List ℕ → PerNs → Option ImportOrExternCrate → Type 0
  FinePush = IsFinePush OwnType OwnValue OwnMacro

  abbrev IsListedIn : ℕ → ModuleDefId → Type 0
  IsListedIn number def = Contains (declarations_of (module_at answer.map number)) def

  -- ---- pushes

  -- a declaration that the module lists
  declaration_fine : (home : ℕ) (d : Declaration) → IsDeclared tables w finished from answer last home d.name d → StandsForOne d → IsListedIn home d.def
      → (n : List ℕ) → Some d.name ≡ Some n → FinePush home n d.items None
  declaration_fine home d declared stands listed n e = subst (λ (x : List ℕ). FinePush home x d.items None) same (record {
    types = λ i is none. record {
      declaration = d;
      declared = declared;
      binds = is ∙ ap (λ (x : Item ModuleDefId ImportOrExternCrate). Some x) (sym (stands.types i is).same);
      listed = subst (IsListedIn home) (sym (stands.types i is).def_is) listed;
    };
    values = λ i is none. record {
      declaration = d;
      declared = declared;
      binds = is ∙ ap (λ (x : Item ModuleDefId ImportOrGlob). Some x) (sym (stands.values i is).same);
      listed = subst (IsListedIn home) (sym (stands.values i is).def_is) listed;
    };
    macros = λ i is none. of_item (record {
      declaration = d;
      declared = declared;
      binds = is ∙ ap (λ (x : Item MacroId ImportOrExternCrate). Some x) (sym (stands.macros i is).1);
      listed = subst (IsListedIn home) (sym (stands.macros i is).0) listed;
    });
  })
    where
      same : d.name ≡ n
      same = cc

  -- a macro alone, for all
  macro_fine : (home : ℕ) (name : List ℕ) (makro : MacroId) → OwnMacro home name (for_all makro)
      → (n : List ℕ) → Some name ≡ Some n → FinePush home n (macros_only makro visibilities.Public None) None
  macro_fine home name makro own n e = subst (λ (x : List ℕ). FinePush home x (macros_only makro visibilities.Public None) None) same (record {
    types = λ i is none. absurd (let no : ⊥ = cc in no);
    values = λ i is none. absurd (let no : ⊥ = cc in no);
    macros = λ i is none. by_item i is;
  })
    where
      same : name ≡ n
      same = cc

      by_item : (i : Item MacroId ImportOrExternCrate) → (macros_only makro visibilities.Public None).macros ≡ Some i → OwnMacro home name (plain i)
      by_item i is =
          let same_item : for_all makro ≡ i = cc in
          subst (λ (x : Item MacroId ImportOrExternCrate). OwnMacro home name (plain x)) same_item own

  -- an import
  import_fine : (s : State) (r : ImportDirective) (n : List ℕ) → FinePush r.home n (offered_by seen s.core.local s.core.map r) (pushing (Some r.source))
  import_fine s r n = record {
    types = λ i is none. absurd (let no : ⊥ = cc in no);
    values = λ i is none. by_source r.source refl i is none;
    macros = λ i is none. absurd (let no : ⊥ = cc in no);
  }
    where
      -- an `extern crate` keeps no value
      kept_none : (id : ExternCrateId) (krate : Option Crate) → r.source ≡ sources.ExternCrate id krate → (kept_by seen s.core.local s.core.map r).values ≡ None
      kept_none id krate is =
          ap (λ (x : ImportSource). (kept_of (kind_of x) (answer_by_source x (path_answer seen s.core.local s.core.map r))).values) is ∙ no_value krate

      by_source : (source : ImportSource) → r.source ≡ source → (i : Item ModuleDefId ImportOrGlob)
          → (offered_by seen s.core.local s.core.map r).values ≡ Some i
          → value_import (Some (way_of r.source)) ≡ None → OwnValue r.home n (plain i)
      by_source (sources.Use id kind) is i e none =
          let wrong : value_import (Some (way_of (sources.Use id kind))) ≡ None = sym (ap (λ (x : ImportSource). value_import (Some (way_of x))) is) ∙ none in
          absurd (let no : ⊥ = cc in no)
      by_source (sources.ExternCrate id krate) is i e none =
          let nothing : (kept_by seen s.core.local s.core.map r).values ≡ None = kept_none id krate is in
          let missing : None ≡ Some i =
          sym (ap (option_map (brought seen s.core.map (visibility_of seen s.core.local s.core.map r))) nothing) ∙ e in
          absurd (let no : ⊥ = cc in no)

  -- ---- rules

  module _ (s : State) (f : IsOwnState OwnType OwnValue OwnMacro s) (inside : IsInRange s) (written : IsAllWritten tables w from answer s)
      (passed : IsPassed tables w finished from last s)
      (proc : s.core.is_proc_macro ≡ exporting_root) where
    abbrev m : Map
    m = s.core.map

    placed : (v : Visit) (rest : List Task) → s.agenda ≡ visits v ∷ rest → IsWritten tables w answer.asked (key_of answer v.site.tree) v.item
    placed v rest e = (placed_next tables w from answer s.agenda v rest written.visits e).0

    -- what comes to be listed in the module of the next item
    abbrev LaterListed : Rule → Type 0
    LaterListed r =
        (number : ℕ) (def : ModuleDefId) → Contains
        (declarations_of (module_at (perform (asking s r) (acts seen s r)).core.map number)) def → IsListedIn number def

    listed_by : (r : Rule) → LaterListed r → (number : ℕ) (def : ModuleDefId) → number < length m.modules → Contains (all_added (acts seen s r) number) def
        → IsListedIn number def
    listed_by r later number def low h =
        later number def (subst (λ (xs : List ModuleDefId). Contains xs def) (sym (added-perform (acts seen s r) (asking s r) number low))
        (Contains-append_right (declarations_of (module_at m number)) (all_added (acts seen s r) number) def h))

    module _ (v : Visit) (done : ℕ) (rest : List Task) (next : s.agenda ≡ visits (behind v done) ∷ rest)
        (on : is_enabled (item_head v.item).attributes ≡ true) where
      low : v.site.home < length m.modules
      low = next_home s inside (behind v done) rest next

      declared_now : (d : Declaration) → item_declares seen s.core.local m v.site v.item ≡ Some d
          → IsDeclared tables w finished from answer last v.site.home d.name d
      declared_now d e = record {
        site = v.site;
        home = refl;
        kept = v.item;
        written = placed (behind v done) rest next;
        enabled = on;
        at = s;
        passed = passed;
        declares = e;
        named = refl;
      }

      -- the declaration of the next item is pushed, and listed
      next_fine : (r : Rule) → LaterListed r → (d : Declaration) → item_declares seen s.core.local m v.site v.item ≡ Some d
          → Contains (all_added (acts seen s r) v.site.home) d.def
          → (n : List ℕ) → Some d.name ≡ Some n → FinePush v.site.home n d.items None
      next_fine r later d e added =
          declaration_fine v.site.home d (declared_now d e) (stands_for_one seen s.core.local m v.site d v.item e)
          (listed_by r later v.site.home d.def low added)

    -- a macro that is exported
    rules_exported : (site : Site) (head : Head) (name : List ℕ) (expander : MacroExpander) (helpers : List (List ℕ)) (done : ℕ) (rest : List Task)
        → s.agenda ≡ visits (behind (visit site (leaf head (macro_rules name expander helpers))) done) ∷ rest → is_enabled head.attributes ≡ true → (b : Bool)
        → is_exported head.attributes ≡ b
        → (t : State)
        → AllFine Fine t
        (cond b (changes_imports (pushes 0 (Some name) (macros_only (macro_rules_id m site head.id expander) visibilities.Public None) None) ∷ []) [])
    rules_exported site head name expander helpers done rest next on false exported t = tt
    rules_exported site head name expander helpers done rest next on true exported t = (
      macro_fine 0 name (macro_rules_id m site head.id expander) (of_rules (record {
        at_root = refl;
        site = site;
        head = head;
        expander = expander;
        helpers = helpers;
        written = placed (behind (visit site (leaf head (macro_rules name expander helpers))) done) rest next;
        enabled = on;
        exported = exported;
        is = ap (λ (id : MapId). for_all (macro_rules_id (record m { id = id }) site head.id expander)) written.id;
      })),
      tt,
    )

    -- and one that a function exports
    function_exported : (r : Rule) → LaterListed r → (site : Site) (head : Head) (name : List ℕ) (e : Export) (done : ℕ) (rest : List Task)
        → (next : s.agenda ≡ visits (behind (visit site (leaf head (function name))) done) ∷ rest) → (on : is_enabled head.attributes ≡ true)
        → export_at s.core.is_proc_macro m site (leaf head (function name)) ≡ Some e
        → Contains (all_added (acts seen s r) site.home) (definitions.MacroId (ProcMacroId (proc_macro_id m site head.id e.style)))
        → (n : List ℕ) → Some e.what.name ≡ Some n
        → FinePush site.home n (macros_only (ProcMacroId (proc_macro_id m site head.id e.style)) visibilities.Public None) None
    function_exported r later site head name e done rest next on exports added =
        macro_fine site.home e.what.name (ProcMacroId (proc_macro_id m site head.id e.style)) (of_function (record {
          site = site;
          home = refl;
          head = head;
          own_name = name;
          written = placed (behind (visit site (leaf head (function name))) done) rest next;
          enabled = on;
          macro_of = e;
          exports = subst (λ (b : Bool). export_at b answer.map site (leaf head (function name)) ≡ Some e) proc
              (subst (λ (id : MapId). export_at s.core.is_proc_macro (record m { id = id }) site (leaf head (function name)) ≡ Some e) written.id exports);
          named = refl;
          is = ap (λ (id : MapId). for_all (ProcMacroId (proc_macro_id (record m { id = id }) site head.id e.style))) written.id;
          listed = listed_by r later site.home (definitions.MacroId (ProcMacroId (proc_macro_id m site head.id e.style)))
              (low (visit site (leaf head (function name))) done rest next on) added;
        }))

    pub own_rule : (r : Rule) → May seen s r → LaterListed r → AllFine Fine (asking s r) (acts seen s r)
    own_rule (drops_item v report rest) may later = (tt, (tt, tt))
    own_rule (declares_item v d rest) may later =
        let r : Rule = declares_item v d rest in
        let declares = declared_item seen s.core.local m v.site d v.item may.declares in
        (tt, (tt, (next_fine v may.here.done rest may.here.next may.here.enabled r later d declares (listed_here v.site.home d.def []), tt)))
    own_rule (declares_enum site head name variants rest) may later =
        let r : Rule = declares_enum site head name variants rest in
        let d : Declaration = enum_declaration m site head name (own_visibility seen s.core.local m site head) in (
          tt,
          (
            tt,
            (
              tt,
              (next_fine (visit site (leaf head (enumeration name))) may.done rest may.next may.enabled r later d refl (listed_here site.home d.def []), tt),
            ),
          ),
        )
    own_rule (lists_constant site head rest) may later = (tt, (tt, tt))
    own_rule (lists_impl site head of_trait rest) may later = (tt, (tt, tt))
    own_rule (opens_module site head name items rest) may later =
        let r : Rule = opens_module site head name items rest in
        let d : Declaration = module_declaration m name (own_visibility seen s.core.local m site head) in (
          tt,
          (
            tt,
            (
              tt,
              (
                tt,
                (
                  next_fine (visit site (holder head (inline_module name) items)) may.done rest may.next may.enabled r later d refl
                      (listed_here site.home d.def []),
                  tt,
                ),
              ),
            ),
          ),
        )
    own_rule (opens_file site head name search file rest) may later =
        let r : Rule = opens_file site head name search file rest in
        let d : Declaration = module_declaration m name (own_visibility seen s.core.local m site head) in (
          tt,
          (
            tt,
            (
              tt,
              (
                tt,
                (
                  next_fine (visit site (leaf head (outline_module name))) may.looks.here.done rest may.looks.here.next may.looks.here.enabled r later d refl
                      (listed_here site.home d.def []),
                  tt,
                ),
              ),
            ),
          ),
        )
    own_rule (drops_file site head name search report rest) may later = (tt, (tt, tt))
    own_rule (misses_file site head name search report rest) may later =
        let r : Rule = misses_file site head name search report rest in
        let d : Declaration = module_declaration m name (own_visibility seen s.core.local m site head) in (
          tt,
          (
            tt,
            (
              tt,
              (
                tt,
                (
                  next_fine (visit site (leaf head (outline_module name))) may.looks.here.done rest may.looks.here.next may.looks.here.enabled r later d refl
                      (listed_here site.home d.def []),
                  (tt, tt),
                ),
              ),
            ),
          ),
        )
    own_rule (enters_block site head items rest) may later = (tt, (tt, tt))
    own_rule (reaches_imports site head tree rest) may later = (tt, (tt, (tt, tt)))
    own_rule (reaches_crate site head name alias rest) may later = (tt, (tt, (tt, (tt, (tt, tt)))))
    own_rule (defines_rules site head name expander helpers rest) may later =
        let makro : MacroId = macro_rules_id m site head.id expander in
        let node : AstId = node_of site.tree nodes.MacroRules head.id in (
          tt,
          (
            tt,
            (
              tt,
              (
                tt,
                fine-append Fine (exporting head name makro) (reporting (module_id m site.home) node expander) _
                    (rules_exported site head name expander helpers may.done rest may.next may.enabled (is_exported head.attributes) refl _)
                    (fine_reporting Fine _ _ expander (λ t. tt) _),
              ),
            ),
          ),
        )
    own_rule (defines_macro site head name expander helpers rest) may later =
        let r : Rule = defines_macro site head name expander helpers rest in
        let d : Declaration = macro_declaration name (macro_def_id m site head.id expander) (own_visibility seen s.core.local m site head) in (
          tt,
          (
            tt,
            (
              tt,
              (
                tt,
                (
                  next_fine (visit site (leaf head (macro_def name expander helpers))) may.done rest may.next may.enabled r later d refl
                      (listed_here site.home d.def _),
                  fine_reporting Fine _ _ expander (λ t. tt) _,
                ),
              ),
            ),
          ),
        )
    own_rule (closes_module parent child rest) may later = (tt, (tt, tt))
    own_rule (awaits_attribute v a k rest) may later = (tt, (tt, tt))
    own_rule (lists_derives v at a adt paths call rest) may later = (tt, (tt, (tt, tt)))
    own_rule (faults_derive v at report rest) may later = (tt, (tt, tt))
    own_rule (exports_macro site head name d e rest) may later =
        let r : Rule = exports_macro site head name d e rest in
        let v : Visit = visit site (leaf head (function name)) in
        let makro : ModuleDefId = definitions.MacroId (ProcMacroId (proc_macro_id m site head.id e.style)) in
        let declares = declared_item seen s.core.local m site d (leaf head (function name)) may.declares in
        let bound =
        next_fine v may.here.done rest may.here.next may.here.enabled r later d declares
        (listed_here site.home d.def (at_home site.home site.home (makro ∷ []) ++ [])) in
        let exported = function_exported r later site head name e may.here.done rest may.here.next may.here.enabled may.exports
        (Contains-append_right (at_home site.home site.home (d.def ∷ [])) (at_home site.home site.home (makro ∷ []) ++ []) makro
        (listed_here site.home makro [])) in
        (tt, (tt, (tt, (tt, (bound, (tt, (exported, tt)))))))
    own_rule (reaches_call site head path rest) may later = (tt, (tt, tt))
    own_rule (meets_macro i d makro x) may later = (tt, tt)
    own_rule rests may later = (tt, tt)
    own_rule (expands_call i d makro x) may later = (tt, (tt, (tt, fine_expanding Fine _ (λ t helper. tt) _ _ d (error_of x.there) (λ t text. tt) _)))
    own_rule (drops_call i d) may later = (tt, tt)
    own_rule (drops_reached i d makro) may later = (tt, fine_bringing Fine _ (λ t helper. tt) _ _)
    own_rule (derives_builtin i d makro imp) may later = (tt, (tt, (tt, fine_bringing Fine _ (λ t helper. tt) _ _)))
    own_rule (skips_attribute i d k waited) may later = (tt, (tt, tt))
    own_rule (falls_back i d k waited) may later = (tt, (tt, (tt, tt)))
    own_rule (resolves_imports (takes_import i r t)) may later = (λ n e. import_fine s r n, (tt, (tt, tt)))
    own_rule (resolves_imports (takes_glob i r t by target edges)) may later = (tt, (tt, tt))
    own_rule (resolves_imports (goes_along rule)) may later =
        along_fine OwnType OwnValue OwnMacro seen (asking s (resolves_imports (goes_along rule))) (record { modules = f.modules }) rule may
