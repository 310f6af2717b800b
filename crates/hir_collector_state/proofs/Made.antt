-- A rule that may be applied makes a step, and what a declaration leaves.
use Rattle.std.proofs.Common.{◌≡◌, ◌∙◌, ℕ, true, List, [], ◌∷◌, ◌++◌, None, Option, Some, refl, sym, ap}
use Rattle.hir_collector_rules.specs.HirIds.declared.ast_id.AstId.{AstId}
use Rattle.hir_collector_rules.specs.HirIds.declared.macro_kind.MacroExpander.{MacroExpander}
use Rattle.hir_collector_rules.specs.HirIds.declared.macro_kind.MacroId.{MacroId}
use Rattle.hir_collector_rules.specs.HirIds.declared.ids.ModuleId.{ModuleId}
use Rattle.hir_collector_rules.specs.HirIds.declared.ast_id.AstKind.TheVariants as nodes
use Rattle.hir_collector_rules.specs.HirItemTree.Collected.{is_enabled}
use Rattle.hir_collector_rules.specs.HirItemTree.KeptForest.{Head, enumeration, function, leaf, macro_def, macro_rules}
use Rattle.hir_collector_rules.specs.HirItemTree.Kinds.{item_head}
use Rattle.hir_collector_rules.specs.HirItemTree.declared.side_lists.VariantItem.{VariantItem}
use Rattle.hir_collector_rules.specs.HirPerNs.declared.per_ns.PerNs.{PerNs}
use Rattle.hir_collector_rules.specs.HirPerNs.declared.visibility.Visibility.{Visibility}
use Rattle.hir_collector_rules.specs.HirDefMapRules.Macros.{with_diagnostic, with_macro_data, with_macro_def}
use Rattle.hir_collector_rules.specs.HirDefMapRules.Overlay.{Maps}
use Rattle.hir_collector_rules.specs.HirDefMapRules.State.{Map, with_enum}
use Rattle.hir_collector_rules.specs.HirMapParts.declared.diagnostics.DefDiagnostic.{DefDiagnostic}
use Rattle.hir_collector_rules.specs.HirMapParts.declared.origin.ModuleOrigin.{ModuleOrigin}
use Rattle.hir_collector_rules.specs.HirImportRules.Changes.{pushes}
use Rattle.hir_collector_rules.specs.declared.declaration.Declaration.{Declaration}
use Rattle.hir_collector_rules.specs.declared.exported.Export.{Export}
use Rattle.hir_collector_rules.specs.declared.site.Site.{Site}
use Rattle.hir_collector_rules.specs.declared.source_database.Key.TheVariants as keys
use Rattle.hir_collector_rules.specs.Attributes.{export_at}
use Rattle.hir_collector_rules.specs.Changes.{Change, act, changes_imports, perform, tells}
use Rattle.hir_collector_rules.specs.Enums.{variants_of}
use Rattle.hir_collector_rules.specs.ItemIds.{enum_id, macro_def_id, macro_rules_id, module_id, node_of}
use Rattle.hir_collector_rules.specs.Items.{declaration_of, own_visibility}
use Rattle.hir_collector_rules.specs.Keys.{Environment, look, of_variants}
use Rattle.hir_collector_rules.specs.Macros.{macro_declaration, with_textual_macro}
use Rattle.hir_collector_rules.specs.Moves.{IsPassed, Makes, opened, with_export}
use Rattle.hir_collector_rules.proofs.Changes.{Keeps-perform, perform-append}
use Rattle.hir_collector_rules.specs.State.{Core, State, Task, Visit, visits, counted, joined, ticked, with_asked, with_bound, with_map}
use Rattle.hir_collector_rules.specs.Steps.{Rule, May, Numbered, declaring, reads, Sees, after, behind, declares_enum, declares_item, defines_macro}
use Rattle.hir_collector_rules.specs.Steps.{defines_rules, enum_declaration, exporting, exports_macro, macro_data_of, making, reporting, visit}
use Rattle.hir_collector_rules.specs.Steps.{with_declaration, Step}

pub made : {env : Environment} {finished : Maps} {old new : State} (r : Rule) → May finished old r → Sees env finished (reads old r) → Numbered env.tables old r
    → new ≡ after finished old r → Step env finished old new
made r may sees numbered is = record { rule = r; may = may; sees = sees; numbered = numbered; is = is }

-- a step from here
pub record Goes (env : Environment) (finished : Maps) (s : State) : Type 0 where
  pub next : State
  pub step : Step env finished s next

pub goes : {env : Environment} {finished : Maps} {s : State} (r : Rule) → May finished s r → Sees env finished (reads s r) → Numbered env.tables s r
    → Goes env finished s
goes {finished = finished} {s = s} r may sees numbered = record { next = after finished s r; step = made r may sees numbered refl }

-- ---- a declaration

-- what a declaration binds
pub act-declared : (c : Core) (agenda : List Task) (home : ℕ) (name : List ℕ) (items : PerNs)
    → act (joined c agenda) (changes_imports (pushes home (Some name) items None)) ≡ joined (with_bound c home name items) agenda
act-declared c agenda home name items = refl

-- a definition that is listed and bound
pub binds : (c : Core) (home : ℕ) (d : Declaration) (agenda : List Task) → joined (with_declaration c home d) agenda
    ≡ perform (joined c agenda) (declaring home d)
binds c home d agenda = refl

-- changes that are made one after another, where a step ends
pub makes_both : (cs ds : List Change) (c d e : Core) → Makes cs c d → Makes ds d e → (rest : List Task) → joined (counted e) rest
    ≡ ticked (perform (joined c rest) (cs ++ ds))
makes_both cs ds c d e first then_ rest =
    ap ticked (then_.is rest ∙ ap (λ (s : State). perform s ds) (first.is rest) ∙ sym (perform-append cs ds (joined c rest)))

-- they leave what is counted
pub count_kept : (cs : List Change) (c d : Core) → Makes cs c d → d.count ≡ c.count
count_kept cs c d makes = ap (λ (s : State). s.core.count) (makes.is []) ∙ (Keeps-perform cs (joined c [])).count

-- a macro that is noted by its item, put into textual scope, exported and reported
abbrev noted_macro : Map → AstId → MacroId → List ℕ → List (List ℕ) → Map
noted_macro m node makro name helpers = with_macro_data (with_macro_def m node makro) makro (macro_data_of name helpers)

abbrev defines_both : Core → Site → Head → List ℕ → MacroExpander → List (List ℕ) → List Task → MacroId → AstId → ModuleId → State
defines_both c site head name expander helpers rest makro node at =
    ticked (perform (joined (with_map c (with_textual_macro (noted_macro c.map node makro name helpers) site.home name makro)) rest)
    (exporting head name makro ++ reporting at node expander))

-- one that is noted by its item, bound and reported
abbrev defines_item : Core → Site → Declaration → MacroExpander → List (List ℕ) → List Task → MacroId → AstId → ModuleId → State
defines_item c site d expander helpers rest makro node at =
    ticked (perform (joined (with_declaration (with_map c (noted_macro c.map node makro d.name helpers)) site.home d) rest) (reporting at node expander))

module _ {env : Environment} {finished : Maps} where
  -- a `macro_rules`
  pub defined_rules : (c defined exported reported new : Core) (site : Site) (head : Head) (name : List ℕ) (expander : MacroExpander) (helpers : List (List ℕ))
      (done : ℕ)
      → IsPassed c (visit site (leaf head (macro_rules name expander helpers))) done → (rest : List Task) (makro : MacroId) (node : AstId) (at : ModuleId)
      → is_enabled head.attributes ≡ true → makro ≡ macro_rules_id c.map site head.id expander → node ≡ node_of site.tree nodes.MacroRules head.id → at
      ≡ module_id c.map site.home
      → defined ≡ with_map c (with_textual_macro (noted_macro c.map node makro name helpers) site.home name makro) → Makes (exporting head name makro) defined
      exported → Makes (reporting at node expander) exported reported
      → new ≡ counted reported → Step env finished (joined c (visits (behind (visit site (leaf head (macro_rules name expander helpers))) done) ∷ rest))
      (joined new rest)
  defined_rules c defined exported reported new site head name expander helpers done passed rest makro node at enabled of_macro of_node of_module is exports
      reports ends =
      made (defines_rules site head name expander helpers rest) (record { done = done; next = refl; enabled = enabled; passed = passed }) tt tt
      (ap (λ (x : Core). joined x rest) ends
      ∙ makes_both (exporting head name makro) (reporting at node expander) defined exported reported exports reports rest
      ∙ ap (λ (x : Core). ticked (perform (joined x rest) (exporting head name makro ++ reporting at node expander))) is
      ∙ ap (λ (m : MacroId). defines_both c site head name expander helpers rest m node at) of_macro
      ∙ ap (λ (n : AstId). defines_both c site head name expander helpers rest (macro_rules_id c.map site head.id expander) n at) of_node
      ∙ ap (λ (i : ModuleId). defines_both c site head name expander helpers rest (macro_rules_id c.map site head.id expander)
      (node_of site.tree nodes.MacroRules head.id) i) of_module)

  -- a `macro`
  pub defined_macro : (c bound reported new : Core) (site : Site) (head : Head) (name : List ℕ) (expander : MacroExpander) (helpers : List (List ℕ)) (done : ℕ)
      → IsPassed c (visit site (leaf head (macro_def name expander helpers))) done → (rest : List Task) (makro : MacroId) (node : AstId) (at : ModuleId)
      → is_enabled head.attributes ≡ true → makro ≡ macro_def_id c.map site head.id expander → node ≡ node_of site.tree nodes.MacroDef head.id → at
      ≡ module_id c.map site.home
      → bound ≡ with_declaration (with_map c (noted_macro c.map node makro name helpers)) site.home
      (macro_declaration name makro (own_visibility finished c.local c.map site head))
      → Makes (reporting at node expander) bound reported → new ≡ counted reported
      → Step env finished (joined c (visits (behind (visit site (leaf head (macro_def name expander helpers))) done) ∷ rest)) (joined new rest)
  defined_macro c bound reported new site head name expander helpers done passed rest makro node at enabled of_macro of_node of_module is reports ends =
      let vis : Visibility = own_visibility finished c.local c.map site head in
      let id : MacroId = macro_def_id c.map site head.id expander in
      let d : Declaration = macro_declaration name id vis in
      let noted : Core = with_map c (noted_macro c.map (node_of site.tree nodes.MacroDef head.id) id name helpers) in
      made (defines_macro site head name expander helpers rest) (record { done = done; next = refl; enabled = enabled; passed = passed }) tt tt
      (ap (λ (x : Core). joined x rest) ends
      ∙ ap ticked (reports.is rest)
      ∙ ap (λ (x : Core). ticked (perform (joined x rest) (reporting at node expander))) is
      ∙ ap (λ (m : MacroId). defines_item c site (macro_declaration name m vis) expander helpers rest m node at) of_macro
      ∙ ap (λ (n : AstId). defines_item c site d expander helpers rest id n at) of_node
      ∙ ap (λ (i : ModuleId). defines_item c site d expander helpers rest id (node_of site.tree nodes.MacroDef head.id) i) of_module
      ∙ ap (λ (s : State). ticked (perform s (reporting (module_id c.map site.home) (node_of site.tree nodes.MacroDef head.id) expander)))
      (binds noted site.home d rest))

module _ {env : Environment} {finished : Maps} where
  -- an item that declares something
  pub declared : (c new : Core) (v : Visit) (d : Declaration) (done : ℕ) → IsPassed c v done → (rest : List Task) → is_enabled (item_head v.item).attributes
      ≡ true
      → declaration_of finished c.local c.map v ≡ Some d → export_at c.is_proc_macro c.map v.site v.item ≡ None → new
      ≡ counted (with_declaration c v.site.home d)
      → Step env finished (joined c (visits (behind v done) ∷ rest)) (joined new rest)
  declared c new v d done passed rest enabled declares none is =
      made (declares_item v d rest) (record {
        here = record { done = done; next = refl; enabled = enabled; passed = passed };
        declares = declares;
        exports_none = none;
      }) tt tt
      (ap (λ (x : Core). joined x rest) is)

  -- a function that exports a macro
  pub declared_export : (c new : Core) (site : Site) (head : Head) (name : List ℕ) (d : Declaration) (e : Export) (done : ℕ)
      → IsPassed c (visit site (leaf head (function name))) done → (rest : List Task)
      → is_enabled head.attributes ≡ true → declaration_of finished c.local c.map (visit site (leaf head (function name))) ≡ Some d
      → export_at c.is_proc_macro c.map site (leaf head (function name)) ≡ Some e → new ≡ counted (with_export c site head name d e)
      → Step env finished (joined c (visits (behind (visit site (leaf head (function name))) done) ∷ rest)) (joined new rest)
  declared_export c new site head name d e done passed rest enabled declares exports is =
      made (exports_macro site head name d e rest)
      (record { here = record { done = done; next = refl; enabled = enabled; passed = passed }; declares = declares; exports = exports }) tt tt
      (ap (λ (x : Core). joined x rest) is)

  -- an enum
  pub declared_enum : (c new : Core) (site : Site) (head : Head) (name : List ℕ) (found : Option (List VariantItem)) (done : ℕ)
      → IsPassed c (visit site (leaf head (enumeration name))) done → (rest : List Task) → is_enabled head.attributes ≡ true
      → look env.tables env.workspace finished (keys.Variants (enum_id c.map site head.id)) ≡ of_variants found
      → new ≡ counted (with_declaration (with_asked (with_map c (with_enum c.map (enum_id c.map site head.id) (variants_of (enum_id c.map site head.id) found)))
      (keys.Variants (enum_id c.map site head.id))) site.home
      (enum_declaration c.map site head name (own_visibility finished c.local c.map site head)))
      → Step env finished (joined c (visits (behind (visit site (leaf head (enumeration name))) done) ∷ rest)) (joined new rest)
  declared_enum c new site head name found done passed rest enabled sees is =
      made (declares_enum site head name found rest) (record { done = done; next = refl; enabled = enabled; passed = passed }) (sees, tt) tt
      (ap (λ (x : Core). joined x rest) is)

-- a module that is made, listed and bound
module _ (finished : Maps) (c : Core) (site : Site) (head : Head) (name : List ℕ) (origin : ModuleOrigin) (agenda next : List Task) where
  pub opened_after : joined (opened finished c site head name origin) next
      ≡ ticked (perform (joined c agenda) (making finished (joined c agenda) site head name origin next))
  opened_after = refl

  -- and then something is reported
  pub missed_after : (report : DefDiagnostic)
      → joined (with_map (opened finished c site head name origin) (with_diagnostic (opened finished c site head name origin).map report)) next
      ≡ ticked (perform (joined c agenda) (making finished (joined c agenda) site head name origin next ++ tells report ∷ []))
  missed_after report = refl
