-- A module in which no call is to be visited, and none waits, stays so: no expansion declares anything in it.
use Rattle.std.proofs.Common.{◌≡◌, ◌≢◌, ◌<◌, ◌||◌, ◌+◌, ℕ, zero, suc, Bool, true, false, List, [], ◌∷◌, ◌++◌, length, slice_get, Option, None, Some, sym, subst}
use Rattle.std.proofs.Common.{arith, append_assoc}
use Rattle.hir_collector_rules.specs.HirBase.ModPath.{Path}
use Rattle.hir_collector_rules.specs.HirIds.declared.ids.AdtId.{AdtId}
use Rattle.hir_collector_rules.specs.HirIds.declared.ast_id.AstId.{AstId}
use Rattle.hir_collector_rules.specs.HirIds.declared.ast_id.AttrId.{AttrId}
use Rattle.hir_collector_rules.specs.HirUseTree.UseTree.{count_of}
use Rattle.hir_collector_rules.specs.HirItemTree.Collected.{Numbered, is_enabled}
use Rattle.hir_collector_rules.specs.HirItemTree.Kinds.{item_head}
use Rattle.hir_collector_rules.specs.HirItemTree.KeptForest.{Head, KeptForest, KeptItem, constant, enumeration, extern_block}
use Rattle.hir_collector_rules.specs.HirItemTree.KeptForest.{extern_crate, function, holder, implementation}
use Rattle.hir_collector_rules.specs.HirItemTree.KeptForest.{import, inline_module, item, leaf, macro_call, macro_def}
use Rattle.hir_collector_rules.specs.HirItemTree.KeptForest.{macro_rules, no_items, outline_module, static_item}
use Rattle.hir_collector_rules.specs.HirItemTree.KeptForest.{structure, trait_item, type_alias, union_structure}
use Rattle.hir_collector_rules.specs.HirModDir.Directory.{Directory}
use Rattle.hir_collector_rules.specs.HirModDir.ModuleFiles.{inline_directory}
use Rattle.hir_collector_rules.specs.HirDefMapRules.Overlay.{Maps}
use Rattle.hir_collector_rules.specs.HirImportRules.Rules.{acts as import_acts}
use Rattle.hir_collector_rules.specs.declared.macro_directive.MacroDirective.{MacroDirective}
use Rattle.hir_collector_rules.specs.declared.site.Site.{Site}
use Rattle.hir_collector_rules.specs.Attributes.{AreAlwaysPassed, attr_id, is_always_passed, is_passed, item_node}
use Rattle.hir_collector_rules.specs.Calls.{call_site, error_of}
use Rattle.hir_collector_rules.specs.Changes.{Change, lists, makes, gives_variants, begins_paths, reaches, awaits, ends, settles, changes_imports, adds_textual}
use Rattle.hir_collector_rules.specs.Changes.{takes_textual, defines, describes, helps, lists_derive, notes, exports, uses_macros, tells, goes_on, act}
use Rattle.hir_collector_rules.specs.Keys.{Environment}
use Rattle.hir_collector_rules.specs.Macros.{is_macro_use}
use Rattle.hir_collector_rules.specs.State.{State, Task, Visit, visits, closes, import_state, visits_over}
use Rattle.hir_collector_rules.specs.Steps.{Rule, drops_item, awaits_attribute, lists_derives, faults_derive, exports_macro, reaches_call, rests}
use Rattle.hir_collector_rules.specs.Steps.{expands_call, meets_macro}
use Rattle.hir_collector_rules.specs.Steps.{drops_call, drops_reached, derives_builtin, skips_attribute, falls_back, defines_rules, defines_macro}
use Rattle.hir_collector_rules.specs.Steps.{closes_module, closing, declares_item, declares_enum, lists_constant, lists_impl, opens_module, opens_file}
use Rattle.hir_collector_rules.specs.Steps.{drops_file, misses_file, enters_block, reaches_imports, reaches_crate, resolves_imports, HasAttribute, May, Step}
use Rattle.hir_collector_rules.specs.Steps.{acts, asking, derives_from, inside_block, inside_file, inside_module, path_of, visits_inside}
use Rattle.hir_collector_rules.proofs.Changes.{AllFine, all_fine, fine_bringing, fine_expanding, fine_macro, fine_reporting, perform_keeps}
use Rattle.hir_collector_rules.proofs.InRange.{CallsBelow, VisitsBelow}
use Rattle.hir_def_collector_laws.specs.Declares.{HasNoCall, HaveNoCall}
use Rattle.hir_def_collector_laws.proofs.Passed.{IsLookedUp, always_passed, looked_up}

-- no visit in a module is of a call, or of a block that holds one
abbrev pub NoCallNext : List (List ℕ) → ℕ → List Task → Type 0
NoCallNext tools k [] = Unit {0}
NoCallNext tools k (visits v ∷ ts) = (v.site.home ≡ k → HasNoCall tools v.item) × NoCallNext tools k ts
NoCallNext tools k (closes parent child ∷ ts) = NoCallNext tools k ts

-- no call stands in it
abbrev pub NoCallIn : ℕ → List MacroDirective → Type 0
NoCallIn k [] = Unit {0}
NoCallIn k (d ∷ ds) = (d.site.home ≢ k) × NoCallIn k ds

pub record IsQuiet (tools : List (List ℕ)) (k : ℕ) (s : State) : Type 0 where
  pub visits : NoCallNext tools k s.agenda
  pub calls : NoCallIn k s.core.calls

-- ---- lists

pub quiet_below : (tools : List (List ℕ)) (k : ℕ) (vs : List Task) → VisitsBelow k vs → NoCallNext tools k vs
quiet_below tools k [] f = tt
quiet_below tools k (visits v ∷ ts) f = (λ e. absurd (let no : ⊥ = omega (arith, f.0, e) in no), quiet_below tools k ts f.1)
quiet_below tools k (closes parent child ∷ ts) f = quiet_below tools k ts f

pub calls_below : (k : ℕ) (ds : List MacroDirective) → CallsBelow k ds → NoCallIn k ds
calls_below k [] f = tt
calls_below k (d ∷ ds) f = (λ e. let no : ⊥ = omega (arith, f.0, e) in no, calls_below k ds f.1)

calls_joined : (k : ℕ) (ds es : List MacroDirective) → NoCallIn k ds → NoCallIn k es → NoCallIn k (ds ++ es)
calls_joined k [] es f g = g
calls_joined k (d ∷ ds) es f g = (f.0, calls_joined k ds es f.1 g)

pub call_apart : (k : ℕ) (ds : List MacroDirective) (i : ℕ) (d : MacroDirective) → NoCallIn k ds → slice_get ds i ≡ Some d → d.site.home ≢ k
call_apart k [] i d f e = absurd (let no : ⊥ = cc in no)
call_apart k (x ∷ xs) zero d f e = let same : x ≡ d = cc in subst (λ (y : MacroDirective). y.site.home ≢ k) same f.0
call_apart k (x ∷ xs) (suc i) d f e = call_apart k xs i d f.1 e

-- visits of one site come before others
quiet_before : (tools : List (List ℕ)) (k : ℕ) (s : Site) (is : KeptForest) (rest : List Task) → (s.home ≡ k → HaveNoCall tools is) → NoCallNext tools k rest
    → NoCallNext tools k (visits_over s is ++ rest)
quiet_before tools k s no_items rest f g = g
quiet_before tools k s (item i is) rest f g = (λ e. (f e).0, quiet_before tools k s is rest (λ e. (f e).1) g)

pub quiet_of : (tools : List (List ℕ)) (k : ℕ) (s : Site) (is : KeptForest) → (s.home ≡ k → HaveNoCall tools is) → NoCallNext tools k (visits_over s is)
quiet_of tools k s no_items f = tt
quiet_of tools k s (item i is) f = (λ e. (f e).0, quiet_of tools k s is (λ e. (f e).1))

quiet_closing : (tools : List (List ℕ)) (k : ℕ) (marked : Bool) (parent child : ℕ) (rest : List Task) → NoCallNext tools k rest
    → NoCallNext tools k (closing marked parent child ++ rest)
quiet_closing tools k true parent child rest f = f
quiet_closing tools k false parent child rest f = f

pub quiet_closed : (tools : List (List ℕ)) (k : ℕ) (s : Site) (is : KeptForest) (marked : Bool) (parent child : ℕ) (rest : List Task)
    → (s.home ≡ k → HaveNoCall tools is) → NoCallNext tools k rest
    → NoCallNext tools k ((visits_over s is ++ closing marked parent child) ++ rest)
quiet_closed tools k s is marked parent child rest f g =
    subst (NoCallNext tools k) (sym (append_assoc (visits_over s is) (closing marked parent child) rest))
    (quiet_before tools k s is (closing marked parent child ++ rest) f (quiet_closing tools k marked parent child rest g))

quiet_next : (tools : List (List ℕ)) (k : ℕ) (ts : List Task) (v : Visit) (rest : List Task) → NoCallNext tools k ts → ts ≡ visits v ∷ rest
    → (v.site.home ≡ k → HasNoCall tools v.item) × NoCallNext tools k rest
quiet_next tools k ts v rest f e = subst (NoCallNext tools k) e f

-- ---- changes

module _ (tools : List (List ℕ)) (k : ℕ) where
  abbrev StaysQuiet : State → Change → Type 0
  StaysQuiet s (awaits calls) = NoCallIn k calls
  StaysQuiet s (goes_on vs) = NoCallNext tools k vs
  StaysQuiet s other = Unit {0}

  quiet-act : (s : State) (c : Change) → IsQuiet tools k s → StaysQuiet s c → IsQuiet tools k (act s c)
  quiet-act s (awaits calls) p fine = record { visits = p.visits; calls = calls_joined k s.core.calls calls p.calls fine }
  quiet-act s (goes_on vs) p fine = record { visits = fine; calls = p.calls }
  quiet-act s other p fine = record { visits = p.visits; calls = p.calls }

  -- ---- rules

  module _ (finished : Maps) (s : State) (same : s.core.map.crate_data.registered_tools ≡ tools) (p : IsQuiet tools k s) (low : k < length s.core.map.modules) where
    next : (v : Visit) (rest : List Task) → s.agenda ≡ visits v ∷ rest → v.site.home ≡ k → HasNoCall tools v.item
    next v rest e = (quiet_next tools k s.agenda v rest p.visits e).0

    left : (v : Visit) (rest : List Task) → s.agenda ≡ visits v ∷ rest → NoCallNext tools k rest
    left v rest e = (quiet_next tools k s.agenda v rest p.visits e).1

    -- the next module is another one
    new_module : (is : KeptForest) → length s.core.map.modules ≡ k → HaveNoCall tools is
    new_module is e = absurd (let no : ⊥ = omega (arith, low, e) in no)

    module_inside : (site : Site) (head : Head) (o : Option Directory) (items : KeptForest) (rest : List Task) → NoCallNext tools k rest
        → NoCallNext tools k (visits_inside s.core.map site head o items ++ rest)
    module_inside site head None items rest f = f
    module_inside site head (Some dir) items rest f =
        quiet_closed tools k (inside_module s.core.map site dir) items (is_macro_use head.attributes) site.home (length s.core.map.modules) rest
        (new_module items) f

    -- an item for whose attribute something is looked up isn't one of these
    looks_up : (i : KeptItem) → is_enabled (item_head i).attributes ≡ true → HasNoCall tools i → AreAlwaysPassed tools (item_head i).attributes.attributes
    looks_up (leaf head (macro_call path)) on none = absurd (let off : is_enabled head.attributes ≡ false = none in let no : ⊥ = cc in no)
    looks_up (leaf head (import tree)) on none = none on
    looks_up (leaf head (extern_crate name alias)) on none = none on
    looks_up (leaf head (function name)) on none = none on
    looks_up (leaf head (structure name shape fields)) on none = none on
    looks_up (leaf head (union_structure name fields)) on none = none on
    looks_up (leaf head (enumeration name)) on none = none on
    looks_up (leaf head (constant name)) on none = none on
    looks_up (leaf head (static_item name)) on none = none on
    looks_up (leaf head (trait_item name)) on none = none on
    looks_up (leaf head (implementation of_trait)) on none = none on
    looks_up (leaf head (type_alias name)) on none = none on
    looks_up (leaf head (outline_module name)) on none = none on
    looks_up (leaf head (macro_rules name expander helpers)) on none = none on
    looks_up (leaf head (macro_def name expander helpers)) on none = none on
    looks_up (holder head extern_block items) on none = none.0 on
    looks_up (holder head (inline_module name) items) on none = none on

    attribute_apart : (v : Visit) (rest : List Task) (at : ℕ) (a : Numbered) → HasAttribute s v at a rest → v.site.home ≢ k
    attribute_apart v rest at a has e =
        let found : IsLookedUp s.core.map (item_node v.site v.item) (item_head v.item).attributes.attributes v.done at a =
        looked_up s.core.map (item_node v.site v.item) (item_head v.item).attributes.attributes v.done at a has.active in
        let always : is_always_passed tools a ≡ true = looks_up v.item has.on.enabled (next v rest has.on.next e) a found.among in
        let passed : is_passed s.core.map (item_node v.site v.item) a ≡ true =
        always_passed s.core.map (item_node v.site v.item) a (subst (λ (ts : List (List ℕ)). is_always_passed ts a ≡ true) (sym same) always) in
        let unpassed : is_passed s.core.map (item_node v.site v.item) a ≡ false = found.unpassed in
        let no : ⊥ = cc in
        no

    derives_apart : (site : Site) (node : AstId) (attr : AttrId) (adt : AdtId) → site.home ≢ k → (index : ℕ) (paths : List Path)
        → NoCallIn k (derives_from site node attr adt index paths)
    derives_apart site node attr adt apart index [] = tt
    derives_apart site node attr adt apart index (path ∷ paths) = (apart, derives_apart site node attr adt apart (count_of (index + 1)) paths)

    quiet_rule : (r : Rule) → May finished s r → AllFine StaysQuiet (asking s r) (acts finished s r)
    quiet_rule (drops_item v report rest) may = (left v rest may.next, (tt, tt))
    quiet_rule (declares_item v d rest) may = (left _ rest may.here.next, (tt, (tt, tt)))
    quiet_rule (declares_enum site head name found rest) may = (left _ rest may.next, (tt, (tt, (tt, tt))))
    quiet_rule (lists_constant site head rest) may = (left _ rest may.next, (tt, tt))
    quiet_rule (lists_impl site head of_trait rest) may = (left _ rest may.next, (tt, tt))
    quiet_rule (opens_module site head name items rest) may =
        (tt, (tt, (module_inside site head (inline_directory site.dir name (path_of head)) items rest (left _ rest may.next), (tt, (tt, tt)))))
    quiet_rule (opens_file site head name search file rest) may =
        let quiet = quiet_closed tools k (inside_file s.core.map file) file.tree.items (is_macro_use head.attributes || is_macro_use file.tree.attributes)
        site.home (length s.core.map.modules) rest
        (new_module file.tree.items) (left _ rest may.looks.here.next) in
        (tt, (tt, (quiet, (tt, (tt, tt)))))
    quiet_rule (drops_file site head name search report rest) may = (left _ rest may.looks.here.next, (tt, tt))
    quiet_rule (misses_file site head name search report rest) may = (tt, (tt, (left _ rest may.looks.here.next, (tt, (tt, (tt, tt))))))
    quiet_rule (enters_block site head items rest) may =
        (quiet_before tools k (inside_block s.core.map site head) items rest (λ e. (next _ rest may.next e).1 may.enabled) (left _ rest may.next), (tt, tt))
    quiet_rule (reaches_imports site head tree rest) may = (left _ rest may.next, (tt, (tt, tt)))
    quiet_rule (reaches_crate site head name alias rest) may = (left _ rest may.next, (tt, (tt, (tt, (tt, tt)))))
    quiet_rule (defines_rules site head name expander helpers rest) may =
        (left _ rest may.next, (tt, (tt, (tt, fine_macro StaysQuiet _ _ expander (λ t. tt) head name _ (λ t. tt) _))))
    quiet_rule (defines_macro site head name expander helpers rest) may =
        (left _ rest may.next, (tt, (tt, (tt, (tt, fine_reporting StaysQuiet _ _ expander (λ t. tt) _)))))
    quiet_rule (closes_module parent child rest) may = (subst (NoCallNext tools k) may p.visits, (tt, tt))
    quiet_rule (awaits_attribute v a k_ rest) may = (left v rest may.has.on.next, ((λ e. attribute_apart v rest may.at a may.has e, tt), tt))
    quiet_rule (lists_derives v at a adt paths call rest) may =
        let apart : v.site.home ≢ k = λ e. attribute_apart v rest at a may.has e in
        ((λ e. absurd (apart e), left v rest may.has.on.next), (derives_apart v.site (item_node v.site v.item) (attr_id a) adt apart 0 paths, (tt, tt)))
    quiet_rule (faults_derive v at report rest) may = ((λ e. absurd (attribute_apart v rest at may.attribute may.has e), left v rest may.has.on.next), (tt, tt))
    quiet_rule (exports_macro site head name d e rest) may = (left _ rest may.here.next, (tt, (tt, (tt, (tt, (tt, (tt, tt)))))))
    quiet_rule (reaches_call site head path rest) may =
        let apart : site.home ≢ k =
        λ e.
        let on : is_enabled head.attributes ≡ true = may.enabled in
        let off : is_enabled head.attributes ≡ false = next _ rest may.next e in
        let no : ⊥ = cc in
        no in
        (left _ rest may.next, ((apart, tt), tt))
    quiet_rule (meets_macro i d makro x) may = (tt, tt)
    quiet_rule rests may = (tt, tt)
    quiet_rule (expands_call i d makro x) may =
        let apart : d.site.home ≢ k = call_apart k s.core.calls i d p.calls may.called.due.waiting.call in (
          tt,
          (
            quiet_of tools k (call_site d x.id) x.tree.tree.items (λ e. absurd (apart e)),
            (tt, fine_expanding StaysQuiet _ (λ t helper. tt) _ _ d (error_of x.there) (λ t text. tt) _),
          ),
        )
    quiet_rule (drops_call i d) may = (tt, tt)
    quiet_rule (drops_reached i d makro) may = (tt, fine_bringing StaysQuiet _ (λ t helper. tt) _ _)
    quiet_rule (derives_builtin i d makro imp) may = (tt, (tt, (tt, fine_bringing StaysQuiet _ (λ t helper. tt) _ _)))
    quiet_rule (skips_attribute i d k_ waited) may =
        let apart : d.site.home ≢ k = call_apart k s.core.calls i d p.calls may.due.waiting.call in
        (tt, ((λ e. absurd (apart e), tt), tt))
    quiet_rule (falls_back i d k_ waited) may =
        let apart : d.site.home ≢ k = call_apart k s.core.calls i d p.calls may.waiting.call in
        (tt, (tt, ((λ e. absurd (apart e), tt), tt)))
    quiet_rule (resolves_imports rule) may = all_fine StaysQuiet (λ t c. tt) (import_acts finished (import_state s) rule) (asking s (resolves_imports rule))

  -- ---- steps

  pub quiet-Step : {env : Environment} {finished : Maps} {old new : State} → old.core.map.crate_data.registered_tools ≡ tools → k < length old.core.map.modules
      → Step env finished old new → IsQuiet tools k old → IsQuiet tools k new
  quiet-Step {finished = finished} {old = old} same low step p =
      let done = perform_keeps (IsQuiet tools k) StaysQuiet quiet-act (acts finished old step.rule) (asking old step.rule)
      (record { visits = p.visits; calls = p.calls }) (quiet_rule finished old same p low step.rule step.may) in
      subst (IsQuiet tools k) (sym step.is) (record { visits = done.visits; calls = done.calls })
