-- From the start to the end: what names of a run's map stand for that no import brought, items declare.
use Rattle.std.proofs.Common.{◌≡◌, ◌∙◌, ℕ, zero, suc, Bool, true, false, cond, List, [], ◌∷◌, Option, None, Some, map as list_map, slice_get, refl, sym, ap}
use Rattle.std.proofs.Common.{subst, Contains}
use Rattle.std.proofs.lemmas.Cmp.{nat_list_cmp_total}
use Rattle.std.specs.Prelude.{option_map}
use Rattle.std.specs.BTreeMap.{is_at}
use Rattle.std.specs.Cmp.Lexicographic.{slice_cmp}
use Rattle.std.specs.Map.{remove_entry}
use Rattle.std.specs.Ordering.{nat_cmp}
use Rattle.hir_collector_rules.specs.HirIds.contracts.ids.ModuleDefIdPartialEq.TheImpl as module_def
use Rattle.hir_collector_rules.specs.HirIds.declared.ids.Crate.{Crate}
use Rattle.hir_collector_rules.specs.HirIds.declared.macro_kind.MacroId.{MacroId}
use Rattle.hir_collector_rules.specs.HirIds.declared.ids.MapId.{MapId}
use Rattle.hir_collector_rules.specs.HirIds.declared.ids.ModuleDefId.{ModuleDefId}
use Rattle.hir_collector_rules.specs.HirIds.declared.ids.ModuleDefId.TheVariants as definitions
use Rattle.hir_collector_rules.specs.HirScope.Entries.{item_at}
use Rattle.hir_collector_rules.specs.HirPerNs.PerNs.{Item}
use Rattle.hir_collector_rules.specs.HirScope.Scope.{ScopeValue}
use Rattle.hir_collector_rules.specs.HirScope.Scope.Updates.{censored_item, censored_macro, is_definition}
use Rattle.hir_collector_rules.specs.HirPerNs.declared.imports.ImportOrExternCrate.{ImportOrExternCrate}
use Rattle.hir_collector_rules.specs.HirPerNs.declared.imports.ImportOrGlob.{ImportOrGlob}
use Rattle.hir_collector_rules.specs.HirTables.Tables.{TablesValue}
use Rattle.hir_collector_rules.specs.HirDefMapRules.Overlay.{Maps}
use Rattle.hir_collector_rules.specs.HirDefMapRules.State.{Map, ModuleValue, changed_at, entry_at, entry_of, module_at, with_module_scope, with_scope}
use Rattle.hir_collector_rules.specs.HirImportRules.declared.directive.ImportDirective.{ImportDirective}
use Rattle.hir_collector_rules.specs.declared.exported.ExportedFunction.{ExportedFunction}
use Rattle.hir_collector_rules.specs.Causes.{IsPassed, declarations_of}
use Rattle.hir_collector_rules.specs.Changes.{perform}
use Rattle.hir_collector_rules.specs.Derivation.{CollectedValue}
use Rattle.hir_collector_rules.specs.Ended.{ended, exporting_scope, without_function, without_functions}
use Rattle.hir_collector_rules.specs.Keys.{Environment, environment}
use Rattle.hir_collector_rules.specs.Start.{Beginning, begin_of, exports_macros, holders_by, krate_of, read_by}
use Rattle.hir_collector_rules.specs.State.{Core, State}
use Rattle.hir_collector_rules.specs.Steps.{Steps, acts, asking, more, none}
use Rattle.hir_collector_rules.specs.Workspace.{Workspace, crate_in}
use Rattle.hir_collector_rules.proofs.Asks.{still_asked}
use Rattle.hir_collector_rules.proofs.Changes.{perform_keeps}
use Rattle.hir_collector_rules.proofs.Grows.{Grows-Steps}
use Rattle.hir_collector_rules.proofs.Holds.{in_range-start}
use Rattle.hir_collector_rules.proofs.InRange.{IsInRange, in_range-Steps}
use Rattle.hir_collector_rules.proofs.Moves.{Steps-first}
use Rattle.hir_def_collector_laws.proofs.Bindings.{IsFineScope, fine_last, fine_without}
use Rattle.hir_def_collector_laws.proofs.Ended.{same_id}
use Rattle.hir_def_collector_laws.proofs.Entries.{found_mapped, found_removed}
use Rattle.hir_def_collector_laws.proofs.Imports.{answer_asked, answer_here, first_written}
use Rattle.hir_def_collector_laws.proofs.Listings.{listed-ended, proc-Step}
use Rattle.hir_def_collector_laws.proofs.Written.{AreAsked, IsAllWritten, written-Steps}
use Rattle.hir_def_collector_written.specs.Declared.{AreOwn, BindingsAreDeclared, shown_at}
use Rattle.hir_def_collector_written.proofs.OwnBindings.{IsFine, IsOwnState, own-act}
use Rattle.hir_def_collector_written.proofs.OwnRules.{OwnMacro, OwnType, OwnValue, own_rule}
use Rattle.hir_def_collector_written.proofs.OwnScopes.{IsOwnScope, own_longer}

proc-Steps : {env : Environment} {finished : Maps} {begun last : State} → Steps env finished begun last → last.core.is_proc_macro ≡ begun.core.is_proc_macro
proc-Steps none = refl
proc-Steps (more old new before step) = proc-Step step ∙ proc-Steps before

-- ---- what others see of the root of a procedural-macro crate

same_types : (fs : List ExportedFunction) (s : ScopeValue) → (without_functions fs s).types ≡ s.types
same_types [] s = refl
same_types (f ∷ fs) s = same_types fs (without_function f.name f.id s)

same_macros : (fs : List ExportedFunction) (s : ScopeValue) → (without_functions fs s).macros ≡ s.macros
same_macros [] s = refl
same_macros (f ∷ fs) s = same_macros fs (without_function f.name f.id s)

-- a value that is found without some functions is found with them
found_without : (rs : List ImportDirective) (home : ℕ) (fs : List ExportedFunction) (s : ScopeValue) → IsFineScope rs home s
    → (name : List ℕ) (i : Item ModuleDefId ImportOrGlob)
    → item_at (without_functions fs s).values name ≡ Some i → item_at s.values name ≡ Some i
found_without rs home [] s f name i e = e
found_without rs home (x ∷ xs) s f name i e =
    back (is_definition module_def.ghosts.eq (definitions.FunctionId x.id) (item_at s.values x.name))
    (found_without rs home xs (without_function x.name x.id s) (fine_without rs home (x ∷ []) s f) name i e)
  where
    back : (b : Bool) → item_at (cond b (remove_entry (is_at (slice_cmp nat_cmp x.name)) s.values) s.values) name ≡ Some i → item_at s.values name ≡ Some i
    back true h = found_removed (slice_cmp nat_cmp) nat_list_cmp_total x.name name s.values i f.alone h
    back false h = h

-- an item of a list where each is shown so
record IsShownFrom {D I : Type 0} (new : Item D I → Item D I) (items : List (List ℕ × Item D I)) (name : List ℕ) (i : Item D I) : Type 0 where
  own : Item D I
  stands : item_at items name ≡ Some own
  shown : i ≡ new own

shown_from : {D I : Type 0} (new : Item D I → Item D I) (items : List (List ℕ × Item D I)) (name : List ℕ) (i : Item D I)
    → item_at (list_map (λ (e : List ℕ × Item D I). (e.0, new e.1)) items) name ≡ Some i → IsShownFrom new items name i
shown_from {D = D} {I = I} new items name i e = go (item_at items name) refl (sym (found_mapped (is_at (slice_cmp nat_cmp name)) new items) ∙ e)
  where
    go : (o : Option (Item D I)) → item_at items name ≡ o → option_map new o ≡ Some i → IsShownFrom new items name i
    go None is h = absurd (let no : ⊥ = cc in no)
    go (Some own) is h = let same : new own ≡ i = cc in record { own = own; stands = is; shown = sym same }

-- ---- which modules show all that they bind

data ShowsAll : Bool → ℕ → Type 0 where
  every_one : (number : ℕ) → ShowsAll false number
  not_the_root : (number : ℕ) → ShowsAll true (suc number)

shown_same : {X : Type 0} {exporting : Bool} {number : ℕ} → ShowsAll exporting number → (censor : X → X) (i : X) → i ≡ shown_at exporting number censor i
shown_same (every_one number) censor i = refl
shown_same (not_the_root number) censor i = refl

module _ (tables : TablesValue) (w : Workspace) (finished : Maps) (from : Beginning) (answer : CollectedValue) (last : State) where
  abbrev seen : Maps
  seen = read_by w finished from.start

  abbrev exporting_root : Bool
  exporting_root = exports_macros from.start (crate_in w (krate_of from.start))

  abbrev Own : State → Type 0
  Own s = IsOwnState (OwnType tables w finished from answer last) (OwnValue tables w finished from answer last) (OwnMacro tables w finished from answer last) s

  -- ---- steps

  module _ (here : answer.map.id.krate ≡ krate_of from.start) (asked : AreAsked tables w from answer last)
      (lists : (number : ℕ) (def : ModuleDefId) → Contains (declarations_of (module_at last.core.map number)) def → Contains
      (declarations_of (module_at answer.map number)) def)
      (first : IsAllWritten tables w from answer (begin_of tables w finished from)) (start : Own (begin_of tables w finished from)) where
    own-Steps : {s : State} → Steps (environment tables w) seen (begin_of tables w finished from) s → Steps (environment tables w) seen s last → Own s
    own-Steps none later = start
    own-Steps (more old new before step) later =
        let rest : Steps (environment tables w) seen old last = Steps-first step later in
        let f : Own old = own-Steps before rest in
        let written : IsAllWritten tables w from answer old =
        written-Steps tables w from answer here before (λ key h. asked key (still_asked rest key h)) first in
        let inside : IsInRange old = in_range-Steps before (in_range-start tables w seen (holders_by finished from.start) from) in
        let passed : IsPassed tables w finished from last old = record { before = before; after = rest } in
        let proc : old.core.is_proc_macro ≡ exporting_root = proc-Steps before in
        let listed : (number : ℕ) (def : ModuleDefId) → Contains (declarations_of (module_at new.core.map number)) def → Contains
        (declarations_of (module_at answer.map number)) def =
        λ number def h. lists number def ((Grows-Steps later).listed number def h) in
        let listed_now : (number : ℕ) (def : ModuleDefId) → Contains
        (declarations_of (module_at (perform (asking old step.rule) (acts seen old step.rule)).core.map number)) def
        → Contains (declarations_of (module_at answer.map number)) def =
        λ number def h. listed number def (subst (λ (t : State). Contains (declarations_of (module_at t.core.map number)) def) (sym step.is) h) in
        let begun : Own (asking old step.rule) = record { modules = f.modules } in
        let done : Own (perform (asking old step.rule) (acts seen old step.rule)) =
        perform_keeps Own
        (IsFine (OwnType tables w finished from answer last) (OwnValue tables w finished from answer last) (OwnMacro tables w finished from answer last))
        (own-act (OwnType tables w finished from answer last) (OwnValue tables w finished from answer last) (OwnMacro tables w finished from answer last))
        (acts seen old step.rule) (asking old step.rule) begun
        (own_rule tables w finished from answer last old f inside written passed proc step.rule step.may listed_now) in
        subst Own (sym step.is) (record { modules = done.modules })

  -- ---- the end

  abbrev AreOwnAt : Bool → ℕ → List ℕ → Option ModuleValue → Type 0
  AreOwnAt exporting number name o = AreOwn tables w finished from answer last exporting number name (entry_of o name)

  abbrev OwnScope : ℕ → ScopeValue → Type 0
  OwnScope number s =
      IsOwnScope (OwnType tables w finished from answer last) (OwnValue tables w finished from answer last)
      (OwnMacro tables w finished from answer last) last.core.globs.brought number s

  nothing_own : (exporting : Bool) (number : ℕ) (name : List ℕ) → AreOwnAt exporting number name None
  nothing_own exporting number name = record {
    types = λ i e lone. absurd (let no : ⊥ = cc in no);
    values = λ i e lone. absurd (let no : ⊥ = cc in no);
    macros = λ i e lone. absurd (let no : ⊥ = cc in no);
  }

  -- a module that isn't censored
  module _ (exporting : Bool) (number : ℕ) (shows : ShowsAll exporting number) where
    own_uncensored : (name : List ℕ) (o : Option ModuleValue) → ((v : ModuleValue) → o ≡ Some v → OwnScope number v.scope) → AreOwnAt exporting number name o
    own_uncensored name None f = nothing_own exporting number name
    own_uncensored name (Some v) f =
        let g : OwnScope number v.scope = f v refl in
        record {
          types = λ i e lone. record { own = i; is_own = (g.types name i e lone).own; shown = shown_same shows (censored_item answer.map.id.krate) i };
          values = λ i e lone. record { own = i; is_own = (g.values name i e lone).own; shown = shown_same shows (censored_item answer.map.id.krate) i };
          macros = λ i e lone. record { own = i; is_own = (g.macros name i e lone).own; shown = shown_same shows (censored_macro answer.map.id.krate) i };
        }

  -- the root that is
  module _ (rs : List ImportDirective) (fs : List ExportedFunction) (v : ModuleValue) (fine : IsFineScope rs 0 v.scope) (g : OwnScope 0 v.scope) where
    abbrev less : ModuleValue
    less = with_module_scope (exporting_scope answer.map.id.krate fs) v

    own_censored : (name : List ℕ) → AreOwnAt true 0 name (Some less)
    own_censored name = record {
      types = λ i e lone.
          let p : IsShownFrom (censored_item answer.map.id.krate) (without_functions fs v.scope).types name i =
          shown_from (censored_item answer.map.id.krate) (without_functions fs v.scope).types name i e in
          let stood : item_at v.scope.types name ≡ Some p.own =
          sym (ap (λ (items : List (List ℕ × Item ModuleDefId ImportOrExternCrate)). item_at items name) (same_types fs v.scope)) ∙ p.stands in
          record {
            own = p.own;
            is_own =
                (g.types name p.own stood (sym (ap (λ (x : Item ModuleDefId ImportOrExternCrate). x.import) p.shown) ∙ lone)).own;
            shown = p.shown;
          };
      values = λ i e lone.
          let p : IsShownFrom (censored_item answer.map.id.krate) (without_functions fs v.scope).values name i =
          shown_from (censored_item answer.map.id.krate) (without_functions fs v.scope).values name i e in
          let stood : item_at v.scope.values name ≡ Some p.own = found_without rs 0 fs v.scope fine name p.own p.stands in
          record {
            own = p.own;
            is_own =
                (g.values name p.own stood (sym (ap (λ (x : Item ModuleDefId ImportOrGlob). x.import) p.shown) ∙ lone)).own;
            shown = p.shown;
          };
      macros = λ i e lone.
          let p : IsShownFrom (censored_macro answer.map.id.krate) (without_functions fs v.scope).macros name i =
          shown_from (censored_macro answer.map.id.krate) (without_functions fs v.scope).macros name i e in
          let stood : item_at v.scope.macros name ≡ Some p.own =
          sym (ap (λ (items : List (List ℕ × Item MacroId ImportOrExternCrate)). item_at items name) (same_macros fs v.scope)) ∙ p.stands in
          record {
            own = p.own;
            is_own =
                (g.macros name p.own stood (sym (ap (λ (x : Item MacroId ImportOrExternCrate). x.import) p.shown) ∙ lone)).own;
            shown = p.shown;
          };
    }

  module _ (rs : List ImportDirective) (c : Core) (krate : c.map.id.krate ≡ answer.map.id.krate)
      (fine : (number : ℕ) (v : ModuleValue) → slice_get c.map.modules number ≡ Some v → IsFineScope rs number v.scope)
      (f : (number : ℕ) (v : ModuleValue) → slice_get c.map.modules number ≡ Some v → OwnScope number v.scope) where
    abbrev AllOwn : Bool → List ModuleValue → Type 0
    AllOwn exporting ms = (number : ℕ) (name : List ℕ) → AreOwnAt exporting number name (slice_get ms number)

    censored_root : (ms : List ModuleValue) → ((number : ℕ) (v : ModuleValue) → slice_get ms number ≡ Some v → IsFineScope rs number v.scope)
        → ((number : ℕ) (v : ModuleValue) → slice_get ms number ≡ Some v → OwnScope number v.scope)
        → AllOwn true (changed_at ms 0 (with_module_scope (exporting_scope answer.map.id.krate c.exported)))
    censored_root [] h g number name = nothing_own true number name
    censored_root (v ∷ vs) h g zero name = own_censored rs c.exported v (h 0 v refl) (g 0 v refl) name
    censored_root (v ∷ vs) h g (suc number) name = own_uncensored true (suc number) (not_the_root number) name (slice_get vs number) (λ x e. g (suc number) x e)

    own_ended : AllOwn c.is_proc_macro (ended c).modules
    own_ended = go c.is_proc_macro
      where
        go : (b : Bool) → AllOwn b (cond b (with_scope c.map 0 (exporting_scope c.map.id.krate c.exported)) c.map).modules
        go true =
            subst (λ (k : Crate). AllOwn true (changed_at c.map.modules 0 (with_module_scope (exporting_scope k c.exported)))) (sym krate)
            (censored_root c.map.modules fine f)
        go false = λ number name. own_uncensored false number (every_one number) name (slice_get c.map.modules number) (λ v e. f number v e)

pub bindings_are_declared : BindingsAreDeclared
bindings_are_declared tables w finished from answer e number name =
    let last : State = e.last in
    let lists : (n : ℕ) (def : ModuleDefId) → Contains (declarations_of (module_at last.core.map n)) def → Contains
    (declarations_of (module_at answer.map n)) def =
    λ n def h. subst (λ (defs : List ModuleDefId). Contains defs def)
    (sym (ap (λ (m : Map). declarations_of (module_at m n)) e.map_is ∙ listed-ended last.core n)) h in
    let own =
    own-Steps tables w finished from answer last (answer_here tables w finished from answer e) (answer_asked tables w finished from answer e) lists
    (first_written tables w finished from answer e)
    (record {
      modules = own_longer (OwnType tables w finished from answer last) (OwnValue tables w finished from answer last)
          (OwnMacro tables w finished from answer last) _ [] _ refl
          (record { each = λ k m h. absurd (let no : ⊥ = cc in no) });
    }) e.derived none in
    let krate : last.core.map.id.krate ≡ answer.map.id.krate =
    sym (ap (λ (m : Map). m.id.krate) e.map_is ∙ ap (λ (id : MapId). id.krate) (same_id last.core)) in
    let all =
    own_ended tables w finished from answer last last.core.reached last.core krate
    (fine_last tables w finished from answer e).modules.each own.modules.each number name in
    let proc : last.core.is_proc_macro ≡ exports_macros from.start (crate_in w (krate_of from.start)) = proc-Steps e.derived in
    subst (λ (b : Bool). AreOwn tables w finished from answer last b number name (entry_at answer.map number name)) proc
    (subst (λ (m : Map). AreOwn tables w finished from answer last last.core.is_proc_macro number name (entry_at m number name)) (sym e.map_is) all)
