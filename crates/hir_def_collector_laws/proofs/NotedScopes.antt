-- Where a glob brought what a name stands for, it is noted along which edge: in each scope of a map.
use Rattle.std.proofs.Common.{◌≡◌, ◌≢◌, ◌∙◌, ℕ, Bool, true, false, cond, List, [], ◌∷◌, ◌++◌, Option, None, Some, is_some, option_and_then, slice_get}
use Rattle.std.proofs.Common.{if◌then◌else◌, refl, sym, ap, subst, true≢false}
use Rattle.hir_collector_rules.specs.HirIds.contracts.ids.ModuleDefIdPartialEq.TheImpl as module_def
use Rattle.hir_collector_rules.specs.HirIds.contracts.macro_kind.MacroIdPartialEq.TheImpl as makro
use Rattle.hir_collector_rules.specs.HirIds.declared.macro_kind.MacroId.{MacroId}
use Rattle.hir_collector_rules.specs.HirIds.declared.ids.MapId.{MapId}
use Rattle.hir_collector_rules.specs.HirIds.declared.ids.ModuleDefId.{ModuleDefId}
use Rattle.hir_collector_rules.specs.HirIds.declared.ids.TraitId.{TraitId}
use Rattle.hir_collector_rules.specs.HirIds.declared.ids.ModuleDefId.TheVariants as definitions
use Rattle.hir_collector_rules.specs.HirPerNs.contracts.imports.ImportOrExternCratePartialEq.TheImpl as item_import
use Rattle.hir_collector_rules.specs.HirPerNs.contracts.imports.ImportOrGlobPartialEq.TheImpl as glob_import
use Rattle.hir_collector_rules.specs.HirScope.Bindings.{Candidate, macro_candidate, type_candidate, value_candidate}
use Rattle.hir_collector_rules.specs.HirScope.Bindings.{with_item_definition, with_item_visibility, written_places}
use Rattle.hir_collector_rules.specs.HirScope.Entries.{item_at}
use Rattle.hir_collector_rules.specs.HirScope.Globs.{GlobNames, Place, has_place, with_place, without_place}
use Rattle.hir_collector_rules.specs.HirScope.ImportRecords.{is_glob}
use Rattle.hir_collector_rules.specs.HirPerNs.Imports.{glob_of}
use Rattle.hir_collector_rules.specs.HirPerNs.PerNs.{Item, macros_only, types_only, value_import, values_only}
use Rattle.hir_collector_rules.specs.HirScope.Scope.{ScopeValue, empty_scope}
use Rattle.hir_collector_rules.specs.HirScope.Scope.Push.{pushed_globs, pushed_scope, taken_macro, taken_type, taken_value}
use Rattle.hir_collector_rules.specs.HirPerNs.declared.imports.ImportOrDef.TheVariants as reached
use Rattle.hir_collector_rules.specs.HirPerNs.declared.imports.ImportOrExternCrate.{ImportOrExternCrate}
use Rattle.hir_collector_rules.specs.HirPerNs.declared.imports.ImportOrGlob.{ImportOrGlob}
use Rattle.hir_collector_rules.specs.HirPerNs.declared.per_ns.PerNs.{PerNs}
use Rattle.hir_collector_rules.specs.HirPerNs.declared.visibility.Visibility.{Visibility}
use Rattle.hir_collector_rules.specs.HirPerNs.declared.imports.ImportOrExternCrate.TheVariants as ways
use Rattle.hir_collector_rules.specs.HirPerNs.declared.imports.ImportOrGlob.TheVariants as value_ways
use Rattle.hir_collector_rules.proofs.HirScope.Pushes.{pushed-macros, pushed-types, pushed-values}
use Rattle.hir_collector_rules.specs.HirDefMapRules.Declaration.{listed}
use Rattle.hir_collector_rules.specs.HirDefMapRules.State.{ModuleValue, changed_at, globs_in, place_at, pushed_module, with_module_scope}
use Rattle.hir_collector_rules.specs.HirDefMapRules.declared.declaration.Declaration.{Declaration as Listing}
use Rattle.hir_collector_rules.specs.HirDefMapRules.declared.declaration.Declaration.TheVariants as listings
use Rattle.hir_collector_rules.specs.HirGlobImports.Keys.{same_slot, slot_at}
use Rattle.hir_collector_rules.specs.HirGlobImports.Rules.{BroughtBy, with_brought}
use Rattle.hir_collector_rules.specs.HirGlobImports.declared.edge.Brought.{Brought}
use Rattle.hir_collector_rules.specs.HirGlobImports.declared.edge.Edge.{Edge}
use Rattle.hir_collector_rules.specs.HirGlobImports.declared.edge.Key.{Key}
use Rattle.hir_collector_rules.specs.HirGlobImports.declared.edge.Key.TheVariants.{Types, Values, Macros, Unnamed}
use Rattle.hir_collector_rules.specs.HirImportRules.Changes.{forgotten}
use Rattle.hir_collector_rules.specs.HirImportRules.Names.{with_macro, with_macro_vis, with_type, with_type_vis, with_value, with_value_vis}
use Rattle.hir_def_collector_laws.specs.Globs.{glob_of_value}
use Rattle.hir_def_collector_laws.proofs.ModuleLists.{IsChanged, IsOfLonger, changed-at, changed_one, newest, of_longer, older, other_one}
use Rattle.hir_def_collector_laws.proofs.Noted.{AreNotedIn, GivesAll, IsAsOpen, IsExplicit, KeepsEdges, copied_here, explicit_here, forgot_macros, forgot_types}
use Rattle.hir_def_collector_laws.proofs.Noted.{forgot_values, keeps_all, keys_apart, modules_apart, note_raised, note_stays, noted_anew, rewritten_here}
use Rattle.hir_def_collector_laws.proofs.Noted.{types_forgotten, unforgotten, values_forgotten}
use Rattle.hir_def_collector_laws.proofs.Places.{still_with, still_without}

-- ---- a scope

-- names stand for what they did
pub record HasSameNames (old new : ScopeValue) : Type 0 where
  pub types : new.types ≡ old.types
  pub values : new.values ≡ old.values
  pub macros : new.macros ≡ old.macros

pub same_listed : (d : Listing) (s : ScopeValue) → HasSameNames s (listed d s)
same_listed (listings.Def def) s = record { types = refl; values = refl; macros = refl }
same_listed other s = record { types = refl; values = refl; macros = refl }

-- each name of a scope that a glob brought has its note
pub record IsNotedScope (own : MapId) (globs : GlobNames) (brought : BroughtBy) (edges : List Edge) (number : ℕ) (s : ScopeValue) : Type 0 where
  pub types : AreNotedIn glob_of Types own globs.types brought edges number s.types
  pub values : AreNotedIn glob_of_value Values own globs.values brought edges number s.values
  pub macros : AreNotedIn glob_of Macros own globs.macros brought edges number s.macros

noted_same : {own : MapId} {globs : GlobNames} {brought : BroughtBy} {edges : List Edge} {number : ℕ} {old new : ScopeValue}
    → HasSameNames old new → IsNotedScope own globs brought edges number old → IsNotedScope own globs brought edges number new
noted_same {own = own} {globs = globs} {brought = brought} {edges = edges} {number = number} same f = record {
  types =
      subst (λ (xs : List (List ℕ × Item ModuleDefId ImportOrExternCrate)). AreNotedIn glob_of Types own globs.types brought edges number xs) (sym same.types)
      f.types;
  values =
      subst (λ (xs : List (List ℕ × Item ModuleDefId ImportOrGlob)). AreNotedIn glob_of_value Values own globs.values brought edges number xs) (sym same.values)
      f.values;
  macros =
      subst (λ (xs : List (List ℕ × Item MacroId ImportOrExternCrate)). AreNotedIn glob_of Macros own globs.macros brought edges number xs) (sym same.macros)
      f.macros;
}

-- ---- modules

pub record AreNoted (own : MapId) (globs : GlobNames) (brought : BroughtBy) (edges : List Edge) (ms : List ModuleValue) : Type 0 where
  pub each : (number : ℕ) (m : ModuleValue) → slice_get ms number ≡ Some m → IsNotedScope own globs brought edges number m.scope

-- one scope changes, and of other modules nothing else is noted
module _ (own : MapId) (globs : GlobNames) (brought brought' : BroughtBy) (edges : List Edge) (ms : List ModuleValue) (at : ℕ) (change : ModuleValue → ModuleValue)
    (at_home : (old : ModuleValue) → slice_get ms at ≡ Some old → IsNotedScope own globs brought edges at old.scope → IsNotedScope own globs brought' edges at
    (change old).scope)
    (elsewhere : (number : ℕ) → number ≢ at → (key : Key) → brought' (slot_at number key) ≡ brought (slot_at number key)) where
  pub noted_changed : AreNoted own globs brought edges ms → AreNoted own globs brought' edges (changed_at ms at change)
  noted_changed f = record { each = λ number m e. go number m (changed-at ms at change number m e) }
    where
      go : (number : ℕ) (m : ModuleValue) → IsChanged ms at change number m → IsNotedScope own globs brought' edges number m.scope
      go number m (changed_one old here there is) =
          let found : slice_get ms at ≡ Some old = subst (λ (k : ℕ). slice_get ms k ≡ Some old) here there in
          subst (λ (k : ℕ). IsNotedScope own globs brought' edges k m.scope) (sym here)
          (subst (λ (v : ModuleValue). IsNotedScope own globs brought' edges at v.scope) (sym is) (at_home old found (f.each at old found)))
      go number m (other_one ne there) =
          let s : IsNotedScope own globs brought edges number m.scope = f.each number m there in
          record {
            types =
                λ n i id e g. note_stays (record { noted = elsewhere number ne (Types n); placed = λ h. h; recorded = keeps_all edges }) (s.types n i id e g);
            values =
                λ n i id e g. note_stays (record { noted = elsewhere number ne (Values n); placed = λ h. h; recorded = keeps_all edges }) (s.values n i id e g);
            macros =
                λ n i id e g. note_stays (record { noted = elsewhere number ne (Macros n); placed = λ h. h; recorded = keeps_all edges }) (s.macros n i id e g);
          }

-- names stand for what they did
pub noted_rescoped : {own : MapId} {globs : GlobNames} {brought : BroughtBy} {edges : List Edge} (ms : List ModuleValue) (at : ℕ)
    (change : ModuleValue → ModuleValue)
    → ((m : ModuleValue) → HasSameNames m.scope (change m).scope) → AreNoted own globs brought edges ms → AreNoted own globs brought edges
    (changed_at ms at change)
noted_rescoped {own = own} {globs = globs} {brought = brought} {edges = edges} ms at change same f =
    noted_changed own globs brought brought edges ms at change (λ old there g. noted_same (same old) g) (λ number ne key. refl) f

-- nothing is brought where nothing is bound
noted_empty : (own : MapId) (globs : GlobNames) (brought : BroughtBy) (edges : List Edge) (number : ℕ) → IsNotedScope own globs brought edges number empty_scope
noted_empty own globs brought edges number = record {
  types = λ name item id e g. absurd (let no : ⊥ = cc in no);
  values = λ name item id e g. absurd (let no : ⊥ = cc in no);
  macros = λ name item id e g. absurd (let no : ⊥ = cc in no);
}

-- one more module binds nothing
pub noted_longer : {own : MapId} {globs : GlobNames} {brought : BroughtBy} {edges : List Edge} (ms : List ModuleValue) (new : ModuleValue) → new.scope
    ≡ empty_scope
    → AreNoted own globs brought edges ms → AreNoted own globs brought edges (ms ++ new ∷ [])
noted_longer {own = own} {globs = globs} {brought = brought} {edges = edges} ms new empty f =
    record { each = λ number m e. go number m (of_longer ms new number m e) }
  where
    go : (number : ℕ) (m : ModuleValue) → IsOfLonger ms new number m → IsNotedScope own globs brought edges number m.scope
    go number m (older h) = f.each number m h
    go number m (newest h) =
        subst (λ (s : ScopeValue). IsNotedScope own globs brought edges number s) (sym (ap (λ (v : ModuleValue). v.scope) h ∙ empty))
        (noted_empty own globs brought edges number)

-- globs are recorded
pub noted_recorded : (own : MapId) (globs : GlobNames) (brought : BroughtBy) (old new : List Edge) (ms : List ModuleValue) → KeepsEdges old new
    → AreNoted own globs brought old ms → AreNoted own globs brought new ms
noted_recorded own globs brought old new ms keeps f = record {
  each = λ number m e.
      let s : IsNotedScope own globs brought old number m.scope = f.each number m e in
      record {
        types = λ name i id e g. note_stays (record { noted = refl; placed = λ h. h; recorded = keeps }) (s.types name i id e g);
        values = λ name i id e g. note_stays (record { noted = refl; placed = λ h. h; recorded = keeps }) (s.values name i id e g);
        macros = λ name i id e g. note_stays (record { noted = refl; placed = λ h. h; recorded = keeps }) (s.macros name i id e g);
      };
}

-- it's forgotten who brought a trait without a name
pub noted_traits : (own : MapId) (globs : GlobNames) (brought : BroughtBy) (edges : List Edge) (ms : List ModuleValue) (home : ℕ) (id : TraitId)
    (by : Option Brought)
    → AreNoted own globs brought edges ms → AreNoted own globs (with_brought brought (slot_at home (Unnamed id)) by) edges ms
noted_traits own globs brought edges ms home trait by f = record {
  each = λ number m e.
      let s : IsNotedScope own globs brought edges number m.scope = f.each number m e in
      record {
        types =
            λ name i id e g. note_stays (record { noted = apart number (Types name) (λ h. let no : ⊥ = cc in no); placed = λ h. h; recorded = keeps_all edges })
            (s.types name i id e g);
        values =
            λ name i id e g. note_stays (record {
              noted = apart number (Values name) (λ h. let no : ⊥ = cc in no);
              placed = λ h. h;
              recorded = keeps_all edges;
            }) (s.values name i id e g);
        macros =
            λ name i id e g. note_stays (record {
              noted = apart number (Macros name) (λ h. let no : ⊥ = cc in no);
              placed = λ h. h;
              recorded = keeps_all edges;
            }) (s.macros name i id e g);
      };
}
  where
    apart : (number : ℕ) (key : Key) → Unnamed trait ≢ key → with_brought brought (slot_at home (Unnamed trait)) by (slot_at number key)
        ≡ brought (slot_at number key)
    apart number key ne = ap (λ (b : Bool). if b then by else brought (slot_at number key)) (keys_apart home number (Unnamed trait) key ne)

-- ---- pushes

-- no glob pushes
explicit_way : (by : Option ImportOrExternCrate) → is_glob by ≡ false → option_and_then glob_of by ≡ None
explicit_way None e = refl
explicit_way (Some (ways.Glob id)) e = absurd (true≢false e)
explicit_way (Some (ways.Import id)) e = refl
explicit_way (Some (ways.ExternCrate id)) e = refl

explicit_value : (by : Option ImportOrExternCrate) → is_glob by ≡ false → option_and_then glob_of_value (value_import by) ≡ None
explicit_value None e = refl
explicit_value (Some (ways.Glob id)) e = absurd (true≢false e)
explicit_value (Some (ways.Import id)) e = refl
explicit_value (Some (ways.ExternCrate id)) e = refl

one_type : (a b : List ℕ) → Types a ≡ Types b → a ≡ b
one_type a b e = cc

one_value : (a b : List ℕ) → Values a ≡ Values b → a ≡ b
one_value a b e = cc

one_macro : (a b : List ℕ) → Macros a ≡ Macros b → a ≡ b
one_macro a b e = cc

module _ (own : MapId) (globs : GlobNames) (brought : BroughtBy) (edges : List Edge) (home : ℕ) (name : List ℕ) (items : PerNs) (by : Option ImportOrExternCrate) where
  abbrev at_name : Place
  at_name = place_at own home name

  abbrev brought_after : BroughtBy
  brought_after = forgotten home name items brought

  module _ (explicit : is_glob by ≡ false) where
    type_explicit : (s : ScopeValue) (o : Option (Item ModuleDefId ImportOrExternCrate))
        → IsExplicit glob_of Types module_def.ghosts.eq item_import.ghosts.eq one_type own home name globs.types brought edges s.types (type_candidate o by)
    type_explicit s None = tt
    type_explicit s (Some i) = (explicit, explicit_way by explicit)

    value_explicit : (s : ScopeValue) (o : Option (Item ModuleDefId ImportOrGlob))
        → IsExplicit glob_of_value Values module_def.ghosts.eq glob_import.ghosts.eq one_value own home name globs.values brought edges s.values
        (value_candidate o by)
    value_explicit s None = tt
    value_explicit s (Some i) = (explicit, explicit_value by explicit)

    macro_explicit : (s : ScopeValue) (o : Option (Item MacroId ImportOrExternCrate))
        → IsExplicit glob_of Macros makro.ghosts.eq item_import.ghosts.eq one_macro own home name globs.macros brought edges s.macros (macro_candidate o by)
    macro_explicit s None = tt
    macro_explicit s (Some i) = (explicit, explicit_way by explicit)

    no_type : (o : Option (Item ModuleDefId ImportOrExternCrate)) → type_candidate o by ≡ None → is_some o ≡ false
    no_type None e = refl
    no_type (Some i) e = absurd (let no : ⊥ = cc in no)

    no_value : (o : Option (Item ModuleDefId ImportOrGlob)) → value_candidate o by ≡ None → is_some o ≡ false
    no_value None e = refl
    no_value (Some i) e = absurd (let no : ⊥ = cc in no)

    no_macro : (o : Option (Item MacroId ImportOrExternCrate)) → macro_candidate o by ≡ None → is_some o ≡ false
    no_macro None e = refl
    no_macro (Some i) e = absurd (let no : ⊥ = cc in no)

    pushed_here : (s : ScopeValue) → IsNotedScope own globs brought edges home s → IsNotedScope own (pushed_globs s at_name items by globs) brought_after edges
        home (pushed_scope globs at_name items by s)
    pushed_here s f = record {
      types =
          subst (λ (xs : List (List ℕ × Item ModuleDefId ImportOrExternCrate)). AreNotedIn glob_of Types own (pushed_globs s at_name items by globs).types
          brought_after edges home xs)
          (sym (pushed-types s globs at_name by items))
          (explicit_here glob_of Types module_def.ghosts.eq item_import.ghosts.eq one_type own home name globs.types brought edges s.types
          (type_candidate items.types by)
          (is_some items.types) brought_after (type_explicit s items.types) (no_type items.types) (forgot_types home name items brought home) f.types);
      values =
          subst (λ (xs : List (List ℕ × Item ModuleDefId ImportOrGlob)). AreNotedIn glob_of_value Values own (pushed_globs s at_name items by globs).values
          brought_after edges home xs)
          (sym (pushed-values s globs at_name by items))
          (explicit_here glob_of_value Values module_def.ghosts.eq glob_import.ghosts.eq one_value own home name globs.values brought edges s.values
          (value_candidate items.values by)
          (is_some items.values) brought_after (value_explicit s items.values) (no_value items.values) (forgot_values home name items brought home) f.values);
      macros =
          subst (λ (xs : List (List ℕ × Item MacroId ImportOrExternCrate)). AreNotedIn glob_of Macros own (pushed_globs s at_name items by globs).macros
          brought_after edges home xs)
          (sym (pushed-macros s globs at_name by items))
          (explicit_here glob_of Macros makro.ghosts.eq item_import.ghosts.eq one_macro own home name globs.macros brought edges s.macros
          (macro_candidate items.macros by)
          (is_some items.macros) brought_after (macro_explicit s items.macros) (no_macro items.macros) (forgot_macros home name items brought home) f.macros);
    }

  -- ---- another module

  -- places of other modules stay
  module _ (q : Place) (ne : q ≢ at_name) where
    still : {D I : Type 0} (c : Option (Candidate D I)) (places : List Place) → has_place places q ≡ true → has_place (written_places at_name c places) q ≡ true
    still None places h = h
    still (Some c) places h = go c.push.is_glob
      where
        go : (b : Bool) → has_place (cond b (with_place places at_name) (without_place places at_name)) q ≡ true
        go true = still_with at_name q places h
        go false = still_without at_name q ne places h

    still_types : (o : Option ModuleValue) → has_place globs.types q ≡ true → has_place (globs_in o globs at_name items by).types q ≡ true
    still_types None h = h
    still_types (Some m) h = still (taken_type m.scope globs at_name items by) globs.types h

    still_values : (o : Option ModuleValue) → has_place globs.values q ≡ true → has_place (globs_in o globs at_name items by).values q ≡ true
    still_values None h = h
    still_values (Some m) h = still (taken_value m.scope globs at_name items by) globs.values h

    still_macros : (o : Option ModuleValue) → has_place globs.macros q ≡ true → has_place (globs_in o globs at_name items by).macros q ≡ true
    still_macros None h = h
    still_macros (Some m) h = still (taken_macro m.scope globs at_name items by) globs.macros h

  other_place : (number : ℕ) (n : List ℕ) → number ≢ home → place_at own number n ≢ at_name
  other_place number n ne e = ne (ap (λ (q : Place). q.0.index) e)

  -- its names keep their notes, where nothing else is noted of them
  pushed_there : (o : Option ModuleValue) (brought' : BroughtBy) (number : ℕ) → number ≢ home
      → ((key : Key) → brought' (slot_at number key) ≡ brought (slot_at number key))
      → (s : ScopeValue) → IsNotedScope own globs brought edges number s → IsNotedScope own (globs_in o globs at_name items by) brought' edges number s
  pushed_there o brought' number ne same s f = record {
    types =
        λ n i id e g. note_stays (record {
          noted = same (Types n);
          placed = still_types (place_at own number n) (other_place number n ne) o;
          recorded = keeps_all edges;
        }) (f.types n i id e g);
    values =
        λ n i id e g. note_stays (record {
          noted = same (Values n);
          placed = still_values (place_at own number n) (other_place number n ne) o;
          recorded = keeps_all edges;
        }) (f.values n i id e g);
    macros =
        λ n i id e g. note_stays (record {
          noted = same (Macros n);
          placed = still_macros (place_at own number n) (other_place number n ne) o;
          recorded = keeps_all edges;
        }) (f.macros n i id e g);
  }

  forgotten_there : (number : ℕ) → number ≢ home → (key : Key) → brought_after (slot_at number key) ≡ brought (slot_at number key)
  forgotten_there number ne key =
      unforgotten home (Macros name) (is_some items.macros) (values_forgotten home name items brought number name) (slot_at number key)
      (modules_apart home number (Macros name) key ne)
      ∙ unforgotten home (Values name) (is_some items.values) (types_forgotten home name items brought number name) (slot_at number key)
      (modules_apart home number (Values name) key ne)
      ∙ unforgotten home (Types name) (is_some items.types) brought (slot_at number key) (modules_apart home number (Types name) key ne)

  -- ---- the modules of a map

  -- the module at the name, and each other one
  module _ (ms : List ModuleValue) (brought' : BroughtBy)
      (at_home : (old : ModuleValue) → slice_get ms home ≡ Some old → IsNotedScope own globs brought edges home old.scope
      → IsNotedScope own (pushed_globs old.scope at_name items by globs) brought' edges home (pushed_scope globs at_name items by old.scope))
      (elsewhere : (number : ℕ) → number ≢ home → (key : Key) → brought' (slot_at number key) ≡ brought (slot_at number key)) where
    pub noted_pushed : AreNoted own globs brought edges ms
        → AreNoted own (globs_in (slice_get ms home) globs at_name items by) brought' edges (changed_at ms home (pushed_module globs at_name items by))
    noted_pushed f = record { each = λ number m e. go number m (changed-at ms home (pushed_module globs at_name items by) number m e) }
      where
        go : (number : ℕ) (m : ModuleValue) → IsChanged ms home (pushed_module globs at_name items by) number m
            → IsNotedScope own (globs_in (slice_get ms home) globs at_name items by) brought' edges number m.scope
        go number m (changed_one old here there is) =
            let at : slice_get ms home ≡ Some old = subst (λ (k : ℕ). slice_get ms k ≡ Some old) here there in
            let now : IsNotedScope own (globs_in (Some old) globs at_name items by) brought' edges home (pushed_scope globs at_name items by old.scope) =
            at_home old at (f.each home old at) in
            subst (λ (k : ℕ). IsNotedScope own (globs_in (slice_get ms home) globs at_name items by) brought' edges k m.scope) (sym here)
            (subst (λ (v : ModuleValue). IsNotedScope own (globs_in (slice_get ms home) globs at_name items by) brought' edges home v.scope) (sym is)
            (subst (λ (o : Option ModuleValue). IsNotedScope own (globs_in o globs at_name items by) brought' edges home
            (pushed_scope globs at_name items by old.scope)) (sym at) now))
        go number m (other_one ne there) = pushed_there (slice_get ms home) brought' number ne (elsewhere number ne) m.scope (f.each number m there)

  -- a declaration or an import pushes
  pub noted_explicit : is_glob by ≡ false → (ms : List ModuleValue) → AreNoted own globs brought edges ms
      → AreNoted own (globs_in (slice_get ms home) globs at_name items by) brought_after edges (changed_at ms home (pushed_module globs at_name items by))
  noted_explicit explicit ms f = noted_pushed ms brought_after (λ old at g. pushed_here explicit old.scope g) forgotten_there f

-- ---- an edge brings what stands in a slot

module _ (brought : BroughtBy) (now : Brought) (home : ℕ) where
  abbrev pub brought_at : Key → BroughtBy
  brought_at key = with_brought brought (slot_at home key) (Some now)

  -- another key of the module, and another module
  beside : (one other : Key) → one ≢ other → brought_at one (slot_at home other) ≡ brought (slot_at home other)
  beside one other ne = ap (λ (b : Bool). if b then Some now else brought (slot_at home other)) (keys_apart home home one other ne)

  elsewhere : (one : Key) (number : ℕ) → number ≢ home → (key : Key) → brought_at one (slot_at number key) ≡ brought (slot_at number key)
  elsewhere one number ne key = ap (λ (b : Bool). if b then Some now else brought (slot_at number key)) (modules_apart home number one key ne)

  -- another name of the module
  another : (at : List ℕ → Key) (name n : List ℕ) → same_slot (slot_at home (at name)) (slot_at home (at n)) ≡ false
      → brought_at (at name) (slot_at home (at n)) ≡ brought (slot_at home (at n))
  another at name n s = ap (λ (b : Bool). if b then Some now else brought (slot_at home (at n))) s

  -- names of other namespaces of the module keep their notes
  module _ (own : MapId) (globs : GlobNames) (edges : List Edge) (s : ScopeValue) (f : IsNotedScope own globs brought edges home s) (one : Key) where
    types_beside : ((n : List ℕ) → one ≢ Types n) → AreNotedIn glob_of Types own globs.types (brought_at one) edges home s.types
    types_beside ne n i id e g = note_stays (record { noted = beside one (Types n) (ne n); placed = λ h. h; recorded = keeps_all edges }) (f.types n i id e g)

    values_beside : ((n : List ℕ) → one ≢ Values n) → AreNotedIn glob_of_value Values own globs.values (brought_at one) edges home s.values
    values_beside ne n i id e g =
        note_stays (record { noted = beside one (Values n) (ne n); placed = λ h. h; recorded = keeps_all edges }) (f.values n i id e g)

    macros_beside : ((n : List ℕ) → one ≢ Macros n) → AreNotedIn glob_of Macros own globs.macros (brought_at one) edges home s.macros
    macros_beside ne n i id e g =
        note_stays (record { noted = beside one (Macros n) (ne n); placed = λ h. h; recorded = keeps_all edges }) (f.macros n i id e g)

-- ---- a glob pushes

module _ (own : MapId) (globs : GlobNames) (brought : BroughtBy) (edges : List Edge) (e : Edge) (now : Brought) (recorded : slice_get edges now.edge ≡ Some e)
    (home : ℕ) (into : e.importer ≡ home) (name : List ℕ) (vis : Visibility) (given : GivesAll now vis) where
  abbrev globs_name : Place
  globs_name = place_at own home name

  copied_type : (def : ModuleDefId) (s : ScopeValue) → item_at s.types name ≡ None → IsNotedScope own globs brought edges home s
      → IsNotedScope own (pushed_globs s globs_name (types_only def vis None) (Some (ways.Glob e.id)) globs) (brought_at brought now home (Types name)) edges
      home
      (pushed_scope globs globs_name (types_only def vis None) (Some (ways.Glob e.id)) s)
  copied_type def s vacant f = record {
    types = copied_here glob_of Types module_def.ghosts.eq item_import.ghosts.eq one_type own home name globs.types brought edges s.types
        (record { push = record { item = record { def = def; vis = vis; import = Some (ways.Glob e.id) }; is_glob = true }; source = reached.Def def }) e now
        refl refl given vacant recorded into f.types;
    values = values_beside brought now home own globs edges s f (Types name) (λ n h. let no : ⊥ = cc in no);
    macros = macros_beside brought now home own globs edges s f (Types name) (λ n h. let no : ⊥ = cc in no);
  }

  copied_value : (def : ModuleDefId) (s : ScopeValue) → item_at s.values name ≡ None → IsNotedScope own globs brought edges home s
      → IsNotedScope own (pushed_globs s globs_name (values_only def vis None) (Some (ways.Glob e.id)) globs) (brought_at brought now home (Values name)) edges
      home
      (pushed_scope globs globs_name (values_only def vis None) (Some (ways.Glob e.id)) s)
  copied_value def s vacant f = record {
    types = types_beside brought now home own globs edges s f (Values name) (λ n h. let no : ⊥ = cc in no);
    values = copied_here glob_of_value Values module_def.ghosts.eq glob_import.ghosts.eq one_value own home name globs.values brought edges s.values
        (record { push = record { item = record { def = def; vis = vis; import = Some (value_ways.Glob e.id) }; is_glob = true }; source = reached.Def def }) e
        now refl refl given vacant recorded into f.values;
    macros = macros_beside brought now home own globs edges s f (Values name) (λ n h. let no : ⊥ = cc in no);
  }

  copied_macro : (def : MacroId) (s : ScopeValue) → item_at s.macros name ≡ None → IsNotedScope own globs brought edges home s
      → IsNotedScope own (pushed_globs s globs_name (macros_only def vis None) (Some (ways.Glob e.id)) globs) (brought_at brought now home (Macros name)) edges
      home
      (pushed_scope globs globs_name (macros_only def vis None) (Some (ways.Glob e.id)) s)
  copied_macro def s vacant f = record {
    types = types_beside brought now home own globs edges s f (Macros name) (λ n h. let no : ⊥ = cc in no);
    values = values_beside brought now home own globs edges s f (Macros name) (λ n h. let no : ⊥ = cc in no);
    macros = copied_here glob_of Macros makro.ghosts.eq item_import.ghosts.eq one_macro own home name globs.macros brought edges s.macros
        (record {
          push = record { item = record { def = def; vis = vis; import = Some (ways.Glob e.id) }; is_glob = true };
          source = reached.Def (definitions.MacroId def);
        }) e now refl refl given vacant recorded into f.macros;
  }

  pub noted_type : (def : ModuleDefId) (ms : List ModuleValue) → ((old : ModuleValue) → slice_get ms home ≡ Some old → item_at old.scope.types name ≡ None)
      → AreNoted own globs brought edges ms
      → AreNoted own (globs_in (slice_get ms home) globs globs_name (types_only def vis None) (Some (ways.Glob e.id)))
      (brought_at brought now home (Types name)) edges
      (changed_at ms home (pushed_module globs globs_name (types_only def vis None) (Some (ways.Glob e.id))))
  noted_type def ms vacant f =
      noted_pushed own globs brought edges home name (types_only def vis None) (Some (ways.Glob e.id)) ms (brought_at brought now home (Types name))
      (λ old at g. copied_type def old.scope (vacant old at) g) (elsewhere brought now home (Types name)) f

  pub noted_value : (def : ModuleDefId) (ms : List ModuleValue) → ((old : ModuleValue) → slice_get ms home ≡ Some old → item_at old.scope.values name ≡ None)
      → AreNoted own globs brought edges ms
      → AreNoted own (globs_in (slice_get ms home) globs globs_name (values_only def vis None) (Some (ways.Glob e.id)))
      (brought_at brought now home (Values name)) edges
      (changed_at ms home (pushed_module globs globs_name (values_only def vis None) (Some (ways.Glob e.id))))
  noted_value def ms vacant f =
      noted_pushed own globs brought edges home name (values_only def vis None) (Some (ways.Glob e.id)) ms (brought_at brought now home (Values name))
      (λ old at g. copied_value def old.scope (vacant old at) g) (elsewhere brought now home (Values name)) f

  pub noted_macro : (def : MacroId) (ms : List ModuleValue) → ((old : ModuleValue) → slice_get ms home ≡ Some old → item_at old.scope.macros name ≡ None)
      → AreNoted own globs brought edges ms
      → AreNoted own (globs_in (slice_get ms home) globs globs_name (macros_only def vis None) (Some (ways.Glob e.id)))
      (brought_at brought now home (Macros name)) edges
      (changed_at ms home (pushed_module globs globs_name (macros_only def vis None) (Some (ways.Glob e.id))))
  noted_macro def ms vacant f =
      noted_pushed own globs brought edges home name (macros_only def vis None) (Some (ways.Glob e.id)) ms (brought_at brought now home (Macros name))
      (λ old at g. copied_macro def old.scope (vacant old at) g) (elsewhere brought now home (Macros name)) f

-- ---- a name takes another definition

module _ (own : MapId) (globs : GlobNames) (brought : BroughtBy) (edges : List Edge) (home : ℕ) (name : List ℕ) (last now : Brought) (same : last.edge ≡ now.edge)
    (vis : Visibility) (given : GivesAll now vis) (ms : List ModuleValue) (f : AreNoted own globs brought edges ms) where
  followed_type : (def : ModuleDefId) → brought (slot_at home (Types name)) ≡ Some last → (s : ScopeValue) → IsNotedScope own globs brought edges home s
      → IsNotedScope own globs (brought_at brought now home (Types name)) edges home (with_type name def vis s)
  followed_type def was s g = record {
    types =
        rewritten_here glob_of Types module_def.ghosts.eq item_import.ghosts.eq one_type own home name globs.types brought edges s.types
        (with_item_definition def vis) (λ i. refl)
        (brought_at brought now home (Types name)) (another brought now home Types name)
        (λ i id h note. noted_anew own globs.types brought edges home (Types name) name id i.vis vis last now was same given note) g.types;
    values = values_beside brought now home own globs edges s g (Types name) (λ n h. let no : ⊥ = cc in no);
    macros = macros_beside brought now home own globs edges s g (Types name) (λ n h. let no : ⊥ = cc in no);
  }

  followed_value : (def : ModuleDefId) → brought (slot_at home (Values name)) ≡ Some last → (s : ScopeValue) → IsNotedScope own globs brought edges home s
      → IsNotedScope own globs (brought_at brought now home (Values name)) edges home (with_value name def vis s)
  followed_value def was s g = record {
    types = types_beside brought now home own globs edges s g (Values name) (λ n h. let no : ⊥ = cc in no);
    values =
        rewritten_here glob_of_value Values module_def.ghosts.eq glob_import.ghosts.eq one_value own home name globs.values brought edges s.values
        (with_item_definition def vis) (λ i. refl)
        (brought_at brought now home (Values name)) (another brought now home Values name)
        (λ i id h note. noted_anew own globs.values brought edges home (Values name) name id i.vis vis last now was same given note) g.values;
    macros = macros_beside brought now home own globs edges s g (Values name) (λ n h. let no : ⊥ = cc in no);
  }

  followed_macro : (def : MacroId) → brought (slot_at home (Macros name)) ≡ Some last → (s : ScopeValue) → IsNotedScope own globs brought edges home s
      → IsNotedScope own globs (brought_at brought now home (Macros name)) edges home (with_macro name def vis s)
  followed_macro def was s g = record {
    types = types_beside brought now home own globs edges s g (Macros name) (λ n h. let no : ⊥ = cc in no);
    values = values_beside brought now home own globs edges s g (Macros name) (λ n h. let no : ⊥ = cc in no);
    macros =
        rewritten_here glob_of Macros makro.ghosts.eq item_import.ghosts.eq one_macro own home name globs.macros brought edges s.macros
        (with_item_definition def vis) (λ i. refl)
        (brought_at brought now home (Macros name)) (another brought now home Macros name)
        (λ i id h note. noted_anew own globs.macros brought edges home (Macros name) name id i.vis vis last now was same given note) g.macros;
  }

  pub noted_followed_type : (def : ModuleDefId) → brought (slot_at home (Types name)) ≡ Some last
      → AreNoted own globs (brought_at brought now home (Types name)) edges (changed_at ms home (with_module_scope (with_type name def vis)))
  noted_followed_type def was =
      noted_changed own globs brought (brought_at brought now home (Types name)) edges ms home (with_module_scope (with_type name def vis))
      (λ old there g. followed_type def was old.scope g) (elsewhere brought now home (Types name)) f

  pub noted_followed_value : (def : ModuleDefId) → brought (slot_at home (Values name)) ≡ Some last
      → AreNoted own globs (brought_at brought now home (Values name)) edges (changed_at ms home (with_module_scope (with_value name def vis)))
  noted_followed_value def was =
      noted_changed own globs brought (brought_at brought now home (Values name)) edges ms home (with_module_scope (with_value name def vis))
      (λ old there g. followed_value def was old.scope g) (elsewhere brought now home (Values name)) f

  pub noted_followed_macro : (def : MacroId) → brought (slot_at home (Macros name)) ≡ Some last
      → AreNoted own globs (brought_at brought now home (Macros name)) edges (changed_at ms home (with_module_scope (with_macro name def vis)))
  noted_followed_macro def was =
      noted_changed own globs brought (brought_at brought now home (Macros name)) edges ms home (with_module_scope (with_macro name def vis))
      (λ old there g. followed_macro def was old.scope g) (elsewhere brought now home (Macros name)) f

-- ---- or another visibility

module _ (own : MapId) (globs : GlobNames) (brought : BroughtBy) (edges : List Edge) (home : ℕ) (name : List ℕ) (vis : Visibility) where
  -- all who might see may still see
  abbrev pub IsWider : {D I : Type 0} → List (List ℕ × Item D I) → Type 0
  IsWider {D} {I} items = (i : Item D I) → item_at items name ≡ Some i → IsAsOpen i.vis vis

  raised_type : (s : ScopeValue) → IsWider s.types → IsNotedScope own globs brought edges home s → IsNotedScope own globs brought edges home
      (with_type_vis name vis s)
  raised_type s wider g = record {
    types =
        rewritten_here glob_of Types module_def.ghosts.eq item_import.ghosts.eq one_type own home name globs.types brought edges s.types
        (with_item_visibility vis) (λ i. refl)
        brought (λ n t. refl) (λ i id h note. note_raised vis (wider i h) note) g.types;
    values = g.values;
    macros = g.macros;
  }

  raised_value : (s : ScopeValue) → IsWider s.values → IsNotedScope own globs brought edges home s → IsNotedScope own globs brought edges home
      (with_value_vis name vis s)
  raised_value s wider g = record {
    types = g.types;
    values =
        rewritten_here glob_of_value Values module_def.ghosts.eq glob_import.ghosts.eq one_value own home name globs.values brought edges s.values
        (with_item_visibility vis) (λ i. refl)
        brought (λ n t. refl) (λ i id h note. note_raised vis (wider i h) note) g.values;
    macros = g.macros;
  }

  raised_macro : (s : ScopeValue) → IsWider s.macros → IsNotedScope own globs brought edges home s → IsNotedScope own globs brought edges home
      (with_macro_vis name vis s)
  raised_macro s wider g = record {
    types = g.types;
    values = g.values;
    macros =
        rewritten_here glob_of Macros makro.ghosts.eq item_import.ghosts.eq one_macro own home name globs.macros brought edges s.macros
        (with_item_visibility vis) (λ i. refl)
        brought (λ n t. refl) (λ i id h note. note_raised vis (wider i h) note) g.macros;
  }

  module _ (ms : List ModuleValue) (f : AreNoted own globs brought edges ms) where
    pub noted_raised_type : ((old : ModuleValue) → slice_get ms home ≡ Some old → IsWider old.scope.types) → AreNoted own globs brought edges
        (changed_at ms home (with_module_scope (with_type_vis name vis)))
    noted_raised_type wider =
        noted_changed own globs brought brought edges ms home (with_module_scope (with_type_vis name vis))
        (λ old there g. raised_type old.scope (wider old there) g) (λ number ne key. refl) f

    pub noted_raised_value : ((old : ModuleValue) → slice_get ms home ≡ Some old → IsWider old.scope.values) → AreNoted own globs brought edges
        (changed_at ms home (with_module_scope (with_value_vis name vis)))
    noted_raised_value wider =
        noted_changed own globs brought brought edges ms home (with_module_scope (with_value_vis name vis))
        (λ old there g. raised_value old.scope (wider old there) g) (λ number ne key. refl) f

    pub noted_raised_macro : ((old : ModuleValue) → slice_get ms home ≡ Some old → IsWider old.scope.macros) → AreNoted own globs brought edges
        (changed_at ms home (with_module_scope (with_macro_vis name vis)))
    noted_raised_macro wider =
        noted_changed own globs brought brought edges ms home (with_module_scope (with_macro_vis name vis))
        (λ old there g. raised_macro old.scope (wider old there) g) (λ number ne key. refl) f
