-- No step takes a module, a binding or a declaration away.
use Rattle.std.proofs.Common.{◌≡◌, ℕ, ◌+◌, ◌<◌, ◌≤◌, List, [], ◌∷◌, length, Option, None, Some, refl, sym, ap, subst, arith, Contains}
use Rattle.hir_nameres.specs.HirIds.declared.ast_id.AstId.{AstId}
use Rattle.hir_nameres.specs.HirIds.declared.macro_kind.BuiltinDeriveImplId.{BuiltinDeriveImplId}
use Rattle.hir_nameres.specs.HirIds.declared.ids.EnumId.{EnumId}
use Rattle.hir_nameres.specs.HirIds.declared.ids.ExternBlockId.{ExternBlockId}
use Rattle.hir_nameres.specs.HirIds.declared.ids.ExternCrateId.{ExternCrateId}
use Rattle.hir_nameres.specs.HirIds.declared.ids.FunctionId.{FunctionId}
use Rattle.hir_nameres.specs.HirIds.declared.macro_kind.MacroId.{MacroId}
use Rattle.hir_nameres.specs.HirIds.declared.ids.ModuleDefId.{ModuleDefId}
use Rattle.hir_nameres.specs.HirIds.declared.ids.ModuleId.{ModuleId}
use Rattle.hir_nameres.specs.HirIds.declared.macro_kind.ProcMacroId.{ProcMacroId}
use Rattle.hir_nameres.specs.HirTextualScope.Macros.{with_macro}
use Rattle.hir_nameres.specs.HirTextualScope.declared.textual_scope.TextualMacro.{TextualMacro}
use Rattle.hir_nameres.specs.HirScope.Globs.{GlobNames}
use Rattle.hir_nameres.specs.HirScope.Scope.{ScopeValue, binding_of}
use Rattle.hir_nameres.specs.HirPerNs.declared.per_ns.PerNs.{PerNs}
use Rattle.hir_nameres.specs.HirPerNs.declared.visibility.Visibility.{Visibility}
use Rattle.hir_nameres.specs.HirDefMapRules.State.{MacroDataValue, Map, Variants, changed_at, entry_at, module_at}
use Rattle.hir_nameres.specs.HirDefMapRules.State.{new_id, new_module, numbered, pushed, with_child}
use Rattle.hir_nameres.specs.HirDefMapRules.State.{with_declared, with_enum, with_extern_block, with_module, with_module_scope, with_scope}
use Rattle.hir_nameres.specs.HirDefMapRules.Overlay.{Maps}
use Rattle.hir_nameres.specs.HirDefMapRules.Declaration.{listed}
use Rattle.hir_nameres.proofs.HirDefMapRules.Grown.{entry_at-with_module, length-changed}
use Rattle.hir_nameres.specs.HirDefMapRules.Listed.{KeepsNames}
use Rattle.hir_nameres.proofs.HirDefMapRules.Listed.{KeepsNames-listed}
use Rattle.hir_nameres.proofs.HirDefMapRules.StaysWellFormed.{length-made}
use Rattle.hir_nameres.specs.HirDefMapRules.declared.declaration.Declaration.{Declaration as Listing}
use Rattle.hir_nameres.specs.HirDefMapRules.declared.declaration.Declaration.TheVariants as declaration
use Rattle.hir_nameres.specs.HirDefMapRules.Macros.{with_derive_helper, with_diagnostic, with_exported, with_macro_data, with_macro_def}
use Rattle.hir_nameres.specs.HirMapParts.declared.diagnostics.DefDiagnostic.{DefDiagnostic}
use Rattle.hir_nameres.specs.HirMapParts.declared.derive_helpers.DeriveHelper.{DeriveHelper}
use Rattle.hir_nameres.specs.HirMapParts.declared.origin.ModuleOrigin.{ModuleOrigin}
use Rattle.hir_collector_rules.specs.Types.{Declaration}
use Rattle.hir_collector_rules.specs.Keys.{Environment}
use Rattle.hir_collector_rules.specs.State.{Core, State, counted, import_state, with_map}
use Rattle.hir_collector_rules.specs.ItemIds.{module_id}
use Rattle.hir_import_rules.specs.Directives.{AreAmong, namespaces_of}
use Rattle.hir_collector_rules.specs.Macros.{textual_at, with_macros_used}
use Rattle.hir_collector_rules.specs.Moves.{begun}
use Rattle.hir_collector_rules.specs.Changes.{Change, lists, makes, gives_variants, begins_paths, reaches, awaits, ends, settles, changes_imports, adds_textual}
use Rattle.hir_collector_rules.specs.Changes.{takes_textual, defines, describes, helps, lists_derive, notes, exports, uses_macros, tells, goes_on, act, perform}
use Rattle.hir_collector_rules.specs.Changes.{with_builtin_derive, with_derived}
use Rattle.hir_collector_rules.specs.Invocations.{Invocation, with_invocation, with_noted}
use Rattle.hir_collector_rules.specs.Steps.{Step, Steps, none, more, acts, asking, with_declaration}
use Rattle.hir_collector_rules.proofs.Declared.{Lists, Lists-changed, Lists-longer, Lists-listed}
use Rattle.hir_collector_rules.proofs.Bound.{AreAmong-same, AreAmong-trans, AreAmong-by, KeepsBindings, among-changed, keeps-edit}
use Rattle.hir_collector_rules.proofs.ImportEdits.{Edit, edit, edit_of, edited, map_after, pushes_to}

-- the modules, what their names are bound to and what they list stay
pub record Grows (old new : Map) : Type 0 where
  pub longer : length old.modules ≤ length new.modules
  pub kept : (at : ℕ) (name : List ℕ) → AreAmong (namespaces_of (entry_at old at name)) (namespaces_of (entry_at new at name))
  pub listed : (at : ℕ) (def : ModuleDefId) → Lists def (module_at old at) → Lists def (module_at new at)

pub Grows-same : (m : Map) → Grows m m
Grows-same m = record {
  longer = omega arith;
  kept = λ at name. AreAmong-same (namespaces_of (entry_at m at name));
  listed = λ at def h. h;
}

pub Grows-trans : {a b c : Map} → Grows a b → Grows b c → Grows a c
Grows-trans p q = record {
  longer = omega (arith, p.longer, q.longer);
  kept = λ at name. AreAmong-trans (p.kept at name) (q.kept at name);
  listed = λ at def h. q.listed at def (p.listed at def h);
}

-- ---- what is listed

pub Grows-listed : (m : Map) (home : ℕ) (d : Listing) → Grows m (with_scope m home (listed d))
Grows-listed m home d =
    let keeps : KeepsNames m (with_scope m home (listed d)) = KeepsNames-listed m home d in
    record {
      longer = let same : length (with_scope m home (listed d)).modules ≡ length m.modules = keeps.count in omega arith;
      kept = λ at name. AreAmong-by (ap namespaces_of (sym (keeps.entries at name))) (AreAmong-same (namespaces_of (entry_at m at name)));
      listed = λ at def h. Lists-changed def m.modules home (with_module_scope (listed d)) (Lists-listed def d) at h;
    }

-- the variants of an enum are none of these
pub Grows-with_enum : (m : Map) (id : EnumId) (variants : Variants) → Grows m (with_enum m id variants)
Grows-with_enum m id variants = record {
  longer = omega arith;
  kept = λ at name. AreAmong-same (namespaces_of (entry_at m at name));
  listed = λ at def h. h;
}

-- ---- what is bound

-- a change of one scope that keeps what it binds
pub Grows-scope : (m : Map) (at : ℕ) (change : ScopeValue → ScopeValue) → KeepsBindings change → Grows m (with_scope m at change)
Grows-scope m at change keeps = record {
  longer = let same : length (with_scope m at change).modules ≡ length m.modules = length-changed m.modules at (with_module_scope change) in omega arith;
  kept = λ k name. among-changed m.modules at change keeps k name;
  listed =
      λ k def h. Lists-changed def m.modules at (with_module_scope change) (λ v listed. subst (λ (defs : List ModuleDefId). Contains defs def)
      (sym (keeps.declared v.scope)) listed) k h;
}

pub Grows-edited : (m : Map) (o : Option (ℕ × Edit)) → Grows m (edited m o)
Grows-edited m None = Grows-same m
Grows-edited m (Some e) = Grows-scope m e.0 (edit (numbered m.id e.0) e.1) (keeps-edit (numbered m.id e.0) e.1)

pub Grows-pushed : (m : Map) (globs : GlobNames) (home : ℕ) (name : List ℕ) (items : PerNs) → Grows m (pushed m globs home name items None)
Grows-pushed m globs home name items = Grows-edited m (Some (home, pushes_to globs name items None))

pub Grows-with_module : (m : Map) (home : ℕ) (name : List ℕ) (origin : ModuleOrigin) (vis : Visibility) (above : Option ModuleId)
    → Grows m (with_module m home name (new_module origin vis above))
Grows-with_module m home name origin vis above = record {
  longer =
      let more : length (with_module m home name (new_module origin vis above)).modules ≡ length m.modules + 1 = length-made m home name
      (new_module origin vis above) in omega arith;
  kept =
      λ at other. AreAmong-by (ap namespaces_of (sym (entry_at-with_module m home name origin vis above at other)))
      (AreAmong-same (namespaces_of (entry_at m at other)));
  listed = λ at def h.
      Lists-longer def (changed_at m.modules home (with_child name (new_id m))) (new_module origin vis above) at
      (Lists-changed def m.modules home (with_child name (new_id m)) (λ v listed. listed) at h);
}

-- a diagnostic is added
pub Grows-told : (m : Map) (d : DefDiagnostic) → Grows m (with_diagnostic m d)
Grows-told m d = let same : Grows m m = Grows-same m in record { longer = same.longer; kept = same.kept; listed = same.listed }

-- macros come into textual scope, are defined and are used
keeps-textual : (change : List TextualMacro → List TextualMacro) → KeepsBindings (λ (s : ScopeValue). record s { legacy_macros = change s.legacy_macros })
keeps-textual change = record { bound = λ scope name. AreAmong-same (namespaces_of (binding_of scope name)); declared = λ scope. refl }

pub Grows-textual : (m : Map) (home : ℕ) (change : List TextualMacro → List TextualMacro)
    → Grows m (with_scope m home (λ (s : ScopeValue). record s { legacy_macros = change s.legacy_macros }))
Grows-textual m home change = Grows-scope m home _ (keeps-textual change)

Grows-defined : (m : Map) (node : AstId) (makro : MacroId) → Grows m (with_macro_def m node makro)
Grows-defined m node makro = let same : Grows m m = Grows-same m in record { longer = same.longer; kept = same.kept; listed = same.listed }

Grows-used : (m : Map) (macros : List (List ℕ × MacroId)) (by : Option ExternCrateId) → Grows m (with_macros_used m macros by)
Grows-used m macros by = let same : Grows m m = Grows-same m in record { longer = same.longer; kept = same.kept; listed = same.listed }

-- what is kept of a macro, a helper, a function that exports a macro, and the impl for which a builtin derive macro stands
Grows-described : (m : Map) (makro : MacroId) (what : MacroDataValue) → Grows m (with_macro_data m makro what)
Grows-described m makro what = let same : Grows m m = Grows-same m in record { longer = same.longer; kept = same.kept; listed = same.listed }

Grows-helped : (m : Map) (node : AstId) (helper : DeriveHelper) → Grows m (with_derive_helper m node helper)
Grows-helped m node helper = let same : Grows m m = Grows-same m in record { longer = same.longer; kept = same.kept; listed = same.listed }

Grows-exported : (m : Map) (f : FunctionId) (makro : ProcMacroId) → Grows m (with_exported m f makro)
Grows-exported m f makro = let same : Grows m m = Grows-same m in record { longer = same.longer; kept = same.kept; listed = same.listed }

keeps-derived : (imp : BuiltinDeriveImplId) → KeepsBindings (with_builtin_derive imp)
keeps-derived imp = record { bound = λ scope name. AreAmong-same (namespaces_of (binding_of scope name)); declared = λ scope. refl }

Grows-derived : (m : Map) (home : ℕ) (imp : BuiltinDeriveImplId) → Grows m (with_derived m home imp)
Grows-derived m home imp = Grows-scope m home (with_builtin_derive imp) (keeps-derived imp)

-- and what a scope notes of calls, attributes and derives
keeps-noted : (invocation : Invocation) → KeepsBindings (with_invocation invocation)
keeps-noted invocation = record { bound = λ scope name. AreAmong-same (namespaces_of (binding_of scope name)); declared = λ scope. refl }

Grows-noted : (m : Map) (home : ℕ) (invocation : Invocation) → Grows m (with_noted m home invocation)
Grows-noted m home invocation = Grows-scope m home (with_invocation invocation) (keeps-noted invocation)

-- ---- changes

pub Grows-act : (s : State) (c : Change) → Grows s.core.map (act s c).core.map
Grows-act s (lists home d) = Grows-listed s.core.map home d
Grows-act s (makes home name origin visibility) = Grows-with_module s.core.map home name origin visibility (Some (module_id s.core.map home))
Grows-act s (gives_variants id variants) = Grows-with_enum s.core.map id variants
Grows-act s (changes_imports c) =
    subst (λ (m : Map). Grows s.core.map m) (sym (map_after (import_state s) c)) (Grows-edited s.core.map (edit_of (import_state s) c))
Grows-act s (adds_textual home name makro) = Grows-textual s.core.map home (λ macros. with_macro macros name makro)
Grows-act s (takes_textual home from) = Grows-textual s.core.map home (λ _. textual_at s.core.map from)
Grows-act s (defines node makro) = Grows-defined s.core.map node makro
Grows-act s (describes makro what) = Grows-described s.core.map makro what
Grows-act s (helps node helper) = Grows-helped s.core.map node helper
Grows-act s (lists_derive home imp) = Grows-derived s.core.map home imp
Grows-act s (notes home invocation) = Grows-noted s.core.map home invocation
Grows-act s (exports f makro) = Grows-exported s.core.map f.id makro
Grows-act s (uses_macros macros by) = Grows-used s.core.map macros by
Grows-act s (tells d) = Grows-told s.core.map d
Grows-act s other = Grows-same s.core.map

pub Grows-perform : (cs : List Change) (s : State) → Grows s.core.map (perform s cs).core.map
Grows-perform [] s = Grows-same s.core.map
Grows-perform (c ∷ cs) s = Grows-trans (Grows-act s c) (Grows-perform cs (act s c))

-- a step leaves the modules and the bindings
pub Grows-Step : {env : Environment} {finished : Maps} {old new : State} → Step env finished old new → Grows old.core.map new.core.map
Grows-Step {finished = finished} {old = old} step =
    subst (λ (s : State). Grows old.core.map s.core.map) (sym step.is) (Grows-perform (acts finished old step.rule) (asking old step.rule))

pub Grows-Steps : {env : Environment} {finished : Maps} {from to : State} → Steps env finished from to → Grows from.core.map to.core.map
Grows-Steps {from = from} none = Grows-same from.core.map
Grows-Steps (more old new before step) = Grows-trans (Grows-Steps before) (Grows-Step step)

-- ---- how many modules there are

-- a module that is made, listed and bound adds one
pub longer_by_module : (old new : Core) (home : ℕ) (name : List ℕ) (origin : ModuleOrigin) (vis : Visibility) (above : Option ModuleId) (d : Declaration)
    → new ≡ counted (with_declaration (with_map old (begun old.map home name (new_module origin vis above))) home d) → length old.map.modules < length
    new.map.modules
longer_by_module old new home name origin vis above d is =
    let made : Map = with_module old.map home name (new_module origin vis above) in
    let started : Map = begun old.map home name (new_module origin vis above) in
    let one_more : length made.modules ≡ length old.map.modules + 1 = length-made old.map home name (new_module origin vis above) in
    let same : length made.modules ≤ length started.modules = (Grows-textual made (length old.map.modules) (λ _. textual_at made home)).longer in
    let declared : Core = with_declaration (with_map old started) home d in
    let kept : length started.modules ≤ length declared.map.modules =
    (Grows-trans (Grows-listed started home (declaration.Def d.def)) (Grows-pushed (with_declared started home d.def) old.globs.names home d.name
    d.items)).longer in
    let below : length old.map.modules < length declared.map.modules = omega arith in
    rw is below

-- an extern block that is listed leaves each module there
pub longer_by_block : (old new : Core) (home : ℕ) (id : ExternBlockId) → new ≡ counted (with_map old (with_extern_block old.map home id))
    → home < length old.map.modules → home < length new.map.modules
longer_by_block old new home id is h =
    let same : length (with_extern_block old.map home id).modules ≡ length old.map.modules = (KeepsNames-listed old.map home (declaration.ExternBlock id)).count
    in
    rw is (omega arith)
