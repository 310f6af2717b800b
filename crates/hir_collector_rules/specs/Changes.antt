-- The changes that steps are made of.
use Rattle.std.specs.Prelude.{ℕ, List, [], ◌∷◌, ◌++◌, Option, Some}
use Rattle.hir_nameres.specs.HirIds.declared.ast_id.AstId.{AstId}
use Rattle.hir_nameres.specs.HirIds.declared.macro_kind.BuiltinDeriveImplId.{BuiltinDeriveImplId}
use Rattle.hir_nameres.specs.HirIds.declared.ids.EnumId.{EnumId}
use Rattle.hir_nameres.specs.HirIds.declared.ids.ExternCrateId.{ExternCrateId}
use Rattle.hir_nameres.specs.HirIds.declared.macro_kind.MacroId.{MacroId}
use Rattle.hir_nameres.specs.HirIds.declared.macro_kind.ProcMacroId.{ProcMacroId}
use Rattle.hir_nameres.specs.HirScope.Scope.{ScopeValue}
use Rattle.hir_nameres.specs.HirPerNs.declared.visibility.Visibility.{Visibility}
use Rattle.hir_nameres.specs.HirDefMapRules.Declaration.{listed}
use Rattle.hir_nameres.specs.HirDefMapRules.Macros.{with_derive_helper, with_diagnostic, with_exported, with_macro_data, with_macro_def}
use Rattle.hir_nameres.specs.HirDefMapRules.State.{MacroDataValue, Map, Variants, new_module, with_enum, with_module, with_scope}
use Rattle.hir_nameres.specs.HirDefMapRules.declared.declaration.Declaration.{Declaration as Listing}
use Rattle.hir_nameres.specs.HirMapParts.declared.diagnostics.DefDiagnostic.{DefDiagnostic}
use Rattle.hir_nameres.specs.HirMapParts.declared.derive_helpers.DeriveHelper.{DeriveHelper}
use Rattle.hir_nameres.specs.HirMapParts.declared.origin.ModuleOrigin.{ModuleOrigin}
use Rattle.hir_import_rules.specs.declared.directive.ImportDirective.{ImportDirective}
use Rattle.hir_import_rules.specs.Changes.{Change as ImportChange, act as act_on_imports}
use Rattle.hir_collector_rules.specs.declared.exported.ExportedFunction.{ExportedFunction}
use Rattle.hir_collector_rules.specs.declared.macro_directive.EagerMacro.{EagerMacro}
use Rattle.hir_collector_rules.specs.declared.macro_directive.Fate.{Fate}
use Rattle.hir_collector_rules.specs.declared.macro_directive.MacroDirective.{MacroDirective}
use Rattle.hir_collector_rules.specs.State.{State, Task, import_state, with_calls, with_eager, with_exported_function, with_fate, with_import_state}
use Rattle.hir_collector_rules.specs.State.{with_imports}
use Rattle.hir_collector_rules.specs.State.{with_local, with_map, with_settled}
use Rattle.hir_collector_rules.specs.Invocations.{Invocation, with_noted}
use Rattle.hir_collector_rules.specs.ItemIds.{module_id}
use Rattle.hir_collector_rules.specs.Imports.{extern_after}
use Rattle.hir_collector_rules.specs.Macros.{textual_at, with_macros_used, with_textual_macro, with_textual_scope}

-- one change
pub data Change : Type 0 where
  -- a module lists a definition, a `use` item, an impl or the like
  lists : (home : ℕ) → Listing → Change
  -- a module is made inside another
  makes : (home : ℕ) → (name : List ℕ) → ModuleOrigin → Visibility → Change
  -- an enum has these variants
  gives_variants : EnumId → Variants → Change
  -- paths may begin with the name that an `extern crate` of the root module gives a crate
  begins_paths : ImportDirective → Change
  -- imports are come upon, none of them taken
  reaches : List ImportDirective → Change
  -- macro calls, paths of derives or attributes are come upon, all of which wait
  awaits : List MacroDirective → Change
  -- this is what becomes of the call at a place
  ends : (i : ℕ) → Fate → Change
  -- the call at a place reached an eager macro, and a path that this asks for first reached nothing
  meets_eager : (i : ℕ) → EagerMacro → Change
  -- the calls that there are may be expanded
  settles : Change
  -- a declaration, an import or a glob binds names, or it's noted what an import was taken for
  changes_imports : ImportChange → Change
  -- a macro is defined, which comes last among those of its name in textual scope in a module
  adds_textual : (home : ℕ) → (name : List ℕ) → MacroId → Change
  -- a module takes over the macros that are in textual scope in another
  takes_textual : (home from : ℕ) → Change
  -- an item defines a macro
  defines : AstId → MacroId → Change
  -- this is kept of a macro
  describes : MacroId → MacroDataValue → Change
  -- a helper that a derive brings comes into scope on an item
  helps : AstId → DeriveHelper → Change
  -- a module lists the impl that a builtin derive macro stands for
  lists_derive : (home : ℕ) → BuiltinDeriveImplId → Change
  -- a scope notes what became of a macro call, an attribute or a path of a derive, or that there is a derive
  notes : (home : ℕ) → Invocation → Change
  -- a function exports a macro
  exports : ExportedFunction → ProcMacroId → Change
  -- macros come into the macro-use prelude, brought by an `extern crate`, if by one
  uses_macros : List (List ℕ × MacroId) → Option ExternCrateId → Change
  -- this is reported
  tells : DefDiagnostic → Change
  -- these are done next, and then nothing
  goes_on : List Task → Change

-- the state with another map
abbrev pub on_map : State → Map → State
on_map s m = record s { core = with_map s.core m }

-- the scope with the impl that a builtin derive macro stands for
abbrev pub with_builtin_derive : BuiltinDeriveImplId → ScopeValue → ScopeValue
with_builtin_derive imp s = record s { builtin_derive_impls = s.builtin_derive_impls ++ imp ∷ [] }

-- the map with it in a module
abbrev pub with_derived : Map → ℕ → BuiltinDeriveImplId → Map
with_derived m home imp = with_scope m home (with_builtin_derive imp)

-- what a change makes of a state
abbrev pub act : State → Change → State
act s (lists home d) = on_map s (with_scope s.core.map home (listed d))
act s (makes home name origin visibility) = on_map s (with_module s.core.map home name (new_module origin visibility (Some (module_id s.core.map home))))
act s (gives_variants id variants) = on_map s (with_enum s.core.map id variants)
act s (begins_paths r) = record s { core = with_local s.core (extern_after s.core.map s.core.local r) }
act s (reaches rs) = record s { core = with_imports s.core rs }
act s (awaits calls) = record s { core = with_calls s.core calls }
act s (ends i fate) = record s { core = with_fate s.core i fate }
act s (meets_eager i seen) = record s { core = with_eager s.core i seen }
act s settles = record s { core = with_settled s.core }
act s (changes_imports c) = with_import_state s (act_on_imports (import_state s) c)
act s (adds_textual home name makro) = on_map s (with_textual_macro s.core.map home name makro)
act s (takes_textual home from) = on_map s (with_textual_scope s.core.map home (textual_at s.core.map from))
act s (defines node makro) = on_map s (with_macro_def s.core.map node makro)
act s (describes makro what) = on_map s (with_macro_data s.core.map makro what)
act s (helps node helper) = on_map s (with_derive_helper s.core.map node helper)
act s (lists_derive home imp) = on_map s (with_derived s.core.map home imp)
act s (notes home invocation) = on_map s (with_noted s.core.map home invocation)
act s (exports f makro) = record s { core = with_exported_function (with_map s.core (with_exported s.core.map f.id makro)) f }
act s (uses_macros macros by) = on_map s (with_macros_used s.core.map macros by)
act s (tells d) = on_map s (with_diagnostic s.core.map d)
act s (goes_on tasks) = record s { agenda = tasks }

-- changes one after another
abbrev pub perform : State → List Change → State
perform s [] = s
perform s (c ∷ cs) = perform (act s c) cs
