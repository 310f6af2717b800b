-- Which diagnostics does a run make?
use Rattle.std.specs.Prelude.{◌≡◌, ℕ, Bool, true, false, List, [], ◌∷◌, ◌++◌, cond, drop}
use Rattle.std.specs.List.{list_any}
use Rattle.std.specs.BTreeMap.{is_at}
use Rattle.std.specs.Cmp.Lexicographic.{slice_cmp}
use Rattle.std.specs.Ordering.{nat_cmp}
use Rattle.std.specs.declared.alloc.Global.{Global}
use Rattle.std.specs.declared.vec.Vec.{Vec}
use Rattle.hir_nameres.specs.HirBase.Cfg.{Cfg, cfg_view}
use Rattle.hir_nameres.specs.HirBase.ModPath.{Path}
use Rattle.hir_nameres.specs.HirIds.declared.ast_id.AstId.{AstId}
use Rattle.hir_nameres.specs.HirIds.declared.ast_id.AttrId.{AttrId}
use Rattle.hir_nameres.specs.HirBase.declared.cfg.CfgAtom.{CfgAtom}
use Rattle.hir_nameres.specs.HirBase.declared.cfg.CfgExpr.{CfgExpr}
use Rattle.hir_nameres.specs.HirIds.declared.macro_kind.MacroExpander.{MacroExpander}
use Rattle.hir_nameres.specs.HirIds.declared.ids.MapId.{MapId}
use Rattle.hir_nameres.specs.HirIds.declared.ids.ModuleId.{ModuleId}
use Rattle.hir_nameres.specs.HirBase.declared.mod_path.PathKind.{PathKind}
use Rattle.hir_nameres.specs.HirIds.declared.ast_id.AstKind.TheVariants as nodes
use Rattle.hir_nameres.specs.HirIds.declared.macro_kind.MacroExpander.TheVariants as expanders
use Rattle.hir_nameres.specs.HirBase.declared.mod_path.PathKind.TheVariants as roots
use Rattle.hir_nameres.specs.HirDefMapRules.Overlay.{Maps}
use Rattle.hir_nameres.specs.HirDefMapRules.State.{Local, Map, numbered}
use Rattle.hir_nameres.specs.HirMapParts.declared.diagnostics.DefDiagnostic.{DefDiagnostic}
use Rattle.hir_nameres.specs.HirMapParts.declared.diagnostics.DefDiagnosticKind.TheVariants as kinds
use Rattle.hir_import_rules.specs.declared.directive.ImportDirective.{ImportDirective}
use Rattle.hir_import_rules.specs.declared.directive.ImportSource.{ImportSource}
use Rattle.hir_import_rules.specs.declared.directive.ImportSource.TheVariants as sources
use Rattle.hir_import_rules.specs.Directives.{TakenValue, is_untaken}
use Rattle.hir_collector_rules.specs.declared.macro_directive.EagerMacro.{EagerMacro}
use Rattle.hir_collector_rules.specs.declared.macro_directive.Fate.{Fate}
use Rattle.hir_collector_rules.specs.declared.macro_directive.Fate.TheVariants as fates
use Rattle.hir_collector_rules.specs.declared.macro_directive.MacroDirective.{MacroDirective}
use Rattle.hir_collector_rules.specs.Calls.{call_kind, told_path}
use Rattle.hir_collector_rules.specs.CrateTop.{with_names}
use Rattle.hir_collector_rules.specs.State.{eager_among}

-- ---- items

-- a node in a module is left out by this condition, under these options
pub record IsUnconfigured (at : ModuleId) (node : AstId) (condition : Cfg) (options : List CfgAtom) (d : DefDiagnostic) : Type 0 where
  pub cfg : CfgExpr
  pub is : d ≡ record { in_module = at; kind = kinds.UnconfiguredCode node cfg options }
  pub says : cfg_view cfg ≡ condition

-- no file is found of a `mod` item in a module, where these are the candidates
pub record IsUnresolvedModule (at : ModuleId) (node : AstId) (candidates : List (List ℕ)) (d : DefDiagnostic) : Type 0 where
  pub texts : Vec (List ℕ) Global
  pub is : d ≡ record { in_module = at; kind = kinds.UnresolvedModule node texts }
  pub are : texts.items ≡ candidates

-- whether nothing can expand a macro
abbrev pub is_unimplemented : MacroExpander → Bool
is_unimplemented (expanders.Declarative styles) = false
is_unimplemented expanders.Builtin = false
is_unimplemented expanders.BuiltinEager = false
is_unimplemented expanders.BuiltinAttr = false
is_unimplemented expanders.BuiltinDerive = false
is_unimplemented expanders.Unimplemented = true

-- nothing can expand the macro that a node in a module defines
abbrev pub unimplemented_macro : ModuleId → AstId → DefDiagnostic
unimplemented_macro at node = record { in_module = at; kind = kinds.UnimplementedBuiltinMacro node }

-- a `derive` on what is no struct, enum or union, and one without paths
abbrev pub invalid_target : ModuleId → AstId → AttrId → DefDiagnostic
invalid_target at node id = record { in_module = at; kind = kinds.InvalidDeriveTarget node id }

abbrev pub malformed_derive : ModuleId → AstId → AttrId → DefDiagnostic
malformed_derive at node id = record { in_module = at; kind = kinds.MalformedDerive node id }

-- the macro of a call on a node is known, and it didn't expand, or not well
abbrev pub failed_call : ModuleId → AstId → Path → List ℕ → DefDiagnostic
failed_call at node path error = record { in_module = at; kind = kinds.MacroError node path error }

-- ---- calls that are left over

-- a call, a path of a derive or an attribute reaches no macro, or one that asks for a path first that reaches none
abbrev pub call_report : Maps → Local → Map → MacroDirective → List EagerMacro → DefDiagnostic
call_report finished local m d eager = record {
  in_module = numbered m.id d.site.home;
  kind = kinds.UnresolvedMacroCall (call_kind d) (told_path finished local m d eager);
}

-- one for each call that waits, in the order in which they were come upon
abbrev pub unresolved_calls : Maps → Local → Map → List MacroDirective → List Fate → List (List EagerMacro) → List DefDiagnostic
unresolved_calls finished local m [] fs es = []
unresolved_calls finished local m (d ∷ ds) [] es = []
unresolved_calls finished local m (d ∷ ds) (fates.Waits ∷ fs) es =
    call_report finished local m d (eager_among es 0) ∷ unresolved_calls finished local m ds fs (drop 1 es)
unresolved_calls finished local m (d ∷ ds) (fates.Handled ∷ fs) es = unresolved_calls finished local m ds fs (drop 1 es)
-- an attribute that was given up was reported then
unresolved_calls finished local m (d ∷ ds) (fates.GivenUp ∷ fs) es = unresolved_calls finished local m ds fs (drop 1 es)

-- ---- imports that are left over

-- the imports that were never taken
abbrev pub unresolved_among : List ImportDirective → List TakenValue → List ImportDirective
unresolved_among [] ts = []
unresolved_among (r ∷ rs) [] = []
unresolved_among (r ∷ rs) (t ∷ ts) = cond (is_untaken t) (r ∷ unresolved_among rs ts) (unresolved_among rs ts)

-- the name of the crate that an `extern crate` names
abbrev pub crate_names : ImportSource → List (List ℕ) → List (List ℕ)
crate_names (sources.Use id kind) segments = []
crate_names (sources.ExternCrate id krate) segments = segments

-- the names of the crates that the `extern crate`s among imports name, each once
abbrev pub crates_among : List (List ℕ) → List ImportDirective → List (List ℕ)
crates_among names [] = names
crates_among names (r ∷ rs) = crates_among (with_names names (crate_names r.source r.path.segments)) rs

-- whether a path begins with one of these names
abbrev pub first_is : List (List ℕ) → List (List ℕ) → Bool
first_is names [] = false
first_is names (first ∷ rest) = list_any (is_at (slice_cmp nat_cmp first)) names

abbrev pub begins_with : List (List ℕ) → PathKind → List (List ℕ) → Bool
begins_with names roots.Plain segments = first_is names segments
begins_with names roots.Abs segments = first_is names segments
begins_with names (roots.Super levels) segments = false
begins_with names roots.Crate segments = false
begins_with names (roots.DollarCrate krate) segments = false

-- the diagnostics of an import that is left over, where these crates are: none if its path begins with one of them
abbrev pub report_by : ModuleId → List (List ℕ) → ImportSource → Path → List DefDiagnostic
report_by at names (sources.ExternCrate id krate) path =
    record {
      in_module = at;
      kind = kinds.UnresolvedExternCrate
          (record { file_id = id.loc.file_id; block = id.loc.block; kind = nodes.ExternCrate; id = id.loc.id });
    } ∷ []
report_by at names (sources.Use id kind) path =
    cond (begins_with names path.kind path.segments) [] (record { in_module = at; kind = kinds.UnresolvedImport id.use_ id.idx } ∷ [])

abbrev pub reports_of : MapId → List (List ℕ) → List ImportDirective → List DefDiagnostic
reports_of id names [] = []
reports_of id names (r ∷ rs) = report_by (numbered id r.home) names r.source r.path ++ reports_of id names rs

-- the diagnostics of what is left over, in the order in which it was come upon
abbrev pub leftover_diagnostics : Map → List ImportDirective → List TakenValue → List DefDiagnostic
leftover_diagnostics m rs ts =
    let unresolved : List ImportDirective = unresolved_among rs ts in reports_of m.id (crates_among [] unresolved) unresolved

-- the map with more diagnostics
abbrev pub with_diagnostics : Map → List DefDiagnostic → Map
with_diagnostics m ds = record m { diagnostics = m.diagnostics ++ ds }
