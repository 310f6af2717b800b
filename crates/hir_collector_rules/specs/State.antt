-- Where a run stands.
use Rattle.std.specs.Prelude.{ℕ, ◌+◌, Bool, List, [], ◌∷◌, ◌++◌, None, length, map, slice_get, slice_set, unwrap_or}
use Rattle.hir_nameres.specs.HirBase.declared.cfg.CfgAtom.{CfgAtom}
use Rattle.hir_item_tree.specs.KeptForest.{KeptItem, KeptForest, no_items, item}
use Rattle.hir_nameres.specs.HirScope.Globs.{GlobNames}
use Rattle.hir_nameres.specs.HirPerNs.declared.per_ns.PerNs.{PerNs}
use Rattle.hir_nameres.specs.HirDefMapRules.State.{Local, Map, globs_after, no_globs, pushed}
use Rattle.hir_glob_imports.specs.Rules.{BroughtBy}
use Rattle.hir_glob_imports.specs.Waves.{GlobsValue, brought_of}
use Rattle.hir_glob_imports.specs.declared.edge.Edge.{Edge}
use Rattle.hir_import_rules.specs.Changes.{forgotten}
use Rattle.hir_import_rules.specs.Changed.{ChangedValue}
use Rattle.hir_import_rules.specs.declared.directive.ImportDirective.{ImportDirective}
use Rattle.hir_import_rules.specs.Directives.{TakenValue, not_taken}
use Rattle.hir_import_rules.specs.State.{ImportState, nothing_brought}
use Rattle.hir_collector_rules.specs.declared.exported.ExportedFunction.{ExportedFunction}
use Rattle.hir_collector_rules.specs.declared.macro_directive.EagerMacro.{EagerMacro}
use Rattle.hir_collector_rules.specs.declared.macro_directive.Fate.{Fate}
use Rattle.hir_collector_rules.specs.declared.macro_directive.Fate.TheVariants.{Waits}
use Rattle.hir_collector_rules.specs.declared.macro_directive.MacroDirective.{MacroDirective}
use Rattle.hir_collector_rules.specs.declared.site.Site.{Site}
use Rattle.hir_collector_rules.specs.declared.source_database.Dependency.{Dependency}
use Rattle.hir_collector_rules.specs.declared.source_database.Key.{Key}

-- an item that was come upon and not handled yet, where it is written, and how many of its attributes are done with
pub record Visit : Type 0 where
  pub site : Site
  pub item : KeptItem
  pub done : ℕ

-- an item that is written at a site, of whose attributes none is done with
abbrev pub visit : Site → KeptItem → Visit
visit site i = record { site = site; item = i; done = 0 }

-- the same item where so many of its attributes are done with
abbrev pub behind : Visit → ℕ → Visit
behind v done = record v { done = done }

-- something that is still to be done
pub data Task : Type 0 where
  -- an item is visited
  visits : Visit → Task
  -- the items of a module were visited, and its macros in textual scope become those of the module around it
  closes : (parent child : ℕ) → Task

-- the globs that were recorded, and what they brought
pub record RecordedGlobs : Type 0 where
  -- the names that globs brought
  pub names : GlobNames
  -- the globs
  pub edges : List Edge
  -- which of them brought what stands in a slot, and what it saw
  pub brought : BroughtBy

-- no glob was recorded
abbrev pub no_recorded_globs : RecordedGlobs
no_recorded_globs = record { names = no_globs; edges = []; brought = nothing_brought }

-- where a run stands, what it has still to do aside
pub record Core : Type 0 where
  -- the modules so far, and what each binds
  pub map : Map
  -- the crates that paths may begin with
  pub local : Local
  -- the crates that an `extern crate` may name: those on which the crate depends, in the order in which they were handed in
  pub dependencies : List Dependency
  -- the options of the crate that are set
  pub options : List CfgAtom
  -- the globs that were recorded, and what they brought
  pub globs : RecordedGlobs
  -- the imports that were come upon, in order
  pub reached : List ImportDirective
  -- for each of them what its takings reached
  pub taken : List TakenValue
  -- the macro calls, paths of derives and attributes that were come upon and wait or waited for a macro, in order
  pub calls : List MacroDirective
  -- for each of them what became of it
  pub fates : List Fate
  -- for each of them the eager macros that it reached while a path that they ask for first reached nothing, in order
  pub eager : List (List EagerMacro)
  -- how many calls there were when imports rested last: these may be expanded
  pub settled : ℕ
  -- whether the crate is a procedural macro's, and the functions of its root that export macros, in order
  pub is_proc_macro : Bool
  pub exported : List ExportedFunction
  -- the keys that were asked for, those of finished maps aside
  pub asked : List Key
  -- how many steps were taken
  pub count : ℕ

-- a core as data, which the value of a type has to be: what globs brought is a list here
pub record Run : Type 0 where
  pub map : Map
  pub local : Local
  pub dependencies : List Dependency
  pub options : List CfgAtom
  -- the names that globs brought, the globs, and what is to be looked at along them
  pub names : GlobNames
  pub globs : GlobsValue
  pub reached : List ImportDirective
  pub taken : List TakenValue
  pub calls : List MacroDirective
  pub fates : List Fate
  pub eager : List (List EagerMacro)
  pub settled : ℕ
  pub is_proc_macro : Bool
  pub exported : List ExportedFunction
  pub asked : List Key
  pub count : ℕ
  -- the slots of paths that may have changed since it was last looked at
  pub changed : ChangedValue

-- the core that this keeps
unfoldable pub core_in : Run → Core
core_in r = record {
  map = r.map;
  local = r.local;
  dependencies = r.dependencies;
  options = r.options;
  globs = record { names = r.names; edges = r.globs.edges; brought = brought_of r.globs };
  reached = r.reached;
  taken = r.taken;
  calls = r.calls;
  fates = r.fates;
  eager = r.eager;
  settled = r.settled;
  is_proc_macro = r.is_proc_macro;
  exported = r.exported;
  asked = r.asked;
  count = r.count;
}

-- where a run stands
pub record State : Type 0 where
  pub core : Core
  -- what is still to be done, the next first
  pub agenda : List Task

-- a core and what is still to be done
abbrev pub joined : Core → List Task → State
joined c agenda = record { core = c; agenda = agenda }

-- the core with another map, with other crates that paths may begin with, with more imports, with one more step
abbrev pub with_map : Core → Map → Core
with_map c m = record c { map = m }

abbrev pub with_local : Core → Local → Core
with_local c local = record c { local = local }

abbrev pub with_imports : Core → List ImportDirective → Core
with_imports c rs = record c { reached = c.reached ++ rs; taken = c.taken ++ not_taken rs }

-- the core with more calls, all of which wait
abbrev pub all_wait : List MacroDirective → List Fate
all_wait calls = map (λ (d : MacroDirective). Waits) calls

-- none of which has reached an eager macro
abbrev pub none_eager : List MacroDirective → List (List EagerMacro)
none_eager calls = map (λ (d : MacroDirective). []) calls

abbrev pub with_calls : Core → List MacroDirective → Core
with_calls c calls = record c { calls = c.calls ++ calls; fates = c.fates ++ all_wait calls; eager = c.eager ++ none_eager calls }

-- the eager macros that the call at a place reached
abbrev pub eager_among : List (List EagerMacro) → ℕ → List EagerMacro
eager_among eager i = unwrap_or (slice_get eager i) []

abbrev pub eager_at : Core → ℕ → List EagerMacro
eager_at c i = eager_among c.eager i

-- the core where the call at a place reached one more
abbrev pub with_eager : Core → ℕ → EagerMacro → Core
with_eager c i seen = record c { eager = slice_set c.eager i (eager_at c i ++ seen ∷ []) }

-- the core where this became of the call at a place
abbrev pub with_fate : Core → ℕ → Fate → Core
with_fate c i fate = record c { fates = slice_set c.fates i fate }

-- the core where the calls that there are may be expanded
abbrev pub with_settled : Core → Core
with_settled c = record c { settled = length c.calls }

-- the core where one more function exports a macro
abbrev pub with_exported_function : Core → ExportedFunction → Core
with_exported_function c f = record c { exported = c.exported ++ f ∷ [] }

-- the core once a declaration bound items to a name of a module: no glob has brought any more what stands there
abbrev pub with_bound : Core → ℕ → List ℕ → PerNs → Core
with_bound c home name items = record c {
  map = pushed c.map c.globs.names home name items None;
  globs = record {
    names = globs_after c.map c.globs.names home name items None;
    edges = c.globs.edges;
    brought = forgotten home name items c.globs.brought;
  };
}

-- the core with one more key asked for
abbrev pub with_asked : Core → Key → Core
with_asked c key = record c { asked = c.asked ++ key ∷ [] }

abbrev pub counted : Core → Core
counted c = record c { count = c.count + 1 }

-- a core with nothing to be done
abbrev pub at_rest : Core → State
at_rest c = joined c []

-- the items of a forest that is written at a site, to be visited one after another
abbrev pub visits_over : Site → KeptForest → List Task
visits_over site no_items = []
visits_over site (item i is) = visits (visit site i) ∷ visits_over site is

-- the state with one more step counted
abbrev pub ticked : State → State
ticked s = record s { core = counted s.core }

-- ---- what imports read and change of it

-- where the imports of a state stand
abbrev pub import_state : State → ImportState
import_state s = record {
  map = s.core.map;
  local = s.core.local;
  globs = s.core.globs.names;
  imports = s.core.reached;
  taken = s.core.taken;
  edges = s.core.globs.edges;
  brought = s.core.globs.brought;
  count = s.core.count;
}

-- the core, and the state, where its imports stand so
abbrev pub core_with_imports : Core → ImportState → Core
core_with_imports c i = record c {
  map = i.map;
  local = i.local;
  globs = record { names = i.globs; edges = i.edges; brought = i.brought };
  reached = i.imports;
  taken = i.taken;
  count = i.count;
}

abbrev pub with_import_state : State → ImportState → State
with_import_state s i = record s { core = core_with_imports s.core i }
