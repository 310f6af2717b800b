-- Where do imports stand?
use Rattle.std.specs.Prelude.{ℕ, ◌+◌, List, None, slice_set}
use Rattle.hir_nameres.specs.HirScope.Globs.{GlobNames}
use Rattle.hir_nameres.specs.HirDefMapRules.State.{Local, Map}
use Rattle.hir_nameres.specs.HirDefMapRules.Overlay.{Maps}
use Rattle.hir_glob_imports.specs.Rules.{BroughtBy, GlobState}
use Rattle.hir_glob_imports.specs.declared.edge.Edge.{Edge}
use Rattle.hir_import_rules.specs.declared.directive.ImportDirective.{ImportDirective}
use Rattle.hir_import_rules.specs.Directives.{TakenValue}
use Rattle.hir_import_rules.specs.Names.{ScopesValue}

-- where imports stand
pub record ImportState : Type 0 where
  -- the modules so far, and what each binds
  pub map : Map
  -- the crates that paths may begin with
  pub local : Local
  -- the names that globs brought
  pub globs : GlobNames
  -- the imports that were found, in order
  pub imports : List ImportDirective
  -- for each of them what its takings reached
  pub taken : List TakenValue
  -- the globs that were recorded
  pub edges : List Edge
  -- which of them brought what stands in a slot, and what it saw
  pub brought : BroughtBy
  -- how many steps were taken
  pub count : ℕ

-- no glob has brought anything
abbrev pub nothing_brought : BroughtBy
nothing_brought slot = None

abbrev pub with_taken : ImportState → ℕ → TakenValue → ImportState
with_taken s i t = record s { taken = slice_set s.taken i t }

abbrev pub ticked : ImportState → ImportState
ticked s = record s { count = s.count + 1 }

-- the scopes of a state, beside finished maps
abbrev pub scopes_of : Maps → ImportState → ScopesValue
scopes_of finished s = record { finished = finished; map = s.map; globs = s.globs }

-- the part of a state that globs change
abbrev pub glob_state : Maps → ImportState → GlobState ScopesValue
glob_state finished s = record { names = scopes_of finished s; edges = s.edges; brought = s.brought; count = s.count }

-- the state with another such part
abbrev pub with_glob_state : ImportState → GlobState ScopesValue → ImportState
with_glob_state s g = record s { map = g.names.map; globs = g.names.globs; edges = g.edges; brought = g.brought; count = g.count }
