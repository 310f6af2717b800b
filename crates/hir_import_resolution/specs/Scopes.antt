-- The scopes of a map that is built, as globs see them.
use Rattle.hir_nameres.specs.WorldParts.{part_of}
use Rattle.hir_glob_imports.specs.View.{NameTable}
use Rattle.hir_import_resolution.specs.declared.scopes.OpenScopes.{OpenScopes}
use Rattle.hir_import_rules.specs.Names.{ScopesValue, copied, followed, raised, view_of}

-- what they hold, with the finished maps beside them
abbrev pub value_of : OpenScopes → ScopesValue
value_of o = record { finished = part_of o.world; map = o.map; globs = o.globs }

-- the same with other scopes
abbrev pub with_value : OpenScopes → ScopesValue → OpenScopes
with_value o v = record o { map = v.map; globs = v.globs }

-- the names that globs read and write of them
abbrev pub open_table : NameTable OpenScopes
open_table = record {
  view = λ o. view_of (value_of o);
  copied = λ o s of vis by. with_value o (copied (value_of o) s of vis by);
  followed = λ o s of vis. with_value o (followed (value_of o) s of vis);
  raised = λ o s vis. with_value o (raised (value_of o) s vis);
}
