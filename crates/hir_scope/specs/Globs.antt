-- Which names of modules stand for what a glob brought?
use Rattle.std.specs.Prelude.{List, []}
pub use Rattle.hir_scope_table.specs.Globs.{Place, place_cmp, has_place, with_place, without_place}

-- the names that globs brought, by namespace
pub record GlobNames : Type 0 where
  pub types : List Place
  pub values : List Place
  pub macros : List Place

-- no glob has brought anything
abbrev pub no_globs : GlobNames
no_globs = record { types = []; values = []; macros = [] }
