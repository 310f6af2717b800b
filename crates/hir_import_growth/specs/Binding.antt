-- What does a push change?
use Rattle.std.specs.Prelude.{◌≡◌, ℕ, Bool, true, false, List, is_some}
use Rattle.hir_nameres.specs.HirPerNs.declared.per_ns.PerNs.{PerNs}
use Rattle.hir_glob_imports.specs.Keys.{slot_at}
use Rattle.hir_glob_imports.specs.View.{View}
use Rattle.hir_glob_imports.specs.Waves.{IsExplicit}
use Rattle.hir_glob_imports.specs.declared.edge.Key.{Key}
use Rattle.hir_glob_imports.specs.declared.edge.Key.TheVariants.{Types, Values, Macros}

-- a view in which a slot is bound explicitly, and nothing else changes; or nothing changes
pub record MayBind (home : ℕ) (key : Key) (binds : Bool) (old new : View) : Type 0 where
  pub stays : binds ≡ false → new ≡ old
  pub bound : binds ≡ true → IsExplicit (slot_at home key) old new

-- items were pushed to a name of a module: in each namespace in which there is one, something is bound explicitly, and nothing else changes
pub record IsBound (home : ℕ) (name : List ℕ) (items : PerNs) (old new : View) : Type 0 where
  pub with_types : View
  pub with_values : View
  pub types : MayBind home (Types name) (is_some items.types) old with_types
  pub values : MayBind home (Values name) (is_some items.values) with_types with_values
  pub macros : MayBind home (Macros name) (is_some items.macros) with_values new
