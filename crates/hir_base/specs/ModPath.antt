-- What is a path?
use Rattle.std.specs.Prelude.{ℕ, List}
use Rattle.hir_base.specs.declared.mod_path.PathKind.{PathKind}

-- how a path begins, and its names
pub record Path : Type 0 where
  pub kind : PathKind
  pub segments : List (List ℕ)
