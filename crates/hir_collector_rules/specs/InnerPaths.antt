-- Which paths are in a list that is shared?
use Rattle.std.specs.Prelude.{List, [], Option, None, Some}
use Rattle.std.specs.declared.alloc.Global.{Global}
use Rattle.std.specs.declared.rc.Rc.{Rc}
use Rattle.std.specs.declared.vec.Vec.{Vec}
use Rattle.hir_nameres.specs.HirBase.ModPath.{Path}

-- no list is one without paths
abbrev pub shared_paths : Option (Rc (Vec Path Global) Global) → List Path
shared_paths None = []
shared_paths (Some paths) = paths.value.items
