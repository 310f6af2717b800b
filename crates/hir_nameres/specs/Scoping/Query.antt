-- What does a query ask?
use Rattle.std.specs.Prelude.{option_copied}
use Rattle.hir_def_map_rules.specs.Scoping.Asking.{Asking, local_of}
use Rattle.hir_nameres.specs.declared.nameres.path_resolution.query.Query.{Query}

-- how it asks, its maps aside
abbrev pub asking_of : Query → Asking
asking_of q = record { local = local_of (option_copied q.local); mode = q.mode; shadow = q.shadow; sub_ns = q.sub_ns }
