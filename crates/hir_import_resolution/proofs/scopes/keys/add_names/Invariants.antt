use Rattle.std.proofs.Common.{◌≡◌, ◌++◌}
use Rattle.hir_import_resolution.specs.KeyLists.{name_keys}
use Rattle.hir_import_resolution.proofs.scopes.keys.add_names.Given as goal

-- the keys of the names before `left` were added
abbrev pub invariant-next : goal.invariant-next
invariant-next g l = l.keys.items ++ name_keys l.namespace l.crossing l.left ≡ l.initial.keys.items ++ name_keys l.namespace l.crossing l.fn.names
