use Rattle.std.proofs.Common.{◌≡◌, ◌++◌}
use Rattle.hir_import_resolution.specs.KeyLists.{variant_keys}
use Rattle.hir_import_resolution.proofs.scopes.keys.add_variants.Given as goal

-- the keys of the variants before `left` were added
abbrev pub invariant-next : goal.invariant-next
invariant-next l = l.keys.items ++ variant_keys l.namespace l.left ≡ l.initial.keys.items ++ variant_keys l.namespace l.variants
