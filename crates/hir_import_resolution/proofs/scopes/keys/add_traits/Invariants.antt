use Rattle.std.proofs.Common.{◌≡◌, ◌++◌}
use Rattle.hir_import_resolution.specs.KeyLists.{trait_keys, traits_in}
use Rattle.hir_import_resolution.proofs.scopes.keys.add_traits.Given as goal

-- the keys of the traits before `left` were added
abbrev pub invariant-next : goal.invariant-next
invariant-next l = l.keys.items ++ trait_keys l.crossing l.scope l.left ≡ l.initial.keys.items ++ trait_keys l.crossing l.scope (traits_in l.scope)
