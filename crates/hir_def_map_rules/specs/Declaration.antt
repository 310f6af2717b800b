-- What does a declaration add to the lists of a scope?
use Rattle.std.specs.Prelude.{[], ◌∷◌, ◌++◌}
use Rattle.hir_scope.specs.Scope.{ScopeValue}
use Rattle.hir_def_map_rules.specs.declared.declaration.Declaration.{Declaration}
use Rattle.hir_def_map_rules.specs.declared.declaration.Declaration.TheVariants as declaration

-- the scope with one more declaration, the last of its list
abbrev pub listed : Declaration → ScopeValue → ScopeValue
listed (declaration.Def def) scope = record scope { declarations = scope.declarations ++ def ∷ [] }
listed (declaration.Use use_) scope = record scope { use_decls = scope.use_decls ++ use_ ∷ [] }
listed (declaration.ExternCrate extern_crate) scope = record scope { extern_crate_decls = scope.extern_crate_decls ++ extern_crate ∷ [] }
listed (declaration.Impl imp is_trait_impl) scope = record scope { impls = scope.impls ++ (imp, is_trait_impl) ∷ [] }
listed (declaration.ExternBlock extern_block) scope = record scope { extern_blocks = scope.extern_blocks ++ extern_block ∷ [] }
listed (declaration.UnnamedConst konst) scope = record scope { unnamed_consts = scope.unnamed_consts ++ konst ∷ [] }
