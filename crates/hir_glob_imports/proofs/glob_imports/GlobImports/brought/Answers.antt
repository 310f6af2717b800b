use Rattle.hir_glob_imports.proofs.glob_imports.GlobImports.brought.Goals as goal

pub returns : goal.returns
returns c = rw (← c.self.view_is) (record { value = c.brought_at.ensures.value })
