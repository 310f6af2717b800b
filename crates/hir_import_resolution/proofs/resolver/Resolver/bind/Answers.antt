-- Under the name that there is.
use Rattle.hir_import_resolution.proofs.resolver.Resolver.bind.Goals as goal

pub returns-in-Some-clause-ok : goal.returns-in-Some-clause-ok
returns-in-Some-clause-ok c = rw c.in-Some.is c.bind_name.ensures.ok
