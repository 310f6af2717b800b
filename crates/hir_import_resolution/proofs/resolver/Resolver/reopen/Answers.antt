-- The globs have the same edges and brought the same.
use Rattle.hir_import_resolution.proofs.Bound.{on_both}
use Rattle.hir_import_resolution.proofs.Restarting.{has_importers, same_state}
use Rattle.hir_import_resolution.proofs.resolver.Resolver.reopen.Goals as goal

pub reopen-requires-clause-there : goal.reopen-requires-clause-there
reopen-requires-clause-there c = has_importers c.args.self.now c.requires.sound

pub reopen-requires-clause-stands : goal.reopen-requires-clause-stands
reopen-requires-clause-stands c = λ q by is. c.requires.sound.stands q by is

pub returns-clause-state : goal.returns-clause-state
returns-clause-state c =
    on_both c.reopen.result _ _ _ (λ edges brought. same_state c.args.self.now c.reopen.new.self edges brought) c.reopen.ensures.edges c.reopen.ensures.brought
