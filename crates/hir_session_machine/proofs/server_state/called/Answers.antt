-- Each command is its call; a second session is none.
use Rattle.std.proofs.Common.{ap, refl}
use Rattle.hir_session_core.specs.HirMessages.declared.reply.Status.{Status}
use Rattle.hir_session_core.specs.HirMessages.declared.reply.Reply.TheVariants as reply
use Rattle.hir_session_machine.specs.Machine.Moves.{tells}
use Rattle.hir_session_machine.specs.Machine.AnswersCommand.{calls, comes_too_late, finds_no_memory}
use Rattle.hir_session_machine.proofs.server_state.called.Goals as goal

pub returns-in-Crates-clause-step : goal.returns-in-Crates-clause-step
returns-in-Crates-clause-step g c = rw c.in-Crates.is (comes_too_late _ refl refl refl refl)

pub returns-in-Crates-clause-or_memory : goal.returns-in-Crates-clause-or_memory
returns-in-Crates-clause-or_memory g c h = finds_no_memory refl refl

pub returns-in-Edit-clause-step : goal.returns-in-Edit-clause-step
returns-in-Edit-clause-step g c = rw c.in-Edit.is c.edited.ensures.step

pub returns-in-Edit-clause-or_memory : goal.returns-in-Edit-clause-or_memory
returns-in-Edit-clause-or_memory g c = rw c.in-Edit.is c.edited.ensures.or_memory

pub returns-in-Refresh-clause-step : goal.returns-in-Refresh-clause-step
returns-in-Refresh-clause-step g c = rw c.in-Refresh.is c.refreshed.ensures.step

pub returns-in-Refresh-clause-or_memory : goal.returns-in-Refresh-clause-or_memory
returns-in-Refresh-clause-or_memory g c = rw c.in-Refresh.is c.refreshed.ensures.or_memory

pub returns-in-Resolve-clause-step : goal.returns-in-Resolve-clause-step
returns-in-Resolve-clause-step g c = rw c.in-Resolve.is c.answered.ensures.step

pub returns-in-Resolve-clause-or_memory : goal.returns-in-Resolve-clause-or_memory
returns-in-Resolve-clause-or_memory g c h = finds_no_memory refl refl

pub returns-in-Tree-clause-step : goal.returns-in-Tree-clause-step
returns-in-Tree-clause-step g c = rw c.in-Tree.is c.shown.ensures.step

pub returns-in-Tree-clause-or_memory : goal.returns-in-Tree-clause-or_memory
returns-in-Tree-clause-or_memory g c h = finds_no_memory refl refl

pub returns-in-Diagnostics-clause-step : goal.returns-in-Diagnostics-clause-step
returns-in-Diagnostics-clause-step g c = rw c.in-Diagnostics.is c.listed.ensures.step

pub returns-in-Diagnostics-clause-or_memory : goal.returns-in-Diagnostics-clause-or_memory
returns-in-Diagnostics-clause-or_memory g c h = finds_no_memory refl refl

pub returns-in-TraitItems-clause-step : goal.returns-in-TraitItems-clause-step
returns-in-TraitItems-clause-step g c = rw c.in-TraitItems.is c.trait_listed.ensures.step

pub returns-in-TraitItems-clause-or_memory : goal.returns-in-TraitItems-clause-or_memory
returns-in-TraitItems-clause-or_memory g c = rw c.in-TraitItems.is c.trait_listed.ensures.or_memory

pub returns-in-ImplItems-clause-step : goal.returns-in-ImplItems-clause-step
returns-in-ImplItems-clause-step g c = rw c.in-ImplItems.is c.impl_listed.ensures.step

pub returns-in-ImplItems-clause-or_memory : goal.returns-in-ImplItems-clause-or_memory
returns-in-ImplItems-clause-or_memory g c = rw c.in-ImplItems.is c.impl_listed.ensures.or_memory

pub returns-in-Dump-clause-step : goal.returns-in-Dump-clause-step
returns-in-Dump-clause-step g c = rw c.in-Dump.is c.dumped.ensures.step

pub returns-in-Dump-clause-or_memory : goal.returns-in-Dump-clause-or_memory
returns-in-Dump-clause-or_memory g c h = finds_no_memory refl refl

pub returns-in-Names-clause-step : goal.returns-in-Names-clause-step
returns-in-Names-clause-step g c = rw c.in-Names.is c.named.ensures.step

pub returns-in-Names-clause-or_memory : goal.returns-in-Names-clause-or_memory
returns-in-Names-clause-or_memory g c h = finds_no_memory refl refl

pub returns-in-CrateModules-clause-step : goal.returns-in-CrateModules-clause-step
returns-in-CrateModules-clause-step g c = rw c.in-CrateModules.is c.modules_listed.ensures.step

pub returns-in-CrateModules-clause-or_memory : goal.returns-in-CrateModules-clause-or_memory
returns-in-CrateModules-clause-or_memory g c h = finds_no_memory refl refl

pub returns-in-FileModules-clause-step : goal.returns-in-FileModules-clause-step
returns-in-FileModules-clause-step g c = rw c.in-FileModules.is c.file_modules_listed.ensures.step

pub returns-in-FileModules-clause-or_memory : goal.returns-in-FileModules-clause-or_memory
returns-in-FileModules-clause-or_memory g c h = finds_no_memory refl refl

pub returns-clause-step : goal.returns-clause-step
returns-clause-step g c = rw c.in-Status.is (calls _ _ refl (tells _ refl refl (ap (λ (s : Status). reply.Status s) c.status.ensures.value)) refl)

pub returns-clause-or_memory : goal.returns-clause-or_memory
returns-clause-or_memory g c h = finds_no_memory refl refl
