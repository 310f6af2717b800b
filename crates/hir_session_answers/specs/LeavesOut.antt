-- What may an answer leave out?
use Rattle.std.specs.Prelude.{◌≡◌, is_some}
use Rattle.hir_session_state.specs.HirPerNs.declared.per_ns.PerNs.{PerNs}
use Rattle.hir_session_state.specs.HirMessages.declared.answer.Answer.{Answer}

-- nothing: it has a source item in each namespace in which a name stands for something
pub record LeavesNothingOut (items : PerNs) (answer : Answer) : Type 0 where
  pub types : is_some answer.types ≡ is_some items.types
  pub values : is_some answer.values ≡ is_some items.values
  pub macros : is_some answer.macros ≡ is_some items.macros
