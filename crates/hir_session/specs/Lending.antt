-- What becomes of a session whose core is lent?
use Rattle.std.specs.Borrow.{Fml, Lends, MutBor}
use Rattle.hir_session_machine.specs.HirSessionState.SessionState.{SessionState}
use Rattle.hir_session_machine.specs.HirSessionCore.contracts.session.Session as core
use Rattle.hir_session.specs.contracts.session.Session as session

-- it ends as what is left in the core
abbrev pub LendsCore : MutBor SessionState → MutBor SessionState → Fml
LendsCore lender lent = Lends session.the_row core.the_row lender lent (λ left. left)
