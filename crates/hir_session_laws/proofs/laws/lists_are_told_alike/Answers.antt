use Rattle.hir_session_laws.proofs.ListsTold.{impls_alike, traits_alike}
use Rattle.hir_session_laws.proofs.laws.lists_are_told_alike.Goals as goal

pub returns : goal.returns
returns c = record {
  traits = traits_alike c.runs_bind_from_sources.ensures.sources c.paths_answer_from_sources.ensures.sources c.paths_lead_to_what_is_there.ensures.there;
  impls = impls_alike c.runs_bind_from_sources.ensures.sources c.paths_answer_from_sources.ensures.sources c.paths_lead_to_what_is_there.ensures.there;
}
