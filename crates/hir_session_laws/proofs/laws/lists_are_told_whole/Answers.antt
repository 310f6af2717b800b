use Rattle.hir_session_laws.proofs.ListsTold.{impl_modules_there, impls_whole, traits_whole}
use Rattle.hir_session_laws.proofs.laws.lists_are_told_whole.Goals as goal

pub returns : goal.returns
returns c = record {
  traits = traits_whole c.runs_bind_from_sources.ensures.sources;
  impls = impls_whole c.runs_bind_from_sources.ensures.sources;
  there = impl_modules_there c.runs_bind_from_sources.ensures.sources c.paths_answer_from_sources.ensures.sources c.paths_lead_to_what_is_there.ensures.there;
}
