-- The laws of the crates below, as their own proofs have them.
use Rattle.std.proofs.Common.{refl}
use Rattle.hir_session_state.specs.HirItemTree.BodyTexts.{BodyTextsLeaveTheTree}
use Rattle.hir_session_state.proofs.HirItemTree.Bodies.{body_texts_leave_the_tree}
use Rattle.hir_session_state.specs.HirDefMapRules.Closed.{PathsLeadToWhatIsThere}
use Rattle.hir_session_state.specs.HirDefMapRules.Sources.{PathsAnswerFromSources}
use Rattle.hir_session_state.proofs.HirDefMapRules.Reached.{paths_lead_there}
use Rattle.hir_session_state.proofs.HirDefMapRules.Sourced.{paths_from_sources}
use Rattle.hir_session_state.specs.HirCollectorRules.Growth as growth
use Rattle.hir_session_state.specs.HirCollectorRules.Start.{read_by}
use Rattle.hir_session_state.specs.HirDefCollectorLaws.Sources.{RunsBindFromSources, RunsMeetNoUnknownSource}
use Rattle.hir_session_state.specs.HirDefCollectorLaws.Whole.{RunsNameWhatIsThere}
use Rattle.hir_session_state.proofs.HirCollectorRules.Meaning as meaning
use Rattle.hir_session_state.proofs.HirDefCollectorLaws.KnownSources.{meets_no_unknown_source}
use Rattle.hir_session_state.proofs.HirDefCollectorLaws.Sourced.{ends_sourced}
use Rattle.hir_session_state.proofs.HirDefCollectorLaws.Whole.{ends_whole}

pub bodies_leave_the_tree : BodyTextsLeaveTheTree
bodies_leave_the_tree = body_texts_leave_the_tree

pub paths_lead : PathsLeadToWhatIsThere
paths_lead maps asking from path closed local e = paths_lead_there maps closed asking local from e path.kind path.segments

pub paths_answer : PathsAnswerFromSources
paths_answer t maps asking from path nowhere externs = paths_from_sources t maps nowhere asking externs from path.kind path.segments

pub runs_bind : RunsBindFromSources
runs_bind t tables w finished from answer whole stands begins e clear =
    ends_sourced t paths_answer paths_lead (read_by w finished from.start) whole tables w finished from answer refl stands begins e clear

pub runs_name : RunsNameWhatIsThere
runs_name tables w finished from answer whole stands e =
    ends_whole paths_lead (read_by w finished from.start) whole tables w finished from answer refl stands e

pub runs_meet : RunsMeetNoUnknownSource
runs_meet = meets_no_unknown_source paths_answer paths_lead

pub looks_stand : growth.LooksStand
looks_stand = meaning.looks_stand

pub asked_keys_have_meaning : growth.AskedKeysHaveMeaning
asked_keys_have_meaning = meaning.asked_keys_have_meaning

pub answers_stand : growth.AnswersStand
answers_stand = meaning.answers_stand
