use Rattle.std.proofs.Common.{rules, ◌≡◌, ◌∙◌, ◌-◌, true, false, List, Option, None, length, take, drop, sym, subst}
use Rattle.std.specs.Prelude.{option_map}
use Rattle.std.specs.Option.{option_map_or}
use Rattle.hir_collector_state.specs.HirModDir.declared.candidate.Candidate.{Candidate}
use Rattle.hir_collector_state.proofs.HirTables.Growth.{KeepsTables-trans}
use Rattle.hir_collector_state.specs.HirCollectorRules.Workspace.{Workspace}
use Rattle.hir_collector_state.specs.HirCollectorRules.ModuleFiles.{IsTriedFile, LookedAt, ModuleFile, taken_by}
use Rattle.hir_collector_state.specs.HirCollectorRules.Moves.{Finds}
use Rattle.hir_mod_resolution.specs.Walking.{found_view, looked_view}
use Rattle.hir_mod_resolution.proofs.Finding.{finds_here, finds_later, finds_none, looked_there, none_left, one_first, tried_first, tried_later}
use Rattle.hir_collector_state.proofs.Noted.{noted_follow, noted_itself}
use Rattle.hir_mod_resolution.proofs.mod_resolution.+find_file.Goals as goal
use Rattle.hir_collector_state.specs.HirCollectorRules.State.{core_in}

pub returns-in_default-clause-ok : goal.returns-in_default-clause-ok
returns-in_default-clause-ok g t c =
    let w = g.D.SourceDatabase.workspace c.args.db.now in
    let declaring = option_map (λ p. p.now) c.args.declaring in
    subst (λ (cs : List Candidate). Finds c.args.locations.now w declaring cs (core_in c.args.run.now) (core_in c.args.run.now) None)
    (sym (none_left c.args.candidates.now c.in_default.len_below))
    (finds_none c.args.locations.now w declaring (core_in c.args.run.now))

pub returns-then-is_there-clause-ok : goal.returns-then-is_there-clause-ok
returns-then-is_there-clause-ok g t c =
    let w = g.D.SourceDatabase.workspace c.args.db.now in
    let declaring = option_map (λ p. p.now) c.args.declaring in
    let cs = c.args.candidates.now in
    let there : option_map_or (λ (f : LookedAt). f.there.present) (option_map looked_view c.in_ok-file.file) false ≡ true =
    looked_there c.in_ok-file.file ∙ sym c.is_there.ensures.value ∙ c.if-is_there.true in
    let file = taken_by c.candidate-item.result.dir c.candidate-item.result.is_mod_rs (option_map looked_view c.in_ok-file.file) in
    let found : option_map found_view c.in_ok-found.found ≡ file = c.in_ok-found.ensures.value in
    subst (λ (o : Option ModuleFile). Finds c.look_at.new.locations w declaring cs (core_in c.args.run.now) (core_in c.look_at.new.run) o) (sym found)
    (subst (λ (xs : List Candidate). Finds c.look_at.new.locations w declaring xs (core_in c.args.run.now) (core_in c.look_at.new.run) file)
    (sym (one_first cs c.candidate-item.result _ c.in-len1-up.len_at_least c.candidate-item.is))
    (finds_here c.look_at.new.locations w declaring _ _ (core_in c.args.run.now) (core_in c.look_at.new.run) _ c.in_ok-file.ensures.ok there))

pub returns-in_err-later-clause-kept : goal.returns-in_err-later-clause-kept
returns-in_err-later-clause-kept g t c =
    KeepsTables-trans c.args.locations.now c.look_at.new.locations c.find_file.new.locations c.in_ok-file.ensures.kept c.find_file.ensures.kept

pub returns-in_err-later-clause-placed : goal.returns-in_err-later-clause-placed
returns-in_err-later-clause-placed g t c = λ h. c.find_file.ensures.placed (c.in_ok-file.ensures.placed h)

pub returns-clause-kept : goal.returns-clause-kept
returns-clause-kept g t c =
    KeepsTables-trans c.args.locations.now c.look_at.new.locations c.find_file.new.locations c.in_ok-file.ensures.kept c.find_file.ensures.kept

pub returns-clause-placed : goal.returns-clause-placed
returns-clause-placed g t c = λ h. c.find_file.ensures.placed (c.in_ok-file.ensures.placed h)

pub returns-clause-ok : goal.returns-clause-ok
returns-clause-ok g t c =
    let w = g.D.SourceDatabase.workspace c.args.db.now in
    let declaring = option_map (λ p. p.now) c.args.declaring in
    let cs = c.args.candidates.now in
    let gone : option_map_or (λ (f : LookedAt). f.there.present) (option_map looked_view c.in_ok-file.file) false ≡ false =
    looked_there c.in_ok-file.file ∙ sym c.is_there.ensures.value ∙ c.if-is_there.false in
    subst (λ (xs : List Candidate). Finds c.find_file.new.locations w declaring xs (core_in c.args.run.now) (core_in c.find_file.new.run)
    (option_map found_view c.in_ok-later.later)) (sym (one_first cs c.candidate-item.result _ c.in-len1-up.len_at_least c.candidate-item.is))
    (finds_later c.look_at.new.locations c.find_file.new.locations w declaring _ _ (core_in c.args.run.now) (core_in c.look_at.new.run)
    (core_in c.find_file.new.run) _ _ c.find_file.ensures.kept c.in_ok-file.ensures.ok gone
    (subst (λ (v : Workspace). Finds c.find_file.new.locations v declaring (take (length cs - 1) (drop 1 cs)) (core_in c.look_at.new.run)
    (core_in c.find_file.new.run) (option_map found_view c.in_ok-later.later)) c.in_ok-file.ensures.same c.in_ok-later.ensures.ok))

pub returns-in_default-clause-noted : goal.returns-in_default-clause-noted
returns-in_default-clause-noted g t c = noted_itself c.args.run.now

pub returns-clause-noted : goal.returns-clause-noted
returns-clause-noted g t c = noted_follow c.in_ok-file.ensures.noted c.in_ok-later.ensures.noted

pub returns-in_err-file-clause-many : goal.returns-in_err-file-clause-many
returns-in_err-file-clause-many g t c = λ h.
    let w = g.D.SourceDatabase.workspace c.args.db.now in
    let krate = (core_in c.args.run.now).map.id.krate in
    let declaring = option_map (λ p. p.now) c.args.declaring in
    let cs = c.args.candidates.now in
    let out = c.in_err-file.ensures.many (search rules) in (
      out.0,
      subst (λ (xs : List Candidate). IsTriedFile w krate declaring xs out.0)
          (sym (one_first cs c.candidate-item.result _ c.in-len1-up.len_at_least c.candidate-item.is))
          (tried_first w krate declaring c.candidate-item.result (take (length cs - 1) (drop 1 cs)) out.0 out.1),
      out.2,
    )

pub returns-in_err-later-clause-many : goal.returns-in_err-later-clause-many
returns-in_err-later-clause-many g t c = λ h.
    let w = g.D.SourceDatabase.workspace c.args.db.now in
    let old = core_in c.args.run.now in
    let mid = core_in c.look_at.new.run in
    let declaring = option_map (λ p. p.now) c.args.declaring in
    let cs = c.args.candidates.now in
    let rest = take (length cs - 1) (drop 1 cs) in
    let gone : option_map_or (λ (f : LookedAt). f.there.present) (option_map looked_view c.in_ok-file.file) false ≡ false =
    looked_there c.in_ok-file.file ∙ sym c.is_there.ensures.value ∙ c.if-is_there.false in
    let out = c.in_err-later.ensures.many (search rules) in
    let tried : IsTriedFile w mid.map.id.krate declaring rest out.0 =
    subst (λ (v : Workspace). IsTriedFile v mid.map.id.krate declaring rest out.0) c.in_ok-file.ensures.same out.1 in (
      out.0,
      subst (λ (xs : List Candidate). IsTriedFile w old.map.id.krate declaring xs out.0)
          (sym (one_first cs c.candidate-item.result _ c.in-len1-up.len_at_least c.candidate-item.is))
          (tried_later c.look_at.new.locations w declaring c.candidate-item.result rest old mid (option_map looked_view c.in_ok-file.file) out.0
          c.in_ok-file.ensures.ok gone tried),
      out.2,
    )
