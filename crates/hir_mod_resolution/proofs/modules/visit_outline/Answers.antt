use Rattle.std.proofs.Common.{rules, ◌≡◌, ◌∙◌, ℕ, List, Option, Some, None, map, refl, ap, sym, subst}
use Rattle.std.specs.Prelude.{IfSome, option_map}
use Rattle.hir_collector_state.specs.HirItemTree.Collected.{numbered}
use Rattle.hir_collector_state.specs.HirItemTree.declared.attrs.Attr.{Attr}
use Rattle.hir_collector_state.specs.HirModDir.ModuleFiles.{candidates_of}
use Rattle.hir_collector_state.specs.HirModDir.declared.candidate.Candidate.{Candidate}
use Rattle.hir_collector_state.specs.HirTables.Tables.{KeepsTables, TablesValue}
use Rattle.hir_collector_state.proofs.HirTables.Growth.{KeepsTables-trans}
use Rattle.hir_collector_state.specs.HirNameres.WorldParts.{part_of}
use Rattle.hir_mod_resolution.specs.Types.{FoundFile}
use Rattle.hir_collector_state.specs.HirCollectorRules.ModuleFiles.{IsNumberOf, file_tree, path_attribute}
use Rattle.hir_collector_state.specs.HirCollectorRules.Moves.{Finds, IsHeld}
use Rattle.hir_mod_resolution.specs.Walking.{found_view}
use Rattle.hir_collector_state.specs.HirCollectorRules.Steps.{path_of}
use Rattle.hir_collector_state.specs.HirCollectorRules.TreeReads.{head_of}
use Rattle.hir_mod_resolution.proofs.Outline.{file_far, file_missed, missed_far, numbers_far, taken_ok, taken_within}
use Rattle.hir_collector_state.proofs.Noted.{noted_follow}
use Rattle.hir_mod_resolution.proofs.modules.visit_outline.Goals as goal
use Rattle.hir_collector_state.specs.HirCollectorRules.State.{core_in}

pub returns-in_err-found-clause-many : goal.returns-in_err-found-clause-many
returns-in_err-found-clause-many g c = λ h.
    let tables = c.find_file.new.locations in
    let w = g.D.SourceDatabase.workspace c.args.db.now in
    let candidates = c.as_slice-2.result.now in
    let declaring : Option (List ℕ) = option_map (λ p. p.now) c.as_ref.result in
    let tried : candidates ≡ candidates_of c.args.site.now.dir c.args.name.now (path_of (head_of c.args.head)) =
    c.as_slice-2.ensures.value ∙ c.in_ok-candidates.ensures.value
    ∙ ap (λ (p : Option (List ℕ)). candidates_of c.args.site.now.dir c.args.name.now p)
    (c.path_attr-path.ensures.value ∙ ap (λ (attrs : List Attr). path_attribute (map numbered attrs)) c.as_slice.ensures.value) in
    let written : (grown : TablesValue) → KeepsTables tables grown → IsNumberOf grown c.args.site.now.file declaring =
    λ grown k. subst (λ (o : Option (List ℕ)). IsNumberOf grown c.args.site.now.file o) (sym c.as_ref.ensures.value)
    (c.in_ok-declaring.ensures.value grown (KeepsTables-trans c.args.locations.now tables grown c.in_err-found.ensures.kept k)) in
    let out = c.in_err-found.ensures.many (search rules) in
    numbers_far tables w (part_of c.args.world) c.args.site.now (head_of c.args.head) c.args.name.now declaring candidates (core_in c.args.run.now)
    (core_in c.find_file.new.run) tried written c.requires.enabled out.0 out.1 out.2

pub returns-in_default-clause-ok : goal.returns-in_default-clause-ok
returns-in_default-clause-ok g c = λ grown kept items.
    let tables = c.find_file.new.locations in
    let w = g.D.SourceDatabase.workspace c.args.db.now in
    let candidates = c.as_slice-in_default.result.now in
    let declaring : Option (List ℕ) = option_map (λ p. p.now) c.as_ref.result in
    let tried : candidates ≡ candidates_of c.args.site.now.dir c.args.name.now (path_of (head_of c.args.head)) =
    c.as_slice-in_default.ensures.value ∙ c.in_ok-candidates.ensures.value
    ∙ ap (λ (p : Option (List ℕ)). candidates_of c.args.site.now.dir c.args.name.now p)
    (c.path_attr-path.ensures.value ∙ ap (λ (attrs : List Attr). path_attribute (map numbered attrs)) c.as_slice.ensures.value) in
    let written : (grown : TablesValue) → KeepsTables tables grown → IsNumberOf grown c.args.site.now.file declaring =
    λ grown k. subst (λ (o : Option (List ℕ)). IsNumberOf grown c.args.site.now.file o) (sym c.as_ref.ensures.value)
    (c.in_ok-declaring.ensures.value grown (KeepsTables-trans c.args.locations.now tables grown c.in_ok-found.ensures.kept k)) in
    let finds : Finds tables w declaring candidates (core_in c.args.run.now) (core_in c.find_file.new.run) None =
    subst (λ (cs : List Candidate). Finds tables w declaring cs (core_in c.args.run.now) (core_in c.find_file.new.run) None)
    (c.as_slice-2.ensures.value ∙ sym c.as_slice-in_default.ensures.value)
    (subst (λ (o : Option FoundFile). Finds tables w declaring c.as_slice-2.result.now (core_in c.args.run.now) (core_in c.find_file.new.run)
    (option_map found_view o)) c.in_default.is c.in_ok-found.ensures.ok) in
    file_missed tables w (part_of c.args.world) c.args.site.now (head_of c.args.head) c.args.name.now declaring candidates (core_in c.args.run.now)
    (core_in c.find_file.new.run) tried written c.requires.enabled (core_in c.miss_file.new.run) finds c.in_ok-miss_file.ensures.ok grown kept

pub returns-in_err-miss_file-clause-many : goal.returns-in_err-miss_file-clause-many
returns-in_err-miss_file-clause-many g c = λ h.
    let tables = c.find_file.new.locations in
    let w = g.D.SourceDatabase.workspace c.args.db.now in
    let candidates = c.as_slice-in_default.result.now in
    let declaring : Option (List ℕ) = option_map (λ p. p.now) c.as_ref.result in
    let tried : candidates ≡ candidates_of c.args.site.now.dir c.args.name.now (path_of (head_of c.args.head)) =
    c.as_slice-in_default.ensures.value ∙ c.in_ok-candidates.ensures.value
    ∙ ap (λ (p : Option (List ℕ)). candidates_of c.args.site.now.dir c.args.name.now p)
    (c.path_attr-path.ensures.value ∙ ap (λ (attrs : List Attr). path_attribute (map numbered attrs)) c.as_slice.ensures.value) in
    let written : (grown : TablesValue) → KeepsTables tables grown → IsNumberOf grown c.args.site.now.file declaring =
    λ grown k. subst (λ (o : Option (List ℕ)). IsNumberOf grown c.args.site.now.file o) (sym c.as_ref.ensures.value)
    (c.in_ok-declaring.ensures.value grown (KeepsTables-trans c.args.locations.now tables grown c.in_ok-found.ensures.kept k)) in
    let finds : Finds tables w declaring candidates (core_in c.args.run.now) (core_in c.find_file.new.run) None =
    subst (λ (cs : List Candidate). Finds tables w declaring cs (core_in c.args.run.now) (core_in c.find_file.new.run) None)
    (c.as_slice-2.ensures.value ∙ sym c.as_slice-in_default.ensures.value)
    (subst (λ (o : Option FoundFile). Finds tables w declaring c.as_slice-2.result.now (core_in c.args.run.now) (core_in c.find_file.new.run)
    (option_map found_view o)) c.in_default.is c.in_ok-found.ensures.ok) in
    let many = c.in_err-miss_file.ensures.many (search rules) in
    missed_far tables w (part_of c.args.world) c.args.site.now (head_of c.args.head) c.args.name.now declaring candidates (core_in c.args.run.now)
    (core_in c.find_file.new.run) tried written c.requires.enabled many.1.0 finds many.0 many.1.1

pub returns-in_err-inside-clause-many : goal.returns-in_err-inside-clause-many
returns-in_err-inside-clause-many g c = λ h.
    let tables = c.find_file.new.locations in
    let w = g.D.SourceDatabase.workspace c.args.db.now in
    let candidates = c.as_slice-2.result.now in
    let declaring : Option (List ℕ) = option_map (λ p. p.now) c.as_ref.result in
    let tried : candidates ≡ candidates_of c.args.site.now.dir c.args.name.now (path_of (head_of c.args.head)) =
    c.as_slice-2.ensures.value ∙ c.in_ok-candidates.ensures.value
    ∙ ap (λ (p : Option (List ℕ)). candidates_of c.args.site.now.dir c.args.name.now p)
    (c.path_attr-path.ensures.value ∙ ap (λ (attrs : List Attr). path_attribute (map numbered attrs)) c.as_slice.ensures.value) in
    let written : (grown : TablesValue) → KeepsTables tables grown → IsNumberOf grown c.args.site.now.file declaring =
    λ grown k. subst (λ (o : Option (List ℕ)). IsNumberOf grown c.args.site.now.file o) (sym c.as_ref.ensures.value)
    (c.in_ok-declaring.ensures.value grown (KeepsTables-trans c.args.locations.now tables grown c.in_ok-found.ensures.kept k)) in
    let finds : Finds tables w declaring candidates (core_in c.args.run.now) (core_in c.find_file.new.run) (Some (found_view c.in-Some.file)) =
    subst (λ (o : Option FoundFile). Finds tables w declaring candidates (core_in c.args.run.now) (core_in c.find_file.new.run) (option_map found_view o))
    c.in-Some.is c.in_ok-found.ensures.ok in
    let many = c.in_err-inside.ensures.many (search rules) in
    file_far tables w (part_of c.args.world) c.args.site.now (head_of c.args.head) c.args.name.now declaring candidates (core_in c.args.run.now)
    (core_in c.find_file.new.run) tried written c.requires.enabled (found_view c.in-Some.file) finds many.0 many.1

pub returns-clause-ok : goal.returns-clause-ok
returns-clause-ok g c =
    let tables = c.find_file.new.locations in
    let w = g.D.SourceDatabase.workspace c.args.db.now in
    let candidates = c.as_slice-2.result.now in
    let declaring : Option (List ℕ) = option_map (λ p. p.now) c.as_ref.result in
    let tried : candidates ≡ candidates_of c.args.site.now.dir c.args.name.now (path_of (head_of c.args.head)) =
    c.as_slice-2.ensures.value ∙ c.in_ok-candidates.ensures.value
    ∙ ap (λ (p : Option (List ℕ)). candidates_of c.args.site.now.dir c.args.name.now p)
    (c.path_attr-path.ensures.value ∙ ap (λ (attrs : List Attr). path_attribute (map numbered attrs)) c.as_slice.ensures.value) in
    let written : (grown : TablesValue) → KeepsTables tables grown → IsNumberOf grown c.args.site.now.file declaring =
    λ grown k. subst (λ (o : Option (List ℕ)). IsNumberOf grown c.args.site.now.file o) (sym c.as_ref.ensures.value)
    (c.in_ok-declaring.ensures.value grown (KeepsTables-trans c.args.locations.now tables grown c.in_ok-found.ensures.kept k)) in
    let finds : Finds tables w declaring candidates (core_in c.args.run.now) (core_in c.find_file.new.run) (Some (found_view c.in-Some.file)) =
    subst (λ (o : Option FoundFile). Finds tables w declaring candidates (core_in c.args.run.now) (core_in c.find_file.new.run) (option_map found_view o))
    c.in-Some.is c.in_ok-found.ensures.ok in
    taken_ok tables w (part_of c.args.world) c.args.site.now (head_of c.args.head) c.args.name.now declaring candidates (core_in c.args.run.now)
    (core_in c.find_file.new.run) (core_in c.take_file.new.run) tried written c.requires.enabled (found_view c.in-Some.file) c.in-Some.file.source.value refl
    finds c.in_ok-inside.inside c.in_ok-inside.ensures.ok

pub returns-clause-within : goal.returns-clause-within
returns-clause-within g c =
    let tables = c.find_file.new.locations in
    let w = g.D.SourceDatabase.workspace c.args.db.now in
    let candidates = c.as_slice-2.result.now in
    let declaring : Option (List ℕ) = option_map (λ p. p.now) c.as_ref.result in
    let tried : candidates ≡ candidates_of c.args.site.now.dir c.args.name.now (path_of (head_of c.args.head)) =
    c.as_slice-2.ensures.value ∙ c.in_ok-candidates.ensures.value
    ∙ ap (λ (p : Option (List ℕ)). candidates_of c.args.site.now.dir c.args.name.now p)
    (c.path_attr-path.ensures.value ∙ ap (λ (attrs : List Attr). path_attribute (map numbered attrs)) c.as_slice.ensures.value) in
    let written : (grown : TablesValue) → KeepsTables tables grown → IsNumberOf grown c.args.site.now.file declaring =
    λ grown k. subst (λ (o : Option (List ℕ)). IsNumberOf grown c.args.site.now.file o) (sym c.as_ref.ensures.value)
    (c.in_ok-declaring.ensures.value grown (KeepsTables-trans c.args.locations.now tables grown c.in_ok-found.ensures.kept k)) in
    let finds : Finds tables w declaring candidates (core_in c.args.run.now) (core_in c.find_file.new.run) (Some (found_view c.in-Some.file)) =
    subst (λ (o : Option FoundFile). Finds tables w declaring candidates (core_in c.args.run.now) (core_in c.find_file.new.run) (option_map found_view o))
    c.in-Some.is c.in_ok-found.ensures.ok in
    let held : IsHeld tables w (core_in c.args.run.now).map.id.krate (file_tree (core_in c.args.run.now).map.crate_data.edition c.in-Some.file.id)
    c.in-Some.file.source.value =
    subst (λ (o : Option FoundFile). IfSome o
    (λ f. IsHeld tables w (core_in c.args.run.now).map.id.krate (file_tree (core_in c.args.run.now).map.crate_data.edition f.id) f.source.value)) c.in-Some.is
    c.in_ok-found.ensures.held in
    taken_within tables w (part_of c.args.world) c.args.site.now (head_of c.args.head) c.args.name.now declaring candidates (core_in c.args.run.now)
    (core_in c.find_file.new.run) (core_in c.take_file.new.run) tried written c.requires.enabled (found_view c.in-Some.file) c.in-Some.file.source.value refl
    finds
    held c.in_ok-inside.inside c.in_ok-inside.ensures.ok

pub returns-in_default-clause-noted : goal.returns-in_default-clause-noted
returns-in_default-clause-noted g c = noted_follow c.in_ok-found.ensures.noted c.in_ok-miss_file.ensures.noted

pub returns-clause-noted : goal.returns-clause-noted
returns-clause-noted g c = noted_follow c.in_ok-found.ensures.noted c.in_ok-inside.ensures.noted
