-- Names that went along globs in a resolver.
use Rattle.std.proofs.Common.{◌≡◌, ap, sym, subst, refl, List}
use Rattle.hir_nameres.specs.WorldParts.{part_of}
use Rattle.hir_def_map_laws.specs.SlotChanges.{ScopesChangeAmong}
use Rattle.hir_glob_imports.proofs.OfKind.{kinds_kept}
use Rattle.hir_glob_imports.specs.Rules.{IsSpent as IsSpentAlong, StepsIn}
use Rattle.hir_glob_imports.specs.Waves.{brought_of, state_of}
use Rattle.hir_glob_imports.specs.declared.step.GlobError.{GlobError}
use Rattle.hir_glob_imports.specs.declared.edge.Slot.{Slot}
use Rattle.hir_glob_imports.specs.declared.step.GlobError.TheVariants as glob_errors
use Rattle.hir_import_resolution.specs.Inner.State.{AreRecorded, IsKeptIn, IsSpread, finished_by, path_slots, state_by}
use Rattle.hir_import_rules.specs.Refusals.{refusal_of}
use Rattle.hir_import_resolution.specs.Inner.OpenLaws.{is_open_table}
use Rattle.hir_import_rules.specs.Lasting.{IsPlaced, Lasts}
use Rattle.hir_import_rules.specs.Names.{view_of}
use Rattle.hir_import_resolution.specs.Scopes.{open_table, value_of}
use Rattle.hir_import_rules.specs.Rest.{IsSpent}
use Rattle.hir_import_rules.specs.Rules.{Steps}
use Rattle.hir_import_rules.specs.declared.error.ImportError.TheVariants as errors
use Rattle.hir_import_resolution.specs.Types.{Resolver}
use Rattle.hir_import_resolution.proofs.Along.{Goes, goes, shown, spent_along, spent_shown, steps_in_shown, world_stays}
use Rattle.hir_import_growth.proofs.Firm.{as_many}
use Rattle.hir_import_growth.proofs.Placed.{kind_through, placed_through}
use Rattle.hir_import_resolution.proofs.Placed.{lasts_changed}
use Rattle.hir_import_growth.proofs.Placing.{placed_kind}
use Rattle.hir_import_resolution.proofs.Recorded.{recorded_kept}

-- the resolver once names went along globs
module _ (r new : Resolver) (slots : List Slot) (steps : StepsIn open_table slots (state_of r.scopes r.globs r.count) (state_of new.scopes new.globs new.count))
    (local : new.local ≡ r.local) (imports : new.imports ≡ r.imports) (taken : new.taken ≡ r.taken) (apart : new.apart ≡ r.apart)
    (lasting : new.lasting ≡ r.lasting)
    (worklist : new.worklist ≡ r.worklist) (watchers : new.watchers ≡ r.watchers) (reported : new.reported ≡ r.reported) where
  gone : Goes (finished_by r) (state_by r) slots (shown (state_of new.scopes new.globs new.count))
  gone = goes (finished_by r) (state_by r) slots (shown (state_of new.scopes new.globs new.count))
      (steps_in_shown slots (state_of r.scopes r.globs r.count) (state_of new.scopes new.globs new.count) steps)

  world : new.scopes.world ≡ r.scopes.world
  world = world_stays slots (state_of r.scopes r.globs r.count) (state_of new.scopes new.globs new.count) steps

  state_is : state_by (record new { local = r.local; imports = r.imports; taken = r.taken }) ≡ state_by new
  state_is = λ i. record (state_by new) { local = sym local i; imports = (sym imports i).items; taken = (sym taken i).items }

  pub spread_steps : Steps (finished_by r) (state_by r) (state_by new)
  spread_steps = subst (Steps (finished_by r) (state_by r)) state_is gone.steps

  pub spread_is : new.changes.items ≡ slots → IsSpread r new
  spread_is listed = record {
    changes = record {
      world = world;
      among = subst (λ (ss : List Slot). ScopesChangeAmong r.scopes.map new.scopes.map r.local (path_slots ss)) (sym listed) (gone.among r.local);
      local = local;
      imports = imports;
      apart = apart;
      lasting = lasting;
      worklist = worklist;
      watchers = watchers;
      reported = reported;
    };
    taken = taken;
    edges = gone.edges;
  }

  pub spread_recorded : AreRecorded r → AreRecorded new
  spread_recorded old = recorded_kept (state_by r) (state_by new) (λ i. (imports i).items) gone.edges (λ i. (taken i).items) old

  -- what holds of globs lasts
  pub spread_lasts : IsKeptIn r → Lasts (finished_by r) (state_by r) → Lasts (finished_by new) (state_by new)
  spread_lasts kept old =
      lasts_changed r new (finished_by r) (ap part_of world) (gone.among r.local).differs gone.edges
      (kind_through (IsPlaced r.scopes.map) (IsPlaced new.scopes.map) (view_of (value_of new.scopes)) new.globs.edges (brought_of new.globs)
      (placed_through r.scopes.map new.scopes.map (gone.among r.local).differs.id (as_many r.scopes.map new.scopes.map (gone.among r.local).differs))
      (kinds_kept (IsPlaced r.scopes.map) open_table is_open_table slots (state_of r.scopes r.globs r.count) (state_of new.scopes new.globs new.count)
      (placed_kind (finished_by r) r.scopes.map r.scopes.globs old.ordered) kept.there kept.stands old.placed steps)) old

-- where globs might have gone on, imports might have
pub spread_spent : (r : Resolver) → IsSpentAlong open_table (state_of r.scopes r.globs r.count) → IsSpent (finished_by r) (state_by r)
spread_spent r spent = spent_along (finished_by r) (state_by r) (spent_shown (state_of r.scopes r.globs r.count) spent)

-- imports are given up for their number where globs are
pub refused_many : (e : GlobError) → refusal_of e ≡ errors.TooMany → e ≡ glob_errors.TooMany
refused_many glob_errors.TooMany same = refl
refused_many glob_errors.Memory same = absurd cc
