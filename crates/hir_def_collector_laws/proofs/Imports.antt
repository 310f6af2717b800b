-- So is each import that is left over, each glob and each call.
use Rattle.std.proofs.Common.{◌≡◌, ◌∙◌, ◌<◌, ℕ, zero, suc, List, [], ◌∷◌, length, Some, Bool, true, false, cond, sym, ap, subst, arith, Contains}
use Rattle.std.proofs.lemmas.List.Elements.{Contains-append_left}
use Rattle.hir_collector_rules.specs.HirIds.declared.ids.MapId.{MapId}
use Rattle.hir_collector_rules.specs.HirPerNs.declared.imports.ImportOrExternCrate.{ImportOrExternCrate}
use Rattle.hir_collector_rules.specs.HirTables.Tables.{TablesValue}
use Rattle.hir_collector_rules.specs.HirDefMapRules.Overlay.{Maps}
use Rattle.hir_collector_rules.specs.HirDefMapRules.State.{Map}
use Rattle.hir_collector_rules.specs.HirGlobImports.declared.edge.Edge.{Edge}
use Rattle.hir_collector_rules.specs.HirImportRules.Directives.{TakenValue, glob_of, is_untaken}
use Rattle.hir_collector_rules.specs.HirImportRules.declared.directive.ImportDirective.{ImportDirective}
use Rattle.hir_collector_rules.specs.declared.source_database.Key.{Key}
use Rattle.hir_collector_rules.specs.declared.macro_directive.MacroDirective.{MacroDirective}
use Rattle.hir_collector_rules.specs.Derivation.{CollectedValue, Ends, leftover_among, told_of}
use Rattle.hir_collector_rules.specs.Keys.{keys_behind}
use Rattle.hir_collector_rules.specs.Start.{Beginning, begin_of, holders_by, krate_of, read_by}
use Rattle.hir_collector_rules.specs.Workspace.{Workspace, transitive_dependencies_in}
use Rattle.hir_collector_rules.proofs.Asks.{still_asked}
use Rattle.hir_collector_rules.proofs.Changes.{data-Steps}
use Rattle.hir_collector_rules.proofs.Holds.{in_range-start}
use Rattle.hir_collector_rules.proofs.InRange.{CallsBelow, in_range-Steps}
use Rattle.hir_def_collector_laws.specs.Calls.{CallsAreWritten, IsCall}
use Rattle.hir_def_collector_laws.specs.Imports.{GlobsAreWritten, HasImport, ImportsAreWritten, IsImport, LeftoversAreWritten}
use Rattle.hir_def_collector_laws.proofs.Ended.{same_data, same_length}
use Rattle.hir_def_collector_laws.proofs.Lists.{at_first, later}
use Rattle.hir_def_collector_laws.proofs.Written.{AreAsked, IsAllWritten, IsOfGlob, call_among, import_among, written-start, written-Steps}

-- an import that is left over was found
record IsLeftOf (rs : List ImportDirective) (way : ImportOrExternCrate) : Type 0 where
  directive : ImportDirective
  among : Contains rs directive
  is : told_of directive.source ≡ way

left_of : (rs : List ImportDirective) (ts : List TakenValue) (way : ImportOrExternCrate) → Contains (leftover_among rs ts) way → IsLeftOf rs way
left_of [] ts way (n, below, is) = absurd (omega arith)
left_of (r ∷ rs) [] way (n, below, is) = absurd (omega arith)
left_of (r ∷ rs) (t ∷ ts) way h = go (is_untaken t) (λ c. left_of rs ts way c) h
  where
    behind : IsLeftOf rs way → IsLeftOf (r ∷ rs) way
    behind p = record { directive = p.directive; among = later r rs p.directive p.among; is = p.is }

    go : (b : Bool) → (Contains (leftover_among rs ts) way → IsLeftOf rs way)
        → Contains (cond b (told_of r.source ∷ leftover_among rs ts) (leftover_among rs ts)) way → IsLeftOf (r ∷ rs) way
    go true others (zero, below, is) = record { directive = r; among = at_first r rs; is = is }
    go true others (suc n, below, is) = behind (others (n, omega (arith, below), is))
    go false others c = behind (others c)

call_home : (n : ℕ) (ds : List MacroDirective) (d : MacroDirective) → CallsBelow n ds → Contains ds d → d.site.home < n
call_home n [] d f (k, below, is) = absurd (omega arith)
call_home n (x ∷ xs) d f (zero, below, is) = subst (λ (y : MacroDirective). y.site.home < n) is f.0
call_home n (x ∷ xs) d f (suc k, below, is) = call_home n xs d f.1 (k, omega (arith, below), is)

module _ (tables : TablesValue) (w : Workspace) (finished : Maps) (from : Beginning) (answer : CollectedValue) (e : Ends tables w finished from answer) where
  pub answer_here : answer.map.id.krate ≡ krate_of from.start
  answer_here = ap (λ (id : MapId). id.krate) e.own

  pub answer_asked : AreAsked tables w from answer e.last
  answer_asked key h =
      subst (λ (ks : List Key). Contains ks key) (sym e.asked_is)
      (Contains-append_left e.last.core.asked (keys_behind (krate_of from.start) (transitive_dependencies_in w (krate_of from.start))) key h)

  same_crate : (begin_of tables w finished from).core.map.crate_data ≡ answer.map.crate_data
  same_crate = sym (ap (λ (m : Map). m.crate_data) e.map_is ∙ same_data e.last.core ∙ data-Steps e.derived)

  pub first_written : IsAllWritten tables w from answer (begin_of tables w finished from)
  first_written =
      written-start tables w from answer (read_by w finished from.start) (holders_by finished from.start) answer_here e.own same_crate
      (λ key h. answer_asked key (still_asked e.derived key h))

  written : IsAllWritten tables w from answer e.last
  written = written-Steps tables w from answer answer_here e.derived answer_asked first_written

  pub import_written : (r : ImportDirective) → Contains e.last.core.reached r → IsImport tables w from answer r
  import_written r h = import_among tables w from answer e.last.core.reached r written.imports h

  -- so is each call, and it stands in a module that is there
  pub call_there : (d : MacroDirective) → Contains e.last.core.calls d → IsCall tables w answer d × (d.site.home < length answer.map.modules)
  call_there d h =
      let same : length answer.map.modules ≡ length e.last.core.map.modules = ap (λ (m : Map). length m.modules) e.map_is ∙ same_length e.last.core in
      let below : d.site.home < length e.last.core.map.modules =
      call_home (length e.last.core.map.modules) e.last.core.calls d
      (in_range-Steps e.derived (in_range-start tables w (read_by w finished from.start) (holders_by finished from.start) from)).calls h in
      (call_among tables w from answer e.last.core.calls d written.calls h, omega (arith, same, below))

  pub leftover_written : (way : ImportOrExternCrate) → Contains answer.leftover way → HasImport tables w from answer (λ r. told_of r.source ≡ way)
  leftover_written way h =
      let p : IsLeftOf e.last.core.reached way = left_of e.last.core.reached e.last.core.taken way
      (subst (λ (ways : List ImportOrExternCrate). Contains ways way) e.leftover_is h) in
      record { directive = p.directive; is_import = import_written p.directive p.among; is_such = p.is }

  pub glob_written : (edge : Edge) → Contains e.last.core.globs.edges edge → HasImport tables w from answer (λ r. (glob_of r.source ≡ Some edge.id)
      × (r.home ≡ edge.importer))
  glob_written edge h =
      let p : IsOfGlob tables w from answer e.last.core.reached edge = written.globs edge h in
      record { directive = p.directive; is_import = import_written p.directive p.among; is_such = (p.is_glob, p.into) }

pub imports_are_written : ImportsAreWritten
imports_are_written tables w finished from answer e r h = import_written tables w finished from answer e r h

pub leftovers_are_written : LeftoversAreWritten
leftovers_are_written tables w finished from answer e way h = leftover_written tables w finished from answer e way h

pub globs_are_written : GlobsAreWritten
globs_are_written tables w finished from answer e edge h = glob_written tables w finished from answer e edge h

pub calls_are_written : CallsAreWritten
calls_are_written tables w finished from answer e d h = call_there tables w finished from answer e d h
