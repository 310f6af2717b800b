-- Where all paths reach macros, the expansion is looked up by the key with these.
use Rattle.std.proofs.Common.{◌≡◌, ◌∙◌, Contains, List, Some, ap, map, refl, subst, sym}
use Rattle.std.specs.Prelude.{IsSome}
use Rattle.std.specs.List.{All}
use Rattle.hir_collector_state.specs.HirBase.ModPath.{Path}
use Rattle.hir_collector_state.specs.HirBase.declared.macro_kind.MacroText.{MacroText}
use Rattle.hir_collector_state.specs.HirIds.declared.macro_kind.MacroId.{MacroId}
use Rattle.hir_collector_state.specs.HirTables.SourcePlaces.{ExpansionValue, expansion_value}
use Rattle.hir_collector_state.specs.HirTables.Tables.{TablesValue}
use Rattle.hir_collector_state.proofs.HirTables.Growth.{KeepsTables-trans}
use Rattle.hir_collector_state.specs.HirNameres.WorldParts.{part_of}
use Rattle.hir_collector_state.specs.HirCollectorRules.declared.source_database.Key.TheVariants as keys
use Rattle.hir_collector_state.specs.HirCollectorRules.Calls.{InnerMacro, call_key, call_kind, error_of, first_missing, grown_by, inner_macro, inner_readings}
use Rattle.hir_collector_state.specs.HirCollectorRules.Calls.{text_by}
use Rattle.hir_collector_state.specs.HirCollectorRules.Keys.{IsMeant, source_in}
use Rattle.hir_collector_state.specs.HirCollectorRules.Moves.{OnceGrown}
use Rattle.hir_collector_state.specs.HirCollectorRules.NumberedOut.{IsCallNumberedOut}
use Rattle.hir_collector_state.specs.HirCollectorRules.State.{Core, core_in, with_asked}
use Rattle.hir_collector_state.specs.HirCollectorRules.Steps.{keys_read, with_keys}
use Rattle.hir_collector_state.specs.HirCollectorRules.Workspace.{Workspace}
use Rattle.hir_collector_state.proofs.HirCollectorStart.CallPlaces.{placed_grown}
use Rattle.hir_collector_state.proofs.HirCollectorRules.Numbers.{refused_step}
use Rattle.hir_collector_state.proofs.Noted.{noted_follow}
use Rattle.hir_call_expansion.specs.Looks.{LacksBehind}
use Rattle.hir_call_expansion.proofs.Behind.{found_behind, inner_are, inner_at, inner_of, inner_texts, key_out, meant_later, out_behind}
use Rattle.hir_call_expansion.proofs.Reached.{path_of}
use Rattle.hir_call_expansion.proofs.expansion.look_behind_paths.Goals as goal

-- one path reaches nothing
pub returns-in_default-clause-ok : goal.returns-in_default-clause-ok
returns-in_default-clause-ok g c =
    let core = core_in c.args.run.now in
    let asked = c.in_ok-ask_entry.ensures.ok in (
      refl,
      subst (λ (ps : List Path). IsSome (first_missing (part_of c.args.world) core.local core.map c.args.call.now.site.home ps)) c.as_slice.ensures.value
          (c.in_ok-reached.ensures.missing c.in_default.is),
      asked.0,
      asked.1,
      asked.2,
    )

pub returns-in_default-clause-placed : goal.returns-in_default-clause-placed
returns-in_default-clause-placed g c = placed_grown c.args.locations.now c.ask_entry.new.locations c.ask_entry.ensures.kept c.ask_entry.ensures.calls

-- the source of a macro has no number
pub returns-then-not-are_meant-clause-unknown : goal.returns-then-not-are_meant-clause-unknown
returns-then-not-are_meant-clause-unknown g c = λ h.
    let core = core_in c.args.run.now in
    let unknown = c.are_meant.ensures.unknown c.if-not-are_meant.true in
    let path = path_of (part_of c.args.world) core.local core.map c.args.call.now.site.home c.as_slice.result.now c.in-Some.macros.items
    (c.in_ok-reached.ensures.reached c.in-Some.macros c.in-Some.is) unknown.0
    (subst (λ (ms : List MacroId). Contains ms unknown.0) c.deref.ensures.value unknown.1) in (path.0, unknown.0, path.1, unknown.2)

-- all have one
pub returns-clause-ok : goal.returns-clause-ok
returns-clause-ok g c =
    let w = g.D.SourceDatabase.workspace c.args.db.now in
    let part = part_of c.args.world in
    let core = core_in c.args.run.now in
    let first = c.args.locations.now in
    let call = c.args.call.now in
    let key : ExpansionValue = expansion_value c.args.key in
    let paths : List Path = c.args.inner in
    let found : List MacroId = c.in-Some.macros.items in
    let are : map (inner_macro part core.local core.map call.site.home) paths ≡ map (λ (makro : MacroId). Some makro) found =
    subst (λ (ps : List Path). map (inner_macro part core.local core.map call.site.home) ps ≡ map (λ (makro : MacroId). Some makro) found)
    c.as_slice.ensures.value (c.in_ok-reached.ensures.reached c.in-Some.macros c.in-Some.is) in
    let meant : All (IsMeant first) found = subst (All (IsMeant first)) c.deref.ensures.value (c.are_meant.ensures.meant c.if-not-are_meant.false) in
    let inner : List InnerMacro = inner_of part w core.local core.map first found in
    let asked = c.in_ok-ask_entry-2.ensures.ok in
    let up = c.in_ok-look_up.ensures.ok in
    let e = c.in_ok-look_up.field-0 in
    let same = c.in_ok-texts.ensures.same in
    let wide : expansion_value c.in_ok-grown.grown ≡ grown_by inner key =
    c.in_ok-grown.ensures.value ∙ ap (λ (ts : List MacroText). record key { reached = ts })
    (c.in_ok-texts.ensures.value ∙ ap (map (λ (makro : MacroId). text_by (inner_at part w core.local core.map first makro))) c.deref-2.ensures.value
    ∙ sym (inner_texts part w core.local core.map first found)) in
    let mid : core_in c.ask_texts.new.run ≡ record core { asked = with_keys (with_asked core (keys.Expansion asked.0)).asked (keys_read (inner_readings inner)) } =
    c.in_ok-ask_texts.ensures.ok inner (inner_are part w core.local core.map first found ∙ sym c.deref-3.ensures.value)
    ∙ ap (λ (x : Core). record x { asked = with_keys x.asked (keys_read (inner_readings inner)) }) asked.2 in
    found_behind first w part core call key paths found are meant c.ask_entry-2.new.locations c.look_up.new.locations (core_in c.look_up.new.run) e asked.0 up.0
    c.ask_entry-2.ensures.kept c.look_up.ensures.kept asked.1
    (up.1 ∙ ap Some wide) up.2
    (up.3 ∙ ap (λ (v : Workspace). error_of (v.entry (expansion_value c.in_ok-grown.grown))) same ∙ ap (λ (k : ExpansionValue). error_of (w.entry k)) wide)
    (up.4 ∙ ap (λ (v : Workspace). source_in c.look_up.new.locations v (call_key (core_in c.ask_texts.new.run).map.id.krate e.id)) same
    ∙ ap (λ (x : Core). source_in c.look_up.new.locations w (call_key x.map.id.krate e.id)) mid)
    (up.5 ∙ ap (λ (x : Core). with_asked (with_asked x (keys.Expansion up.0)) (keys.Tree (call_key x.map.id.krate e.id))) mid)

pub returns-clause-noted : goal.returns-clause-noted
returns-clause-noted g c =
    noted_follow c.in_ok-ask_entry-2.ensures.noted (noted_follow c.in_ok-ask_texts.ensures.noted c.in_ok-look_up.ensures.noted)

-- ---- what gets no number

pub returns-in_err-ask_entry-clause-many : goal.returns-in_err-ask_entry-clause-many
returns-in_err-ask_entry-clause-many g c = λ h.
    let w = g.D.SourceDatabase.workspace c.args.db.now in
    let part = part_of c.args.world in
    let core = core_in c.args.run.now in
    let key : ExpansionValue = expansion_value c.args.key in
    let full = c.in_err-ask_entry.ensures.many (sym c.in_err-ask_entry.was ∙ refused_step _ _ _ c.in_err-ask_entry.was
    c.from_residual-in_err-ask_entry.ensures.1 h) in
    subst (λ (t : TablesValue). OnceGrown t w (λ env. LacksBehind env part core c.args.call.now key c.args.inner)) (sym full.1)
    (key_out c.args.locations.now w part core c.args.call.now key c.args.inner full.0)

pub returns-in_err-ask_entry-2-clause-many : goal.returns-in_err-ask_entry-2-clause-many
returns-in_err-ask_entry-2-clause-many g c = λ h.
    let w = g.D.SourceDatabase.workspace c.args.db.now in
    let part = part_of c.args.world in
    let core = core_in c.args.run.now in
    let key : ExpansionValue = expansion_value c.args.key in
    let full = c.in_err-ask_entry-2.ensures.many (sym c.in_err-ask_entry-2.was ∙ refused_step _ _ _ c.in_err-ask_entry-2.was
    c.from_residual-in_err-ask_entry-2.ensures.1 h) in
    subst (λ (t : TablesValue). OnceGrown t w (λ env. LacksBehind env part core c.args.call.now key c.args.inner)) (sym full.1)
    (key_out c.args.locations.now w part core c.args.call.now key c.args.inner full.0)

pub returns-in_err-look_up-clause-many : goal.returns-in_err-look_up-clause-many
returns-in_err-look_up-clause-many g c = λ h.
    let w = g.D.SourceDatabase.workspace c.args.db.now in
    let part = part_of c.args.world in
    let core = core_in c.args.run.now in
    let first = c.args.locations.now in
    let call = c.args.call.now in
    let key : ExpansionValue = expansion_value c.args.key in
    let paths : List Path = c.args.inner in
    let found : List MacroId = c.in-Some.macros.items in
    let are : map (inner_macro part core.local core.map call.site.home) paths ≡ map (λ (makro : MacroId). Some makro) found =
    subst (λ (ps : List Path). map (inner_macro part core.local core.map call.site.home) ps ≡ map (λ (makro : MacroId). Some makro) found)
    c.as_slice.ensures.value (c.in_ok-reached.ensures.reached c.in-Some.macros c.in-Some.is) in
    let meant : All (IsMeant first) found = subst (All (IsMeant first)) c.deref.ensures.value (c.are_meant.ensures.meant c.if-not-are_meant.false) in
    let inner : List InnerMacro = inner_of part w core.local core.map first found in
    let same = c.in_ok-texts.ensures.same in
    let wide : expansion_value c.in_ok-grown.grown ≡ grown_by inner key =
    c.in_ok-grown.ensures.value ∙ ap (λ (ts : List MacroText). record key { reached = ts })
    (c.in_ok-texts.ensures.value ∙ ap (map (λ (makro : MacroId). text_by (inner_at part w core.local core.map first makro))) c.deref-2.ensures.value
    ∙ sym (inner_texts part w core.local core.map first found)) in
    let last = c.look_up.new.locations in
    let out = c.in_err-look_up.ensures.many (sym c.in_err-look_up.was ∙ refused_step _ _ _ c.in_err-look_up.was c.from_residual-in_err-look_up.ensures.1 h) in
    out_behind first w part core call key paths found are meant last
    (KeepsTables-trans first c.ask_entry-2.new.locations last c.ask_entry-2.ensures.kept c.look_up.ensures.kept)
    (λ bigger k. subst (λ (x : ExpansionValue). IsCallNumberedOut bigger (call_kind call) x) wide (out bigger k))

-- ---- tables grow

pub look_up-requires : goal.look_up-requires
look_up-requires g c =
    record { meant = meant_later c.args.locations.now c.ask_entry-2.new.locations c.args.call.now c.ask_entry-2.ensures.kept c.requires.meant }

pub returns-in_err-ask_entry-clause-placed : goal.returns-in_err-ask_entry-clause-placed
returns-in_err-ask_entry-clause-placed g c = placed_grown c.args.locations.now c.ask_entry.new.locations c.ask_entry.ensures.kept c.ask_entry.ensures.calls

pub returns-in_err-ask_entry-2-clause-placed : goal.returns-in_err-ask_entry-2-clause-placed
returns-in_err-ask_entry-2-clause-placed g c =
    placed_grown c.args.locations.now c.ask_entry-2.new.locations c.ask_entry-2.ensures.kept c.ask_entry-2.ensures.calls

pub returns-in_err-ask_texts-clause-placed : goal.returns-in_err-ask_texts-clause-placed
returns-in_err-ask_texts-clause-placed g c =
    placed_grown c.args.locations.now c.ask_entry-2.new.locations c.ask_entry-2.ensures.kept c.ask_entry-2.ensures.calls

pub returns-in_err-look_up-clause-placed : goal.returns-in_err-look_up-clause-placed
returns-in_err-look_up-clause-placed g c = λ placed.
    c.look_up.ensures.placed
    (placed_grown c.args.locations.now c.ask_entry-2.new.locations c.ask_entry-2.ensures.kept c.ask_entry-2.ensures.calls placed)

pub returns-clause-placed : goal.returns-clause-placed
returns-clause-placed g c = λ placed.
    c.look_up.ensures.placed
    (placed_grown c.args.locations.now c.ask_entry-2.new.locations c.ask_entry-2.ensures.kept c.ask_entry-2.ensures.calls placed)

pub returns-in_err-look_up-clause-kept : goal.returns-in_err-look_up-clause-kept
returns-in_err-look_up-clause-kept g c =
    KeepsTables-trans c.args.locations.now c.ask_entry-2.new.locations c.look_up.new.locations c.ask_entry-2.ensures.kept c.look_up.ensures.kept

pub returns-clause-kept : goal.returns-clause-kept
returns-clause-kept g c =
    KeepsTables-trans c.args.locations.now c.ask_entry-2.new.locations c.look_up.new.locations c.ask_entry-2.ensures.kept c.look_up.ensures.kept
