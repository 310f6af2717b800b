-- All that the expansion of a call depends on is asked for, and the expansion.
use Rattle.std.proofs.Common.{◌≡◌, ◌∙◌, ◌++◌, ◌∷◌, [], List, Some, ap, subst, sym}
use Rattle.hir_collector_state.specs.HirBase.ModPath.{Path}
use Rattle.hir_collector_state.specs.HirIds.declared.ast_id.AstId.{AstId}
use Rattle.hir_collector_state.specs.HirBase.declared.macro_kind.CallStyle.{CallStyle}
use Rattle.hir_collector_state.specs.HirIds.declared.ids.MapId.{MapId}
use Rattle.hir_collector_state.specs.HirTables.SourcePlaces.{ExpansionValue, expansion_value}
use Rattle.hir_collector_state.specs.HirDefMapRules.State.{Map}
use Rattle.hir_collector_state.specs.HirNameres.WorldParts.{part_of}
use Rattle.hir_collector_state.specs.HirCollectorRules.declared.source_database.Key.TheVariants as keys
use Rattle.hir_collector_state.specs.HirCollectorRules.Calls.{asked_first, call_key, call_style, error_of, expansion_of_call, inner_macro, text_readings}
use Rattle.hir_collector_state.specs.HirCollectorRules.Keys.{environment, input_at, source_in}
use Rattle.hir_collector_state.specs.HirCollectorRules.NumberedOut.{expansion_by}
use Rattle.hir_collector_state.specs.HirCollectorRules.State.{Core, core_in, with_asked}
use Rattle.hir_collector_state.specs.HirCollectorRules.Steps.{keys_read, with_keys}
use Rattle.hir_collector_state.specs.HirCollectorRules.Workspace.{Workspace}
use Rattle.hir_collector_state.proofs.HirCollectorRules.Numbers.{refused_step}
use Rattle.hir_collector_state.specs.Waiting.{IsNoted}
use Rattle.hir_collector_state.proofs.Noted.{noted_follow}
use Rattle.hir_call_expansion.specs.Looks.{IsLook, IsLookBehind, LacksBehind}
use Rattle.hir_call_expansion.specs.declared.expansion.CallLook.{CallLook}
use Rattle.hir_call_expansion.proofs.Behind.{lacks_behind, look_at_once, look_behind, none_there, once_ok, some_there, when_ok}
use Rattle.hir_call_expansion.proofs.Looking.{expansion_stays, key_of_call, lacks_its_call, meant_still}
use Rattle.hir_call_expansion.proofs.expansion.look_at_call.Goals as goal

-- its macro asks for no paths first
pub returns-then-is_empty-clause-ok : goal.returns-then-is_empty-clause-ok
returns-then-is_empty-clause-ok g c =
    let w = g.D.SourceDatabase.workspace c.args.db.now in
    let first = c.args.locations.now in
    let tables = c.look_up.new.locations in
    let old : Core = core_in c.args.run.now in
    let call = c.args.call.now in
    let node : AstId = call.ast_id in
    let text = c.in_ok-text.text in
    let input = c.in_ok-input.input in
    let e = c.in_ok-look_up.field-0 in
    let up = c.in_ok-look_up.ensures.ok in
    let own : c.id.result ≡ old.map.id = c.id.ensures.value ∙ ap (λ (m : Map). m.id) c.map.ensures.value in
    let after_text = c.in_ok-text.ensures.same in
    let after_input = c.in_ok-input.ensures.same ∙ after_text in
    let key : expansion_value c.in_ok-key.key ≡ expansion_of_call old.map.id.krate (call_style call) c.args.makro text input = c.in_ok-key.ensures.value
    ∙ ap (λ (s : CallStyle). expansion_of_call c.id.result.krate s c.args.makro text input) c.call_style.ensures.value
    ∙ ap (λ (i : MapId). expansion_of_call i.krate (call_style call) c.args.makro text input) own in
    let paths : c.in_ok-inner.inner ≡ asked_first c.args.makro (w.entry (expansion_of_call old.map.id.krate (call_style call) c.args.makro text input)) =
    c.in_ok-inner.ensures.value
    ∙ ap (asked_first c.args.makro) (c.expansion.ensures.value ∙ ap (λ (v : Workspace). v.entry (expansion_value c.in_ok-key.key)) after_input ∙ ap w.entry key) in
    let nothing : c.in_ok-inner.inner ≡ [] = sym c.as_slice.ensures.value ∙ none_there c.as_slice.result.now (sym c.if-is_empty.true ∙ c.is_empty.ensures) in
    let mid : core_in c.ask.new.self
    ≡ record old { asked = with_keys old.asked (keys_read (text_readings c.args.makro text)) ++ keys.Input old.map.id.krate node ∷ [] } =
    c.in_ok-ask.ensures.ok ∙ ap (λ (i : MapId). with_asked (core_in c.ask_text.new.run) (keys.Input i.krate node)) own
    ∙ ap (λ (x : Core). with_asked x (keys.Input old.map.id.krate node)) (c.in_ok-ask_text.ensures.ok text) in
    look_at_once first tables w (part_of c.args.world) old (core_in c.look_up.new.run) call c.args.makro text input c.look_up.ensures.kept c.requires.meant
    c.requires.known c.in_ok-text.ensures.value
    (c.in_ok-input.ensures.value ∙ ap (λ (v : Workspace). input_at first v c.id.result.krate node) after_text ∙ ap
    (λ (i : MapId). input_at first w i.krate node) own)
    (sym paths ∙ nothing) e up.0 (up.1 ∙ ap Some key) up.2
    (up.3 ∙ ap (λ (v : Workspace). error_of (v.entry (expansion_value c.in_ok-key.key))) after_input ∙ ap (λ (k : ExpansionValue). error_of (w.entry k)) key)
    (up.4 ∙ ap (λ (v : Workspace). source_in tables v (call_key (core_in c.ask.new.self).map.id.krate e.id)) after_input
    ∙ ap (λ (x : Core). source_in tables w (call_key x.map.id.krate e.id)) mid)
    (up.5 ∙ ap (λ (x : Core). with_asked (with_asked x (keys.Expansion up.0)) (keys.Tree (call_key x.map.id.krate e.id))) mid)

-- or it asks for some
pub look_behind_paths-requires-clause-some : goal.look_behind_paths-requires-clause-some
look_behind_paths-requires-clause-some g c = λ nothing. some_there c.as_slice.result.now (sym c.if-is_empty.false ∙ c.is_empty.ensures) (c.as_slice.ensures.value ∙ nothing)

pub returns-clause-ok : goal.returns-clause-ok
returns-clause-ok g c =
    let w = g.D.SourceDatabase.workspace c.args.db.now in
    let first = c.args.locations.now in
    let tables = c.look_behind_paths.new.locations in
    let part = part_of c.args.world in
    let old : Core = core_in c.args.run.now in
    let new : Core = core_in c.look_behind_paths.new.run in
    let call = c.args.call.now in
    let node : AstId = call.ast_id in
    let text = c.in_ok-text.text in
    let input = c.in_ok-input.input in
    let own : c.id.result ≡ old.map.id = c.id.ensures.value ∙ ap (λ (m : Map). m.id) c.map.ensures.value in
    let after_text = c.in_ok-text.ensures.same in
    let after_input = c.in_ok-input.ensures.same ∙ after_text in
    let at : ExpansionValue = expansion_of_call old.map.id.krate (call_style call) c.args.makro text input in
    let key : expansion_value c.in_ok-key.key ≡ at = c.in_ok-key.ensures.value
    ∙ ap (λ (s : CallStyle). expansion_of_call c.id.result.krate s c.args.makro text input) c.call_style.ensures.value
    ∙ ap (λ (i : MapId). expansion_of_call i.krate (call_style call) c.args.makro text input) own in
    let paths : c.in_ok-inner.inner ≡ asked_first c.args.makro (w.entry at) =
    c.in_ok-inner.ensures.value
    ∙ ap (asked_first c.args.makro) (c.expansion.ensures.value ∙ ap (λ (v : Workspace). v.entry (expansion_value c.in_ok-key.key)) after_input ∙ ap w.entry key) in
    let mid : core_in c.ask.new.self
    ≡ record old { asked = with_keys old.asked (keys_read (text_readings c.args.makro text)) ++ keys.Input old.map.id.krate node ∷ [] } =
    c.in_ok-ask.ensures.ok ∙ ap (λ (i : MapId). with_asked (core_in c.ask_text.new.run) (keys.Input i.krate node)) own
    ∙ ap (λ (x : Core). with_asked x (keys.Input old.map.id.krate node)) (c.in_ok-ask_text.ensures.ok text) in
    let some : ¬ (asked_first c.args.makro (w.entry at) ≡ []) = λ nothing. some_there c.as_slice.result.now (sym c.if-is_empty.false ∙ c.is_empty.ensures) (c.as_slice.ensures.value ∙ paths ∙ nothing) in
    once_ok c.look_behind_paths.result
    (λ (look : CallLook). IsLookBehind tables (g.D.SourceDatabase.workspace c.input_at.new.db) part call (expansion_value c.in_ok-key.key) c.in_ok-inner.inner
    (core_in c.ask.new.self) new look) (λ (look : CallLook). IsLook tables w part call c.args.makro old new look) (λ look found.
    look_behind first tables w part old new call c.args.makro text input c.look_behind_paths.ensures.kept c.requires.meant c.requires.known
    c.in_ok-text.ensures.value
    (c.in_ok-input.ensures.value ∙ ap (λ (v : Workspace). input_at first v c.id.result.krate node) after_text ∙ ap
    (λ (i : MapId). input_at first w i.krate node) own)
    some look
    (subst (λ (x : Core). IsLookBehind tables w part call at (asked_first c.args.makro (w.entry at)) x new look) mid
    (subst (λ (ps : List Path). IsLookBehind tables w part call at ps (core_in c.ask.new.self) new look) paths
    (subst (λ (k : ExpansionValue). IsLookBehind tables w part call k c.in_ok-inner.inner (core_in c.ask.new.self) new look) key
    (subst (λ (v : Workspace). IsLookBehind tables v part call (expansion_value c.in_ok-key.key) c.in_ok-inner.inner (core_in c.ask.new.self) new look) after_input
    found))))) c.look_behind_paths.ensures.ok

-- ---- what gets no number

pub returns-in_err-look_up-clause-many : goal.returns-in_err-look_up-clause-many
returns-in_err-look_up-clause-many g c = λ h.
    let w = g.D.SourceDatabase.workspace c.args.db.now in
    let first = c.args.locations.now in
    let part = part_of c.args.world in
    let old : Core = core_in c.args.run.now in
    let map = old.map in
    let call = c.args.call.now in
    let makro = c.args.makro in
    let kept = c.look_up.ensures.kept in
    let tables = c.look_up.new.locations in
    let own : c.id.result ≡ map.id = c.id.ensures.value ∙ ap (λ (m : Map). m.id) c.map.ensures.value in
    let after_text = c.in_ok-text.ensures.same in
    let after_input = c.in_ok-input.ensures.same ∙ after_text in
    let key : ExpansionValue = expansion_value c.in_ok-key.key in
    let is : key ≡ expansion_by (environment first w) part map call makro =
    key_of_call first tables w part old.local map call makro kept c.requires.meant c.requires.known c.id.result.krate c.call_style.result c.in_ok-text.text
    c.in_ok-input.input key c.in_ok-key.ensures.value (ap (λ (i : MapId). i.krate) own) c.call_style.ensures.value c.in_ok-text.ensures.value
    (c.in_ok-input.ensures.value ∙ ap (λ (v : Workspace). input_at first v c.id.result.krate call.ast_id) after_text ∙ ap
    (λ (i : MapId). input_at first w i.krate call.ast_id) own) in
    let nothing : c.in_ok-inner.inner ≡ [] = sym c.as_slice.ensures.value ∙ none_there c.as_slice.result.now (sym c.if-is_empty.true ∙ c.is_empty.ensures) in
    let paths : c.in_ok-inner.inner ≡ asked_first makro (w.entry key) =
    c.in_ok-inner.ensures.value ∙ ap (asked_first makro) (c.expansion.ensures.value ∙ ap (λ (v : Workspace). v.entry key) after_input) in
    lacks_its_call first tables w part old.local map call makro kept c.requires.meant c.requires.known key is (sym paths ∙ nothing)
    (c.in_err-look_up.ensures.many (sym c.in_err-look_up.was ∙ refused_step _ _ _ c.in_err-look_up.was c.from_residual-in_err-look_up.ensures.1 h))

pub returns-clause-many : goal.returns-clause-many
returns-clause-many g c = λ h grown k.
    let w = g.D.SourceDatabase.workspace c.args.db.now in
    let first = c.args.locations.now in
    let part = part_of c.args.world in
    let old : Core = core_in c.args.run.now in
    let map = old.map in
    let call = c.args.call.now in
    let makro = c.args.makro in
    let kept = c.look_behind_paths.ensures.kept in
    let tables = c.look_behind_paths.new.locations in
    let own : c.id.result ≡ map.id = c.id.ensures.value ∙ ap (λ (m : Map). m.id) c.map.ensures.value in
    let after_text = c.in_ok-text.ensures.same in
    let after_input = c.in_ok-input.ensures.same ∙ after_text in
    let key : ExpansionValue = expansion_value c.in_ok-key.key in
    let is : key ≡ expansion_by (environment first w) part map call makro =
    key_of_call first tables w part old.local map call makro kept c.requires.meant c.requires.known c.id.result.krate c.call_style.result c.in_ok-text.text
    c.in_ok-input.input key c.in_ok-key.ensures.value (ap (λ (i : MapId). i.krate) own) c.call_style.ensures.value c.in_ok-text.ensures.value
    (c.in_ok-input.ensures.value ∙ ap (λ (v : Workspace). input_at first v c.id.result.krate call.ast_id) after_text ∙ ap
    (λ (i : MapId). input_at first w i.krate call.ast_id) own) in
    let paths : c.in_ok-inner.inner ≡ asked_first makro (w.entry key) =
    c.in_ok-inner.ensures.value ∙ ap (asked_first makro) (c.expansion.ensures.value ∙ ap (λ (v : Workspace). v.entry key) after_input) in
    let mid : core_in c.ask.new.self
    ≡ record old { asked = with_keys old.asked (keys_read (text_readings makro c.in_ok-text.text)) ++ keys.Input old.map.id.krate call.ast_id ∷ [] } =
    c.in_ok-ask.ensures.ok ∙ ap (λ (i : MapId). with_asked (core_in c.ask_text.new.run) (keys.Input i.krate call.ast_id)) own
    ∙ ap (λ (x : Core). with_asked x (keys.Input old.map.id.krate call.ast_id)) (c.in_ok-ask_text.ensures.ok c.in_ok-text.text) in
    let env = environment grown w in
    lacks_behind env part old call makro key
    (meant_still first tables w part old.local map call makro kept c.requires.meant c.requires.known grown k)
    (is ∙ sym (expansion_stays first tables w part old.local map call makro kept c.requires.meant c.requires.known grown k))
    (subst (λ (ps : List Path). LacksBehind env part old call key ps) paths
    (subst (λ (x : Core). LacksBehind env part x call key c.in_ok-inner.inner) mid
    (subst (λ (v : Workspace). LacksBehind (environment grown v) part (core_in c.ask.new.self) call key c.in_ok-inner.inner) after_input
    (c.look_behind_paths.ensures.many h grown k))))

pub returns-clause-unknown : goal.returns-clause-unknown
returns-clause-unknown g c = λ h.
    let old : Core = core_in c.args.run.now in
    let mid : core_in c.ask.new.self
    ≡ record old { asked = with_keys old.asked (keys_read (text_readings c.args.makro c.in_ok-text.text)) ++ keys.Input old.map.id.krate c.args.call.now.ast_id ∷ [] } =
    c.in_ok-ask.ensures.ok
    ∙ ap (λ (i : MapId). with_asked (core_in c.ask_text.new.run) (keys.Input i.krate c.args.call.now.ast_id)) (c.id.ensures.value ∙ ap (λ (m : Map). m.id)
    c.map.ensures.value)
    ∙ ap (λ (x : Core). with_asked x (keys.Input old.map.id.krate c.args.call.now.ast_id)) (c.in_ok-ask_text.ensures.ok c.in_ok-text.text) in
    let unknown = c.look_behind_paths.ensures.unknown h in (
      unknown.0,
      unknown.1,
      subst (λ (x : Core). inner_macro (part_of c.args.world) x.local x.map c.args.call.now.site.home unknown.0 ≡ Some unknown.1) mid unknown.2,
      unknown.3,
    )

-- ---- what has changed is noted

pub returns-then-is_empty-clause-noted : goal.returns-then-is_empty-clause-noted
returns-then-is_empty-clause-noted g c =
    noted_follow c.in_ok-ask_text.ensures.noted (noted_follow c.in_ok-ask.ensures.noted c.in_ok-look_up.ensures.noted)

pub returns-clause-noted : goal.returns-clause-noted
returns-clause-noted g c =
    when_ok c.look_behind_paths.result (IsNoted c.ask.new.self c.look_behind_paths.new.run) (IsNoted c.args.run.now c.look_behind_paths.new.run)
    (λ noted. noted_follow c.in_ok-ask_text.ensures.noted (noted_follow c.in_ok-ask.ensures.noted noted)) c.look_behind_paths.ensures.noted
