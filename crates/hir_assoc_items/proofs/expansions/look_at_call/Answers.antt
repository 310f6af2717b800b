-- A call and what it depends on get numbers, and its expansion is looked up, once the paths that its macro asks for first reach macros.
use Rattle.std.proofs.Common.{rules, ◌≡◌, ◌∙◌, List, [], Some, ap, subst, sym}
use Rattle.hir_collector_rules.specs.HirBase.ModPath.{Path}
use Rattle.hir_collector_rules.specs.HirIds.declared.ids.Crate.{Crate}
use Rattle.hir_collector_rules.specs.HirTables.SourcePlaces.{ExpansionValue, expansion_value}
use Rattle.hir_collector_rules.proofs.HirTables.Growth.{KeepsTables-refl}
use Rattle.hir_collector_rules.specs.Calls.{asked_first, call_key, error_of}
use Rattle.hir_collector_rules.specs.Keys.{environment, input_at, source_in}
use Rattle.hir_collector_rules.specs.Workspace.{Workspace}
use Rattle.hir_assoc_items.specs.AssocItems.{crate_of, expansion_by, first_expansion, first_missing, of_inner, of_macro, texts_reached}
use Rattle.std.specs.Prelude.{IsSome}
use Rattle.hir_assoc_items.specs.Steps.{container_view}
use Rattle.hir_assoc_items.proofs.Expanding.{all_reach, key_grown, key_of_call, key_once, known_at_first, no_number, none_there, none_unknown, paths_later, sees_call}
use Rattle.hir_assoc_items.proofs.Growth.{AreKnown}
use Rattle.hir_assoc_items.proofs.expansions.look_at_call.Goals as goal

pub returns-then-not-is_meant-clause-unknown : goal.returns-then-not-is_meant-clause-unknown
returns-then-not-is_meant-clause-unknown g c = λ h.
    of_macro (λ there. let yes = c.is_meant.ensures.meant.1 there in let no : ⊥ = cc in no)

-- the macro asks for no paths first
pub returns-then-is_empty-clause-sees : goal.returns-then-is_empty-clause-sees
returns-then-is_empty-clause-sees g c =
    let w = g.D.SourceDatabase.workspace c.args.db.now in
    let tables = c.args.locations.now in
    let of = container_view c.args.container.now in
    let node = c.args.node in
    let makro = c.args.makro in
    let of_macro = c.is_meant.ensures.meant.0 c.if-not-is_meant.false in
    let krate = c.krate-krate.result in
    let own : krate ≡ crate_of of = c.krate-krate.ensures.value in
    let after_text = c.in_ok-text.ensures.same in
    let after_input = c.in_ok-input.ensures.same ∙ after_text in
    let key : ExpansionValue = expansion_value c.in_ok-key.key in
    let is : key ≡ first_expansion (environment tables w) of node makro =
    key_of_call tables w of node makro krate c.in_ok-text.text c.in_ok-input.input key c.in_ok-key.ensures.value own c.in_ok-text.ensures.value
    (c.in_ok-input.ensures.value ∙ ap (λ (v : Workspace). input_at tables v krate node) after_text) in
    let paths : List Path = c.in_ok-inner.inner in
    let are : paths ≡ asked_first makro (w.entry key) =
    c.in_ok-inner.ensures.value ∙ ap (asked_first makro) (c.expansion.ensures.value ∙ ap (λ (v : Workspace). v.entry key) after_input) in
    let nothing : paths ≡ [] = sym c.as_slice.ensures.value ∙ none_there c.as_slice.result.now (sym c.if-is_empty.true ∙ c.is_empty.ensures) in
    let later = c.look_up.new.locations in
    let kept = c.look_up.ensures.kept in
    let known = known_at_first tables w of node makro c.requires.meant of_macro key is paths are (none_unknown tables of paths nothing) in
    let found : key ≡ expansion_by (environment tables w) of node makro = key_once tables w of node makro c.requires.meant of_macro key is paths are nothing in
    let all = all_reach tables w of node makro c.requires.meant of_macro key is paths are (ap (first_missing of) nothing) later kept in
    let e = c.in_ok-look_up.field-0 in
    let up = c.in_ok-look_up.ensures.ok in
    sees_call tables w of node makro c.requires.meant of_macro known key found later later up.0 e.id e.error e.source.value kept (KeepsTables-refl later) up.1 up.2
    (up.3 ∙ ap (λ (v : Workspace). error_of (v.entry key)) after_input)
    (up.4 ∙ ap (λ (v : Workspace). source_in later v (call_key krate e.id)) after_input ∙ ap (λ (k : Crate). source_in later w (call_key k e.id)) own) all

pub returns-in_err-look_up-clause-many : goal.returns-in_err-look_up-clause-many
returns-in_err-look_up-clause-many g c = λ h.
    let w = g.D.SourceDatabase.workspace c.args.db.now in
    let tables = c.args.locations.now in
    let of = container_view c.args.container.now in
    let node = c.args.node in
    let makro = c.args.makro in
    let of_macro = c.is_meant.ensures.meant.0 c.if-not-is_meant.false in
    let krate = c.krate-krate.result in
    let own : krate ≡ crate_of of = c.krate-krate.ensures.value in
    let after_text = c.in_ok-text.ensures.same in
    let after_input = c.in_ok-input.ensures.same ∙ after_text in
    let key : ExpansionValue = expansion_value c.in_ok-key.key in
    let is : key ≡ first_expansion (environment tables w) of node makro =
    key_of_call tables w of node makro krate c.in_ok-text.text c.in_ok-input.input key c.in_ok-key.ensures.value own c.in_ok-text.ensures.value
    (c.in_ok-input.ensures.value ∙ ap (λ (v : Workspace). input_at tables v krate node) after_text) in
    let paths : List Path = c.in_ok-inner.inner in
    let are : paths ≡ asked_first makro (w.entry key) =
    c.in_ok-inner.ensures.value ∙ ap (asked_first makro) (c.expansion.ensures.value ∙ ap (λ (v : Workspace). v.entry key) after_input) in
    let nothing : paths ≡ [] = sym c.as_slice.ensures.value ∙ none_there c.as_slice.result.now (sym c.if-is_empty.true ∙ c.is_empty.ensures) in
    let later = c.look_up.new.locations in
    let kept = c.look_up.ensures.kept in
    let known = known_at_first tables w of node makro c.requires.meant of_macro key is paths are (none_unknown tables of paths nothing) in
    let found : key ≡ expansion_by (environment tables w) of node makro = key_once tables w of node makro c.requires.meant of_macro key is paths are nothing in
    let all = all_reach tables w of node makro c.requires.meant of_macro key is paths are (ap (first_missing of) nothing) later kept in
    no_number tables w of node makro c.requires.meant of_macro known key found later kept (all later (KeepsTables-refl later))
    (c.in_err-look_up.ensures.many (search rules))

-- or one of those that it asks for reaches none
pub returns-in_default-clause-sees : goal.returns-in_default-clause-sees
returns-in_default-clause-sees g c =
    let w = g.D.SourceDatabase.workspace c.args.db.now in
    let tables = c.args.locations.now in
    let of = container_view c.args.container.now in
    let node = c.args.node in
    let makro = c.args.makro in
    let of_macro = c.is_meant.ensures.meant.0 c.if-not-is_meant.false in
    let krate = c.krate-krate.result in
    let own : krate ≡ crate_of of = c.krate-krate.ensures.value in
    let after_text = c.in_ok-text.ensures.same in
    let after_input = c.in_ok-input.ensures.same ∙ after_text in
    let key : ExpansionValue = expansion_value c.in_ok-key.key in
    let is : key ≡ first_expansion (environment tables w) of node makro =
    key_of_call tables w of node makro krate c.in_ok-text.text c.in_ok-input.input key c.in_ok-key.ensures.value own c.in_ok-text.ensures.value
    (c.in_ok-input.ensures.value ∙ ap (λ (v : Workspace). input_at tables v krate node) after_text) in
    let paths : List Path = c.in_ok-inner.inner in
    let are : paths ≡ asked_first makro (w.entry key) =
    c.in_ok-inner.ensures.value ∙ ap (asked_first makro) (c.expansion.ensures.value ∙ ap (λ (v : Workspace). v.entry key) after_input) in (
      paths_later tables w of node makro c.requires.meant of_macro key is paths are,
      subst (λ (ps : List Path). IsSome (first_missing of ps)) c.as_slice-2.ensures.value (c.in_ok-reached.ensures.missing c.in_default.is),
    )

pub returns-in_err-reached-clause-unknown : goal.returns-in_err-reached-clause-unknown
returns-in_err-reached-clause-unknown g c = λ h.
    let unknown = c.in_err-reached.ensures.unknown (search rules) in of_inner unknown.0 unknown.1 unknown.2 unknown.3

pub returns-in_err-reached-clause-many : goal.returns-in_err-reached-clause-many
returns-in_err-reached-clause-many g c = λ h. absurd (c.in_err-reached.ensures.many (search rules))

-- or all reach macros
pub returns-clause-sees : goal.returns-clause-sees
returns-clause-sees g c =
    let w = g.D.SourceDatabase.workspace c.args.db.now in
    let tables = c.args.locations.now in
    let of = container_view c.args.container.now in
    let node = c.args.node in
    let makro = c.args.makro in
    let of_macro = c.is_meant.ensures.meant.0 c.if-not-is_meant.false in
    let krate = c.krate-krate.result in
    let own : krate ≡ crate_of of = c.krate-krate.ensures.value in
    let after_text = c.in_ok-text.ensures.same in
    let after_input = c.in_ok-input.ensures.same ∙ after_text in
    let key : ExpansionValue = expansion_value c.in_ok-key.key in
    let is : key ≡ first_expansion (environment tables w) of node makro =
    key_of_call tables w of node makro krate c.in_ok-text.text c.in_ok-input.input key c.in_ok-key.ensures.value own c.in_ok-text.ensures.value
    (c.in_ok-input.ensures.value ∙ ap (λ (v : Workspace). input_at tables v krate node) after_text) in
    let paths : List Path = c.in_ok-inner.inner in
    let are : paths ≡ asked_first makro (w.entry key) =
    c.in_ok-inner.ensures.value ∙ ap (asked_first makro) (c.expansion.ensures.value ∙ ap (λ (v : Workspace). v.entry key) after_input) in
    let reached = c.in_ok-reached.ensures.reached c.in-Some.texts c.in-Some.is in
    let later = c.look_up-2.new.locations in
    let kept = c.look_up-2.ensures.kept in
    let slice : c.as_slice-2.result.now ≡ paths = c.as_slice-2.ensures.value in
    let known = known_at_first tables w of node makro c.requires.meant of_macro key is paths are (subst (λ (ps : List Path). AreKnown tables of ps) slice reached.2)
    in
    let grown : ExpansionValue = expansion_value c.in_ok-grown.grown in
    let texts : c.in-Some.texts.items ≡ texts_reached (environment tables w) of paths =
    reached.1 ∙ ap (λ (v : Workspace). texts_reached (environment tables v) of c.as_slice-2.result.now) after_input
    ∙ ap (texts_reached (environment tables w) of) slice in
    let found : grown ≡ expansion_by (environment tables w) of node makro =
    key_grown tables w of node makro c.requires.meant of_macro key is paths are grown c.in-Some.texts.items c.in_ok-grown.ensures.value texts in
    let all = all_reach tables w of node makro c.requires.meant of_macro key is paths are (ap (first_missing of) (sym slice) ∙ reached.0) later kept in
    let e = c.in_ok-look_up-2.field-0 in
    let up = c.in_ok-look_up-2.ensures.ok in
    let after = c.in_ok-reached.ensures.same ∙ after_input in
    sees_call tables w of node makro c.requires.meant of_macro known grown found later later up.0 e.id e.error e.source.value kept (KeepsTables-refl later) up.1
    up.2
    (up.3 ∙ ap (λ (v : Workspace). error_of (v.entry grown)) after)
    (up.4 ∙ ap (λ (v : Workspace). source_in later v (call_key krate e.id)) after ∙ ap (λ (k : Crate). source_in later w (call_key k e.id)) own) all

pub returns-in_err-look_up-2-clause-many : goal.returns-in_err-look_up-2-clause-many
returns-in_err-look_up-2-clause-many g c = λ h.
    let w = g.D.SourceDatabase.workspace c.args.db.now in
    let tables = c.args.locations.now in
    let of = container_view c.args.container.now in
    let node = c.args.node in
    let makro = c.args.makro in
    let of_macro = c.is_meant.ensures.meant.0 c.if-not-is_meant.false in
    let krate = c.krate-krate.result in
    let own : krate ≡ crate_of of = c.krate-krate.ensures.value in
    let after_text = c.in_ok-text.ensures.same in
    let after_input = c.in_ok-input.ensures.same ∙ after_text in
    let key : ExpansionValue = expansion_value c.in_ok-key.key in
    let is : key ≡ first_expansion (environment tables w) of node makro =
    key_of_call tables w of node makro krate c.in_ok-text.text c.in_ok-input.input key c.in_ok-key.ensures.value own c.in_ok-text.ensures.value
    (c.in_ok-input.ensures.value ∙ ap (λ (v : Workspace). input_at tables v krate node) after_text) in
    let paths : List Path = c.in_ok-inner.inner in
    let are : paths ≡ asked_first makro (w.entry key) =
    c.in_ok-inner.ensures.value ∙ ap (asked_first makro) (c.expansion.ensures.value ∙ ap (λ (v : Workspace). v.entry key) after_input) in
    let reached = c.in_ok-reached.ensures.reached c.in-Some.texts c.in-Some.is in
    let later = c.look_up-2.new.locations in
    let kept = c.look_up-2.ensures.kept in
    let slice : c.as_slice-2.result.now ≡ paths = c.as_slice-2.ensures.value in
    let known = known_at_first tables w of node makro c.requires.meant of_macro key is paths are (subst (λ (ps : List Path). AreKnown tables of ps) slice reached.2)
    in
    let grown : ExpansionValue = expansion_value c.in_ok-grown.grown in
    let texts : c.in-Some.texts.items ≡ texts_reached (environment tables w) of paths =
    reached.1 ∙ ap (λ (v : Workspace). texts_reached (environment tables v) of c.as_slice-2.result.now) after_input
    ∙ ap (texts_reached (environment tables w) of) slice in
    let found : grown ≡ expansion_by (environment tables w) of node makro =
    key_grown tables w of node makro c.requires.meant of_macro key is paths are grown c.in-Some.texts.items c.in_ok-grown.ensures.value texts in
    let all = all_reach tables w of node makro c.requires.meant of_macro key is paths are (ap (first_missing of) (sym slice) ∙ reached.0) later kept in
    no_number tables w of node makro c.requires.meant of_macro known grown found later kept (all later (KeepsTables-refl later))
    (c.in_err-look_up-2.ensures.many (search rules))
