-- An item is told, listed or taken as a call.
use Rattle.std.proofs.Common.{◌≡◌, ◌∙◌, None, Some, ap, sym}
use Rattle.std.specs.Prelude.{option_map}
use Rattle.hir_collector_rules.specs.HirBase.Cfg.{cfg_view}
use Rattle.hir_collector_rules.specs.Keys.{environment}
use Rattle.hir_assoc_items.specs.AssocItems.{definition_of, left_out, listed, listed_by, unconfigured}
use Rattle.hir_assoc_items.specs.Steps.{container_view, left_of, listing_view}
use Rattle.hir_assoc_items.specs.Written.{WrittenValue, path_called, written_view}
use Rattle.hir_assoc_items.proofs.Taking.{taken_alone}
use Rattle.hir_assoc_items.proofs.flatten.take_item.Goals as goal

pub returns-in-Some-clause-ok : goal.returns-in-Some-clause-ok
returns-in-Some-clause-ok g c =
    let w = g.D.SourceDatabase.workspace c.args.db.now in
    let of = container_view c.args.container.now in
    let i : WrittenValue = written_view c.args.item.now in
    let condition = cfg_view c.in-Some.cfg.now in
    let disabled : i.disabled ≡ Some condition = sym c.in-Some.ensures.value in
    taken_alone c.args.locations.now w of i (left_of c.args.left.now.items) (listing_view c.args.found.now) (listing_view c.tell_unconfigured.new.found)
    (unconfigured (environment c.args.locations.now w) of i condition) (λ grown k. left_out condition disabled) c.in_ok-tell_unconfigured.ensures.ok

pub returns-in_ok-list-in-None-clause-ok : goal.returns-in_ok-list-in-None-clause-ok
returns-in_ok-list-in-None-clause-ok g c =
    let w = g.D.SourceDatabase.workspace c.args.db.now in
    let of = container_view c.args.container.now in
    let i : WrittenValue = written_view c.args.item.now in
    let enabled : i.disabled ≡ None = sym c.condition.ensures.value ∙ ap (λ o. option_map (λ cfg. cfg_view cfg.now) o) c.in_default.is in
    let no_call : path_called i.kind ≡ None = sym c.in-None.ensures.value in
    taken_alone c.args.locations.now w of i (left_of c.args.left.now.items) (listing_view c.args.found.now) (listing_view c.list.new.found)
    (listed_by (definition_of of i))
    (λ grown k. listed enabled no_call) c.in_ok-list-in-None.ensures.ok
