-- A `derive` is taken, and the item goes on; for any other attribute it waits.
use Rattle.std.proofs.Common.{rules, ◌≡◌, ◌∙◌, ◌+◌, ◌≤◌, ◌∷◌, [], ℕ, Bool, Some, arith, get_or, length, slice_get, subst, sym, ap}
use Rattle.hir_collector_state.specs.HirItemTree.Collected.{numbered}
use Rattle.hir_collector_state.specs.HirItemTree.KeptForest.{all_items}
use Rattle.hir_collector_state.specs.HirItemTree.SourceTree.{SourceTreeValue}
use Rattle.hir_collector_state.specs.HirItemTree.declared.attrs.Attr.{Attr}
use Rattle.hir_collector_state.specs.HirTables.Tables.{KeepsTables, TablesValue}
use Rattle.hir_collector_state.specs.HirCollectorRules.declared.macro_directive.WaitingItem.{WaitingItem}
use Rattle.hir_collector_state.specs.HirCollectorRules.declared.start.TheConstants.{STEP_LIMIT}
use Rattle.hir_collector_state.specs.HirCollectorRules.Calls.{AreCallsPlaced, item_kept}
use Rattle.hir_collector_state.specs.HirCollectorRules.Attributes.{attr_id, is_derive}
use Rattle.hir_collector_state.specs.HirCollectorRules.Moves.{HandlesAttribute, LacksDeriveNumber, TakesDerive, goes_behind}
use Rattle.hir_collector_state.specs.HirCollectorRules.State.{Core, core_in, counted, visit, with_calls}
use Rattle.hir_collector_state.specs.HirCollectorRules.Steps.{attribute_at}
use Rattle.hir_collector_state.specs.Waiting.{IsNoted}
use Rattle.hir_collector_state.proofs.HirCollectorRules.Numbers.{tables_stay}
use Rattle.hir_collector_state.proofs.Noted.{noted_follow}
use Rattle.hir_attr_resolution.proofs.Passing.{awaited, awaited_too_far, item_is, taken, taken_count, taken_modules, taken_too_far, unnumbered_too_far}
use Rattle.hir_attr_resolution.proofs.attributes.handle_attribute.Goals as goal
use Rattle.hir_attr_resolution.proofs.attributes.handle_attribute.Goals.{then-goes_on+in_ok-take_derive, else-goes_on+in_ok-new+in_ok-await_attribute}

-- ---- numbers

pub returns-clause-kept : goal.returns-clause-kept
returns-clause-kept c =
    elim c.if-goes_on.branch [
      | then-goes_on+in_ok-take_derive w ↦ subst (λ (t : TablesValue). KeepsTables c.args.locations.now t) (sym w.locations-is) w.in_ok-take_derive.ensures.kept
      | else-goes_on+in_ok-new+in_ok-await_attribute w ↦ subst (λ (t : TablesValue). KeepsTables c.args.locations.now t) (sym w.locations-is)
          (tables_stay c.args.locations.now)
    ]

pub returns-clause-placed : goal.returns-clause-placed
returns-clause-placed c =
    elim c.if-goes_on.branch [
      | then-goes_on+in_ok-take_derive w ↦ subst (λ (t : TablesValue). AreCallsPlaced c.args.locations.now → AreCallsPlaced t) (sym w.locations-is)
          w.in_ok-take_derive.ensures.placed
      | else-goes_on+in_ok-new+in_ok-await_attribute w ↦ subst (λ (t : TablesValue). AreCallsPlaced c.args.locations.now → AreCallsPlaced t)
          (sym w.locations-is) (λ placed. placed)
    ]

pub returns-in_err-tick-clause-kept : goal.returns-in_err-tick-clause-kept
returns-in_err-tick-clause-kept c =
    elim c.if-goes_on.branch [
      | then-goes_on+in_ok-take_derive w ↦ subst (λ (t : TablesValue). KeepsTables c.args.locations.now t) (sym w.locations-is) w.in_ok-take_derive.ensures.kept
      | else-goes_on+in_ok-new+in_ok-await_attribute w ↦ subst (λ (t : TablesValue). KeepsTables c.args.locations.now t) (sym w.locations-is)
          (tables_stay c.args.locations.now)
    ]

pub returns-in_err-tick-clause-placed : goal.returns-in_err-tick-clause-placed
returns-in_err-tick-clause-placed c =
    elim c.if-goes_on.branch [
      | then-goes_on+in_ok-take_derive w ↦ subst (λ (t : TablesValue). AreCallsPlaced c.args.locations.now → AreCallsPlaced t) (sym w.locations-is)
          w.in_ok-take_derive.ensures.placed
      | else-goes_on+in_ok-new+in_ok-await_attribute w ↦ subst (λ (t : TablesValue). AreCallsPlaced c.args.locations.now → AreCallsPlaced t)
          (sym w.locations-is) (λ placed. placed)
    ]

-- ---- the run

pub returns-clause-modules : goal.returns-clause-modules
returns-clause-modules c =
    let v = c.args.visited in
    let old : Core = core_in c.args.run.now in
    let attr : Attr = get_or v.attrs.now c.args.at c.index-visited-at.result in
    elim c.if-goes_on.branch [
      | then-goes_on+in_ok-take_derive w ↦
          ap (λ (n : Core). length n.map.modules) c.in_ok-tick.ensures.ok ∙ ap (λ (run : _). length (core_in run).map.modules) w.run-is
          ∙ taken_modules _ v.site.now v.node (numbered attr) v.adt old (core_in w.take_derive.new.run) w.in_ok-take_derive.ensures.ok
      | else-goes_on+in_ok-new+in_ok-await_attribute w ↦
          ap (λ (n : Core). length n.map.modules) c.in_ok-tick.ensures.ok ∙ ap (λ (run : _). length (core_in run).map.modules) w.run-is
          ∙ ap (λ (n : Core). length n.map.modules) w.in_ok-await_attribute.ensures.ok
    ]

pub returns-clause-noted : goal.returns-clause-noted
returns-clause-noted c =
    elim c.if-goes_on.branch [
      | then-goes_on+in_ok-take_derive w ↦ noted_follow (subst (λ (run : _). IsNoted c.args.run.now run) (sym w.run-is) w.in_ok-take_derive.ensures.noted)
          c.in_ok-tick.ensures.noted
      | else-goes_on+in_ok-new+in_ok-await_attribute w ↦ noted_follow (subst (λ (run : _). IsNoted c.args.run.now run) (sym w.run-is)
          w.in_ok-await_attribute.ensures.noted) c.in_ok-tick.ensures.noted
    ]

pub returns-clause-ok : goal.returns-clause-ok
returns-clause-ok c = λ env finished item from a keeps is there next.
    let v = c.args.visited in
    let old : Core = core_in c.args.run.now in
    let new : Core = core_in c.tick.new.self in
    let attr : Attr = get_or v.attrs.now c.args.at c.index-visited-at.result in
    let same : attr ≡ a = sym c.index-visited-at.is ∙ item_is v.attrs.now c.args.at a c.index-visited-at.result there c.index-visited-at.is in
    let named : c.is_keyed-goes_on.result ≡ is_derive (numbered a) = c.is_keyed-goes_on.ensures.value ∙ ap (λ (x : Attr). is_derive (numbered x)) same in
    elim c.if-goes_on.branch [
      | then-goes_on+in_ok-take_derive w ↦
          let tables = w.take_derive.new.locations in
          subst (λ (b : Bool). HandlesAttribute env finished old new (visit v.site.now item) from (goes_behind (visit v.site.now item) c.args.at b))
          (sym w.if-goes_on.true)
          (taken env finished old v item is from c.args.at (numbered a) next tables (core_in w.take_derive.new.run) new
          (subst (λ (t : TablesValue). KeepsTables t env.tables) w.locations-is keeps)
          (sym named ∙ w.if-goes_on.true)
          (subst (λ (x : Attr). TakesDerive tables v.site.now v.node (numbered x) v.adt old (core_in w.take_derive.new.run)) same
          w.in_ok-take_derive.ensures.ok)
          (c.in_ok-tick.ensures.ok ∙ ap (λ (run : _). counted (core_in run)) w.run-is))
      | else-goes_on+in_ok-new+in_ok-await_attribute w ↦
          let k : WaitingItem = record { source = w.in_ok-new.field-0; id = v.id; done = c.args.at + 1 } in
          let kept : item_kept k ≡ Some item = subst (λ (s : SourceTreeValue). slice_get (all_items s.tree.items) v.id.0 ≡ Some item)
          (sym w.in_ok-new.ensures.value) is.kept in
          let becomes : core_in w.await_attribute.new.run ≡ with_calls old (attribute_at v.site.now v.node (attr_id (numbered a)) a.meta.path k ∷ []) =
          w.in_ok-await_attribute.ensures.ok ∙ ap (λ (x : Attr). with_calls old (attribute_at v.site.now v.node x.id x.meta.path k ∷ [])) same in
          subst (λ (b : Bool). HandlesAttribute env finished old new (visit v.site.now item) from (goes_behind (visit v.site.now item) c.args.at b))
          (sym w.if-goes_on.false)
          (awaited env finished old v item is from c.args.at (numbered a) next new k (sym named ∙ w.if-goes_on.false) (omega arith) kept
          (c.in_ok-tick.ensures.ok ∙ ap (λ (run : _). counted (core_in run)) w.run-is ∙ ap counted becomes))
    ]

-- ---- too far

pub returns-in_err-take_derive-clause-many : goal.returns-in_err-take_derive-clause-many
returns-in_err-take_derive-clause-many c = λ many env finished item from a keeps is there next.
    let v = c.args.visited in
    let old : Core = core_in c.args.run.now in
    let attr : Attr = get_or v.attrs.now c.args.at c.index-visited-at.result in
    let same : attr ≡ a = sym c.index-visited-at.is ∙ item_is v.attrs.now c.args.at a c.index-visited-at.result there c.index-visited-at.is in
    let named : c.is_keyed-goes_on.result ≡ is_derive (numbered a) = c.is_keyed-goes_on.ensures.value ∙ ap (λ (x : Attr). is_derive (numbered x)) same in
    let tables = c.take_derive.new.locations in
    unnumbered_too_far env finished old v item is from c.args.at (numbered a) next tables keeps (sym named ∙ c.if-goes_on.true)
    (subst (λ (x : Attr). LacksDeriveNumber tables old.map.id.krate v.node (numbered x) v.adt) same (c.in_err-take_derive.ensures.many (search rules)))

pub returns-in_err-tick-clause-many : goal.returns-in_err-tick-clause-many
returns-in_err-tick-clause-many c = λ many env finished item from a keeps is there next.
    let v = c.args.visited in
    let old : Core = core_in c.args.run.now in
    let attr : Attr = get_or v.attrs.now c.args.at c.index-visited-at.result in
    let same : attr ≡ a = sym c.index-visited-at.is ∙ item_is v.attrs.now c.args.at a c.index-visited-at.result there c.index-visited-at.is in
    let named : c.is_keyed-goes_on.result ≡ is_derive (numbered a) = c.is_keyed-goes_on.ensures.value ∙ ap (λ (x : Attr). is_derive (numbered x)) same in
    elim c.if-goes_on.branch [
      | then-goes_on+in_ok-take_derive w ↦
          let tables = w.take_derive.new.locations in
          let takes : TakesDerive tables v.site.now v.node (numbered a) v.adt old (core_in w.take_derive.new.run) =
          subst (λ (x : Attr). TakesDerive tables v.site.now v.node (numbered x) v.adt old (core_in w.take_derive.new.run)) same w.in_ok-take_derive.ensures.ok
          in
          taken_too_far env finished old v item is from c.args.at (numbered a) next tables (core_in w.take_derive.new.run)
          (subst (λ (t : TablesValue). KeepsTables t env.tables) w.locations-is keeps)
          (sym named ∙ w.if-goes_on.true) takes
          (subst (λ (n : ℕ). STEP_LIMIT ≤ n) (ap (λ (run : _). (core_in run).count) w.run-is ∙ taken_count tables v.site.now v.node (numbered a) v.adt old
          (core_in w.take_derive.new.run) takes)
          (c.in_err-tick.ensures.many (search rules)))
      | else-goes_on+in_ok-new+in_ok-await_attribute w ↦
          awaited_too_far env finished old v item is from c.args.at (numbered a) next (sym named ∙ w.if-goes_on.false)
          (subst (λ (n : ℕ). STEP_LIMIT ≤ n) (ap (λ (run : _). (core_in run).count) w.run-is ∙ ap (λ (n : Core). n.count) w.in_ok-await_attribute.ensures.ok)
          (c.in_err-tick.ensures.many (search rules)))
    ]
