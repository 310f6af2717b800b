-- What is pushed is bound explicitly.
use Rattle.std.proofs.Common.{◌∙◌, ap, length}
use Rattle.hir_def_map_rules.proofs.Grown.{length-changed}
use Rattle.hir_def_map_rules.proofs.Modules.{OnOk-map}
use Rattle.hir_import_rules.specs.Names.{view_of}
use Rattle.hir_import_resolution.specs.Scopes.{value_of}
use Rattle.hir_import_resolution.proofs.Bound.{on_both, pushed_is, pushed_state, pushed_views}
use Rattle.hir_import_resolution.proofs.Placed.{placed_bound}
use Rattle.hir_import_resolution.specs.Types.{OpenScopes}
use Rattle.hir_import_resolution.proofs.resolver.Resolver.bind_name.Goals as goal

pub returns-clause-ok : goal.returns-clause-ok
returns-clause-ok c = on_both c.forget.result _ _ _
    (λ edges brought. pushed_state c.args.self.now c.push.new.self c.forget.new.globs c.args.home c.args.name.now c.in_ok-clone.field-0 c.args.items
    c.args.source c.way.result
    c.in_ok-clone.ensures.value c.way.ensures.value c.in_ok-push.ensures.ok edges brought)
    c.forget.ensures.edges c.forget.ensures.brought

pub returns-clause-placed : goal.returns-clause-placed
returns-clause-placed c = on_both c.forget.result _ _ _
    (λ edges brought.
    let named = pushed_is c.args.self.now c.push.new.self c.forget.new.globs c.args.home c.args.name.now c.in_ok-clone.field-0 c.args.items c.args.source
    c.way.result
    c.in_ok-clone.ensures.value c.way.ensures.value c.in_ok-push.ensures.ok in
    placed_bound c.args.self.now c.push.new.self c.forget.new.globs c.args.home (ap (λ (o : OpenScopes). o.map.id) named)
    (ap (λ (o : OpenScopes). length o.map.modules) named ∙ length-changed c.args.self.now.scopes.map.modules c.args.home _) edges c.args.name.now c.args.items
    brought
    (pushed_views c.args.self.now c.push.new.self c.forget.new.globs c.args.home c.args.name.now c.in_ok-clone.field-0 c.args.items c.args.source c.way.result
    c.in_ok-clone.ensures.value c.way.ensures.value c.in_ok-push.ensures.ok))
    c.forget.ensures.edges c.forget.ensures.brought

pub returns-clause-kept : goal.returns-clause-kept
returns-clause-kept c = OnOk-map c.forget.result _ _
    (λ e kept. e (view_of (value_of c.args.self.now.scopes)) (view_of (value_of c.push.new.self)) kept
    (pushed_views c.args.self.now c.push.new.self c.forget.new.globs c.args.home c.args.name.now c.in_ok-clone.field-0 c.args.items c.args.source c.way.result
    c.in_ok-clone.ensures.value c.way.ensures.value c.in_ok-push.ensures.ok))
    c.forget.ensures.kept
