-- A trait without a name is in no slot that something must stand in.
use Rattle.std.proofs.Common.{◌∙◌, ap, length}
use Rattle.hir_def_map_rules.proofs.Grown.{length-changed}
use Rattle.hir_def_map_rules.proofs.Modules.{OnOk-map}
use Rattle.hir_import_rules.specs.Names.{view_of}
use Rattle.hir_import_resolution.specs.Scopes.{value_of}
use Rattle.hir_import_resolution.proofs.Bound.{kept_state, kept_views, on_both}
use Rattle.hir_import_resolution.proofs.Placed.{placed_kept}
use Rattle.hir_import_resolution.specs.Types.{OpenScopes}
use Rattle.hir_import_resolution.proofs.resolver.Resolver.keep.Goals as goal

pub returns-clause-ok : goal.returns-clause-ok
returns-clause-ok c = on_both c.changed.result _ _ _
    (λ edges brought. kept_state c.args.self.now c.keep_unnamed_trait.new.self c.changed.new.self c.args.home c.args.kept c.in-Some.id c.args.vis c.args.leaf
    c.in-Some.is c.in_ok-keep_unnamed_trait.ensures.ok edges brought)
    c.changed.ensures.edges c.changed.ensures.brought

pub returns-clause-placed : goal.returns-clause-placed
returns-clause-placed c = on_both c.changed.result _ _ _
    (λ edges brought.
    placed_kept c.args.self.now c.keep_unnamed_trait.new.self c.changed.new.self c.args.home
    (ap (λ (o : OpenScopes). o.map.id) c.in_ok-keep_unnamed_trait.ensures.ok)
    (ap (λ (o : OpenScopes). length o.map.modules) c.in_ok-keep_unnamed_trait.ensures.ok ∙ length-changed c.args.self.now.scopes.map.modules c.args.home _)
    edges c.in-Some.id c.args.kept c.in-Some.is brought
    (kept_views c.args.self.now c.keep_unnamed_trait.new.self c.changed.new.self c.args.home c.args.kept c.in-Some.id c.args.vis c.args.leaf
    c.in-Some.is c.in_ok-keep_unnamed_trait.ensures.ok))
    c.changed.ensures.edges c.changed.ensures.brought

pub returns-clause-kept : goal.returns-clause-kept
returns-clause-kept c = OnOk-map c.changed.result _ _
    (λ e kept. e (view_of (value_of c.args.self.now.scopes)) (view_of (value_of c.keep_unnamed_trait.new.self)) kept
    (kept_views c.args.self.now c.keep_unnamed_trait.new.self c.changed.new.self c.args.home c.args.kept c.in-Some.id c.args.vis c.args.leaf
    c.in-Some.is c.in_ok-keep_unnamed_trait.ensures.ok))
    c.changed.ensures.kept
