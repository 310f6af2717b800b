-- Namespace after namespace.
use Rattle.hir_glob_imports.specs.Waves.{brought_of}
use Rattle.hir_nameres.proofs.HirDefMapRules.Modules.{OnOk-map}
use Rattle.hir_import_growth.proofs.Forgotten.{forgotten_thrice, kept_thrice}
use Rattle.hir_import_growth.proofs.forgetting.forget.Goals as goal

pub returns-clause-brought : goal.returns-clause-brought
returns-clause-brought c = OnOk-map c.forget_in-3.result _ _
    (λ e. forgotten_thrice c.args.home c.args.name.now c.in_ok-clone.field-0 c.in_ok-clone-2.field-0 c.in_ok-clone-3.field-0 c.args.items
    c.is_some.result c.is_some-2.result c.is_some-3.result c.in_ok-clone.ensures.value c.in_ok-clone-2.ensures.value c.in_ok-clone-3.ensures.value
    c.is_some.ensures c.is_some-2.ensures c.is_some-3.ensures
    (brought_of c.args.globs.now) (brought_of c.forget_in.new.globs) (brought_of c.forget_in-2.new.globs) (brought_of c.forget_in-3.new.globs)
    c.in_ok-forget_in.ensures.brought c.in_ok-forget_in-2.ensures.brought e)
    c.forget_in-3.ensures.brought

pub returns-clause-kept : goal.returns-clause-kept
returns-clause-kept c = OnOk-map c.forget_in-3.result _ _
    (λ e. kept_thrice c.args.home c.args.name.now c.in_ok-clone.field-0 c.in_ok-clone-2.field-0 c.in_ok-clone-3.field-0 c.args.items
    c.is_some.result c.is_some-2.result c.is_some-3.result c.in_ok-clone.ensures.value c.in_ok-clone-2.ensures.value c.in_ok-clone-3.ensures.value
    c.is_some.ensures c.is_some-2.ensures c.is_some-3.ensures
    c.args.globs.now c.forget_in.new.globs c.forget_in-2.new.globs c.forget_in-3.new.globs
    c.in_ok-forget_in.ensures.kept c.in_ok-forget_in-2.ensures.kept e)
    c.forget_in-3.ensures.kept
