-- Lists of different lengths are not the same, nor are conditions of different kinds.
use Rattle.std.proofs.Common.{◌∙◌, ap, sym, rules, arith}
use Rattle.hir_base.specs.Cfg.{cfg_view}
use Rattle.hir_base.specs.declared.cfg.CfgExpr.TheViews.{out-CfgExpr, roll-out-CfgExpr}
use Rattle.hir_base.proofs.CfgLemmas.{cfg_view-invalid, cfg_view-constant, cfg_view-atom, cfg_view-all, cfg_view-any, cfg_view-not, cfg_view-out}
use Rattle.hir_base.proofs.CfgLemmas.{not_invalid, not_constant, not_atom, not_all, not_any, not_unless, length_of_alike}
use Rattle.hir_base.proofs.cfg.+same.Goals as goal

pub same_all-returns-then-len : goal.same_all-returns-then-len
same_all-returns-then-len t c = record {
  value = (
    λ never. search rules,
    λ alike. let lengths = length_of_alike c.args.parts.now.items c.args.others.now.items alike in search (rules, arith),
  );
}

pub CfgExpr::same-returns-in_default : goal.CfgExpr::same-returns-in_default
CfgExpr::same-returns-in_default t c = record {
  value = (
    λ never. search rules,
    λ alike. absurd (not_invalid (out-CfgExpr c.args.other.now) (λ is. c.in_default.not-Invalid-1 (sym (roll-out-CfgExpr c.args.other.now) ∙ is))
        (sym (ap cfg_view c.in_default.is-0 ∙ cfg_view-invalid) ∙ (alike ∙ cfg_view-out c.args.other.now))),
  );
}

pub CfgExpr::same-returns-in_default-2 : goal.CfgExpr::same-returns-in_default-2
CfgExpr::same-returns-in_default-2 t c = record {
  value = (
    λ never. search rules,
    λ alike. absurd (not_constant (out-CfgExpr c.args.other.now) _ (λ x is. c.in_default.not-Const-1 x (sym (roll-out-CfgExpr c.args.other.now) ∙ is))
        (sym (ap cfg_view c.in_default.is-0 ∙ cfg_view-constant c.in_default.field-0-0) ∙ (alike ∙ cfg_view-out c.args.other.now))),
  );
}

pub CfgExpr::same-returns-in_default-3 : goal.CfgExpr::same-returns-in_default-3
CfgExpr::same-returns-in_default-3 t c = record {
  value = (
    λ never. search rules,
    λ alike. absurd (not_atom (out-CfgExpr c.args.other.now) _ (λ x is. c.in_default.not-Atom-1 x (sym (roll-out-CfgExpr c.args.other.now) ∙ is))
        (sym (ap cfg_view c.in_default.is-0 ∙ cfg_view-atom c.in_default.field-0-0) ∙ (alike ∙ cfg_view-out c.args.other.now))),
  );
}

pub CfgExpr::same-returns-in_default-4 : goal.CfgExpr::same-returns-in_default-4
CfgExpr::same-returns-in_default-4 t c = record {
  value = (
    λ never. search rules,
    λ alike. absurd (not_all (out-CfgExpr c.args.other.now) _ (λ x is. c.in_default.not-All-1 x (sym (roll-out-CfgExpr c.args.other.now) ∙ is))
        (sym (ap cfg_view c.in_default.is-0 ∙ cfg_view-all c.in_default.field-0-0) ∙ (alike ∙ cfg_view-out c.args.other.now))),
  );
}

pub CfgExpr::same-returns-in_default-5 : goal.CfgExpr::same-returns-in_default-5
CfgExpr::same-returns-in_default-5 t c = record {
  value = (
    λ never. search rules,
    λ alike. absurd (not_any (out-CfgExpr c.args.other.now) _ (λ x is. c.in_default.not-Any-1 x (sym (roll-out-CfgExpr c.args.other.now) ∙ is))
        (sym (ap cfg_view c.in_default.is-0 ∙ cfg_view-any c.in_default.field-0-0) ∙ (alike ∙ cfg_view-out c.args.other.now))),
  );
}

pub CfgExpr::same-returns-in_default-6 : goal.CfgExpr::same-returns-in_default-6
CfgExpr::same-returns-in_default-6 t c = record {
  value = (
    λ never. search rules,
    λ alike. absurd (not_unless (out-CfgExpr c.args.other.now) _ (λ x is. c.in_default.not-Not-1 x (sym (roll-out-CfgExpr c.args.other.now) ∙ is))
        (sym (ap cfg_view c.in_default.is-0 ∙ cfg_view-not c.in_default.field-0-0) ∙ (alike ∙ cfg_view-out c.args.other.now))),
  );
}
