use Rattle.std.proofs.Common.{rules, ◌≡◌, ◌∙◌, Option, Some, option_map, inl, refl, sym, ap}
use Rattle.hir_collector_state.specs.HirBase.Cfg.{cfg_view}
use Rattle.hir_collector_state.specs.HirIds.declared.ast_id.AstKind.TheVariants as nodes
use Rattle.hir_collector_state.specs.HirBase.declared.cfg.CfgExpr.{CfgExpr}
use Rattle.hir_collector_state.specs.HirItemTree.Collected.{Collected}
use Rattle.hir_collector_state.specs.HirItemTree.ItemTree.{Tree}
use Rattle.hir_collector_state.specs.HirItemTree.SourceTree.{SourceTreeValue}
use Rattle.hir_collector_state.specs.HirMapParts.declared.diagnostics.DefDiagnosticKind.TheVariants as kinds
use Rattle.hir_collector_state.specs.HirCollectorRules.ItemIds.{module_id, node_of}
use Rattle.hir_collector_state.specs.HirCollectorRules.Moves.{may_drop}
use Rattle.hir_collector_state.specs.HirCollectorRules.State.{core_in}
use Rattle.hir_mod_resolution.proofs.modules.take_file.Goals as goal

pub returns-in_err-drop_file-clause-many : goal.returns-in_err-drop_file-clause-many
returns-in_err-drop_file-clause-many c = λ h.
    let off : c.args.file.source.value.tree.attributes.disabled ≡ Some (cfg_view c.in-Some.cfg) =
    ap (λ (s : SourceTreeValue). s.tree.attributes.disabled) (sym c.deref.ensures)
    ∙ ap (λ (t : Tree). t.attributes.disabled) (sym c.tree.ensures.value)
    ∙ ap (λ (a : Collected). a.disabled) (sym c.top_level_attrs.ensures.value)
    ∙ ap (λ (o : Option CfgExpr). option_map cfg_view o) c.in-Some.is in (
      inl (c.in_err-drop_file.ensures.many (search rules)),
      may_drop (cfg_view c.in-Some.cfg)
          (record {
            in_module = module_id (core_in c.args.run.now).map c.args.site.now.home;
            kind = kinds.UnconfiguredCode (node_of c.args.site.now.tree nodes.Module c.args.head.id) c.in-Some.cfg (core_in c.args.run.now).options;
          }) off
          (record { cfg = c.in-Some.cfg; is = refl; says = refl }),
    )
