use Rattle.std.proofs.Common.{◌≡◌, ◌++◌, drop, map}
use Rattle.hir_collector_state.specs.HirIds.declared.macro_kind.MacroId.{MacroId}
use Rattle.hir_collector_state.specs.HirNameres.WorldParts.{part_of}
use Rattle.hir_collector_state.specs.HirCollectorRules.Calls.{called_text, text_by}
use Rattle.hir_collector_state.specs.HirCollectorRules.Keys.{text_at}
use Rattle.hir_collector_state.specs.HirCollectorRules.State.{core_in}
use Rattle.hir_call_expansion.proofs.expansion.texts_of.Given as goal

-- with those that are left, all have their texts
abbrev pub invariant-loop-makro : goal.invariant-loop-makro
invariant-loop-makro g l =
    let w = g.D.SourceDatabase.workspace l.initial.db in
    record {
      same : g.D.SourceDatabase.workspace l.db ≡ w;
      texts : l.texts.items ++ map (λ (makro : MacroId). text_by (record {
        makro = makro;
        text = called_text (part_of l.world) (core_in l.run).map makro (text_at l.locations w makro);
      })) (drop l.makro-index l.macros)
          ≡ map (λ (makro : MacroId). text_by (record {
            makro = makro;
            text = called_text (part_of l.world) (core_in l.run).map makro (text_at l.locations w makro);
          })) l.macros;
    }
