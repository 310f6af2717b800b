-- No glob was recorded, and nothing was come upon.
use Rattle.std.proofs.Common.{◌≡◌, ◌∷◌, refl, ap}
use Rattle.hir_collector_rules.specs.HirGlobImports.Waves.{brought_of}
use Rattle.hir_collector_rules.specs.HirImportRules.State.{nothing_brought}
use Rattle.hir_collector_rules.specs.HirNameres.WorldParts.{part_of}
use Rattle.hir_collector_rules.specs.Start.{held_keys, root_key, root_map, with_own_prelude}
use Rattle.hir_collector_rules.specs.State.{core_in}
use Rattle.hir_collector_state.proofs.def_collector.DefCollector.start.Goals as goal

pub returns : goal.returns
unfolding core_in
returns c =
    let map : c.use_prelude_macros.new.map ≡ with_own_prelude (part_of c.args.world) (root_map c.args.crate_data c.args.start) c.args.local c.args.start =
    rw (
      c.in_ok-use_prelude_macros.ensures.ok,
      c.set_prelude.ensures.value,
      c.in_ok-found.ensures.value,
      c.in_ok-map.ensures.value,
      c.new-root.ensures.value,
      c.origin.ensures.value,
      c.visibility.ensures.value,
      c.block.ensures.value,
      c.krate.ensures.value,
    ) refl in
    let asked : c.in_ok-asked.asked.items ≡ root_key c.args.start c.args.tree ∷ held_keys c.args.start c.args.holders.now = c.in_ok-asked.ensures.value in
    let brought : brought_of c.new-2.result ≡ nothing_brought = ap (λ b. brought_of (record c.new-2.result { brought = b })) c.new-2.ensures.brought in
    record {
      value =
          λ i. record {
            map = map i;
            local = c.args.local;
            dependencies = c.args.dependencies.items;
            options = c.args.options;
            globs = record { names = c.new.ensures.value i; edges = c.new-2.ensures.edges i; brought = brought i };
            reached = c.new-3.ensures.items i;
            taken = c.new-4.ensures.items i;
            calls = c.new-5.ensures.items i;
            fates = c.new-6.ensures.items i;
            eager = c.new-7.ensures.items i;
            settled = 0;
            is_proc_macro = c.args.is_proc_macro;
            exported = c.new-8.ensures.items i;
            asked = asked i;
            count = 0;
          };
    }
