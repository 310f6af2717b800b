-- One module after another is recorded.
use Rattle.std.proofs.Common.{rules, ◌≡◌, ◌∙◌, ◌<◌, ◌≤◌, ◌+◌, ap, sym, refl, List, [], ◌∷◌, drop, length, arith}
use Rattle.std.specs.List.{list_any}
use Rattle.std.proofs.lemmas.List.{drop_all, drop_more}
use Rattle.hir_nameres.specs.HirIds.declared.ids.MapId.{MapId}
use Rattle.hir_def_map_rules.specs.Inner.ReferenceLists.{listed_in}
use Rattle.hir_def_map_rules.specs.References.{lies_in}
use Rattle.hir_def_map_rules.specs.State.{ModuleValue}
use Rattle.hir_def_map.proofs.Recorded.{recording-end, recording-start, recording-step}
use Rattle.hir_def_map.proofs.world.World.record_in_modules.Goals as goal

pub loop-module-init : goal.loop-module-init
loop-module-init c =
    recording-start c.args.self.now.maps c.args.recorded.now c.args.own c.args.covered.now
    (λ (id : MapId). list_any (listed_in (lies_in id)) c.args.modules.now)
    (λ (id : MapId). list_any (listed_in (lies_in id)) c.args.modules.now) (λ id. refl) c.requires.covered

pub loop-module-preserved : goal.loop-module-preserved
loop-module-preserved c =
    let ms : List ModuleValue = c.args.modules.now in
    let at = c.loop-module.module-index in
    let within : at < length ms = omega (arith, c.loop-module-test.true) in
    let taken : drop at ms ≡ c.module-item.result ∷ drop (at + 1) ms = drop_more ms at c.module-item.result within ∙ ap
    (λ (m : ModuleValue). m ∷ drop (at + 1) ms) (sym c.module-item.is) in
    recording-step c.args.self.now.maps c.args.recorded.now c.loop-module.recorded c.record_in.new.recorded c.args.own c.args.covered.now
    (λ (id : MapId). list_any (listed_in (lies_in id)) ms)
    (λ (id : MapId). list_any (listed_in (lies_in id)) (drop at ms)) (λ (id : MapId). listed_in (lies_in id) c.module-item.result)
    (λ (id : MapId). list_any (listed_in (lies_in id)) (drop (at + 1) ms))
    (λ id. ap (list_any (listed_in (lies_in id))) taken) c.loop-module.invariant c.in_ok-record_in.ensures.records

pub returns : goal.returns
returns c =
    let ms : List ModuleValue = c.args.modules.now in
    let at = c.loop-module.module-index in
    let past : length ms ≤ at = omega arith in
    record {
      records =
          recording-end c.args.self.now.maps c.args.recorded.now c.loop-module.recorded c.args.own c.args.covered.now
          (λ (id : MapId). list_any (listed_in (lies_in id)) ms)
          (λ (id : MapId). list_any (listed_in (lies_in id)) (drop at ms)) (λ id. ap (list_any (listed_in (lies_in id))) (drop_all at ms past))
          c.loop-module.invariant;
    }
