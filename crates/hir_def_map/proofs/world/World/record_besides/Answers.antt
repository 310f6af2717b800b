-- One reference after another is recorded.
use Rattle.std.proofs.Common.{rules, ◌≡◌, ap, refl, [], ◌∷◌}
use Rattle.std.specs.List.{list_any}
use Rattle.hir_nameres.specs.HirIds.declared.ids.MapId.{MapId}
use Rattle.hir_def_map_rules.specs.References.{lies_in, test_of}
use Rattle.hir_def_map.proofs.Recorded.{records-along, recording-end, recording-start, recording-step}
use Rattle.hir_def_map.proofs.world.World.record_besides.Goals as goal

pub next-init : goal.next-init
next-init c =
    recording-start c.args.self.now.maps c.args.recorded.now c.args.own c.args.covered.now (λ (id : MapId). list_any (test_of (lies_in id)) c.of-left.result)
    (λ (id : MapId). list_any (test_of (lies_in id)) c.of-left.result) (λ id. refl) c.requires.covered

pub next-preserved : goal.next-preserved
next-preserved c =
    let taken : c.next.left ≡ c.in-Some.reference ∷ c.next-in-next.new.self = search rules in
    recording-step c.args.self.now.maps c.args.recorded.now c.next.recorded c.record.new.recorded c.args.own c.args.covered.now
    (λ (id : MapId). list_any (test_of (lies_in id)) c.of-left.result)
    (λ (id : MapId). list_any (test_of (lies_in id)) c.next.left) (λ (id : MapId). test_of (lies_in id) c.in-Some.reference)
    (λ (id : MapId). list_any (test_of (lies_in id)) c.next-in-next.new.self)
    (λ id. ap (list_any (test_of (lies_in id))) taken) c.next.invariant c.in_ok-record.ensures.records

pub returns : goal.returns
returns c =
    let none : c.next.left ≡ [] = search rules in
    record {
      records =
          records-along c.args.self.now.maps c.args.recorded.now c.next.recorded c.args.own (λ (id : MapId). list_any (test_of (lies_in id)) c.of-left.result) _
          (λ id. ap (list_any (test_of (lies_in id))) c.of-left.ensures.value)
          (recording-end c.args.self.now.maps c.args.recorded.now c.next.recorded c.args.own c.args.covered.now
          (λ (id : MapId). list_any (test_of (lies_in id)) c.of-left.result)
          (λ (id : MapId). list_any (test_of (lies_in id)) c.next.left) (λ id. ap (list_any (test_of (lies_in id))) none) c.next.invariant);
    }
