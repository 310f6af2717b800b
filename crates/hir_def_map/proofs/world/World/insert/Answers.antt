-- What may join leaves the maps checked.
use Rattle.std.proofs.Common.{◌≡◌, ◌∙◌, ap, sym, refl, Bool, true, false, cond, Option, Some}
use Rattle.std.specs.Option.{option_map}
use Rattle.std.specs.BTreeMap.{get, is_at}
use Rattle.hir_nameres.specs.HirIds.contracts.ids.MapIdOrd.TheImpl as map_order
use Rattle.hir_def_map.specs.Types.{Finished}
use Rattle.hir_def_map.proofs.Entries.{absent_before}
use Rattle.hir_def_map.proofs.Joined.{insert_checked, joined_under}
use Rattle.hir_def_map.proofs.world.World.insert.Goals as goal

local_there : (f : Finished) (b : Bool) (o : Option Finished) → option_map (λ (x : Finished). x.local) (cond b (Some f) o)
    ≡ cond b (Some f.local) (option_map (λ (x : Finished). x.local) o)
local_there f true o = refl
local_there f false o = refl

pub add_with_room-requires : goal.add_with_room-requires
add_with_room-requires c = record {
  absent = absent_before c.args.self.now.maps c.args.map c.args.local (sym c.may_join.ensures.value ∙ c.if-not-may_join.false);
  indexed = c.args.self.now.indexed;
  room = c.args.self.now.room;
}

pub invariant_of-self : goal.invariant_of-self
invariant_of-self c =
    let f : Finished = record { map = c.args.map; local = c.args.local; holders = c.in-Ok.both.0; named = c.in-Ok.both.1 } in
    record {
      checked = insert_checked c.add_with_room.result c.args.self.now.maps c.add_with_room.new.maps f c.args.map.id refl
          (sym c.may_join.ensures.value ∙ c.if-not-may_join.false) c.in-Ok.ensures.holders c.in-Ok.ensures.named c.add_with_room.ensures.maps
          c.add_with_room.ensures.err
          c.args.self.now.checked;
      indexed = c.add_with_room.ensures.indexed;
      room = c.add_with_room.ensures.room;
    }

pub returns-in-Ok-add_with_room-clause-maps : goal.returns-in-Ok-add_with_room-clause-maps
returns-in-Ok-add_with_room-clause-maps c =
    let f : Finished = record { map = c.args.map; local = c.args.local; holders = c.in-Ok.both.0; named = c.in-Ok.both.1 } in
    joined_under c.args.self.now.maps c.add_with_room.new.maps f c.args.map.id refl
    (sym c.may_join.ensures.value ∙ c.if-not-may_join.false) c.in-Ok.ensures.holders c.in-Ok.ensures.named c.in-Ok-add_with_room.ensures.maps

pub returns-in-Ok-add_with_room-clause-locals : goal.returns-in-Ok-add_with_room-clause-locals
returns-in-Ok-add_with_room-clause-locals c =
    let f : Finished = record { map = c.args.map; local = c.args.local; holders = c.in-Ok.both.0; named = c.in-Ok.both.1 } in
    λ id. ap (option_map (λ (x : Finished). x.local)) (c.in-Ok-add_with_room.ensures.maps.0 id) ∙ local_there f (is_at (map_order.ghosts.cmp c.args.map.id) id)
    (get map_order.ghosts.cmp c.args.self.now.maps id)
