-- What is left out is covered, and what is inserted is so by itself.
use Rattle.std.proofs.Common.{◌∙◌, sym}
use Rattle.hir_def_map.proofs.Recorded.{ok-map, records-inserted, records-left_out}
use Rattle.hir_def_map.proofs.world.World.record_id.Goals as goal

pub returns-then-is_left_out : goal.returns-then-is_left_out
returns-then-is_left_out c = record {
  records =
      records-left_out c.args.self.now.maps c.args.recorded.now c.args.own c.args.id c.args.covered.now
      (sym c.is_left_out.ensures.value ∙ c.if-is_left_out.true) c.requires.covered;
}

pub returns : goal.returns
returns c = record {
  records = ok-map c.insert_id.result
      (records-inserted c.args.self.now.maps c.args.recorded.now c.insert_id.new.ids c.args.own c.args.id c.args.covered.now
      (sym c.is_left_out.ensures.value ∙ c.if-is_left_out.false))
      c.insert_id.ensures.ok;
}
