use Rattle.std.proofs.Common.{◌≡◌, true, false, refl}
use Rattle.serde_json.specs.Errors.{IsMemory}
use Rattle.hir_wire.proofs.LineLemmas.{data_of-some, data_of-none}
use Rattle.hir_wire.proofs.read.line.parse_line.Goals as goal

-- what was read of a text is its value
pub returns-in-Ok : goal.returns-in-Ok
returns-in-Ok c = record { value = data_of-some _ _ c.in-Ok.ensures.ok.0 c.in-Ok.ensures.ok.1 }

-- a text that was refused, and not for want of memory, has no value
pub returns-in-Err-2 : goal.returns-in-Err-2
returns-in-Err-2 c = record {
  value = λ _.
      let other = λ (m : IsMemory c.in-Err.refused). let never : false ≡ true = c.if-is_memory.ensures.1 m in absurd (cc) in
      (refl, data_of-none c.args.line.now (λ utf8. c.in-Err.ensures.err other utf8));
}
