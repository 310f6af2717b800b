-- One more module leaves the modules numbered.
use Rattle.std.proofs.Common.{◌≡◌, ap, sym, arith, length, ◌<◌, ◌≤◌, ℕ, Bool, true, false, cond, nat_lt, refl, inr}
use Rattle.std.specs.Prelude.{Ok, Err}
use Rattle.std.proofs.lemmas.Bool.{ltb-true}
use Rattle.hir_def_map_rules.specs.State.{Map, new_id}
use Rattle.hir_def_map_rules.specs.HirMapParts.declared.add_module_error.AddModuleError.TheVariants as refusals
use Rattle.hir_def_map_rules.proofs.Modules.{IsNumbered-inserted}
use Rattle.hir_nameres.proofs.nameres.DefMap.add_module.Goals as goal

pub invariant_of-self : goal.invariant_of-self
invariant_of-self c =
    let others = c.self.inside.modules.modules in
    let same : length c.args.self.now.modules ≡ length others = ap (λ (m : Map). length m.modules) (sym c.self.view_is) in
    let in_range : c.args.parent < length c.args.self.now.modules = c.requires.in_range in
    IsNumbered-inserted c.insert.result others c.insert.new.self.modules c.args.parent c.args.name (record { map = c.id.result; index = c.len-count.result })
    c.args.module_data
    (omega arith) c.insert.ensures.ok c.insert.ensures.err c.self.invariant

pub invariant_of-self-2 : goal.invariant_of-self-2
invariant_of-self-2 c =
    let others = c.self.inside.modules.modules in
    let same : length c.args.self.now.modules ≡ length others = ap (λ (m : Map). length m.modules) (sym c.self.view_is) in
    let in_range : c.args.parent < length c.args.self.now.modules = c.requires.in_range in
    IsNumbered-inserted c.insert.result others c.insert.new.self.modules c.args.parent c.args.name (record { map = c.id.result; index = c.len-count.result })
    c.args.module_data
    (omega arith) c.insert.ensures.ok c.insert.ensures.err c.self.invariant

not_below : (n : ℕ) → 2147483647 ≤ n → nat_lt n 2147483647 ≡ false
not_below n h = go (nat_lt n 2147483647) refl
  where
    go : (b : Bool) → nat_lt n 2147483647 ≡ b → b ≡ false
    go true e = absurd (omega (arith, h, ltb-true n 2147483647 e))
    go false e = refl

pub returns-then-count-ge-MAX_MODULES-clause-answer : goal.returns-then-count-ge-MAX_MODULES-clause-answer
returns-then-count-ge-MAX_MODULES-clause-answer c =
    let same : length c.args.self.now.modules ≡ length c.self.inside.modules.modules = ap (λ (m : Map). length m.modules) (sym c.self.view_is) in
    let many : 2147483647 ≤ length c.args.self.now.modules = omega arith in
    inr (ap (λ (b : Bool). cond b (Ok (new_id c.args.self.now)) (Err refusals.TooMany)) (not_below (length c.args.self.now.modules) many))
