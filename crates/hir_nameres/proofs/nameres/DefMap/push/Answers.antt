-- A push leaves the modules numbered.
use Rattle.std.proofs.Common.{List}
use Rattle.hir_def_map_rules.specs.HirScope.Globs.{Place}
use Rattle.hir_def_map_rules.specs.State.{ModuleValue, IsNumbered, changed_at, place_at, pushed_module}
use Rattle.hir_def_map_rules.proofs.Modules.{IsNumbered-changed_at, either_way}
use Rattle.hir_nameres.proofs.nameres.DefMap.push.Goals as goal

pub invariant_of-self : goal.invariant_of-self
invariant_of-self c =
    let numbered : List ModuleValue → Type 0 = λ ms. IsNumbered ms in
    let place : Place = place_at c.id.result c.args.at c.args.name in
    let change : ModuleValue → ModuleValue = pushed_module c.args.glob_imports.now place c.args.items c.args.import in
    either_way numbered c.push.result c.push.new.self.modules c.self.inside.modules.modules
    (changed_at c.self.inside.modules.modules c.args.at change)
    c.push.ensures.ok c.push.ensures.err c.self.invariant
    (IsNumbered-changed_at c.self.inside.modules.modules c.args.at change c.self.invariant)
