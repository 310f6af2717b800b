-- A list of a scope that grows leaves the modules numbered.
use Rattle.std.proofs.Common.{List}
use Rattle.hir_def_map_rules.specs.Declaration.{listed}
use Rattle.hir_def_map_rules.specs.State.{ModuleValue, IsNumbered, changed_at, with_module_scope}
use Rattle.hir_def_map_rules.proofs.Modules.{IsNumbered-changed_at, either_way}
use Rattle.hir_nameres.proofs.nameres.DefMap.list.Goals as goal

pub invariant_of-self : goal.invariant_of-self
invariant_of-self c =
    let numbered : List ModuleValue → Type 0 = λ ms. IsNumbered ms in
    let change : ModuleValue → ModuleValue = with_module_scope (listed c.args.declaration) in
    either_way numbered c.list.result c.list.new.self.modules c.self.inside.modules.modules
    (changed_at c.self.inside.modules.modules c.args.at change)
    c.list.ensures.ok c.list.ensures.err c.self.invariant
    (IsNumbered-changed_at c.self.inside.modules.modules c.args.at change c.self.invariant)
