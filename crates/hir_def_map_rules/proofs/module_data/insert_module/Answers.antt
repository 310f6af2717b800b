-- The parent stands before the new module, so the write changes it there and leaves the new one behind.
use Rattle.std.proofs.Common.{◌≡◌, ◌∙◌, ap, rules, ◌++◌, [], ◌∷◌, List}
use Rattle.hir_def_map_rules.specs.State.{ModuleValue, with_child, changed_at}
use Rattle.hir_def_map_rules.proofs.Modules.{changed_at-write, changed_at-append}
use Rattle.hir_def_map_rules.proofs.module_data.insert_module.Goals as goal

pub returns-in-Ok-clause-ok : goal.returns-in-Ok-clause-ok
returns-in-Ok-clause-ok c =
    let longer : c.push.new.self.items ≡ c.args.modules.now.items ++ c.args.«module» ∷ [] = search rules in
    changed_at-write c.push.new.self.items c.args.parent (with_child c.args.name c.args.id) c.index_mut.result.now c.add_child.new.self (search rules)
    c.index_mut.ensures.value (search rules)
    ∙ ap (λ (ms : List ModuleValue). changed_at ms c.args.parent (with_child c.args.name c.args.id)) longer
    ∙ changed_at-append c.args.modules.now.items (c.args.«module» ∷ []) c.args.parent (with_child c.args.name c.args.id) c.requires.in_range
