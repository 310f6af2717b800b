-- A file has it where the crate lists the file, a block and an expansion where it is stored under the crate.
use Rattle.std.proofs.Common.{refl, subst, sym}
use Rattle.hir_session_sources.specs.LoweredTrees.{kept_place}
use Rattle.hir_session_sources.specs.declared.source_trees.lowering.KeptPlace.{KeptPlace}
use Rattle.hir_session_sources.proofs.Replaced.{IsPut, block_is_put, expansion_is_put, file_is_put}
use Rattle.hir_session_sources.proofs.source_trees.lowering.put.Goals as goal

pub returns-in-File : goal.returns-in-File
returns-in-File c =
    let new = record c.args.trees.now { by_path = c.put_tree.new.files } in
    record {
      value = subst (λ (at : KeptPlace). IsPut c.args.trees.now new c.args.krate c.args.lowered.tree (kept_place at)) (sym c.in-File.is)
          (file_is_put c.args.trees.now new c.args.krate c.args.lowered.tree c.in-File.path refl (λ k. refl) (λ k. refl) c.put_tree.ensures.value);
    }

pub returns-in-Block : goal.returns-in-Block
returns-in-Block c =
    let new = record c.args.trees.now { by_block = c.put_under.new.stored } in
    record {
      value = subst (λ (at : KeptPlace). IsPut c.args.trees.now new c.args.krate c.args.lowered.tree (kept_place at)) (sym c.in-Block.is)
          (block_is_put c.args.trees.now new c.args.krate c.args.lowered.tree c.in-Block.place (λ j k. refl) (λ k. refl) c.put_under.ensures.value);
    }

pub returns-in-Expansion : goal.returns-in-Expansion
returns-in-Expansion c =
    let new = record c.args.trees.now { by_key = c.put_under-in-Expansion.new.stored } in
    record {
      value = subst (λ (at : KeptPlace). IsPut c.args.trees.now new c.args.krate c.args.lowered.tree (kept_place at)) (sym c.in-Expansion.is)
          (expansion_is_put c.args.trees.now new c.args.krate c.args.lowered.tree c.in-Expansion.key (λ j k. refl) (λ k. refl)
          c.put_under-in-Expansion.ensures.value);
    }
