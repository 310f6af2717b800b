-- What building leaves of what names stand for.
use Rattle.std.proofs.Common.{◌≡◌, ◌∙◌, refl, ℕ, zero, suc, ◌≤◌, ◌++◌, List, [], ◌∷◌, Option, None, Some, length, length-append, arith}
use Rattle.std.specs.Prelude.{slice_get}
use Rattle.hir_nameres.specs.HirIds.declared.ids.TraitId.{TraitId}
use Rattle.hir_nameres.specs.HirScope.Scope.{ScopeValue, binding_of}
use Rattle.hir_nameres.specs.HirScope.Scope.Reads.{unnamed_vis}
use Rattle.hir_nameres.proofs.HirDefMapRules.Grown.{kept, length-changed}
use Rattle.hir_nameres.specs.HirDefMapRules.Declaration.{listed}
use Rattle.hir_nameres.specs.HirDefMapRules.State.{ModuleValue, changed_at, entry_of, new_id, new_module, with_child, with_module_scope}
use Rattle.hir_nameres.specs.HirDefMapRules.declared.declaration.Declaration.{Declaration}
use Rattle.hir_nameres.specs.HirDefMapRules.declared.declaration.Declaration.TheVariants as declaration
use Rattle.hir_nameres.specs.declared.nameres.path_resolution.slots.Slot.TheVariants.{Module as of_module}
use Rattle.hir_def_map_laws.proofs.SlotChanges.{Grows-changed, changes-enum, changes-macro_use, changes-made}
use Rattle.hir_import_rules.specs.Names.{trait_vis}
use Rattle.hir_import_growth.specs.Growth.{EnumsGrowAround, ListsGrowAround, MacroUsesGrowAround, ModulesGrowAround, ScopesGrowAround}

-- one more value that is as good as none for a part of it
as_none : {A B : Type 0} (part : Option A → B) (xs : List A) (y : A) → part (Some y) ≡ part None → (k : ℕ) → part (slice_get (xs ++ y ∷ []) k)
    ≡ part (slice_get xs k)
as_none part [] y e zero = e
as_none part [] y e (suc k) = refl
as_none part (x ∷ xs) y e zero = refl
as_none part (x ∷ xs) y e (suc k) = as_none part xs y e k

bindings_listed : (d : Declaration) (scope : ScopeValue) (name : List ℕ) → binding_of (listed d scope) name ≡ binding_of scope name
bindings_listed (declaration.Def def) scope name = refl
bindings_listed other scope name = refl

traits_listed : (d : Declaration) (scope : ScopeValue) (id : TraitId) → unnamed_vis (listed d scope) id ≡ unnamed_vis scope id
traits_listed (declaration.Def def) scope id = refl
traits_listed other scope id = refl

pub modules_around : ModulesGrowAround
modules_around map at name origin visibility parent = record {
  grows = (changes-made map [] at name origin visibility parent).grows;
  modules = longer;
  entries = λ k other. ((changes-made map [] at name origin visibility parent).others (of_module k other) (λ e. absurd cc)).entries;
  traits = λ k id.
      as_none (λ (o : Option ModuleValue). trait_vis o id) (changed_at map.modules at (with_child name (new_id map))) (new_module origin visibility parent) refl
      k
      ∙ kept (λ (o : Option ModuleValue). trait_vis o id) map.modules at (with_child name (new_id map)) (λ m. refl) k;
}
  where
    longer : length map.modules ≤ length (changed_at map.modules at (with_child name (new_id map)) ++ new_module origin visibility parent ∷ [])
    longer =
        omega (
          arith,
          length-append (changed_at map.modules at (with_child name (new_id map))) (new_module origin visibility parent ∷ []),
          length-changed map.modules at (with_child name (new_id map)),
        )

pub scopes_around : ScopesGrowAround
scopes_around map at change bindings traits = record {
  grows = Grows-changed map at (with_module_scope change) (λ m. refl);
  modules = longer;
  entries = λ k name. kept (λ (o : Option ModuleValue). entry_of o name) map.modules at (with_module_scope change) (λ m. bindings m.scope name) k;
  traits = λ k id. kept (λ (o : Option ModuleValue). trait_vis o id) map.modules at (with_module_scope change) (λ m. traits m.scope id) k;
}
  where
    longer : length map.modules ≤ length (changed_at map.modules at (with_module_scope change))
    longer = omega (arith, length-changed map.modules at (with_module_scope change))

pub lists_around : ListsGrowAround
lists_around map at d = scopes_around map at (listed d) (bindings_listed d) (traits_listed d)

pub enums_around : EnumsGrowAround
enums_around map id variants known = record {
  grows = (changes-enum map [] id variants known).grows;
  modules = omega arith;
  entries = λ k other. refl;
  traits = λ k tr. refl;
}

pub macro_uses_around : MacroUsesGrowAround
macro_uses_around map name makro by = record {
  grows = (changes-macro_use map [] name makro by).grows;
  modules = omega arith;
  entries = λ k other. refl;
  traits = λ k id. refl;
}
