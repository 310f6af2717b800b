-- What a declaration that is listed leaves of a map.
use Rattle.std.specs.Prelude.{◌≡◌, ℕ, List, Option}
use Rattle.std.proofs.Common.{refl}
use Rattle.hir_scope.specs.HirIds.declared.ids.MapId.{MapId}
use Rattle.hir_scope.specs.Scope.{ScopeValue, binding_of}
use Rattle.hir_def_map_rules.specs.Ancestors.{frames_of}
use Rattle.hir_def_map_rules.specs.Declaration.{listed}
use Rattle.hir_def_map_rules.specs.Listed.{KeepsNames}
use Rattle.hir_def_map_rules.specs.State.{Map, ModuleValue, child_of, entry_of, parent_of, with_module_scope, with_scope}
use Rattle.hir_def_map_rules.specs.Overlay.{Maps, overlay}
use Rattle.hir_def_map_rules.specs.Types.{Declaration}
use Rattle.hir_def_map_rules.proofs.Grown.{kept, length-changed, frames_of-scope}
use Rattle.hir_def_map_rules.specs.declared.declaration.Declaration.TheVariants as declaration

-- no name comes to stand for anything else
pub binding_of-listed : (d : Declaration) (scope : ScopeValue) (name : List ℕ) → binding_of (listed d scope) name ≡ binding_of scope name
binding_of-listed (declaration.Def def) scope name = refl
binding_of-listed other scope name = refl

-- a change of one scope that leaves its names keeps the modules and their names
pub KeepsNames-scope : (map : Map) (at : ℕ) (change : ScopeValue → ScopeValue) → ((scope : ScopeValue) (name : List ℕ) → binding_of (change scope) name
    ≡ binding_of scope name)
    → KeepsNames map (with_scope map at change)
KeepsNames-scope map at change keeps =
    let on_module : ModuleValue → ModuleValue = with_module_scope change in
    record {
      id = refl;
      crate_data = refl;
      count = length-changed map.modules at on_module;
      entries = λ k name. kept (λ (o : Option ModuleValue). entry_of o name) map.modules at on_module (λ m. keeps m.scope name) k;
      children = λ k name. kept (λ (o : Option ModuleValue). child_of o name) map.modules at on_module (λ m. refl) k;
      parents = λ k. kept parent_of map.modules at on_module (λ m. refl) k;
    }

-- so does a declaration that is listed
pub KeepsNames-listed : (map : Map) (at : ℕ) (d : Declaration) → KeepsNames map (with_scope map at (listed d))
KeepsNames-listed map at d = KeepsNames-scope map at (listed d) (binding_of-listed d)

-- the same lies above each module
pub frames_of-listed : (finished : Maps) (map : Map) (at : ℕ) (d : Declaration) (id : MapId)
    → frames_of (overlay finished (with_scope map at (listed d))) id ≡ frames_of (overlay finished map) id
frames_of-listed finished map at d = frames_of-scope finished map at (listed d)
