-- What look-ups find in a map among several.
use Rattle.std.proofs.Common.{◌≡◌, ◌∙◌, ap, refl, ℕ, Option, None, Some}
use Rattle.std.specs.Option.{option_and_then, option_map}
use Rattle.hir_nameres.specs.HirIds.declared.ids.EnumId.{EnumId}
use Rattle.hir_nameres.specs.HirIds.declared.ids.ModuleId.{ModuleId}
use Rattle.hir_nameres.specs.HirIds.declared.ids.TraitId.{TraitId}
use Rattle.hir_nameres.specs.HirScope.Scope.{ScopeValue}
use Rattle.hir_def_map_rules.specs.Overlay.{Maps, Placed, map_in, module_in, variants_in}
use Rattle.hir_def_map_rules.specs.State.{Map, ModuleValue, module_at, scope_at, variants_at}
use Rattle.hir_glob_imports.specs.declared.edge.Key.{Key}
use Rattle.hir_glob_imports.specs.declared.edge.Key.TheVariants.{Types, Values, Macros, Unnamed}
use Rattle.hir_import_resolution.specs.KeyLists.{scope_in}
use Rattle.hir_import_rules.specs.Names.{trait_vis}
use Rattle.hir_import_rules.specs.ScopeLaws.{bound_scope}
use Rattle.hir_import_growth.specs.ViewLaws.{bound_inside, inside_scope}

module _ (maps : Maps) where
  module-found : (m : ModuleId) (map : Map) → map_in maps m.map ≡ Some map → module_in maps m ≡ module_at map m.index
  module-found m map e = go (maps m.map) e
    where
      go : (o : Option Placed) → option_map (λ (p : Placed). p.map) o ≡ Some map → option_and_then (λ (p : Placed). module_at p.map m.index) o
          ≡ module_at map m.index
      go None f = absurd cc
      go (Some p) f = let same : p.map ≡ map = cc in ap (λ (x : Map). module_at x m.index) same

  module-none : (m : ModuleId) → map_in maps m.map ≡ None → module_in maps m ≡ None
  module-none m e = go (maps m.map) e
    where
      go : (o : Option Placed) → option_map (λ (p : Placed). p.map) o ≡ None → option_and_then (λ (p : Placed). module_at p.map m.index) o ≡ None
      go None f = refl
      go (Some p) f = absurd cc

  pub trait-found : (m : ModuleId) (id : TraitId) (map : Map) → map_in maps m.map ≡ Some map → trait_vis (module_in maps m) id
      ≡ trait_vis (module_at map m.index) id
  trait-found m id map e = ap (λ (o : Option ModuleValue). trait_vis o id) (module-found m map e)

  pub trait-none : (m : ModuleId) (id : TraitId) → map_in maps m.map ≡ None → trait_vis (module_in maps m) id ≡ None
  trait-none m id e = ap (λ (o : Option ModuleValue). trait_vis o id) (module-none m e)

  pub scope-found : (m : ModuleId) (map : Map) → map_in maps m.map ≡ Some map → scope_in maps m ≡ scope_at map m.index
  scope-found m map e = ap (λ (o : Option ModuleValue). option_map (λ (x : ModuleValue). x.scope) o) (module-found m map e)

  pub scope-none : (m : ModuleId) → map_in maps m.map ≡ None → scope_in maps m ≡ None
  scope-none m e = ap (λ (o : Option ModuleValue). option_map (λ (x : ModuleValue). x.scope) o) (module-none m e)

  pub variants-found : (id : EnumId) (map : Map) → map_in maps id.loc.container.map ≡ Some map → variants_in maps id ≡ variants_at map id
  variants-found id map e = go (maps id.loc.container.map) e
    where
      go : (o : Option Placed) → option_map (λ (p : Placed). p.map) o ≡ Some map → option_and_then (λ (p : Placed). variants_at p.map id) o ≡ variants_at map id
      go None f = absurd cc
      go (Some p) f = let same : p.map ≡ map = cc in ap (λ (x : Map). variants_at x id) same

  pub variants-none : (id : EnumId) → map_in maps id.loc.container.map ≡ None → variants_in maps id ≡ None
  variants-none id e = go (maps id.loc.container.map) e
    where
      go : (o : Option Placed) → option_map (λ (p : Placed). p.map) o ≡ None → option_and_then (λ (p : Placed). variants_at p.map id) o ≡ None
      go None f = refl
      go (Some p) f = absurd cc

pub ruleset found = (trait-found, trait-none, scope-found, scope-none, variants-found, variants-none)

-- what stands at a key of a module, by its scope
module _ (map : Map) (at : ℕ) (key : Key) where
  pub bound-scope : (scope : ScopeValue) → scope_at map at ≡ Some scope → bound_inside key (module_at map at) ≡ bound_scope scope key
  bound-scope scope e = go (module_at map at) e
    where
      go : (o : Option ModuleValue) → option_map (λ (m : ModuleValue). m.scope) o ≡ Some scope → bound_inside key o ≡ bound_scope scope key
      go None f = absurd cc
      go (Some m) f = let same : m.scope ≡ scope = cc in inside_scope m key ∙ ap (λ (x : ScopeValue). bound_scope x key) same

  pub bound-no_scope : scope_at map at ≡ None → bound_inside key (module_at map at) ≡ None
  bound-no_scope e = go (module_at map at) e
    where
      vacant : (k : Key) → bound_inside k None ≡ None
      vacant (Types name) = refl
      vacant other = refl

      go : (o : Option ModuleValue) → option_map (λ (m : ModuleValue). m.scope) o ≡ None → bound_inside key o ≡ None
      go None f = vacant key
      go (Some m) f = absurd cc

pub ruleset scoped = (bound-scope, bound-no_scope)
