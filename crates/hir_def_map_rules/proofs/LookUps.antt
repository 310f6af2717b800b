-- What look-ups find in several maps.
use Rattle.std.proofs.Common.{◌≡◌, ◌∙◌, ap, refl, ℕ, Bool, true, false, List, Option, Some, None, cond}
use Rattle.std.specs.Option.{option_and_then, option_map}
use Rattle.hir_scope.specs.HirIds.declared.ids.EnumId.{EnumId}
use Rattle.hir_scope.specs.HirIds.declared.ids.MapId.{MapId}
use Rattle.hir_scope.specs.HirIds.declared.ids.ModuleId.{ModuleId}
use Rattle.hir_scope.specs.HirIds.contracts.ids.MapIdPartialEq.TheImpl as map_id
use Rattle.hir_scope.specs.HirPerNs.PerNs.{nothing}
use Rattle.hir_def_map_rules.specs.State.{Map, ModuleValue, Variants, at_name, entry_at, entry_of, module_at, numbered, parent_at, parent_of, variants_at}
use Rattle.hir_def_map_rules.specs.Overlay.{Maps, Placed, overlay, entry_in, holders_or, holders_under, map_in, module_in, parent_in, placed_in, variants_in}
use Rattle.hir_def_map_rules.specs.Ancestors.{frame_of, frames_of, head_of, holder_in, holders_of_frame, leads_to_root, own_frame, step_in, step_of, up_in}
use Rattle.hir_def_map_rules.specs.Scoping.FirstSegment.{legacy_of}
use Rattle.hir_def_map_rules.specs.Scoping.Segments.{variant_in}
use Rattle.hir_def_map_rules.specs.Types.{EnumVariant}

module _ (maps : Maps) where
  module-found : (m : ModuleId) (map : Map) → map_in maps m.map ≡ Some map → module_in maps m ≡ module_at map m.index
  module-found m map e = go (maps m.map) e
    where
      go : (o : Option Placed) → option_map (λ (p : Placed). p.map) o ≡ Some map → option_and_then (λ (p : Placed). module_at p.map m.index) o
          ≡ module_at map m.index
      go None f = absurd cc
      go (Some p) f = let same : p.map ≡ map = cc in ap (λ (x : Map). module_at x m.index) same

  module-none : (m : ModuleId) → map_in maps m.map ≡ None → module_in maps m ≡ None
  module-none m e = go (maps m.map) e
    where
      go : (o : Option Placed) → option_map (λ (p : Placed). p.map) o ≡ None → option_and_then (λ (p : Placed). module_at p.map m.index) o ≡ None
      go None f = refl
      go (Some p) f = absurd cc

  pub entry-found : (m : ModuleId) (name : List ℕ) (map : Map) → map_in maps m.map ≡ Some map → entry_in maps m name ≡ entry_at map m.index name
  entry-found m name map e = ap (λ (o : Option ModuleValue). entry_of o name) (module-found m map e)

  pub entry-none : (m : ModuleId) (name : List ℕ) → map_in maps m.map ≡ None → entry_in maps m name ≡ nothing
  entry-none m name e = ap (λ (o : Option ModuleValue). entry_of o name) (module-none m e)

  pub parent-found : (m : ModuleId) (map : Map) → map_in maps m.map ≡ Some map → parent_in maps m ≡ parent_at map m.index
  parent-found m map e = ap parent_of (module-found m map e)

  pub parent-none : (m : ModuleId) → map_in maps m.map ≡ None → parent_in maps m ≡ None
  parent-none m e = ap parent_of (module-none m e)

  variants-found : (id : EnumId) (map : Map) → map_in maps id.loc.container.map ≡ Some map → variants_in maps id ≡ variants_at map id
  variants-found id map e = go (maps id.loc.container.map) e
    where
      go : (o : Option Placed) → option_map (λ (p : Placed). p.map) o ≡ Some map → option_and_then (λ (p : Placed). variants_at p.map id) o ≡ variants_at map id
      go None f = absurd cc
      go (Some p) f = let same : p.map ≡ map = cc in ap (λ (x : Map). variants_at x id) same

  variants-none : (id : EnumId) → map_in maps id.loc.container.map ≡ None → variants_in maps id ≡ None
  variants-none id e = go (maps id.loc.container.map) e
    where
      go : (o : Option Placed) → option_map (λ (p : Placed). p.map) o ≡ None → option_and_then (λ (p : Placed). variants_at p.map id) o ≡ None
      go None f = refl
      go (Some p) f = absurd cc

  abbrev among : List ℕ → Option Variants → Option EnumVariant
  among name o = option_and_then (λ (vs : Variants). at_name vs name) o

  pub variant-found : (id : EnumId) (name : List ℕ) (map : Map) (vs : Variants) → map_in maps id.loc.container.map ≡ Some map → variants_at map id ≡ Some vs
      → variant_in maps id name ≡ at_name vs name
  variant-found id name map vs e f = ap (among name) (variants-found id map e ∙ f)

  pub variant-none : (id : EnumId) (name : List ℕ) (map : Map) → map_in maps id.loc.container.map ≡ Some map → variants_at map id ≡ None
      → variant_in maps id name ≡ None
  variant-none id name map e f = ap (among name) (variants-found id map e ∙ f)

  pub variant-no_map : (id : EnumId) (name : List ℕ) → map_in maps id.loc.container.map ≡ None → variant_in maps id name ≡ None
  variant-no_map id name e = ap (among name) (variants-none id e)

  pub legacy-found : (m : ModuleId) (name : List ℕ) (map : Map) → map_in maps m.map ≡ Some map → legacy_of (module_in maps m) name
      ≡ legacy_of (module_at map m.index) name
  legacy-found m name map e = ap (λ (o : Option ModuleValue). legacy_of o name) (module-found m map e)

  pub legacy-none : (m : ModuleId) (name : List ℕ) → map_in maps m.map ≡ None → legacy_of (module_in maps m) name ≡ None
  legacy-none m name e = ap (λ (o : Option ModuleValue). legacy_of o name) (module-none m e)

  up-found : (m : ModuleId) (map : Map) → map_in maps m.map ≡ Some map → up_in maps m ≡ option_map (numbered m.map) (step_in (own_frame map) m.index)
  unfolding frames_of leads_to_root
  up-found m map e = go (maps m.map) e
    where
      go : (o : Option Placed) → option_map (λ (p : Placed). p.map) o ≡ Some map
          → option_map (numbered m.map) (step_of (option_map frame_of o) m.index) ≡ option_map (numbered m.map) (step_in (own_frame map) m.index)
      go None f = absurd cc
      go (Some p) f = let same : p.map ≡ map = cc in ap (λ (x : Map). option_map (numbered m.map) (step_in (own_frame x) m.index)) same

  pub up-some : (m : ModuleId) (map : Map) (p : ℕ) → map_in maps m.map ≡ Some map → step_in (own_frame map) m.index ≡ Some p → up_in maps m
      ≡ Some (numbered m.map p)
  up-some m map p e f = up-found m map e ∙ ap (option_map (numbered m.map)) f

  pub up-stop : (m : ModuleId) (map : Map) → map_in maps m.map ≡ Some map → step_in (own_frame map) m.index ≡ None → up_in maps m ≡ None
  up-stop m map e f = up-found m map e ∙ ap (option_map (numbered m.map)) f

  pub up-none : (m : ModuleId) → map_in maps m.map ≡ None → up_in maps m ≡ None
  unfolding frames_of
  up-none m e = go (maps m.map) e
    where
      go : (o : Option Placed) → option_map (λ (p : Placed). p.map) o ≡ None → option_map (numbered m.map) (step_of (option_map frame_of o) m.index) ≡ None
      go None f = refl
      go (Some p) f = absurd cc

pub ruleset found =
    (entry-found, entry-none, parent-found, parent-none, variant-found, variant-none, variant-no_map, legacy-found, legacy-none, up-some, up-stop, up-none)

-- ---- finished maps, and one beside them

module _ (finished : Maps) (own : Map) where
  pub map-own : (id : MapId) → map_id.ghosts.eq id own.id ≡ true → map_in (overlay finished own) id ≡ Some own
  map-own id same = ap (λ (b : Bool). option_map (λ (p : Placed). p.map) (cond b (Some (placed_in finished own)) (finished id))) same

  pub map-other : (id : MapId) → map_id.ghosts.eq id own.id ≡ false → map_in (overlay finished own) id ≡ map_in finished id
  map-other id other = ap (λ (b : Bool). option_map (λ (p : Placed). p.map) (cond b (Some (placed_in finished own)) (finished id))) other

  pub holder-own : (m : ModuleId) → map_id.ghosts.eq m.map own.id ≡ true → holder_in (overlay finished own) m ≡ head_of (placed_in finished own).holders
  unfolding frames_of
  holder-own m same = ap (λ (b : Bool). head_of (holders_of_frame (option_map frame_of (cond b (Some (placed_in finished own)) (finished m.map))))) same

  pub holder-other : (m : ModuleId) → map_id.ghosts.eq m.map own.id ≡ false → holder_in (overlay finished own) m
      ≡ head_of (holders_of_frame (frames_of finished m.map))
  unfolding frames_of
  holder-other m other = ap (λ (b : Bool). head_of (holders_of_frame (option_map frame_of (cond b (Some (placed_in finished own)) (finished m.map))))) other

  -- where a map of its id is finished, it lies in the place of that
  pub placed-finished : (map : Map) → map_in finished own.id ≡ Some map → head_of (placed_in finished own).holders
      ≡ head_of (holders_of_frame (frames_of finished own.id))
  unfolding frames_of
  placed-finished map e = go (finished own.id) e
    where
      go : (o : Option Placed) → option_map (λ (p : Placed). p.map) o ≡ Some map → head_of (holders_or o (holders_under finished own.id own.holder))
          ≡ head_of (holders_of_frame (option_map frame_of o))
      go None f = absurd cc
      go (Some p) f = refl

  -- and elsewhere in its own
  pub placed-new : map_in finished own.id ≡ None → head_of (placed_in finished own).holders ≡ head_of (holders_under finished own.id own.holder)
  placed-new e = go (finished own.id) e
    where
      go : (o : Option Placed) → option_map (λ (p : Placed). p.map) o ≡ None → head_of (holders_or o (holders_under finished own.id own.holder))
          ≡ head_of (holders_under finished own.id own.holder)
      go None f = refl
      go (Some p) f = absurd cc

pub ruleset beside_found = (map-own, map-other, holder-own, holder-other, placed-finished, placed-new)
