-- One step up, where a parent leads to a root or comes before.
use Rattle.std.proofs.Common.{◌≡◌, ◌∙◌, ap, sym, refl, ℕ, ◌<◌, Bool, true, false, ◌||◌, cond, nat_lt, Option, None, Some, arith}
use Rattle.std.proofs.lemmas.Grind.{common_steps}
use Rattle.std.specs.Option.{option_and_then, option_map}
use Rattle.hir_nameres.specs.HirIds.declared.ids.MapId.{MapId}
use Rattle.hir_nameres.specs.HirIds.declared.ids.ModuleId.{ModuleId}
use Rattle.hir_nameres.specs.HirIds.contracts.ids.MapIdPartialEq.TheImpl as map_id
use Rattle.hir_nameres.specs.HirDefMapRules.Inner.OverlayLaws.{exact_map, same_id}
use Rattle.hir_nameres.proofs.HirDefMapRules.WellFormed.{parent_listed}
use Rattle.hir_nameres.specs.HirDefMapRules.State.{Map, ModuleValue, module_at, numbered, parent_of, IsBefore, IsInOrder}
use Rattle.hir_nameres.specs.HirDefMapRules.Overlay.{Maps, Placed, alone, no_maps, parent_in, placed_in}
use Rattle.hir_nameres.specs.HirDefMapRules.Ancestors.{Frame, frame_of, frames_of, leads_to_root, number_in, step_in, step_of, step_to, up_in}

-- a step is one to the number of the parent
pub step_listed : (placed : Placed) (at : ℕ) → step_in (frame_of placed) at ≡ step_to (frame_of placed) at
    (number_in placed.map.id (parent_of (module_at placed.map at)))
step_listed placed at = ap (λ (o : Option ModuleId). step_to (frame_of placed) at (number_in placed.map.id o)) (parent_listed placed.map.modules at)

-- the number of a parent that is a module of the map
pub number_there : (id : MapId) (p : ModuleId) → p.map ≡ id → number_in id (Some p) ≡ Some p.index
number_there id p e = ap (λ (b : Bool). cond b (Some p.index) None) (ap (map_id.ghosts.eq p.map) (sym e) ∙ same_id p.map)

or-true : (b : Bool) → (b || true) ≡ true
or-true true = refl
or-true false = refl

pub step-rooted : (maps : Maps) (m p : ModuleId) (placed : Placed)
    → maps m.map ≡ Some placed → placed.map.id ≡ m.map → leads_to_root (frame_of placed) m.index ≡ true
    → parent_in maps m ≡ Some p → p.map ≡ m.map → up_in maps m ≡ Some p
unfolding frames_of
step-rooted maps m p placed there named leads is_parent same_map =
    let frame : Frame = frame_of placed in
    let found : parent_of (module_at placed.map m.index)
    ≡ Some p = ap (λ (o : Option Placed). parent_of (option_and_then (λ (x : Placed). module_at x.map m.index) o)) (sym there) ∙ is_parent in
    let number : number_in placed.map.id (parent_of (module_at placed.map m.index)) ≡ Some p.index = ap (number_in placed.map.id) found ∙ number_there
    placed.map.id p (same_map ∙ sym named) in
    let step : step_in frame m.index ≡ Some p.index =
    step_listed placed m.index ∙ ap (step_to frame m.index) number
    ∙ ap (λ (b : Bool). cond (nat_lt p.index m.index || b) (Some p.index) None) leads ∙ ap (λ (b : Bool). cond b (Some p.index) None)
    (or-true (nat_lt p.index m.index)) in
    ap (λ (o : Option Placed). option_map (numbered m.map) (step_of (option_map frame_of o) m.index)) there
    ∙ ap (option_map (numbered m.map)) step
    ∙ ap (λ (id : MapId). Some (numbered id p.index)) (sym same_map)

-- what comes before is where the step goes
step-before : (frame : Frame) (id : MapId) (at : ℕ) (k : MapId) → k ≡ id → (o : Option ModuleId) → IsBefore id at o
    → option_map (numbered k) (step_to frame at (number_in id o)) ≡ o
step-before frame id at k e None before = refl
step-before frame id at k e (Some p) before =
    let lower : p.index < at = before.1 in
    let less : nat_lt p.index at ≡ true = grind (arith, common_steps) in
    ap (λ (n : Option ℕ). option_map (numbered k) (step_to frame at n)) (number_there id p before.0)
    ∙ ap (λ (b : Bool). option_map (numbered k) (cond (b || leads_to_root frame at) (Some p.index) None)) less
    ∙ ap (λ (x : MapId). Some (numbered x p.index)) (e ∙ sym before.0)

pub step-in_order : (map : Map) → IsInOrder map → (m : ModuleId) → up_in (alone map) m ≡ parent_in (alone map) m
unfolding frames_of
step-in_order map in_order m = go (map_id.ghosts.eq m.map map.id) refl
  where
    before : (o : Option ModuleValue) → module_at map m.index ≡ o → IsBefore map.id m.index (parent_of o)
    before None e = tt
    before (Some v) e = in_order m.index v e

    go : (b : Bool) → map_id.ghosts.eq m.map map.id ≡ b
        → option_map (numbered m.map) (step_of (option_map frame_of (cond b (Some (placed_in no_maps map)) None)) m.index)
        ≡ parent_of (option_and_then (λ (x : Placed). module_at x.map m.index) (cond b (Some (placed_in no_maps map)) None))
    go true e =
        ap (option_map (numbered m.map)) (step_listed (placed_in no_maps map) m.index)
        ∙ step-before (frame_of (placed_in no_maps map)) map.id m.index m.map (exact_map m.map map.id e) (parent_of (module_at map m.index))
        (before (module_at map m.index) refl)
    go false e = refl
