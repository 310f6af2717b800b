-- What a map names is there, among finished maps and among a part of them.
use Rattle.std.specs.Prelude.{◌≡◌, Bool, true, false, not, is_some, Option, None, Some, List, cond, option_and_then}
use Rattle.std.specs.Cmp.{first_so, second_so}
use Rattle.std.specs.BTreeMap.{is_at}
use Rattle.std.proofs.Common.{ap, refl, sym, ◌∙◌}
use mathlib.Core.Bool.{true≢false}
use Rattle.hir_nameres.specs.HirIds.declared.ids.Crate.{Crate}
use Rattle.hir_nameres.specs.HirIds.declared.ids.MapId.{MapId}
use Rattle.hir_nameres.specs.HirIds.declared.ids.ModuleId.{ModuleId}
use Rattle.hir_nameres.specs.HirIds.contracts.ids.MapIdOrd.TheImpl as map_order
use Rattle.hir_nameres.specs.HirIds.contracts.ids.MapIdPartialEq.TheImpl as map_id
use Rattle.hir_def_map_rules.specs.declared.reference.Reference.{Reference}
use Rattle.hir_def_map_rules.specs.declared.reference.Reference.TheVariants as named
use Rattle.hir_nameres.specs.WorldParts.{among}
use Rattle.hir_nameres.specs.Inner.PartLaws.{among-only}
use Rattle.hir_def_map_rules.specs.Inner.OverlayLaws.{exact_map}
use Rattle.hir_nameres.specs.HirPerNs.ModuleTree.{same_crate}
use Rattle.hir_def_map_rules.specs.WellFormed.{HasNoDanglingExtern, Extends, HasNoDanglingReference, is_held_outside}
use Rattle.hir_def_map_rules.specs.References.{is_well_formed, is_holder_for, is_missing, is_there, lies_in, map_of_reference, refers_to, any_reference}
use Rattle.hir_def_map_rules.specs.State.{Local, Map, module_at, variants_at}
use Rattle.hir_def_map_rules.specs.Overlay.{Maps, Placed, overlay, module_in, placed_in}
use Rattle.hir_def_map_rules.proofs.WellFormed.{HasNoDanglingExtern-more, HasNoDanglingReference-more, complete}
use Rattle.hir_def_map.proofs.Joined.{finds_some, nothing_missing, own_id, same_id, there_in}

-- where nothing is missing that a map names, each map is there in which something lies that it names
pub named_there : (maps : Maps) (map : Map) (local : Local) → any_reference (is_missing maps) map local ≡ false
    → (id : MapId) → any_reference (lies_in id) map local ≡ true → is_some (maps id) ≡ true
named_there maps map local none id e =
    let h = finds_some map local (lies_in id) e in
    ap (λ (x : MapId). is_some (maps x)) (sym (same_id (map_of_reference h.0) id h.1)) ∙ there_in maps h.0 (go h.0 h.2 (is_there maps h.0) refl)
  where
    go : (n : Reference) → ((other : Reference → Bool) → other n ≡ true → any_reference other map local ≡ true) → (b : Bool) → is_there maps n ≡ b
        → is_there maps n ≡ true
    go n named true t = t
    go n named false t = absurd (true≢false (sym (named (is_missing maps) (ap not t)) ∙ none))

-- each other map that a complete map names is finished
pub names_finished : (finished : Maps) (map : Map) (local : Local) → is_well_formed finished map local ≡ true
    → (id : MapId) → refers_to map local id ≡ true → is_some (finished id) ≡ true
names_finished finished map local whole id e = go (map_id.ghosts.eq id map.id) refl
    (named_there (overlay finished map) map local (nothing_missing finished map local whole) id
    (second_so (not (is_at (map_order.ghosts.cmp map.id) id)) (any_reference (lies_in id) map local) e))
  where
    another : not (is_at (map_order.ghosts.cmp map.id) id) ≡ true
    another = first_so (not (is_at (map_order.ghosts.cmp map.id) id)) (any_reference (lies_in id) map local) e

    go : (b : Bool) → map_id.ghosts.eq id map.id ≡ b → is_some (cond b (Some (placed_in finished map)) (finished id)) ≡ true → is_some (finished id) ≡ true
    go true s f =
        let own : is_at (map_order.ghosts.cmp map.id) id ≡ true = ap (is_at (map_order.ghosts.cmp map.id)) (exact_map id map.id s) ∙ own_id map.id in
        absurd (true≢false (sym another ∙ ap not own))
    go false s f = f

module _ (crates : List Crate) (holders : List ModuleId) (finished : Maps) where
  found : {A : Type 0} (part : Placed → Option A) (id : MapId) → is_some (option_and_then part (among crates holders finished id)) ≡ true
      → is_some (option_and_then part (finished id)) ≡ true
  found part id e = go (among crates holders finished id) refl e
    where
      go : (o : Option Placed) → among crates holders finished id ≡ o → is_some (option_and_then part o) ≡ true → is_some (option_and_then part (finished id))
          ≡ true
      go None s f = absurd (true≢false (sym f))
      go (Some p) s f = ap (λ (x : Option Placed). is_some (option_and_then part x)) (among-only crates holders finished id p s).1 ∙ f

  -- what is there in a part is there
  pub Extends-among : Extends (among crates holders finished) finished
  Extends-among (named.Module m) e = found (λ (p : Placed). module_at p.map m.index) m.map e
  Extends-among (named.Enum n) e = found (λ (p : Placed). variants_at p.map n) n.loc.container.map e
  Extends-among (named.Map id) e = go (among crates holders finished id) refl e
    where
      go : (o : Option Placed) → among crates holders finished id ≡ o → is_some o ≡ true → is_some (finished id) ≡ true
      go None s f = absurd (true≢false (sym f))
      go (Some p) s f = ap (λ (x : Option Placed). is_some x) (among-only crates holders finished id p s).1

  module _ (map : Map) where
    -- also beside a map
    pub Extends-all : Extends (overlay (among crates holders finished) map) (overlay finished map)
    Extends-all (named.Module m) e = go (map_id.ghosts.eq m.map map.id) e
      where
        go : (b : Bool) → is_some (option_and_then (λ (p : Placed). module_at p.map m.index) (cond b (Some (placed_in (among crates holders finished) map))
            (among crates holders finished m.map))) ≡ true
            → is_some (option_and_then (λ (p : Placed). module_at p.map m.index) (cond b (Some (placed_in finished map)) (finished m.map))) ≡ true
        go true f = f
        go false f = Extends-among (named.Module m) f
    Extends-all (named.Enum n) e = go (map_id.ghosts.eq n.loc.container.map map.id) e
      where
        go : (b : Bool) → is_some (option_and_then (λ (p : Placed). variants_at p.map n) (cond b (Some (placed_in (among crates holders finished) map))
            (among crates holders finished n.loc.container.map))) ≡ true
            → is_some (option_and_then (λ (p : Placed). variants_at p.map n) (cond b (Some (placed_in finished map)) (finished n.loc.container.map))) ≡ true
        go true f = f
        go false f = Extends-among (named.Enum n) f
    Extends-all (named.Map id) e = go (map_id.ghosts.eq id map.id) e
      where
        go : (b : Bool) → is_some (cond b (Some (placed_in (among crates holders finished) map)) (among crates holders finished id)) ≡ true
            → is_some (cond b (Some (placed_in finished map)) (finished id)) ≡ true
        go true f = refl
        go false f = Extends-among (named.Map id) f

    -- a map that names only what is there in a part may stand beside all
    pub joins : (local : Local) → HasNoDanglingReference (overlay (among crates holders finished) map) map
        → HasNoDanglingExtern (overlay (among crates holders finished) map) local → is_well_formed finished map local ≡ true
    joins local names begins =
        complete finished map local
        (HasNoDanglingReference-more (overlay (among crates holders finished) map) (overlay finished map) Extends-all map names)
        (HasNoDanglingExtern-more (overlay (among crates holders finished) map) (overlay finished map) Extends-all local begins)

    -- and names only maps of that part
    pub names_among : (local : Local) → HasNoDanglingReference (overlay (among crates holders finished) map) map
        → HasNoDanglingExtern (overlay (among crates holders finished) map) local
        → (id : MapId) → refers_to map local id ≡ true → is_some (among crates holders finished id) ≡ true
    names_among local names begins id e =
        names_finished (among crates holders finished) map local (complete (among crates holders finished) map local names begins) id e

-- ---- what holds a block that has no map yet

-- it lies in another map
pub held_outside : (finished : Maps) (id : MapId) (o : Option ModuleId) → finished id ≡ None → is_holder_for finished id o ≡ true → is_held_outside id o ≡ true
held_outside finished id None new e = refl
held_outside finished id (Some h) new e = go (map_id.ghosts.eq h.map id) refl
  where
    go : (b : Bool) → map_id.ghosts.eq h.map id ≡ b → not b ≡ true
    go true s =
        let gone : finished h.map ≡ None = ap finished (exact_map h.map id s) ∙ new in
        absurd (true≢false (sym (second_so (same_crate h.map.krate id.krate) (is_some (module_in finished h)) e) ∙ ap
        (λ (o : Option Placed). is_some (option_and_then (λ (p : Placed). module_at p.map h.index) o)) gone))
    go false s = refl
