-- The maps of a part of a world are in their places.
use Rattle.std.specs.Prelude.{◌≡◌, Bool, true, false, is_some, Option, None, Some, List, ◌∷◌, cond, option_and_then, option_copied, option_map}
use Rattle.std.specs.Cmp.{first_so, second_so}
use Rattle.std.proofs.Common.{refl, ap, sym, ◌∙◌}
use Rattle.hir_def_map_rules.specs.HirIds.declared.ids.Crate.{Crate}
use Rattle.hir_def_map_rules.specs.HirIds.declared.ids.MapId.{MapId}
use Rattle.hir_def_map_rules.specs.HirIds.declared.ids.ModuleId.{ModuleId}
use Rattle.hir_nameres.specs.declared.world.part.WorldPart.{WorldPart}
use Rattle.hir_def_map_rules.specs.Overlay.{Maps, Placed}
use Rattle.hir_nameres.specs.WorldParts.{among, are_of_some, is_of_some, with_its_holders, limited_to, part_of}
use Rattle.hir_def_map_rules.specs.Ancestors.{HolderLeads, IsPlaced, frame_of, frames_of, holders_of_frame}
use Rattle.hir_nameres.specs.World.{finished_in}

-- maps that agree on each of those are the same among them
pub among_agrees : (crates : List Crate) (holders : List ModuleId) (one other : Maps)
    → ((id : MapId) → is_of_some crates holders id ≡ true → one id ≡ other id)
    → among crates holders one ≡ among crates holders other
unfolding among
among_agrees crates holders one other agree = λ i id. on id (is_of_some crates holders id) refl i
  where
    on : (id : MapId) (b : Bool) → is_of_some crates holders id ≡ b
        → cond b (option_and_then (with_its_holders crates holders) (one id)) None ≡ cond b (option_and_then (with_its_holders crates holders) (other id)) None
    on id true s = ap (option_and_then (with_its_holders crates holders)) (agree id s)
    on id false s = refl

-- a map may be read where it is there, and it and all that holds it may be
pub among-there : (crates : List Crate) (holders : List ModuleId) (finished : Maps) (id : MapId) (placed : Placed)
    → is_of_some crates holders id ≡ true → finished id ≡ Some placed → are_of_some crates holders placed.holders ≡ true → among crates holders finished id
    ≡ Some placed
unfolding among
among-there crates holders finished id placed here there held =
    (λ i. cond (here i) (option_and_then (with_its_holders crates holders) (there i)) None) ∙ ap (λ (b : Bool). cond b (Some placed) None) held

-- and only there
pub among-only : (crates : List Crate) (holders : List ModuleId) (finished : Maps) (id : MapId) (placed : Placed) → among crates holders finished id
    ≡ Some placed
    → (is_of_some crates holders id ≡ true) × (finished id ≡ Some placed) × (are_of_some crates holders placed.holders ≡ true)
unfolding among
among-only crates holders finished id placed e = go (is_of_some crates holders id) refl (finished id) refl e
  where
    within : (p : Placed) (b : Bool) → are_of_some crates holders p.holders ≡ b → cond b (Some p) None ≡ Some placed → (p ≡ placed)
        × (are_of_some crates holders placed.holders ≡ true)
    within p true s f = let same : p ≡ placed = cc in (same, ap (λ (x : Placed). are_of_some crates holders x.holders) (sym same) ∙ s)
    within p false s f = absurd cc

    go : (b : Bool) → is_of_some crates holders id ≡ b → (o : Option Placed) → finished id ≡ o → cond b (option_and_then (with_its_holders crates holders) o)
        None ≡ Some placed
        → (is_of_some crates holders id ≡ true) × (finished id ≡ Some placed) × (are_of_some crates holders placed.holders ≡ true)
    go true s None t f = absurd cc
    go true s (Some p) t f = let found = within p (are_of_some crates holders p.holders) refl f in (s, t ∙ ap (λ (x : Placed). Some x) found.0, found.1)
    go false s o t f = absurd cc

-- they are in their places
pub IsPlaced-among : (crates : List Crate) (holders : List ModuleId) (finished : Maps) → IsPlaced finished → IsPlaced (among crates holders finished)
unfolding frames_of
IsPlaced-among crates holders finished placed id h hs e = go (among crates holders finished id) refl e
  where
    framed : (o : Option Placed) (hs : List ModuleId) → is_some (option_map frame_of o) ≡ true → holders_of_frame (option_map frame_of o) ≡ hs → (p : Placed)
        × (o ≡ Some p) × (p.holders ≡ hs)
    framed None hs there f = absurd cc
    framed (Some p) hs there f = (p, refl, f)

    go : (o : Option Placed) → among crates holders finished id ≡ o → holders_of_frame (option_map frame_of o) ≡ h ∷ hs
        → HolderLeads (frames_of (among crates holders finished)) id h hs
    go None s f = absurd cc
    go (Some p) s f =
        let only = among-only crates holders finished id p s in
        let leads = placed id h hs (ap (λ (o : Option Placed). holders_of_frame (option_map frame_of o)) only.1 ∙ f) in
        let above = framed (finished h.map) hs leads.1 leads.2 in
        let held : are_of_some crates holders (h ∷ hs) ≡ true = ap (are_of_some crates holders) (sym f) ∙ only.2 in
        let first : is_of_some crates holders h.map ≡ true = first_so (is_of_some crates holders h.map) (are_of_some crates holders hs) held in
        let others : are_of_some crates holders above.0.holders ≡ true = ap (are_of_some crates holders) above.2 ∙ second_so (is_of_some crates holders h.map)
        (are_of_some crates holders hs) held in
        let found : among crates holders finished h.map ≡ Some above.0 = among-there crates holders finished h.map above.0 first above.1 others in (
          leads.0,
          ap (λ (o : Option Placed). is_some (option_map frame_of o)) found,
          ap (λ (o : Option Placed). holders_of_frame (option_map frame_of o)) found
              ∙ above.2,
        )

-- they are in their places
pub part_placed : (part : WorldPart) → IsPlaced (part_of part)
unfolding part_of
part_placed part = go (option_copied part.crates)
  where
    go : (o : Option (List Crate)) → IsPlaced (limited_to o part.holders.now (finished_in part.maps.now))
    go None = part.checked.placed
    go (Some crates) = IsPlaced-among crates part.holders.now (finished_in part.maps.now) part.checked.placed
