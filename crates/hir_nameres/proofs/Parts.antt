-- What look-ups find in a part of a world.
use Rattle.std.proofs.Common.{◌≡◌, refl, ap, ◌∙◌, Bool, true, false, ◌&&◌, ◌||◌, Option, Some, None, cond, List, [], ◌∷◌}
use Rattle.std.specs.Option.{is_none, option_and_then, option_copied}
use Rattle.std.specs.List.{list_any}
use Rattle.hir_def_map_rules.specs.HirIds.declared.ids.Crate.{Crate}
use Rattle.hir_def_map_rules.specs.HirIds.declared.ids.MapId.{MapId}
use Rattle.hir_def_map_rules.specs.HirIds.declared.ids.ModuleId.{ModuleId}
use Rattle.hir_def_map_rules.specs.HirIds.contracts.ids.MapIdPartialEq.TheImpl as map_id
use Rattle.hir_def_map_rules.specs.HirPerNs.ModuleTree.{same_crate}
use Rattle.hir_nameres.specs.Types.{WorldPart}
use Rattle.hir_def_map_rules.specs.Overlay.{Maps, Placed}
use Rattle.hir_nameres.specs.WorldParts.{among, is_of_some, with_its_holders, are_within, is_within, limited_to, part_of}
use Rattle.hir_nameres.specs.Inner.PartLaws.{among-there}
use Rattle.hir_nameres.specs.World.{finished_in}

module _ (holders : List ModuleId) (finished : Maps) (id : MapId) where
  outside : (o : Option (List Crate)) → is_within o holders id ≡ false → limited_to o holders finished id ≡ None
  unfolding among
  outside None e = absurd cc
  outside (Some crates) e = ap (λ (b : Bool). cond b (option_and_then (with_its_holders crates holders) (finished id)) None) e

  missing : (o : Option (List Crate)) → finished id ≡ None → limited_to o holders finished id ≡ None
  unfolding among
  missing None e = e
  missing (Some crates) e =
      ap (λ (p : Option Placed). cond (is_of_some crates holders id) (option_and_then (with_its_holders crates holders) p) None) e ∙ none
      (is_of_some crates holders id)
    where
      none : (b : Bool) → cond {A = Option Placed} b None None ≡ None
      none true = refl
      none false = refl

  within : (o : Option (List Crate)) (placed : Placed) → is_within o holders id ≡ true → finished id ≡ Some placed → are_within o holders placed.holders ≡ true
      → limited_to o holders finished id ≡ Some placed
  within None placed here there held = there
  within (Some crates) placed here there held = among-there crates holders finished id placed here there held

  cut : (o : Option (List Crate)) (placed : Placed) → is_within o holders id ≡ true → finished id ≡ Some placed → are_within o holders placed.holders ≡ false
      → limited_to o holders finished id ≡ None
  unfolding among
  cut None placed here there held = absurd (all placed.holders held)
    where
      all : (hs : List ModuleId) → are_within None holders hs ≡ false → ⊥
      all [] e = cc
      all (h ∷ hs) e = all hs e
  cut (Some crates) placed here there held =
      (λ i. cond (here i) (option_and_then (with_its_holders crates holders) (there i)) None) ∙ ap (λ (b : Bool). cond b (Some placed) None) held

module _ (part : WorldPart) (id : MapId) where
  abbrev whole : Maps
  whole = finished_in part.maps.now

  pub part-outside : is_within (option_copied part.crates) part.holders.now id ≡ false → part_of part id ≡ None
  unfolding part_of
  part-outside e = outside part.holders.now whole id (option_copied part.crates) e

  pub part-missing : finished_in part.maps.now id ≡ None → part_of part id ≡ None
  unfolding part_of
  part-missing e = missing part.holders.now whole id (option_copied part.crates) e

  pub part-within : (placed : Placed) → is_within (option_copied part.crates) part.holders.now id ≡ true → finished_in part.maps.now id ≡ Some placed
      → are_within (option_copied part.crates) part.holders.now placed.holders ≡ true → part_of part id ≡ Some placed
  unfolding part_of
  part-within placed here there held = within part.holders.now whole id (option_copied part.crates) placed here there held

  pub part-cut : (placed : Placed) → is_within (option_copied part.crates) part.holders.now id ≡ true → finished_in part.maps.now id ≡ Some placed
      → are_within (option_copied part.crates) part.holders.now placed.holders ≡ false → part_of part id ≡ None
  unfolding part_of
  part-cut placed here there held = cut part.holders.now whole id (option_copied part.crates) placed here there held

pub ruleset parts = (part-outside, part-missing, part-within, part-cut)

-- ---- modules that are among the holders in their order

abbrev pub holds_in : MapId → List ModuleId → Bool
holds_in id hs = list_any (λ (h : ModuleId). map_id.ghosts.eq h.map id) hs

module _ (o : Option (List Crate)) (holders : List ModuleId) where
  held_within : (p : Option (List Crate)) (id : MapId) → holds_in id holders ≡ true → is_within p holders id ≡ true
  held_within None id e = refl
  held_within (Some crates) id e = or_right (is_none id.block && list_any (same_crate id.krate) crates) (holds_in id holders) e
    where
      or_right : (a b : Bool) → b ≡ true → (a || b) ≡ true
      or_right true b f = refl
      or_right false b f = f

  first_holds : (a b : Bool) → a ≡ true → (a || b) ≡ true
  first_holds true b e = refl
  first_holds false b e = absurd cc

  later_holds : (a b : Bool) → b ≡ true → (a || b) ≡ true
  later_holds true b e = refl
  later_holds false b e = e

  -- one module more is found
  pub order-found : (hs others modules left rest : List ModuleId) (h m : ModuleId) → hs ≡ h ∷ others → left ≡ m ∷ rest → map_id.ghosts.eq h.map m.map ≡ true
      → ((id : MapId) → holds_in id hs ≡ true → holds_in id holders ≡ true) → (are_within o holders left ≡ true → are_within o holders modules ≡ true)
      → are_within o holders rest ≡ true → are_within o holders modules ≡ true
  order-found hs others modules left rest h m first taken same among onward e =
      let here : is_within o holders m.map ≡ true = held_within o m.map
      (among m.map (ap (holds_in m.map) first ∙ first_holds (map_id.ghosts.eq h.map m.map) (holds_in m.map others) same)) in
      onward (ap (are_within o holders) taken ∙ ap (λ (b : Bool). b && are_within o holders rest) here ∙ e)

  pub order-others : (hs others : List ModuleId) (h : ModuleId) → hs ≡ h ∷ others → ((id : MapId) → holds_in id hs ≡ true → holds_in id holders ≡ true)
      → (id : MapId) → holds_in id others ≡ true → holds_in id holders ≡ true
  order-others hs others h first among id e = among id (ap (holds_in id) first ∙ later_holds (map_id.ghosts.eq h.map id) (holds_in id others) e)
