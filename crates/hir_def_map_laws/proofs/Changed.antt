-- What look-ups find in a map that has changed, beside finished maps.
use Rattle.std.proofs.Common.{◌≡◌, ◌∙◌, ap, sym, subst, refl, ℕ, zero, suc, ◌<◌, List, [], ◌∷◌, ◌++◌, Bool, true, false, ◌&&◌, ◌||◌, cond, Option, None, Some}
use Rattle.std.specs.List.{All, list_any}
use Rattle.std.specs.Option.{option_and_then, option_map}
use Rattle.std.specs.Prelude.{is_some, map as list_map}
use Rattle.std.proofs.lemmas.List.Elements.{All-cons, All-head, All-nil, All-tail}
use mathlib.Core.Bool.{true≢false}
use Rattle.hir_nameres.specs.HirIds.declared.ids.Crate.{Crate}
use Rattle.hir_nameres.specs.HirIds.declared.ids.EnumId.{EnumId}
use Rattle.hir_nameres.specs.HirIds.declared.ids.MapId.{MapId}
use Rattle.hir_nameres.specs.HirIds.declared.ids.ModuleId.{ModuleId as AnyModule}
use Rattle.hir_nameres.specs.HirIds.contracts.ids.MapIdPartialEq.TheImpl as map_id
use Rattle.hir_nameres.specs.HirPerNs.ModuleTree.{same_crate, same_module}
use Rattle.hir_nameres.specs.HirPerNs.PerNs.{keep_of}
use Rattle.hir_nameres.specs.HirPerNs.Visibility.{is_visible, stands_for}
use Rattle.hir_nameres.specs.HirPerNs.declared.visibility.Visibility.{Visibility}
use Rattle.hir_nameres.specs.HirPerNs.declared.visibility.Visibility.TheVariants.{Module, PubCrate, Public}
use Rattle.hir_nameres.specs.HirDefMapRules.Inner.OverlayLaws.{exact_map}
use Rattle.hir_nameres.specs.HirDefMapRules.Ancestors.{above_in, above_inside, above_under, frame_of, frames_of}
use Rattle.hir_nameres.specs.HirDefMapRules.Ancestors.{holders_in, holders_of_frame, numbers_above, numbers_of}
use Rattle.hir_nameres.specs.HirDefMapRules.Scoping.FirstSegment.{is_block_root, legacy_of}
use Rattle.hir_nameres.specs.HirDefMapRules.Scoping.Segments.{nearest_non_block_among, nearest_non_block_module, seen, variant_in}
use Rattle.hir_nameres.specs.HirDefMapRules.Scoping.Start.{climb, is_dependency, is_edition_2015, is_in_edition_2015, is_in_reach}
use Rattle.hir_nameres.specs.HirDefMapRules.State.{Map, ModuleValue, Variants, at_name, entry_at, entry_of}
use Rattle.hir_nameres.specs.HirDefMapRules.State.{module_at, numbered, parent_at, parent_of, variants_at}
use Rattle.hir_nameres.specs.HirDefMapRules.Overlay.{Maps, Placed, overlay, entry_in, holders_of, holders_or}
use Rattle.hir_nameres.specs.HirDefMapRules.Overlay.{holders_under, map_in, module_in, parent_in, placed_in}
use Rattle.hir_nameres.specs.HirDefMapRules.declared.reference.Reference.{Reference}
use Rattle.hir_nameres.specs.HirDefMapRules.declared.reference.Reference.TheVariants as named
use Rattle.hir_nameres.specs.HirDefMapRules.References.{any_reference_in, test_of, Fails}
use Rattle.hir_nameres.proofs.HirDefMapRules.Referred.{entry_fails, module_parts}
use Rattle.hir_def_map_laws.specs.ReadLaw.{KeepApart, is_named_in}
use Rattle.hir_nameres.specs.Scoping.Slots.{is_in, prelude_module_of}

pub either-false : {P : Type 0} (b : Bool) → b ≡ true → b ≡ false → P
either-false b e f = absurd (true≢false (sym e ∙ f))

-- of a module, or of each that holds it
pub among-keeps : (P : AnyModule → Type 0) (hs : List AnyModule) (m : AnyModule) → P m → All P hs → P (nearest_non_block_among m hs)
among-keeps P [] m f all = f
among-keeps P (h ∷ hs) m f all = go (is_block_root m) (among-keeps P hs h (All-head P h hs all) (All-tail P h hs all))
  where
    go : (b : Bool) → P (nearest_non_block_among h hs) → P (cond b (nearest_non_block_among h hs) m)
    go true below = below
    go false below = f

frame_holders : (o : Option Placed) → holders_of_frame (option_map frame_of o) ≡ holders_of o
frame_holders None = refl
frame_holders (Some p) = refl

none_is_some : {A : Type 0} (o : Option A) → o ≡ None → is_some o ≡ false
none_is_some o e = ap is_some e

-- a number is below the bound, if there is one
abbrev pub IsBelow : Option ℕ → ℕ → Type 0
IsBelow None at = Unit {0}
IsBelow (Some bound) at = at < bound

-- whether it's an enum of the map, and one of those
abbrev pub has_others : MapId → (EnumId → Bool) → Reference → Bool
has_others own changes (named.Module m) = false
has_others own changes (named.Enum id) = map_id.ghosts.eq id.loc.container.map own && changes id
has_others own changes (named.Map id) = false

-- a map beside finished maps, before and after a change
pub record Change : Type 0 where
  pub finished : Maps
  pub one : Map
  pub other : Map
  pub apart : KeepApart finished one.id
  pub id : other.id ≡ one.id
  pub holder : other.holder ≡ one.holder
  pub crate_data : other.crate_data ≡ one.crate_data
  pub prelude : option_map (λ p. p.0) other.prelude ≡ option_map (λ p. p.0) one.prelude
  -- the modules below the bound stay where they are, and so do those above them
  pub bound : Option ℕ
  pub parents : (at : ℕ) → IsBelow bound at → parent_at other at ≡ parent_at one at
  pub parents_below : (at : ℕ) (p : AnyModule) → IsBelow bound at → parent_at one at ≡ Some p → IsBelow bound p.index
  pub above : (at : ℕ) → IsBelow bound at → numbers_above (frame_of (placed_in finished other)) at ≡ numbers_above (frame_of (placed_in finished one)) at
  -- the enums that may have other variants afterwards; no name stood for one
  pub changes : EnumId → Bool
  pub names : (at : ℕ) (name : List ℕ) → Fails (has_others one.id changes) (entry_at one at name)
  pub variants : (id : EnumId) → changes id ≡ false → variants_at other id ≡ variants_at one id

module _ (t : Change) where
  abbrev finished : Maps
  finished = t.finished

  abbrev one : Map
  one = t.one

  abbrev other : Map
  other = t.other

  abbrev pub own : MapId
  own = one.id

  -- before and after
  abbrev pub old : Maps
  old = overlay finished one

  abbrev pub new : Maps
  new = overlay finished other

  -- a module outside the map
  abbrev pub Out : AnyModule → Type 0
  Out m = is_in own m ≡ false

  -- a module that stays where it is, if it lies in the map
  abbrev pub Here : AnyModule → Type 0
  Here m = is_in own m ≡ true → IsBelow t.bound m.index

  -- whether it's an enum that may have other variants afterwards
  abbrev pub has_other_variants : Reference → Bool
  has_other_variants n = has_others own t.changes n

  pub here_out : (m : AnyModule) → Out m → Here m
  here_out m out inside = either-false (is_in own m) inside out

  pub is_own : (m : AnyModule) → is_in own m ≡ true → m.map ≡ own
  is_own m e = exact_map m.map own e

  -- ---- maps

  old_own : (id : MapId) → map_id.ghosts.eq id own ≡ true → old id ≡ Some (placed_in finished one)
  old_own id e = ap (λ (b : Bool). cond b (Some (placed_in finished one)) (finished id)) e

  old_out : (id : MapId) → map_id.ghosts.eq id own ≡ false → old id ≡ finished id
  old_out id e = ap (λ (b : Bool). cond b (Some (placed_in finished one)) (finished id)) e

  new_own : (id : MapId) → map_id.ghosts.eq id own ≡ true → new id ≡ Some (placed_in finished other)
  new_own id e = ap (λ (b : Bool). cond b (Some (placed_in finished other)) (finished id)) (ap (map_id.ghosts.eq id) t.id ∙ e)

  new_out : (id : MapId) → map_id.ghosts.eq id own ≡ false → new id ≡ finished id
  new_out id e = ap (λ (b : Bool). cond b (Some (placed_in finished other)) (finished id)) (ap (map_id.ghosts.eq id) t.id ∙ e)

  -- another map is the same
  pub same_out : (id : MapId) → map_id.ghosts.eq id own ≡ false → new id ≡ old id
  same_out id e = new_out id e ∙ sym (old_out id e)

  -- ---- holders

  same_placed_holders : (placed_in finished other).holders ≡ (placed_in finished one).holders
  same_placed_holders = λ i. holders_or (finished (t.id i)) (holders_under finished (t.id i) (t.holder i))

  pub same_holders : (m : AnyModule) → holders_in new m ≡ holders_in old m
  unfolding frames_of
  same_holders m = frame_holders (new m.map) ∙ go (map_id.ghosts.eq m.map own) refl ∙ sym (frame_holders (old m.map))
    where
      go : (b : Bool) → map_id.ghosts.eq m.map own ≡ b → holders_of (new m.map) ≡ holders_of (old m.map)
      go true e = ap holders_of (new_own m.map e) ∙ same_placed_holders ∙ sym (ap holders_of (old_own m.map e))
      go false e = ap holders_of (same_out m.map e)

  finished_out : (m : AnyModule) → is_some (finished m.map) ≡ true → Out m
  finished_out m there = go (is_in own m) refl
    where
      go : (b : Bool) → is_in own m ≡ b → Out m
      go true e =
          either-false (is_some (finished m.map)) there (ap (λ (id : MapId). is_some (finished id)) (is_own m e) ∙ none_is_some (finished own) t.apart.absent)
      go false e = e

  finished_holders : (h : AnyModule) → All Out (holders_of (finished h.map))
  unfolding frames_of
  finished_holders h = subst (All Out) (frame_holders (finished h.map)) (t.apart.holders h)

  own_holders : All Out (holders_under finished own one.holder)
  own_holders = go one.holder
    where
      held : (h : AnyModule) (b c : Bool) → is_some (finished h.map) ≡ c → All Out (cond (b && c) (h ∷ holders_of (finished h.map)) [])
      held h false c e = All-nil Out
      held h true false e = All-nil Out
      held h true true e = All-cons Out h (holders_of (finished h.map)) (finished_out h e) (finished_holders h)

      go : (o : Option AnyModule) → All Out (holders_under finished own o)
      go None = All-nil Out
      go (Some h) = held h (same_crate h.map.krate own.krate) (is_some (finished h.map)) refl

  -- what holds a map lies in other maps
  pub holders_out : (m : AnyModule) → All Out (holders_in old m)
  unfolding frames_of
  holders_out m = subst (All Out) (sym (frame_holders (old m.map))) (go (map_id.ghosts.eq m.map own) refl)
    where
      go : (b : Bool) → map_id.ghosts.eq m.map own ≡ b → All Out (holders_of (old m.map))
      go true e =
          subst (All Out) (sym (ap holders_of (old_own m.map e) ∙ ap (λ (o : Option Placed). holders_or o (holders_under finished own one.holder))
          t.apart.absent)) own_holders
      go false e = subst (All Out) (sym (ap holders_of (old_out m.map e))) (finished_holders m)

  pub same_nearest : (m : AnyModule) → nearest_non_block_module new m ≡ nearest_non_block_module old m
  unfolding nearest_non_block_module
  same_nearest m = ap (nearest_non_block_among m) (same_holders m)

  pub nearest_out : (m : AnyModule) → Out m → Out (nearest_non_block_module old m)
  unfolding nearest_non_block_module
  nearest_out m out = among-keeps Out (holders_in old m) m out (holders_out m)

  all_here : (hs : List AnyModule) → All Out hs → All Here hs
  all_here [] all = All-nil Here
  all_here (h ∷ hs) all = All-cons Here h hs (here_out h (All-head Out h hs all)) (all_here hs (All-tail Out h hs all))

  pub nearest_here : (m : AnyModule) → Here m → Here (nearest_non_block_module old m)
  unfolding nearest_non_block_module
  nearest_here m here = among-keeps Here (holders_in old m) m here (all_here (holders_in old m) (holders_out m))

  -- ---- modules and their parents

  old_module : (m : AnyModule) → is_in own m ≡ true → module_in old m ≡ module_at one m.index
  old_module m e = ap (λ (o : Option Placed). option_and_then (λ (placed : Placed). module_at placed.map m.index) o) (old_own m.map e)

  new_module : (m : AnyModule) → is_in own m ≡ true → module_in new m ≡ module_at other m.index
  new_module m e = ap (λ (o : Option Placed). option_and_then (λ (placed : Placed). module_at placed.map m.index) o) (new_own m.map e)

  module_out : (m : AnyModule) → Out m → module_in old m ≡ module_in finished m
  module_out m e = ap (λ (o : Option Placed). option_and_then (λ (placed : Placed). module_at placed.map m.index) o) (old_out m.map e)

  pub same_module_out : (m : AnyModule) → Out m → module_in new m ≡ module_in old m
  same_module_out m e = ap (λ (o : Option Placed). option_and_then (λ (placed : Placed). module_at placed.map m.index) o) (same_out m.map e)

  same_parent : (m : AnyModule) → Here m → parent_in new m ≡ parent_in old m
  same_parent m here = go (is_in own m) refl
    where
      go : (b : Bool) → is_in own m ≡ b → parent_in new m ≡ parent_in old m
      go true e = ap parent_of (new_module m e) ∙ t.parents m.index (here e) ∙ sym (ap parent_of (old_module m e))
      go false e = ap parent_of (same_module_out m e)

  parent_out : (m p : AnyModule) → Out m → parent_in old m ≡ Some p → Out p
  parent_out m p out e = go (module_in finished m) (t.apart.modules m) (sym (ap parent_of (module_out m out)) ∙ e)
    where
      go : (o : Option ModuleValue) → ((v : ModuleValue) → o ≡ Some v → any_reference_in (is_named_in own) v ≡ false) → parent_of o ≡ Some p → Out p
      go None names f = absurd cc
      go (Some v) names f =
          ap (λ (x : Option AnyModule). test_of (is_named_in own) (option_map named.Module x)) (sym f) ∙
          (module_parts (is_named_in own) v (names v refl)).parent

  parent_here : (m p : AnyModule) → Here m → parent_in old m ≡ Some p → Here p
  parent_here m p here e = go (is_in own m) refl
    where
      go : (b : Bool) → is_in own m ≡ b → Here p
      go true s = λ inside. t.parents_below m.index p (here s) (sym (ap parent_of (old_module m s)) ∙ e)
      go false s = here_out p (parent_out m p s e)

  pub same_climb : (n : ℕ) (m : AnyModule) → Here m → climb new n m ≡ climb old n m
  same_climb zero m here = refl
  same_climb (suc n) m here =
      ap (option_and_then (λ p. climb new n (nearest_non_block_module new p))) (same_parent m here)
      ∙ go (parent_in old m) refl (λ p f. same_climb n p f)
    where
      go : (o : Option AnyModule) → parent_in old m ≡ o → ((p : AnyModule) → Here p → climb new n p ≡ climb old n p)
          → option_and_then (λ p. climb new n (nearest_non_block_module new p)) o ≡ option_and_then (λ p. climb old n (nearest_non_block_module old p)) o
      go None e further = refl
      go (Some p) e further = ap (climb new n) (same_nearest p) ∙ further (nearest_non_block_module old p) (nearest_here p (parent_here m p here e))

  pub climb_out : (n : ℕ) (m q : AnyModule) → Out m → climb old n m ≡ Some q → Out q
  climb_out zero m q out e = let same : m ≡ q = cc in subst Out same out
  climb_out (suc n) m q out e = go (parent_in old m) refl e (λ p f g. climb_out n p q f g)
    where
      go : (o : Option AnyModule) → parent_in old m ≡ o → option_and_then (λ p. climb old n (nearest_non_block_module old p)) o ≡ Some q
          → ((p : AnyModule) → Out p → climb old n p ≡ Some q → Out q) → Out q
      go None s f further = absurd cc
      go (Some p) s f further = further (nearest_non_block_module old p) (nearest_out p (parent_out m p out s)) f

  pub climb_here : (n : ℕ) (m q : AnyModule) → Here m → climb old n m ≡ Some q → Here q
  climb_here zero m q here e = let same : m ≡ q = cc in subst Here same here
  climb_here (suc n) m q here e = go (parent_in old m) refl e (λ p f g. climb_here n p q f g)
    where
      go : (o : Option AnyModule) → parent_in old m ≡ o → option_and_then (λ p. climb old n (nearest_non_block_module old p)) o ≡ Some q
          → ((p : AnyModule) → Here p → climb old n p ≡ Some q → Here q) → Here q
      go None s f further = absurd cc
      go (Some p) s f further = further (nearest_non_block_module old p) (nearest_here p (parent_here m p here s)) f

  -- ---- what lies above

  same_numbers : (m : AnyModule) → Here m → numbers_of (frames_of new m.map) m.index ≡ numbers_of (frames_of old m.map) m.index
  unfolding frames_of
  same_numbers m here = go (is_in own m) refl
    where
      go : (b : Bool) → is_in own m ≡ b → numbers_of (option_map frame_of (new m.map)) m.index ≡ numbers_of (option_map frame_of (old m.map)) m.index
      go true e =
          ap (λ (o : Option Placed). numbers_of (option_map frame_of o) m.index) (new_own m.map e)
          ∙ t.above m.index (here e)
          ∙ sym (ap (λ (o : Option Placed). numbers_of (option_map frame_of o) m.index) (old_own m.map e))
      go false e = ap (λ (o : Option Placed). numbers_of (option_map frame_of o) m.index) (same_out m.map e)

  same_under : (hs : List AnyModule) (m : AnyModule) → Here m → All Out hs → above_under (frames_of new) hs m ≡ above_under (frames_of old) hs m
  same_under [] m here all = ap (list_map (numbered m.map)) (same_numbers m here)
  same_under (h ∷ hs) m here all =
      let inside : above_inside (frames_of new) m ≡ above_inside (frames_of old) m = ap (list_map (numbered m.map)) (same_numbers m here) in
      let outwards : above_under (frames_of new) hs h ≡ above_under (frames_of old) hs h = same_under hs h (here_out h (All-head Out h hs all))
      (All-tail Out h hs all) in
      λ i. inside i ++ h ∷ outwards i

  -- the same lies above a module that stays
  pub same_above : (m : AnyModule) → Here m → above_in new m ≡ above_in old m
  unfolding above_in
  same_above m here =
      ap (λ (hs : List AnyModule). above_under (frames_of new) hs m) (same_holders m)
      ∙ same_under (holders_in old m) m here (holders_out m)

  same_visible : (from : AnyModule) → Here from → (v : Visibility) → is_visible (above_in new) (holders_in new) v from
      ≡ is_visible (above_in old) (holders_in old) v from
  same_visible from here (Module m e) = λ i.
      same_crate from.map.krate m.map.krate && list_any (same_module (stands_for from m (same_holders m i))) (from ∷ same_above from here i)
  same_visible from here (PubCrate c) = refl
  same_visible from here Public = refl

  -- it sees the same of what stands for the same
  pub same_seen : (from at : AnyModule) (name : List ℕ) → Here from → entry_in new at name ≡ entry_in old at name → seen new from at name
      ≡ seen old from at name
  same_seen from at name here e = λ i. keep_of (λ v. same_visible from here v i) (e i)

  -- ---- names in other maps

  pub entry_out : (m : AnyModule) (name : List ℕ) → Out m → entry_in new m name ≡ entry_in old m name
  entry_out m name out = ap (λ (o : Option ModuleValue). entry_of o name) (same_module_out m out)

  pub legacy_out : (m : AnyModule) (name : List ℕ) → Out m → legacy_of (module_in new m) name ≡ legacy_of (module_in old m) name
  legacy_out m name out = ap (λ (o : Option ModuleValue). legacy_of o name) (same_module_out m out)

  pub names_out : (m : AnyModule) (name : List ℕ) → Out m → Fails (is_named_in own) (entry_in old m name)
  names_out m name out =
      subst (Fails (is_named_in own)) (sym (ap (λ (o : Option ModuleValue). entry_of o name) (module_out m out)))
      (entry_fails (is_named_in own) (module_in finished m) (t.apart.modules m) name)

  -- ---- names in the map

  pub entry_here : (m : AnyModule) (name : List ℕ) → is_in own m ≡ true → entry_at other m.index name ≡ entry_at one m.index name → entry_in new m name
      ≡ entry_in old m name
  entry_here m name e same =
      ap (λ (o : Option ModuleValue). entry_of o name) (new_module m e) ∙ same ∙ sym (ap (λ (o : Option ModuleValue). entry_of o name) (old_module m e))

  pub legacy_here : (m : AnyModule) (name : List ℕ) → is_in own m ≡ true → legacy_of (module_at other m.index) name ≡ legacy_of (module_at one m.index) name
      → legacy_of (module_in new m) name ≡ legacy_of (module_in old m) name
  legacy_here m name e same =
      ap (λ (o : Option ModuleValue). legacy_of o name) (new_module m e) ∙ same ∙ sym (ap (λ (o : Option ModuleValue). legacy_of o name) (old_module m e))

  pub names_here : (m : AnyModule) (name : List ℕ) → is_in own m ≡ true → Fails has_other_variants (entry_in old m name)
  names_here m name e = subst (Fails has_other_variants) (sym (ap (λ (o : Option ModuleValue). entry_of o name) (old_module m e))) (t.names m.index name)

  -- ---- variants

  pub variant_out : (id : EnumId) (name : List ℕ) → map_id.ghosts.eq id.loc.container.map own ≡ false → variant_in new id name ≡ variant_in old id name
  variant_out id name e =
      ap (λ (o : Option Placed). option_and_then (λ (vs : Variants). at_name vs name) (option_and_then (λ (placed : Placed). variants_at placed.map id) o))
      (same_out id.loc.container.map e)

  pub variant_here : (id : EnumId) (name : List ℕ) → map_id.ghosts.eq id.loc.container.map own ≡ true → t.changes id ≡ false → variant_in new id name
      ≡ variant_in old id name
  variant_here id name e same =
      ap (λ (o : Option Variants). option_and_then (λ (vs : Variants). at_name vs name) o)
      (ap (λ (o : Option Placed). option_and_then (λ (placed : Placed). variants_at placed.map id) o) (new_own id.loc.container.map e)
      ∙ t.variants id same
      ∙ sym (ap (λ (o : Option Placed). option_and_then (λ (placed : Placed). variants_at placed.map id) o) (old_own id.loc.container.map e)))

  -- ---- what maps say of their crates

  pub map_in-out : (id : MapId) → map_id.ghosts.eq id own ≡ false → map_in new id ≡ map_in old id
  map_in-out id e = ap (option_map (λ (placed : Placed). placed.map)) (same_out id e)

  pub old_map : (id : MapId) → map_id.ghosts.eq id own ≡ true → map_in old id ≡ Some one
  old_map id e = ap (option_map (λ (placed : Placed). placed.map)) (old_own id e)

  pub new_map : (id : MapId) → map_id.ghosts.eq id own ≡ true → map_in new id ≡ Some other
  new_map id e = ap (option_map (λ (placed : Placed). placed.map)) (new_own id e)

  -- what is the same in both is the same of the map of each id
  same_of_map : {A : Type 0} (part : Option Map → A) → part (Some other) ≡ part (Some one) → (id : MapId) → part (map_in new id) ≡ part (map_in old id)
  same_of_map part same id = go (map_id.ghosts.eq id own) refl
    where
      go : (b : Bool) → map_id.ghosts.eq id own ≡ b → part (map_in new id) ≡ part (map_in old id)
      go true e = ap part (new_map id e) ∙ same ∙ sym (ap part (old_map id e))
      go false e = ap part (map_in-out id e)

  pub same_2015 : (id : MapId) → is_in_edition_2015 (map_in new id) ≡ is_in_edition_2015 (map_in old id)
  same_2015 id = same_of_map is_in_edition_2015 (λ i. is_edition_2015 (t.crate_data i).edition) id

  pub same_reach : (from : AnyModule) (c : Crate) → is_in_reach new from c ≡ is_in_reach old from c
  same_reach from c =
      λ i. same_crate c from.map.krate || same_of_map (λ (o : Option Map). is_dependency o c) (λ j. list_any (same_crate c) (t.crate_data j).dependencies)
      from.map i

  pub same_prelude_module : (id : MapId) → prelude_module_of (map_in new id) ≡ prelude_module_of (map_in old id)
  same_prelude_module id = same_of_map prelude_module_of t.prelude id

  pub prelude_out : (id : MapId) → map_id.ghosts.eq id own ≡ false → (p : AnyModule) → prelude_module_of (map_in old id) ≡ Some p → Out p
  prelude_out id e p f =
      t.apart.preludes id p (sym (ap (λ (o : Option Placed). prelude_module_of (option_map (λ (placed : Placed). placed.map) o)) (old_out id e)) ∙ f)
