-- Finished maps name nothing in a map that isn't among them.
use Rattle.std.proofs.Common.{◌≡◌, ◌∙◌, ap, sym, subst, refl, ℕ, List, [], ◌∷◌, Bool, true, false, ◌&&◌, ◌||◌, cond, Option, None, Some}
use Rattle.std.specs.BTreeMap.{BTreeMap, get}
use Rattle.std.specs.Cmp.{second_so}
use Rattle.std.specs.List.{All, list_any}
use Rattle.std.specs.Option.{option_and_then, option_copied, option_map}
use Rattle.std.specs.Prelude.{is_some, not}
use Rattle.std.proofs.lemmas.List.Elements.{All-cons, All-nil}
use mathlib.Core.Bool.{true≢false}
use Rattle.hir_nameres.specs.HirIds.declared.ids.Crate.{Crate}
use Rattle.hir_nameres.specs.HirIds.declared.ids.MapId.{MapId}
use Rattle.hir_nameres.specs.HirIds.declared.ids.ModuleId.{ModuleId}
use Rattle.hir_nameres.specs.HirIds.declared.ids.UseId.{UseId}
use Rattle.hir_nameres.specs.HirIds.contracts.ids.MapIdOrd.TheImpl as map_order
use Rattle.hir_nameres.specs.HirIds.contracts.ids.MapIdPartialEq.TheImpl as map_id
use Rattle.hir_nameres.specs.HirDefMapRules.Inner.OverlayLaws.{exact_map}
use Rattle.hir_nameres.specs.Inner.PartLaws.{among-only}
use Rattle.hir_nameres.specs.HirDefMapRules.Ancestors.{frame_of, frames_of, holders_in, holders_of_frame}
use Rattle.hir_nameres.specs.HirDefMapRules.References.{any_reference, any_reference_besides, any_reference_in}
use Rattle.hir_nameres.specs.HirDefMapRules.References.{each_leads_to_root, has_its_parents, has_its_variants}
use Rattle.hir_nameres.specs.HirDefMapRules.References.{is_holder_for, is_missing, is_well_formed, prelude_reference, test_of}
use Rattle.hir_nameres.specs.HirDefMapRules.State.{ModuleValue, module_at}
use Rattle.hir_nameres.specs.HirDefMapRules.Overlay.{Maps, Placed, map_in, module_in, overlay, placed_in}
use Rattle.hir_nameres.specs.Scoping.Slots.{is_in, prelude_module_of}
use Rattle.hir_nameres.specs.World.{IsChecked, finished_in, placed_of}
use Rattle.hir_nameres.specs.WorldParts.{among, limited_to, part_of}
use Rattle.hir_nameres.specs.declared.world.finished.Finished.{Finished}
use Rattle.hir_nameres.specs.HirDefMapRules.declared.reference.Reference.{Reference}
use Rattle.hir_nameres.specs.HirDefMapRules.declared.reference.Reference.TheVariants as named
use Rattle.hir_nameres.proofs.HirDefMapRules.NoneOf.{none_at, not_first, not_second}
use Rattle.hir_nameres.proofs.HirDefMapRules.Referred.{module_less}
use Rattle.hir_def_map_laws.proofs.Whole.{elsewhere}
use Rattle.hir_def_map_laws.specs.ReadLaw.{KeepApart, PartsKeepApart, SomeMapsKeepApart, WorldsKeepApart, is_named_in}

-- ---- references of a map in which a test holds nowhere

module _ (own : MapId) (test : Reference → Bool) (weaker : (n : Reference) → test n ≡ false → is_named_in own n ≡ false) where
  prelude_apart : (o : Option (ModuleId × Option UseId)) → test_of test (prelude_reference o) ≡ false → (p : ModuleId) → option_map (λ x. x.0) o ≡ Some p
      → is_in own p ≡ false
  prelude_apart None f p e = absurd cc
  prelude_apart (Some prelude) f p e = let same : prelude.0 ≡ p = cc in subst (λ (m : ModuleId). is_in own m ≡ false) same (weaker (named.Module prelude.0) f)

-- ---- the maps of a world

module _ (maps : BTreeMap MapId Finished) (own : MapId) (checked : IsChecked maps) (absent : finished_in maps own ≡ None) where
  abbrev world : Maps
  world = finished_in maps

  found : (id : MapId) (placed : Placed) → world id ≡ Some placed → (f : Finished) × (get map_order.ghosts.cmp maps id ≡ Some f) × (placed_of f ≡ placed)
  unfolding finished_in
  found id placed e = go (get map_order.ghosts.cmp maps id) refl e
    where
      go : (o : Option Finished) → get map_order.ghosts.cmp maps id ≡ o → option_map placed_of o ≡ Some placed → (f : Finished)
          × (get map_order.ghosts.cmp maps id ≡ Some f) × (placed_of f ≡ placed)
      go None s f = absurd cc
      go (Some x) s f = let same : placed_of x ≡ placed = cc in (x, s, same)

  module _ (id : MapId) (placed : Placed) (there : world id ≡ Some placed) where
    -- the world with this map of it on top
    abbrev beside : Maps
    beside = overlay world placed.map

    abbrev missing : Reference → Bool
    missing n = is_missing beside n

    own_id : placed.map.id ≡ id
    own_id = let f = found id placed there in ap (λ (p : Placed). p.map.id) (sym f.2) ∙ (checked.each id f.0 f.1).own

    whole : is_well_formed world placed.map placed.local ≡ true
    whole = let f = found id placed there in subst (λ (p : Placed). is_well_formed world p.map p.local ≡ true) f.2 (checked.each id f.0 f.1).complete

    none_missing : any_reference missing placed.map placed.local ≡ false
    none_missing =
        let held = is_holder_for world placed.map.id placed.map.holder in
        let names = not (any_reference missing placed.map placed.local) in
        let variants = has_its_variants placed.map in
        no (any_reference missing placed.map placed.local)
        (second_so held names
        (second_so variants (held && names)
        (second_so (has_its_parents placed.map) (variants && (held && names))
        (second_so (each_leads_to_root placed.map) (has_its_parents placed.map && (variants && (held && names))) whole))))
      where
        no : (b : Bool) → not b ≡ true → b ≡ false
        no true e = absurd (true≢false (sym e))
        no false e = refl

    absent_beside : beside own ≡ None
    absent_beside = go (map_id.ghosts.eq own placed.map.id) refl
      where
        go : (b : Bool) → map_id.ghosts.eq own placed.map.id ≡ b → cond b (Some (placed_in world placed.map)) (world own) ≡ None
        go true s =
            let same : own ≡ id = exact_map own placed.map.id s ∙ own_id in
            let both : None ≡ Some placed = sym absent ∙ ap world same ∙ there in
            absurd cc
        go false s = absent

    apart : (n : Reference) → missing n ≡ false → is_named_in own n ≡ false
    apart n e = elsewhere beside own absent_beside n e

    module_names : (at : ℕ) (m : ModuleValue) → module_at placed.map at ≡ Some m → any_reference_in missing m ≡ false
    module_names at m e =
        none_at (any_reference_in missing) placed.map.modules (not_first (list_any (any_reference_in missing) placed.map.modules)
        (any_reference_besides missing placed.map placed.local) none_missing) at m e

    map_modules : (at : ℕ) (m : ModuleValue) → module_at placed.map at ≡ Some m → any_reference_in (is_named_in own) m ≡ false
    map_modules at m e = module_less missing (is_named_in own) apart m (module_names at m e)

    map_prelude : (p : ModuleId) → option_map (λ x. x.0) placed.map.prelude ≡ Some p → is_in own p ≡ false
    map_prelude p e =
        prelude_apart own missing apart placed.map.prelude
        (not_first (test_of missing (prelude_reference placed.map.prelude)) _
        (not_second (list_any (any_reference_in missing) placed.map.modules) (any_reference_besides missing placed.map placed.local) none_missing))
        p e

  modules : (m : ModuleId) (value : ModuleValue) → module_in world m ≡ Some value → any_reference_in (is_named_in own) value ≡ false
  modules m value e = go (world m.map) refl e
    where
      go : (o : Option Placed) → world m.map ≡ o → option_and_then (λ (placed : Placed). module_at placed.map m.index) o ≡ Some value
          → any_reference_in (is_named_in own) value ≡ false
      go None s f = absurd cc
      go (Some placed) s f = map_modules m.map placed s m.index value f

  preludes : (id : MapId) (p : ModuleId) → prelude_module_of (map_in world id) ≡ Some p → is_in own p ≡ false
  preludes id p e = go (world id) refl e
    where
      go : (o : Option Placed) → world id ≡ o → prelude_module_of (option_map (λ (placed : Placed). placed.map) o) ≡ Some p → is_in own p ≡ false
      go None s f = absurd cc
      go (Some placed) s f = map_prelude id placed s p f

  holder_apart : (h : ModuleId) → is_some (frames_of world h.map) ≡ true → is_in own h ≡ false
  unfolding frames_of
  holder_apart h e = go (is_in own h) refl
    where
      go : (b : Bool) → is_in own h ≡ b → is_in own h ≡ false
      go true s =
          absurd (true≢false (sym e
          ∙ ap (λ (id : MapId). is_some (option_map frame_of (world id))) (exact_map h.map own s)
          ∙ ap (λ (o : Option Placed). is_some (option_map frame_of o)) absent))
      go false s = s

  holders : (hs : List ModuleId) (id : MapId) → holders_of_frame (frames_of world id) ≡ hs → All (λ (h : ModuleId). is_in own h ≡ false) hs
  holders [] id e = All-nil (λ (h : ModuleId). is_in own h ≡ false)
  holders (h ∷ hs) id e =
      let leads = checked.placed id h hs e in
      All-cons (λ (x : ModuleId). is_in own x ≡ false) h hs (holder_apart h leads.1) (holders hs h.map leads.2)

  pub KeepApart-world : KeepApart (finished_in maps) own
  KeepApart-world = record { absent = absent; modules = modules; holders = λ m. holders (holders_in world m) m.map refl; preludes = preludes }

-- ---- fewer maps

module _ (fewer finished : Maps) (own : MapId) (less : (id : MapId) (placed : Placed) → fewer id ≡ Some placed → finished id ≡ Some placed) (apart : KeepApart finished own) where
  fewer_absent : fewer own ≡ None
  fewer_absent = go (fewer own) refl
    where
      go : (o : Option Placed) → fewer own ≡ o → fewer own ≡ None
      go None s = s
      go (Some placed) s = let both : None ≡ Some placed = sym apart.absent ∙ less own placed s in absurd cc

  fewer_modules : (m : ModuleId) (value : ModuleValue) → module_in fewer m ≡ Some value → any_reference_in (is_named_in own) value ≡ false
  fewer_modules m value e = go (fewer m.map) refl e
    where
      go : (o : Option Placed) → fewer m.map ≡ o → option_and_then (λ (placed : Placed). module_at placed.map m.index) o ≡ Some value
          → any_reference_in (is_named_in own) value ≡ false
      go None s f = absurd cc
      go (Some placed) s f = apart.modules m value (ap (option_and_then (λ (x : Placed). module_at x.map m.index)) (less m.map placed s) ∙ f)

  fewer_holders : (m : ModuleId) → All (λ (h : ModuleId). is_in own h ≡ false) (holders_in fewer m)
  unfolding frames_of
  fewer_holders m = go (fewer m.map) refl
    where
      go : (o : Option Placed) → fewer m.map ≡ o → All (λ (h : ModuleId). is_in own h ≡ false) (holders_of_frame (option_map frame_of o))
      go None s = All-nil (λ (h : ModuleId). is_in own h ≡ false)
      go (Some placed) s =
          subst (λ (o : Option Placed). All (λ (h : ModuleId). is_in own h ≡ false) (holders_of_frame (option_map frame_of o))) (less m.map placed s)
          (apart.holders m)

  fewer_preludes : (id : MapId) (p : ModuleId) → prelude_module_of (map_in fewer id) ≡ Some p → is_in own p ≡ false
  fewer_preludes id p e = go (fewer id) refl e
    where
      go : (o : Option Placed) → fewer id ≡ o → prelude_module_of (option_map (λ (placed : Placed). placed.map) o) ≡ Some p → is_in own p ≡ false
      go None s f = absurd cc
      go (Some placed) s f =
          apart.preludes id p (ap (λ (o : Option Placed). prelude_module_of (option_map (λ (x : Placed). x.map) o)) (less id placed s) ∙ f)

  KeepApart-fewer : KeepApart fewer own
  KeepApart-fewer = record { absent = fewer_absent; modules = fewer_modules; holders = fewer_holders; preludes = fewer_preludes }

-- ---- the laws

pub worlds_apart : WorldsKeepApart
worlds_apart maps own checked absent = KeepApart-world maps own checked absent

pub some_apart : SomeMapsKeepApart
some_apart crates holders finished own apart =
    KeepApart-fewer (among crates holders finished) finished own (λ id placed e. (among-only crates holders finished id placed e).1) apart

pub parts_apart : PartsKeepApart
unfolding part_of
parts_apart part own absent = go (option_copied part.crates)
  where
    whole : KeepApart (finished_in part.maps.now) own
    whole = KeepApart-world part.maps.now own part.checked absent

    go : (o : Option (List Crate)) → KeepApart (limited_to o part.holders.now (finished_in part.maps.now)) own
    go None = whole
    go (Some crates) = some_apart crates part.holders.now (finished_in part.maps.now) own whole
