-- A map that names only what is there stands beside finished maps that do.
use Rattle.std.proofs.Common.{◌≡◌, ◌∙◌, ap, sym, subst, refl, ℕ, List, Bool, true, false, ◌&&◌, cond, Option, None, Some}
use Rattle.std.specs.Option.{option_and_then, option_map}
use Rattle.std.specs.Prelude.{is_some, not}
use Rattle.std.proofs.lemmas.List.Elements.{All-weaker}
use mathlib.Core.Bool.{true≢false}
use Rattle.hir_nameres.specs.HirIds.declared.ids.MapId.{MapId}
use Rattle.hir_nameres.specs.HirIds.declared.ids.ModuleId.{ModuleId}
use Rattle.hir_nameres.specs.HirIds.declared.ids.UseId.{UseId}
use Rattle.hir_nameres.specs.HirIds.contracts.ids.MapIdPartialEq.TheImpl as map_id
use Rattle.hir_nameres.specs.HirDefMapRules.Inner.OverlayLaws.{exact_map, same_id}
use Rattle.hir_nameres.specs.HirDefMapRules.Ancestors.{holders_in}
use Rattle.hir_nameres.specs.HirDefMapRules.Closed.{AreThere, ModuleIsThere}
use Rattle.hir_nameres.specs.HirDefMapRules.WellFormed.{AreWellFormed, HasNoDanglingReference}
use Rattle.hir_nameres.specs.HirDefMapRules.References.{any_reference_in, is_missing, is_there, map_of_reference, prelude_reference, test_of}
use Rattle.hir_nameres.specs.HirDefMapRules.State.{Map, ModuleValue, entry_at, entry_of, module_at, numbered, variants_at}
use Rattle.hir_nameres.specs.HirDefMapRules.Overlay.{Maps, Placed, overlay, entry_in, module_in, placed_in}
use Rattle.hir_nameres.specs.HirDefMapRules.declared.reference.Reference.{Reference}
use Rattle.hir_nameres.specs.HirDefMapRules.declared.reference.Reference.TheVariants as named
use Rattle.hir_nameres.proofs.HirDefMapRules.WellFormed.{IsClosed-well_formed}
use Rattle.hir_nameres.proofs.HirDefMapRules.StaysWellFormed.{IsClosed-overlay}
use Rattle.hir_nameres.proofs.HirDefMapRules.Fails.{Fails-weaker}
use Rattle.hir_nameres.proofs.HirDefMapRules.NoneOf.{none_at}
use Rattle.hir_nameres.proofs.HirDefMapRules.Referred.{module_less}
use Rattle.hir_def_map_laws.specs.ReadLaw.{KeepApart, StandsBeside, has_no_variants, is_named_in}
use Rattle.hir_nameres.specs.Scoping.Slots.{is_in, prelude_module_of}

missing-not : (b : Bool) → not b ≡ false → b ≡ true
missing-not true e = refl
missing-not false e = absurd (true≢false e)

module _ (finished : Maps) (own : MapId) (absent : finished own ≡ None) where
  -- what is among the finished maps doesn't lie in the map of the id
  pub elsewhere : (n : Reference) → is_missing finished n ≡ false → is_named_in own n ≡ false
  elsewhere n e = go (map_id.ghosts.eq (map_of_reference n) own) refl
    where
      gone : (k : Reference) → finished (map_of_reference k) ≡ None → is_there finished k ≡ false
      gone (named.Module m) f = ap (λ (o : Option Placed). is_some (option_and_then (λ (placed : Placed). module_at placed.map m.index) o)) f
      gone (named.Enum id) f = ap (λ (o : Option Placed). is_some (option_and_then (λ (placed : Placed). variants_at placed.map id) o)) f
      gone (named.Map id) f = ap is_some f

      go : (b : Bool) → map_id.ghosts.eq (map_of_reference n) own ≡ b → is_named_in own n ≡ false
      go true s = absurd (true≢false (sym (missing-not (is_there finished n) e) ∙ gone n (ap finished (exact_map (map_of_reference n) own s) ∙ absent)))
      go false s = s

  there_apart : (m : ModuleId) → ModuleIsThere finished m → is_in own m ≡ false
  there_apart m there = elsewhere (named.Module m) (ap not there)

  prelude_apart : (o : Option Placed) → ((placed : Placed) → o ≡ Some placed → test_of (is_missing finished) (prelude_reference placed.map.prelude) ≡ false)
      → (p : ModuleId) → prelude_module_of (option_map (λ (placed : Placed). placed.map) o) ≡ Some p → is_in own p ≡ false
  prelude_apart None names p e = absurd cc
  prelude_apart (Some placed) names p e = go placed.map.prelude (names placed refl) e
    where
      go : (o : Option (ModuleId × Option UseId)) → test_of (is_missing finished) (prelude_reference o) ≡ false → option_map (λ x. x.0) o ≡ Some p → is_in own p
          ≡ false
      go None f g = absurd cc
      go (Some prelude) f g = let same : prelude.0 ≡ p = cc in subst (λ (m : ModuleId). is_in own m ≡ false) same (elsewhere (named.Module prelude.0) f)

  modules_apart : AreWellFormed finished → (m : ModuleId) (value : ModuleValue) → module_in finished m ≡ Some value → any_reference_in (is_named_in own) value
      ≡ false
  modules_apart whole m value e = go (finished m.map) refl e
    where
      go : (o : Option Placed) → finished m.map ≡ o → option_and_then (λ (placed : Placed). module_at placed.map m.index) o ≡ Some value
          → any_reference_in (is_named_in own) value ≡ false
      go None s f = absurd cc
      go (Some placed) s f =
          module_less (is_missing finished) (is_named_in own) elsewhere value
          (none_at (any_reference_in (is_missing finished)) placed.map.modules (whole m.map placed s).names.modules m.index value f)

  pub KeepApart-whole : AreWellFormed finished → KeepApart finished own
  KeepApart-whole whole =
      let closed = IsClosed-well_formed finished whole in
      record {
        absent = absent;
        modules = modules_apart whole;
        holders = λ m. All-weaker (ModuleIsThere finished) (λ (h : ModuleId). is_in own h ≡ false) there_apart (holders_in finished m) (closed.holders m);
        preludes = λ id p e. prelude_apart (finished id) (λ placed f. (whole id placed f).names.prelude) p e;
      }

module _ (finished : Maps) (map : Map) (whole : AreWellFormed finished) (absent : finished map.id ≡ None) (names : HasNoDanglingReference (overlay finished map) map) where
  has_variants : (n : Reference) → is_missing (overlay finished map) n ≡ false → has_no_variants map n ≡ false
  has_variants (named.Module m) e = refl
  has_variants (named.Enum id) e = go (map_id.ghosts.eq id.loc.container.map map.id) refl
    where
      go : (b : Bool) → map_id.ghosts.eq id.loc.container.map map.id ≡ b → (b && not (is_some (variants_at map id))) ≡ false
      go true s =
          ap (λ (c : Bool). not (is_some (option_and_then (λ (placed : Placed). variants_at placed.map id)
          (cond c (Some (placed_in finished map)) (finished id.loc.container.map))))) (sym s) ∙ e
      go false s = refl
  has_variants (named.Map id) e = refl

  entry_own : (at : ℕ) (name : List ℕ) → entry_in (overlay finished map) (numbered map.id at) name ≡ entry_at map at name
  entry_own at name =
      ap (λ (c : Bool). entry_of (option_and_then (λ (placed : Placed). module_at placed.map at) (cond c (Some (placed_in finished map)) (finished map.id)))
      name) (same_id map.id)

  pub StandsBeside-whole : StandsBeside finished map
  StandsBeside-whole =
      let closed = IsClosed-overlay finished map absent whole names in
      record {
        apart = KeepApart-whole finished map.id absent whole;
        in_order = names.in_order;
        enums = λ at name. Fails-weaker (is_missing (overlay finished map)) (has_no_variants map) has_variants (entry_at map at name)
            (subst (AreThere (overlay finished map)) (entry_own at name) (closed.names (numbered map.id at) name));
      }
