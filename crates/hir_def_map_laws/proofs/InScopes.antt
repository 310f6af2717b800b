-- A map that changes in its scopes alone keeps its modules and all variants.
use Rattle.std.proofs.Common.{◌≡◌, ◌∙◌, ap, sym, refl, ℕ, List, [], Bool, true, false, ◌&&◌, Option, None}
use Rattle.std.specs.Option.{option_and_then}
use Rattle.std.specs.Prelude.{is_some, slice_get}
use Rattle.hir_nameres.specs.HirIds.declared.ast_id.BlockId.{BlockId}
use Rattle.hir_nameres.specs.HirIds.declared.ids.MapId.{MapId}
use Rattle.hir_nameres.specs.HirIds.declared.ids.ModuleId.{ModuleId}
use Rattle.hir_nameres.specs.HirIds.contracts.ids.MapIdPartialEq.TheImpl as map_id
use Rattle.hir_nameres.specs.HirDefMapRules.Inner.OverlayLaws.{exact_map}
use Rattle.hir_nameres.specs.HirDefMapRules.Ancestors.{Frame, frame_of, numbers_above}
use Rattle.hir_nameres.specs.HirDefMapRules.State.{Map, entry_at, parent_at}
use Rattle.hir_nameres.specs.HirDefMapRules.Overlay.{Maps, holders_or, holders_under, placed_in}
use Rattle.hir_nameres.specs.Scoping.Slots.{is_in}
use Rattle.hir_nameres.specs.HirDefMapRules.declared.reference.Reference.{Reference}
use Rattle.hir_nameres.specs.HirDefMapRules.declared.reference.Reference.TheVariants as named
use Rattle.hir_nameres.proofs.HirDefMapRules.Grown.{frame_of-changed}
use Rattle.hir_nameres.proofs.HirDefMapRules.WellFormed.{parent_listed}
use Rattle.hir_def_map_laws.proofs.Changed.{Change, has_others}
use Rattle.hir_nameres.proofs.HirDefMapRules.Fails.{Fails-nowhere}
use Rattle.hir_def_map_laws.specs.ReadLaw.{ChangedModulesDifferInScopes, CrateMapsBeginOutside, CratesAreOutside, DiffersInScopes, KeepApart}

and-no : (b : Bool) → (b && false) ≡ false
and-no true = refl
and-no false = refl

-- no enum has other variants afterwards
pub none_changes : (own : MapId) (n : Reference) → has_others own (λ id. false) n ≡ false
none_changes own (named.Module m) = refl
none_changes own (named.Enum id) = and-no (map_id.ghosts.eq id.loc.container.map own)
none_changes own (named.Map id) = refl

module _ (finished : Maps) (one other : Map) (apart : KeepApart finished one.id) (differs : DiffersInScopes one other) where
  pub same_parent : (at : ℕ) → parent_at other at ≡ parent_at one at
  same_parent at =
      sym (parent_listed other.modules at)
      ∙ ap (λ (ps : List (Option ModuleId)). option_and_then (λ (p : Option ModuleId). p) (slice_get ps at)) differs.parents
      ∙ parent_listed one.modules at

  pub same_frame : frame_of (placed_in finished other) ≡ frame_of (placed_in finished one)
  same_frame = λ i. record {
    id = differs.id i;
    parents = differs.parents i;
    holders = holders_or (finished (differs.id i)) (holders_under finished (differs.id i) (differs.holder i));
  }

  abbrev pub in_scopes : Change
  in_scopes = record {
    finished = finished;
    one = one;
    other = other;
    apart = apart;
    id = differs.id;
    holder = differs.holder;
    crate_data = differs.crate_data;
    prelude = differs.prelude;
    bound = None;
    parents = λ at low. same_parent at;
    parents_below = λ at p low e. tt;
    above = λ at low. ap (λ (frame : Frame). numbers_above frame at) same_frame;
    changes = λ id. false;
    names = λ at name. Fails-nowhere (has_others one.id (λ id. false)) (none_changes one.id) (entry_at one at name);
    variants = λ id e. differs.enums id;
  }

-- a change of a module that leaves what it is in
pub changed_modules : ChangedModulesDifferInScopes
changed_modules map at change keeps = record {
  id = refl;
  holder = refl;
  crate_data = refl;
  prelude = refl;
  parents = ap (λ (frame : Frame). frame.parents) (frame_of-changed map [] at change keeps);
  enums = λ id. refl;
}

-- ---- where paths begin

pub crate_maps_outside : CrateMapsBeginOutside
crate_maps_outside own local none name entry e = ap (λ (o : Option BlockId). is_some o && is_in own entry.0) none

pub crates_outside : CratesAreOutside
crates_outside own local begins name entry e = go (is_in own entry.0) refl
  where
    go : (b : Bool) → is_in own entry.0 ≡ b → (is_some own.block && is_in own entry.0) ≡ false
    go true s =
        let none : own.block ≡ None = ap (λ (id : MapId). id.block) (sym (exact_map entry.0.map own s)) ∙ begins name entry e in
        ap (λ (o : Option BlockId). is_some o && is_in own entry.0) none
    go false s = ap (λ (b : Bool). is_some own.block && b) s ∙ and-no (is_some own.block)
