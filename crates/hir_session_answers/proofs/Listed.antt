-- Items that are listed stand on what is kept.
use Rattle.std.specs.Prelude.{cond, is_none, slice_get}
use Rattle.std.proofs.Common.{◌≡◌, ◌∙◌, ap, sym, refl, ℕ, Bool, true, false, Option, Some, None, Result, Ok, Err}
use Rattle.hir_session_state.specs.HirBase.ModPath.{Path}
use Rattle.hir_session_state.specs.HirBase.Place.{PlaceValue}
use Rattle.hir_session_state.specs.HirIds.declared.ids.ImplId.{ImplId}
use Rattle.hir_session_state.specs.HirIds.declared.ids.ModuleId.{ModuleId}
use Rattle.hir_session_state.specs.HirIds.declared.ids.TraitId.{TraitId}
use Rattle.hir_session_state.specs.HirDefMapRules.Overlay.{overlay}
use Rattle.hir_session_state.specs.HirDefMapRules.Scoping.{resolution_of}
use Rattle.hir_session_state.specs.HirMessages.declared.command.Shadow.TheVariants as shadow
use Rattle.hir_session_state.specs.HirMessages.declared.items.Items.{Items}
use Rattle.hir_session_state.specs.HirMessages.declared.reply.Status.{Status}
use Rattle.hir_session_state.specs.HirMessages.declared.reply.Status.TheVariants as status
use Rattle.hir_session_state.specs.Kept.{Resolutions, kept_in}
use Rattle.hir_session_state.specs.SessionState.{SessionState, Resolution, kept_of, module_of, read_of, IsSound}
use Rattle.hir_session_state.specs.declared.error.ImplItemsError.{ImplItemsError}
use Rattle.hir_session_state.specs.declared.error.TraitItemsError.{TraitItemsError}
use Rattle.hir_session_answers.specs.Answers.{asking_of}
use Rattle.hir_session_answers.specs.AssocItems.{ListsImpl, ListsTrait, impl_asked, impl_at, impl_by, impl_from, impl_kept, impls_of, trait_asked, trait_at}
use Rattle.hir_session_answers.specs.AssocItems.{trait_by, trait_from, trait_kept, trait_named}
use Rattle.hir_session_answers.specs.ItemsStand.{ImplStands, TraitStands}
use Rattle.hir_session_answers.specs.Status.{status_of}
use Rattle.hir_session_answers.proofs.Stand.{stands_at}

-- ---- traits

-- one that is found at all is found over what is kept
trait_current : (now : Status) (found : Result TraitId TraitItemsError) (id : TraitId) → trait_by now found ≡ Ok id → found ≡ Ok id
trait_current status.Current found id e = e
trait_current status.Stale found id e = absurd (let wrong : ⊥ = cc in wrong)
trait_current status.Unknown found id e = absurd (let wrong : ⊥ = cc in wrong)

-- its map is kept
trait_marked : (b : Bool) (x id : TraitId) (why : TraitItemsError) → cond b (Err why) (Ok x) ≡ Ok id → (b ≡ false) × (x ≡ id)
trait_marked true x id why e = absurd (let wrong : ⊥ = cc in wrong)
trait_marked false x id why e = (refl, let same : x ≡ id = cc in same)

trait_there : (kept : Resolutions) (o : Option TraitId) (id : TraitId) → trait_kept kept o ≡ Ok id → (o ≡ Some id)
    × (is_none (kept_in kept id.loc.container.map) ≡ false)
trait_there kept None id e = absurd (let wrong : ⊥ = cc in wrong)
trait_there kept (Some x) id e =
    let is = trait_marked (is_none (kept_in kept x.loc.container.map)) x id _ e in
    (ap (λ (i : TraitId). Some i) is.1, ap (λ (i : TraitId). is_none (kept_in kept i.loc.container.map)) (sym is.1) ∙ is.0)

-- what is kept of its map is there
pub trait_map_kept : (s : SessionState) (place : PlaceValue) (path : Path) (id : TraitId) → trait_at s place path ≡ Ok id
    → is_none (kept_of s id.loc.container.map) ≡ false
trait_map_kept s place path id given = go (module_of s place) (trait_current (status_of s place) (trait_asked s (module_of s place) path) id given)
  where
    found_in : (m : ModuleId) (o : Option Resolution) → trait_from s.kept (read_of s m.map) o m path ≡ Ok id → is_none (kept_of s id.loc.container.map) ≡ false
    found_in m None e = absurd (let wrong : ⊥ = cc in wrong)
    found_in m (Some r) e =
        (trait_there s.kept (trait_named (resolution_of (overlay (read_of s m.map) r.map) (asking_of r.local shadow.Other None) m path)) id e).1

    go : (o : Option ModuleId) → trait_asked s o path ≡ Ok id → is_none (kept_of s id.loc.container.map) ≡ false
    go None e = absurd (let wrong : ⊥ = cc in wrong)
    go (Some m) e = found_in m (kept_of s m.map) e

pub trait_stands : (s : SessionState) (place : PlaceValue) (path : Path) (id : TraitId) (told : Items) (t : SessionState) → IsSound s → trait_at s place path
    ≡ Ok id
    → ListsTrait s id told t → TraitStands s place path told t
trait_stands s place path id told t sound given lists =
    go (module_of s place) refl (trait_current (status_of s place) (trait_asked s (module_of s place) path) id given)
  where
    found_in : (m : ModuleId) → module_of s place ≡ Some m → (o : Option Resolution) → kept_of s m.map ≡ o → trait_from s.kept (read_of s m.map) o m path
        ≡ Ok id
        → TraitStands s place path told t
    found_in m named None is e = absurd (let wrong : ⊥ = cc in wrong)
    found_in m named (Some r) is e =
        let there = trait_there s.kept (trait_named (resolution_of (overlay (read_of s m.map) r.map) (asking_of r.local shadow.Other None) m path)) id e in
        record {
          asked_from = m;
          named = named;
          found = r;
          stands = stands_at s sound m.map r is;
          id = id;
          is = there.0;
          own = lists.flattened.found;
          around = stands_at s sound id.loc.container.map lists.flattened.found lists.flattened.is;
          lists = lists;
        }

    go : (o : Option ModuleId) → module_of s place ≡ o → trait_asked s o path ≡ Ok id → TraitStands s place path told t
    go None named e = absurd (let wrong : ⊥ = cc in wrong)
    go (Some m) named e = found_in m named (kept_of s m.map) refl e

-- ---- impls

-- one that is found at all is found over what is kept
impl_current : (now : Status) (found : Result ImplId ImplItemsError) (id : ImplId) → impl_by now found ≡ Ok id → found ≡ Ok id
impl_current status.Current found id e = e
impl_current status.Stale found id e = absurd (let wrong : ⊥ = cc in wrong)
impl_current status.Unknown found id e = absurd (let wrong : ⊥ = cc in wrong)

-- its map is kept
impl_marked : (b : Bool) (x id : ImplId) (why : ImplItemsError) → cond b (Err why) (Ok x) ≡ Ok id → (b ≡ false) × (x ≡ id)
impl_marked true x id why e = absurd (let wrong : ⊥ = cc in wrong)
impl_marked false x id why e = (refl, let same : x ≡ id = cc in same)

impl_there : (kept : Resolutions) (o : Option ImplId) (id : ImplId) → impl_kept kept o ≡ Ok id → (o ≡ Some id)
    × (is_none (kept_in kept id.loc.container.map) ≡ false)
impl_there kept None id e = absurd (let wrong : ⊥ = cc in wrong)
impl_there kept (Some x) id e =
    let is = impl_marked (is_none (kept_in kept x.loc.container.map)) x id _ e in
    (ap (λ (i : ImplId). Some i) is.1, ap (λ (i : ImplId). is_none (kept_in kept i.loc.container.map)) (sym is.1) ∙ is.0)

-- what is kept of its map is there
pub impl_map_kept : (s : SessionState) (place : PlaceValue) (number : ℕ) (id : ImplId) → impl_at s place number ≡ Ok id
    → is_none (kept_of s id.loc.container.map) ≡ false
impl_map_kept s place number id given = go (module_of s place) (impl_current (status_of s place) (impl_asked s (module_of s place) number) id given)
  where
    found_in : (m : ModuleId) (o : Option Resolution) → impl_from s.kept o m number ≡ Ok id → is_none (kept_of s id.loc.container.map) ≡ false
    found_in m None e = absurd (let wrong : ⊥ = cc in wrong)
    found_in m (Some r) e = (impl_there s.kept (slice_get (impls_of r.map m.index) number) id e).1

    go : (o : Option ModuleId) → impl_asked s o number ≡ Ok id → is_none (kept_of s id.loc.container.map) ≡ false
    go None e = absurd (let wrong : ⊥ = cc in wrong)
    go (Some m) e = found_in m (kept_of s m.map) e

pub impl_stands : (s : SessionState) (place : PlaceValue) (number : ℕ) (id : ImplId) (told : Items) (t : SessionState) → IsSound s → impl_at s place number
    ≡ Ok id
    → ListsImpl s id told t → ImplStands s place number told t
impl_stands s place number id told t sound given lists =
    go (module_of s place) refl (impl_current (status_of s place) (impl_asked s (module_of s place) number) id given)
  where
    found_in : (m : ModuleId) → module_of s place ≡ Some m → (o : Option Resolution) → kept_of s m.map ≡ o → impl_from s.kept o m number ≡ Ok id
        → ImplStands s place number told t
    found_in m named None is e = absurd (let wrong : ⊥ = cc in wrong)
    found_in m named (Some r) is e =
        let there = impl_there s.kept (slice_get (impls_of r.map m.index) number) id e in
        record {
          asked_from = m;
          named = named;
          found = r;
          stands = stands_at s sound m.map r is;
          id = id;
          is = there.0;
          own = lists.flattened.found;
          around = stands_at s sound id.loc.container.map lists.flattened.found lists.flattened.is;
          lists = lists;
        }

    go : (o : Option ModuleId) → module_of s place ≡ o → impl_asked s o number ≡ Ok id → ImplStands s place number told t
    go None named e = absurd (let wrong : ⊥ = cc in wrong)
    go (Some m) named e = found_in m named (kept_of s m.map) refl e
