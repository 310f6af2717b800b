-- What the items of a trait or an impl are listed and told over.
use Rattle.std.proofs.Common.{◌≡◌, ◌∙◌, ◌<◌, ap, sym, subst, refl, false, List, length, Option, Some, None}
use Rattle.hir_session_state.specs.HirBase.ModPath.{Path}
use Rattle.hir_session_state.specs.HirIds.declared.ast_id.AstKind.{AstKind}
use Rattle.hir_session_state.specs.HirIds.declared.ids.ItemContainerId.{ItemContainerId}
use Rattle.hir_session_state.specs.HirIds.declared.ids.ItemLoc.{ItemLoc}
use Rattle.hir_session_state.specs.HirIds.declared.ids.MapId.{MapId}
use Rattle.hir_session_state.specs.HirIds.declared.ids.ModuleId.{ModuleId}
use Rattle.hir_session_state.specs.HirIds.declared.ids.TraitId.{TraitId}
use Rattle.hir_session_state.specs.HirTables.Tables.{KeepsTables, TablesValue}
use Rattle.hir_session_state.specs.HirDefMapRules.Overlay.{Maps, overlay}
use Rattle.hir_session_state.specs.HirDefMapRules.Scoping.{resolution_of}
use Rattle.hir_assoc_items.specs.AssocItems.{FlattensTo, IsTooMany, ListingValue, ReachesUnknown, container_of, items_written}
use Rattle.hir_assoc_items.specs.Written.{WrittenValue}
use Rattle.hir_session_state.specs.HirCollectorRules.Keys.{environment}
use Rattle.hir_session_state.specs.HirMessages.declared.command.Shadow.TheVariants as shadow
use Rattle.hir_session_state.specs.HirMessages.declared.items.Items.{Items}
use Rattle.hir_session_state.specs.SessionState.{SessionState, Resolution, is_marked, kept_of, read_of, read_under, workspace_of, IsPlace, IsSound}
use Rattle.hir_session_state.specs.SessionState.IsPlace.{of_block, of_crate}
use Rattle.hir_session_answers.specs.Answers.{asking_of}
use Rattle.hir_session_answers.specs.AssocItems.{Flattens, IsTooManyIn, Tells, items_told, trait_asked, trait_from, trait_kept, trait_named}
use Rattle.hir_session_answers.proofs.KnownSources.{calls_known}
use Rattle.hir_session_answers.proofs.LeftOut.{read_kept}

-- the crate of a place is there
place_within : (s : SessionState) (id : MapId) → IsPlace s id → id.krate.0 < length s.crates
place_within s id (of_crate none within) = within
place_within s id (of_block b place is means own within set) = within

-- and that of a map that is kept
pub kept_within : (s : SessionState) → IsSound s → (id : MapId) → is_marked s id ≡ false → id.krate.0 < length s.crates
kept_within s sound id off = place_within s id (sound.placed id off)

module _ (s view : SessionState) (seen : s ≡ view) (id : MapId) (r : Resolution) (is : kept_of s id ≡ Some r) (maps : Maps)
    (are : maps ≡ overlay (read_under s id r.holders) r.map) where
  -- the maps that are read, with its own on top
  over_read : maps ≡ overlay (read_of s id) r.map
  over_read = are ∙ ap (λ (read : Maps). overlay read r.map) (sym (read_kept s id r is))

  pub flattened : (T : TablesValue) (holder : ItemContainerId) (loc : ItemLoc ModuleId) (node : AstKind) (listing : ListingValue)
      → FlattensTo (environment T (workspace_of s)) (container_of maps r.local holder) (items_written s.tables (workspace_of s) loc node) listing
      → Flattens view (record s { tables = T }) id holder (items_written view.tables (workspace_of view) loc node) listing
  flattened T holder loc node listing h =
      subst (λ (v : SessionState). Flattens v (record s { tables = T }) id holder (items_written v.tables (workspace_of v) loc node) listing) seen (record {
        found = r;
        is = is;
        flattens =
            subst (λ (ms : Maps). FlattensTo (environment T (workspace_of s)) (container_of ms r.local holder)
            (items_written s.tables (workspace_of s) loc node) listing) over_read h;
      })

  pub passed : (T : TablesValue) (holder : ItemContainerId) (loc : ItemLoc ModuleId) (node : AstKind)
      → IsTooMany (environment T (workspace_of s)) (container_of maps r.local holder) (items_written s.tables (workspace_of s) loc node)
      → IsTooManyIn view (record s { tables = T }) id holder (items_written view.tables (workspace_of view) loc node)
  passed T holder loc node h =
      subst (λ (v : SessionState). IsTooManyIn v (record s { tables = T }) id holder (items_written v.tables (workspace_of v) loc node)) seen (record {
        found = r;
        is = is;
        too_many =
            subst (λ (ms : Maps). IsTooMany (environment T (workspace_of s)) (container_of ms r.local holder)
            (items_written s.tables (workspace_of s) loc node)) over_read h;
      })

  pub never_unknown : IsSound s → (T : TablesValue) → KeepsTables s.tables T → (holder : ItemContainerId) (items : List WrittenValue)
      → ¬ ReachesUnknown (environment T (workspace_of s)) (container_of maps r.local holder) items
  never_unknown sound T keeps holder items unknown =
      calls_known s sound T keeps id r is holder items
      (subst (λ (ms : Maps). ReachesUnknown (environment T (workspace_of s)) (container_of ms r.local holder) items) are unknown)

  pub tells : (listing : ListingValue) (told : Items) → told ≡ items_told s.tables maps listing → Tells view id listing told
  tells listing told e = subst (λ (v : SessionState). Tells v id listing told) seen (record {
    found = r;
    is = is;
    are = e ∙ ap (λ (ms : Maps). items_told s.tables ms listing) over_read;
  })

-- the trait that a path names from a module, over what is kept
pub trait_over : (s : SessionState) (m : ModuleId) (path : Path) (r : Resolution) (is : kept_of s m.map ≡ Some r) (maps : Maps) → maps
    ≡ overlay (read_under s m.map r.holders) r.map
    → (found : Option TraitId) → found ≡ trait_named (resolution_of maps (asking_of r.local shadow.Other None) m path) → trait_asked s (Some m) path
    ≡ trait_kept s.kept found
trait_over s m path r is maps are found named =
    ap (λ (o : Option Resolution). trait_from s.kept (read_of s m.map) o m path) is
    ∙ ap (λ (ms : Maps). trait_kept s.kept (trait_named (resolution_of ms (asking_of r.local shadow.Other None) m path)))
    (sym (over_read s s refl m.map r is maps are))
    ∙ ap (trait_kept s.kept) (sym named)
