-- What visibilities mean in a map beside finished ones.
use Rattle.std.specs.Prelude.{Bool, true, false, Option}
use Rattle.hir_nameres.specs.HirIds.declared.ids.ModuleId.{ModuleId}
use Rattle.hir_nameres.specs.HirRawVisibility.declared.raw_visibility.RawVisibility.{RawVisibility}
use Rattle.hir_nameres.specs.HirPerNs.Visibility.{greater_of, is_visible, lesser_of}
use Rattle.hir_nameres.specs.HirPerNs.declared.visibility.Visibility.{Visibility}
use Rattle.hir_nameres.specs.HirPerNs.declared.visibility.Visibility.TheVariants as visibilities
use Rattle.hir_nameres.specs.HirDefMapRules.Ancestors.{above_in, holders_in}
use Rattle.hir_nameres.specs.HirDefMapRules.State.{Local, Map}
use Rattle.hir_nameres.specs.HirDefMapRules.Overlay.{Maps, overlay}
use Rattle.hir_nameres.specs.HirDefMapRules.Visibilities.{written_visibility}

-- what a visibility means that is written in a module of the map; one whose path leads to no module counts as public
unfoldable pub visibility_in : Maps → Local → Map → ModuleId → RawVisibility → Visibility
visibility_in finished local m at raw = written_visibility (overlay finished m) local at false raw

-- the lesser of two visibilities, none where they are unrelated
unfoldable pub lesser_in : Maps → Map → Visibility → Visibility → Option Visibility
lesser_in finished m a b = lesser_of (above_in (overlay finished m)) m.id a b

-- the greater of two visibilities, none where they are unrelated
unfoldable pub greater_in : Maps → Map → Visibility → Visibility → Option Visibility
greater_in finished m a b = greater_of (above_in (overlay finished m)) m.id a b

-- whether a module may see what has this visibility
unfoldable pub sees_in : Maps → Map → ModuleId → Visibility → Bool
sees_in finished m from vis = is_visible (above_in (overlay finished m)) (holders_in (overlay finished m)) vis from

-- whether all may see
abbrev pub is_public : Visibility → Bool
is_public visibilities.Public = true
is_public (visibilities.PubCrate krate) = false
is_public (visibilities.Module m explicitness) = false
