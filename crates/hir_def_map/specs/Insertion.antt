-- What does an insertion answer?
use Rattle.std.specs.Prelude.{◌≡◌, ◌&&◌, ◌||◌, Bool, true, false, not, is_some, Result, Ok, Err}
use Rattle.std.specs.BTreeSet.{BTreeSet, contains}
use Rattle.hir_nameres.specs.HirIds.declared.ids.MapId.{MapId}
use Rattle.hir_nameres.specs.HirIds.contracts.ids.MapIdOrd.TheImpl as map_order
use Rattle.hir_def_map.specs.declared.world.insert.InsertError.{InsertError}
use Rattle.hir_def_map.specs.declared.world.insert.InsertError.TheVariants.{Unchecked, Memory}
use Rattle.hir_def_map.specs.declared.world.insert.Refused.{Refused}
use Rattle.hir_def_map_rules.specs.State.{Local, Map}
use Rattle.hir_def_map_rules.specs.Overlay.{Maps}
use Rattle.hir_def_map_rules.specs.References.{is_well_formed}

-- whether a map may join finished ones: none has its id, and it's complete beside them
abbrev pub may_join : Maps → Map → Local → Bool
may_join finished map local = not (is_some (finished map.id)) && is_well_formed finished map local

-- a map is refused unchecked where it may not join, and for want of memory where it may
abbrev pub IsReason : Bool → InsertError → Type 0
IsReason may Unchecked = may ≡ false
IsReason may Memory = may ≡ true

-- what was refused is handed back
abbrev pub Inserts : {T : Type 0} → Bool → Map → Local → Result T Refused → Type 0
Inserts may map local (Ok x) = may ≡ true
Inserts may map local (Err refused) = (refused.map ≡ map) × (refused.local ≡ local) × IsReason may refused.why

-- a set of ids that gains those for which a test holds
pub record Gains (old new : BTreeSet MapId) (test : MapId → Bool) : Type 0 where
  pub has : (id : MapId) → contains map_order.ghosts.cmp new id ≡ (contains map_order.ghosts.cmp old id || test id)
