-- What stands where, and whether two places are one?
use Rattle.std.specs.Prelude.{ℕ, Bool, true, false, List, Option, None, Some}
use Rattle.std.specs.Ordering.{is_eq}
use Rattle.hir_glob_imports.specs.declared.edge.Key.{Key}
use Rattle.hir_glob_imports.specs.declared.edge.Key.TheVariants.{Types, Values, Macros, Unnamed}
use Rattle.hir_glob_imports.specs.declared.edge.Slot.{Slot}
use Rattle.hir_glob_imports.specs.declared.edge.Target.{Target}
use Rattle.hir_glob_imports.specs.declared.edge.Target.TheVariants as target
use Rattle.hir_glob_imports.specs.contracts.edge.SlotOrd.TheImpl as slot_order

-- whether it is a trait that is imported without a name
abbrev pub is_unnamed : Key → Bool
is_unnamed (Types name) = false
is_unnamed (Values name) = false
is_unnamed (Macros name) = false
is_unnamed (Unnamed id) = true

-- the name
abbrev pub name_of : Key → Option (List ℕ)
name_of (Types name) = Some name
name_of (Values name) = Some name
name_of (Macros name) = Some name
name_of (Unnamed id) = None

abbrev pub slot_at : ℕ → Key → Slot
slot_at at key = record { at = at; key = key }

abbrev pub same_slot : Slot → Slot → Bool
same_slot a b = is_eq (slot_order.ghosts.cmp a b)

-- whether a target at a key is this slot
abbrev pub is_slot : Slot → Target → Key → Bool
is_slot s (target.Own at) key = same_slot s (slot_at at key)
is_slot s (target.Module id) key = false
is_slot s (target.Enum id) key = false
