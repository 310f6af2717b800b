-- What is stored under crates, by key? No public clause speaks of this.
use Rattle.std.specs.Prelude.{List, [], Option, Some, None}
use Rattle.std.specs.BTreeMap.{BTreeMap, get}
use Rattle.std.specs.Map.{keys_of}
use Rattle.hir_session_state.specs.HirIds.declared.ids.Crate.{Crate}
use Rattle.hir_session_state.specs.HirIds.contracts.ids.CrateOrd.TheImpl as crate_order

-- by crate, what is stored by key
abbrev pub ByCrate : Type 0 → Type 0 → Type 0
ByCrate K V = BTreeMap Crate (BTreeMap K V)

-- the entries of a map, none where there is no map
abbrev pub entries_of : {K V : Type 0} → Option (BTreeMap K V) → List (K × V)
entries_of None = []
entries_of (Some own) = own.entries

-- the entries under a crate
abbrev pub entries_under : {K V : Type 0} → ByCrate K V → Crate → List (K × V)
entries_under stored krate = entries_of (get crate_order.ghosts.cmp stored krate)

-- the keys under a crate
abbrev pub keys_under : {K V : Type 0} → ByCrate K V → Crate → List K
keys_under stored krate = keys_of (entries_under stored krate)
