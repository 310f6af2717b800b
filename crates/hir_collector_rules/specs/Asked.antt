-- How are the keys of a run kept?
use Rattle.std.specs.Prelude.{◌≡◌, ◌++◌, List, [], ◌∷◌, Option, None, Some}
use Rattle.hir_nameres.specs.HirIds.declared.ids.Crate.{Crate}
use Rattle.hir_collector_rules.specs.declared.source_database.Key.{Key}
use Rattle.hir_collector_rules.specs.Keys.{config_key, dependency_keys, keys_behind}

-- these come first, and the others are those of crates
pub record IsOwnPart (own all : List Key) : Type 0 where
  pub krate : Crate
  pub dependencies : List Crate
  pub is : all ≡ own ++ keys_behind krate dependencies

-- the key of what a crate was handed in with, where one is to come
abbrev pub config_of : Option Crate → List Key
config_of None = []
config_of (Some krate) = config_key krate ∷ []

-- the keys that are still to come of a walk: those of steps, one of a crate, and those of the crates behind it
abbrev pub keys_left : List Key → Option Crate → List Crate → List Key
keys_left own config dependencies = own ++ (config_of config ++ dependency_keys dependencies)
