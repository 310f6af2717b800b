-- What holds of all lists of associated items?
use Rattle.std.specs.Prelude.{◌≡◌, List}
use Rattle.hir_collector_rules.specs.HirTables.Tables.{HasEachOnce}
use Rattle.hir_collector_rules.specs.Keys.{Environment}
use Rattle.hir_assoc_items.specs.AssocItems.{ContainerValue, FlattensTo, ListingValue}
use Rattle.hir_assoc_items.specs.Written.{WrittenValue}

-- items come to one listing, where no two numbers mean the same
abbrev pub ListingIsUnique : Type 0
ListingIsUnique =
    (env : Environment) (c : ContainerValue) (items : List WrittenValue) (a b : ListingValue) → HasEachOnce env.tables → FlattensTo env c items a
    → FlattensTo env c items b
    → a ≡ b
