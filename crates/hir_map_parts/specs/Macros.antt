-- What becomes of the attributes that derives bring?
use Rattle.std.specs.Prelude.{List, [], ◌∷◌, ◌++◌, Option, None, Some}
use Rattle.std.specs.BTreeMap.{is_at}
use Rattle.std.specs.Map.{set_value}
use Rattle.hir_ids.specs.declared.ast_id.AstId.{AstId}
use Rattle.hir_ids.specs.contracts.ast_id.AstIdOrd.TheImpl as ast_order
use Rattle.hir_map_parts.specs.declared.derive_helpers.DeriveHelper.{DeriveHelper}

-- helpers by items, with one more behind those of an item that has some
abbrev pub with_behind : List (AstId × List DeriveHelper) → AstId → DeriveHelper → Option (List DeriveHelper) → List (AstId × List DeriveHelper)
with_behind helpers item helper None = helpers
with_behind helpers item helper (Some of_item) = set_value (is_at (ast_order.ghosts.cmp item)) helpers (of_item ++ helper ∷ [])
