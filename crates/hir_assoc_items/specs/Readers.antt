-- Which of the items have a name?
use Rattle.std.specs.Prelude.{ℕ, List, [], ◌∷◌, Option, None, Some, cond}
use Rattle.std.specs.Str.{bytes_eq}
use Rattle.hir_collector_rules.specs.HirIds.declared.ids.AssocItemId.{AssocItemId}
use Rattle.hir_collector_rules.specs.HirIds.declared.ids.AssocItemId.TheVariants.{FunctionId, ConstId, TypeAliasId}
use Rattle.hir_collector_rules.specs.HirIds.declared.ids.FunctionId.{FunctionId as Function}
use Rattle.hir_collector_rules.specs.HirIds.declared.ids.TypeAliasId.{TypeAliasId as TypeAlias}

abbrev pub Named : Type 0
Named = List ℕ × AssocItemId

abbrev pub as_function : AssocItemId → Option Function
as_function (FunctionId id) = Some id
as_function (ConstId id) = None
as_function (TypeAliasId id) = None

abbrev pub as_type : AssocItemId → Option TypeAlias
as_type (FunctionId id) = None
as_type (ConstId id) = None
as_type (TypeAliasId id) = Some id

abbrev pub as_item : AssocItemId → Option AssocItemId
as_item id = Some id

abbrev pub or_first : {A : Type 0} → Option A → Option A → Option A
or_first None later = later
or_first (Some a) later = Some a

-- an item as what is asked for, if it has the name
abbrev pub if_named : {A : Type 0} → (AssocItemId → Option A) → List ℕ → Named → Option A
if_named as_kind name i = cond (bytes_eq i.0 name) (as_kind i.1) None

-- the first of this name that is what is asked for
abbrev pub first_named : {A : Type 0} → (AssocItemId → Option A) → List ℕ → List Named → Option A
first_named as_kind name [] = None
first_named as_kind name (i ∷ is) = or_first (if_named as_kind name i) (first_named as_kind name is)

-- the type aliases, in their order
abbrev pub and_type : Option TypeAlias → List TypeAlias → List TypeAlias
and_type None ids = ids
and_type (Some id) ids = id ∷ ids

abbrev pub types_among : List Named → List TypeAlias
types_among [] = []
types_among (i ∷ is) = and_type (as_type i.1) (types_among is)
