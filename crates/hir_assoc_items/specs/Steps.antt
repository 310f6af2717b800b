-- Where a walk over a list stands; no clause of a query speaks of this.
use Rattle.std.specs.Prelude.{◌≡◌, ℕ, ◌+◌, List, [], ◌∷◌, ◌++◌, IsSome, None, map, reverse, Option}
use Rattle.hir_collector_rules.specs.HirBase.ModPath.{Path}
use Rattle.hir_collector_rules.specs.HirIds.declared.ast_id.AstId.{AstId}
use Rattle.hir_collector_rules.specs.HirBase.declared.locations.LocationsError.{LocationsError}
use Rattle.hir_collector_rules.specs.HirIds.declared.ast_id.MacroCallId.{MacroCallId}
use Rattle.hir_collector_rules.specs.HirIds.declared.macro_kind.MacroId.{MacroId}
use Rattle.hir_collector_rules.specs.HirBase.declared.locations.LocationsError.TheVariants as numbers
use Rattle.hir_collector_rules.specs.HirItemTree.SourceTree.{SourceTreeValue}
use Rattle.hir_collector_rules.specs.HirTables.Tables.{TablesValue, source_of}
use Rattle.hir_collector_rules.specs.HirNameres.DefMaps.{maps_of}
use Rattle.hir_collector_rules.specs.Calls.{call_tree}
use Rattle.hir_collector_rules.specs.Keys.{Environment}
use Rattle.hir_collector_rules.specs.Moves.{OnceGrown}
use Rattle.hir_collector_rules.specs.Workspace.{Workspace}
use Rattle.hir_assoc_items.specs.AssocItems.{Becomes, ComesUp, ContainerValue, FlattensTo, HasNoNumber, IsNumberOfCall, IsUnknown, ListingValue, Reaches, call_error, first_missing}
use Rattle.hir_assoc_items.specs.AssocItems.{call_source, container_of, followed_by, inner_paths, listing_of}
use Rattle.hir_assoc_items.specs.Written.{WrittenValue, item_node, written_view}
use Rattle.hir_assoc_items.specs.declared.container.Container.{Container}
use Rattle.hir_assoc_items.specs.declared.error.AssocItemsError.{AssocItemsError}
use Rattle.hir_assoc_items.specs.declared.error.AssocItemsError.TheVariants as errors
use Rattle.hir_assoc_items.specs.declared.expansions.CallLook.{CallLook}
use Rattle.hir_assoc_items.specs.declared.expansions.CallLook.TheVariants.{Expands, Waits}
use Rattle.hir_assoc_items.specs.declared.flatten.Listing.{Listing}
use Rattle.hir_assoc_items.specs.declared.written.Written.{Written}

abbrev pub refusal_of_number : LocationsError → AssocItemsError
refusal_of_number numbers.TooMany = errors.TooMany
refusal_of_number numbers.Memory = errors.Memory

abbrev pub container_view : Container → ContainerValue
container_view c = container_of (maps_of c.maps) c.local.now c.holder

-- what is left, where the next is the last
abbrev pub left_of : List Written → List WrittenValue
left_of items = map written_view (reverse items)

-- the sources of items have numbers
abbrev pub AreMeant : TablesValue → List WrittenValue → Type 0
AreMeant tables [] = Unit {0}
AreMeant tables (i ∷ is) = IsSome (source_of tables i.tree) × AreMeant tables is

-- ---- what was found

abbrev pub listing_view : Listing → ListingValue
listing_view l = listing_of l.items.items l.macro_calls.items l.diagnostics.items

-- what is seen of a call that reaches a macro
pub record SeesCall (tables : TablesValue) (w : Workspace) (c : ContainerValue) (node : AstId) (makro : MacroId) (id : MacroCallId) (error : Option (List ℕ))
    (source : SourceTreeValue) : Type 0 where
  pub numbered : OnceGrown tables w (λ env. IsNumberOfCall env c node makro id)
  pub told : OnceGrown tables w (λ env. error ≡ call_error env c node makro)
  pub brought : OnceGrown tables w (λ env. source ≡ call_source env c id)
  pub first : OnceGrown tables w (λ env. first_missing c (inner_paths env c node makro) ≡ None)
  pub meant : IsSome (source_of tables (call_tree id))

-- what is found of it: what it expands to, or the paths that the macro asks for first, of which one reaches nothing
abbrev pub IsLook : TablesValue → Workspace → ContainerValue → AstId → MacroId → CallLook → Type 0
IsLook tables w c node makro (Expands e) = SeesCall tables w c node makro e.id e.error e.source.value
IsLook tables w c node makro (Waits inner) =
    OnceGrown tables w (λ env. inner ≡ inner_paths env c node makro) × IsSome (first_missing c inner)

-- an item was taken: it adds this, and these stand in its place
pub record Takes (tables : TablesValue) (w : Workspace) (c : ContainerValue) (i : WrittenValue) (before after : List WrittenValue)
    (old new : ListingValue) : Type 0 where
  pub ahead : ListingValue
  pub inside : List WrittenValue
  pub becomes : OnceGrown tables w (λ env. Becomes env c i ahead inside)
  pub left : after ≡ inside ++ before
  pub found : new ≡ followed_by old ahead
  pub meant : AreMeant tables inside

-- once these are left of all items, and this was found
pub record IsOnItsWay (tables : TablesValue) (w : Workspace) (c : ContainerValue) (all left : List WrittenValue) (found : ListingValue) (count : ℕ) : Type
    0 where
  pub flattens : OnceGrown tables w (λ env. (behind : ListingValue) → FlattensTo env c left behind → FlattensTo env c all (followed_by found behind))
  pub comes : OnceGrown tables w (λ env. (n : ℕ) (i : WrittenValue) → ComesUp env c left n i → ComesUp env c all (count + n) i)
  pub meant : AreMeant tables left

-- ---- why a walk is given up at an item

-- a call that reaches a macro gets no number
pub record IsGivenUp (env : Environment) (c : ContainerValue) (i : WrittenValue) : Type 0 where
  pub path : Path
  pub makro : MacroId
  pub reaches : Reaches c i path makro
  pub out : HasNoNumber env c (item_node i) makro

-- the source of the macro that it reaches has no number
pub record LeadsToUnknown (env : Environment) (c : ContainerValue) (i : WrittenValue) : Type 0 where
  pub path : Path
  pub makro : MacroId
  pub reaches : Reaches c i path makro
  pub unknown : IsUnknown env.tables c makro
