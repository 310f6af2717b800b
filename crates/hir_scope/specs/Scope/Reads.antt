-- What does one look into a scope find, and what does a walk over it give?
use Rattle.std.specs.Prelude.{ℕ, nat_eq, List, [], ◌∷◌, Option, None, Some, cond, Bool, not, is_some, ◌≡◌, MatchOption, true, ◌++◌}
use Rattle.std.specs.Option.{option_map}
use Rattle.std.specs.Map.{lookup}
use Rattle.std.specs.Cmp.Lexicographic.{pointwise}
use Rattle.hir_ids.specs.declared.ast_id.AstId.{AstId}
use Rattle.hir_ids.specs.declared.ast_id.AttrId.{AttrId}
use Rattle.hir_ids.specs.declared.ids.ImplId.{ImplId}
use Rattle.hir_ids.specs.declared.ast_id.MacroCallId.{MacroCallId}
use Rattle.hir_ids.specs.declared.macro_kind.MacroId.{MacroId}
use Rattle.hir_ids.specs.declared.ids.ModuleDefId.{ModuleDefId}
use Rattle.hir_ids.specs.declared.ids.ModuleId.{ModuleId}
use Rattle.hir_ids.specs.declared.ids.TraitId.{TraitId}
use Rattle.hir_ids.specs.contracts.ast_id.AstIdPartialEq.TheImpl as node
use Rattle.hir_ids.specs.contracts.ids.TraitIdPartialEq.TheImpl as trait_id
use Rattle.hir_ids.specs.contracts.ast_id.AttrIdPartialEq.TheImpl as attr
use Rattle.hir_per_ns.specs.declared.visibility.Visibility.{Visibility}
use Rattle.hir_textual_scope.specs.Macros.{last_of, macros_of}
use Rattle.hir_scope.specs.Scope.{ScopeValue, DeriveCalls, DeriveCall}
use Rattle.hir_scope.specs.Entries.{any_value, item_at}
use Rattle.std.specs.Borrow.{Bor}
use Rattle.hir_ids.specs.contracts.ids.ModuleDefIdPartialEq.TheImpl as module_def
use Rattle.hir_ids.specs.contracts.macro_kind.MacroIdPartialEq.TheImpl as makro
use Rattle.hir_per_ns.specs.declared.item_in_ns.ItemInNs.{ItemInNs}
use Rattle.hir_per_ns.specs.declared.item_in_ns.ItemInNs.TheVariants.{Types, Values, Macros}
use Rattle.hir_per_ns.specs.PerNs.{Item}
use Rattle.either.specs.declared.Either.TheVariants.{Left, Right}
use Rattle.hir_ids.specs.declared.ids.ModuleDefId.TheVariants as def
use Rattle.hir_per_ns.specs.declared.imports.ImportOrExternCrate.{ImportOrExternCrate}
use Rattle.hir_per_ns.specs.declared.imports.ImportOrGlob.{ImportOrGlob}
use Rattle.hir_scope.specs.declared.item_scope.iter.impls.ImplKind.{ImplKind}
use Rattle.hir_scope.specs.declared.item_scope.iter.impls.ImplKind.TheVariants.{Any, OfTrait, Inherent}

-- the definition and visibility of a type
abbrev pub type_at : ScopeValue → List ℕ → Option (ModuleDefId × Visibility)
type_at scope name = option_map (λ item. (item.def, item.vis)) (item_at scope.types name)

-- the macro of a name
abbrev pub macro_at : ScopeValue → List ℕ → Option MacroId
macro_at scope name = option_map (λ item. item.def) (item_at scope.macros name)

-- whether some name stands for a type that passes a test
abbrev pub binds_type : (Item ModuleDefId ImportOrExternCrate → Bool) → ScopeValue → Bool
binds_type test scope = any_value test scope.types

-- the same of values
abbrev pub binds_value : (Item ModuleDefId ImportOrGlob → Bool) → ScopeValue → Bool
binds_value test scope = any_value test scope.values

-- the same of macros
abbrev pub binds_macro : (Item MacroId ImportOrExternCrate → Bool) → ScopeValue → Bool
binds_macro test scope = any_value test scope.macros

-- the macros of a name in textual scope, the last one last
abbrev pub legacy_at : ScopeValue → List ℕ → List MacroId
legacy_at scope name = macros_of scope.legacy_macros name

-- the macro that a name means in textual scope: the last one
abbrev pub last_legacy_at : ScopeValue → List ℕ → Option MacroId
last_legacy_at scope name = last_of scope.legacy_macros name

-- what a node has in a table of calls
abbrev pub at_node : {X : Type 0} → List (AstId × X) → AstId → Option X
at_node calls at = lookup (node.ghosts.eq at) calls

-- the call of the first `derive` attribute with this number
abbrev pub derive_attribute : AttrId → List DeriveCalls → Option MacroCallId
derive_attribute id [] = None
derive_attribute id (calls ∷ others) = cond (attr.ghosts.eq calls.attr_id id) (Some calls.attr_call_id) (derive_attribute id others)

abbrev pub among_attributes : AttrId → Option (List DeriveCalls) → Option MacroCallId
among_attributes id None = None
among_attributes id (Some calls) = derive_attribute id calls

-- the call of a `derive` attribute of a node
abbrev pub derive_call : ScopeValue → AstId → AttrId → Option MacroCallId
derive_call scope at id = among_attributes id (at_node scope.derive_macros at)

-- the visibility of a trait that is imported without a name
abbrev pub unnamed_vis : ScopeValue → TraitId → Option Visibility
unnamed_vis scope id = option_map (λ item. item.vis) (lookup (trait_id.ghosts.eq id) scope.unnamed_traits)

-- the names under which a definition is bound, each with its visibility and whether it has no import
abbrev pub names_with : {D I : Type 0} → (D → D → Bool) → D → List (List ℕ × Item D I) → List (List ℕ × Visibility × Bool)
names_with same def [] = []
names_with same def (entry ∷ entries) =
    cond (same entry.1.def def) ((entry.0, entry.1.vis, not (is_some entry.1.import)) ∷ names_with same def entries) (names_with same def entries)

-- the names of an item in order, each with its visibility and whether it has no import
abbrev pub names_of_item : ScopeValue → ItemInNs → List (List ℕ × Visibility × Bool)
names_of_item scope (Types id) = names_with module_def.ghosts.eq id scope.types
names_of_item scope (Values id) = names_with module_def.ghosts.eq id scope.values
names_of_item scope (Macros id) = names_with makro.ghosts.eq id scope.macros

-- the first of a list
abbrev pub first_in : {X : Type 0} → List X → Option X
first_in [] = None
first_in (x ∷ xs) = Some x

-- a name that is lent, as the list of its bytes
abbrev pub lent_name : Bor (List ℕ) × Visibility × Bool → List ℕ × Visibility × Bool
lent_name found = (found.0.now, found.1, found.2)

-- who is asked about names in order, until there is an answer: that is the outcome, and none if all names had none
abbrev pub AsksInOrder : {F T : Type 0} → (F → Bor (List ℕ) → Visibility → Bool → Option T → F → Type 0)
    → F → List (List ℕ × Visibility × Bool) → Option T → Type 0
AsksInOrder steps f [] outcome = outcome ≡ None
AsksInOrder {F} {T} steps f (name ∷ names) outcome =
    (given : Option T) × (g : F) × (lent : Bor (List ℕ)) × (lent.now ≡ name.0) × steps f lent name.1 name.2 given g
    × MatchOption given (AsksInOrder steps g names outcome) (λ answer. outcome ≡ Some answer)

-- whether an impl is of a kind, where it is known whether it is of a trait
abbrev pub is_of_kind : ImplKind → Bool → Bool
is_of_kind Any of_trait = true
is_of_kind OfTrait of_trait = of_trait
is_of_kind Inherent of_trait = not of_trait

-- the impls of a kind
abbrev pub impls_of_kind : ImplKind → List (ImplId × Bool) → List ImplId
impls_of_kind kind [] = []
impls_of_kind kind (entry ∷ entries) = cond (is_of_kind kind entry.1) (entry.0 ∷ impls_of_kind kind entries) (impls_of_kind kind entries)

-- a module before others
abbrev pub with_module : Visibility → ModuleDefId → List (ModuleId × Visibility) → List (ModuleId × Visibility)
with_module vis (def.ModuleId m) others = (m, vis) ∷ others
with_module vis (def.FunctionId id) others = others
with_module vis (def.AdtId id) others = others
with_module vis (def.EnumVariantId id) others = others
with_module vis (def.ConstId id) others = others
with_module vis (def.StaticId id) others = others
with_module vis (def.TraitId id) others = others
with_module vis (def.TypeAliasId id) others = others
with_module vis (def.BuiltinType id) others = others
with_module vis (def.MacroId id) others = others

-- the modules among types, with their visibilities
abbrev pub modules_among : List (Item ModuleDefId ImportOrExternCrate) → List (ModuleId × Visibility)
modules_among [] = []
modules_among (item ∷ items) = with_module item.vis item.def (modules_among items)

-- a trait before others
abbrev pub with_trait : ModuleDefId → List TraitId → List TraitId
with_trait (def.TraitId id) others = id ∷ others
with_trait (def.ModuleId id) others = others
with_trait (def.FunctionId id) others = others
with_trait (def.AdtId id) others = others
with_trait (def.EnumVariantId id) others = others
with_trait (def.ConstId id) others = others
with_trait (def.StaticId id) others = others
with_trait (def.TypeAliasId id) others = others
with_trait (def.BuiltinType id) others = others
with_trait (def.MacroId id) others = others

-- the traits among types
abbrev pub traits_among : List (Item ModuleDefId ImportOrExternCrate) → List TraitId
traits_among [] = []
traits_among (item ∷ items) = with_trait item.def (traits_among items)

-- a call before others, if a derive path became one
abbrev pub with_call : Option DeriveCall → List MacroCallId → List MacroCallId
with_call None others = others
with_call (Some (Left call)) others = call ∷ others
with_call (Some (Right builtin)) others = others

-- the calls that the paths of a `derive` attribute became
abbrev pub calls_among : List (Option DeriveCall) → List MacroCallId
calls_among [] = []
calls_among (slot ∷ slots) = with_call slot (calls_among slots)

-- the calls of several attributes
abbrev pub calls_of_attributes : List DeriveCalls → List MacroCallId
calls_of_attributes [] = []
calls_of_attributes (attribute ∷ attributes) = calls_among attribute.derive_call_ids ++ calls_of_attributes attributes

-- the calls of the attributes of several items
abbrev pub calls_of_items : List (List DeriveCalls) → List MacroCallId
calls_of_items [] = []
calls_of_items (attributes ∷ items) = calls_of_attributes attributes ++ calls_of_items items
