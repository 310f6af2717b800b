-- What does a scope note of macro calls, attributes and derives?
use Rattle.std.specs.Prelude.{ℕ, List, None, cond, length, replicate}
use Rattle.either.specs.declared.Either.TheVariants as either
use Rattle.hir_nameres.specs.HirBase.ModPath.{Path}
use Rattle.hir_nameres.specs.HirIds.declared.ast_id.AstId.{AstId}
use Rattle.hir_nameres.specs.HirIds.declared.ast_id.AttrId.{AttrId}
use Rattle.hir_nameres.specs.HirIds.declared.macro_kind.BuiltinDeriveImplId.{BuiltinDeriveImplId}
use Rattle.hir_nameres.specs.HirIds.declared.ast_id.MacroCallId.{MacroCallId}
use Rattle.hir_nameres.specs.HirScope.MacroScope.{has_derive_slot, with_call, with_derive, with_derive_attribute}
use Rattle.hir_nameres.specs.HirScope.Scope.{DeriveCall, DeriveCalls, ScopeValue}
use Rattle.hir_nameres.specs.HirDefMapRules.State.{Map, with_scope}
use Rattle.hir_collector_rules.specs.declared.macro_directive.MacroDirective.{MacroDirective}
use Rattle.hir_collector_rules.specs.declared.macro_directive.MacroDirectiveKind.{MacroDirectiveKind}
use Rattle.hir_collector_rules.specs.declared.macro_directive.MacroDirectiveKind.TheVariants.{Attr, Derive, FnLike}

pub data Invocation : Type 0 where
  -- what a macro call became
  of_call : (call : AstId) → MacroCallId → Invocation
  -- what an attribute of an item became
  of_attribute : (item : AstId) → MacroCallId → Invocation
  -- a `derive` attribute of an item, with a slot for each of its paths
  of_derive : (item : AstId) → DeriveCalls → Invocation
  -- what a path of it became, where it has a slot
  of_path : (item : AstId) → AttrId → (index : ℕ) → DeriveCall → Invocation

-- ---- the tables of a scope once one more is noted

abbrev pub calls_with : Invocation → List (AstId × MacroCallId) → List (AstId × MacroCallId)
calls_with (of_call call id) calls = with_call calls call id
calls_with (of_attribute item id) calls = calls
calls_with (of_derive item derive) calls = calls
calls_with (of_path item attr index became) calls = calls

abbrev pub attributes_with : Invocation → List (AstId × MacroCallId) → List (AstId × MacroCallId)
attributes_with (of_call call id) attributes = attributes
attributes_with (of_attribute item id) attributes = with_call attributes item id
attributes_with (of_derive item derive) attributes = attributes
attributes_with (of_path item attr index became) attributes = attributes

abbrev pub derives_with : Invocation → List (AstId × List DeriveCalls) → List (AstId × List DeriveCalls)
derives_with (of_call call id) derives = derives
derives_with (of_attribute item id) derives = derives
derives_with (of_derive item derive) derives = with_derive_attribute derives item derive
derives_with (of_path item attr index became) derives = cond (has_derive_slot derives item attr index) (with_derive derives item attr index became) derives

abbrev pub with_invocation : Invocation → ScopeValue → ScopeValue
with_invocation invocation s = record s {
  macro_calls = calls_with invocation s.macro_calls;
  attr_macros = attributes_with invocation s.attr_macros;
  derive_macros = derives_with invocation s.derive_macros;
}

-- the map with it in the scope of a module
abbrev pub with_noted : Map → ℕ → Invocation → Map
with_noted m home invocation = with_scope m home (with_invocation invocation)

-- ---- what is noted

-- a `derive` attribute of an item, whose call has this number, where none of its paths became anything yet
abbrev pub derive_met : AstId → AttrId → MacroCallId → List Path → Invocation
derive_met item attr call paths = of_derive item (record { attr_id = attr; attr_call_id = call; derive_call_ids = replicate (length paths) None })

-- a call, a path of a derive or an attribute that became a call
abbrev pub invocation_by : AstId → MacroDirectiveKind → MacroCallId → Invocation
invocation_by node (FnLike path) id = of_call node id
invocation_by node (Derive path attr index adt) id = of_path node attr index (either.Left id)
invocation_by node (Attr path attr item) id = of_attribute node id

abbrev pub invocation_of : MacroDirective → MacroCallId → Invocation
invocation_of d id = invocation_by d.ast_id d.kind id

-- a path of a derive that a builtin macro's impl stands for
abbrev pub impl_noted : AstId → BuiltinDeriveImplId → Invocation
impl_noted item imp = of_path item imp.derive_attr_id imp.derive_index (either.Right imp)
