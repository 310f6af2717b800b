-- Which calls, derives and attributes did a run expand, which items went on that had waited, and what do these declare?
use Rattle.std.specs.Prelude.{◌≡◌, ◌<◌, ◌≤◌, ℕ, zero, suc, false, List, [], ◌∷◌, ◌++◌, Option, None, Some, Contains}
use Rattle.hir_collector_rules.specs.HirIds.declared.macro_kind.BuiltinDeriveImplId.{BuiltinDeriveImplId}
use Rattle.hir_collector_rules.specs.HirIds.declared.macro_kind.MacroId.{MacroId}
use Rattle.hir_collector_rules.specs.HirIds.declared.ids.ModuleDefId.{ModuleDefId}
use Rattle.hir_collector_rules.specs.HirItemTree.KeptForest.{KeptItem}
use Rattle.hir_collector_rules.specs.HirTables.Tables.{TablesValue}
use Rattle.hir_collector_rules.specs.HirDefMapRules.Overlay.{Maps}
use Rattle.hir_collector_rules.specs.HirDefMapRules.State.{Map, ModuleValue, module_at}
use Rattle.hir_collector_rules.specs.declared.macro_directive.MacroDirective.{MacroDirective}
use Rattle.hir_collector_rules.specs.declared.macro_directive.WaitingItem.{WaitingItem}
use Rattle.hir_collector_rules.specs.declared.source_database.Key.TheVariants.{Tree}
use Rattle.hir_collector_rules.specs.Calls.{Expanding, IsNumberedCall, builtin_impl, call_key, call_site, expansion_readings, has_expansion, item_kept}
use Rattle.hir_collector_rules.specs.Calls.{text_readings, waiting_item}
use Rattle.hir_collector_rules.specs.Derivation.{CollectedValue}
use Rattle.hir_collector_rules.specs.Keys.{environment, tree_at}
use Rattle.hir_collector_rules.specs.State.{Core}
use Rattle.hir_collector_rules.specs.Steps.{Sees, site_behind}
use Rattle.hir_collector_rules.specs.Workspace.{Workspace}
use Rattle.hir_def_collector_laws.specs.Calls.{IsCall}
use Rattle.hir_def_collector_laws.specs.Declares.{Declares, DeclaresOne}

-- what came of a call, a path of a derive or an attribute, and the definitions that it brought
pub record Expansion : Type 0 where
  pub call : MacroDirective
  pub defs : List ModuleDefId

-- a list at its own number, and nothing at another
abbrev pub at_home : {A : Type 0} → ℕ → ℕ → List A → List A
at_home zero zero xs = xs
at_home zero (suc k) xs = []
at_home (suc h) zero xs = []
at_home (suc h) (suc k) xs = at_home h k xs

-- what those in a module brought, one after another
abbrev pub expanded_in : List Expansion → ℕ → List ModuleDefId
expanded_in [] number = []
expanded_in (e ∷ es) number = at_home e.call.site.home number e.defs ++ expanded_in es number

-- it was expanded so in a run, where this is what comes behind in each module
pub record IsExpanded (tables : TablesValue) (w : Workspace) (finished : Maps) (answer : CollectedValue) (last : Core) (more : ℕ → List ModuleDefId)
    (e : Expansion) (makro : MacroId) (seen : Expanding) : Type 0 where
  -- it isn't deeper than calls may be
  pub shallow : e.call.site.level < answer.map.crate_data.recursion_limit
  -- the numbers of its expansion mean the macro's text and the input, and that is what is seen at them
  pub numbers : IsNumberedCall tables answer.map.id.krate e.call makro seen
  pub sees : Sees (environment tables w) finished (text_readings makro seen.text ++ expansion_readings answer.map.id.krate e.call seen)
  -- its tree was asked for, and each item of the tree declares what it does where the call stands
  pub key_asked : Contains answer.asked (Tree (call_key answer.map.id.krate seen.id))
  pub declares : Declares tables w finished answer last more (tree_at tables w (call_key answer.map.id.krate seen.id)).tree.items (call_site e.call seen.id)
      e.defs

-- or the item of an attribute went on behind it, one level deeper
pub record IsResumed (tables : TablesValue) (w : Workspace) (finished : Maps) (answer : CollectedValue) (last : Core) (more : ℕ → List ModuleDefId)
    (e : Expansion) (k : WaitingItem) (item : KeptItem) : Type 0 where
  pub waits : waiting_item e.call ≡ Some k
  pub kept : item_kept k ≡ Some item
  pub declares : DeclaresOne tables w finished answer last more item k.done (site_behind e.call.site) e.defs

-- so it is of what is written
pub data IsExpansion (tables : TablesValue) (w : Workspace) (finished : Maps) (answer : CollectedValue) (last : Core) (more : ℕ → List ModuleDefId)
    (e : Expansion) : Type 0 where
  expanded : IsCall tables w answer e.call → (makro : MacroId) (seen : Expanding) → IsExpanded tables w finished answer last more e makro seen
      → IsExpansion tables w finished answer last more e
  resumed : IsCall tables w answer e.call → (k : WaitingItem) (item : KeptItem) → IsResumed tables w finished answer last more e k item
      → IsExpansion tables w finished answer last more e

-- the impls that a module lists for builtin derives, if it is there
abbrev pub derived_in : Option ModuleValue → List BuiltinDeriveImplId
derived_in None = []
derived_in (Some m) = m.scope.builtin_derive_impls

-- it is among these, or was too deep; or it is a path of a derive that reached a builtin macro, and its module lists the impl
pub data IsDone (m : Map) (es : List Expansion) (d : MacroDirective) : Type 0 where
  among : (e : Expansion) → Contains es e → e.call ≡ d → IsDone m es d
  too_deep : m.crate_data.recursion_limit ≤ d.site.level → IsDone m es d
  builtin : (makro : MacroId) (imp : BuiltinDeriveImplId) → has_expansion d makro ≡ false → builtin_impl makro d.kind ≡ Some imp
      → Contains (derived_in (module_at m d.site.home)) imp → IsDone m es d
