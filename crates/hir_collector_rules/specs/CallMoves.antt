-- What a part of a run does with macro calls.
use Rattle.std.specs.Prelude.{◌≡◌, ◌<◌, ◌≤◌, ℕ, Bool, true, false, List, ◌++◌, IsSome, length, Option, None, Some, slice_get}
use Rattle.hir_nameres.specs.HirIds.declared.macro_kind.MacroId.{MacroId}
use Rattle.hir_item_tree.specs.SourceTree.{SourceTreeValue}
use Rattle.hir_tables.specs.Tables.{TablesValue}
use Rattle.hir_nameres.specs.HirDefMapRules.Overlay.{Maps}
use Rattle.hir_nameres.specs.HirDefMapRules.State.{IsInOrder}
use Rattle.hir_import_rules.specs.Rest.{BroughtStands, IsAtRest, IsClosed, IsSound}
use Rattle.hir_import_rules.specs.declared.directive.ImportDirective.{ImportDirective}
use Rattle.hir_collector_rules.specs.declared.macro_directive.EagerMacro.{EagerMacro}
use Rattle.hir_collector_rules.specs.declared.macro_directive.Fate.TheVariants.{Handled}
use Rattle.hir_collector_rules.specs.declared.source_database.Key.{Key}
use Rattle.hir_collector_rules.specs.declared.macro_directive.MacroDirective.{MacroDirective}
use Rattle.hir_collector_rules.specs.declared.macro_directive.WaitingItem.{WaitingItem}
use Rattle.hir_collector_rules.specs.Calls.{EagerLook, Expanding, IsGrown, IsMeantAt, IsMeantCall, IsNumberedCall, IsNumberedEager, IsTextOf, IsWaiting}
use Rattle.hir_collector_rules.specs.Calls.{LeadsNowhere, asked_first}
use Rattle.hir_collector_rules.specs.Calls.{call_site, called_macro, eager_readings, expansion_readings, first_missing, has_expansion, is_inert_now}
use Rattle.hir_collector_rules.specs.Calls.{text_readings, waiting_item}
use Rattle.hir_collector_rules.specs.Keys.{Environment}
use Rattle.hir_collector_rules.specs.Moves.{OnceGrown}
use Rattle.hir_collector_rules.specs.Rounds.{HasManyRounds, IsRound}
use Rattle.hir_collector_rules.specs.declared.start.TheConstants.{STEP_LIMIT}
use Rattle.hir_collector_rules.specs.State.{Core, at_rest, counted, import_state, with_settled}
use Rattle.hir_collector_rules.specs.Steps.{Sees, Steps, keys_read, with_keys}
use Rattle.hir_collector_rules.specs.Workspace.{Workspace, seen_of}

-- what holds of a run wherever steps lead that began with a tree whose number means something
pub record IsReady (tables : TablesValue) (finished : Maps) (c : Core) : Type 0 where
  pub sound : IsSound finished (import_state (at_rest c))
  pub imports : (i : ℕ) (r : ImportDirective) → slice_get c.reached i ≡ Some r → r.home < length c.map.modules
  pub paired : length c.taken ≡ length c.reached
  pub fated : length c.fates ≡ length c.calls
  pub listed : length c.eager ≡ length c.calls
  pub calls : (i : ℕ) (d : MacroDirective) → slice_get c.calls i ≡ Some d → d.site.home < length c.map.modules
  pub meant : (i : ℕ) (d : MacroDirective) → slice_get c.calls i ≡ Some d → IsMeantCall tables d
  pub in_order : IsInOrder c.map

-- what there is of a call that reaches a macro was asked for: its number, why it didn't expand well, and what its expansion has
pub record SeesCall (tables : TablesValue) (w : Workspace) (finished : Maps) (d : MacroDirective) (makro : MacroId) (old new : Core) (x : Expanding)
    (source : SourceTreeValue) : Type 0 where
  pub text : IsTextOf finished old.map makro x.text
  pub first : IsGrown finished old.local old.map d.site.home makro x.there x.grown
  pub numbered : OnceGrown tables w (λ env. IsNumberedCall env.tables old.map.id.krate d makro x)
  pub sees : OnceGrown tables w (λ env. (finished : Maps) → Sees env finished (text_readings makro x.text ++ expansion_readings old.map.id.krate d x))
  pub tree : x.tree ≡ seen_of source
  pub asked : new ≡ record old { asked = with_keys old.asked (keys_read (text_readings makro x.text ++ expansion_readings old.map.id.krate d x)) }
  pub written : IsMeantAt tables (call_site d x.id)

-- what there is of one whose macro asks for a path first that reaches nothing
pub record SeesEager (tables : TablesValue) (w : Workspace) (finished : Maps) (d : MacroDirective) (makro : MacroId) (old new : Core) (x : EagerLook) : Type
    0 where
  pub text : IsTextOf finished old.map makro x.text
  pub numbered : OnceGrown tables w (λ env. IsNumberedEager env.tables old.map.id.krate d makro x)
  pub sees : OnceGrown tables w (λ env. (finished : Maps) → Sees env finished (eager_readings old.map.id.krate d makro x))
  pub missing : IsSome (first_missing finished old.local old.map d.site.home (asked_first makro x.there))
  pub asked : new ≡ record old { asked = with_keys old.asked (keys_read (eager_readings old.map.id.krate d makro x)) }

-- it reaches a macro that has an expansion, and isn't inert
pub record FindsMacro (finished : Maps) (c : Core) (d : MacroDirective) (makro : MacroId) : Type 0 where
  pub active : is_inert_now c.map d ≡ false
  pub reaches : called_macro finished c.local c.map d ≡ Some makro
  pub expands : has_expansion d makro ≡ true

-- or one that has none
pub record FindsBuiltin (finished : Maps) (c : Core) (d : MacroDirective) (makro : MacroId) : Type 0 where
  pub reaches : called_macro finished c.local c.map d ≡ Some makro
  pub builtin : has_expansion d makro ≡ false

-- nothing was done but that calls met eager macros, for which keys were asked
pub record OnlyMeets (old new : Core) : Type 0 where
  pub eager : List (List EagerMacro)
  pub asked : List Key
  pub count : ℕ
  pub is : new ≡ record old { eager = eager; asked = asked; count = count }

-- what waited at the place was handled; or it doesn't wait, reaches no macro, or waits for a path that the macro asks for
pub data TriesCall (finished : Maps) (old new : Core) (i : ℕ) : Bool → Type 0 where
  handled : (d : MacroDirective) → IsWaiting (at_rest old) i d → slice_get new.fates i ≡ Some Handled → TriesCall finished old new i true
  left : OnlyMeets old new → LeadsNowhere finished (at_rest new) i → TriesCall finished old new i false

-- imports rest: the calls that there are can be expanded already, or may be from now on, which is a step
pub data Rested (old new : Core) : Type 0 where
  already : old.settled ≡ length old.calls → new ≡ old → Rested old new
  moved : ¬ (old.settled ≡ length old.calls) → new ≡ counted (with_settled old) → Rested old new

-- there are calls that can't be expanded yet, and as many steps were taken as are counted
pub record RestsTooFar (old : Core) : Type 0 where
  pub more : ¬ (old.settled ≡ length old.calls)
  pub full : STEP_LIMIT ≤ old.count

-- a round was gone through; or nothing was expanded, and no call that waits reaches a macro with all that this asks for first
pub data TriesCalls (env : Environment) (finished : Maps) (old new : Core) : Bool → Type 0 where
  round : IsRound env finished (at_rest old) (at_rest new) → TriesCalls env finished old new true
  idle : OnlyMeets old new → ((i : ℕ) → LeadsNowhere finished (at_rest new) i) → TriesCalls env finished old new false

-- an attribute waits at the place
pub record IsAttributeWaiting (c : Core) (i : ℕ) : Type 0 where
  pub call : MacroDirective
  pub waits : IsWaiting (at_rest c) i call
  pub item : WaitingItem
  pub is_item : waiting_item call ≡ Some item

-- none does before this place, which is one of the run or the next
pub record NoneWaitsBefore (c : Core) (first : ℕ) : Type 0 where
  pub inside : first ≤ length c.calls
  pub none : (j : ℕ) → IsAttributeWaiting c j → first ≤ j

-- none does at all
abbrev pub NoneWaits : Core → Type 0
NoneWaits c = (j : ℕ) → ¬ IsAttributeWaiting c j

-- the first does at this place
pub record IsFirstWaiting (c : Core) (i : ℕ) : Type 0 where
  pub waits : IsAttributeWaiting c i
  pub first : NoneWaitsBefore c i

-- the first attribute that waited was given up, which took a step, and none waits before this place; or none waited, and nothing was done
abbrev pub IsGivenUp : Core → Core → Option ℕ → Type 0
IsGivenUp old new None = (new ≡ old) × NoneWaits old
IsGivenUp old new (Some next) = (old.count < new.count) × NoneWaitsBefore new next

-- imports rest, nothing that waits reaches a macro, and no attribute waits; or there were more rounds than may be, and no name is left to go along a glob
pub data ComesToRest (env : Environment) (finished : Maps) (old new : Core) : Bool → Type 0 where
  rested : IsAtRest finished (import_state (at_rest new)) → ((i : ℕ) → LeadsNowhere finished (at_rest new) i) → NoneWaits new → ComesToRest env finished old new
      false
  cut_off : IsClosed finished (import_state (at_rest new)) → BroughtStands finished (import_state (at_rest new)) → HasManyRounds env finished (at_rest old)
      (at_rest new)
      → ComesToRest env finished old new true

-- steps lead to where a round begins that ends here, and no attribute waits before this place
pub record EndsInRound (env : Environment) (finished : Maps) (old new : Core) (first : ℕ) : Type 0 where
  pub begun : Core
  pub before : Steps env finished (at_rest old) (at_rest begun)
  pub round : IsRound env finished (at_rest begun) (at_rest new)
  pub none : NoneWaitsBefore new first
