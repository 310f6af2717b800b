-- A call that waits meets an eager macro, of whose paths one reaches nothing: a step, in which it is left.
use Rattle.std.proofs.Common.{◌≡◌, ◌<◌, ◌≤◌, ℕ, Contains, IsSome, List, None, Option, Some, ap, length, refl, subst, false}
use Rattle.hir_mod_collector.specs.HirIds.declared.macro_kind.MacroId.{MacroId}
use Rattle.hir_mod_collector.specs.HirIds.contracts.macro_kind.MacroIdEq.TheImpl.Laws.{laws-law as macro_laws}
use Rattle.hir_mod_collector.specs.HirTables.Tables.{TablesValue}
use Rattle.hir_mod_collector.specs.HirDefMapRules.Overlay.{Maps}
use Rattle.hir_mod_collector.specs.HirBase.ModPath.{Path}
use Rattle.hir_mod_collector.specs.HirCollectorRules.CallMoves.{SeesEager, TriesCall, left}
use Rattle.hir_mod_collector.specs.HirCollectorRules.Calls.{EagerLook, asked_first, first_missing, inner_macro}
use Rattle.hir_mod_collector.specs.HirCollectorRules.Derivation.{IsSpent}
use Rattle.hir_mod_collector.specs.HirCollectorRules.Keys.{environment}
use Rattle.hir_mod_collector.specs.HirCollectorRules.Moves.{OnceGrown}
use Rattle.hir_mod_collector.specs.HirCollectorRules.State.{Core, at_rest, counted, with_eager}
use Rattle.hir_mod_collector.specs.HirCollectorRules.Steps.{CallsMacro, Steps, meets_macro}
use Rattle.hir_mod_collector.specs.HirCollectorRules.Workspace.{Workspace}
use Rattle.hir_mod_collector.specs.HirCollectorRules.declared.macro_directive.MacroDirective.{MacroDirective}
use Rattle.hir_mod_collector.specs.HirCollectorRules.declared.start.TheConstants.{STEP_LIMIT}
use Rattle.hir_mod_collector.proofs.HirCollectorRules.Moves.{Steps-one}
use Rattle.hir_collector_derives.proofs.CallSteps as calls
use Rattle.hir_macro_calls.proofs.Watching.{missing_among}

-- the path of which it is said that there is one
found : {A : Type 0} (o : Option A) → IsSome o → (a : A) × (o ≡ Some a)
found None there = absurd (let no : ⊥ = cc in no)
found (Some a) there = (a, refl)

module _ (tables : TablesValue) (w : Workspace) (finished : Maps) (c asked : Core) (i : ℕ) (d : MacroDirective) (makro : MacroId) (x : EagerLook)
    (sees : SeesEager tables w finished d makro c asked x) (called : CallsMacro finished (at_rest c) i d makro)
    (shallow : d.site.level < c.map.crate_data.recursion_limit) where
  abbrev paths : List Path
  paths = asked_first makro x.there

  first : (path : Path) × (first_missing finished c.local c.map d.site.home paths ≡ Some path)
  first = found (first_missing finished c.local c.map d.site.home paths) sees.missing

  lacks : Contains paths first.0 × (inner_macro finished c.local c.map d.site.home first.0 ≡ None)
  lacks = missing_among finished c.local c.map d.site.home paths first.0 first.1

  module _ (new : Core) (meets : new ≡ counted (with_eager asked i (record { makro = makro; inner = paths }))) where
    abbrev met : Core
    met = with_eager asked i (record { makro = makro; inner = paths })

    pub meets_steps : OnceGrown tables w (λ env. Steps env finished (at_rest c) (at_rest new))
    meets_steps = λ grown kept.
        Steps-one (calls.meets_step tables w finished c asked met new i d makro x sees called shallow first.0 lacks.0 lacks.1 refl meets grown kept)

    pub meets_left : i < length c.eager → TriesCall finished c new i false
    meets_left inside =
        left (calls.only_meets tables w finished c asked met new i d makro x sees called shallow first.0 lacks.0 lacks.1 refl meets)
        (calls.meets_nowhere tables w finished c asked met new i d makro x sees called shallow first.0 lacks.0 lacks.1 refl meets inside (macro_laws.refl makro))

  -- as many steps as are counted were taken already
  pub meets_too_far : STEP_LIMIT ≤ asked.count → OnceGrown tables w (λ env. IsSpent env finished (at_rest c))
  meets_too_far full = λ grown kept.
      let same : asked.count ≡ c.count = ap (λ (k : Core). k.count) sees.asked in
      calls.past_rule (environment grown w) finished c (meets_macro i d makro x)
      (record { called = called; shallow = shallow; text = sees.text; path = first.0; asked = lacks.0; missing = lacks.1 })
      (sees.sees grown kept finished) (sees.numbered grown kept) (subst (λ (n : ℕ). STEP_LIMIT ≤ n) same full)
