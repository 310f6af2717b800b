-- The resolution of a block makes only blocks due that lie within it.
use Rattle.std.proofs.Common.{◌≡◌, ◌≢◌, ◌⊎◌, ◌∙◌, inl, inr, ap, sym, subst, refl, suc, ◌+◌, ◌<◌, cond, Option, Some, None, List, [], ◌∷◌, ◌++◌, append_assoc}
use Rattle.std.proofs.Common.{arith}
use Rattle.std.specs.Option.{option_and_then}
use Rattle.hir_collector_rules.specs.HirBase.Place.{PlaceValue}
use Rattle.hir_collector_rules.specs.HirIds.declared.ast_id.BlockId.{BlockId}
use Rattle.hir_collector_rules.specs.HirBase.declared.place.BlockPlace.{BlockPlace}
use Rattle.hir_collector_rules.specs.HirIds.declared.ids.Crate.{Crate}
use Rattle.hir_collector_rules.specs.HirIds.declared.ids.MapId.{MapId}
use Rattle.hir_collector_rules.specs.HirIds.declared.ids.ModuleId.{ModuleId}
use Rattle.hir_collector_rules.specs.HirBase.declared.place.PlaceElement.{PlaceElement}
use Rattle.hir_collector_rules.specs.HirBase.declared.place.PlaceElement.TheVariants as element
use Rattle.hir_collector_rules.specs.HirDefMapRules.State.{child_at, crate_map, root_of}
use Rattle.hir_collector_rules.specs.HirTables.Tables.{block_at}
use Rattle.hir_session_state.specs.Blocks.{nesting_of, place_of_block}
use Rattle.hir_session_state.specs.Kept.{Resolution, Resolutions, kept_in}
use Rattle.hir_session_state.specs.SessionState.{SessionState, kept_of, module_of, standing_of, IsSound}
use Rattle.hir_session_state.specs.Standing.{Standing, block_below, block_map, block_number, down, from_crate, is_set, module_by, standing_in, step, to_child}
use Rattle.hir_session_state.specs.Standing.{to_root}
use Rattle.hir_session_state.specs.Standing.Standing.{at, lacks, stale, unset}
use Rattle.hir_session_state.proofs.Ids.{on_id}
use Rattle.hir_session_state.proofs.Places.{nesting_below, number_means}
use Rattle.hir_session_state.proofs.Standing.{IsModuleKept, module_there, step_kept}
use Rattle.hir_session_state.proofs.Truth.{no_value, one_value}

-- steps add blocks
pub nesting-append : (xs ys : List PlaceElement) → nesting_of (xs ++ ys) ≡ nesting_of xs + nesting_of ys
nesting-append [] ys = sym (let e : 0 + nesting_of ys ≡ nesting_of ys = omega arith in e)
nesting-append (element.Module name ∷ xs) ys = nesting-append xs ys
nesting-append (element.Block id ∷ xs) ys =
    let rest : nesting_of (xs ++ ys) ≡ nesting_of xs + nesting_of ys = nesting-append xs ys in
    omega arith

-- the steps of a place lead through a block
pub record IsThrough (b : BlockPlace) (place : PlaceValue) : Type 0 where
  pub more : List PlaceElement
  pub steps : place.elements ≡ (place_of_block b).elements ++ more

-- so a block that such a place holds has more around it
pub through_deeper : (b c : BlockPlace) → IsThrough b c.holder → nesting_of (place_of_block b).elements < nesting_of (place_of_block c).elements
through_deeper b c p =
    let whole : nesting_of (place_of_block c).elements ≡ suc (nesting_of c.holder.elements) = nesting_below c.holder.elements c.id in
    let parts : nesting_of c.holder.elements ≡ nesting_of (place_of_block b).elements + nesting_of p.more =
    ap nesting_of p.steps ∙ nesting-append (place_of_block b).elements p.more in
    omega arith

module _ (s : SessionState) (sound : IsSound s) (b : BlockId) (place : BlockPlace) (means : block_at s.tables b ≡ Some place) (none : kept_of s (block_map place.holder.krate b) ≡ None)
    (K : Resolutions) (others : (j : MapId) → j ≢ block_map place.holder.krate b → kept_in K j ≡ kept_of s j) where
  -- what was kept is
  same_kept : (j : MapId) (r : Resolution) → kept_of s j ≡ Some r → kept_in K j ≡ kept_of s j
  same_kept j r is = others j (λ e. no_value (sym none ∙ ap (kept_of s) (sym e) ∙ is))

  record IsStepBy (krate : Crate) (before : List PlaceElement) (e : PlaceElement) : Type 0 where
    pub steps : before ++ e ∷ [] ≡ (place_of_block place).elements

  -- a step leads where it led, or into the block
  one_step : (krate : Crate) (before : List PlaceElement) (n : ModuleId) (e : PlaceElement) → IsModuleKept s krate n
      → (step s.tables s.sources.blocks K krate before (at n) e ≡ step s.tables s.sources.blocks s.kept krate before (at n) e) ⊎ IsStepBy krate before e
  one_step krate before n (element.Module name) from =
      inl (ap (λ (o : Option Resolution). to_child n.map (option_and_then (λ (r : Resolution). child_at r.map n.index name) o))
      (same_kept n.map from.found from.is))
  one_step krate before n (element.Block id) from = go (block_number s.tables (block_below krate before id)) refl
    where
      led : (o : Option BlockId) → block_number s.tables (block_below krate before id) ≡ o
          → option_and_then (λ (x : BlockId). kept_in K (block_map krate x)) o ≡ option_and_then (λ (x : BlockId). kept_in s.kept (block_map krate x)) o
          → step s.tables s.sources.blocks K krate before (at n) (element.Block id) ≡ step s.tables s.sources.blocks s.kept krate before (at n)
          (element.Block id)
      led o is same =
          ap (λ (x : Option BlockId). cond (is_set s.sources.blocks (block_below krate before id))
          (to_root (option_and_then (λ (y : BlockId). kept_in K (block_map krate y)) x)) unset) is
          ∙ ap (λ (x : Option Resolution). cond (is_set s.sources.blocks (block_below krate before id)) (to_root x) unset) same
          ∙ sym (ap (λ (x : Option BlockId). cond (is_set s.sources.blocks (block_below krate before id))
          (to_root (option_and_then (λ (y : BlockId). kept_in s.kept (block_map krate y)) x)) unset) is)

      into : (j : BlockId) → block_number s.tables (block_below krate before id) ≡ Some j → block_map krate j ≡ block_map place.holder.krate b
          → IsStepBy krate before (element.Block id)
      into j is same =
          let number : j ≡ b = one_value (ap (λ (x : MapId). x.block) same) in
          let here : block_below krate before id ≡ place =
          one_value (sym (number_means s.tables (block_below krate before id) j is) ∙ ap (block_at s.tables) number ∙ means) in
          record { steps = ap (λ (x : BlockPlace). (place_of_block x).elements) here }

      go : (o : Option BlockId) → block_number s.tables (block_below krate before id) ≡ o
          → (step s.tables s.sources.blocks K krate before (at n) (element.Block id) ≡ step s.tables s.sources.blocks s.kept krate before (at n)
          (element.Block id))
          ⊎ IsStepBy krate before (element.Block id)
      go None is = inl (led None is refl)
      go (Some j) is = on_id (block_map krate j) (block_map place.holder.krate b)
          (λ same. inr (into j is same))
          (λ ne. inl (led (Some j) is (others (block_map krate j) ne)))

  any_step : (krate : Crate) (before : List PlaceElement) (st : Standing) (e : PlaceElement) → ((n : ModuleId) → st ≡ at n → IsModuleKept s krate n)
      → (step s.tables s.sources.blocks K krate before st e ≡ step s.tables s.sources.blocks s.kept krate before st e) ⊎ IsStepBy krate before e
  any_step krate before (at n) e from = one_step krate before n e (from n refl)
  any_step krate before (lacks id) (element.Module name) from = inl refl
  any_step krate before (lacks id) (element.Block c) from = inl refl
  any_step krate before stale (element.Module name) from = inl refl
  any_step krate before stale (element.Block c) from = inl refl
  any_step krate before unset (element.Module name) from = inl refl
  any_step krate before unset (element.Block c) from = inl refl

  steps_lead : (krate : Crate) (before : List PlaceElement) (st : Standing) (steps : List PlaceElement) → ((n : ModuleId) → st ≡ at n → IsModuleKept s krate n)
      → (down s.tables s.sources.blocks K krate before st steps ≡ down s.tables s.sources.blocks s.kept krate before st steps)
      ⊎ ((more : List PlaceElement) × (before ++ steps ≡ (place_of_block place).elements ++ more))
  steps_lead krate before st [] from = inl refl
  steps_lead krate before st (e ∷ more) from = elim (any_step krate before st e from) [
    | inl same ↦ elim (steps_lead krate (before ++ e ∷ []) (step s.tables s.sources.blocks s.kept krate before st e) more
        (λ n is. step_kept s sound krate before st e n from is)) [
          | inl rest ↦ inl (ap (λ (x : Standing). down s.tables s.sources.blocks K krate (before ++ e ∷ []) x more) same ∙ rest)
          | inr through ↦ inr (through.0, sym (append_assoc before (e ∷ []) more) ∙ through.1)
        ]
    | inr here ↦ inr (more, sym (append_assoc before (e ∷ []) more) ∙ ap (λ (xs : List PlaceElement). xs ++ more) here.steps)
  ]

  -- the steps of a place lead where they led, or through the block
  pub standing_or_through : (p : PlaceValue) → (standing_in s.tables s.sources.blocks K p ≡ standing_of s p) ⊎ IsThrough place p
  standing_or_through p = go (kept_of s (crate_map p.krate)) refl
    where
      apart : crate_map p.krate ≢ block_map place.holder.krate b
      apart e = no_value (ap (λ (x : MapId). x.block) e)

      root_kept : (r : Resolution) → kept_of s (crate_map p.krate) ≡ Some r → (n : ModuleId) → at (root_of r.map.id) ≡ at n → IsModuleKept s p.krate n
      root_kept r is n e =
          subst (λ (x : ModuleId). IsModuleKept s p.krate x) (one_module e)
          (module_there s sound (record { krate = p.krate; elements = [] }) (root_of r.map.id)
          (ap (λ (o : Option Resolution). from_crate s.tables s.sources.blocks s.kept o (record { krate = p.krate; elements = [] })) is))
        where
          one_module : {m n : ModuleId} → at m ≡ at n → m ≡ n
          one_module f = cc

      go : (o : Option Resolution) → kept_of s (crate_map p.krate) ≡ o → (standing_in s.tables s.sources.blocks K p ≡ standing_of s p) ⊎ IsThrough place p
      go None is = inl (
          ap (λ (o : Option Resolution). from_crate s.tables s.sources.blocks K o p) (others (crate_map p.krate) apart ∙ is)
          ∙ sym (ap (λ (o : Option Resolution). from_crate s.tables s.sources.blocks s.kept o p) is))
      go (Some r) is = elim (steps_lead p.krate [] (at (root_of r.map.id)) p.elements (root_kept r is)) [
        | inl same ↦ inl (
            ap (λ (o : Option Resolution). from_crate s.tables s.sources.blocks K o p) (others (crate_map p.krate) apart ∙ is)
            ∙ same
            ∙ sym (ap (λ (o : Option Resolution). from_crate s.tables s.sources.blocks s.kept o p) is))
        | inr through ↦ inr (record { more = through.0; steps = through.1 })
      ]

  -- so a block whose holding place wasn't there has the block around it
  pub module_or_deeper : (c : BlockPlace) (m : ModuleId) → module_by (standing_in s.tables s.sources.blocks K c.holder) ≡ Some m
      → (module_of s c.holder ≡ Some m) ⊎ (nesting_of (place_of_block place).elements < nesting_of (place_of_block c).elements)
  module_or_deeper c m leads = elim (standing_or_through c.holder) [
    | inl same ↦ inl (sym (ap module_by same) ∙ leads)
    | inr through ↦ inr (through_deeper place c through)
  ]
