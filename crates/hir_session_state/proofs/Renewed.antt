-- The crates of a session where one of them is handed in with other data.
use Rattle.std.specs.Prelude.{slice_index_or, slice_set}
use Rattle.std.proofs.Common.{◌≡◌, ◌≢◌, ◌∙◌, ℕ, zero, suc, ◌<◌, false, List, [], ◌∷◌, length, map, Option, Some, slice_get, option_map, refl, sym, ap, subst}
use Rattle.std.proofs.Common.{arith, Contains}
use Rattle.std.proofs.lemmas.List.{get_or-set_other, get_or-set_same, length-set, set-get_or}
use Rattle.hir_collector_rules.specs.HirIds.declared.ids.Crate.{Crate}
use Rattle.hir_collector_rules.specs.declared.source_database.CrateRoot.{CrateRoot}
use Rattle.hir_collector_rules.specs.declared.source_database.Dependency.{Dependency}
use Rattle.hir_collector_rules.specs.Workspace.{ConfigValue, dependencies_of}
use Rattle.hir_session_state.specs.Crates.{CrateValue, config_in, crate_in, named_in, no_crate, with_config}
use Rattle.hir_session_state.proofs.Truth.{on_same}

-- ---- what is at a number

get_other : {A : Type 0} (xs : List A) (i j : ℕ) (x : A) → j ≢ i → slice_get (slice_set xs i x) j ≡ slice_get xs j
get_other [] i j x apart = refl
get_other (y ∷ ys) zero zero x apart = absurd (apart refl)
get_other (y ∷ ys) zero (suc j) x apart = refl
get_other (y ∷ ys) (suc i) zero x apart = refl
get_other (y ∷ ys) (suc i) (suc j) x apart = get_other ys i j x (λ same. apart (ap suc same))

get_own : {A : Type 0} (xs : List A) (i : ℕ) (x : A) → i < length xs → slice_get (slice_set xs i x) i ≡ Some x
get_own [] i x within = absurd (omega arith)
get_own (y ∷ ys) zero x within = refl
get_own (y ∷ ys) (suc i) x within = get_own ys i x (omega arith)

get_there : {A : Type 0} (xs : List A) (i : ℕ) (none : A) → i < length xs → slice_get xs i ≡ Some (slice_index_or xs i none)
get_there [] i none within = absurd (omega arith)
get_there (y ∷ ys) zero none within = refl
get_there (y ∷ ys) (suc i) none within = get_there ys i none (omega arith)

-- ---- one crate with other data

module _ (crates : List CrateValue) (k : ℕ) (config : ConfigValue) where
  abbrev new : CrateValue
  new = record (crate_in crates k) { config = config }

  pub length_renewed : length (with_config crates k config) ≡ length crates
  length_renewed = length-set crates k new

  -- another crate is what it was
  pub other_crate : (j : ℕ) → j ≢ k → crate_in (with_config crates k config) j ≡ crate_in crates j
  other_crate j apart = get_or-set_other crates k j new no_crate apart

  pub other_config : (c : Crate) → c.0 ≢ k → config_in (with_config crates k config) c ≡ config_in crates c
  other_config c apart = ap (option_map (λ (v : CrateValue). v.config)) (get_other crates k c.0 new apart)

  -- the crate has the data
  pub own_crate : k < length crates → crate_in (with_config crates k config) k ≡ new
  own_crate within = get_or-set_same crates k new no_crate within

  pub own_config : k < length crates → config_in (with_config crates k config) (record { 0 = k }) ≡ Some config
  own_config within = ap (option_map (λ (v : CrateValue). v.config)) (get_own crates k new within)

  -- each crate has the root and the number of the file that it had
  pub root_stays : k < length crates → (j : ℕ) → (crate_in (with_config crates k config) j).own ≡ (crate_in crates j).own
  root_stays within j = on_same j k
      (λ same. subst (λ (n : ℕ). (crate_in (with_config crates k config) n).own ≡ (crate_in crates n).own) (sym same)
      (ap (λ (c : CrateValue). c.own) (own_crate within)))
      (λ apart. ap (λ (c : CrateValue). c.own) (other_crate j apart))

  pub file_stays : k < length crates → (j : ℕ) → (crate_in (with_config crates k config) j).file ≡ (crate_in crates j).file
  file_stays within j = on_same j k
      (λ same. subst (λ (n : ℕ). (crate_in (with_config crates k config) n).file ≡ (crate_in crates n).file) (sym same)
      (ap (λ (c : CrateValue). c.file) (own_crate within)))
      (λ apart. ap (λ (c : CrateValue). c.file) (other_crate j apart))

  -- where it was handed in so before, the crates are what they were
  pub same_crates : config ≡ (crate_in crates k).config → with_config crates k config ≡ crates
  same_crates same = ap (λ (c : ConfigValue). slice_set crates k (record (crate_in crates k) { config = c })) same ∙ set-get_or crates k no_crate

-- what a crate that is there was handed in with
pub config_there : (crates : List CrateValue) (k : ℕ) → k < length crates → config_in crates (record { 0 = k }) ≡ Some (crate_in crates k).config
config_there crates k within = ap (option_map (λ (v : CrateValue). v.config)) (get_there crates k no_crate within)

-- the roots of all
pub roots_stay : (crates : List CrateValue) (k : ℕ) (config : ConfigValue) → map (λ (c : CrateValue). c.own) (with_config crates k config)
    ≡ map (λ (c : CrateValue). c.own) crates
roots_stay [] k config = refl
roots_stay (c ∷ cs) zero config = refl
roots_stay (c ∷ cs) (suc k) config = ap (λ (roots : List CrateRoot). c.own ∷ roots) (roots_stay cs k config)

-- where the data name only crates that come before it, so does each crate
pub named_below : (crates : List CrateValue) (k : ℕ) (config : ConfigValue) → k < length crates
    → ((d : Crate) → Contains (map (λ (d : Dependency). d.krate) config.dependencies) d → d.0 < k)
    → ((j : ℕ) (d : Crate) → Contains (named_in crates j) d → d.0 < j) → (j : ℕ) (d : Crate) → Contains (named_in (with_config crates k config) j) d → d.0 < j
named_below crates k config within given below j d among = on_same j k
    (λ same. subst (λ (n : ℕ). d.0 < n) (sym same)
    (given d (subst (λ (o : Option ConfigValue). Contains (map (λ (d : Dependency). d.krate) (dependencies_of o)) d) (own_config crates k config within)
    (subst (λ (n : ℕ). Contains (named_in (with_config crates k config) n) d) same among))))
    (λ apart. below j d (subst (λ (o : Option ConfigValue). Contains (map (λ (d : Dependency). d.krate) (dependencies_of o)) d)
    (other_config crates k config (record { 0 = j }) apart) among))
